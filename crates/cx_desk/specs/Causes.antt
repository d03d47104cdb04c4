-- Why a permitted operation was not served.
use Rattle.std.specs.Prelude.{◌≡◌, false}
use Rattle.cx_base.specs.declared.kinds.Access.{Access}
use Rattle.cx_desk.specs.declared.refusals.ServeRefusal.{ServeRefusal}
use Rattle.cx_desk.specs.declared.refusals.ServeRefusal.TheVariants.{NoHandler, OutOfMemory}
use Rattle.cx_desk.specs.Handlers.{Handlers, has_handler}

-- no handler is set for operations of this kind; want of memory is free
abbrev pub IsServeCause : Access → Handlers → ServeRefusal → Type 0
IsServeCause kind handlers (NoHandler refused) = (refused ≡ kind) × (has_handler kind handlers ≡ false)
IsServeCause kind handlers OutOfMemory = Unit {0}
