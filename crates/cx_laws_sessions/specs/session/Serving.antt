-- For which kinds of operation the daemons of a run have handlers.
use Rattle.std.specs.Prelude.{Bool}
use Rattle.cx_base.specs.declared.kinds.Access.{Access}
use Rattle.cx_desk.specs.Handlers.{Handlers, has_handler}

abbrev pub serves : Handlers → Access → Bool
serves handlers kind = has_handler kind handlers
