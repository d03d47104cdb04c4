-- What contracts see of a desk.
use Rattle.std.specs.Prelude.{is_some}
use Rattle.cx_desk.specs.Handlers.{Handlers}
use Rattle.cx_desk.specs.declared.desk.Desk.{Desk}

-- the kinds for which the desk has a handler
abbrev pub handlers_of : {X : Type 0} {F : X → Type 0} {g : _} → Desk X F g → Handlers
handlers_of desk = record { read = is_some desk.read; write = is_some desk.write; exec = is_some desk.exec }
