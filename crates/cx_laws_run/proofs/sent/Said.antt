-- What a journal says of sessions: under a cookie an entity is admitted once, and what is handled in a session of an entity was sent by it under the session's cookie.
use Rattle.std.specs.Prelude.{◌≡◌, List, Some, Contains}
use Rattle.cx_base.specs.Names.{Name}
use Rattle.cx_journal.specs.Sessions.{session_at}
use Rattle.cx_journal.specs.declared.entries.Admitted.{Admitted}
use Rattle.cx_journal.specs.declared.entries.Entry.{Entry}
use Rattle.cx_journal.specs.declared.entries.Entry.TheVariants as entry

-- Of entities that are free: where the entry admits a session for one, no earlier entry admits one for it under the same cookie; and where it handles an operation in
-- a session of one, the entity sent this operation before, under this cookie and with this seq.
abbrev pub WasSaidBy : (Name → Type 0) → List Entry → Entry → Type 0
WasSaidBy Free earlier (entry.Admitted a) = Free a.entity → (b : Admitted) → Contains earlier (entry.Admitted b) → b.entity ≡ a.entity → b.cookie ≡ a.cookie → ⊥
WasSaidBy Free earlier (entry.Handled h) =
    (a : Admitted) → session_at earlier h ≡ Some a → Free a.entity
    → (daemon : Name) × Contains earlier (entry.Sent (record { client = a.entity; daemon = daemon; cookie = h.cookie; seq = h.seq; operation = h.operation }))
WasSaidBy Free earlier _ = Unit {0}
