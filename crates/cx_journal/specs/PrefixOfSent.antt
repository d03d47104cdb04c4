-- The law of order: what is handled under a cookie for an entity is what that entity sent under it, from the first on, in
-- order, nothing twice and nothing left out.
use Rattle.std.specs.Prelude.{ℕ, ◌≡◌, ◌==◌, ◌&&◌, false, if◌then◌else◌, List, [], ◌∷◌, ◌++◌, Option, Some, None}
use Rattle.std.specs.List.{filter_map, cons_option}
use Rattle.std.specs.Option.{option_map_or}
use Rattle.cx_base.specs.Names.{Name, same_name}
use Rattle.cx_base.specs.declared.operations.Operation.{Operation}
use Rattle.cx_journal.specs.Leaks.{IsUnleaked}
use Rattle.cx_journal.specs.Sessions.{session_at}
use Rattle.cx_journal.specs.declared.entries.Entry.{Entry}
use Rattle.cx_journal.specs.declared.entries.Entry.TheVariants as entry

-- the seq and the operation that an entry says this client sent under this cookie
abbrev pub sent_under : ℕ → Name → Entry → Option (ℕ × Operation)
sent_under cookie client (entry.Sent s) =
    if (s.cookie == cookie) && same_name s.client client then Some (s.seq, s.operation) else None
sent_under cookie client _ = None

-- the seq and the operation that an entry behind these says were handled under this cookie, in a session of this entity
abbrev pub handled_under : ℕ → Name → List Entry → Entry → Option (ℕ × Operation)
handled_under cookie entity earlier (entry.Handled h) =
    if (h.cookie == cookie) && option_map_or (λ session. same_name session.entity entity) (session_at earlier h) false
    then Some (h.seq, h.operation) else None
handled_under cookie entity earlier _ = None

-- all that these entries, behind the earlier ones, say was handled so, in order
abbrev pub all_handled_under : ℕ → Name → List Entry → List Entry → List (ℕ × Operation)
all_handled_under cookie entity earlier [] = []
all_handled_under cookie entity earlier (e ∷ es) =
    cons_option (handled_under cookie entity earlier e) (all_handled_under cookie entity (earlier ++ e ∷ []) es)

-- the first list is a front of the second
abbrev pub IsPrefix : {X : Type 0} → List X → List X → Type 0
IsPrefix {X} front whole = (rest : List X) × (whole ≡ front ++ rest)

-- At each place of the journal, for each cookie and each entity that didn't leak: what was handled up to there under the cookie
-- for the entity is a front of what the entity sent up to there under it.
abbrev pub IsPrefixOfSent : List Entry → Type 0
IsPrefixOfSent entries =
    (before after : List Entry) → entries ≡ before ++ after → (cookie : ℕ) (entity : Name) → IsUnleaked entries entity
    → IsPrefix (all_handled_under cookie entity [] before) (filter_map (sent_under cookie entity) before)
