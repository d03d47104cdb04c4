-- The law of capabilities: each operation is handled as the caps of its session and the stored handlers say.
use Rattle.std.specs.Prelude.{ℕ, ◌≡◌, Bool, true, false, List, []}
use Rattle.cx_base.specs.declared.kinds.Access.{Access}
use Rattle.cx_base.specs.declared.operations.Operation.{Operation}
use Rattle.cx_caps.specs.Grammar.{CapAllows}
use Rattle.cx_journal.specs.Behind.{EachBehind}
use Rattle.cx_journal.specs.Sessions.{IsHandledIn}
use Rattle.cx_journal.specs.declared.entries.Entry.{Entry}
use Rattle.cx_journal.specs.declared.entries.Entry.TheVariants as entry
use Rattle.cx_journal.specs.declared.entries.Admitted.{Admitted}
use Rattle.cx_journal.specs.declared.entries.Handled.{Handled}
use Rattle.cx_journal.specs.declared.outcomes.Outcome.{Outcome}
use Rattle.cx_journal.specs.declared.outcomes.Outcome.TheVariants as outcome

-- this is the outcome of an operation under these caps, where the kinds that have a handler are those: `denied` exactly where
-- the caps don't allow it, else `no-handler` exactly where its kind has none, else `done`
abbrev pub IsOutcome : (Access → Bool) → List ℕ → Operation → Outcome → Type 0
IsOutcome has_handler caps ask outcome.Denied = CapAllows caps ask → ⊥
IsOutcome has_handler caps ask outcome.NoHandler = CapAllows caps ask × (has_handler ask.access ≡ false)
IsOutcome has_handler caps ask outcome.Done = CapAllows caps ask × (has_handler ask.access ≡ true)

-- the operation was handled in a session, and its outcome is the one under the caps of that session
pub record Enforces (has_handler : Access → Bool) (earlier : List Entry) (handled : Handled) : Type 0 where
  pub session : Admitted
  pub handled_in : IsHandledIn earlier handled session
  pub outcome : IsOutcome has_handler session.caps handled.operation handled.outcome

-- where the entry handles an operation, its outcome is that one
abbrev pub IsEnforcedBy : (Access → Bool) → List Entry → Entry → Type 0
IsEnforcedBy has_handler earlier (entry.Handled handled) = Enforces has_handler earlier handled
IsEnforcedBy has_handler earlier _ = Unit {0}

-- each handled operation of the journal has the outcome that the caps of its session and the handlers give it
abbrev pub IsEnforced : (Access → Bool) → List Entry → Type 0
IsEnforced has_handler entries = EachBehind (IsEnforcedBy has_handler) [] entries
