-- Calls that make an entry, and answers of two kinds.
use Rattle.std.proofs.Common.{◌≡◌, ℕ, Result, Ok, Err}
use Rattle.cx_base.specs.Names.{Name}
use Rattle.cx_session.specs.declared.call.BookCall.{BookCall}
use Rattle.cx_session.specs.declared.call.BookCall.TheVariants.{Admit, Resume, Check, Take, End}
use Rattle.cx_session.specs.declared.call.BookReply.{BookReply}
use Rattle.cx_session.specs.declared.call.BookReply.TheVariants.{OutOfMemory}
use Rattle.cx_session.specs.declared.faults.TakeRefusal.{TakeRefusal}
use Rattle.cx_session.specs.declared.faults.TakeRefusal.TheVariants.{Stale, Repeat, Gap}
use Rattle.cx_session.specs.Answers.{message_reply}
use Rattle.cx_hall.specs.History.{MakesEntry}
use Rattle.cx_hall.specs.Passes.{PassState, Made, Answered}

pub message_is_no_want : (answer : Result (Unit {0}) TakeRefusal) → message_reply answer ≡ OutOfMemory → ⊥
message_is_no_want (Ok _) is = cc is
message_is_no_want (Err (Stale epoch)) is = cc is
message_is_no_want (Err (Repeat last)) is = cc is
message_is_no_want (Err (Gap expected)) is = cc is

module _ {O : Type 0} (entity_of : O → Name) (gid_of : O → ℕ) where
  pub answered_by_entry : (p q : PassState O) (call : BookCall O) (reply : BookReply) (place : ℕ) → MakesEntry call → Made entity_of gid_of p call reply place q → Answered entity_of gid_of p call reply place q
  answered_by_entry p q (Admit owner client server global lossy) reply place makes made = made
  answered_by_entry p q (Resume owner client server global connect) reply place makes made = made
  answered_by_entry p q (Check number epoch seq) reply place makes made = absurd makes
  answered_by_entry p q (Take number epoch seq) reply place makes made = made
  answered_by_entry p q (End number) reply place makes made = made
