-- The calls by name and the calls as values.
use Rattle.std.specs.Prelude.{ℕ, Bool, Option, Some, None, Result, Ok, Err}
use Rattle.cx_session.specs.declared.call.BookCall.{BookCall}
use Rattle.cx_session.specs.declared.call.BookCall.TheVariants.{Admit, Resume}
use Rattle.cx_session.specs.declared.call.BookReply.{BookReply}
use Rattle.cx_session.specs.declared.call.BookReply.TheVariants.{Admitted, Resumed}
use Rattle.cx_session.specs.declared.faults.AdmitRefusal.{AdmitRefusal}
use Rattle.cx_session.specs.declared.faults.ResumeRefusal.{ResumeRefusal}
use Rattle.cx_session.specs.Answers.{refused_admission, refused_resumption}

module _ {O : Type 0} where
  -- the answers of an admission and of a resumption, as replies
  abbrev pub admission_as_reply : Result (ℕ × ℕ) (AdmitRefusal O) → BookReply
  admission_as_reply (Ok given) = Admitted given.0 given.1
  admission_as_reply (Err refusal) = refused_admission refusal.fault

  abbrev pub resumption_as_reply : Result (ℕ × ℕ × ℕ × Bool) (ResumeRefusal O) → BookReply
  resumption_as_reply (Ok given) = Resumed given.0 given.1 given.2 given.3
  resumption_as_reply (Err refusal) = refused_resumption refusal.fault

  -- the owner in an admission or a resumption
  abbrev pub owner_in : BookCall O → Option O
  owner_in (Admit owner client server global lossy) = Some owner
  owner_in (Resume owner client server global connect) = Some owner
  owner_in _ = None
