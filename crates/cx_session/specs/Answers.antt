-- The calls of a book as values: the reply to each, the book behind it, and the memory that it takes.
use Rattle.std.specs.Prelude.{ℕ, ◌≡◌, Bool, Some, Result, Ok, Err, is_some, IsOk, ◌⊎◌}
use Rattle.cx_base.specs.Names.{Name}
use Rattle.cx_session.specs.declared.call.BookCall.{BookCall}
use Rattle.cx_session.specs.declared.call.BookCall.TheVariants.{Admit, Resume, Check, Take, End}
use Rattle.cx_session.specs.declared.call.BookReply.{BookReply}
use Rattle.cx_session.specs.declared.call.BookReply.TheVariants as reply
use Rattle.cx_session.specs.declared.call.BookFault.TheVariants as fault
use Rattle.cx_session.specs.declared.faults.AdmitFault.{AdmitFault}
use Rattle.cx_session.specs.declared.faults.AdmitFault.TheVariants as admit
use Rattle.cx_session.specs.declared.faults.ResumeFault.{ResumeFault}
use Rattle.cx_session.specs.declared.faults.ResumeFault.TheVariants as resume
use Rattle.cx_session.specs.declared.faults.TakeRefusal.{TakeRefusal}
use Rattle.cx_session.specs.declared.faults.TakeRefusal.TheVariants as message
use Rattle.cx_session.specs.Book.{Book, KeptBook, with_number, admit_reply, admitted, resume_reply, resumed, take_reply, taken, ended}

-- a refusal of each kind as a reply
abbrev pub refused_admission : AdmitFault → BookReply
refused_admission (admit.CookieInUse number) = reply.Refused (fault.CookieInUse number)
refused_admission (admit.BookFull limit) = reply.Refused (fault.BookFull limit)
refused_admission admit.Spent = reply.Refused fault.Spent
refused_admission admit.OutOfMemory = reply.OutOfMemory

abbrev pub refused_resumption : ResumeFault → BookReply
refused_resumption resume.Unknown = reply.Refused fault.Unknown
refused_resumption (resume.OwnerDiffers entity gid) = reply.Refused (fault.OwnerDiffers entity gid)
refused_resumption (resume.StaleConnect kept) = reply.Refused (fault.StaleConnect kept)
refused_resumption (resume.StaleGlobal kept) = reply.Refused (fault.StaleGlobal kept)
refused_resumption resume.Spent = reply.Refused fault.Spent
refused_resumption resume.OutOfMemory = reply.OutOfMemory

abbrev pub refused_message : TakeRefusal → BookReply
refused_message (message.Stale epoch) = reply.Refused (fault.Stale epoch)
refused_message (message.Repeat last) = reply.Refused (fault.Repeat last)
refused_message (message.Gap expected) = reply.Refused (fault.Gap expected)

-- the answer of each call as a reply
abbrev pub admission_reply : Result (ℕ × ℕ) AdmitFault → BookReply
admission_reply (Ok given) = reply.Admitted given.0 given.1
admission_reply (Err fault) = refused_admission fault

abbrev pub resumption_reply : Result (ℕ × ℕ × ℕ × Bool) ResumeFault → BookReply
resumption_reply (Ok given) = reply.Resumed given.0 given.1 given.2 given.3
resumption_reply (Err fault) = refused_resumption fault

abbrev pub message_reply : Result (Unit {0}) TakeRefusal → BookReply
message_reply (Ok _) = reply.Fine
message_reply (Err refusal) = refused_message refusal

-- a reply that names an owner, whose name is copied into it
abbrev pub NamesOwner : BookReply → Type 0
NamesOwner (reply.Refused (fault.OwnerDiffers entity gid)) = Unit {0}
NamesOwner _ = ⊥

-- the given reply is the expected one, or want of memory in place of one that names an owner
abbrev pub IsReply : BookReply → BookReply → Type 0
IsReply expected given = (given ≡ expected) ⊎ (NamesOwner expected × (given ≡ reply.OutOfMemory))

-- why a resumption was refused: for the expected cause, or for want of memory in place of one that names an owner
abbrev pub IsResumeCause : Result (ℕ × ℕ × ℕ × Bool) ResumeFault → ResumeFault → Type 0
IsResumeCause expected fault = (expected ≡ Err fault) ⊎ (NamesOwner (resumption_reply expected) × (fault ≡ resume.OutOfMemory))

module _ {O : Type 0} where
  -- the book behind an answer: another one where it is no refusal
  abbrev pub behind : {X E : Type 0} → Result X E → (X → Book O) → Book O → Book O
  behind (Ok given) new old = new given
  behind (Err _) new old = old

  -- Memory stands ready for a call: of the client cookie of an admission that is not refused. No other call takes any.
  abbrev pub IsReserved : KeptBook O → BookCall O → Type 0
  IsReserved kept (Admit owner client server global lossy) = IsOk (admit_reply kept.book client) → kept.room ≡ Some client
  IsReserved kept _ = Unit {0}

  module _ (entity_of : O → Name) (gid_of : O → ℕ) where
    -- what each call is answered
    abbrev pub replied : Book O → BookCall O → BookReply
    replied book (Admit owner client server global lossy) = admission_reply (admit_reply book client)
    replied book (Resume owner client server global connect) =
        resumption_reply (resume_reply entity_of gid_of book owner client server global connect)
    replied book (Check number epoch seq) = message_reply (take_reply book number epoch seq)
    replied book (Take number epoch seq) = message_reply (take_reply book number epoch seq)
    replied book (End number) = reply.Ended (is_some (with_number number book.live))

    -- the book behind each call
    abbrev pub after : Book O → BookCall O → Book O
    after book (Admit owner client server global lossy) =
        behind (admit_reply book client) (λ _. admitted book owner client server global lossy) book
    after book (Resume owner client server global connect) =
        behind (resume_reply entity_of gid_of book owner client server global connect) (λ given. resumed book given.0 owner global connect) book
    after book (Check number epoch seq) = book
    after book (Take number epoch seq) = behind (take_reply book number epoch seq) (λ _. taken book number seq) book
    after book (End number) = ended book number
