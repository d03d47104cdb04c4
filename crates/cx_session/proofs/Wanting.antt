-- No call is answered by want of memory.
use Rattle.std.proofs.Common.{ℕ, ◌≡◌, ◌-◌, ◌^◌, ◌==◌, Bool, true, false, nat_le, nat_lt, Option, Some, None, Result, Ok, Err, refl, length}
use Rattle.cx_base.specs.Names.{Name}
use Rattle.cx_session.specs.declared.session.Session.{Session}
use Rattle.cx_session.specs.declared.call.BookCall.TheVariants.{Admit, Resume, Check, Take, End}
use Rattle.cx_session.specs.declared.call.BookReply.TheVariants.{OutOfMemory}
use Rattle.cx_session.specs.declared.faults.TakeRefusal.{TakeRefusal}
use Rattle.cx_session.specs.declared.faults.TakeRefusal.TheVariants as message
use Rattle.cx_session.specs.Book.{with_client_cookie, with_cookies, admission, same_owner, resumption, take_reply}
use Rattle.cx_session.specs.Answers.{admission_reply, resumption_reply, message_reply}
use Rattle.cx_session.specs.Lawful.{NeverWants}

message_wants : (r : Result (Unit {0}) TakeRefusal) → message_reply r ≡ OutOfMemory → ⊥
message_wants (Ok fine) is = cc
message_wants (Err (message.Stale epoch)) is = cc
message_wants (Err (message.Repeat last)) is = cc
message_wants (Err (message.Gap expected)) is = cc

module _ {O : Type 0} where
  admission_wants : (holder : Option (Session O)) (count next : ℕ) (full spent : Bool) → nat_le 4096 count ≡ full → (next == 2 ^ 64 - 1) ≡ spent → admission_reply (admission holder count next) ≡ OutOfMemory → ⊥
  admission_wants (Some s) count next full spent a b is = cc
  admission_wants None count next true spent a b is = let bad = rw a at is in cc
  admission_wants None count next false true a b is = let bad = rw (a, b) at is in cc
  admission_wants None count next false false a b is = let bad = rw (a, b) at is in cc

  module _ (entity_of : O → Name) (gid_of : O → ℕ) where
    own_wants : (s : Session O) (owner : O) (global connect : ℕ) (a b d e : Bool) → same_owner entity_of gid_of s.owner owner ≡ a → nat_le connect s.connect_seq ≡ b → nat_lt global s.global_seq ≡ d → (s.epoch == 2 ^ 64 - 1) ≡ e → resumption_reply (resumption entity_of gid_of (Some s) owner global connect) ≡ OutOfMemory → ⊥
    own_wants s owner global connect false b d e wa wb wd we is = let bad = rw wa at is in cc
    own_wants s owner global connect true true d e wa wb wd we is = let bad = rw (wa, wb) at is in cc
    own_wants s owner global connect true false true e wa wb wd we is = let bad = rw (wa, wb, wd) at is in cc
    own_wants s owner global connect true false false true wa wb wd we is = let bad = rw (wa, wb, wd, we) at is in cc
    own_wants s owner global connect true false false false wa wb wd we is = let bad = rw (wa, wb, wd, we) at is in cc

    resumption_wants : (holder : Option (Session O)) (owner : O) (global connect : ℕ) → resumption_reply (resumption entity_of gid_of holder owner global connect) ≡ OutOfMemory → ⊥
    resumption_wants None owner global connect is = cc
    resumption_wants (Some s) owner global connect is =
        own_wants s owner global connect (same_owner entity_of gid_of s.owner owner) (nat_le connect s.connect_seq) (nat_lt global s.global_seq) (s.epoch == 2 ^ 64 - 1) refl refl refl refl is

    pub never_wants : NeverWants entity_of gid_of
    never_wants book (Admit owner client server global lossy) is =
        admission_wants (with_client_cookie client book.live) (length book.live) book.next (nat_le 4096 (length book.live)) (book.next == 2 ^ 64 - 1) refl refl is
    never_wants book (Resume owner client server global connect) is =
        resumption_wants (with_cookies client server book.live) owner global connect is
    never_wants book (Check number epoch seq) is = message_wants (take_reply book number epoch seq) is
    never_wants book (Take number epoch seq) is = message_wants (take_reply book number epoch seq) is
    never_wants book (End number) is = cc
