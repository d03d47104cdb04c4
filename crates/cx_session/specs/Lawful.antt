-- Laws of a book, over any row of calls.
use Rattle.std.specs.Prelude.{ℕ, ◌≡◌, ◌≢◌, ◌+◌, ◌≤◌, Bool, List, [], ◌∷◌, ◌++◌, Some, Ok}
use Rattle.cx_base.specs.Names.{Name}
use Rattle.cx_session.specs.declared.session.Session.{Session}
use Rattle.cx_session.specs.declared.call.BookCall.{BookCall}
use Rattle.cx_session.specs.declared.call.BookReply.{BookReply}
use Rattle.cx_session.specs.declared.call.BookReply.TheVariants.{Admitted, OutOfMemory}
use Rattle.cx_session.specs.Book.{Book, with_number, with_cookies, take_reply, taken, raised, resume_reply}
use Rattle.cx_session.specs.Answers.{replied, after}

-- the number that a reply gives, if it gives one
abbrev pub given_by : BookReply → List ℕ
given_by (Admitted number epoch) = number ∷ []
given_by _ = []

-- numbers that rise, from this one on
abbrev pub AreRisingFrom : ℕ → List ℕ → Type 0
AreRisingFrom low [] = Unit {0}
AreRisingFrom low (n ∷ ns) = (low ≤ n) × AreRisingFrom (n + 1) ns

module _ {O : Type 0} (entity_of : O → Name) (gid_of : O → ℕ) where
  -- the numbers that a row of calls is given
  abbrev pub numbers_given : Book O → List (BookCall O) → List ℕ
  numbers_given book [] = []
  numbers_given book (call ∷ calls) = given_by (replied entity_of gid_of book call) ++ numbers_given (after entity_of gid_of book call) calls

  -- no number is given twice: they rise
  abbrev pub GivesNumbersOnce : Type 0
  GivesNumbersOnce = (book : Book O) (calls : List (BookCall O)) → AreRisingFrom book.next (numbers_given book calls)

  -- no call is answered by want of memory
  abbrev pub NeverWants : Type 0
  NeverWants = (book : Book O) (call : BookCall O) → replied entity_of gid_of book call ≢ OutOfMemory

  -- no call takes a session's last message back
  abbrev pub NeverFalls : Type 0
  NeverFalls =
      (book : Book O) (call : BookCall O) (number : ℕ) (s t : Session O) → with_number number book.live ≡ Some s
      → with_number number (after entity_of gid_of book call).live ≡ Some t → s.last ≤ t.last

  -- a message that is taken is the one behind the last
  abbrev pub TakesTheNext : Type 0
  TakesTheNext =
      (book : Book O) (number epoch seq : ℕ) → take_reply book number epoch seq ≡ Ok tt
      → (s : Session O) × (with_number number book.live ≡ Some s) × (s.epoch ≡ epoch) × (seq ≡ s.last + 1)
      × (with_number number (taken book number seq).live ≡ Some (raised seq s))

  -- a session that is resumed stays its entity's, under its global id
  abbrev pub KeepsOwner : Type 0
  KeepsOwner =
      (book : Book O) (owner : O) (client server global connect : ℕ) (given : ℕ × ℕ × ℕ × Bool)
      → resume_reply entity_of gid_of book owner client server global connect ≡ Ok given
      → (s : Session O) × (with_cookies client server book.live ≡ Some s) × (given.0 ≡ s.number)
      × (entity_of owner ≡ entity_of s.owner) × (gid_of owner ≡ gid_of s.owner)
