-- The history of a hall: the calls that were made, in their order, each with its answer and with the number of the pass that
-- made it.
use Rattle.std.specs.Prelude.{ℕ, ◌≡◌, List, [], ◌∷◌}
use Rattle.cx_base.specs.Names.{Name}
use Rattle.cx_session.specs.declared.call.BookCall.{BookCall}
use Rattle.cx_session.specs.declared.call.BookCall.TheVariants.{Check}
use Rattle.cx_session.specs.declared.call.BookReply.{BookReply}
use Rattle.cx_session.specs.Book.{Book, empty_book}
use Rattle.cx_session.specs.Answers.{replied, after}
use Rattle.cx_hall.specs.declared.entry.HallEntry.{HallEntry}

module _ {O : Type 0} where
  -- every call makes an entry but a check
  abbrev pub MakesEntry : BookCall O → Type 0
  MakesEntry (Check number epoch seq) = ⊥
  MakesEntry _ = Unit {0}

  abbrev pub entry : ℕ → BookCall O → BookReply → HallEntry O
  entry by call reply = record { by = by; call = call; reply = reply }

  module _ (entity_of : O → Name) (gid_of : O → ℕ) where
    -- the book behind these calls
    abbrev pub behind_entries : Book O → List (HallEntry O) → Book O
    behind_entries book [] = book
    behind_entries book (e ∷ es) = behind_entries (after entity_of gid_of book e.call) es

    -- each answer is the book's, behind the calls before it
    abbrev pub AreAnswered : Book O → List (HallEntry O) → Type 0
    AreAnswered book [] = Unit {0}
    AreAnswered book (e ∷ es) =
        MakesEntry e.call × (e.reply ≡ replied entity_of gid_of book e.call) × AreAnswered (after entity_of gid_of book e.call) es

    -- the calls of one book that began without sessions, each with its answer
    abbrev pub HallHistory : List (HallEntry O) → Type 0
    HallHistory log = AreAnswered empty_book log

    -- the book behind a history
    abbrev pub book_of : List (HallEntry O) → Book O
    book_of log = behind_entries empty_book log

    -- what a call is answered behind a history
    abbrev pub reply_behind : List (HallEntry O) → BookCall O → BookReply
    reply_behind log call = replied entity_of gid_of (book_of log) call
