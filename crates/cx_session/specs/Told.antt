-- A book of what its owners tell. Where a book is shared, its history is of plain data: it holds of an owner what `Owner`
-- tells, and is answered and changed as the book is.
use Rattle.std.specs.Prelude.{ℕ, ◌≡◌, List, map}
use Rattle.cx_base.specs.Names.{Name}
use Rattle.cx_session.specs.declared.session.Session.{Session}
use Rattle.cx_session.specs.declared.call.BookCall.{BookCall}
use Rattle.cx_session.specs.declared.call.BookCall.TheVariants.{Admit, Resume, Check, Take, End}
use Rattle.cx_session.specs.declared.call.BookReply.{BookReply}
use Rattle.cx_session.specs.Book.{Book}
use Rattle.cx_session.specs.Answers.{replied, after}

-- what an owner tells
pub record Told : Type 0 where
  pub entity : Name
  pub gid : ℕ
  pub caps : List ℕ
  pub reading : ℕ

module _ {O P : Type 0} (tell : O → P) where
  abbrev pub told_session : Session O → Session P
  told_session s =
      record { number = s.number; epoch = s.epoch; owner = tell s.owner; client_cookie = s.client_cookie; server_cookie = s.server_cookie; global_seq = s.global_seq; connect_seq = s.connect_seq; last = s.last; lossy = s.lossy }

  -- a book, with each owner as it tells
  abbrev pub told_book : Book O → Book P
  told_book book = record { next = book.next; live = map told_session book.live }

  -- a call, with its owner as it tells
  abbrev pub told_call : BookCall O → BookCall P
  told_call (Admit owner client server global lossy) = Admit (tell owner) client server global lossy
  told_call (Resume owner client server global connect) = Resume (tell owner) client server global connect
  told_call (Check number epoch seq) = Check number epoch seq
  told_call (Take number epoch seq) = Take number epoch seq
  told_call (End number) = End number

-- the reply to a call of plain data, and the book behind it
abbrev pub told_reply : Book Told → BookCall Told → BookReply
told_reply = replied (λ t. t.entity) (λ t. t.gid)

abbrev pub told_after : Book Told → BookCall Told → Book Told
told_after = after (λ t. t.entity) (λ t. t.gid)

module _ {O : Type 0} (entity_of : O → Name) (gid_of : O → ℕ) (caps_of : O → List ℕ) (reading_of : O → ℕ) where
  abbrev pub told : O → Told
  told owner = record { entity = entity_of owner; gid = gid_of owner; caps = caps_of owner; reading = reading_of owner }

  -- what a book tells is answered as the book is
  abbrev pub AnswersAsTold : Type 0
  AnswersAsTold =
      (book : Book O) (call : BookCall O) → told_reply (told_book told book) (told_call told call) ≡ replied entity_of gid_of book call

  -- and is changed as the book is
  abbrev pub ChangesAsTold : Type 0
  ChangesAsTold =
      (book : Book O) (call : BookCall O)
      → told_after (told_book told book) (told_call told call) ≡ told_book told (after entity_of gid_of book call)
