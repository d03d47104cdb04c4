-- The sessions that a daemon keeps ("msgr2 protocol": client and server cookie, global_seq, connect_seq, and the replies
-- to a client that reconnects): the next number, and the list of live sessions in the order of their numbers. Each reply
-- is a distinction of cases on that list.
use Rattle.std.specs.Prelude.{ℕ, ◌+◌, ◌<◌, ◌≤◌, ◌^◌, ◌-◌, ◌==◌, ◌&&◌, Bool, not, List, [], ◌∷◌, ◌++◌, length, find, filter, map, nat_lt, nat_le, if◌then◌else◌, Option, Some, None, Result, Ok, Err}
use Rattle.cx_base.specs.Names.{Name, same_name}
use Rattle.cx_session.specs.declared.session.Session.{Session}
use Rattle.cx_session.specs.declared.faults.AdmitFault.{AdmitFault}
use Rattle.cx_session.specs.declared.faults.AdmitFault.TheVariants as admit
use Rattle.cx_session.specs.declared.faults.ResumeFault.{ResumeFault}
use Rattle.cx_session.specs.declared.faults.ResumeFault.TheVariants as resume
use Rattle.cx_session.specs.declared.faults.TakeRefusal.{TakeRefusal}
use Rattle.cx_session.specs.declared.faults.TakeRefusal.TheVariants.{Stale, Repeat, Gap}

-- the number that the next session gets, and the live sessions in the order of their numbers
pub record Book (O : Type 0) : Type 0 where
  pub next : ℕ
  pub live : List (Session O)

-- a book as it is kept, with the client cookie for whose admission memory stands ready, if for one's; no reply depends on it
pub record KeptBook (O : Type 0) : Type 0 where
  pub book : Book O
  pub room : Option ℕ

module _ {O : Type 0} where
  -- no session lives, and none ever did
  abbrev pub empty_book : Book O
  empty_book = record { next = 1; live = [] }

  -- the live session with this number
  abbrev pub with_number : ℕ → List (Session O) → Option (Session O)
  with_number number live = find (λ s. s.number == number) live

  -- the live session with this client cookie
  abbrev pub with_client_cookie : ℕ → List (Session O) → Option (Session O)
  with_client_cookie cookie live = find (λ s. s.client_cookie == cookie) live

  -- the live session with these two cookies
  abbrev pub with_cookies : ℕ → ℕ → List (Session O) → Option (Session O)
  with_cookies client server live = find (λ s. (s.client_cookie == client) && (s.server_cookie == server)) live

  -- the numbers of the sessions rise from `low` on, and stay below the next one
  abbrev pub IsInOrder : ℕ → ℕ → List (Session O) → Type 0
  IsInOrder low next [] = Unit {0}
  IsInOrder low next (s ∷ live) = (low ≤ s.number) × (s.number < next) × IsInOrder (s.number + 1) next live

  -- What an admission answers: the number and epoch 1. Of these causes the first that holds refuses it: the client cookie
  -- is a live session's, 4,096 sessions live, the last number was given.
  abbrev pub admission : Option (Session O) → ℕ → ℕ → Result (ℕ × ℕ) AdmitFault
  admission (Some s) count next = Err (admit.CookieInUse s.number)
  admission None count next =
      if nat_le 4096 count
      then Err (admit.BookFull 4096)
      else (if next == 2 ^ 64 - 1 then Err admit.Spent else Ok (next, 1))

  abbrev pub admit_reply : Book O → ℕ → Result (ℕ × ℕ) AdmitFault
  admit_reply book client = admission (with_client_cookie client book.live) (length book.live) book.next

  -- a session as it is admitted
  abbrev pub opened : ℕ → O → ℕ → ℕ → ℕ → Bool → Session O
  opened number owner client server global lossy =
      record { number = number; epoch = 1; owner = owner; client_cookie = client; server_cookie = server; global_seq = global; connect_seq = 0; last = 0; lossy = lossy }

  -- the book behind an admission
  abbrev pub admitted : Book O → O → ℕ → ℕ → ℕ → Bool → Book O
  admitted book owner client server global lossy =
      record { next = book.next + 1; live = book.live ++ opened book.next owner client server global lossy ∷ [] }

  -- What a message with this epoch and sequence number is answered: it is refused where the session does not live or has
  -- another epoch, where it was taken before, and where messages are missing before it.
  abbrev pub taking : Option (Session O) → ℕ → ℕ → Result (Unit {0}) TakeRefusal
  taking None epoch seq = Err (Stale 0)
  taking (Some s) epoch seq =
      if not (s.epoch == epoch)
      then Err (Stale s.epoch)
      else (if nat_le seq s.last then Err (Repeat s.last) else (if nat_lt (s.last + 1) seq then Err (Gap (s.last + 1)) else Ok tt))

  abbrev pub take_reply : Book O → ℕ → ℕ → ℕ → Result (Unit {0}) TakeRefusal
  take_reply book number epoch seq = taking (with_number number book.live) epoch seq

  -- the sessions, with the change made to the one with this number
  abbrev pub changed : ℕ → (Session O → Session O) → List (Session O) → List (Session O)
  changed number change live = map (λ s. if s.number == number then change s else s) live

  -- a session whose last message is this one
  abbrev pub raised : ℕ → Session O → Session O
  raised seq s = record s { last = seq }

  -- the book behind a message that was taken
  abbrev pub taken : Book O → ℕ → ℕ → Book O
  taken book number seq = record book { live = changed number (raised seq) book.live }

  -- the book behind the end of a session
  abbrev pub ended : Book O → ℕ → Book O
  ended book number = record book { live = filter (λ s. not (s.number == number)) book.live }

  -- a session as its owner resumes it
  abbrev pub renewed : O → ℕ → ℕ → Session O → Session O
  renewed owner global connect s = record s { epoch = s.epoch + 1; owner = owner; global_seq = global; connect_seq = connect }

  -- the book behind the resumption of the session with this number
  abbrev pub resumed : Book O → ℕ → O → ℕ → ℕ → Book O
  resumed book number owner global connect =
      record book { live = changed number (renewed owner global connect) book.live }

  -- of an owner the entity and the global id count
  module _ (entity_of : O → Name) (gid_of : O → ℕ) where
    -- whether two owners are one
    abbrev pub same_owner : O → O → Bool
    same_owner a b = same_name (entity_of a) (entity_of b) && (gid_of a == gid_of b)

    -- What a resumption answers: the number, the raised epoch, the last message taken, and whether the session is lossy.
    -- Of these causes the first that holds refuses it: no live session has both cookies, the session is another owner's,
    -- the count of reconnections is not above the kept one, the count of connections is below the kept one, the session
    -- has its last epoch.
    abbrev pub resumption : Option (Session O) → O → ℕ → ℕ → Result (ℕ × ℕ × ℕ × Bool) ResumeFault
    resumption None owner global connect = Err resume.Unknown
    resumption (Some s) owner global connect =
        if not (same_owner s.owner owner)
        then Err (resume.OwnerDiffers (entity_of s.owner) (gid_of s.owner))
        else (if nat_le connect s.connect_seq
        then Err (resume.StaleConnect s.connect_seq)
        else (if nat_lt global s.global_seq
        then Err (resume.StaleGlobal s.global_seq)
        else (if s.epoch == 2 ^ 64 - 1 then Err resume.Spent else Ok (s.number, s.epoch + 1, s.last, s.lossy))))

    abbrev pub resume_reply : Book O → O → ℕ → ℕ → ℕ → ℕ → Result (ℕ × ℕ × ℕ × Bool) ResumeFault
    resume_reply book owner client server global connect =
        resumption (with_cookies client server book.live) owner global connect
