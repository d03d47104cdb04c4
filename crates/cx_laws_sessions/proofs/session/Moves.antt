-- What a step of a daemon comes to for its sessions: to nothing, to one that is admitted, resumed or ended, or to none at all. Of its links only what is
-- kept of a session on one counts.
use Rattle.std.proofs.Common.{◌≡◌, ◌⊎◌, ◌+◌, ℕ, List, [], ◌∷◌, Option, Some, None, inl, inr, refl}
use Rattle.std.specs.List.{AllByRecursion}
use Rattle.cx_run.specs.cx_authorize.specs.Daemon.{Authority}
use Rattle.cx_base.specs.Names.{Name}
use Rattle.cx_base.specs.declared.nodes.NodeName.TheVariants as node
use Rattle.cx_desk.specs.Handlers.{Handlers}
use Rattle.cx_journal.specs.declared.entries.Admitted.{Admitted}
use Rattle.cx_journal.specs.declared.entries.Entry.{Entry}
use Rattle.cx_journal.specs.declared.entries.Entry.TheVariants as entry
use Rattle.cx_journal.specs.declared.entries.Handled.{Handled}
use Rattle.cx_run.specs.cx_rules.specs.Acceptor.{Open}
use Rattle.cx_run.specs.cx_rules.specs.Links.{Link}
use Rattle.cx_run.specs.cx_rules_session.specs.DaemonRule.{AsAcceptor, AsConnector, DaemonStage}
use Rattle.cx_run.specs.cx_rules_session.specs.IncomingLinks.{IncomingStage, Served}
use Rattle.cx_run.specs.cx_rules_session.specs.Hosting.{outcome_of}
use Rattle.cx_session.specs.Book.{Book}
use Rattle.cx_session.specs.declared.session.Session.{Session}
use Rattle.cx_run.specs.cx_steps.specs.Onto.{SomeOf}
use Rattle.cx_laws_sessions.proofs.session.Standing.{Leaves}

-- ---- what links keep of sessions

abbrev pub HasServed : IncomingStage → Served → Type 0
HasServed (Open s served) x = served ≡ x
HasServed _ x = ⊥

abbrev pub StageServed : DaemonStage → Served → Type 0
StageServed (AsAcceptor stage) x = HasServed stage x
StageServed (AsConnector stage) x = ⊥

-- one of these links keeps it
abbrev pub LinksServe : List (Link DaemonStage) → Served → Type 0
LinksServe links x = SomeOf (λ (l : Link DaemonStage). StageServed l.stage x) links

-- the link that a row leaves keeps it
abbrev pub LinkServes : Option (Link IncomingStage) → Served → Type 0
LinkServes None x = ⊥
LinkServes (Some l) x = HasServed l.stage x

-- ---- sessions of a book

-- a session is one of before, but for what was taken last
pub record IsSame (old new : Session Authority) : Type 0 where
  pub number : new.number ≡ old.number
  pub epoch : new.epoch ≡ old.epoch
  pub cookie : new.client_cookie ≡ old.client_cookie
  pub owner : new.owner ≡ old.owner

abbrev pub LivesOn : Book Authority → Session Authority → Type 0
LivesOn book new = SomeOf (λ (old : Session Authority). IsSame old new) book.live

-- the next number stays, and each session is one of before
pub record SameBook (book new : Book Authority) : Type 0 where
  pub next : new.next ≡ book.next
  pub lives : AllByRecursion (LivesOn book) new.live

-- the last message that was taken of a session is that of the session of its number before
abbrev pub KeepsLast : Book Authority → Session Authority → Type 0
KeepsLast book new = SomeOf (λ (old : Session Authority). (new.number ≡ old.number) × (new.last ≡ old.last)) book.live

-- the book is as before, also in what was taken last of each session
abbrev pub StillBook : Book Authority → Book Authority → Type 0
StillBook book new = SameBook book new × AllByRecursion (KeepsLast book) new.live

-- it is one of the book's
abbrev pub IsLive : Book Authority → Session Authority → Type 0
IsLive book s = SomeOf (λ (t : Session Authority). t ≡ s) book.live

-- what was admitted or resumed is what is kept of the session
pub record Tells (a : Admitted) (s : Session Authority) : Type 0 where
  pub epoch : a.epoch ≡ s.epoch
  pub cookie : a.cookie ≡ s.client_cookie
  pub entity : a.entity ≡ s.owner.ticket.name
  pub gid : a.gid ≡ s.owner.ticket.gid
  pub caps : a.caps ≡ s.owner.ticket.caps

-- and what is kept of it on its link
pub record IsServedAs (a : Admitted) (x : Served) : Type 0 where
  pub number : x.number ≡ a.session
  pub epoch : x.epoch ≡ a.epoch
  pub cookie : a.cookie ≡ x.cookie
  pub caps : a.caps ≡ x.caps

-- a session is one of before with the number of that one, resumed
pub record IsRenewed (a : Admitted) (new old : Session Authority) : Type 0 where
  pub was : old.number ≡ a.session
  pub number : new.number ≡ old.number
  pub epoch : new.epoch ≡ old.epoch + 1
  pub cookie : new.client_cookie ≡ old.client_cookie
  pub entity : a.entity ≡ new.owner.ticket.name
  pub gid : a.gid ≡ new.owner.ticket.gid
  pub caps : a.caps ≡ new.owner.ticket.caps

-- ---- entries

-- the entry opens, ends and handles nothing, and nothing is sent and answered
abbrev pub IsQuiet : Entry → Type 0
IsQuiet (entry.Admitted a) = ⊥
IsQuiet (entry.Resumed a) = ⊥
IsQuiet (entry.Sent s) = ⊥
IsQuiet (entry.Handled h) = ⊥
IsQuiet (entry.Answered a) = ⊥
IsQuiet (entry.Ended e) = ⊥
IsQuiet (entry.Restarted at) = ⊥
IsQuiet _ = Unit {0}

-- An operation is handled by this daemon as what is kept on a link says, of a session that lives in the book under that number and that epoch.
pub record IsHandledRight (handlers : Handlers) (name : Name) (book : Book Authority) (had : Served → Type 0) (handled : Handled) : Type 0 where
  pub served : Served
  pub had_it : had served
  pub live : Session Authority
  pub lives : IsLive book live
  pub number : live.number ≡ served.number
  pub epoch : live.epoch ≡ served.epoch
  pub daemon : handled.daemon ≡ name
  pub session : handled.session ≡ served.number
  pub epoch_is : handled.epoch ≡ served.epoch
  pub cookie : handled.cookie ≡ served.cookie
  pub outcome : handled.outcome ≡ outcome_of handlers served.caps handled.operation

-- the entry opens and ends nothing, nothing is sent and answered, and what it handles is handled right
abbrev pub IsRight : Handlers → Name → Book Authority → (Served → Type 0) → Entry → Type 0
IsRight handlers name book had (entry.Admitted a) = ⊥
IsRight handlers name book had (entry.Resumed a) = ⊥
IsRight handlers name book had (entry.Sent s) = ⊥
IsRight handlers name book had (entry.Answered a) = ⊥
IsRight handlers name book had (entry.Handled h) = IsHandledRight handlers name book had h
IsRight handlers name book had (entry.Ended e) = ⊥
IsRight handlers name book had (entry.Restarted at) = ⊥
IsRight handlers name book had _ = Unit {0}

pub quiet-right : (handlers : Handlers) (name : Name) (book : Book Authority) (had : Served → Type 0) (e : Entry) → IsQuiet e → IsRight handlers name book had e
quiet-right handlers name book had (entry.Admitted x) h = absurd h
quiet-right handlers name book had (entry.Resumed x) h = absurd h
quiet-right handlers name book had (entry.Handled x) h = absurd h
quiet-right handlers name book had (entry.Ended x) h = absurd h
quiet-right handlers name book had (entry.Restarted x) h = absurd h
quiet-right handlers name book had (entry.Saved x) h = tt
quiet-right handlers name book had (entry.Issued x) h = tt
quiet-right handlers name book had (entry.Fetched x) h = tt
quiet-right handlers name book had (entry.Looked x) h = tt
quiet-right handlers name book had (entry.Sent x) h = absurd h
quiet-right handlers name book had (entry.Answered x) h = absurd h
quiet-right handlers name book had (entry.Refused x) h = tt
quiet-right handlers name book had (entry.Broken x) h = tt
quiet-right handlers name book had (entry.Leaked x) h = tt

pub right-leaves : (handlers : Handlers) (name : Name) (book : Book Authority) (had : Served → Type 0) (e : Entry) → IsRight handlers name book had e → Leaves e
right-leaves handlers name book had (entry.Admitted x) h = absurd h
right-leaves handlers name book had (entry.Resumed x) h = absurd h
right-leaves handlers name book had (entry.Handled x) h = λ daemon number. refl
right-leaves handlers name book had (entry.Ended x) h = absurd h
right-leaves handlers name book had (entry.Restarted x) h = absurd h
right-leaves handlers name book had (entry.Saved x) h = λ daemon number. refl
right-leaves handlers name book had (entry.Issued x) h = λ daemon number. refl
right-leaves handlers name book had (entry.Fetched x) h = λ daemon number. refl
right-leaves handlers name book had (entry.Looked x) h = λ daemon number. refl
right-leaves handlers name book had (entry.Sent x) h = absurd h
right-leaves handlers name book had (entry.Answered x) h = absurd h
right-leaves handlers name book had (entry.Refused x) h = λ daemon number. refl
right-leaves handlers name book had (entry.Broken x) h = λ daemon number. refl
right-leaves handlers name book had (entry.Leaked x) h = λ daemon number. refl

pub quiet-leaves : (e : Entry) → IsQuiet e → Leaves e
quiet-leaves (entry.Admitted x) h = absurd h
quiet-leaves (entry.Resumed x) h = absurd h
quiet-leaves (entry.Handled x) h = absurd h
quiet-leaves (entry.Ended x) h = absurd h
quiet-leaves (entry.Restarted x) h = absurd h
quiet-leaves (entry.Saved x) h = λ daemon number. refl
quiet-leaves (entry.Issued x) h = λ daemon number. refl
quiet-leaves (entry.Fetched x) h = λ daemon number. refl
quiet-leaves (entry.Looked x) h = λ daemon number. refl
quiet-leaves (entry.Sent x) h = absurd h
quiet-leaves (entry.Answered x) h = absurd h
quiet-leaves (entry.Refused x) h = λ daemon number. refl
quiet-leaves (entry.Broken x) h = λ daemon number. refl
quiet-leaves (entry.Leaked x) h = λ daemon number. refl

-- ---- a step

-- From this book, and from links that had what is kept of sessions, these entries are made, and another book and other links come of it.

-- the operation of one message is handled, which comes behind the last one that was taken of its session
pub record TakesOne (name : Name) (book : Book Authority) (es : List Entry) (new : Book Authority) : Type 0 where
  pub handled : Handled
  pub rest : List Entry
  pub entries_are : es ≡ entry.Handled handled ∷ rest
  pub quiet : AllByRecursion IsQuiet rest
  pub daemon : handled.daemon ≡ name
  pub live : Session Authority
  pub lives : IsLive book live
  pub number : live.number ≡ handled.session
  pub seq : handled.seq ≡ live.last + 1
  pub lasts : AllByRecursion (λ (s : Session Authority). ((handled.session ≡ s.number → ⊥) × KeepsLast book s) ⊎ ((s.number ≡ handled.session) × (s.last ≡ handled.seq))) new.live

-- or none is
pub record TakesNone (book : Book Authority) (es : List Entry) (new : Book Authority) : Type 0 where
  pub quiet : AllByRecursion IsQuiet es
  pub lasts : AllByRecursion (KeepsLast book) new.live

-- no session is opened or ended
pub record Rests (handlers : Handlers) (name : Name) (book : Book Authority) (had has : Served → Type 0) (es : List Entry) (new : Book Authority) : Type 0 where
  pub book_is : SameBook book new
  pub keeps : (x : Served) → has x → had x
  pub right : AllByRecursion (IsRight handlers name book had) es
  pub takes : TakesNone book es new ⊎ TakesOne name book es new

-- one is admitted under the next number
pub record AdmitsOne (name : Name) (book : Book Authority) (had has : Served → Type 0) (es : List Entry) (new : Book Authority) : Type 0 where
  pub admitted : Admitted
  pub rest : List Entry
  pub entries_are : es ≡ entry.Admitted admitted ∷ rest
  pub quiet : AllByRecursion IsQuiet rest
  pub daemon : admitted.daemon ≡ name
  pub session : admitted.session ≡ book.next
  pub next : new.next ≡ book.next + 1
  pub lives : AllByRecursion (λ (s : Session Authority). LivesOn book s ⊎ ((s.number ≡ book.next) × Tells admitted s)) new.live
  pub lasts : AllByRecursion (λ (s : Session Authority). KeepsLast book s ⊎ ((s.number ≡ book.next) × (s.last ≡ 0))) new.live
  pub keeps : (x : Served) → has x → had x ⊎ IsServedAs admitted x

-- one that lives is resumed under the next epoch
pub record ResumesOne (name : Name) (book : Book Authority) (had has : Served → Type 0) (es : List Entry) (new : Book Authority) : Type 0 where
  pub resumed : Admitted
  pub rest : List Entry
  pub entries_are : es ≡ entry.Resumed resumed ∷ rest
  pub quiet : AllByRecursion IsQuiet rest
  pub daemon : resumed.daemon ≡ name
  pub old : Session Authority
  pub lived : IsLive book old
  pub number : old.number ≡ resumed.session
  pub cookie : resumed.cookie ≡ old.client_cookie
  pub entity : resumed.entity ≡ old.owner.ticket.name
  pub epoch : resumed.epoch ≡ old.epoch + 1
  pub next : new.next ≡ book.next
  pub lives : AllByRecursion (λ (s : Session Authority). (LivesOn book s × (resumed.session ≡ s.number → ⊥)) ⊎ SomeOf (IsRenewed resumed s) book.live) new.live
  pub lasts : AllByRecursion (KeepsLast book) new.live
  pub keeps : (x : Served) → has x → had x ⊎ IsServedAs resumed x

-- one ends
pub record EndsOne (name : Name) (book : Book Authority) (had has : Served → Type 0) (es : List Entry) (new : Book Authority) : Type 0 where
  pub number : ℕ
  pub entries_are : es ≡ entry.Ended (record { daemon = name; session = number }) ∷ []
  pub next : new.next ≡ book.next
  pub lives : AllByRecursion (λ (s : Session Authority). LivesOn book s × (number ≡ s.number → ⊥)) new.live
  pub lasts : AllByRecursion (KeepsLast book) new.live
  pub keeps : (x : Served) → has x → had x

-- all are lost
pub record LosesAll (name : Name) (has : Served → Type 0) (es : List Entry) (new : Book Authority) : Type 0 where
  pub entries_are : es ≡ entry.Restarted (node.Entity name) ∷ []
  pub lives : new.live ≡ []
  pub none : (x : Served) → has x → ⊥

pub data Comes (handlers : Handlers) (name : Name) (book : Book Authority) (had has : Served → Type 0) (es : List Entry) (new : Book Authority) : Type 0 where
  Rested : Rests handlers name book had has es new → Comes handlers name book had has es new
  Admitting : AdmitsOne name book had has es new → Comes handlers name book had has es new
  Resuming : ResumesOne name book had has es new → Comes handlers name book had has es new
  Ending : EndsOne name book had has es new → Comes handlers name book had has es new

-- or the daemon began anew
abbrev pub StepComes : Handlers → Name → Book Authority → (Served → Type 0) → (Served → Type 0) → List Entry → Book Authority → Type 0
StepComes handlers name book had has es new = Comes handlers name book had has es new ⊎ LosesAll name has es new

-- ---- a row of one of the links

module _ (handlers : Handlers) (name : Name) (book new : Book Authority) (es : List Entry) (had has all_had all_have : Served → Type 0)
    (before : (x : Served) → had x → all_had x) (behind : (x : Served) → all_have x → all_had x ⊎ has x) where
  keeps-all : ((x : Served) → has x → had x) → (x : Served) → all_have x → all_had x
  keeps-all keeps x now = by_way (behind x now)
    where
      by_way : all_had x ⊎ has x → all_had x
      by_way (inl was) = was
      by_way (inr of) = before x (keeps x of)

  gains-all : (a : Admitted) → ((x : Served) → has x → had x ⊎ IsServedAs a x) → (x : Served) → all_have x → all_had x ⊎ IsServedAs a x
  gains-all a keeps x now = by_way (behind x now)
    where
      by_gain : had x ⊎ IsServedAs a x → all_had x ⊎ IsServedAs a x
      by_gain (inl was) = inl (before x was)
      by_gain (inr of) = inr of

      by_way : all_had x ⊎ has x → all_had x ⊎ IsServedAs a x
      by_way (inl was) = inl was
      by_way (inr of) = by_gain (keeps x of)

  right-all : (e : Entry) → IsRight handlers name book had e → IsRight handlers name book all_had e
  right-all (entry.Admitted x) h = absurd h
  right-all (entry.Resumed x) h = absurd h
  right-all (entry.Handled x) h = record {
    served = h.served;
    had_it = before h.served h.had_it;
    live = h.live;
    lives = h.lives;
    number = h.number;
    epoch = h.epoch;
    daemon = h.daemon;
    session = h.session;
    epoch_is = h.epoch_is;
    cookie = h.cookie;
    outcome = h.outcome;
  }
  right-all (entry.Ended x) h = absurd h
  right-all (entry.Restarted x) h = absurd h
  right-all (entry.Saved x) h = tt
  right-all (entry.Issued x) h = tt
  right-all (entry.Fetched x) h = tt
  right-all (entry.Looked x) h = tt
  right-all (entry.Sent x) h = absurd h
  right-all (entry.Answered x) h = absurd h
  right-all (entry.Refused x) h = tt
  right-all (entry.Broken x) h = tt
  right-all (entry.Leaked x) h = tt

  all-right : (xs : List Entry) → AllByRecursion (IsRight handlers name book had) xs → AllByRecursion (IsRight handlers name book all_had) xs
  all-right [] h = tt
  all-right (e ∷ xs) h = (right-all e h.0, all-right xs h.1)

  -- what a row of one link comes to, the node comes to
  pub row-comes : Comes handlers name book had has es new → Comes handlers name book all_had all_have es new
  row-comes (Rested r) = Rested (record { book_is = r.book_is; keeps = keeps-all r.keeps; right = all-right es r.right; takes = r.takes })
  row-comes (Admitting r) = Admitting (record {
    admitted = r.admitted;
    rest = r.rest;
    entries_are = r.entries_are;
    quiet = r.quiet;
    daemon = r.daemon;
    session = r.session;
    next = r.next;
    lives = r.lives;
    lasts = r.lasts;
    keeps = gains-all r.admitted r.keeps;
  })
  row-comes (Resuming r) = Resuming (record {
    resumed = r.resumed;
    rest = r.rest;
    entries_are = r.entries_are;
    quiet = r.quiet;
    daemon = r.daemon;
    old = r.old;
    lived = r.lived;
    number = r.number;
    cookie = r.cookie;
    entity = r.entity;
    epoch = r.epoch;
    next = r.next;
    lives = r.lives;
    lasts = r.lasts;
    keeps = gains-all r.resumed r.keeps;
  })
  row-comes (Ending r) = Ending (record { number = r.number; entries_are = r.entries_are; next = r.next; lives = r.lives; lasts = r.lasts; keeps = keeps-all r.keeps })
