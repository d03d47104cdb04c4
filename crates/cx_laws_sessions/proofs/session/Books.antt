-- What a book of sessions answers, and which sessions live behind its calls.
use Rattle.std.proofs.Common.{◌≡◌, ◌⊎◌, ◌+◌, ◌-◌, ◌^◌, ℕ, Bool, true, false, cond, List, [], ◌∷◌, filter, length, Option, Some, None, Ok, inl, inr, arith, refl, sym, ap, ◌∙◌, eqb-true}
use Rattle.std.specs.Prelude.{◌==◌, ◌&&◌, nat_le, nat_lt, not, if◌then◌else◌}
use Rattle.std.specs.List.{AllByRecursion}
use Rattle.std.proofs.lemmas.Bool.{and_parts, eqb-false}
use Rattle.std.proofs.lemmas.Bool.Decides.{nat_tests}
use Rattle.cx_run.specs.cx_authorize.specs.Daemon.{Authority}
use Rattle.cx_base.proofs.Names.{same_name_is}
use Rattle.cx_base.specs.Names.{Name, same_name}
use Rattle.cx_journal.specs.declared.entries.Admitted.{Admitted}
use Rattle.cx_session.specs.Book.{Book, admission, admit_reply, admitted, changed, ended, opened, raised, renewed, resume_reply, resumption, same_owner, take_reply, taken, taking, with_client_cookie, with_cookies, with_number}
use Rattle.cx_session.specs.declared.session.Session.{Session}
use Rattle.cx_run.specs.cx_steps.specs.Onto.{SomeOf}
use Rattle.cx_laws_sessions.proofs.session.Keeping.{same-book, same-lasts, same-self}
use Rattle.cx_laws_sessions.proofs.session.Lists.{all-append, all-map, found-passes, found-some}
use Rattle.cx_laws_sessions.proofs.session.Moves.{IsLive, IsRenewed, IsSame, KeepsLast, LivesOn, SameBook, StillBook, Tells}

-- ---- admissions

-- an admission is given the next number, and epoch 1
admission-given : (holder : Option (Session Authority)) (count next : ℕ) (given : ℕ × ℕ) (full spent : Bool) → nat_le 4096 count ≡ full → (next == 2 ^ 64 - 1) ≡ spent
    → admission holder count next ≡ Ok given → (given.0 ≡ next) × (given.1 ≡ 1)
admission-given (Some s) count next given full spent a b is = absurd cc
admission-given None count next given true spent a b is = let bad = rw a at is in absurd cc
admission-given None count next given false true a b is = let bad = rw (a, b) at is in absurd cc
admission-given None count next given false false a b is =
    let ok = rw (a, b) at is in
    let same : (next, 1) ≡ given = cc in
    (sym (ap (λ (pair : ℕ × ℕ). pair.0) same), sym (ap (λ (pair : ℕ × ℕ). pair.1) same))

pub admit-given : (book : Book Authority) (client : ℕ) (given : ℕ × ℕ) → admit_reply book client ≡ Ok given → (given.0 ≡ book.next) × (given.1 ≡ 1)
admit-given book client given is =
    admission-given (with_client_cookie client book.live) (length book.live) book.next given (nat_le 4096 (length book.live)) (book.next == 2 ^ 64 - 1) refl refl is

-- behind it the sessions are those of before and this one
pub admitted-lives : (book : Book Authority) (owner : Authority) (client server global : ℕ) (lossy : Bool) (a : Admitted) → Tells a (opened book.next owner client server global lossy)
    → AllByRecursion (λ (s : Session Authority). LivesOn book s ⊎ ((s.number ≡ book.next) × Tells a s)) (admitted book owner client server global lossy).live
admitted-lives book owner client server global lossy a tells =
    let P : Session Authority → Type 0 = λ s. LivesOn book s ⊎ ((s.number ≡ book.next) × Tells a s) in
    all-append P book.live (opened book.next owner client server global lossy ∷ [])
    (all-map (LivesOn book) P (λ s lives. inl lives) book.live (same-book book).lives) (inr (refl, tells), tt)

-- of that one nothing was taken
pub admitted-lasts : (book : Book Authority) (owner : Authority) (client server global : ℕ) (lossy : Bool)
    → AllByRecursion (λ (s : Session Authority). KeepsLast book s ⊎ ((s.number ≡ book.next) × (s.last ≡ 0))) (admitted book owner client server global lossy).live
admitted-lasts book owner client server global lossy =
    let P : Session Authority → Type 0 = λ s. KeepsLast book s ⊎ ((s.number ≡ book.next) × (s.last ≡ 0)) in
    all-append P book.live (opened book.next owner client server global lossy ∷ [])
    (all-map (KeepsLast book) P (λ s keeps. inl keeps) book.live (same-lasts book)) (inr (refl, refl), tt)

-- ---- resumptions

-- a session is resumed that has both cookies and an owner of the same entity, under the next epoch
pub record IsResumed (entity_of : Authority → Name) (book : Book Authority) (owner : Authority) (client : ℕ) (given : ℕ × ℕ × ℕ × Bool) : Type 0 where
  pub old : Session Authority
  pub lived : IsLive book old
  pub number : old.number ≡ given.0
  pub cookie : client ≡ old.client_cookie
  pub epoch : given.1 ≡ old.epoch + 1
  pub entity : entity_of old.owner ≡ entity_of owner

module _ (entity_of : Authority → Name) (gid_of : Authority → ℕ) where
  resumption-given : (s : Session Authority) (owner : Authority) (global connect : ℕ) (given : ℕ × ℕ × ℕ × Bool) (same older fewer spent : Bool)
      → same_owner entity_of gid_of s.owner owner ≡ same → nat_le connect s.connect_seq ≡ older → nat_lt global s.global_seq ≡ fewer → (s.epoch == 2 ^ 64 - 1) ≡ spent
      → resumption entity_of gid_of (Some s) owner global connect ≡ Ok given → (s.number ≡ given.0) × (given.1 ≡ s.epoch + 1)
  resumption-given s owner global connect given false older fewer spent a b c d is = let bad = rw a at is in absurd cc
  resumption-given s owner global connect given true true fewer spent a b c d is = let bad = rw (a, b) at is in absurd cc
  resumption-given s owner global connect given true false true spent a b c d is = let bad = rw (a, b, c) at is in absurd cc
  resumption-given s owner global connect given true false false true a b c d is = let bad = rw (a, b, c, d) at is in absurd cc
  resumption-given s owner global connect given true false false false a b c d is =
      let ok = rw (a, b, c, d) at is in
      let same : (s.number, s.epoch + 1, s.last, s.lossy) ≡ given = cc in
      (ap (λ (g : ℕ × ℕ × ℕ × Bool). g.0) same, sym (ap (λ (g : ℕ × ℕ × ℕ × Bool). g.1) same))

  resumption-owner : (s : Session Authority) (owner : Authority) (global connect : ℕ) (given : ℕ × ℕ × ℕ × Bool) (same : Bool) → same_owner entity_of gid_of s.owner owner ≡ same
      → resumption entity_of gid_of (Some s) owner global connect ≡ Ok given → entity_of s.owner ≡ entity_of owner
  resumption-owner s owner global connect given false a is = let bad = rw a at is in absurd cc
  resumption-owner s owner global connect given true a is =
      same_name_is (entity_of s.owner) (entity_of owner) (and_parts (same_name (entity_of s.owner) (entity_of owner)) (gid_of s.owner == gid_of owner) a).0

  pub resume-given : (book : Book Authority) (owner : Authority) (client server global connect : ℕ) (given : ℕ × ℕ × ℕ × Bool)
      → resume_reply entity_of gid_of book owner client server global connect ≡ Ok given → IsResumed entity_of book owner client given
  resume-given book owner client server global connect given is = by_found (with_cookies client server book.live) refl is
    where
      by_found : (found : Option (Session Authority)) → with_cookies client server book.live ≡ found → resumption entity_of gid_of found owner global connect ≡ Ok given
          → IsResumed entity_of book owner client given
      by_found None found bad = absurd cc
      by_found (Some s) found ok =
          let g = resumption-given s owner global connect given (same_owner entity_of gid_of s.owner owner) (nat_le connect s.connect_seq) (nat_lt global s.global_seq)
          (s.epoch == 2 ^ 64 - 1) refl refl refl refl ok in
          let test : Session Authority → Bool = λ t. (t.client_cookie == client) && (t.server_cookie == server) in
          let both = and_parts (s.client_cookie == client) (s.server_cookie == server) (found-passes test book.live s found) in
          record {
            old = s;
            lived = found-some (λ (t : Session Authority). t ≡ s) test book.live s found refl;
            number = g.0;
            cookie = sym (eqb-true s.client_cookie client both.0);
            epoch = g.1;
            entity = resumption-owner s owner global connect given (same_owner entity_of gid_of s.owner owner) refl ok;
          }

-- behind it each session of another number is one of before, and each of this number is one resumed
module _ (book : Book Authority) (number : ℕ) (owner : Authority) (global connect : ℕ) (a : Admitted) (session : a.session ≡ number) (entity : a.entity ≡ owner.ticket.name)
    (gid : a.gid ≡ owner.ticket.gid) (caps : a.caps ≡ owner.ticket.caps) where
  abbrev IsBehind : Session Authority → Type 0
  IsBehind s = (LivesOn book s × (a.session ≡ s.number → ⊥)) ⊎ SomeOf (IsRenewed a s) book.live

  changed-lives : (live : List (Session Authority)) → ((Q : Session Authority → Type 0) → SomeOf Q live → SomeOf Q book.live)
      → AllByRecursion IsBehind (changed number (renewed owner global connect) live)
  changed-lives [] into = tt
  changed-lives (s ∷ live) into = (by_test (s.number == number) refl, changed-lives live (λ Q some. into Q (inr some)))
    where
      by_test : (t : Bool) → (s.number == number) ≡ t → IsBehind (if t then renewed owner global connect s else s)
      by_test true is = inr (into (IsRenewed a (renewed owner global connect s)) (inl (record {
        was = eqb-true s.number number is ∙ sym session;
        number = refl;
        epoch = refl;
        cookie = refl;
        entity = entity;
        gid = gid;
        caps = caps;
      })))
      by_test false is = inl (into (λ (old : Session Authority). IsSame old s) (inl (same-self s)), λ same. eqb-false s.number number is (sym same ∙ session))

  pub resumed-lives : AllByRecursion IsBehind (changed number (renewed owner global connect) book.live)
  resumed-lives = changed-lives book.live (λ Q some. some)

module _ (book : Book Authority) (number : ℕ) (owner : Authority) (global connect : ℕ) where
  changed-lasts : (live : List (Session Authority)) → ((Q : Session Authority → Type 0) → SomeOf Q live → SomeOf Q book.live)
      → AllByRecursion (KeepsLast book) (changed number (renewed owner global connect) live)
  changed-lasts [] into = tt
  changed-lasts (s ∷ live) into = (by_test (s.number == number), changed-lasts live (λ Q some. into Q (inr some)))
    where
      by_test : (t : Bool) → KeepsLast book (if t then renewed owner global connect s else s)
      by_test true = into (λ (old : Session Authority). (s.number ≡ old.number) × (s.last ≡ old.last)) (inl (refl, refl))
      by_test false = into (λ (old : Session Authority). (s.number ≡ old.number) × (s.last ≡ old.last)) (inl (refl, refl))

  pub resumed-lasts : AllByRecursion (KeepsLast book) (changed number (renewed owner global connect) book.live)
  resumed-lasts = changed-lasts book.live (λ Q some. some)

-- ---- messages

-- a message is taken of a session that lives, under its epoch, behind the last one
pub record IsTaken (book : Book Authority) (told under seq : ℕ) : Type 0 where
  pub live : Session Authority
  pub lives : IsLive book live
  pub number : live.number ≡ told
  pub epoch : live.epoch ≡ under
  pub next : seq ≡ live.last + 1

taking-epoch : (s : Session Authority) (epoch seq : ℕ) (u : Unit {0}) (same : Bool) → (s.epoch == epoch) ≡ same → taking (Some s) epoch seq ≡ Ok u → s.epoch ≡ epoch
taking-epoch s epoch seq u true same is = eqb-true s.epoch epoch same
taking-epoch s epoch seq u false same is = let bad = rw same at is in absurd cc

taking-next : (s : Session Authority) (epoch seq : ℕ) (u : Unit {0}) (same old gap : Bool) → (s.epoch == epoch) ≡ same → nat_le seq s.last ≡ old → nat_lt (s.last + 1) seq ≡ gap
    → taking (Some s) epoch seq ≡ Ok u → seq ≡ s.last + 1
taking-next s epoch seq u false old gap a b c is = let bad = rw a at is in absurd cc
taking-next s epoch seq u true true gap a b c is = let bad = rw (a, b) at is in absurd cc
taking-next s epoch seq u true false true a b c is = let bad = rw (a, b, c) at is in absurd cc
taking-next s epoch seq u true false false a b c is = grind (arith, nat_tests)

pub take-given : (book : Book Authority) (number epoch seq : ℕ) (u : Unit {0}) → take_reply book number epoch seq ≡ Ok u → IsTaken book number epoch seq
take-given book number epoch seq u is = by_found (with_number number book.live) refl is
  where
    by_found : (found : Option (Session Authority)) → with_number number book.live ≡ found → taking found epoch seq ≡ Ok u → IsTaken book number epoch seq
    by_found None found bad = absurd cc
    by_found (Some s) found ok =
        let test : Session Authority → Bool = λ t. t.number == number in
        record {
          live = s;
          lives = found-some (λ (t : Session Authority). t ≡ s) test book.live s found refl;
          number = eqb-true s.number number (found-passes test book.live s found);
          epoch = taking-epoch s epoch seq u (s.epoch == epoch) refl ok;
          next = taking-next s epoch seq u (s.epoch == epoch) (nat_le seq s.last) (nat_lt (s.last + 1) seq) refl refl refl ok;
        }

-- the sessions stay
module _ (book : Book Authority) (number seq : ℕ) where
  raised-lives : (live : List (Session Authority)) → ((Q : Session Authority → Type 0) → SomeOf Q live → SomeOf Q book.live)
      → AllByRecursion (LivesOn book) (changed number (raised seq) live)
  raised-lives [] into = tt
  raised-lives (s ∷ live) into = (by_test (s.number == number), raised-lives live (λ Q some. into Q (inr some)))
    where
      by_test : (t : Bool) → LivesOn book (if t then raised seq s else s)
      by_test true = into (λ (old : Session Authority). IsSame old (raised seq s)) (inl (record { number = refl; epoch = refl; cookie = refl; owner = refl }))
      by_test false = into (λ (old : Session Authority). IsSame old s) (inl (same-self s))

  pub taken-same : SameBook book (taken book number seq)
  taken-same = record { next = refl; lives = raised-lives book.live (λ Q some. some) }

  -- that message is the last one of each session of the number, and of the others the last one stays
  abbrev IsRaised : Session Authority → Type 0
  IsRaised s = ((number ≡ s.number → ⊥) × KeepsLast book s) ⊎ ((s.number ≡ number) × (s.last ≡ seq))

  raised-lasts : (live : List (Session Authority)) → ((Q : Session Authority → Type 0) → SomeOf Q live → SomeOf Q book.live)
      → AllByRecursion IsRaised (changed number (raised seq) live)
  raised-lasts [] into = tt
  raised-lasts (s ∷ live) into = (by_test (s.number == number) refl, raised-lasts live (λ Q some. into Q (inr some)))
    where
      by_test : (t : Bool) → (s.number == number) ≡ t → IsRaised (if t then raised seq s else s)
      by_test true is = inr (eqb-true s.number number is, refl)
      by_test false is =
          inl (λ same. eqb-false s.number number is (sym same), into (λ (old : Session Authority). (s.number ≡ old.number) × (s.last ≡ old.last)) (inl (refl, refl)))

  pub taken-lasts : AllByRecursion IsRaised (taken book number seq).live
  taken-lasts = raised-lasts book.live (λ Q some. some)

-- ---- ends

-- the sessions of other numbers stay
module _ (book : Book Authority) (number : ℕ) where
  left-lives : (live : List (Session Authority)) → ((Q : Session Authority → Type 0) → SomeOf Q live → SomeOf Q book.live)
      → AllByRecursion (λ (s : Session Authority). LivesOn book s × (number ≡ s.number → ⊥)) (filter (λ s. not (s.number == number)) live)
  left-lives [] into = tt
  left-lives (s ∷ live) into = by_test (s.number == number) refl (left-lives live (λ Q some. into Q (inr some)))
    where
      by_test : (t : Bool) → (s.number == number) ≡ t → AllByRecursion (λ (x : Session Authority). LivesOn book x × (number ≡ x.number → ⊥)) (filter (λ s. not (s.number == number)) live)
          → AllByRecursion (λ (x : Session Authority). LivesOn book x × (number ≡ x.number → ⊥))
          (cond (not t) (s ∷ filter (λ s. not (s.number == number)) live) (filter (λ s. not (s.number == number)) live))
      by_test true is h = h
      by_test false is h = ((into (λ (old : Session Authority). IsSame old s) (inl (same-self s)), λ same. eqb-false s.number number is (sym same)), h)

  pub ended-lives : AllByRecursion (λ (s : Session Authority). LivesOn book s × (number ≡ s.number → ⊥)) (ended book number).live
  ended-lives = left-lives book.live (λ Q some. some)

  left-lasts : (live : List (Session Authority)) → ((Q : Session Authority → Type 0) → SomeOf Q live → SomeOf Q book.live)
      → AllByRecursion (KeepsLast book) (filter (λ s. not (s.number == number)) live)
  left-lasts [] into = tt
  left-lasts (s ∷ live) into = by_test (s.number == number) (left-lasts live (λ Q some. into Q (inr some)))
    where
      by_test : (t : Bool) → AllByRecursion (KeepsLast book) (filter (λ s. not (s.number == number)) live)
          → AllByRecursion (KeepsLast book) (cond (not t) (s ∷ filter (λ s. not (s.number == number)) live) (filter (λ s. not (s.number == number)) live))
      by_test true h = h
      by_test false h = (into (λ (old : Session Authority). (s.number ≡ old.number) × (s.last ≡ old.last)) (inl (refl, refl)), h)

  pub ended-lasts : AllByRecursion (KeepsLast book) (ended book number).live
  ended-lasts = left-lasts book.live (λ Q some. some)

  pub ended-still : StillBook book (ended book number)
  ended-still = (
    record {
      next = refl;
      lives = all-map (λ (s : Session Authority). LivesOn book s × (number ≡ s.number → ⊥)) (LivesOn book) (λ s both. both.0) (ended book number).live ended-lives;
    },
    ended-lasts,
  )
