-- What is so of a daemon's sessions behind each step: of each that lives the journal has the entry that opened it last, and what is kept of one on a link is
-- that entry's, where the epochs are the same. So each operation is handled in session, as the caps of that session say.
use Rattle.std.proofs.Common.{◌≡◌, ◌⊎◌, ◌+◌, ◌<◌, ◌≤◌, ℕ, Bool, true, false, List, [], ◌∷◌, ◌++◌, Some, None, inl, inr, arith, refl, sym, ap, ◌∙◌, subst}
use Rattle.std.specs.Prelude.{◌==◌, ◌&&◌, not, if◌then◌else◌}
use Rattle.std.specs.List.{AllByRecursion}
use Rattle.std.proofs.lemmas.Bool.{cases_eq}
use Rattle.cx_run.specs.cx_authorize.specs.Daemon.{Authority}
use Rattle.cx_base.specs.Names.{Name, same_name}
use Rattle.cx_base.specs.declared.operations.Operation.{Operation}
use Rattle.cx_caps.proofs.Laws.{allowed, denied}
use Rattle.cx_caps.specs.Reading.{cap_allows}
use Rattle.cx_desk.specs.Handlers.{Handlers, has_handler}
use Rattle.cx_journal.specs.Behind.{EachBehind}
use Rattle.cx_journal.specs.Enforced.{Enforces, IsEnforcedBy, IsOutcome}
use Rattle.cx_journal.specs.Sessions.{session_of}
use Rattle.cx_journal.specs.declared.entries.Admitted.{Admitted}
use Rattle.cx_journal.specs.declared.entries.Entry.{Entry}
use Rattle.cx_journal.specs.declared.entries.Entry.TheVariants as entry
use Rattle.cx_journal.specs.declared.entries.Handled.{Handled}
use Rattle.cx_journal.specs.declared.outcomes.Outcome.TheVariants as outcome
use Rattle.cx_run.specs.cx_rules_session.specs.IncomingLinks.{Served}
use Rattle.cx_run.specs.cx_rules_session.specs.Hosting.{outcome_of}
use Rattle.cx_session.specs.Book.{Book}
use Rattle.cx_session.specs.declared.session.Session.{Session}
use Rattle.cx_run.specs.cx_steps.specs.Onto.{SomeOf}
use Rattle.cx_laws_sessions.specs.session.Serving.{serves}
use Rattle.cx_laws_sessions.proofs.session.Lists.{all-map, all-self, some-of}
use Rattle.cx_laws_sessions.proofs.session.Moves.{AdmitsOne, Admitting, Comes, EndsOne, Ending, IsHandledRight, IsLive, IsQuiet, IsRenewed, IsRight, IsSame, IsServedAs, KeepsLast, LivesOn, Rested, Rests, ResumesOne, Resuming, SameBook, StepComes, StillBook, Tells, quiet-leaves, right-leaves}
use Rattle.cx_laws_sessions.proofs.session.Standing.{LeavesOf, elsewhere-turn, other-turn, own-turn, standing, standing-first, standing-handles, standing-still, turns_session}

-- ---- what is so of a daemon

-- of a session that lives: the journal has the entry that opened it last
pub record SessionStands (J : List Entry) (name : Name) (next : ℕ) (s : Session Authority) : Type 0 where
  pub session : Admitted
  pub stands : standing name s.number J ≡ Some session
  pub tells : Tells session s
  pub below : s.number < next

-- what is kept of a session on its link is that of its opening entry, where the epochs are the same; else it is older
pub record Agrees (a : Admitted) (x : Served) : Type 0 where
  pub at_most : x.epoch ≤ a.epoch
  pub same : x.epoch ≡ a.epoch → (a.cookie ≡ x.cookie) × (a.caps ≡ x.caps)

pub record ServedStands (J : List Entry) (name : Name) (next : ℕ) (x : Served) : Type 0 where
  pub below : x.number < next
  pub agrees : (a : Admitted) → standing name x.number J ≡ Some a → Agrees a x

pub record Stands (J : List Entry) (name : Name) (book : Book Authority) (has : Served → Type 0) : Type 0 where
  pub sessions : AllByRecursion (SessionStands J name book.next) book.live
  pub served : (x : Served) → has x → ServedStands J name book.next x

-- ---- one session, one link

tells-same : (a : Admitted) (old new : Session Authority) → IsSame old new → Tells a old → Tells a new
tells-same a old new same t = record {
  epoch = t.epoch ∙ sym same.epoch;
  cookie = t.cookie ∙ sym same.cookie;
  entity = t.entity ∙ ap (λ (o : Authority). o.ticket.name) (sym same.owner);
  gid = t.gid ∙ ap (λ (o : Authority). o.ticket.gid) (sym same.owner);
  caps = t.caps ∙ ap (λ (o : Authority). o.ticket.caps) (sym same.owner);
}

module _ (J K : List Entry) (name : Name) (next later : ℕ) (le : next ≤ later) where
  same-stands : (old new : Session Authority) → IsSame old new → standing name new.number K ≡ standing name new.number J → SessionStands J name next old → SessionStands K name later new
  same-stands old new same still h =
      let number : new.number ≡ old.number = same.number in
      let below : old.number < next = h.below in
      record {
        session = h.session;
        stands = still ∙ ap (λ (k : ℕ). standing name k J) same.number ∙ h.stands;
        tells = tells-same h.session old new same h.tells;
        below = omega arith;
      }

  served-still : (x : Served) → standing name x.number K ≡ standing name x.number J → ServedStands J name next x → ServedStands K name later x
  served-still x still h =
      let below : x.number < next = h.below in
      record { below = omega arith; agrees = λ a is. h.agrees a (sym still ∙ is) }

-- the sessions of a book that are those of before
lived-stands : (J K : List Entry) (name : Name) (book : Book Authority) (later : ℕ) → book.next ≤ later → AllByRecursion (SessionStands J name book.next) book.live
    → (new : Session Authority) → LivesOn book new → standing name new.number K ≡ standing name new.number J → SessionStands K name later new
lived-stands J K name book later le sessions new lives still =
    some-of (λ (old : Session Authority). IsSame old new) (SessionStands J name book.next) (SessionStands K name later new)
    (λ old same h. same-stands J K name book.next later le old new same still h) book.live lives sessions

pub same-self : (s : Session Authority) → IsSame s s
same-self s = record { number = refl; epoch = refl; cookie = refl; owner = refl }

pub same-book : (book : Book Authority) → SameBook book book
same-book book = record { next = refl; lives = all-self IsSame same-self book.live }

pub same-lasts : (book : Book Authority) → AllByRecursion (KeepsLast book) book.live
same-lasts book = all-self (λ (old new : Session Authority). (new.number ≡ old.number) × (new.last ≡ old.last)) (λ s. (refl, refl)) book.live

pub still-book : (book : Book Authority) → StillBook book book
still-book book = (same-book book, same-lasts book)

-- entries that leave a daemon's sessions
pub stands-still : (J es : List Entry) (name : Name) (book new : Book Authority) (had has : Served → Type 0) → AllByRecursion (LeavesOf name) es → SameBook book new
    → ((x : Served) → has x → had x) → Stands J name book had → Stands (J ++ es) name new has
stands-still J es name book new had has leaves same keeps h =
    let next : new.next ≡ book.next = same.next in
    let le : book.next ≤ new.next = omega arith in
    record {
      sessions = all-map (LivesOn book) (SessionStands (J ++ es) name new.next)
          (λ s lives. lived-stands J (J ++ es) name book new.next le h.sessions s lives (standing-still name s.number J es leaves)) new.live same.lives;
      served = λ x now. served-still J (J ++ es) name book.next new.next le x (standing-still name x.number J es leaves) (h.served x (keeps x now));
    }

-- ---- an entry that opens a session

-- it opens this one, of this daemon, and the others behind it are quiet
module _ (J rest : List Entry) (name : Name) (e : Entry) (a : Admitted) (turns : (number : ℕ) → turns_session name number e ≡ (same_name a.daemon name && (a.session == number)))
    (opens : session_of e ≡ Some a) (daemon : a.daemon ≡ name) (quiet : AllByRecursion IsQuiet rest) where
  rest-leaves : AllByRecursion (LeavesOf name) rest
  rest-leaves = all-map IsQuiet (LeavesOf name) (λ x h. quiet-leaves x h name) rest quiet

  opened-now : standing name a.session (J ++ e ∷ rest) ≡ Some a
  opened-now = standing-first name a.session J e rest rest-leaves ∙ rw (turns a.session ∙ own-turn a.daemon name a.session a.session daemon refl) opens

  opened-else : (number : ℕ) → (a.session ≡ number → ⊥) → standing name number (J ++ e ∷ rest) ≡ standing name number J
  opened-else number other = standing-first name number J e rest rest-leaves ∙ rw (turns number ∙ other-turn a.daemon name a.session number other) refl

  -- what is kept of it
  gained-stands : (later : ℕ) (x : Served) → IsServedAs a x → a.session < later → ServedStands (J ++ e ∷ rest) name later x
  gained-stands later x of below =
      let number : x.number ≡ a.session = of.number in
      let epoch : x.epoch ≡ a.epoch = of.epoch in
      record {
        below = omega arith;
        agrees = λ b is.
            let one : Some a ≡ Some b = sym (ap (λ (k : ℕ). standing name k (J ++ e ∷ rest)) of.number ∙ opened-now) ∙ is in
            let same : a ≡ b = cc in
            subst (λ (c : Admitted). Agrees c x) same (record { at_most = omega arith; same = λ _. (of.cookie, of.caps) });
      }

  -- what was kept of another one, or of this one under an older epoch
  older-stands : (next later : ℕ) (x : Served) → next ≤ later → ((b : Admitted) → standing name a.session J ≡ Some b → Agrees b x → x.epoch < a.epoch)
      → (a.session ≡ x.number → (b : Admitted) × (standing name a.session J ≡ Some b)) → ServedStands J name next x → ServedStands (J ++ e ∷ rest) name later x
  older-stands next later x le older was h = by_number (cases_eq a.session x.number)
    where
      by_number : (a.session ≡ x.number) ⊎ (a.session ≡ x.number → ⊥) → ServedStands (J ++ e ∷ rest) name later x
      by_number (inr other) = served-still J (J ++ e ∷ rest) name next later le x (opened-else x.number other) h
      by_number (inl this) =
          let stood_as = was this in
          let agreed : Agrees stood_as.0 x = h.agrees stood_as.0 (ap (λ (k : ℕ). standing name k J) (sym this) ∙ stood_as.1) in
          let less : x.epoch < a.epoch = older stood_as.0 stood_as.1 agreed in
          let below : x.number < next = h.below in
          record {
            below = omega arith;
            agrees = λ b is.
                let one : Some a ≡ Some b = sym (ap (λ (k : ℕ). standing name k (J ++ e ∷ rest)) (sym this) ∙ opened-now) ∙ is in
                let same : a ≡ b = cc in
                subst (λ (c : Admitted). Agrees c x) same (record { at_most = omega arith; same = λ equal. absurd (omega (arith, equal, less)) });
          }

-- ---- a step

module _ (handlers : Handlers) (name : Name) (J : List Entry) (book new : Book Authority) (had has : Served → Type 0) (es : List Entry) (h : Stands J name book had) where
  rests-stands : Rests handlers name book had has es new → Stands (J ++ es) name new has
  rests-stands r =
      stands-still J es name book new had has (all-map (IsRight handlers name book had) (LeavesOf name) (λ e right. right-leaves handlers name book had e right name) es r.right) r.book_is r.keeps h

  lived-below : (s : Session Authority) → LivesOn book s → s.number < book.next
  lived-below s lives =
      some-of (λ (old : Session Authority). IsSame old s) (SessionStands J name book.next) (s.number < book.next) one book.live lives h.sessions
    where
      one : (old : Session Authority) → IsSame old s → SessionStands J name book.next old → s.number < book.next
      one old same st = let number : s.number ≡ old.number = same.number in let below : old.number < book.next = st.below in omega arith

  live-stands : (s : Session Authority) → IsLive book s → SessionStands J name book.next s
  live-stands s lives =
      some-of (λ (t : Session Authority). t ≡ s) (SessionStands J name book.next) (SessionStands J name book.next s)
      (λ t same st. subst (SessionStands J name book.next) same st) book.live lives h.sessions

  -- one is admitted
  module _ (r : AdmitsOne name book had has es new) where
    admits-stands : Stands (J ++ entry.Admitted r.admitted ∷ r.rest) name new has
    admits-stands = record {
      sessions = all-map (λ (s : Session Authority). LivesOn book s ⊎ ((s.number ≡ book.next) × Tells a s)) (SessionStands K name new.next) one new.live r.lives;
      served = λ x now. by_way x (r.keeps x now);
    }
      where
        a : Admitted
        a = r.admitted

        K : List Entry
        K = J ++ entry.Admitted r.admitted ∷ r.rest

        session : a.session ≡ book.next
        session = r.session

        next : new.next ≡ book.next + 1
        next = r.next

        le : book.next ≤ new.next
        le = omega arith

        others : (number : ℕ) → number < book.next → standing name number K ≡ standing name number J
        others number below =
            opened-else J r.rest name (entry.Admitted r.admitted) r.admitted (λ n. refl) refl r.daemon r.quiet number (λ same. omega (arith, same, session, below))

        now-stands : standing name a.session K ≡ Some a
        now-stands = opened-now J r.rest name (entry.Admitted r.admitted) r.admitted (λ n. refl) refl r.daemon r.quiet

        one : (s : Session Authority) → LivesOn book s ⊎ ((s.number ≡ book.next) × Tells a s) → SessionStands K name new.next s
        one s (inl lives) = lived-stands J K name book new.next le h.sessions s lives (others s.number (lived-below s lives))
        one s (inr (number, tells)) = record {
          session = a;
          stands = ap (λ (k : ℕ). standing name k K) (number ∙ sym session) ∙ now-stands;
          tells = tells;
          below = omega (arith, number, next);
        }

        by_way : (x : Served) → had x ⊎ IsServedAs a x → ServedStands K name new.next x
        by_way x (inl was) = served-still J K name book.next new.next le x (others x.number (h.served x was).below) (h.served x was)
        by_way x (inr of) =
            gained-stands J r.rest name (entry.Admitted r.admitted) r.admitted (λ n. refl) refl r.daemon r.quiet new.next x of (omega (arith, session, next))

  -- one is resumed
  module _ (r : ResumesOne name book had has es new) where
    resumes-stands : Stands (J ++ entry.Resumed r.resumed ∷ r.rest) name new has
    resumes-stands = record {
      sessions = all-map (λ (s : Session Authority). (LivesOn book s × (a.session ≡ s.number → ⊥)) ⊎ SomeOf (IsRenewed a s) book.live) (SessionStands K name new.next) one new.live r.lives;
      served = λ x now. by_way x (r.keeps x now);
    }
      where
        a : Admitted
        a = r.resumed

        K : List Entry
        K = J ++ entry.Resumed r.resumed ∷ r.rest

        next : new.next ≡ book.next
        next = r.next

        le : book.next ≤ new.next
        le = omega arith

        now-stands : standing name a.session K ≡ Some a
        now-stands = opened-now J r.rest name (entry.Resumed r.resumed) r.resumed (λ n. refl) refl r.daemon r.quiet

        old-stands : SessionStands J name book.next r.old
        old-stands = live-stands r.old r.lived

        was : Admitted
        was = old-stands.session

        stood-as : standing name a.session J ≡ Some was
        stood-as = ap (λ (k : ℕ). standing name k J) (sym r.number) ∙ old-stands.stands

        was-epoch : was.epoch ≡ r.old.epoch
        was-epoch = old-stands.tells.epoch

        raised : a.epoch ≡ r.old.epoch + 1
        raised = r.epoch

        below : a.session < new.next
        below = let under : r.old.number < book.next = old-stands.below in let number : r.old.number ≡ a.session = r.number in omega (arith, under, number, next)

        renewed-stands : (s t : Session Authority) → IsRenewed a s t → SessionStands J name book.next t → SessionStands K name new.next s
        renewed-stands s t of st =
            let one : Some st.session ≡ Some was = sym (ap (λ (k : ℕ). standing name k J) (sym of.was) ∙ st.stands) ∙ stood-as in
            let same : st.session ≡ was = cc in
            let its : st.session.epoch ≡ was.epoch = ap (λ (x : Admitted). x.epoch) same in
            let told : st.session.epoch ≡ t.epoch = st.tells.epoch in
            let more : s.epoch ≡ t.epoch + 1 = of.epoch in
            let number : s.number ≡ a.session = of.number ∙ of.was in
            record {
              session = a;
              stands = ap (λ (k : ℕ). standing name k K) number ∙ now-stands;
              tells = record {
                epoch = omega (arith, its, told, more, raised, was-epoch);
                cookie = r.cookie ∙ sym old-stands.tells.cookie ∙ ap (λ (x : Admitted). x.cookie) (sym same) ∙ st.tells.cookie ∙ sym of.cookie;
                entity = of.entity;
                gid = of.gid;
                caps = of.caps;
              };
              below = omega (arith, number, below);
            }

        one : (s : Session Authority) → (LivesOn book s × (a.session ≡ s.number → ⊥)) ⊎ SomeOf (IsRenewed a s) book.live → SessionStands K name new.next s
        one s (inl (lives, other)) =
            lived-stands J K name book new.next le h.sessions s lives
            (opened-else J r.rest name (entry.Resumed r.resumed) r.resumed (λ n. refl) refl r.daemon r.quiet s.number other)
        one s (inr renewed) =
            some-of (IsRenewed a s) (SessionStands J name book.next) (SessionStands K name new.next s) (renewed-stands s) book.live renewed h.sessions

        older : (x : Served) (b : Admitted) → standing name a.session J ≡ Some b → Agrees b x → x.epoch < a.epoch
        older x b is agreed =
            let both : Some b ≡ Some was = sym is ∙ stood-as in
            let same : b ≡ was = cc in
            let its : b.epoch ≡ was.epoch = ap (λ (y : Admitted). y.epoch) same in
            let most : x.epoch ≤ b.epoch = agreed.at_most in
            omega (arith, its, most, was-epoch, raised)

        by_way : (x : Served) → had x ⊎ IsServedAs a x → ServedStands K name new.next x
        by_way x (inl was-had) =
            older-stands J r.rest name (entry.Resumed r.resumed) r.resumed (λ n. refl) refl r.daemon r.quiet book.next new.next x le (older x) (λ this. (was, stood-as))
            (h.served x was-had)
        by_way x (inr of) =
            gained-stands J r.rest name (entry.Resumed r.resumed) r.resumed (λ n. refl) refl r.daemon r.quiet new.next x of below

  -- one ends
  module _ (r : EndsOne name book had has es new) where
    ends-stands : Stands (J ++ entry.Ended (record { daemon = name; session = r.number }) ∷ []) name new has
    ends-stands = record {
      sessions = all-map (λ (s : Session Authority). LivesOn book s × (r.number ≡ s.number → ⊥)) (SessionStands K name new.next)
          (λ s lives. lived-stands J K name book new.next le h.sessions s lives.0 (others s.number lives.1)) new.live r.lives;
      served = λ x now. by_number x (h.served x (r.keeps x now)) (cases_eq r.number x.number);
    }
      where
        e : Entry
        e = entry.Ended (record { daemon = name; session = r.number })

        K : List Entry
        K = J ++ e ∷ []

        next : new.next ≡ book.next
        next = r.next

        le : book.next ≤ new.next
        le = omega arith

        others : (number : ℕ) → (r.number ≡ number → ⊥) → standing name number K ≡ standing name number J
        others number other = standing-first name number J e [] tt ∙ rw (other-turn name name r.number number other) refl

        gone : (number : ℕ) → r.number ≡ number → standing name number K ≡ None
        gone number this = standing-first name number J e [] tt ∙ rw (own-turn name name r.number number refl this) refl

        by_number : (x : Served) → ServedStands J name book.next x → (r.number ≡ x.number) ⊎ (r.number ≡ x.number → ⊥) → ServedStands K name new.next x
        by_number x st (inr other) = served-still J K name book.next new.next le x (others x.number other) st
        by_number x st (inl this) =
            let below : x.number < book.next = st.below in
            record { below = omega (arith, below, next); agrees = λ a is. let none : None ≡ Some a = sym (gone x.number this) ∙ is in absurd cc }

  -- whatever comes
  comes-stands : Comes handlers name book had has es new → Stands (J ++ es) name new has
  comes-stands (Rested r) = rests-stands r
  comes-stands (Admitting r) = subst (λ (l : List Entry). Stands (J ++ l) name new has) (sym r.entries_are) (admits-stands r)
  comes-stands (Resuming r) = subst (λ (l : List Entry). Stands (J ++ l) name new has) (sym r.entries_are) (resumes-stands r)
  comes-stands (Ending r) = subst (λ (l : List Entry). Stands (J ++ l) name new has) (sym r.entries_are) (ends-stands r)

  pub step-stands : StepComes handlers name book had has es new → Stands (J ++ es) name new has
  step-stands (inl comes) = comes-stands comes
  step-stands (inr r) = record {
    sessions = subst (AllByRecursion (SessionStands (J ++ es) name new.next)) (sym r.lives) tt;
    served = λ x now. absurd (r.none x now);
  }

-- ---- what is handled

outcome-by : (handlers : Handlers) (caps : List ℕ) (ask : Operation) (allows has : Bool) → cap_allows caps ask ≡ allows → has_handler ask.access handlers ≡ has
    → IsOutcome (serves handlers) caps ask (if not allows then outcome.Denied else if has then outcome.Done else outcome.NoHandler)
outcome-by handlers caps ask true true allows has = (allowed caps ask allows, has)
outcome-by handlers caps ask true false allows has = (allowed caps ask allows, has)
outcome-by handlers caps ask false has denies is = denied caps ask denies

module _ (handlers : Handlers) (name : Name) (book : Book Authority) (had : Served → Type 0) where
  handled-enforced : (J : List Entry) (handled : Handled) → Stands J name book had → IsHandledRight handlers name book had handled → Enforces (serves handlers) J handled
  handled-enforced J handled h r =
      let found : SessionStands J name book.next r.live =
      some-of (λ (t : Session Authority). t ≡ r.live) (SessionStands J name book.next) (SessionStands J name book.next r.live)
      (λ t same st. subst (SessionStands J name book.next) same st) book.live r.lives h.sessions in
      let a : Admitted = found.session in
      let at : standing name r.served.number J ≡ Some a = ap (λ (k : ℕ). standing name k J) (sym r.number) ∙ found.stands in
      let epoch : a.epoch ≡ r.served.epoch = found.tells.epoch ∙ r.epoch in
      let both : (a.cookie ≡ r.served.cookie) × (a.caps ≡ r.served.caps) = ((h.served r.served r.had_it).agrees a at).same (sym epoch) in
      let here : standing handled.daemon handled.session J ≡ Some a =
      ap (λ (n : Name). standing n handled.session J) r.daemon ∙ ap (λ (k : ℕ). standing name k J) r.session ∙ at in
      let its : IsOutcome (serves handlers) r.served.caps handled.operation (outcome_of handlers r.served.caps handled.operation) =
      outcome-by handlers r.served.caps handled.operation (cap_allows r.served.caps handled.operation) (has_handler handled.operation.access handlers) refl refl in
      record {
        session = a;
        handled_in = standing-handles J handled a here (epoch ∙ sym r.epoch_is) (both.0 ∙ sym r.cookie);
        outcome = subst (λ (caps : List ℕ). IsOutcome (serves handlers) caps handled.operation handled.outcome) (sym both.1)
            (subst (IsOutcome (serves handlers) r.served.caps handled.operation) (sym r.outcome) its);
      }

  right-enforced : (es J : List Entry) → Stands J name book had → AllByRecursion (IsRight handlers name book had) es → EachBehind (IsEnforcedBy (serves handlers)) J es
  right-enforced [] J h right = tt
  right-enforced (e ∷ es) J h right = (
    one e right.0,
    right-enforced es (J ++ e ∷ [])
        (stands-still J (e ∷ []) name book book had had (right-leaves handlers name book had e right.0 name, tt) (same-book book) (λ x was. was) h) right.1,
  )
    where
      one : (e : Entry) → IsRight handlers name book had e → IsEnforcedBy (serves handlers) J e
      one (entry.Handled handled) r = handled-enforced J handled h r
      one _ r = tt

pub quiet-enforced : (handlers : Handlers) (es J : List Entry) → AllByRecursion IsQuiet es → EachBehind (IsEnforcedBy (serves handlers)) J es
quiet-enforced handlers [] J h = tt
quiet-enforced handlers (e ∷ es) J h = (one e h.0, quiet-enforced handlers es (J ++ e ∷ []) h.1)
  where
    one : (e : Entry) → IsQuiet e → IsEnforcedBy (serves handlers) J e
    one (entry.Handled handled) r = absurd r
    one _ r = tt

module _ (handlers : Handlers) (name : Name) (J : List Entry) (book new : Book Authority) (had has : Served → Type 0) (es : List Entry) (h : Stands J name book had) where
  comes-enforced : Comes handlers name book had has es new → EachBehind (IsEnforcedBy (serves handlers)) J es
  comes-enforced (Rested r) = right-enforced handlers name book had es J h r.right
  comes-enforced (Admitting r) =
      subst (EachBehind (IsEnforcedBy (serves handlers)) J) (sym r.entries_are) (tt, quiet-enforced handlers r.rest (J ++ entry.Admitted r.admitted ∷ []) r.quiet)
  comes-enforced (Resuming r) =
      subst (EachBehind (IsEnforcedBy (serves handlers)) J) (sym r.entries_are) (tt, quiet-enforced handlers r.rest (J ++ entry.Resumed r.resumed ∷ []) r.quiet)
  comes-enforced (Ending r) = subst (EachBehind (IsEnforcedBy (serves handlers)) J) (sym r.entries_are) (tt, tt)

  pub step-enforced : StepComes handlers name book had has es new → EachBehind (IsEnforcedBy (serves handlers)) J es
  step-enforced (inl comes) = comes-enforced comes
  step-enforced (inr r) = subst (EachBehind (IsEnforcedBy (serves handlers)) J) (sym r.entries_are) (tt, tt)

-- ---- of another daemon

module _ (handlers : Handlers) (name other : Name) (apart : same_name name other ≡ false) (book new : Book Authority) (had has : Served → Type 0) (es : List Entry) where
  quiet-elsewhere : (rest : List Entry) → AllByRecursion IsQuiet rest → AllByRecursion (LeavesOf other) rest
  quiet-elsewhere rest quiet = all-map IsQuiet (LeavesOf other) (λ x q. quiet-leaves x q other) rest quiet

  elsewhere-by : (daemon : Name) (k number : ℕ) → daemon ≡ name → (same_name daemon other && (k == number)) ≡ false
  elsewhere-by daemon k number same = elsewhere-turn daemon other k number (ap (λ (n : Name). same_name n other) same ∙ apart)

  -- what a daemon enters leaves the sessions of each other one
  pub step-elsewhere : StepComes handlers name book had has es new → AllByRecursion (LeavesOf other) es
  step-elsewhere (inl (Rested r)) =
      all-map (IsRight handlers name book had) (LeavesOf other) (λ e right. right-leaves handlers name book had e right other) es r.right
  step-elsewhere (inl (Admitting r)) =
      subst (AllByRecursion (LeavesOf other)) (sym r.entries_are)
      ((λ number. elsewhere-by r.admitted.daemon r.admitted.session number r.daemon), quiet-elsewhere r.rest r.quiet)
  step-elsewhere (inl (Resuming r)) =
      subst (AllByRecursion (LeavesOf other)) (sym r.entries_are)
      ((λ number. elsewhere-by r.resumed.daemon r.resumed.session number r.daemon), quiet-elsewhere r.rest r.quiet)
  step-elsewhere (inl (Ending r)) = subst (AllByRecursion (LeavesOf other)) (sym r.entries_are) ((λ number. elsewhere-by name r.number number refl), tt)
  step-elsewhere (inr r) = subst (AllByRecursion (LeavesOf other)) (sym r.entries_are) ((λ number. apart), tt)
