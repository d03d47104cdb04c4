-- What each step of a daemon keeps of its counts, whatever comes to it: what it handles is the next operation of its session, and the last message that its
-- book took of a session is the count of what was handled in it.
use Rattle.std.proofs.Common.{◌≡◌, ◌⊎◌, ◌+◌, ◌<◌, ◌≤◌, ℕ, Bool, List, [], ◌∷◌, ◌++◌, inl, inr, arith, sym, ap, ◌∙◌, subst}
use Rattle.std.specs.Prelude.{if◌then◌else◌}
use Rattle.std.specs.List.{AllByRecursion}
use Rattle.cx_laws_sessions.specs.cx_authorize.specs.Daemon.{Authority}
use Rattle.cx_base.specs.Names.{Name}
use Rattle.cx_base.specs.declared.nodes.NodeName.TheVariants as node
use Rattle.cx_desk.specs.Handlers.{Handlers}
use Rattle.cx_journal.specs.Behind.{EachBehind}
use Rattle.cx_journal.specs.declared.entries.Entry.{Entry}
use Rattle.cx_journal.specs.declared.entries.Entry.TheVariants as entry
use Rattle.cx_laws_sessions.proofs.queues.Entries.{IsInOrderBy, IsOf, IsPlain, IsSilent, Untouched, count-first, count-still, plain-of, plain-ordered, plain-silent, plain-untouched, quiet-plain}
use Rattle.cx_laws_sessions.specs.queues.Counting.{handled_since}
use Rattle.cx_laws_sessions.proofs.session.Lists.{all-map, some-of}
use Rattle.cx_laws_sessions.proofs.session.Moves.{AdmitsOne, Admitting, Comes, Ending, IsQuiet, KeepsLast, Rested, Rests, Resuming, StepComes, TakesNone, TakesOne}
use Rattle.cx_laws_sessions.proofs.session.Standing.{other-turn, own-turn}
use Rattle.cx_laws_sessions.specs.cx_rules_session.specs.IncomingLinks.{Served}
use Rattle.cx_session.specs.Book.{Book}
use Rattle.cx_session.specs.declared.session.Session.{Session}

-- of a session that lives: its number is below the next one, and the last message that was taken is the count
pub record SessionCounts (J : List Entry) (name : Name) (next : ℕ) (s : Session Authority) : Type 0 where
  pub below : s.number < next
  pub count : s.last ≡ handled_since name s.number J

abbrev pub Counts : List Entry → Name → Book Authority → Type 0
Counts J name book = AllByRecursion (SessionCounts J name book.next) book.live

-- entries that change no count
pub counts-still : (J es : List Entry) (name : Name) (book : Book Authority) → AllByRecursion (Untouched name) es → Counts J name book → Counts (J ++ es) name book
counts-still J es name book left h =
    all-map (SessionCounts J name book.next) (SessionCounts (J ++ es) name book.next)
    (λ s c. record { below = c.below; count = c.count ∙ sym (count-still name s.number J es left) }) book.live h

-- a session whose last message is that of one of its number
kept-counts : (J K : List Entry) (name : Name) (book : Book Authority) (later : ℕ) → book.next ≤ later → Counts J name book → (s : Session Authority) → KeepsLast book s
    → (s.number < book.next → handled_since name s.number K ≡ handled_since name s.number J) → SessionCounts K name later s
kept-counts J K name book later le h s keeps same =
    some-of (λ (old : Session Authority). (s.number ≡ old.number) × (s.last ≡ old.last)) (SessionCounts J name book.next) (SessionCounts K name later s) one book.live keeps h
  where
    one : (old : Session Authority) → (s.number ≡ old.number) × (s.last ≡ old.last) → SessionCounts J name book.next old → SessionCounts K name later s
    one old (number, last) c =
        let under : old.number < book.next = c.below in
        let below : s.number < book.next = omega (arith, under, number) in
        record { below = omega (arith, below, le); count = last ∙ c.count ∙ ap (λ (k : ℕ). handled_since name k J) (sym number) ∙ sym (same below) }

-- what a step of a daemon keeps
pub record DaemonKept (J es : List Entry) (name : Name) (new : Book Authority) : Type 0 where
  pub ordered : EachBehind IsInOrderBy J es
  pub counts : Counts (J ++ es) name new
  pub own : AllByRecursion (IsOf (node.Entity name)) es
  pub silent : AllByRecursion IsSilent es

module _ (handlers : Handlers) (name : Name) (J : List Entry) (book new : Book Authority) (had has : Served → Type 0) (es : List Entry) (h : Counts J name book) where
  -- what is plain stays out of it
  plain-kept : AllByRecursion IsPlain es → new.next ≡ book.next → AllByRecursion (KeepsLast book) new.live → DaemonKept J es name new
  plain-kept plain next lasts =
      let le : book.next ≤ new.next = omega (arith, next) in
      record {
        ordered = plain-ordered es J plain;
        counts = all-map (KeepsLast book) (SessionCounts (J ++ es) name new.next)
            (λ s keeps. kept-counts J (J ++ es) name book new.next le h s keeps (λ below. count-still name s.number J es (all-map IsPlain (Untouched name) (plain-untouched name) es plain))) new.live lasts;
        own = all-map IsPlain (IsOf (node.Entity name)) (plain-of (node.Entity name)) es plain;
        silent = all-map IsPlain IsSilent plain-silent es plain;
      }

  rest-left : (rest : List Entry) → AllByRecursion IsQuiet rest → AllByRecursion IsPlain rest
  rest-left rest quiet = all-map IsQuiet IsPlain quiet-plain rest quiet

  rest-untouched : (rest : List Entry) → AllByRecursion IsQuiet rest → AllByRecursion (Untouched name) rest
  rest-untouched rest quiet = all-map IsPlain (Untouched name) (plain-untouched name) rest (rest-left rest quiet)

  -- one operation is handled
  module _ (t : TakesOne name book es new) (next : new.next ≡ book.next) where
    abbrev K : List Entry
    K = J ++ entry.Handled t.handled ∷ t.rest

    live-counts : SessionCounts J name book.next t.live
    live-counts = some-of (λ (s : Session Authority). s ≡ t.live) (SessionCounts J name book.next) (SessionCounts J name book.next t.live)
        (λ s same c. subst (SessionCounts J name book.next) same c) book.live t.lives h

    counts-next : t.handled.seq ≡ handled_since name t.handled.session J + 1
    counts-next = t.seq ∙ ap (λ (n : ℕ). n + 1) (live-counts.count ∙ ap (λ (k : ℕ). handled_since name k J) t.number)

    counted-now : (number : ℕ) → t.handled.session ≡ number → handled_since name number K ≡ handled_since name number J + 1
    counted-now number same =
        count-first name number J (entry.Handled t.handled) t.rest (rest-untouched t.rest t.quiet)
        ∙ ap (λ (b : Bool). if b then handled_since name number J + 1 else handled_since name number J) (own-turn t.handled.daemon name t.handled.session number t.daemon same)

    counted-else : (number : ℕ) → (t.handled.session ≡ number → ⊥) → handled_since name number K ≡ handled_since name number J
    counted-else number other =
        count-first name number J (entry.Handled t.handled) t.rest (rest-untouched t.rest t.quiet)
        ∙ ap (λ (b : Bool). if b then handled_since name number J + 1 else handled_since name number J) (other-turn t.handled.daemon name t.handled.session number other)

    one-taken : (s : Session Authority) → ((t.handled.session ≡ s.number → ⊥) × KeepsLast book s) ⊎ ((s.number ≡ t.handled.session) × (s.last ≡ t.handled.seq)) → SessionCounts K name new.next s
    one-taken s (inl (other, keeps)) = kept-counts J K name book new.next (omega (arith, next)) h s keeps (λ below. counted-else s.number other)
    one-taken s (inr (number, last)) =
        let under : t.live.number < book.next = live-counts.below in
        let its : t.live.number ≡ t.handled.session = t.number in
        record {
          below = omega (arith, under, its, number, next);
          count = last ∙ counts-next ∙ ap (λ (k : ℕ). handled_since name k J + 1) (sym number) ∙ sym (counted-now s.number (sym number));
        }

    takes-kept : DaemonKept J es name new
    takes-kept = subst (λ (l : List Entry). DaemonKept J l name new) (sym t.entries_are) (record {
      ordered = (
        (tt, counts-next ∙ ap (λ (n : Name). handled_since n t.handled.session J + 1) (sym t.daemon)),
        plain-ordered t.rest (J ++ entry.Handled t.handled ∷ []) (rest-left t.rest t.quiet),
      );
      counts = all-map (λ (s : Session Authority). ((t.handled.session ≡ s.number → ⊥) × KeepsLast book s) ⊎ ((s.number ≡ t.handled.session) × (s.last ≡ t.handled.seq)))
          (SessionCounts K name new.next) one-taken new.live t.lasts;
      own = (
        ap (λ (n : Name). node.Entity n) t.daemon,
        all-map IsPlain (IsOf (node.Entity name)) (plain-of (node.Entity name)) t.rest (rest-left t.rest t.quiet),
      );
      silent = (tt, all-map IsPlain IsSilent plain-silent t.rest (rest-left t.rest t.quiet));
    })

  rests-kept : Rests handlers name book had has es new → DaemonKept J es name new
  rests-kept r = by_way r.takes
    where
      by_way : TakesNone book es new ⊎ TakesOne name book es new → DaemonKept J es name new
      by_way (inl t) = plain-kept (rest-left es t.quiet) r.book_is.next t.lasts
      by_way (inr t) = takes-kept t r.book_is.next

  -- one session is admitted, of which nothing was handled
  module _ (r : AdmitsOne name book had has es new) where
    abbrev L : List Entry
    L = J ++ entry.Admitted r.admitted ∷ r.rest

    admitted-now : (number : ℕ) → r.admitted.session ≡ number → handled_since name number L ≡ 0
    admitted-now number same =
        count-first name number J (entry.Admitted r.admitted) r.rest (rest-untouched r.rest r.quiet)
        ∙ ap (λ (b : Bool). if b then 0 else handled_since name number J) (own-turn r.admitted.daemon name r.admitted.session number r.daemon same)

    admitted-else : (number : ℕ) → (r.admitted.session ≡ number → ⊥) → handled_since name number L ≡ handled_since name number J
    admitted-else number other =
        count-first name number J (entry.Admitted r.admitted) r.rest (rest-untouched r.rest r.quiet)
        ∙ ap (λ (b : Bool). if b then 0 else handled_since name number J) (other-turn r.admitted.daemon name r.admitted.session number other)

    one-admitted : (s : Session Authority) → KeepsLast book s ⊎ ((s.number ≡ book.next) × (s.last ≡ 0)) → SessionCounts L name new.next s
    one-admitted s (inl keeps) =
        let next : new.next ≡ book.next + 1 = r.next in
        let session : r.admitted.session ≡ book.next = r.session in
        kept-counts J L name book new.next (omega (arith, next)) h s keeps (λ below. admitted-else s.number (λ same. omega (arith, same, session, below)))
    one-admitted s (inr (number, none)) =
        let next : new.next ≡ book.next + 1 = r.next in
        record { below = omega (arith, next, number); count = none ∙ sym (admitted-now s.number (r.session ∙ sym number)) }

    admits-kept : DaemonKept J es name new
    admits-kept = subst (λ (l : List Entry). DaemonKept J l name new) (sym r.entries_are) (record {
      ordered = ((tt, tt), plain-ordered r.rest (J ++ entry.Admitted r.admitted ∷ []) (rest-left r.rest r.quiet));
      counts = all-map (λ (s : Session Authority). KeepsLast book s ⊎ ((s.number ≡ book.next) × (s.last ≡ 0))) (SessionCounts L name new.next) one-admitted new.live r.lasts;
      own = (
        ap (λ (n : Name). node.Entity n) r.daemon,
        all-map IsPlain (IsOf (node.Entity name)) (plain-of (node.Entity name)) r.rest (rest-left r.rest r.quiet),
      );
      silent = (tt, all-map IsPlain IsSilent plain-silent r.rest (rest-left r.rest r.quiet));
    })

  comes-kept : Comes handlers name book had has es new → DaemonKept J es name new
  comes-kept (Rested r) = rests-kept r
  comes-kept (Admitting r) = admits-kept r
  comes-kept (Resuming r) = plain-kept (subst (AllByRecursion IsPlain) (sym r.entries_are) (tt, rest-left r.rest r.quiet)) r.next r.lasts
  comes-kept (Ending r) = plain-kept (subst (AllByRecursion IsPlain) (sym r.entries_are) (tt, tt)) r.next r.lasts

  -- whatever comes
  pub step-kept : StepComes handlers name book had has es new → DaemonKept J es name new
  step-kept (inl comes) = comes-kept comes
  step-kept (inr r) =
      let plain : AllByRecursion IsPlain es = subst (AllByRecursion IsPlain) (sym r.entries_are) (tt, tt) in
      record {
        ordered = plain-ordered es J plain;
        counts = subst (AllByRecursion (SessionCounts (J ++ es) name new.next)) (sym r.lives) tt;
        own = all-map IsPlain (IsOf (node.Entity name)) (plain-of (node.Entity name)) es plain;
        silent = all-map IsPlain IsSilent plain-silent es plain;
      }
