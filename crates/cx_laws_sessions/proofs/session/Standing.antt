-- The session of a number at a daemon, as a journal tells it: of the entries that open or end it the last decides.
use Rattle.std.proofs.Common.{◌≡◌, ℕ, Bool, true, false, List, [], ◌∷◌, ◌++◌, Option, Some, None, refl, sym, ap, ◌∙◌, subst, eqb-true, eq-eqb}
use Rattle.std.proofs.lemmas.Bool.{and_parts}
use Rattle.std.proofs.lemmas.List.{append-nil, append_assoc}
use Rattle.std.specs.Prelude.{◌==◌, ◌&&◌, ◌||◌, if◌then◌else◌}
use Rattle.std.specs.List.{AllByRecursion, list_any}
use Rattle.cx_base.proofs.Names.{same_name_is, same_name_self}
use Rattle.cx_base.specs.Names.{Name, same_name}
use Rattle.cx_journal.specs.Nodes.{is_node_of}
use Rattle.cx_journal.specs.Sessions.{IsHandledIn, ends_session, is_opening, session_of}
use Rattle.cx_journal.specs.declared.entries.Admitted.{Admitted}
use Rattle.cx_journal.specs.declared.entries.Entry.{Entry}
use Rattle.cx_journal.specs.declared.entries.Entry.TheVariants as entry
use Rattle.cx_journal.specs.declared.entries.Handled.{Handled}

-- whether the entry opens or ends the session of this number at this daemon
abbrev pub turns_session : Name → ℕ → Entry → Bool
turns_session daemon number (entry.Admitted a) = same_name a.daemon daemon && (a.session == number)
turns_session daemon number (entry.Resumed a) = same_name a.daemon daemon && (a.session == number)
turns_session daemon number (entry.Ended e) = same_name e.daemon daemon && (e.session == number)
turns_session daemon number (entry.Restarted at) = is_node_of daemon at
turns_session daemon number _ = false

-- the session behind an entry
abbrev pub stood : Name → ℕ → Option Admitted → Entry → Option Admitted
stood daemon number was e = if turns_session daemon number e then session_of e else was

-- behind more of them
abbrev pub stood_all : Name → ℕ → Option Admitted → List Entry → Option Admitted
stood_all daemon number was [] = was
stood_all daemon number was (e ∷ es) = stood_all daemon number (stood daemon number was e) es

-- behind all of them
abbrev pub standing : Name → ℕ → List Entry → Option Admitted
standing daemon number entries = stood_all daemon number None entries

pub stood-append : (daemon : Name) (number : ℕ) (was : Option Admitted) (xs ys : List Entry)
    → stood_all daemon number was (xs ++ ys) ≡ stood_all daemon number (stood_all daemon number was xs) ys
stood-append daemon number was [] ys = refl
stood-append daemon number was (x ∷ xs) ys = stood-append daemon number (stood daemon number was x) xs ys

-- ---- which entries open or end one

pub own-turn : (daemon name : Name) (k number : ℕ) → daemon ≡ name → k ≡ number → (same_name daemon name && (k == number)) ≡ true
own-turn daemon name k number same is =
    rw (ap (λ (n : Name). same_name n name) same ∙ same_name_self name, eq-eqb k number is) refl

pub other-turn : (daemon name : Name) (k number : ℕ) → (k ≡ number → ⊥) → (same_name daemon name && (k == number)) ≡ false
other-turn daemon name k number other = by_tests (same_name daemon name) (k == number) refl
  where
    by_tests : (same one : Bool) → (k == number) ≡ one → (same && one) ≡ false
    by_tests false one is = refl
    by_tests true false is = refl
    by_tests true true is = absurd (other (eqb-true k number is))

pub elsewhere-turn : (daemon name : Name) (k number : ℕ) → same_name daemon name ≡ false → (same_name daemon name && (k == number)) ≡ false
elsewhere-turn daemon name k number other = rw other refl

-- the entry opens or ends no session of any daemon
abbrev pub Leaves : Entry → Type 0
Leaves e = (daemon : Name) (number : ℕ) → turns_session daemon number e ≡ false

abbrev pub LeavesOf : Name → Entry → Type 0
LeavesOf daemon e = (number : ℕ) → turns_session daemon number e ≡ false

pub still-stands : (daemon : Name) (number : ℕ) (was : Option Admitted) (es : List Entry) → AllByRecursion (LeavesOf daemon) es → stood_all daemon number was es ≡ was
still-stands daemon number was [] h = refl
still-stands daemon number was (e ∷ es) h = still-stands daemon number (stood daemon number was e) es h.1 ∙ rw (h.0 number) refl

pub standing-still : (daemon : Name) (number : ℕ) (J es : List Entry) → AllByRecursion (LeavesOf daemon) es → standing daemon number (J ++ es) ≡ standing daemon number J
standing-still daemon number J es h = stood-append daemon number None J es ∙ still-stands daemon number (standing daemon number J) es h

-- behind one that may, and more that don't
pub standing-first : (daemon : Name) (number : ℕ) (J : List Entry) (e : Entry) (es : List Entry) → AllByRecursion (LeavesOf daemon) es
    → standing daemon number (J ++ e ∷ es) ≡ stood daemon number (standing daemon number J) e
standing-first daemon number J e es h = stood-append daemon number None J (e ∷ es) ∙ still-stands daemon number (stood daemon number (standing daemon number J) e) es h

-- ---- the entry that opened it

-- one of these entries opened the session, which is this daemon's and has this number; behind it none opens or ends it
pub record OpensAt (daemon : Name) (number : ℕ) (entries : List Entry) (session : Admitted) : Type 0 where
  pub before : List Entry
  pub opening : Entry
  pub between : List Entry
  pub place : entries ≡ before ++ opening ∷ between
  pub opens : session_of opening ≡ Some session
  pub daemon_is : session.daemon ≡ daemon
  pub session_is : session.session ≡ number
  pub quiet : list_any (turns_session daemon number) between ≡ false

any-more : {X : Type 0} (test : X → Bool) (xs : List X) (x : X) → list_any test xs ≡ false → test x ≡ false → list_any test (xs ++ x ∷ []) ≡ false
any-more test [] x h misses = rw misses refl
any-more test (y ∷ xs) x h misses = by_test (test y) h (any-more test xs x)
  where
    by_test : (t : Bool) → (t || list_any test xs) ≡ false → (list_any test xs ≡ false → test x ≡ false → list_any test (xs ++ x ∷ []) ≡ false)
        → (t || list_any test (xs ++ x ∷ [])) ≡ false
    by_test true h rest = absurd cc
    by_test false h rest = rest h misses

any-less : {X : Type 0} (f g : X → Bool) → ((x : X) → f x ≡ false → g x ≡ false) → (xs : List X) → list_any f xs ≡ false → list_any g xs ≡ false
any-less f g less [] h = refl
any-less f g less (x ∷ xs) h = by_test (f x) refl h (any-less f g less xs)
  where
    by_test : (t : Bool) → f x ≡ t → (t || list_any f xs) ≡ false → (list_any f xs ≡ false → list_any g xs ≡ false) → (g x || list_any g xs) ≡ false
    by_test true is h rest = absurd cc
    by_test false is h rest = rw (less x is) (rest h)

module _ (daemon : Name) (number : ℕ) where
  -- the session that an entry opens is that daemon's, and has that number
  opened-is : (e : Entry) (a : Admitted) → turns_session daemon number e ≡ true → session_of e ≡ Some a → (a.daemon ≡ daemon) × (a.session ≡ number)
  opened-is (entry.Admitted s) a turns is =
      let same : s ≡ a = cc in
      let both = and_parts (same_name s.daemon daemon) (s.session == number) turns in
      subst (λ (x : Admitted). (x.daemon ≡ daemon) × (x.session ≡ number)) same (same_name_is s.daemon daemon both.0, eqb-true s.session number both.1)
  opened-is (entry.Resumed s) a turns is =
      let same : s ≡ a = cc in
      let both = and_parts (same_name s.daemon daemon) (s.session == number) turns in
      subst (λ (x : Admitted). (x.daemon ≡ daemon) × (x.session ≡ number)) same (same_name_is s.daemon daemon both.0, eqb-true s.session number both.1)
  opened-is (entry.Saved x) a turns is = absurd cc
  opened-is (entry.Issued x) a turns is = absurd cc
  opened-is (entry.Fetched x) a turns is = absurd cc
  opened-is (entry.Looked x) a turns is = absurd cc
  opened-is (entry.Sent x) a turns is = absurd cc
  opened-is (entry.Handled x) a turns is = absurd cc
  opened-is (entry.Answered x) a turns is = absurd cc
  opened-is (entry.Refused x) a turns is = absurd cc
  opened-is (entry.Ended x) a turns is = absurd cc
  opened-is (entry.Restarted x) a turns is = absurd cc
  opened-is (entry.Broken x) a turns is = absurd cc
  opened-is (entry.Leaked x) a turns is = absurd cc

  -- one more entry
  opens-more : (J : List Entry) (was : Option Admitted) (e : Entry) → ((a : Admitted) → was ≡ Some a → OpensAt daemon number J a)
      → (a : Admitted) → stood daemon number was e ≡ Some a → OpensAt daemon number (J ++ e ∷ []) a
  opens-more J was e before a = by_test (turns_session daemon number e) refl
    where
      by_test : (t : Bool) → turns_session daemon number e ≡ t → (if t then session_of e else was) ≡ Some a → OpensAt daemon number (J ++ e ∷ []) a
      by_test true turns is =
          let own = opened-is e a turns is in
          record { before = J; opening = e; between = []; place = refl; opens = is; daemon_is = own.0; session_is = own.1; quiet = refl }
      by_test false turns is =
          let o : OpensAt daemon number J a = before a is in
          record {
            before = o.before;
            opening = o.opening;
            between = o.between ++ e ∷ [];
            place = ap (λ (l : List Entry). l ++ e ∷ []) o.place ∙ append_assoc o.before (o.opening ∷ o.between) (e ∷ []);
            opens = o.opens;
            daemon_is = o.daemon_is;
            session_is = o.session_is;
            quiet = any-more (turns_session daemon number) o.between e o.quiet turns;
          }

  opens-along : (es J : List Entry) (was : Option Admitted) → ((a : Admitted) → was ≡ Some a → OpensAt daemon number J a)
      → (a : Admitted) → stood_all daemon number was es ≡ Some a → OpensAt daemon number (J ++ es) a
  opens-along [] J was before a is = subst (λ (l : List Entry). OpensAt daemon number l a) (sym (append-nil J)) (before a is)
  opens-along (e ∷ es) J was before a is =
      subst (λ (l : List Entry). OpensAt daemon number l a) (append_assoc J (e ∷ []) es)
      (opens-along es (J ++ e ∷ []) (stood daemon number was e) (opens-more J was e before) a is)

  -- the session that stands was opened by one of the entries, behind which none opens or ends it
  pub standing-opens : (J : List Entry) (a : Admitted) → standing daemon number J ≡ Some a → OpensAt daemon number J a
  standing-opens J a is = opens-along J [] None (λ b none. absurd cc) a is

  ends-turns : (e : Entry) → turns_session daemon number e ≡ false → ends_session daemon number e ≡ false
  ends-turns (entry.Resumed x) h = h
  ends-turns (entry.Ended x) h = h
  ends-turns (entry.Restarted x) h = h
  ends-turns (entry.Admitted x) h = refl
  ends-turns (entry.Saved x) h = refl
  ends-turns (entry.Issued x) h = refl
  ends-turns (entry.Fetched x) h = refl
  ends-turns (entry.Looked x) h = refl
  ends-turns (entry.Sent x) h = refl
  ends-turns (entry.Handled x) h = refl
  ends-turns (entry.Answered x) h = refl
  ends-turns (entry.Refused x) h = refl
  ends-turns (entry.Broken x) h = refl
  ends-turns (entry.Leaked x) h = refl

-- one of four that fails
inner-false : (a b c d : Bool) → (b && c) ≡ false → (a && b && c && d) ≡ false
inner-false false b c d h = refl
inner-false true false c d h = refl
inner-false true true false d h = refl
inner-false true true true d h = absurd cc

opening-turns : (handled : Handled) (e : Entry) → turns_session handled.daemon handled.session e ≡ false → is_opening handled e ≡ false
opening-turns handled (entry.Admitted a) h =
    inner-false (a.cookie == handled.cookie) (same_name a.daemon handled.daemon) (a.session == handled.session) (a.epoch == handled.epoch) h
opening-turns handled (entry.Resumed a) h =
    inner-false (a.cookie == handled.cookie) (same_name a.daemon handled.daemon) (a.session == handled.session) (a.epoch == handled.epoch) h
opening-turns handled (entry.Saved x) h = refl
opening-turns handled (entry.Issued x) h = refl
opening-turns handled (entry.Fetched x) h = refl
opening-turns handled (entry.Looked x) h = refl
opening-turns handled (entry.Sent x) h = refl
opening-turns handled (entry.Handled x) h = refl
opening-turns handled (entry.Answered x) h = refl
opening-turns handled (entry.Refused x) h = refl
opening-turns handled (entry.Ended x) h = refl
opening-turns handled (entry.Restarted x) h = refl
opening-turns handled (entry.Broken x) h = refl
opening-turns handled (entry.Leaked x) h = refl

-- what is handled under the epoch and the cookie of the session that stands is handled in it
pub standing-handles : (J : List Entry) (handled : Handled) (a : Admitted) → standing handled.daemon handled.session J ≡ Some a → a.epoch ≡ handled.epoch → a.cookie ≡ handled.cookie
    → IsHandledIn J handled a
standing-handles J handled a is epoch cookie =
    let o : OpensAt handled.daemon handled.session J a = standing-opens handled.daemon handled.session J a is in
    record {
      before = o.before;
      opening = o.opening;
      between = o.between;
      place = o.place;
      opens = o.opens;
      admits = record { daemon = o.daemon_is; session = o.session_is; epoch = epoch; cookie = cookie };
      stands = any-less (turns_session handled.daemon handled.session) (ends_session handled.daemon handled.session) (ends-turns handled.daemon handled.session) o.between o.quiet;
      latest = any-less (turns_session handled.daemon handled.session) (is_opening handled) (opening-turns handled) o.between o.quiet;
    }
