-- The sessions of a client are with different daemons; what is so of each stays so where one is put in the place of another, and where some are forgotten.
use Rattle.std.proofs.Common.{◌≡◌, Bool, true, false, cond, List, [], ◌∷◌, filter, Option, Some, None, refl, sym, ap, ◌∙◌}
use Rattle.std.specs.Prelude.{not, if◌then◌else◌}
use Rattle.std.specs.List.{AllByRecursion}
use Rattle.cx_base.proofs.Names.{same_name_is}
use Rattle.cx_base.specs.Names.{Name, same_name}
use Rattle.cx_laws_sessions.proofs.session.Lists.{all-map, found-all}
use Rattle.cx_laws_sessions.proofs.session.Runs.{other-way}
use Rattle.cx_laws_sessions.specs.cx_rules_session.specs.Sessions.{HeldSession, put_session, session_with, with_session}

-- none of them is with this daemon
abbrev pub NoneWith : Name → List HeldSession → Type 0
NoneWith daemon sessions = AllByRecursion (λ (s : HeldSession). same_name s.daemon daemon ≡ false) sessions

abbrev pub AreApart : List HeldSession → Type 0
AreApart [] = Unit {0}
AreApart (s ∷ sessions) = NoneWith s.daemon sessions × AreApart sessions

-- what holds of the session of a link, where there is one
abbrev pub HeldIs : (HeldSession → Type 0) → Option HeldSession → Type 0
HeldIs Q None = Unit {0}
HeldIs Q (Some s) = Q s

pub all-filter : {X : Type 0} (P : X → Type 0) (test : X → Bool) (xs : List X) → AllByRecursion P xs → AllByRecursion P (filter test xs)
all-filter P test [] h = tt
all-filter {X} P test (x ∷ xs) h = by_test (test x) (all-filter P test xs h.1)
  where
    by_test : (t : Bool) → AllByRecursion P (filter test xs) → AllByRecursion P (cond t (x ∷ filter test xs) (filter test xs))
    by_test true rest = (h.0, rest)
    by_test false rest = rest

pub apart-filter : (test : HeldSession → Bool) (sessions : List HeldSession) → AreApart sessions → AreApart (filter test sessions)
apart-filter test [] h = tt
apart-filter test (s ∷ sessions) h = by_test (test s) (apart-filter test sessions h.1)
  where
    by_test : (t : Bool) → AreApart (filter test sessions) → AreApart (cond t (s ∷ filter test sessions) (filter test sessions))
    by_test true rest = (all-filter (λ (o : HeldSession). same_name o.daemon s.daemon ≡ false) test sessions h.0, rest)
    by_test false rest = rest

-- the others are as before, or what is so of them is so of what they are now
module _ (P Q : HeldSession → Type 0) (new : HeldSession) (is : Q new) (others : (s : HeldSession) → same_name s.daemon new.daemon ≡ false → P s → Q s) where
  others-all : (daemon : Name) → daemon ≡ new.daemon → (sessions : List HeldSession) → NoneWith daemon sessions → AllByRecursion P sessions → AllByRecursion Q sessions
  others-all daemon same [] none h = tt
  others-all daemon same (s ∷ sessions) none h =
      (others s (sym (ap (λ (n : Name). same_name s.daemon n) same) ∙ none.0) h.0, others-all daemon same sessions none.1 h.1)

  pub put-all : (sessions : List HeldSession) → AreApart sessions → AllByRecursion P sessions → AllByRecursion Q (put_session new sessions)
  put-all [] apart h = (is, tt)
  put-all (o ∷ sessions) apart h = by_test (same_name o.daemon new.daemon) refl (put-all sessions apart.1 h.1)
    where
      by_test : (t : Bool) → same_name o.daemon new.daemon ≡ t → AllByRecursion Q (put_session new sessions)
          → AllByRecursion Q (if t then new ∷ sessions else o ∷ put_session new sessions)
      by_test true same rest = (is, others-all o.daemon (same_name_is o.daemon new.daemon same) sessions apart.0 h.1)
      by_test false off rest = (others o off h.0, rest)

put-each : (P : HeldSession → Type 0) (new : HeldSession) → P new → (sessions : List HeldSession) → AllByRecursion P sessions → AllByRecursion P (put_session new sessions)
put-each P new is [] h = (is, tt)
put-each P new is (o ∷ sessions) h = by_test (same_name o.daemon new.daemon) (put-each P new is sessions h.1)
  where
    by_test : (t : Bool) → AllByRecursion P (put_session new sessions) → AllByRecursion P (if t then new ∷ sessions else o ∷ put_session new sessions)
    by_test true rest = (is, h.1)
    by_test false rest = (h.0, rest)

pub apart-put : (new : HeldSession) (sessions : List HeldSession) → AreApart sessions → AreApart (put_session new sessions)
apart-put new [] h = (tt, tt)
apart-put new (o ∷ sessions) h = by_test (same_name o.daemon new.daemon) refl (apart-put new sessions h.1)
  where
    by_test : (t : Bool) → same_name o.daemon new.daemon ≡ t → AreApart (put_session new sessions) → AreApart (if t then new ∷ sessions else o ∷ put_session new sessions)
    by_test true same rest =
        let one : o.daemon ≡ new.daemon = same_name_is o.daemon new.daemon same in (
          all-map (λ (s : HeldSession). same_name s.daemon o.daemon ≡ false) (λ (s : HeldSession). same_name s.daemon new.daemon ≡ false)
              (λ s off. sym (ap (λ (n : Name). same_name s.daemon n) one) ∙ off) sessions h.0,
          h.1,
        )
    by_test false off rest =
        (put-each (λ (s : HeldSession). same_name s.daemon o.daemon ≡ false) new (other-way new.daemon o.daemon off) sessions h.0, rest)

-- the session of a link is put in its place, or there is none with its daemon
pub with-all : (P : HeldSession → Type 0) (daemon : Name) (session : Option HeldSession) → HeldIs P session → (sessions : List HeldSession)
    → AllByRecursion P sessions → AllByRecursion P (with_session daemon session sessions)
with-all P daemon None is sessions h = all-filter P (λ s. not (same_name s.daemon daemon)) sessions h
with-all P daemon (Some s) is sessions h = put-each P s is sessions h

pub apart-with : (daemon : Name) (session : Option HeldSession) (sessions : List HeldSession) → AreApart sessions → AreApart (with_session daemon session sessions)
apart-with daemon None sessions h = apart-filter (λ s. not (same_name s.daemon daemon)) sessions h
apart-with daemon (Some s) sessions h = apart-put s sessions h

-- and the one with a daemon is one of them
pub held-all : (P : HeldSession → Type 0) (daemon : Name) (sessions : List HeldSession) → AllByRecursion P sessions → HeldIs P (session_with daemon sessions)
held-all P daemon sessions h = by_found (session_with daemon sessions) refl
  where
    by_found : (found : Option HeldSession) → session_with daemon sessions ≡ found → HeldIs P found
    by_found None is = tt
    by_found (Some s) is = found-all P (λ (t : HeldSession). same_name t.daemon daemon) sessions s h is
