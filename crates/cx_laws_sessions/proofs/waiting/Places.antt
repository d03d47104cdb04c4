-- Where a client has each daemon: on one link, or waiting for one, or neither. So it has no two links to one daemon; and each link is for its session.
use Rattle.std.proofs.Common.{◌≡◌, ◌==◌, ◌<◌, ℕ, Bool, true, false, cond, List, [], ◌∷◌, filter, Option, arith, eq-eqb, ltb-true, refl, sym, ap, ◌∙◌, subst}
use Rattle.std.specs.List.{AllByRecursion}
use Rattle.std.specs.Prelude.{nat_lt, not, if◌then◌else◌}
use Rattle.cx_base.proofs.Names.{same_name_is, same_name_self}
use Rattle.cx_base.specs.Names.{Name, same_name}
use Rattle.cx_laws_sessions.proofs.session.Lists.{all-append}
use Rattle.cx_laws_sessions.specs.cx_rules.specs.Links.{Link, put_link, without_link}
use Rattle.cx_laws_sessions.specs.cx_rules.specs.Rows.{Outcome}
use Rattle.cx_laws_sessions.specs.cx_rules_session.specs.ClientRule.{ClientStage, ToMonitor, ToDaemon, Dial, ForLogin, ForCall, WholeClientNode, is_to}
use Rattle.cx_laws_sessions.specs.cx_rules_session.specs.Presenter.{callee_of}
use Rattle.cx_laws_sessions.specs.cx_rules_session.specs.Sessions.{HeldSession, session_with}
use Rattle.cx_laws_sessions.specs.waiting.Linked.{IsFor}

-- ---- places

pub data Place : Type 0 where
  Nowhere : Place
  Awaited : Place
  OnLink : ℕ → Place

-- a link to a daemon is where the daemon is, and for the session with it
abbrev pub StageAt : (Name → Place) → List HeldSession → ℕ → ClientStage → Type 0
StageAt at sessions number (ToMonitor stage) = Unit {0}
StageAt at sessions number (ToDaemon stage) = (at (callee_of stage).daemon ≡ OnLink number) × IsFor (session_with (callee_of stage).daemon sessions) stage

abbrev pub LinkAt : (Name → Place) → List HeldSession → Link ClientStage → Type 0
LinkAt at sessions link = StageAt at sessions link.number link.stage

-- one that is waited for isn't there yet
abbrev pub DialAt : (Name → Place) → Dial → Type 0
DialAt at (ForLogin services) = Unit {0}
DialAt at (ForCall called) = at called.callee.daemon ≡ Awaited

pub record Places (links : List (Link ClientStage)) (dials : List Dial) (sessions : List HeldSession) (at : Name → Place) : Type 0 where
  pub on : AllByRecursion (LinkAt at sessions) links
  pub waits : AllByRecursion (DialAt at) dials

-- so it is of a client
abbrev pub IsPlaced : WholeClientNode → Type 0
IsPlaced c = (at : Name → Place) × Places c.links c.own.dials c.own.sessions at

-- and behind a step of one
abbrev pub Placed : Outcome WholeClientNode → Type 0
Placed o = IsPlaced o.state

-- ---- lists

pub all-kept : {X : Type 0} (P Q : X → Type 0) (test : X → Bool) → ((x : X) → test x ≡ true → P x → Q x) → (xs : List X) → AllByRecursion P xs → AllByRecursion Q (filter test xs)
all-kept P Q test f [] h = tt
all-kept {X} P Q test f (x ∷ xs) h = by_test (test x) refl (all-kept P Q test f xs h.1)
  where
    by_test : (t : Bool) → test x ≡ t → AllByRecursion Q (filter test xs) → AllByRecursion Q (cond t (x ∷ filter test xs) (filter test xs))
    by_test true is rest = (f x is h.0, rest)
    by_test false is rest = rest

not-same : (x y : ℕ) → not (x == y) ≡ true → x ≡ y → ⊥
not-same x y off same = by_test (x == y) (eq-eqb x y same) off
  where
    by_test : (t : Bool) → t ≡ true → not t ≡ true → ⊥
    by_test true is off = cc
    by_test false is off = cc

module _ (P Q : Link ClientStage → Type 0) where
  pub all-put : (new : Link ClientStage) → Q new → ((l : Link ClientStage) → (l.number ≡ new.number → ⊥) → P l → Q l) → (links : List (Link ClientStage)) → AllByRecursion P links
      → AllByRecursion Q (put_link new links)
  all-put new is others links h =
      all-append Q (filter (λ (l : Link ClientStage). nat_lt l.number new.number) links) (new ∷ filter (λ (l : Link ClientStage). nat_lt new.number l.number) links)
      (all-kept P Q (λ (l : Link ClientStage). nat_lt l.number new.number)
      (λ l less p. others l (λ same. let under : l.number < new.number = ltb-true l.number new.number less in omega (arith, under, same)) p) links h) (
        is,
        all-kept P Q (λ (l : Link ClientStage). nat_lt new.number l.number)
            (λ l more p. others l (λ same. let over : new.number < l.number = ltb-true new.number l.number more in omega (arith, over, same)) p) links h,
      )

  pub all-without : (number : ℕ) → ((l : Link ClientStage) → (l.number ≡ number → ⊥) → P l → Q l) → (links : List (Link ClientStage)) → AllByRecursion P links
      → AllByRecursion Q (without_link number links)
  all-without number others links h =
      all-kept P Q (λ (l : Link ClientStage). not (l.number == number)) (λ l off p. others l (λ same. not-same l.number number off same) p) links h

-- ---- a daemon that moves

abbrev pub at_with : (Name → Place) → Name → Place → Name → Place
at_with at daemon place = λ other. if same_name other daemon then place else at other

pub place-own : (at : Name → Place) (daemon : Name) (place : Place) → at_with at daemon place daemon ≡ place
place-own at daemon place = ap (λ (t : Bool). if t then place else at daemon) (same_name_self daemon)

pub place-other : (at : Name → Place) (daemon other : Name) (place : Place) → same_name other daemon ≡ false → at_with at daemon place other ≡ at other
place-other at daemon other place off = ap (λ (t : Bool). if t then place else at other) off

-- a place of a link is no other one
pub on-one : (m n : ℕ) → OnLink m ≡ OnLink n → m ≡ n
on-one m n e = cc

pub not-awaited : (n : ℕ) → OnLink n ≡ Awaited → ⊥
not-awaited n e = cc

-- a link to another daemon is as before, where the session with it is
pub link-else : (at later : Name → Place) (sessions new : List HeldSession) (daemon : Name) → ((other : Name) → same_name other daemon ≡ false → at other ≡ later other)
    → ((other : Name) → same_name daemon other ≡ false → session_with other new ≡ session_with other sessions)
    → (number : ℕ) (stage : ClientStage) → is_to daemon stage ≡ false → StageAt at sessions number stage → StageAt later new number stage
link-else at later sessions new daemon stays same number (ToMonitor stage) off h = tt
link-else at later sessions new daemon stays same number (ToDaemon stage) off h = (
  sym (stays (callee_of stage).daemon off) ∙ h.0,
  subst (λ (o : Option HeldSession). IsFor o stage) (sym (same (callee_of stage).daemon (flip daemon (callee_of stage).daemon off))) h.1,
)
  where
    flip : (a b : Name) → same_name b a ≡ false → same_name a b ≡ false
    flip a b apart = by_test (same_name a b) refl
      where
        by_test : (t : Bool) → same_name a b ≡ t → t ≡ false
        by_test true is = absurd (let e : true ≡ false = sym (ap (λ (n : Name). same_name b n) (same_name_is a b is) ∙ same_name_self b) ∙ apart in cc)
        by_test false is = refl

-- no link is to a daemon that is elsewhere
pub elsewhere : (at : Name → Place) (sessions : List HeldSession) (daemon : Name) (number : ℕ) (stage : ClientStage) → (at daemon ≡ OnLink number → ⊥) → StageAt at sessions number stage
    → is_to daemon stage ≡ false
elsewhere at sessions daemon number (ToMonitor stage) none h = refl
elsewhere at sessions daemon number (ToDaemon stage) none h = by_test (same_name (callee_of stage).daemon daemon) refl
  where
    by_test : (t : Bool) → same_name (callee_of stage).daemon daemon ≡ t → t ≡ false
    by_test true is = absurd (none (sym (ap at (same_name_is (callee_of stage).daemon daemon is)) ∙ h.0))
    by_test false is = refl
