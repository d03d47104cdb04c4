-- Where each cookie of a client is: where draws are fresh it is told on one link, and becomes that of one session, whatever ends and begins anew. So what is
-- sent under it is counted by that session.
use Rattle.std.proofs.Common.{◌≡◌, ◌==◌, ◌<◌, ℕ, Bool, true, false, cond, not, List, [], ◌∷◌, filter, length, Option, Some, None, arith, eq-eqb, eqb-true, ltb-true, refl, sym, ap, ◌∙◌, subst}
use Rattle.std.specs.List.{AllByRecursion}
use Rattle.std.specs.Prelude.{nat_lt, if◌then◌else◌}
use Rattle.cx_base.specs.Names.{Name}
use Rattle.cx_journal.specs.declared.entries.Entry.{Entry}
use Rattle.cx_laws_sessions.proofs.queues.Calls.{awaited}
use Rattle.cx_laws_sessions.proofs.queues.Numbers.{all_under}
use Rattle.cx_laws_sessions.proofs.session.Lists.{all-append, all-map}
use Rattle.cx_laws_sessions.specs.cx_rules.specs.Links.{Link, put_link, without_link}
use Rattle.cx_laws_sessions.specs.cx_rules_session.specs.ClientRule.{ClientStage, ToMonitor, ToDaemon}
use Rattle.cx_laws_sessions.specs.cx_rules_session.specs.Sessions.{HeldSession}

-- ---- places

-- A cookie is nowhere where the client didn't draw it. It is at a link of the client to a daemon, by its number, where it was drawn there and no session was
-- opened under it; then nothing was sent under it. It is in a session, by its daemon, where one was opened under it, which may have ended since.
pub data Place : Type 0 where
  Nowhere : Place
  AtLink : ℕ → Place
  InSession : Name → Place

-- what is so of a cookie by its place, where these cookies were drawn
abbrev pub Told : (ℕ → Type 0) → Name → List Entry → ℕ → Place → Type 0
Told was client J cookie Nowhere = all_under client cookie J ≡ []
Told was client J cookie (AtLink number) = was cookie × (all_under client cookie J ≡ [])
Told was client J cookie (InSession daemon) = was cookie

-- a session is asked for on a link under the cookie that is there
abbrev pub IsAwaitedAt : (ℕ → Place) → ℕ → Option ℕ → Type 0
IsAwaitedAt at number None = Unit {0}
IsAwaitedAt at number (Some cookie) = at cookie ≡ AtLink number

abbrev pub awaited_on : ClientStage → Option ℕ
awaited_on (ToMonitor stage) = None
awaited_on (ToDaemon stage) = awaited stage

abbrev pub LinkPlaced : (ℕ → Place) → Link ClientStage → Type 0
LinkPlaced at link = IsAwaitedAt at link.number (awaited_on link.stage)

-- the cookie of a session is in it, and what was sent under it was sent in it
pub record SessionPlaced (at : ℕ → Place) (client : Name) (J : List Entry) (s : HeldSession) : Type 0 where
  pub place : at s.client_cookie ≡ InSession s.daemon
  pub count : length (all_under client s.client_cookie J) ≡ s.queue.last

-- so it is of all cookies, of each link and of each session of a client
pub record Places (was : ℕ → Type 0) (client : Name) (J : List Entry) (links : List (Link ClientStage)) (sessions : List HeldSession) (at : ℕ → Place) : Type 0 where
  pub told : (cookie : ℕ) → Told was client J cookie (at cookie)
  pub waits : AllByRecursion (LinkPlaced at) links
  pub held : AllByRecursion (SessionPlaced at client J) sessions

-- and so it is but for the link of a number, which is about to change
abbrev pub OtherPlaced : (ℕ → Place) → ℕ → Link ClientStage → Type 0
OtherPlaced at number link = (link.number ≡ number → ⊥) → LinkPlaced at link

pub record PlacesBut (was : ℕ → Type 0) (client : Name) (J : List Entry) (number : ℕ) (links : List (Link ClientStage)) (sessions : List HeldSession) (at : ℕ → Place) : Type 0 where
  pub told : (cookie : ℕ) → Told was client J cookie (at cookie)
  pub others : AllByRecursion (OtherPlaced at number) links
  pub held : AllByRecursion (SessionPlaced at client J) sessions

-- the client's cookies are at some places
abbrev pub Placed : (ℕ → Type 0) → Name → List Entry → List (Link ClientStage) → List HeldSession → Type 0
Placed was client J links sessions = (at : ℕ → Place) × Places was client J links sessions at

-- ---- what was drawn and entered since

pub told-on : (was is : ℕ → Type 0) (client : Name) (J K : List Entry) (cookie : ℕ) → (was cookie → is cookie) → all_under client cookie K ≡ all_under client cookie J
    → (p : Place) → Told was client J cookie p → Told is client K cookie p
told-on was is client J K cookie grows same Nowhere told = same ∙ told
told-on was is client J K cookie grows same (AtLink number) told = (grows told.0, same ∙ told.1)
told-on was is client J K cookie grows same (InSession daemon) told = grows told

pub session-on : (at : ℕ → Place) (client : Name) (J K : List Entry) (s : HeldSession) → all_under client s.client_cookie K ≡ all_under client s.client_cookie J
    → SessionPlaced at client J s → SessionPlaced at client K s
session-on at client J K s same h = record { place = h.place; count = ap length same ∙ h.count }

pub places-on : (was is : ℕ → Type 0) (client : Name) (J K : List Entry) (links : List (Link ClientStage)) (sessions : List HeldSession) (at : ℕ → Place)
    → ((cookie : ℕ) → was cookie → is cookie) → ((cookie : ℕ) → all_under client cookie K ≡ all_under client cookie J)
    → Places was client J links sessions at → Places is client K links sessions at
places-on was is client J K links sessions at grows same p = record {
  told = λ cookie. told-on was is client J K cookie (grows cookie) (same cookie) (at cookie) (p.told cookie);
  waits = p.waits;
  held = all-map (SessionPlaced at client J) (SessionPlaced at client K) (λ s h. session-on at client J K s (same s.client_cookie) h) sessions p.held;
}

-- ---- a cookie that moves

abbrev pub at_with : (ℕ → Place) → ℕ → Place → ℕ → Place
at_with at cookie place = λ other. if other == cookie then place else at other

pub place-with : (at : ℕ → Place) (cookie : ℕ) (place : Place) → at_with at cookie place cookie ≡ place
place-with at cookie place = rw (eq-eqb cookie cookie refl) refl

-- nothing was sent under the cookie that is here, and on no other link a session is asked for under it
abbrev pub IsFreeFor : ℕ → Place → Type 0
IsFreeFor number Nowhere = Unit {0}
IsFreeFor number (AtLink n) = n ≡ number
IsFreeFor number (InSession daemon) = ⊥

free-unsent : (was : ℕ → Type 0) (client : Name) (J : List Entry) (cookie number : ℕ) (p : Place) → IsFreeFor number p → Told was client J cookie p → all_under client cookie J ≡ []
free-unsent was client J cookie number Nowhere free told = told
free-unsent was client J cookie number (AtLink n) free told = told.1
free-unsent was client J cookie number (InSession daemon) free told = absurd free

told-at : (was : ℕ → Type 0) (client : Name) (J : List Entry) (cookie : ℕ) (p : Place) → was cookie → all_under client cookie J ≡ [] → Told was client J cookie p
told-at was client J cookie Nowhere drawn unsent = unsent
told-at was client J cookie (AtLink n) drawn unsent = (drawn, unsent)
told-at was client J cookie (InSession daemon) drawn unsent = drawn

-- a cookie that wasn't drawn is nowhere
pub new-nowhere : (was : ℕ → Type 0) (client : Name) (J : List Entry) (cookie : ℕ) (p : Place) → Told was client J cookie p → (was cookie → ⊥) → p ≡ Nowhere
new-nowhere was client J cookie Nowhere told new = refl
new-nowhere was client J cookie (AtLink n) told new = absurd (new told.0)
new-nowhere was client J cookie (InSession daemon) told new = absurd (new told)

module _ (at : ℕ → Place) (cookie number : ℕ) (place : Place) (free : IsFreeFor number (at cookie)) where
  -- what is at a place that isn't free is another cookie, and stays there
  other-stays : (x : ℕ) (p : Place) → (IsFreeFor number p → ⊥) → at x ≡ p → at_with at cookie place x ≡ p
  other-stays x p taken is = by_test (x == cookie) refl
    where
      by_test : (t : Bool) → (x == cookie) ≡ t → (if t then place else at x) ≡ p
      by_test true same = absurd (taken (subst (IsFreeFor number) (sym (ap at (eqb-true x cookie same)) ∙ is) free))
      by_test false other = is

  told-moves : (was : ℕ → Type 0) (client : Name) (J : List Entry) → was cookie → ((x : ℕ) → Told was client J x (at x)) → (x : ℕ) → Told was client J x (at_with at cookie place x)
  told-moves was client J drawn told x = by_test (x == cookie) refl
    where
      by_test : (t : Bool) → (x == cookie) ≡ t → Told was client J x (if t then place else at x)
      by_test true same =
          subst (λ (k : ℕ). Told was client J k place) (sym (eqb-true x cookie same))
          (told-at was client J cookie place drawn (free-unsent was client J cookie number (at cookie) free (told cookie)))
      by_test false other = told x

  session-stays : (client : Name) (J : List Entry) (s : HeldSession) → SessionPlaced at client J s → SessionPlaced (at_with at cookie place) client J s
  session-stays client J s h = record { place = other-stays s.client_cookie (InSession s.daemon) (λ no. no) h.place; count = h.count }

  awaited-stays : (n : ℕ) → (n ≡ number → ⊥) → (o : Option ℕ) → IsAwaitedAt at n o → IsAwaitedAt (at_with at cookie place) n o
  awaited-stays n apart None h = tt
  awaited-stays n apart (Some k) h = other-stays k (AtLink n) apart h

  -- the link of this number apart, all is as before where it moves
  pub but-moves : (was : ℕ → Type 0) (client : Name) (J : List Entry) (links : List (Link ClientStage)) (sessions : List HeldSession) → was cookie
      → PlacesBut was client J number links sessions at → PlacesBut was client J number links sessions (at_with at cookie place)
  but-moves was client J links sessions drawn b = record {
    told = told-moves was client J drawn b.told;
    others = all-map (OtherPlaced at number) (OtherPlaced (at_with at cookie place) number) (λ l h apart. awaited-stays l.number apart (awaited_on l.stage) (h apart)) links b.others;
    held = all-map (SessionPlaced at client J) (SessionPlaced (at_with at cookie place) client J) (λ s h. session-stays client J s h) sessions b.held;
  }

-- ---- a link that is put, or taken away

all-kept : {X : Type 0} (P Q : X → Type 0) (test : X → Bool) → ((x : X) → test x ≡ true → P x → Q x) → (xs : List X) → AllByRecursion P xs → AllByRecursion Q (filter test xs)
all-kept P Q test f [] h = tt
all-kept {X} P Q test f (x ∷ xs) h = by_test (test x) refl (all-kept P Q test f xs h.1)
  where
    by_test : (t : Bool) → test x ≡ t → AllByRecursion Q (filter test xs) → AllByRecursion Q (cond t (x ∷ filter test xs) (filter test xs))
    by_test true is rest = (f x is h.0, rest)
    by_test false is rest = rest

not-same : (x y : ℕ) → not (x == y) ≡ true → x ≡ y → ⊥
not-same x y off same = by_test (x == y) (eq-eqb x y same) off
  where
    by_test : (t : Bool) → t ≡ true → not t ≡ true → ⊥
    by_test true is off = cc
    by_test false is off = cc

below-apart : (x y n : ℕ) → y ≡ n → nat_lt x y ≡ true → x ≡ n → ⊥
below-apart x y n is less same = let under : x < y = ltb-true x y less in omega (arith, under, is, same)

above-apart : (x y n : ℕ) → y ≡ n → nat_lt y x ≡ true → x ≡ n → ⊥
above-apart x y n is more same = let over : y < x = ltb-true y x more in omega (arith, over, is, same)

module _ (was : ℕ → Type 0) (client : Name) (J : List Entry) (number : ℕ) (links : List (Link ClientStage)) (sessions : List HeldSession) (at : ℕ → Place) where
  pub but-of : Places was client J links sessions at → PlacesBut was client J number links sessions at
  but-of p = record { told = p.told; others = all-map (LinkPlaced at) (OtherPlaced at number) (λ l h apart. h) links p.waits; held = p.held }

  pub but-without : PlacesBut was client J number links sessions at → Places was client J (without_link number links) sessions at
  but-without b = record {
    told = b.told;
    waits = all-kept (OtherPlaced at number) (LinkPlaced at) (λ (l : Link ClientStage). not (l.number == number)) (λ l off h. h (λ same. not-same l.number number off same)) links b.others;
    held = b.held;
  }

  pub but-put : PlacesBut was client J number links sessions at → (new : Link ClientStage) → new.number ≡ number → LinkPlaced at new → Places was client J (put_link new links) sessions at
  but-put b new is placed = record {
    told = b.told;
    waits = all-append (LinkPlaced at) (filter (λ (l : Link ClientStage). nat_lt l.number new.number) links) (new ∷ filter (λ (l : Link ClientStage). nat_lt new.number l.number) links)
        (all-kept (OtherPlaced at number) (LinkPlaced at) (λ (l : Link ClientStage). nat_lt l.number new.number) (λ l less h. h (λ same. below-apart l.number new.number number is less same)) links b.others)
        (placed, all-kept (OtherPlaced at number) (LinkPlaced at) (λ (l : Link ClientStage). nat_lt new.number l.number) (λ l more h. h (λ same. above-apart l.number new.number number is more same)) links b.others);
    held = b.held;
  }

-- of a link that keeps what is so of all
module _ (was : ℕ → Type 0) (client : Name) (J : List Entry) (links : List (Link ClientStage)) (sessions : List HeldSession) (at : ℕ → Place) (p : Places was client J links sessions at) where
  pub places-without : (number : ℕ) → Places was client J (without_link number links) sessions at
  places-without number = but-without was client J number links sessions at (but-of was client J number links sessions at p)

  pub places-put : (new : Link ClientStage) → LinkPlaced at new → Places was client J (put_link new links) sessions at
  places-put new placed = but-put was client J new.number links sessions at (but-of was client J new.number links sessions at p) new refl placed
