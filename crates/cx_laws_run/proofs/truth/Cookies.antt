-- The sessions of a journal, by their cookies: each that was opened was admitted, for the same entity and under the same cookie; and under one cookie only one entity
-- that didn't leak had a session.
use Rattle.std.proofs.Common.{◌≡◌, List, [], ◌∷◌, ◌++◌, Option, Some, inl, inr, ◌⊎◌, refl, sym, ap, ◌∙◌, subst, arith, append-nil, append_assoc}
use Rattle.std.proofs.lemmas.List.Elements.{Contains-append_left, Contains-append_right, Contains-push, Contains-push_cases}
use Rattle.std.specs.Prelude.{Contains}
use Rattle.cx_base.specs.Names.{Name}
use Rattle.cx_journal.specs.Behind.{EachBehind}
use Rattle.cx_journal.specs.Sessions.{session_of}
use Rattle.cx_journal.specs.declared.entries.Admitted.{Admitted}
use Rattle.cx_journal.specs.declared.entries.Entry.{Entry}
use Rattle.cx_journal.specs.declared.entries.Entry.TheVariants as journal
use Rattle.cx_laws_run.specs.cx_laws_keys.proofs.keys.Uses.{WholeRun}
use Rattle.cx_laws_run.specs.cx_laws_sessions.proofs.session.Standing.{OpensAt, standing-opens}
use Rattle.cx_laws_run.specs.cx_laws_links.proofs.links.Speaking.{cons-cases}
use Rattle.cx_laws_run.proofs.sent.Fronted.{StandsBy}
use Rattle.cx_laws_run.proofs.sent.Lives.{OpenedIn, opened-cases}
use Rattle.cx_laws_run.proofs.sent.State.{HeardLaw}

-- ---- lists

-- what is in a list stands at a place of it
pub record IsPlaced {X : Type 0} (xs : List X) (x : X) : Type 0 where
  pub before : List X
  pub after : List X
  pub place : xs ≡ before ++ x ∷ after

pub placed : {X : Type 0} (xs : List X) (x : X) → Contains xs x → IsPlaced xs x
placed [] x has = absurd (none x has)
  where
    none : {Y : Type 0} (y : Y) → Contains [] y → ⊥
    none y there = omega (arith, there.1)
placed {X} (y ∷ ys) x has = by_place (cons-cases y ys x has) (λ there. placed ys x there)
  where
    by_place : (y ≡ x) ⊎ Contains ys x → (Contains ys x → IsPlaced ys x) → IsPlaced (y ∷ ys) x
    by_place (inl here) rest = record { before = []; after = ys; place = ap (λ (z : X). z ∷ ys) here }
    by_place (inr there) rest = let p = rest there in record { before = y ∷ p.before; after = p.after; place = ap (λ (l : List X). y ∷ l) p.place }

pub placed-has : {X : Type 0} (before after : List X) (x : X) → Contains (before ++ x ∷ after) x
placed-has before after x = Contains-append_right before (x ∷ after) x (Contains-append_left (x ∷ []) after x (Contains-push [] x))

-- what is so of each entry behind those before it is so of the one at a place
pub behind-at : (P : List Entry → Entry → Type 0) (was before after : List Entry) (e : Entry) → EachBehind P was (before ++ e ∷ after) → P (was ++ before) e
behind-at P was [] after e h = subst (λ (l : List Entry). P l e) (sym (append-nil was)) h.0
behind-at P was (x ∷ before) after e h =
    subst (λ (l : List Entry). P l e) (append_assoc was (x ∷ []) before) (behind-at P (was ++ x ∷ []) before after e h.1)

-- ---- each session was admitted

-- a session was admitted for this entity under this cookie
pub record HasAdmitted (J : List Entry) (s : Admitted) : Type 0 where
  pub session : Admitted
  pub has : Contains J (journal.Admitted session)
  pub entity : session.entity ≡ s.entity
  pub cookie : session.cookie ≡ s.cookie

abbrev pub AreAdmitted : List Entry → Type 0
AreAdmitted J = (s : Admitted) → OpenedIn J s → HasAdmitted J s

-- the one that stands was opened
pub opened-at : (J before between : List Entry) (opening : Entry) (s : Admitted) → J ≡ before ++ opening ∷ between → session_of opening ≡ Some s → OpenedIn J s
opened-at J before between opening s place opens = by_entry opening place opens
  where
    some-is : (a b : Admitted) → (let o : Option Admitted = Some a in let p : Option Admitted = Some b in o ≡ p) → a ≡ b
    some-is a b e = cc

    there : (e : Entry) → J ≡ before ++ e ∷ between → Contains J e
    there e is = subst (λ (l : List Entry). Contains l e) (sym is) (placed-has before between e)

    by_entry : (e : Entry) → J ≡ before ++ e ∷ between → session_of e ≡ Some s → OpenedIn J s
    by_entry (journal.Admitted a) is at = inl (subst (λ (x : Admitted). Contains J (journal.Admitted x)) (some-is a s at) (there (journal.Admitted a) is))
    by_entry (journal.Resumed a) is at = inr (subst (λ (x : Admitted). Contains J (journal.Resumed x)) (some-is a s at) (there (journal.Resumed a) is))
    by_entry _ is at = absurd cc

more-admitted : (J : List Entry) (e : Entry) (s : Admitted) → HasAdmitted J s → HasAdmitted (J ++ e ∷ []) s
more-admitted J e s h = record { session = h.session; has = Contains-append_left J (e ∷ []) (journal.Admitted h.session) h.has; entity = h.entity; cookie = h.cookie }

-- one that is resumed stood before
resumed-admitted : (J : List Entry) (s : Admitted) → StandsBy J (journal.Resumed s) → AreAdmitted J → HasAdmitted J s
resumed-admitted J s stood all =
    let o : OpensAt s.daemon s.session J stood.0 = standing-opens s.daemon s.session J stood.0 stood.1 in
    let h : HasAdmitted J stood.0 = all stood.0 (opened-at J o.before o.between o.opening stood.0 o.place o.opens) in
    record { session = h.session; has = h.has; entity = h.entity ∙ stood.2; cookie = h.cookie ∙ stood.3 }

one-admitted : (J : List Entry) (e : Entry) → StandsBy J e → AreAdmitted J → AreAdmitted (J ++ e ∷ [])
one-admitted J e stood all s opened = by_place (opened-cases J (e ∷ []) s opened)
  where
    only : (x : Entry) → Contains (e ∷ []) x → e ≡ x
    only x has = by_first (cons-cases e [] x has)
      where
        by_first : (e ≡ x) ⊎ Contains [] x → e ≡ x
        by_first (inl here) = here
        by_first (inr never) = absurd (omega (arith, never.1))

    by_place : OpenedIn J s ⊎ OpenedIn (e ∷ []) s → HasAdmitted (J ++ e ∷ []) s
    by_place (inl was) = more-admitted J e s (all s was)
    by_place (inr (inl now)) = record {
      session = s;
      has = subst (λ (x : Entry). Contains (J ++ e ∷ []) x) (only (journal.Admitted s) now) (Contains-push J e);
      entity = refl;
      cookie = refl;
    }
    by_place (inr (inr now)) = more-admitted J e s (resumed-admitted J s (subst (StandsBy J) (only (journal.Resumed s) now) stood) all)

all-admitted : (J es : List Entry) → EachBehind StandsBy J es → AreAdmitted J → AreAdmitted (J ++ es)
all-admitted J [] stood all = subst AreAdmitted (sym (append-nil J)) all
all-admitted J (e ∷ es) stood all = subst AreAdmitted (append_assoc J (e ∷ []) es) (all-admitted (J ++ e ∷ []) es stood.1 (one-admitted J e stood.0 all))

-- so it is in a whole journal
pub were-admitted : (entries : List Entry) → EachBehind StandsBy [] entries → AreAdmitted entries
were-admitted entries stood = all-admitted [] entries stood none
  where
    none : AreAdmitted []
    none s (inl has) = absurd (omega (arith, has.1))
    none s (inr has) = absurd (omega (arith, has.1))

-- ---- one cookie

-- two sessions under one cookie, of entities that are free, are of one entity
abbrev pub AreApart : (Name → Type 0) → List Entry → Type 0
AreApart Free J = (a b : Admitted) → Contains J (journal.Admitted a) → Contains J (journal.Admitted b) → Free a.entity → Free b.entity → a.cookie ≡ b.cookie → a.entity ≡ b.entity

module _ (run : WholeRun) where
  abbrev Free : Name → Type 0
  Free name = Contains run.leaked name → ⊥

  one-apart : (J : List Entry) (e : Entry) → HeardLaw run J e → AreApart Free J → AreApart Free (J ++ e ∷ [])
  one-apart J e heard all a b has_a has_b free_a free_b cookie =
      by_place (Contains-push_cases J e (journal.Admitted a) has_a) (Contains-push_cases J e (journal.Admitted b) has_b)
    where
      law : (s : Admitted) → e ≡ journal.Admitted s → HeardLaw run J (journal.Admitted s)
      law s is = subst (HeardLaw run J) is heard

      same-one : (x y : Admitted) → journal.Admitted x ≡ journal.Admitted y → x ≡ y
      same-one x y is = cc

      by_place : Contains J (journal.Admitted a) ⊎ (e ≡ journal.Admitted a) → Contains J (journal.Admitted b) ⊎ (e ≡ journal.Admitted b) → a.entity ≡ b.entity
      by_place (inl was_a) (inl was_b) = all a b was_a was_b free_a free_b cookie
      by_place (inl was_a) (inr now_b) = absurd (law b now_b free_b a was_a free_a cookie)
      by_place (inr now_a) (inl was_b) = absurd (law a now_a free_a b was_b free_b (sym cookie))
      by_place (inr now_a) (inr now_b) = ap (λ (s : Admitted). s.entity) (same-one a b (sym now_a ∙ now_b))

  all-apart : (J es : List Entry) → EachBehind (HeardLaw run) J es → AreApart Free J → AreApart Free (J ++ es)
  all-apart J [] heard all = subst (AreApart Free) (sym (append-nil J)) all
  all-apart J (e ∷ es) heard all = subst (AreApart Free) (append_assoc J (e ∷ []) es) (all-apart (J ++ e ∷ []) es heard.1 (one-apart J e heard.0 all))

  pub are-apart : (entries : List Entry) → EachBehind (HeardLaw run) [] entries → AreApart Free entries
  are-apart entries heard = all-apart [] entries heard (λ a b has_a has_b free_a free_b cookie. absurd (omega (arith, has_a.1)))
