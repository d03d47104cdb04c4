-- What stays known behind a step that asks for nothing more, and enters no answer: what links have heard, where answers stand, and under which keys they were read.
use Rattle.std.proofs.Common.{◌≡◌, ℕ, ◌<◌, List, [], ◌∷◌, ◌++◌, Option, Some, None, inl, inr, ◌⊎◌, sym, ap, ◌∙◌, subst, arith, append-nil, append_assoc}
use Rattle.std.proofs.lemmas.List.Elements.{Contains-append_cases}
use Rattle.std.specs.Prelude.{Contains}
use Rattle.std.specs.List.{AllByRecursion}
use Rattle.cx_laws_run.specs.cx_authorize.specs.Verdict.{raised}
use Rattle.cx_base.specs.Names.{Name}
use Rattle.cx_journal.specs.Behind.{EachBehind}
use Rattle.cx_journal.specs.declared.entries.Answered.{Answered}
use Rattle.cx_journal.specs.declared.entries.Entry.{Entry}
use Rattle.cx_journal.specs.declared.entries.Entry.TheVariants as journal
use Rattle.cx_laws_run.specs.cx_laws_keys.proofs.keys.Journal.{entered}
use Rattle.cx_laws_run.specs.cx_laws_keys.proofs.keys.Uses.{Grows, Means, Use, Uses, WholeRun}
use Rattle.cx_laws_run.specs.cx_rules.specs.Secured.{Secured}
use Rattle.cx_laws_run.specs.cx_rules_session.specs.Presenter as call
use Rattle.cx_laws_run.specs.cx_rules_session.specs.Presenter.{CallStage}
use Rattle.cx_steps.specs.declared.seals.Logged.{Logged}
use Rattle.cx_steps.specs.declared.seals.SealEntry.{SealEntry}
use Rattle.cx_laws_run.specs.cx_laws_links.proofs.links.Known.{Bound, CallTold, IsKeyed, Told}
use Rattle.cx_laws_run.specs.cx_laws_links.proofs.links.Lifting.{link-grows}
use Rattle.cx_laws_run.specs.cx_laws_links.proofs.links.Moving.{Moved, Quiets, Speaks}
use Rattle.cx_laws_run.specs.cx_laws_links.proofs.links.Others.{link-one, raised-one}
use Rattle.cx_laws_run.specs.cx_laws_links.proofs.links.Speaking.{cons-cases}
use Rattle.cx_laws_run.specs.cx_laws_links.proofs.links.Spoken.{Spoken, asked, said_under}
use Rattle.cx_laws_run.specs.cx_laws_links.proofs.answers.CallHeard.{CallHeard}
use Rattle.cx_laws_run.specs.cx_laws_links.proofs.answers.CallHears.{EndsSo, OneEnd}
use Rattle.cx_laws_run.specs.cx_laws_links.proofs.answers.CallSilent.{NoEnds}
use Rattle.cx_laws_run.specs.cx_laws_links.proofs.answers.EndsRead.{AreRead, AreReadBound, IsRead, IsReadBound, ReadsOn, read-grows}
use Rattle.cx_laws_run.specs.cx_laws_links.proofs.answers.Given.{Given}
use Rattle.cx_laws_run.specs.cx_laws_links.proofs.answers.Moving.{AsksNoMore, call-stays}
use Rattle.cx_laws_run.proofs.sent.Shown.{IsUnkeyed}
use Rattle.cx_laws_run.proofs.truth.State.{CallHears, IsBoundTo, ReadsBehind, TruthLaw}

-- ---- links

-- where nothing is said
pub same-heard : (run : WholeRun) (told next : Told) (given : List (List ℕ × Given)) (name : Name) (stage : CallStage) → next.said ≡ told.said → CallHeard run told given name stage
    → CallHeard run next given name stage
same-heard run told next given name stage same h =
    subst (λ (l : List (List ℕ × Given)). CallHeard run next l name stage) (append-nil given) (call-stays run told next given [] name stage (asks stage) h)
  where
    still : (key : List ℕ) → asked (said_under key next.said) ≡ asked (said_under key told.said)
    still key = ap (λ (all : List (List ℕ × Spoken)). asked (said_under key all)) same

    asks : (st : CallStage) → AsksNoMore run told next given [] name st
    asks (call.AwaitsSignature s callee) = still s.keys.key
    asks (call.AwaitsIdent s callee cookie) = still s.keys.key
    asks (call.AwaitsReconnect s callee cookie) = still s.keys.key
    asks (call.Open s callee cookie) = still s.keys.key
    asks (call.AwaitsBanner called) = tt
    asks (call.AwaitsHello called) = tt
    asks (call.AwaitsChallenge callee p) = tt
    asks (call.AwaitsDone callee answered) = tt

-- a link that has no key has heard nothing
pub unkeyed-hears : (run : WholeRun) (told : Told) (given : List (List ℕ × Given)) (reads : List (List ℕ × ℕ)) (name : Name) (stage : CallStage) → IsUnkeyed stage → CallHears run told given reads name stage
unkeyed-hears run told given reads name (call.AwaitsBanner called) u = (tt, λ free. tt)
unkeyed-hears run told given reads name (call.AwaitsHello called) u = (tt, λ free. tt)
unkeyed-hears run told given reads name (call.AwaitsChallenge callee p) u = (tt, λ free. tt)
unkeyed-hears run told given reads name (call.AwaitsDone callee answered) u = (tt, λ free. tt)
unkeyed-hears run told given reads name _ u = absurd u

-- ---- what was read

-- a link of another number reads on behind what was read under the key of this one
bound-number : (name other : Name) (number second : ℕ) (key : List ℕ) → Bound name number key ≡ Bound other second key → number ≡ second
bound-number name other number second key e = cc

module _ (us : Uses) (one : (k : List ℕ) (u v : Use) → Means us k u → Means us k v → u ≡ v) (told : Told) (log : List Logged) (reads more : List (List ℕ × ℕ)) (name whose : Name) (number second : ℕ)
    (own : (key : List ℕ) (place : ℕ) → Contains more (key, place) → IsBoundTo us told key name number) (apart : (whose ≡ name) × (second ≡ number) → ⊥) where
  reads-still : (s : Secured) (before : Option ℕ) → IsKeyed us told log whose second s before → ReadsOn reads s → ReadsOn (reads ++ more) s
  reads-still s before k on place has = by_place (Contains-append_cases reads more (s.keys.key, place) has)
    where
      by_place : Contains reads (s.keys.key, place) ⊎ Contains more (s.keys.key, place) → place < s.keys.into.counter
      by_place (inl was) = on place was
      by_place (inr now) =
          let b = own s.keys.key place now in
          let both = link-one us one s.keys.key name whose (raised b.nonce) (raised k.nonce) b.is k.is in
          let same : b.nonce ≡ k.nonce = raised-one b.nonce k.nonce b.low k.low both.1 in
          let place_is : Bound name number s.keys.key ≡ Bound whose second s.keys.key = sym b.stands ∙ ap (λ (m : ℕ). told.nonces m) same ∙ k.stands in
          absurd (apart (sym both.0, sym (bound-number name whose number second s.keys.key place_is)))

  pub behind-still : (stage : CallStage) → CallTold us told log whose second stage → ReadsBehind reads stage → ReadsBehind (reads ++ more) stage
  behind-still (call.AwaitsSignature s callee) k on = reads-still s None k on
  behind-still (call.AwaitsIdent s callee cookie) k on = reads-still s (Some cookie) k on
  behind-still (call.AwaitsReconnect s callee cookie) k on = reads-still s (Some cookie) k on
  behind-still (call.Open s callee cookie) k on = reads-still s (Some cookie) k on
  behind-still (call.AwaitsBanner called) k on = tt
  behind-still (call.AwaitsHello called) k on = tt
  behind-still (call.AwaitsChallenge callee p) k on = tt
  behind-still (call.AwaitsDone callee answered) k on = tt

-- what is bound stays so behind a step of a client
pub moved-bound : (us vs : Uses) (told : Told) (log : List Logged) (es : List SealEntry) (name : Name) (number : ℕ) (next : Told) → Moved us vs told log es name number next
    → (nonce : ℕ) (whose : Name) (second : ℕ) (key : List ℕ) → told.nonces nonce ≡ Bound whose second key → next.nonces nonce ≡ Bound whose second key
moved-bound us vs told log es name number _ (Quiets nonces keeps none) = keeps.bound
moved-bound us vs told log es name number _ (Speaks nonces key words keeps none own) = keeps.bound

pub bound-stays : (us vs : Uses) (told next : Told) (reads : List (List ℕ × ℕ)) → Grows us vs
    → ((nonce : ℕ) (whose : Name) (second : ℕ) (key : List ℕ) → told.nonces nonce ≡ Bound whose second key → next.nonces nonce ≡ Bound whose second key)
    → AreReadBound us told reads → AreReadBound vs next reads
bound-stays us vs told next reads f keeps all key place has =
    let b : IsReadBound us told key = all key place has in
    record {
      name = b.name;
      tie = b.tie;
      is = link-grows us vs key b.name b.tie f b.is;
      bound = record { nonce = b.bound.nonce; number = b.bound.number; low = b.bound.low; tied = b.bound.tied; stands = keeps b.bound.nonce b.name b.bound.number key b.bound.stands };
    }

-- ---- answers that are entered

entered-on : (es J : List Entry) → entered J es ≡ J ++ es
entered-on [] J = sym (append-nil J)
entered-on (e ∷ es) J = entered-on es (J ++ e ∷ []) ∙ append_assoc J (e ∷ []) es

-- each was entered before, or is entered now
pub end-place : (J es : List Entry) (x : Answered) → Contains (entered J es) (journal.Answered x) → Contains J (journal.Answered x) ⊎ Contains es (journal.Answered x)
end-place J es x has = Contains-append_cases J es (journal.Answered x) (subst (λ (l : List Entry). Contains l (journal.Answered x)) (entered-on es J) has)

-- what is so of each that is entered is so of this one
pub end-of : (T : Answered → Type 0) (es : List Entry) (x : Answered) → AllByRecursion (EndsSo T) es → Contains es (journal.Answered x) → T x
end-of T [] x h has = absurd (none has)
  where
    none : Contains {X = Entry} [] (journal.Answered x) → ⊥
    none there = omega (arith, there.1)
end-of T (e ∷ es) x h has = by_place (cons-cases e es (journal.Answered x) has) (λ there. end-of T es x h.1 there)
  where
    by_place : (e ≡ journal.Answered x) ⊎ Contains es (journal.Answered x) → (Contains es (journal.Answered x) → T x) → T x
    by_place (inl here) rest = subst (λ (y : Entry). EndsSo T y) here h.0
    by_place (inr there) rest = rest there

-- where none is entered, those that were are read as they were
pub read-still : (run : WholeRun) (us vs : Uses) (given : List (List ℕ × Given)) (reads : List (List ℕ × ℕ)) (J es : List Entry) → Grows us vs → NoEnds es → AreRead run us given reads J
    → AreRead run vs given reads (entered J es)
read-still run us vs given reads J es f none all x has free =
    by_place (end-place J es x has)
  where
    by_place : Contains J (journal.Answered x) ⊎ Contains es (journal.Answered x) → IsRead vs given reads x
    by_place (inl was) =
        subst (λ (r : List (List ℕ × ℕ)). IsRead vs given r x) (append-nil reads)
        (subst (λ (l : List (List ℕ × Given)). IsRead vs l (reads ++ []) x) (append-nil given) (read-grows us vs given [] reads [] x f (all x was free)))
    by_place (inr now) = absurd (end-of (λ (y : Answered). ⊥) es x none now)

pub none-true : (run : WholeRun) (J es : List Entry) → NoEnds es → EachBehind (TruthLaw run) J es
none-true run J [] none = tt
none-true run J (e ∷ es) none = (by_entry e none.0, none-true run (J ++ e ∷ []) es none.1)
  where
    by_entry : (x : Entry) → EndsSo (λ (y : Answered). ⊥) x → TruthLaw run J x
    by_entry (journal.Answered x) never = absurd never
    by_entry _ never = tt

-- where only the first may be an answer
pub first-true : (run : WholeRun) (J es : List Entry) → OneEnd es → AllByRecursion (TruthLaw run J) es → EachBehind (TruthLaw run) J es
first-true run J [] alone each = tt
first-true run J (e ∷ es) alone each = (each.0, none-true run (J ++ e ∷ []) es alone)
