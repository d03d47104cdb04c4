-- A row of a client's link to a daemon that says some words: they are known behind the step, and the link has its key as before.
use Rattle.std.proofs.Common.{◌≡◌, ℕ, ◌+◌, ◌<◌, ◌≤◌, ◌^◌, Bool, true, false, nat_lt, List, [], ◌∷◌, ◌++◌, length, map, Option, Some, None, Result, Ok, Err, inl, inr, ◌⊎◌, refl, sym, ap, ◌∙◌, subst, arith, append-nil, append_assoc}
use Rattle.std.proofs.lemmas.Bool.Decides.{nat_tests}
use Rattle.std.proofs.lemmas.List.Elements.{Contains-push_cases, Contains-append_cases, Contains-append_left}
use Rattle.std.specs.Prelude.{Contains, if◌then◌else◌}
use Rattle.std.specs.List.{AllByRecursion, cons_option, flat_map}
use Rattle.std.specs.Str.{bytes_eq}
use Rattle.cx_base.specs.Names.{Name}
use Rattle.cx_base.specs.declared.nodes.NodeName.{NodeName}
use Rattle.cx_base.specs.declared.operations.Operation.{Operation}
use Rattle.cx_frame.specs.Frames.{total}
use Rattle.cx_frame.specs.declared.frame.Frame.{Frame}
use Rattle.cx_journal.specs.declared.entries.Entry.{Entry}
use Rattle.cx_journal.specs.declared.entries.Entry.TheVariants as journal
use Rattle.cx_journal.specs.declared.faults.BytesFault.{BytesFault}
use Rattle.cx_journal.specs.declared.faults.BytesFault.TheVariants.{CounterSpent, TooLong}
use Rattle.cx_laws_keys.proofs.keys.Premises.{AreGranted, IsGranted, behind, behind-append, logged}
use Rattle.cx_laws_keys.proofs.keys.Uses.{Uses}
use Rattle.cx_laws_keys.proofs.series.Contents.{content_of, contents-behind, contents_by, contents_in, parts-others}
use Rattle.cx_laws_keys.proofs.series.Frames.{HasParts, frame-sealed, frames-parts}
use Rattle.cx_laws_keys.specs.cx_rules.specs.Messages.{sealed_behind, sealed_then, secure_frames}
use Rattle.cx_laws_keys.specs.cx_rules.specs.Secured.{Keys, SealedFrame, sealed_under, secure_frame}
use Rattle.cx_secure.specs.Plains.{plains}
use Rattle.cx_steps.specs.Onto.{SomeOf}
use Rattle.cx_steps.specs.Premises.{IsNew, RepeatsIn}
use Rattle.cx_steps.specs.declared.seals.DrawMark.{DrawMark}
use Rattle.cx_steps.specs.declared.seals.DrawMark.TheVariants as draw
use Rattle.cx_steps.specs.declared.seals.Logged.{Logged}
use Rattle.cx_steps.specs.declared.seals.SealEntry.{SealEntry}
use Rattle.cx_steps.specs.declared.seals.SealEntry.TheVariants as entry
use Rattle.cx_laws_links.proofs.links.CallWords.{AreQuiet}
use Rattle.cx_laws_links.proofs.links.Lifting.{some-behind}
use Rattle.cx_laws_links.proofs.links.Speaking.{cons-cases}
use Rattle.cx_laws_links.proofs.links.Spoken.{Spoken, frame_of, parts_of}
use Rattle.cx_laws_links.proofs.links.Taking.{AreFrames}

-- ---- what is quiet seals nothing

pub quiet-none : (key : List ℕ) (test : List ℕ → Bool) (es : List SealEntry) → AreQuiet es → contents_by key test es ≡ []
quiet-none key test [] h = refl
quiet-none key test (entry.Sealed mark ∷ es) h = absurd h.0
quiet-none key test (entry.Signed mark ∷ es) h = quiet-none key test es h.1
quiet-none key test (entry.Opened mark ∷ es) h = quiet-none key test es h.1
quiet-none key test (entry.Checked mark ∷ es) h = quiet-none key test es h.1
quiet-none key test (entry.Drawn mark ∷ es) h = quiet-none key test es h.1

cons-none : (o : Option (List ℕ)) (rest : List (List ℕ)) → cons_option o rest ≡ [] → (o ≡ None) × (rest ≡ [])
cons-none None rest e = (refl, e)
cons-none (Some x) rest e = absurd cc

pub by-append : (key : List ℕ) (test : List ℕ → Bool) (xs ys : List SealEntry) → contents_by key test xs ≡ [] → contents_by key test ys ≡ [] → contents_by key test (xs ++ ys) ≡ []
by-append key test [] ys none other = other
by-append key test (x ∷ xs) ys none other =
    let parts = cons-none (content_of key test x) (contents_by key test xs) none in
    ap (λ (o : Option (List ℕ)). cons_option o (contents_by key test (xs ++ ys))) parts.0 ∙ by-append key test xs ys parts.1 other

-- ---- several frames

-- what is so of frames that are sealed in one piece
pub record AreSealed (key : List ℕ) (keys : Keys) (fs : List Frame) (s : SealedFrame) : Type 0 where
  pub key_is : s.keys.key ≡ keys.key
  pub fixed : s.keys.out.fixed ≡ keys.out.fixed
  pub into : s.keys.into ≡ keys.into
  pub low : keys.out.counter ≤ 2 ^ 64 → s.keys.out.counter ≤ 2 ^ 64
  pub fit : AllByRecursion (λ (f : Frame). total f ≤ 1048576) fs
  pub others : (other : List ℕ) (test : List ℕ → Bool) → bytes_eq key other ≡ false → contents_by other test s.seals ≡ []

pub are-sealed : (key : List ℕ) (keys : Keys) (fs : List Frame) (s : SealedFrame) → keys.key ≡ key → secure_frames keys fs ≡ Ok s → AreSealed key keys fs s
are-sealed key keys [] s same made =
    let none : SealedFrame = record { bytes = []; seals = []; keys = keys } in
    let is : none ≡ s = cc in
    subst (λ (x : SealedFrame). AreSealed key keys [] x) is (record { key_is = refl; fixed = refl; into = refl; low = λ l. l; fit = tt; others = λ other test apart. refl })
are-sealed key keys (f ∷ fs) s same made = by_first (secure_frame keys f) refl made (λ k x is m. are-sealed key k fs x is m)
  where
    one-others : (other : List ℕ) (test : List ℕ → Bool) → bytes_eq key other ≡ false → contents_by other test (sealed_under keys f).seals ≡ []
    one-others other test apart =
        parts-others other test keys.key keys.out.fixed (inl (ap (λ (k : List ℕ). bytes_eq k other) same ∙ apart)) keys.out.counter (plains f)

    by_rest : (one : SealedFrame) → secure_frame keys f ≡ Ok one → (q : Result SealedFrame BytesFault) → secure_frames one.keys fs ≡ q → sealed_behind one q ≡ Ok s
        → ((k : Keys) (x : SealedFrame) → k.key ≡ key → secure_frames k fs ≡ Ok x → AreSealed key k fs x) → AreSealed key keys (f ∷ fs) s
    by_rest one first (Err why) rest both on = absurd cc
    by_rest one first (Ok later) rest both on =
        let all : SealedFrame = record { bytes = one.bytes ++ later.bytes; seals = one.seals ++ later.seals; keys = later.keys } in
        let is : all ≡ s = cc in
        let h = frame-sealed keys f one first in
        let key_too : one.keys.key ≡ keys.key = ap (λ (x : SealedFrame). x.keys.key) h.0 in
        let r = on one.keys later (key_too ∙ same) rest in
        let moved : one.keys.out.counter ≡ keys.out.counter + length (plains f) = ap (λ (x : SealedFrame). x.keys.out.counter) h.0 in
        subst (λ (x : SealedFrame). AreSealed key keys (f ∷ fs) x) is (record {
          key_is = r.key_is ∙ key_too;
          fixed = r.fixed ∙ ap (λ (x : SealedFrame). x.keys.out.fixed) h.0;
          into = r.into ∙ ap (λ (x : SealedFrame). x.keys.into) h.0;
          low = λ l. r.low (omega (arith, moved, h.1));
          fit = (h.2, r.fit);
          others = λ other test apart.
              by-append other test one.seals later.seals (ap (λ (x : SealedFrame). contents_by other test x.seals) h.0 ∙ one-others other test apart) (r.others other test apart);
        })

    by_first : (r : Result SealedFrame BytesFault) → secure_frame keys f ≡ r → sealed_then r (λ one. sealed_behind one (secure_frames one.keys fs)) ≡ Ok s
        → ((k : Keys) (x : SealedFrame) → k.key ≡ key → secure_frames k fs ≡ Ok x → AreSealed key k fs x) → AreSealed key keys (f ∷ fs) s
    by_first (Err why) first both on = absurd cc
    by_first (Ok one) first both on = by_rest one first (secure_frames one.keys fs) refl both on

-- ---- draws

-- what a step draws none drew before it
pub drawn-new : (leaked : List Name) (whole : List Logged) (n : NodeName) (line : ℕ) (mark : DrawMark) (es : List SealEntry) (log : List Logged) → AreGranted leaked whole n line log es
    → Contains es (entry.Drawn mark) → SomeOf (λ (at : Logged). RepeatsIn mark at.entry) log → ⊥
drawn-new leaked whole n line mark [] log g has before = omega (arith, has.1)
drawn-new leaked whole n line mark (e ∷ es) log g has before =
    by_place (cons-cases e es (entry.Drawn mark) has) (λ there. drawn-new leaked whole n line mark es (logged n line e ∷ log) g.1 there (inr before))
  where
    by_place : (e ≡ entry.Drawn mark) ⊎ Contains es (entry.Drawn mark) → (Contains es (entry.Drawn mark) → ⊥) → ⊥
    by_place (inl here) rest = subst (λ (x : SealEntry). IsNew log x) here g.0.new before
    by_place (inr there) rest = rest there

-- and it is drawn behind it
pub drawn-there : (n : NodeName) (line : ℕ) (mark : DrawMark) (es : List SealEntry) (log : List Logged) → Contains es (entry.Drawn mark)
    → SomeOf (λ (at : Logged). at.entry ≡ entry.Drawn mark) (behind n line es log)
drawn-there n line mark [] log has = absurd (omega (arith, has.1))
drawn-there n line mark (e ∷ es) log has =
    by_place (cons-cases e es (entry.Drawn mark) has) (λ there. drawn-there n line mark es (logged n line e ∷ log) there)
  where
    by_place : (e ≡ entry.Drawn mark) ⊎ Contains es (entry.Drawn mark) → (Contains es (entry.Drawn mark) → SomeOf (λ (at : Logged). at.entry ≡ entry.Drawn mark) (behind n line es (logged n line e ∷ log)))
        → SomeOf (λ (at : Logged). at.entry ≡ entry.Drawn mark) (behind n line es (logged n line e ∷ log))
    by_place (inl here) rest = some-behind (λ (at : Logged). at.entry ≡ entry.Drawn mark) n line es (logged n line e ∷ log) (inl here)
    by_place (inr there) rest = rest there

-- ---- words and their frames

pub parts-are : (words : List Spoken) → flat_map plains (map frame_of words) ≡ parts_of words
parts-are [] = refl
parts-are (x ∷ words) = ap (λ (l : List (List ℕ)). plains (frame_of x) ++ l) (parts-are words)

pub words-fit : (words : List Spoken) → AllByRecursion (λ (f : Frame). total f ≤ 1048576) (map frame_of words) → AreFrames words
words-fit [] h = tt
words-fit (x ∷ words) h = (h.0, words-fit words h.1)
