-- How many parts a secure frame has.
use Rattle.std.proofs.Common.{◌≡◌, ℕ, suc, ◌+◌, ◌-◌, ◌*◌, ◌/◌, ◌≤◌, false, List, [], ◌∷◌, length, refl, sym, ap, subst, ◌∙◌, inl, inr, arith}
use Rattle.std.specs.Prelude.{◌==◌, if◌then◌else◌, sum_by}
use Rattle.std.specs.List.{slice_range}
use Rattle.std.proofs.lemmas.Bool.{cases_eq, ne_eqb}
use Rattle.cx_frame.specs.declared.frame.Frame.{Frame}
use Rattle.cx_frame.specs.declared.frame.Segment.{Segment}
use Rattle.cx_frame.specs.declared.preamble.Preamble.{Preamble}
use Rattle.cx_frame.specs.Preambles.{IsAllowed, preamble_of}
use Rattle.cx_secure.specs.Plains.{last_len, one_if, plains, rest_parts, second_len, up16}
use Rattle.cx_secure.proofs.PlainLaws.{parts_counted}

one_if_up16 : (n : ℕ) → one_if (up16 n) ≡ one_if n
unfolding up16
one_if_up16 n = elim (cases_eq n 0) [
  | inl e ↦ rw e refl
  | inr ne ↦ let big : ((n + 15) / 16 * 16 == 0) ≡ false = ne_eqb ((n + 15) / 16 * 16) 0 (λ e. ne (omega arith)) in rw (ne_eqb n 0 ne, big) refl
]

one_of : (n : ℕ) → one_if (n + 16) ≡ 1
one_of n = let big : (n + 16 == 0) ≡ false = ne_eqb (n + 16) 0 (λ e. omega arith) in rw big refl

one_less : (n : ℕ) → n ≡ suc n - 1
one_less n = omega arith

one_of_more : (n : ℕ) → 1 ≡ one_if (suc (suc n) - 1)
one_of_more n = let big : (suc (suc n) - 1 == 0) ≡ false = ne_eqb (suc (suc n) - 1) 0 (λ e. omega arith) in rw big refl

by_segments : (t : ℕ) (ss : List Segment) → 1 ≤ length ss → (let f : Frame = record { tag = t; segments = ss } in length (plains f) ≡ 1 + rest_parts (preamble_of f))
unfolding preamble_of rest_parts second_len last_len
by_segments t [] some = absurd (omega arith)
by_segments t (s ∷ []) some =
    let f : Frame = record { tag = t; segments = s ∷ [] } in
    sym (parts_counted f (s ∷ []) s (one_if (length s.bytes - 48)) 0 refl some refl refl (ap (λ n. one_if n) (one_less 0))) ∙ omega (arith, one_if_up16 (length s.bytes - 48))
by_segments t (s ∷ (o ∷ os)) some =
    let f : Frame = record { tag = t; segments = s ∷ (o ∷ os) } in
    let p : Preamble = preamble_of f in
    let many : (p.count == 1) ≡ false = ne_eqb p.count 1 (λ e. omega arith) in
    let behind : ℕ = sum_by up16 (slice_range p.lengths 1 p.count) in
    let last : one_if (if p.count == 1 then 0 else behind + 16) ≡ 1 = rw many (one_of behind) in
    sym (parts_counted f (s ∷ (o ∷ os)) s (one_if (length s.bytes - 48)) 1 refl some refl refl (one_of_more (length os))) ∙ omega (arith, one_if_up16 (length s.bytes - 48), last)

some : (g : Frame) → IsAllowed 1048576 (preamble_of g) → 1 ≤ length g.segments
unfolding preamble_of
some g fine = fine.count_low

pub parts_behind : (f : Frame) (p : Preamble) → preamble_of f ≡ p → IsAllowed 1048576 p → length (plains f) ≡ 1 + rest_parts p
parts_behind f p is fine =
    let allowed : IsAllowed 1048576 (preamble_of f) = subst (IsAllowed 1048576) (sym is) fine in
    by_segments f.tag f.segments (some f allowed) ∙ ap (λ (q : Preamble). 1 + rest_parts q) is
