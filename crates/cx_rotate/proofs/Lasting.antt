-- Generations that can be kept are rotated to such ones.
use Rattle.std.proofs.Common.{◌≡◌, ℕ, ◌<◌, ◌≤◌, Bool, true, false, List, [], ◌∷◌, length, arith, refl, subst}
use Rattle.std.specs.Prelude.{nat_lt}
use Rattle.std.proofs.lemmas.Bool.Decides.{nat_tests}
use Rattle.cx_rotate.specs.declared.generations.Generation.{Generation}
use Rattle.cx_rotate.specs.Held.{IsRising}
use Rattle.cx_rotate.specs.Keeping.{IsLife, IsLasting}
use Rattle.cx_rotate.specs.Rotation.{Rotated, rotated, grown, is_current, is_full}
use Rattle.cx_rotate.specs.Lawful.{StaysLasting}
use Rattle.cx_rotate.proofs.Determined.{computed}
use Rattle.cx_rotate.proofs.Opened.{opened}
use Rattle.cx_rotate.proofs.Results.{kept, gained, gained_two}

-- what can be kept rises
pub rises : (gs : List Generation) → IsLasting gs → IsRising gs
rises [] lasting = tt
rises (a ∷ b ∷ c ∷ []) lasting = (lasting.1, lasting.2)
rises (a ∷ b ∷ c ∷ d ∷ gs) lasting = absurd lasting
rises (a ∷ b ∷ []) lasting = absurd lasting
rises (a ∷ []) lasting = absurd lasting

-- what stands behind a rotation is what is computed
lasting_as : (old : List Generation) (now life : ℕ) (keys : List (List ℕ)) (new : List Generation) (n : ℕ) → n ≤ 3 → Rotated old now life keys new n → IsLasting new → IsLasting (rotated now life keys old)
lasting_as old now life keys new n small r lasting = subst (λ (gs : List Generation). IsLasting gs) (computed old now life keys new n r small) lasting

lasting_opened : (now life : ℕ) (keys : List (List ℕ)) → now < 4000000000000000000 → IsLife life → length keys ≡ 3 → IsLasting (grown now life keys [])
lasting_opened now life (a ∷ b ∷ c ∷ []) early (shortest, longest) three = (omega arith, omega arith, omega arith, omega arith, omega arith, omega arith)
lasting_opened now life (a ∷ b ∷ c ∷ d ∷ keys) early bounds three = absurd (omega arith)
lasting_opened now life (a ∷ b ∷ []) early bounds three = absurd (omega arith)
lasting_opened now life (a ∷ []) early bounds three = absurd (omega arith)
lasting_opened now life [] early bounds three = absurd (omega arith)

-- behind three that are not full
lasting_gained : (a b c : Generation) (now life : ℕ) (k : List ℕ) → now < 4000000000000000000 → IsLife life → is_full (a ∷ b ∷ c ∷ []) ≡ false → IsLasting (a ∷ b ∷ c ∷ []) → IsLasting (grown now life (k ∷ []) (a ∷ b ∷ c ∷ []))
lasting_gained a b c now life k early (shortest, longest) room (first, second, third, sooner, later, last) =
    let near : c.expires < 4200000000000000000 = grind (arith, nat_tests) in
    (omega arith, omega arith, refl, omega arith, omega arith, omega arith)

lasting_gained_two : (a b c : Generation) (now life : ℕ) (k l : List ℕ) → now < 4000000000000000000 → IsLife life → is_full (a ∷ b ∷ c ∷ []) ≡ false → IsLasting (a ∷ b ∷ c ∷ []) → IsLasting (grown now life (k ∷ l ∷ []) (a ∷ b ∷ c ∷ []))
lasting_gained_two a b c now life k l early (shortest, longest) room (first, second, third, sooner, later, last) =
    let near : c.expires < 4200000000000000000 = grind (arith, nat_tests) in
    (omega arith, refl, refl, omega arith, omega arith, omega arith)

lasting_by : (a b c : Generation) (now life : ℕ) (k l : List ℕ) (keys : List (List ℕ)) (full current next : Bool) → now < 4000000000000000000 → IsLife life
    → is_full (a ∷ b ∷ c ∷ []) ≡ full → is_current now (a ∷ b ∷ c ∷ []) ≡ current → nat_lt now c.expires ≡ next
    → IsLasting (a ∷ b ∷ c ∷ []) → IsLasting (rotated now life (k ∷ l ∷ keys) (a ∷ b ∷ c ∷ []))
lasting_by a b c now life k l keys true current next early bounds full_is current_is next_is lasting =
    lasting_as (a ∷ b ∷ c ∷ []) now life (k ∷ l ∷ keys) (a ∷ b ∷ c ∷ []) 0 (omega arith) (kept a b c now life (k ∷ l ∷ keys) (λ room. cc (room, full_is))) lasting
lasting_by a b c now life k l keys false true next early bounds full_is current_is next_is lasting =
    lasting_as (a ∷ b ∷ c ∷ []) now life (k ∷ l ∷ keys) (a ∷ b ∷ c ∷ []) 0 (omega arith) (kept a b c now life (k ∷ l ∷ keys) (λ _. current_is)) lasting
lasting_by a b c now life k l keys false false true early bounds full_is current_is next_is lasting =
    lasting_as (a ∷ b ∷ c ∷ []) now life (k ∷ l ∷ keys) _ 1 (omega arith) (gained a b c now life k (l ∷ keys) full_is current_is next_is)
    (lasting_gained a b c now life k early bounds full_is lasting)
lasting_by a b c now life k l keys false false false early bounds full_is current_is next_is lasting =
    let some : 0 < life = omega (arith, bounds.0) in
    lasting_as (a ∷ b ∷ c ∷ []) now life (k ∷ l ∷ keys) _ 2 (omega arith) (gained_two a b c now life k l keys some full_is current_is next_is)
    (lasting_gained_two a b c now life k l early bounds full_is lasting)

pub stays_lasting : StaysLasting
stays_lasting [] now life keys lasting early bounds three =
    let some : 0 < life = omega (arith, bounds.0) in
    lasting_as [] now life keys (grown now life keys []) 3 (omega arith) (opened now life keys (grown now life keys []) three some refl) (lasting_opened now life keys early bounds three)
stays_lasting (a ∷ b ∷ c ∷ []) now life (k ∷ l ∷ m ∷ keys) lasting early bounds three =
    lasting_by a b c now life k l (m ∷ keys) (is_full (a ∷ b ∷ c ∷ [])) (is_current now (a ∷ b ∷ c ∷ [])) (nat_lt now c.expires) early bounds refl refl refl lasting
stays_lasting (a ∷ b ∷ c ∷ []) now life (k ∷ l ∷ []) lasting early bounds three = absurd (omega arith)
stays_lasting (a ∷ b ∷ c ∷ []) now life (k ∷ []) lasting early bounds three = absurd (omega arith)
stays_lasting (a ∷ b ∷ c ∷ []) now life [] lasting early bounds three = absurd (omega arith)
stays_lasting (a ∷ b ∷ c ∷ d ∷ gs) now life keys lasting early bounds three = absurd lasting
stays_lasting (a ∷ b ∷ []) now life keys lasting early bounds three = absurd lasting
stays_lasting (a ∷ []) now life keys lasting early bounds three = absurd lasting
