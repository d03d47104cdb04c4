-- The laws of rotation.
use Rattle.std.proofs.Common.{◌≡◌, ℕ, zero, suc, ◌+◌, ◌*◌, ◌<◌, ◌≤◌, Bool, true, false, List, [], ◌∷◌, length, take, arith, refl, sym, subst}
use Rattle.std.specs.Prelude.{IsTrue, nat_lt, nat_le, ◌||◌, ◌^◌, ◌-◌}
use Rattle.std.proofs.Math.Nat.{mul-le-mul_left}
use Rattle.std.proofs.lemmas.Bool.Decides.{nat_tests}
use Rattle.cx_rotate.specs.declared.generations.Generation.{Generation}
use Rattle.cx_rotate.specs.Held.{IsRising}
use Rattle.cx_rotate.specs.Rotation.{Rotated, rotated, additions, grown, is_current, is_full}
use Rattle.cx_rotate.specs.Lawful.{HasOneResult, HasResult, StandsCurrent, IsPaced, KeepsPace, IsNeverFull}
use Rattle.cx_rotate.proofs.Determined.{counted, computed}
use Rattle.cx_rotate.proofs.Opened.{opened}

-- three that stay
pub kept : (a b c : Generation) (now life : ℕ) (keys : List (List ℕ)) → (is_full (a ∷ b ∷ c ∷ []) ≡ false → IsTrue (is_current now (a ∷ b ∷ c ∷ []))) → Rotated (a ∷ b ∷ c ∷ []) now life keys (a ∷ b ∷ c ∷ []) 0
kept a b c now life keys stays = record {
  grows = refl;
  full = λ _. refl;
  current = stays;
  least = λ m early _. absurd (omega arith);
}

least_of_one : (a b c : Generation) (now life : ℕ) (keys : List (List ℕ)) → is_current now (a ∷ b ∷ c ∷ []) ≡ false → (m : ℕ) → m < 1 → IsTrue (is_current now (grown now life (take m keys) (a ∷ b ∷ c ∷ []))) → ⊥
least_of_one a b c now life keys expired zero small early = cc
least_of_one a b c now life keys expired (suc m) small early = absurd (omega arith)

least_of_two : (a b c : Generation) (now life : ℕ) (k : List ℕ) (keys : List (List ℕ)) → is_current now (a ∷ b ∷ c ∷ []) ≡ false → nat_lt now c.expires ≡ false → (m : ℕ) → m < 2 → IsTrue (is_current now (grown now life (take m (k ∷ keys)) (a ∷ b ∷ c ∷ []))) → ⊥
least_of_two a b c now life k keys expired next zero small early = cc
least_of_two a b c now life k keys expired next (suc zero) small early = cc
least_of_two a b c now life k keys expired next (suc (suc m)) small early = absurd (omega arith)

-- three that gain one
pub gained : (a b c : Generation) (now life : ℕ) (k : List ℕ) (keys : List (List ℕ)) → is_full (a ∷ b ∷ c ∷ []) ≡ false → is_current now (a ∷ b ∷ c ∷ []) ≡ false → nat_lt now c.expires ≡ true → Rotated (a ∷ b ∷ c ∷ []) now life (k ∷ keys) (grown now life (k ∷ []) (a ∷ b ∷ c ∷ [])) 1
gained a b c now life k keys room expired next = record {
  grows = refl;
  full = λ full. cc (full, room);
  current = λ _. next;
  least = least_of_one a b c now life (k ∷ keys) expired;
}

-- three that gain two
pub gained_two : (a b c : Generation) (now life : ℕ) (k l : List ℕ) (keys : List (List ℕ)) → 0 < life → is_full (a ∷ b ∷ c ∷ []) ≡ false → is_current now (a ∷ b ∷ c ∷ []) ≡ false → nat_lt now c.expires ≡ false → Rotated (a ∷ b ∷ c ∷ []) now life (k ∷ l ∷ keys) (grown now life (k ∷ l ∷ []) (a ∷ b ∷ c ∷ [])) 2
gained_two a b c now life k l keys some room expired next = record {
  grows = refl;
  full = λ full. cc (full, room);
  current = λ _. grind (arith, nat_tests);
  least = least_of_two a b c now life k (l ∷ keys) expired next;
}

-- what rotates rotates to what is computed
met : (old : List Generation) (now life : ℕ) (keys : List (List ℕ)) (new : List Generation) (n : ℕ) → n ≤ 3 → Rotated old now life keys new n → Rotated old now life keys (rotated now life keys old) (additions now life keys old)
met old now life keys new n small r =
    subst (λ (m : ℕ). Rotated old now life keys (rotated now life keys old) m) (sym (counted old now life keys new n r small))
    (subst (λ (gs : List Generation). Rotated old now life keys gs n) (computed old now life keys new n r small) r)

met_by : (a b c : Generation) (now life : ℕ) (k l : List ℕ) (keys : List (List ℕ)) (full current next : Bool) → 0 < life
    → is_full (a ∷ b ∷ c ∷ []) ≡ full → is_current now (a ∷ b ∷ c ∷ []) ≡ current → nat_lt now c.expires ≡ next
    → Rotated (a ∷ b ∷ c ∷ []) now life (k ∷ l ∷ keys) (rotated now life (k ∷ l ∷ keys) (a ∷ b ∷ c ∷ [])) (additions now life (k ∷ l ∷ keys) (a ∷ b ∷ c ∷ []))
met_by a b c now life k l keys true current next some full_is current_is next_is =
    met (a ∷ b ∷ c ∷ []) now life (k ∷ l ∷ keys) (a ∷ b ∷ c ∷ []) 0 (omega arith) (kept a b c now life (k ∷ l ∷ keys) (λ room. cc (room, full_is)))
met_by a b c now life k l keys false true next some full_is current_is next_is =
    met (a ∷ b ∷ c ∷ []) now life (k ∷ l ∷ keys) (a ∷ b ∷ c ∷ []) 0 (omega arith) (kept a b c now life (k ∷ l ∷ keys) (λ _. current_is))
met_by a b c now life k l keys false false true some full_is current_is next_is =
    met (a ∷ b ∷ c ∷ []) now life (k ∷ l ∷ keys) _ 1 (omega arith) (gained a b c now life k (l ∷ keys) full_is current_is next_is)
met_by a b c now life k l keys false false false some full_is current_is next_is =
    met (a ∷ b ∷ c ∷ []) now life (k ∷ l ∷ keys) _ 2 (omega arith) (gained_two a b c now life k l keys some full_is current_is next_is)

-- generations that stand have the rotation that is computed
pub has_result : HasResult
has_result [] now life keys rising some three = met [] now life keys (grown now life keys []) 3 (omega arith) (opened now life keys (grown now life keys []) three some refl)
has_result (a ∷ b ∷ c ∷ []) now life (k ∷ l ∷ m ∷ keys) rising some three =
    met_by a b c now life k l (m ∷ keys) (is_full (a ∷ b ∷ c ∷ [])) (is_current now (a ∷ b ∷ c ∷ [])) (nat_lt now c.expires) some refl refl refl
has_result (a ∷ b ∷ c ∷ []) now life (k ∷ l ∷ []) rising some three = absurd (omega arith)
has_result (a ∷ b ∷ c ∷ []) now life (k ∷ []) rising some three = absurd (omega arith)
has_result (a ∷ b ∷ c ∷ []) now life [] rising some three = absurd (omega arith)
has_result (a ∷ b ∷ c ∷ d ∷ gs) now life keys rising some three = absurd rising
has_result (a ∷ b ∷ []) now life keys rising some three = absurd rising
has_result (a ∷ []) now life keys rising some three = absurd rising

-- the pace of what is computed, from that of a rotation
paced : (old : List Generation) (now life : ℕ) (keys : List (List ℕ)) (new : List Generation) (n : ℕ) → n ≤ 3 → Rotated old now life keys new n → IsPaced now life new → IsPaced now life (rotated now life keys old)
paced old now life keys new n small r pace = subst (λ (gs : List Generation). IsPaced now life gs) (computed old now life keys new n r small) pace

paced_opening : (now life : ℕ) (keys : List (List ℕ)) → length keys ≡ 3 → IsPaced now life (grown now life keys [])
paced_opening now life (a ∷ b ∷ c ∷ []) three = (omega arith, omega arith, omega arith)
paced_opening now life (a ∷ b ∷ c ∷ d ∷ keys) three = absurd (omega arith)
paced_opening now life (a ∷ b ∷ []) three = absurd (omega arith)
paced_opening now life (a ∷ []) three = absurd (omega arith)
paced_opening now life [] three = absurd (omega arith)

paced_kept : (a b c : Generation) (until now life : ℕ) → until ≤ now → IsPaced until life (a ∷ b ∷ c ∷ []) → IsPaced now life (a ∷ b ∷ c ∷ [])
paced_kept a b c until now life later (soon, near, each) = (omega arith, omega arith, each)

paced_gained : (a b c : Generation) (until now life : ℕ) (k : List ℕ) → until ≤ now → nat_lt now b.expires ≡ false → IsPaced until life (a ∷ b ∷ c ∷ []) → IsPaced now life (grown now life (k ∷ []) (a ∷ b ∷ c ∷ []))
paced_gained a b c until now life k later expired (soon, near, each) =
    let past : b.expires ≤ now = grind (arith, nat_tests) in
    (omega arith, omega arith, omega arith)

paced_gained_two : (a b c : Generation) (until now life : ℕ) (k l : List ℕ) → until ≤ now → nat_lt now c.expires ≡ false → IsPaced until life (a ∷ b ∷ c ∷ []) → IsPaced now life (grown now life (k ∷ l ∷ []) (a ∷ b ∷ c ∷ []))
paced_gained_two a b c until now life k l later next (soon, near, each) =
    let past : c.expires ≤ now = grind (arith, nat_tests) in
    (omega arith, omega arith, omega arith)

paced_by : (a b c : Generation) (until now life : ℕ) (k l : List ℕ) (keys : List (List ℕ)) (full current next : Bool) → 0 < life → until ≤ now
    → is_full (a ∷ b ∷ c ∷ []) ≡ full → is_current now (a ∷ b ∷ c ∷ []) ≡ current → nat_lt now c.expires ≡ next
    → IsPaced until life (a ∷ b ∷ c ∷ []) → IsPaced now life (rotated now life (k ∷ l ∷ keys) (a ∷ b ∷ c ∷ []))
paced_by a b c until now life k l keys true current next some later full_is current_is next_is pace =
    paced (a ∷ b ∷ c ∷ []) now life (k ∷ l ∷ keys) (a ∷ b ∷ c ∷ []) 0 (omega arith) (kept a b c now life (k ∷ l ∷ keys) (λ room. cc (room, full_is)))
    (paced_kept a b c until now life later pace)
paced_by a b c until now life k l keys false true next some later full_is current_is next_is pace =
    paced (a ∷ b ∷ c ∷ []) now life (k ∷ l ∷ keys) (a ∷ b ∷ c ∷ []) 0 (omega arith) (kept a b c now life (k ∷ l ∷ keys) (λ _. current_is))
    (paced_kept a b c until now life later pace)
paced_by a b c until now life k l keys false false true some later full_is current_is next_is pace =
    paced (a ∷ b ∷ c ∷ []) now life (k ∷ l ∷ keys) _ 1 (omega arith) (gained a b c now life k (l ∷ keys) full_is current_is next_is)
    (paced_gained a b c until now life k later current_is pace)
paced_by a b c until now life k l keys false false false some later full_is current_is next_is pace =
    paced (a ∷ b ∷ c ∷ []) now life (k ∷ l ∷ keys) _ 2 (omega arith) (gained_two a b c now life k l keys some full_is current_is next_is)
    (paced_gained_two a b c until now life k l later next_is pace)

-- a rotation keeps the pace
pub keeps_pace : KeepsPace
keeps_pace [] until now life keys rising some three later pace =
    paced [] now life keys (grown now life keys []) 3 (omega arith) (opened now life keys (grown now life keys []) three some refl) (paced_opening now life keys three)
keeps_pace (a ∷ b ∷ c ∷ []) until now life (k ∷ l ∷ m ∷ keys) rising some three later pace =
    paced_by a b c until now life k l (m ∷ keys) (is_full (a ∷ b ∷ c ∷ [])) (is_current now (a ∷ b ∷ c ∷ [])) (nat_lt now c.expires) some later refl refl refl pace
keeps_pace (a ∷ b ∷ c ∷ []) until now life (k ∷ l ∷ []) rising some three later pace = absurd (omega arith)
keeps_pace (a ∷ b ∷ c ∷ []) until now life (k ∷ []) rising some three later pace = absurd (omega arith)
keeps_pace (a ∷ b ∷ c ∷ []) until now life [] rising some three later pace = absurd (omega arith)
keeps_pace (a ∷ b ∷ c ∷ d ∷ gs) until now life keys rising some three later pace = absurd rising
keeps_pace (a ∷ b ∷ []) until now life keys rising some three later pace = absurd rising
keeps_pace (a ∷ []) until now life keys rising some three later pace = absurd rising

-- a rotation has one result
pub one_result : HasOneResult
one_result old now life keys new other n m r s = grind (arith, nat_tests, r.least m, s.least n)

-- behind a rotation three stand, and the second is unexpired
stands : (old : List Generation) (now life : ℕ) (keys : List (List ℕ)) (new : List Generation) (n : ℕ) → n ≤ 3 → Rotated old now life keys new n → IsRising new × (length new ≡ 3)
    → is_full old ≡ false → IsRising (rotated now life keys old) × (length (rotated now life keys old) ≡ 3) × IsTrue (is_current now (rotated now life keys old))
stands old now life keys new n small r (rising, three) room =
    subst (λ (gs : List Generation). IsRising gs × (length gs ≡ 3) × IsTrue (is_current now gs)) (computed old now life keys new n r small) (rising, three, r.current room)

stands_by : (a b c : Generation) (now life : ℕ) (k l : List ℕ) (keys : List (List ℕ)) (current next : Bool) → 0 < life → IsRising (a ∷ b ∷ c ∷ [])
    → is_full (a ∷ b ∷ c ∷ []) ≡ false → is_current now (a ∷ b ∷ c ∷ []) ≡ current → nat_lt now c.expires ≡ next
    → IsRising (rotated now life (k ∷ l ∷ keys) (a ∷ b ∷ c ∷ [])) × (length (rotated now life (k ∷ l ∷ keys) (a ∷ b ∷ c ∷ [])) ≡ 3) × IsTrue (is_current now (rotated now life (k ∷ l ∷ keys) (a ∷ b ∷ c ∷ [])))
stands_by a b c now life k l keys true next some rising room current_is next_is =
    stands (a ∷ b ∷ c ∷ []) now life (k ∷ l ∷ keys) (a ∷ b ∷ c ∷ []) 0 (omega arith) (kept a b c now life (k ∷ l ∷ keys) (λ _. current_is)) (rising, refl) room
stands_by a b c now life k l keys false true some (first, second) room current_is next_is =
    stands (a ∷ b ∷ c ∷ []) now life (k ∷ l ∷ keys) _ 1 (omega arith) (gained a b c now life k (l ∷ keys) room current_is next_is) ((second, refl), refl) room
stands_by a b c now life k l keys false false some (first, second) room current_is next_is =
    stands (a ∷ b ∷ c ∷ []) now life (k ∷ l ∷ keys) _ 2 (omega arith) (gained_two a b c now life k l keys some room current_is next_is) ((refl, refl), refl) room

stands_opened : (now life : ℕ) (keys : List (List ℕ)) → length keys ≡ 3 → IsRising (grown now life keys []) × (length (grown now life keys []) ≡ 3)
stands_opened now life (a ∷ b ∷ c ∷ []) three = ((refl, refl), refl)
stands_opened now life (a ∷ b ∷ c ∷ d ∷ keys) three = absurd (omega arith)
stands_opened now life (a ∷ b ∷ []) three = absurd (omega arith)
stands_opened now life (a ∷ []) three = absurd (omega arith)
stands_opened now life [] three = absurd (omega arith)

pub stands_current : StandsCurrent
stands_current [] now life keys rising some three room =
    stands [] now life keys (grown now life keys []) 3 (omega arith) (opened now life keys (grown now life keys []) three some refl) (stands_opened now life keys three) room
stands_current (a ∷ b ∷ c ∷ []) now life (k ∷ l ∷ m ∷ keys) rising some three room =
    stands_by a b c now life k l (m ∷ keys) (is_current now (a ∷ b ∷ c ∷ [])) (nat_lt now c.expires) some rising room refl refl
stands_current (a ∷ b ∷ c ∷ []) now life (k ∷ l ∷ []) rising some three room = absurd (omega arith)
stands_current (a ∷ b ∷ c ∷ []) now life (k ∷ []) rising some three room = absurd (omega arith)
stands_current (a ∷ b ∷ c ∷ []) now life [] rising some three room = absurd (omega arith)
stands_current (a ∷ b ∷ c ∷ d ∷ gs) now life keys rising some three room = absurd rising
stands_current (a ∷ b ∷ []) now life keys rising some three room = absurd rising
stands_current (a ∷ []) now life keys rising some three room = absurd rising

-- the bounds are never reached
few : (id life expires until : ℕ) → expires ≤ until + 3 * life → id * life ≤ expires → until < 4000000000000000000 → 1000000000 ≤ life → life ≤ 31536000000000000
    → (nat_le (2 ^ 64 - 4) id || nat_le 4200000000000000000 expires) ≡ false
few id life expires until soon each early shortest longest =
    let most : id * 1000000000 ≤ id * life = mul-le-mul_left id shortest in
    let low : id < 2 ^ 64 - 4 = omega arith in
    let short : expires < 4200000000000000000 = omega arith in
    grind (arith, nat_tests)

pub never_full : IsNeverFull
never_full [] until life pace early shortest longest = refl
never_full (a ∷ b ∷ c ∷ []) until life (soon, near, each) early shortest longest = few c.id life c.expires until soon each early shortest longest
never_full (a ∷ b ∷ c ∷ d ∷ gs) until life pace early shortest longest = absurd pace
never_full (a ∷ b ∷ []) until life pace early shortest longest = absurd pace
never_full (a ∷ []) until life pace early shortest longest = absurd pace
