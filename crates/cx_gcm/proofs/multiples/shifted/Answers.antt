use Rattle.std.proofs.Common.{◌≡◌, ℕ, ◌<◌, ◌*◌, ◌/◌, ◌%◌, bit_xor, refl, sym, ap, ◌∙◌, inl, inr, arith}
use Rattle.cx_gcm.proofs.Shifts.{bit_cases}
use Rattle.cx_gcm.proofs.Linear.{chosen, polynomial, shifted-chosen}
use Rattle.cx_gcm.proofs.multiples.shifted.Goals as goal

multiplied : (r : ℕ) → r < 2 → polynomial * r ≡ chosen r polynomial
unfolding chosen
multiplied r lt = elim (bit_cases r lt) [ inl e ↦ rw e refl | inr e ↦ rw e refl ]

pub returns : goal.returns
returns c =
    let v = c.args.v in
    ap (bit_xor (v / 2)) (multiplied (v % 2) (omega arith)) ∙ sym (shifted-chosen v)
