use Rattle.std.proofs.Common.{◌≡◌, ◌∷◌, [], map, ℕ, ◌<◌, ◌≤◌, List, length, get_or, Bor, refl, arith}
use Rattle.cx_audit_text.proofs.operations.handled_end.Goals as goal

two : {A : Type 0} (f : A → List ℕ) (ws : List A) (d : A) → 2 ≤ length ws → length ws < 3 → map f ws ≡ f (get_or ws 0 d) ∷ f (get_or ws 1 d) ∷ []
two f [] d low high = absurd (omega (arith, low))
two f (a ∷ []) d low high = absurd (omega (arith, low))
two f (a ∷ b ∷ []) d low high = refl
two f (a ∷ b ∷ c ∷ ws) d low high = absurd (omega (arith, high))

pub returns : goal.returns
returns c =
    rw (two (λ (w : Bor (List ℕ)). w.now) c.args.words.now (record { ref_ptr = (0, 0); now = [] }) c.in-len2.len_at_least c.in-len2.len_below) c.handled.ensures
