-- What a roll gives, and what is to come behind it.
use Rattle.std.proofs.Common.{◌≡◌, ℕ, List, Some, ap}
use Rattle.rand_chacha.specs.ChaCha.{ChaCha}
use Rattle.cx_dice.specs.Rolls.{GivesDraw, draws_of, rolled}

pub gives_draw : (generator next : ChaCha) (bytes : List ℕ) → (bytes, next) ≡ rolled generator → GivesDraw (Some (draws_of generator)) (Some (draws_of next)) bytes
unfolding draws_of
gives_draw generator next bytes is =
    let rest : next ≡ (rolled generator).1 = ap (λ (p : List ℕ × ChaCha). p.1) is in
    (ap (λ (p : List ℕ × ChaCha). p.0) is, ap (λ (g : ChaCha). Some (draws_of g)) rest)
