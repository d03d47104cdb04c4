-- How a connection secret is put together.
use Rattle.std.proofs.Common.{◌≡◌, ℕ, List, [], ◌++◌, length, drop, refl, sym, ap, ◌∙◌, append_assoc, append-nil, length-append, arith}
use Rattle.std.specs.Prelude.{replicate}
use Rattle.std.proofs.Math.Seq.{take-append_seam, drop-append-add}
use Rattle.cx_base.specs.Joined.{◌<>◌}
use Rattle.cx_dice.specs.Draws.{counter_0, put_in}

-- bytes put behind a front
put_behind : (front back piece : List ℕ) (place : ℕ) → place ≡ length front → put_in place piece (front ++ back) ≡ front ++ (piece ++ drop (length piece) back)
put_behind front back piece place is = rw (is, take-append_seam front back, drop-append-add front back (length piece)) refl

pub put_together : (key acceptor connector rest : List ℕ) → length key ≡ 16 → length acceptor ≡ 4 → length connector ≡ 4 → length rest ≡ 24
    → put_in 40 rest (put_in 28 connector (put_in 16 acceptor (put_in 0 key (replicate 64 0)))) ≡ key <> acceptor <> counter_0 <> connector <> counter_0 <> rest
put_together key acceptor connector rest k a c r =
    let one : put_in 0 key (replicate 64 0) ≡ key ++ replicate 48 0 = rw k refl in
    let two : put_in 16 acceptor (key ++ replicate 48 0) ≡ key ++ (acceptor ++ replicate 44 0) =
    put_behind key (replicate 48 0) acceptor 16 (sym k) ∙ rw a refl in
    let front : key ++ (acceptor ++ replicate 44 0) ≡ (key ++ (acceptor ++ counter_0)) ++ replicate 36 0 = simp append_assoc in
    let three : put_in 28 connector ((key ++ (acceptor ++ counter_0)) ++ replicate 36 0) ≡ (key ++ (acceptor ++ counter_0)) ++ (connector ++ replicate 32 0) =
    put_behind (key ++ (acceptor ++ counter_0)) (replicate 36 0) connector 28 (omega (arith, length-append {A = ℕ})) ∙ rw c refl in
    let second : (key ++ (acceptor ++ counter_0)) ++ (connector ++ replicate 32 0) ≡ ((key ++ (acceptor ++ counter_0)) ++ (connector ++ counter_0)) ++ replicate 24 0 = simp append_assoc in
    let four : put_in 40 rest (((key ++ (acceptor ++ counter_0)) ++ (connector ++ counter_0)) ++ replicate 24 0) ≡ ((key ++ (acceptor ++ counter_0)) ++ (connector ++ counter_0)) ++ (rest ++ []) =
    put_behind ((key ++ (acceptor ++ counter_0)) ++ (connector ++ counter_0)) (replicate 24 0) rest 40 (omega (arith, length-append {A = ℕ})) ∙ rw r refl in
    ap (λ (b : List ℕ). put_in 40 rest (put_in 28 connector (put_in 16 acceptor b))) one
    ∙ ap (λ (b : List ℕ). put_in 40 rest (put_in 28 connector b)) (two ∙ front)
    ∙ ap (λ (b : List ℕ). put_in 40 rest b) (three ∙ second)
    ∙ four ∙ simp (append_assoc, append-nil)
