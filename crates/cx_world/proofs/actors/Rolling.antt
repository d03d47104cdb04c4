-- What dice give, and what is then to come.
use Rattle.std.proofs.Common.{◌≡◌, ℕ, ◌+◌, suc, List, Some, sym, ap, ◌∙◌, arith, add-zero}
use Rattle.std.proofs.lemmas.Option.{same_Some}
use Rattle.cx_dice.specs.Rolls.{draws_of, seed_draw}
use Rattle.cx_world_start.specs.cx_run.specs.Worlds.{Post}
use Rattle.cx_world.specs.actors.Posts.{IsOf, Sitting}

pub drawn_now : (post : Post) (old : Sitting) (draw : List ℕ) → IsOf post old → draw ≡ draws_of old.dice.generator 0 → draw ≡ seed_draw post.seed post.rolled
drawn_now post old draw is e =
    let n : post.rolled + 0 ≡ post.rolled = omega arith in
    e ∙ is.coming 0 ∙ ap (λ (k : ℕ). seed_draw post.seed k) n

pub rolled_on : (post : Post) (old new : Sitting) → IsOf post old → new.reading ≡ old.reading
    → Some (draws_of new.dice.generator) ≡ Some (λ n. draws_of old.dice.generator (suc n))
    → (let next : Post = record post { rolled = suc post.rolled } in IsOf next new)
rolled_on post old new is r e =
    let same : draws_of new.dice.generator ≡ (λ n. draws_of old.dice.generator (suc n)) = same_Some _ _ e in
    record {
      reading = r ∙ is.reading;
      coming = λ n.
          let m : post.rolled + suc n ≡ suc post.rolled + n = omega arith in
          ap (λ (f : ℕ → List ℕ). f n) same ∙ is.coming (suc n) ∙ ap (λ (k : ℕ). seed_draw post.seed k) m;
    }
