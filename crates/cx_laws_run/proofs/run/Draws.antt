-- Each event of a run has a draw of 384 bytes, which are bytes.
use Rattle.std.proofs.Common.{◌≡◌, ◌<◌, ℕ, ◌*◌, List, [], ◌∷◌, Option, Some, None, refl, sym, subst, zero, suc, arith, length-append}
use Rattle.std.specs.Prelude.{length}
use Rattle.std.specs.Int.{w32, to_le_bytes}
use Rattle.std.specs.List.{AllByRecursion}
use Rattle.cx_dice.specs.Rolls.{seed_draw, words_from}
use Rattle.cx_schedule.specs.cx_lines.specs.declared.lines.Numbered.{Numbered}
use Rattle.cx_laws_links.specs.cx_laws_tickets.specs.cx_rules.specs.Inputs.{Input}
use Rattle.cx_laws_links.specs.cx_laws_tickets.specs.cx_run.specs.Deliveries.{given}
use Rattle.cx_laws_links.specs.cx_laws_tickets.specs.cx_run.specs.Happenings.{Happening}
use Rattle.cx_laws_links.specs.cx_laws_tickets.specs.cx_run.specs.Schedules.{after_lines}
use Rattle.cx_laws_links.specs.cx_laws_tickets.specs.cx_run.specs.Visits.{IsNoLook}
use Rattle.cx_laws_links.specs.cx_laws_tickets.specs.cx_run.specs.Worlds.{Post, World, happening}
use Rattle.cx_laws_links.specs.cx_laws_tickets.specs.cx_run.proofs.Walking.{kept-after_lines}
use Rattle.cx_laws_links.specs.cx_laws_tickets.specs.cx_laws_keys.proofs.keys.Lists.{all-append}
use Rattle.cx_laws_run.specs.run.Laws.{AreBytes, AreDrawn}

-- the draws of a seed have 384 bytes
length-words : (key : List ℕ) (place n : ℕ) → length (words_from key place n) ≡ 4 * n
unfolding words_from
length-words key place zero = refl
length-words key place (suc n) =
    rw length-append (omega (arith, length-words key place n))

pub length-seed : (seed number : ℕ) → length (seed_draw seed number) ≡ 384
length-seed seed number = length-words _ (96 * number) 96

-- and they are bytes
word-bytes : (n : ℕ) → AreBytes (to_le_bytes w32 n)
word-bytes n = (omega arith, (omega arith, (omega arith, (omega arith, tt))))

bytes-words : (key : List ℕ) (place n : ℕ) → AreBytes (words_from key place n)
unfolding words_from
bytes-words key place zero = tt
bytes-words key place (suc n) =
    all-append (λ (b : ℕ). b < 256) (words_from key place n) _ (bytes-words key place n) (word-bytes _)

pub bytes-seed : (seed number : ℕ) → AreBytes (seed_draw seed number)
bytes-seed seed number = bytes-words _ (96 * number) 96

-- each event of a world so far has such a draw
pub record Drawn (w : World) : Type 0 where
  pub all : AreDrawn w.past
  pub bytes : AllByRecursion (λ (h : Happening). AreBytes h.draw) w.past

drawn-like : (w v : World) → v.nodes ≡ w.nodes → v.past ≡ w.past → Drawn w → Drawn v
drawn-like w v n p k = record {
  all = subst (λ (hs : List Happening). AreDrawn hs) (sym p) k.all;
  bytes = subst (λ (hs : List Happening). AllByRecursion (λ (h : Happening). AreBytes h.draw) hs) (sym p) k.bytes;
}

drawn-given : (w : World) (input : Input) (post : Option Post) → IsNoLook input → Drawn w → Drawn (given w input post).world
drawn-given w input None untold k = k
drawn-given w input (Some post) untold k =
    let h = happening w input post in
    record {
      all = all-append (λ (x : Happening). length x.draw ≡ 384) w.past (h ∷ []) k.all (length-seed post.seed post.rolled, tt);
      bytes = all-append (λ (x : Happening). AreBytes x.draw) w.past (h ∷ []) k.bytes (bytes-seed post.seed post.rolled, tt);
    }

pub drawn-after_lines : (w : World) (lines : List Numbered) → Drawn w → Drawn (after_lines w lines)
drawn-after_lines = kept-after_lines Drawn drawn-like drawn-given
