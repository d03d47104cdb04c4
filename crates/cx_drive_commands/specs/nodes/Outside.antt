-- What the objects tell that lie outside of a node: its keeper, its links, its clock and its dice.
use Rattle.std.specs.Prelude.{ℕ, List, Option}
use Rattle.cx_keep.specs.Slots.{Kept}
use Rattle.cx_outside.specs.linking.Acts.{LinkAct}
use Rattle.cx_outside.specs.site.Acts.{Act}
use Rattle.cx_outside.specs.site.Telling.{ClockTells, DiceTells, KeeperTells, LinksCount, link_acts}

-- at a moment: what is kept, the links, what the clock and the dice are to give, and the counts of faults
pub record Outside (L : Type 0) : Type 0 where
  pub kept : Option Kept
  pub keeper_faults : ℕ
  pub links : L
  pub link_faults : ℕ
  pub misses : ℕ
  pub readings : Option (ℕ → ℕ)
  pub draws : Option (ℕ → List ℕ)
  pub dice_faults : ℕ

abbrev pub outside : {L : Type 0} → Option Kept → ℕ → L → ℕ → ℕ → Option (ℕ → ℕ) → Option (ℕ → List ℕ) → ℕ → Outside L
outside kept keeper_faults links link_faults misses readings draws dice_faults = record {
  kept = kept;
  keeper_faults = keeper_faults;
  links = links;
  link_faults = link_faults;
  misses = misses;
  readings = readings;
  draws = draws;
  dice_faults = dice_faults;
}

-- between two moments, each of them tells just what these acts have of it
abbrev pub Tells : {L : Type 0} → (L → L → List LinkAct → Type 0) → Outside L → Outside L → List Act → Type 0
Tells follows a b acts =
    KeeperTells a.kept a.keeper_faults b.kept b.keeper_faults acts
    × follows a.links b.links (link_acts acts)
    × LinksCount a.link_faults a.misses b.link_faults b.misses acts
    × ClockTells a.readings b.readings acts
    × DiceTells a.draws a.dice_faults b.draws b.dice_faults acts
