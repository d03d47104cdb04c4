-- What a source gave, call by call.
use Rattle.std.proofs.Common.{◌≡◌, ℕ, ◌+◌, List, ◌++◌, length, take, Option, Some, None, arith, refl, append_assoc, length-append}
use Rattle.std.proofs.lemmas.List.{take-append-drop}
use Rattle.std.proofs.Math.Seq.{drop-append_seam}
use Rattle.cx_base.specs.Streams.{Gives}
use Rattle.cx_top.specs.Inputs.{IsPastLimit}
use Rattle.cx_top.specs.Replays.{Gave}

pub gave_more : (old now new : Option (List ℕ)) (given into after : List ℕ) (n : ℕ) → Gave old now given → Gives now new into n → after ≡ given ++ take n into → Gave old new after
gave_more None now new given into after n gave gives is = tt
gave_more (Some left) None new given into after n gave gives is = absurd gave
gave_more (Some left) (Some rest) new given into after n gave gives is =
    rw (gives.2, is, gives.1, append_assoc, take-append-drop n rest) gave

pub past_limit : (old now : Option (List ℕ)) (given : List ℕ) → Gave old now given → length given ≡ 1048577 → IsPastLimit old now
past_limit None now given gave is = tt
past_limit (Some left) None given gave is = absurd gave
past_limit (Some left) (Some rest) given gave is = (
  (let more : length left ≡ length given + length rest = rw (gave, length-append) refl in omega arith),
  rw (gave, ← is, drop-append_seam given rest) refl,
)
