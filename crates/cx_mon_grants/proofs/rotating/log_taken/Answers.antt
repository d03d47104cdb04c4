-- The keys that a rotation adds, counted by rotating a copy.
use Rattle.std.proofs.Common.{ap, ◌++◌, ◌∙◌, List}
use Rattle.std.proofs.lemmas.Result.{on_ok_weaker}
use Rattle.cx_steps.specs.declared.seals.SealEntry.{SealEntry}
use Rattle.cx_mon_grants.proofs.Drawn.{added_is}
use Rattle.cx_mon_grants.proofs.rotating.log_taken.Goals as goal

pub returns : goal.returns
returns c =
    let drawn = added_is c.args.now c.args.draw.now.bytes c.args.state.now c.args.service c.rotation_keys-keys.result c.generations_of-generations.result c.life_of.result c.rotate-added.result
    c.rotation_keys-keys.ensures c.generations_of-generations.ensures c.life_of.ensures c.rotate-added.ensures.count in
    on_ok_weaker c.log_keys.result (λ e. e ∙ ap (λ (xs : List SealEntry). c.args.seals.now ++ xs) drawn) c.log_keys.ensures
