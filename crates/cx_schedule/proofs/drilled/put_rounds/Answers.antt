use Rattle.std.specs.List.{flat_map}
use Rattle.cx_schedule.specs.Drills.{ended, round_lines}
use Rattle.cx_schedule.proofs.DrillTexts.{grown, rounds_push}
use Rattle.cx_schedule.proofs.drilled.put_rounds.Goals as goal

pub loop-i-preserved : goal.loop-i-preserved
loop-i-preserved c =
    let seed = c.args.seed in
    grown (λ xs. flat_map ended (flat_map (round_lines seed) xs)) (λ x. flat_map ended (round_lines seed x)) (rounds_push seed) c.loop-i.i _ _ _ c.loop-i.invariant c.in_ok-put_round.ensures
