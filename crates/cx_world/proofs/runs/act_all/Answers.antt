use Rattle.std.proofs.Common.{ap, ◌∙◌}
use Rattle.std.proofs.lemmas.List.Sums.{AllPass-from_list_all}
use Rattle.cx_lines.specs.Lines.{is_numbered_in_range}
use Rattle.cx_world_start.specs.cx_run.specs.Sending.{is_numbered_written}
use Rattle.cx_world.proofs.Idling.{found_all, found_more}
use Rattle.cx_world.proofs.Started.{acted_all, acted_more}
use Rattle.cx_world.proofs.runs.act_all.Goals as goal

pub act_noting-requires-clause-in_range : goal.act_noting-requires-clause-in_range
act_noting-requires-clause-in_range g c =
    ap is_numbered_in_range c.line-item.is
    ∙ AllPass-from_list_all is_numbered_in_range c.args.lines.now c.requires.in_range c.loop-line.line-index c.line-item.result c.loop-line-test.true

pub act_noting-requires-clause-written : goal.act_noting-requires-clause-written
act_noting-requires-clause-written g c =
    ap is_numbered_written c.line-item.is
    ∙ AllPass-from_list_all is_numbered_written c.args.lines.now c.requires.written c.loop-line.line-index c.line-item.result c.loop-line-test.true

pub loop-line-preserved : goal.loop-line-preserved
loop-line-preserved g c = record {
  acts = acted_more c.args.world.now c.loop-line.world c.act_noting.new.self c.args.lines.now c.loop-line.line-index c.line-item.result c.loop-line-test.true c.line-item.is
      c.loop-line.invariant.acts c.in_ok-act_noting.ensures.acts;
  idle = found_more c.args.world.now c.loop-line.world c.args.lines.now c.loop-line.line-index c.line-item.result c.loop-line.last c.last_failsave-last.result c.loop-line.idle c.act_noting.new.idle
      c.loop-line-test.true c.line-item.is c.loop-line.invariant.acts c.loop-line.invariant.idle c.in_ok-act_noting.ensures.idle c.last_failsave-last.ensures;
}

pub returns : goal.returns
returns g c = record {
  acts = acted_all c.args.world.now c.loop-line.world c.args.lines.now c.loop-line.line-index c.loop-line-test.false c.loop-line.invariant.acts;
  idle = found_all c.args.world.now c.loop-line.world c.args.lines.now c.loop-line.line-index c.loop-line.last c.loop-line.idle c.note_unsaved.new.idle c.loop-line-test.false
      c.loop-line.invariant.acts c.loop-line.invariant.idle c.in_ok-note_unsaved.ensures;
}
