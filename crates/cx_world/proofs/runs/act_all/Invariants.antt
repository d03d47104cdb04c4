-- The lines so far were acted on, and these of them did nothing.
use Rattle.std.proofs.Common.{take}
use Rattle.cx_desk.specs.Held.{handlers_of}
use Rattle.cx_world_start.specs.cx_run.specs.Schedules.{after_lines}
use Rattle.cx_world_start.specs.cx_run.specs.Worlds.{World as RunWorld}
use Rattle.cx_world.specs.Carried.{MakesAlone}
use Rattle.cx_world.proofs.Idling.{FindsSoFar}
use Rattle.cx_world.proofs.runs.act_all.Given as goal

abbrev pub invariant-loop-line : goal.invariant-loop-line
invariant-loop-line g l = record {
  acts : MakesAlone (handlers_of l.fn.desk) l.initial.world l.world (λ (w : RunWorld). after_lines w (take l.line-index l.lines));
  idle : FindsSoFar (handlers_of l.fn.desk) l.initial.world l.lines l.line-index l.last l.idle;
}
