use Rattle.cx_world.proofs.Idling.{noted_at}
use Rattle.cx_world.proofs.world.World.act_noting.Goals as goal

pub returns : goal.returns
returns g c = record {
  acts = c.in_ok-act.ensures;
  idle = noted_at c.args.self.now c.act.new.self c.args.last c.args.line.now c.args.idle.now c.note_idle.new.idle c.note_undropped.new.idle
      c.in_ok-note_idle.ensures c.in_ok-act.ensures (rw (c.all.ensures, c.all-entered.ensures) at c.in_ok-note_undropped.ensures);
}
