use Rattle.cx_client_events.proofs.Kept.{counted}
use Rattle.cx_client_events.proofs.own.Own.settle_call.Goals as goal

pub returns-in-Counts : goal.returns-in-Counts
returns-in-Counts c =
    counted c.args.daemon.now c.args.self.now c.self.inside.mon_client c.put_global_seq.new.self c.self.inside.dials c.self.inside.sessions.sessions c.self.inside.sessions.room
    c.args.change c.in-Counts.count c.self.view_is c.in-Counts.is c.put_global_seq.ensures
