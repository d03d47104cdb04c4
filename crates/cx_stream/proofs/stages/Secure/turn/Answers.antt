use Rattle.cx_stream.specs.SecureStreams.{ahead}
use Rattle.cx_stream.proofs.SecureFronts.{none_there, stream_keyed}
use Rattle.cx_stream.proofs.SecureTurns.{turned_holds}
use Rattle.cx_stream.proofs.stages.Secure.turn.Goals as goal

pub returns-clause-holds : goal.returns-clause-holds
returns-clause-holds c = turned_holds (ahead c.args.self.now) (ahead c.next.new.self) c.next.result c.next.ensures.passes

pub returns-clause-none : goal.returns-clause-none
returns-clause-none c = none_there (ahead c.args.self.now) c.args.self.now.sealing.kept c.next.result (stream_keyed c.args.self.now) c.next.ensures.exact
