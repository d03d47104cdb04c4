use Rattle.std.proofs.Common.{sym}
use Rattle.cx_sealed.proofs.Found.{spelled_only}
use Rattle.cx_sealed.proofs.unsealing.spelled.Goals as goal

pub returns-in-Ok : goal.returns-in-Ok
returns-in-Ok g c = sym (spelled_only g.T.Encoded.layout.form g.T.Encoded.layout.lawful c.args.content.now c.in-Ok.value c.in-Ok.ensures.found)
