-- A call whose bytes don't fit takes a front of them.
use Rattle.std.proofs.Common.{arith}
use Rattle.std.proofs.lemmas.Grind.{common_steps}
use Rattle.cx_base.proofs.in_memory.VecSinkSink.push.Goals as goal

pub returns-then-bytes-self-clause-front : goal.returns-then-bytes-self-clause-front
returns-then-bytes-self-clause-front c = (c.self.inside.room, grind (arith, common_steps))
