-- The tries so far took no byte of the reader.
use Rattle.std.specs.Io.KnownBytes.{Keeps}
use Rattle.cx_edge.proofs.streams.read_some.Given as goal

abbrev pub invariant-tries : goal.invariant-tries
invariant-tries g l = Keeps (g.R.Read.remaining l.fn.reader) (g.R.Read.remaining l.reader)
