-- Bytes without one above 0x7f are UTF-8.
use Rattle.std.proofs.lemmas.Str.{IsUtf8-from_ascii}
use Rattle.cx_base.proofs.Ascii.{ascii_from_none}
use Rattle.cx_base.proofs.owned.ascii.Goals as goal

pub unreachable-requires : goal.unreachable-requires
unreachable-requires c = c.in-Err.ensures.cases.0 (IsUtf8-from_ascii c.args.bytes.now (ascii_from_none c.args.bytes.now c.requires))

pub returns-clause-ascii : goal.returns-clause-ascii
returns-clause-ascii c = rw c.in-Ok.ensures.cases.0 (ascii_from_none c.args.bytes.now c.requires)
