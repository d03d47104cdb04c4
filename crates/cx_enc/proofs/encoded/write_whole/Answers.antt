-- What is written is spelled, and what is spelled is read again.
use Rattle.std.proofs.Common.{rules}
use Rattle.cx_enc.specs.Whole.{Spells}
use Rattle.cx_enc.proofs.Wholes.{read_behind}
use Rattle.cx_enc.proofs.encoded.write_whole.Goals as goal

pub returns-clause-again : goal.returns-clause-again
returns-clause-again g c =
    let spells : Spells g.T.Encoded.layout.form c.write.new.into c.args.value.now = search rules in
    read_behind g.T.Encoded.layout.form g.T.Encoded.layout.lawful c.write.new.into c.args.value.now spells
