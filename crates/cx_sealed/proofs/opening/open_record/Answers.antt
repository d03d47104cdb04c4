-- The record that is opened is the one that the content spells.
use Rattle.std.proofs.Common.{sym, ◌∙◌}
use Rattle.cx_cbc.specs.cx_aes.proofs.Keys.{IsBlock-array}
use Rattle.cx_sealed.proofs.Found.{is_unopened, is_misread, is_found}
use Rattle.cx_sealed.proofs.opening.open_record.Goals as goal

pub returns-in_default : goal.returns-in_default
returns-in_default g c =
    is_unopened g.T.Encoded.layout.form c.args.key.now c.args.sealed.now (IsBlock-array c.args.key.now c.told-key c.fits-key) (sym c.in_default.is ∙ c.in_ok-found.ensures)

pub returns-in-Some-value : goal.returns-in-Some-value
returns-in-Some-value g c =
    is_found g.T.Encoded.layout.form g.T.Encoded.layout.lawful c.args.key.now c.args.sealed.now (IsBlock-array c.args.key.now c.told-key c.fits-key) c.in-Some.found c.in-Some-value.value (sym c.in-Some.is ∙ c.in_ok-found.ensures) c.in-Some-value.is

pub returns : goal.returns
returns g c =
    is_misread g.T.Encoded.layout.form g.T.Encoded.layout.lawful c.args.key.now c.args.sealed.now (IsBlock-array c.args.key.now c.told-key c.fits-key) c.in-Some.found (sym c.in-Some.is ∙ c.in_ok-found.ensures) c.in-None.is
