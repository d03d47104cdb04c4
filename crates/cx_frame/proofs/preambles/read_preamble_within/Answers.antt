use Rattle.std.proofs.Common.{◌≡◌, ◌∙◌, sym}
use Rattle.cx_frame.specs.Preambles.{IsAllowed, preamble_text}
use Rattle.cx_frame.proofs.Answering.{ok_from}
use Rattle.cx_frame.proofs.PreambleLaws.{preamble_found, preamble_again}
use Rattle.cx_frame.proofs.preambles.read_preamble_within.Goals as goal

pub returns-clause-found : goal.returns-clause-found
returns-clause-found c =
    ok_from c.checked.result (λ p. IsAllowed c.args.limit p × (c.args.bytes.now ≡ preamble_text p))
    (λ p is. preamble_found c.args.limit c.args.bytes.now p c.fits-bytes c.told-bytes (sym c.checked.ensures ∙ is))

pub returns-clause-only : goal.returns-clause-only
returns-clause-only c = λ p fine text. c.checked.ensures ∙ preamble_again c.args.limit c.args.bytes.now p fine text
