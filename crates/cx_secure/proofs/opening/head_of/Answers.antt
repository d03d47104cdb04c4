use Rattle.std.proofs.Common.{◌++◌, drop, length, sym, ap, ◌∙◌, arith, length-drop}
use Rattle.std.proofs.lemmas.List.{take-append-drop}
use Rattle.cx_frame.specs.Preambles.{preamble_text}
use Rattle.cx_secure.proofs.opening.head_of.Goals as goal

pub returns-clause-found : goal.returns-clause-found
returns-clause-found c =
    let plain = c.args.plain.now in
    let found = c.in_ok-preamble.ensures.found in
    record {
      allowed = found.0;
      inline = ap length c.inline_of.ensures ∙ omega (arith, length-drop 32 plain, c.told-plain);
      text = sym (take-append-drop 32 plain) ∙ ap (λ t. t ++ drop 32 plain) (sym c.front_of.ensures ∙ found.1)
          ∙ ap (λ t. preamble_text c.in_ok-preamble.preamble ++ t) (sym c.inline_of.ensures);
    }
