use Rattle.std.proofs.Common.{◌≡◌, ◌∙◌, ap, List, ℕ}
use Rattle.std.specs.BTreeSet.{contains_text}
use Rattle.cx_base.specs.Names.{Name, name_text}
use Rattle.cx_words.specs.lines.Named.{is_among}
use Rattle.cx_words.proofs.names.Names.has.Goals as goal

pub returns : goal.returns
returns c =
    let text : c.as_str.result.now ≡ name_text c.args.name.now = c.as_str.ensures.value ∙ c.in_ok-text.ensures.text in
    c.contains.ensures
    ∙ ap (λ (t : List ℕ). contains_text c.self.inside.texts t) text
    ∙ c.self.invariant.named c.args.name.now c.in_ok-text.ensures.good
    ∙ ap (λ (names : List Name). is_among names c.args.name.now) c.self.view_is
