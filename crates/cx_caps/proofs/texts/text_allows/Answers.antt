use Rattle.std.proofs.Common.{rules}
use borrow.Author.Tests.{tests}
use Rattle.std.proofs.lemmas.Iterator.Search.{any_from_yields_List}
use Rattle.std.proofs.lemmas.Iterator.Splits.{YieldsList-from_slice_split}
use Rattle.cx_caps.specs.Grammar.{is_comma}
use Rattle.cx_caps.specs.Reading.{clause_allows}
use Rattle.cx_caps.proofs.texts.text_allows.Goals as goal

pub returns : goal.returns
returns c =
    any_from_yields_List (clause_allows c.args.ask.now) _ _ _ c.any.ensures.ran
    (YieldsList-from_slice_split _ is_comma c.args.text.now c.split.ensures.rest c.split.ensures.done c.split.ensures.closure
    (λ x b q k. search (rules, tests)))
    (λ x b q k. search (rules, tests))
