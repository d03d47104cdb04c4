use Rattle.std.proofs.Common.{◌∙◌, ℕ, ◌<◌, List, Option, get_or, length, refl, sym, ap, subst}
use Rattle.cx_node.specs.Tables.{Table}
use Rattle.cx_node.specs.cx_rules.specs.Links.{without_link}
use Rattle.cx_client_events.specs.linking.Kinds.{ClientLink}
use Rattle.cx_node.proofs.kinds.Shutting.{left_more, none_named}
use Rattle.cx_client_events.proofs.scans.shut_all.Goals as goal

pub loop-number-init : goal.loop-number-init
loop-number-init c = (sym (none_named c.args.links.now.links), refl)

pub loop-number-preserved : goal.loop-number-preserved
loop-number-preserved c =
    let i : ℕ = c.loop-number.number-index in
    let links_of : Table ClientLink → List ClientLink = λ t. t.links in
    let room_of : Table ClientLink → Option ℕ = λ t. t.room in
    let cut : List ℕ → List ClientLink = λ ns. without_link (get_or ns i 0) c.loop-number.links.links in
    let cut_here : List ClientLink → List ClientLink = λ ls. without_link (get_or c.args.numbers.now i 0) ls in
    let within : i < length c.args.numbers.now = subst (λ (ns : List ℕ). i < length ns) c.all-number-items.ensures c.loop-number-test.true in (
      ap links_of c.remove.ensures ∙ ap cut c.all-number-items.ensures ∙ ap cut_here c.loop-number.invariant.0
          ∙ left_more c.args.numbers.now i within c.args.links.now.links,
      ap room_of c.remove.ensures ∙ c.loop-number.invariant.1,
    )
