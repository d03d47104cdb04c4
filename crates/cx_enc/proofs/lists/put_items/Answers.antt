-- Each item that was written fits, so the whole list does.
use Rattle.std.proofs.Common.{◌≡◌, length, take, get_or, sym, ap, subst, arith}
use Rattle.std.proofs.lemmas.Grind.{common_steps}
use Rattle.std.proofs.lemmas.List.{take_all}
use Rattle.std.proofs.lemmas.List.Elements.{All-more, recursion_from_All, All-same}
use Rattle.std.proofs.lemmas.Result.{on_ok_weaker}
use Rattle.cx_enc.proofs.lists.put_items.Goals as goal

pub loop-item-preserved : goal.loop-item-preserved
loop-item-preserved g c =
    let fits = g.T.Encoded.layout.form.Fits in
    let items = c.args.items.now in
    let i = c.loop-item.item-index in
    let item = c.item-item.result in
    let is : item ≡ get_or items i item = cc in
    record {
      spelled = grind (arith, common_steps);
      fits = All-more fits items i item (omega (arith, ap length c.all-item-items.ensures)) c.loop-item.invariant.fits (subst fits is c.in_ok-write.ensures.fits);
    }

pub returns-clause-fits : goal.returns-clause-fits
returns-clause-fits g c =
    let fits = g.T.Encoded.layout.form.Fits in
    let items = c.args.items.now in
    let all : take c.loop-item.item-index items ≡ items = take_all c.loop-item.item-index items (omega (arith, ap length c.all-item-items.ensures)) in
    let each = recursion_from_All fits items (All-same fits items (take c.loop-item.item-index items) (sym all) c.loop-item.invariant.fits) in
    on_ok_weaker c.append.result (λ _. each) c.append.ensures.ok
