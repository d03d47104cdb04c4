-- The loop writes the values, each behind what stands before it.
use Rattle.std.proofs.Common.{◌≡◌, ◌<◌, ◌++◌, length, get_or, sym, ap, ◌∙◌, arith}
use Rattle.std.proofs.lemmas.Result.{on_ok_weaker}
use Rattle.cx_enc.specs.Forms.{chain_text}
use Rattle.cx_enc.proofs.Behind.{text_goes_on, text_is_done, fits_next, fits_front, fits_done}
use Rattle.cx_enc.proofs.chains.put_chain.Goals as goal

pub write_behind-requires : goal.write_behind-requires
write_behind-requires g c =
    let items = c.args.items.now in
    let item = c.item-item.result in
    let is : get_or items c.loop-item.item-index item ≡ item = cc in
    (fits_next g.T.Chained.Bound g.T.Chained.next c.loop-item.before items c.loop-item.item-index item (omega (arith, ap length c.all-item-items.ensures)) is c.loop-item.invariant.bound).0

pub loop-item-preserved : goal.loop-item-preserved
loop-item-preserved g c =
    let text = λ (b : g.row.S.Denot). (g.T.Chained.layout b).form.text in
    let fits = λ (b : g.row.S.Denot). (g.T.Chained.layout b).form.Fits in
    let next = g.T.Chained.next in
    let items = c.args.items.now in
    let i = c.loop-item.item-index in
    let item = c.item-item.result in
    let before = c.loop-item.before in
    let is : get_or items i item ≡ item = cc in
    let lt : i < length items = omega (arith, ap length c.all-item-items.ensures) in
    record {
      spelled = rw (c.in_ok-write_behind.ensures.ok, c.next-before.ensures) (sym (text_goes_on text next before items i item c.loop-item.spelled lt is) ∙ c.loop-item.invariant.spelled);
      bound = rw c.next-before.ensures ((fits_next g.T.Chained.Bound next before items i item lt is c.loop-item.invariant.bound).1);
      fits = rw c.next-before.ensures (λ rest. c.loop-item.invariant.fits (fits_front fits next before items i item lt is c.in_ok-write_behind.ensures.fits rest));
    }

pub returns-clause-ok : goal.returns-clause-ok
returns-clause-ok g c =
    let text = λ (b : g.row.S.Denot). (g.T.Chained.layout b).form.text in
    let items = c.args.items.now in
    let done = text_is_done text g.T.Chained.next c.loop-item.before items c.loop-item.item-index c.loop-item.spelled (omega (arith, ap length c.all-item-items.ensures)) in
    let all : c.bytes.result.now ≡ chain_text text g.T.Chained.next c.args.first items = c.bytes.ensures ∙ sym done ∙ c.loop-item.invariant.spelled in
    on_ok_weaker c.append.result (λ e. e ∙ ap (λ bytes. c.args.into.now ++ bytes) all) c.append.ensures.ok

pub returns-clause-fits : goal.returns-clause-fits
returns-clause-fits g c =
    let fits = λ (b : g.row.S.Denot). (g.T.Chained.layout b).form.Fits in
    let done = fits_done fits g.T.Chained.next c.loop-item.before c.args.items.now c.loop-item.item-index (omega (arith, ap length c.all-item-items.ensures)) in
    on_ok_weaker c.append.result (λ _. c.loop-item.invariant.fits done) c.append.ensures.ok
