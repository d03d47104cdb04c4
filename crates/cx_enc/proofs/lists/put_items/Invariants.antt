use Rattle.std.proofs.Common.{◌≡◌, take, All}
use Rattle.std.specs.List.{flat_map}
use Rattle.cx_enc.proofs.lists.put_items.Given as goal

abbrev pub invariant-loop-item : goal.invariant-loop-item
invariant-loop-item g l = record {
  spelled : l.spelled ≡ flat_map g.T.Encoded.layout.form.text (take l.item-index l.items);
  fits : All g.T.Encoded.layout.form.Fits (take l.item-index l.items);
}
