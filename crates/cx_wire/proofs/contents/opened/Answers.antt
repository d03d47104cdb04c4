-- The front of the bytes up to the end of their blob is read as the blob's length, and what the blob holds is left.
use Rattle.std.proofs.Common.{◌≡◌, ◌-◌, Ok, Err, length, take, rules, arith}
use Rattle.std.proofs.lemmas.Grind.{common_steps}
use Rattle.cx_enc.specs.Forms.{u32_form, blob_form}
use Rattle.cx_enc.specs.Reading.{spot}
use Rattle.cx_enc.specs.Whole.{start}
use Rattle.cx_wire.proofs.Opening.{left_le, no_front_fault, is_opened}
use Rattle.cx_wire.proofs.contents.opened.Goals as goal

pub slice_bounds-new-count : goal.slice_bounds-new-count
slice_bounds-new-count c =
    let opens : blob_form.at (start c.args.bytes.now) ≡ Ok (c.in_ok-take_blob.field-0.now, spot c.take_blob.new.self) = search rules in
    omega (arith, left_le c.args.bytes.now c.in_ok-take_blob.field-0.now (spot c.take_blob.new.self) (λ i. omega (arith, c.type_inv.bytes i)) opens)

pub returns-in_err-take_u32 : goal.returns-in_err-take_u32
returns-in_err-take_u32 c =
    let opens : blob_form.at (start c.args.bytes.now) ≡ Ok (c.in_ok-take_blob.field-0.now, spot c.take_blob.new.self) = search rules in
    let bad : u32_form.at (start (take (length c.args.bytes.now - length (spot c.take_blob.new.self).left) c.args.bytes.now)) ≡ Err c.in_err-take_u32.field-0.0 = grind (arith, common_steps) in
    absurd (no_front_fault c.args.bytes.now c.in_ok-take_blob.field-0.now (spot c.take_blob.new.self) c.in_err-take_u32.field-0.0 (λ i. omega (arith, c.type_inv.bytes i)) opens bad)

pub returns : goal.returns
returns c =
    let opens : blob_form.at (start c.args.bytes.now) ≡ Ok (c.in_ok-take_blob.field-0.now, spot c.take_blob.new.self) = search rules in
    let read : u32_form.at (start (take (length c.args.bytes.now - length (spot c.take_blob.new.self).left) c.args.bytes.now)) ≡ Ok (c.in_ok-take_u32.field-0, spot c.take_u32.new.self) = grind (arith, common_steps) in
    is_opened c.args.bytes.now c.in_ok-take_blob.field-0.now (spot c.take_blob.new.self) c.in_ok-take_u32.field-0 (spot c.take_u32.new.self) (λ i. omega (arith, c.type_inv.bytes i)) opens read
