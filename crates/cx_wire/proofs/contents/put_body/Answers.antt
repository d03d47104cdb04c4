-- What a blob holds is read again in it.
use Rattle.std.proofs.Common.{◌≡◌, rules}
use Rattle.cx_wire.proofs.Opening.{put_inside}
use Rattle.cx_wire.proofs.contents.put_body.Goals as goal

pub returns : goal.returns
returns g c =
    let written : c.write.new.into ≡ g.T.Encoded.layout.form.text c.args.value.now = search rules in
    put_inside g.T.Encoded.layout c.args.value.now c.write.new.into c.args.into.now c.put_blob.new.into c.put_blob.result written c.in_ok-write.ensures.fits (search rules) (search rules) (search rules)
