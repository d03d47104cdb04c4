use Rattle.std.proofs.Common.{◌≡◌, ◌-◌}
use Rattle.cx_enc.specs.Forms.{times_at}
use Rattle.cx_enc.specs.Reading.{spot}
use Rattle.cx_enc.proofs.Loops.{with_front}
use Rattle.cx_enc.proofs.lists.take_items.Given as goal

abbrev pub invariant-loop : goal.invariant-loop
invariant-loop g l =
    with_front l.items (times_at g.T.Encoded.layout.form.at (l.count - l.counter) (spot l.at)) ≡ times_at g.T.Encoded.layout.form.at l.count (spot l.initial.at)
