-- The bytes given are the next ones.
use Rattle.std.proofs.Common.{◌≡◌, length, take, drop, min, rules}
use Rattle.cx_base.proofs.Given.{gives_front}
use Rattle.cx_base.proofs.in_memory.ByteSourceSource.pull.Goals as goal

pub returns-clause-gives : goal.returns-clause-gives
returns-clause-gives c =
    let is_left : c.args.self.now.left ≡ drop c.self.inside.place c.self.inside.bytes = cc in
    let count : c.give-count.result ≡ min (length c.args.self.now.left) (length c.args.into.now) = cc in
    let front : take c.give-count.result c.give-count.new.into ≡ take c.give-count.result c.args.self.now.left = cc in
    let room : length c.give-count.new.into ≡ length c.args.into.now = search rules in
    gives_front c.self.inside.bytes c.args.self.now.left c.give-count.new.into c.self.inside.place c.give-count.result (length c.args.into.now)
    is_left room count front
