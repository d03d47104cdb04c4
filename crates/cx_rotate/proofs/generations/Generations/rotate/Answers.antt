-- What stands behind a rotation is what the definition computes.
use Rattle.std.proofs.Common.{◌≡◌, [], length, sym, Some, rules, arith}
use Rattle.cx_rotate.specs.Held.{listed}
use Rattle.cx_rotate.proofs.Determined.{counted, computed}
use Rattle.cx_rotate.proofs.Opened.{opened}
use Rattle.cx_rotate.proofs.generations.Generations.rotate.Goals as goal

pub returns-in_default-clause-rotated : goal.returns-in_default-clause-rotated
returns-in_default-clause-rotated c =
    let none : c.args.self.now ≡ [] = search rules in
    let three : length c.args.keys.now ≡ 3 = search rules in
    rw none (opened c.args.now c.args.life c.args.keys.now _ three (omega arith) c.opening.ensures.grown)

pub returns-then-is_current-2-clause-new : goal.returns-then-is_current-2-clause-new
returns-then-is_current-2-clause-new c = computed c.args.self.now c.args.now c.args.life c.args.keys.now _ 1 (search rules) (omega arith)

pub returns-clause-new : goal.returns-clause-new
returns-clause-new c = computed c.args.self.now c.args.now c.args.life c.args.keys.now _ 2 (search rules) (omega arith)

pub returns-in_default-clause-count : goal.returns-in_default-clause-count
returns-in_default-clause-count c =
    let none : c.args.self.now ≡ [] = search rules in
    let three : length c.args.keys.now ≡ 3 = search rules in
    sym (rw none (counted [] c.args.now c.args.life c.args.keys.now _ 3 (opened c.args.now c.args.life c.args.keys.now _ three (omega arith) c.opening.ensures.grown) (omega arith)))

pub returns-then-is_current-2-clause-count : goal.returns-then-is_current-2-clause-count
returns-then-is_current-2-clause-count c = sym (counted c.args.self.now c.args.now c.args.life c.args.keys.now (listed (Some c.shifted-shifted.result)) 1 (search rules) (omega arith))

pub returns-clause-count : goal.returns-clause-count
returns-clause-count c = sym (counted c.args.self.now c.args.now c.args.life c.args.keys.now (listed (Some c.shifted.result)) 2 (search rules) (omega arith))
