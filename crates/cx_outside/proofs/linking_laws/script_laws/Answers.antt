-- The laws, by their lemmas.
use Rattle.std.proofs.Common.{arith}
use Rattle.cx_outside.proofs.linking.Walks.{bytes_path, living_path, number_path, taken_path}
use Rattle.cx_outside.specs.linking.Scripts.{scripted}
use Rattle.cx_outside.proofs.linking_laws.script_laws.Goals as goal

pub returns-clause-numbers : goal.returns-clause-numbers
returns-clause-numbers c = λ events bytes room fails acts s p. (number_path (scripted events bytes room fails) s acts p).in_order

pub returns-clause-bytes : goal.returns-clause-bytes
returns-clause-bytes c = λ events bytes room fails acts s p. bytes_path (scripted events bytes room fails) s acts p

pub returns-clause-taken : goal.returns-clause-taken
returns-clause-taken c = λ events bytes room fails acts s p.
    let took = taken_path (scripted events bytes room fails) s acts p in
    (took.0, omega (arith, took.1))

pub returns-clause-living : goal.returns-clause-living
returns-clause-living c = λ events bytes room fails acts s p. living_path (scripted events bytes room fails) s acts p
