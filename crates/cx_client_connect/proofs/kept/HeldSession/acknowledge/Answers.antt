-- Those that are left can be written as before.
use Rattle.std.proofs.Common.{ℕ}
use Rattle.std.specs.Prelude.{nat_lt}
use Rattle.std.proofs.lemmas.List.Elements.{All-filter}
use Rattle.cx_base.specs.declared.operations.Operation.{Operation}
use Rattle.cx_wire.specs.Operations.{IsWritable}
use Rattle.cx_client_connect.proofs.kept.HeldSession.acknowledge.Goals as goal

pub invariant_of-self : goal.invariant_of-self
invariant_of-self c =
    rw c.acknowledge.ensures.acknowledged
    (All-filter (λ (ask : ℕ × Operation). nat_lt c.args.seq ask.0) (λ (ask : ℕ × Operation). IsWritable ask.1) _ c.self.invariant)
