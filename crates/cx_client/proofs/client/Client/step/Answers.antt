-- The step is that of the rules for each of their states that the client stands for.
use Rattle.cx_client.proofs.Kept.{same_on_ok, stands_on_err, stands_on_ok}
use Rattle.cx_client.proofs.Standing.{client_loses}
use Rattle.cx_client.proofs.client.Client.step.Goals as goal

pub returns-clause-effects : goal.returns-clause-effects
returns-clause-effects c = λ s h.
    same_on_ok c.take_step.result c.take_step.new.out _ _ c.take_step.ensures.out
    (c.client_forgetting_laws.ensures.forgets c.args.self.now s _ c.args.now c.args.draw.now.bytes h).0

pub returns-clause-stands : goal.returns-clause-stands
returns-clause-stands c = λ s h.
    stands_on_ok c.take_step.result c.take_step.new.self _ _ c.take_step.ensures.state
    (c.client_forgetting_laws.ensures.forgets c.args.self.now s _ c.args.now c.args.draw.now.bytes h).1

pub returns-clause-lost_stands : goal.returns-clause-lost_stands
returns-clause-lost_stands c = λ s h.
    stands_on_err c.take_step.result c.take_step.new.self _ _ c.take_step.ensures.lost
    (client_loses c.client_forgetting_laws.ensures.loses c.client_forgetting_laws.ensures.gives_up c.args.self.now s _ h)
