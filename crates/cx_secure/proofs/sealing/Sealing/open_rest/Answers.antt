use Rattle.cx_secure.proofs.sealing.Sealing.open_rest.Goals as goal

pub returns-in-Ok-clause-only : goal.returns-in-Ok-clause-only
returns-in-Ok-clause-only c = λ f kept below is. c.in-Ok.ensures.only f below is
