use Rattle.cx_secure.proofs.sealing.Sealing.put_frame.Goals as goal

pub returns-in-Err-clause-after : goal.returns-in-Err-clause-after
returns-in-Err-clause-after c = c.keep_unsent.ensures c.args.frame.now
