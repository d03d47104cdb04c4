use Rattle.cx_lines.proofs.node_steps.node_step_of.Goals as goal

pub returns-in-FailSave : goal.returns-in-FailSave
returns-in-FailSave c = rw c.in-FailSave.is (c.failsave_of.ensures c.args.known.now)

pub returns-in-Settle : goal.returns-in-Settle
returns-in-Settle c = rw c.in-Settle.is (c.settle_of.ensures c.args.known.now)
