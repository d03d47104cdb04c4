use Rattle.cx_monclient.proofs.denials.on_bad_method.Goals as goal

pub returns : goal.returns
returns c = λ wire stage. rw c.in_ok-refusal.was (c.on_denial.ensures wire stage)
