use Rattle.cx_audit_text.proofs.forms.line_behind.Goals as goal

pub returns-in-Saved : goal.returns-in-Saved
returns-in-Saved c = rw c.in-Saved.is (c.saved_of.ensures c.args.counted)

pub returns-in-Fetched : goal.returns-in-Fetched
returns-in-Fetched c = rw c.in-Fetched.is (c.fetched_of.ensures c.args.counted)

pub returns-in-Looked : goal.returns-in-Looked
returns-in-Looked c = rw c.in-Looked.is (c.looked_of.ensures c.args.counted)

pub returns-in-Answered : goal.returns-in-Answered
returns-in-Answered c = rw c.in-Answered.is (c.answered_of.ensures c.args.counted)

pub returns-in-Ended : goal.returns-in-Ended
returns-in-Ended c = rw c.in-Ended.is (c.ended_of.ensures c.args.counted)

pub returns-in-Restarted : goal.returns-in-Restarted
returns-in-Restarted c = rw c.in-Restarted.is (c.restarted_of.ensures c.args.counted)

pub returns-in-Broken : goal.returns-in-Broken
returns-in-Broken c = rw c.in-Broken.is (c.broken_of.ensures c.args.counted)

pub returns-in-Leaked : goal.returns-in-Leaked
returns-in-Leaked c = rw c.in-Leaked.is (c.leaked_of.ensures c.args.counted)

pub returns-in-Administered : goal.returns-in-Administered
returns-in-Administered c = rw c.in-Administered.is (c.administered_of.ensures c.args.counted)
