use Rattle.cx_lines.proofs.link_steps.link_step_of.Goals as goal

pub returns-in-Carry : goal.returns-in-Carry
returns-in-Carry c = λ known. rw c.in-Carry.is (c.carry_of.ensures known)

pub returns-in-Lose : goal.returns-in-Lose
returns-in-Lose c = λ known. rw c.in-Lose.is (c.lose_of.ensures known)

pub returns-in-Inject : goal.returns-in-Inject
returns-in-Inject c = λ known. rw c.in-Inject.is (c.inject_of.ensures known)

pub returns-in-Again : goal.returns-in-Again
returns-in-Again c = λ known. rw c.in-Again.is (c.again_of.ensures known)

pub returns-in-Cut : goal.returns-in-Cut
returns-in-Cut c = λ known. rw c.in-Cut.is (c.cut_of.ensures known)
