use Rattle.cx_laws_due.proofs.Calls.{agrees-to, answers-it, begins, enters-answer, forgets, greets, identifies-it, shows}
use Rattle.cx_laws_due.proofs.laws.calling_laws.Goals as goal

pub returns-clause-greets : goal.returns-clause-greets
returns-clause-greets c = greets

pub returns-clause-shows : goal.returns-clause-shows
returns-clause-shows c = shows

pub returns-clause-answers_challenge : goal.returns-clause-answers_challenge
returns-clause-answers_challenge c = answers-it

pub returns-clause-agrees : goal.returns-clause-agrees
returns-clause-agrees c = agrees-to

pub returns-clause-identifies : goal.returns-clause-identifies
returns-clause-identifies c = identifies-it

pub returns-clause-begins : goal.returns-clause-begins
returns-clause-begins c = begins

pub returns-clause-enters_answer : goal.returns-clause-enters_answer
returns-clause-enters_answer c = enters-answer

pub returns-clause-acknowledges : goal.returns-clause-acknowledges
returns-clause-acknowledges c = forgets
