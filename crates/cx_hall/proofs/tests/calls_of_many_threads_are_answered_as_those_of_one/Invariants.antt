use Rattle.cx_hall.proofs.tests.calls_of_many_threads_are_answered_as_those_of_one.Given as goal

abbrev pub ghosts-answers_to_all : goal.ghosts-answers_to_all
ghosts-answers_to_all g a = record { table = a.unnamed }
