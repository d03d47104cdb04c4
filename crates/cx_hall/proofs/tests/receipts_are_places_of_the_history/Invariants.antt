use Rattle.cx_hall.proofs.tests.receipts_are_places_of_the_history.Given as goal

abbrev pub ghosts-expect_calls_in_turn : goal.ghosts-expect_calls_in_turn
ghosts-expect_calls_in_turn g a = record { table = a.unnamed }
