use Rattle.tests_threads.proofs.turns.eight_tickets_on_eight_threads.Given as goal

abbrev pub ghosts-eight : goal.ghosts-eight
ghosts-eight g a = record { name = a.blank.name; parts = a.blank.parts }
