use Rattle.tests_threads.proofs.turns.who_idles_is_woken_by_its_bell_alone.Given as goal

abbrev pub ghosts-idles : goal.ghosts-idles
ghosts-idles g a = record { name = a.blank.name; parts = a.blank.parts }
