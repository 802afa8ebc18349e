use Rattle.tests_server.proofs.meeting.links_and_workers_meet.Given as goal

abbrev pub ghosts-comes_out : goal.ghosts-comes_out
ghosts-comes_out g a = record { name = a.blank.name; parts = a.blank.parts }
