use Rattle.incusd.proofs.listening.serve_over.Given as goal

-- the ledger is that of the blank
abbrev pub ghosts-serve_at : goal.ghosts-serve_at
ghosts-serve_at g a = record { name = a.blank.name; parts = a.blank.parts }
