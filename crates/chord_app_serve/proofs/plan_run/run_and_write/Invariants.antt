use Rattle.chord_app_serve.proofs.plan_run.run_and_write.Given as goal

-- picks the name of the ring that was just made
abbrev pub ghosts-run_named : goal.ghosts-run_named
ghosts-run_named g a = record { name = a.parts.name }
