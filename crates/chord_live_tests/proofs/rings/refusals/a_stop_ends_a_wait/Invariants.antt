use Rattle.chord_live_tests.proofs.rings.refusals.a_stop_ends_a_wait.Given as goal

-- picks the name of the ring that was just made
abbrev pub ghosts-waits_until_a_stop : goal.ghosts-waits_until_a_stop
ghosts-waits_until_a_stop g a = record { name = a.parts.name }
