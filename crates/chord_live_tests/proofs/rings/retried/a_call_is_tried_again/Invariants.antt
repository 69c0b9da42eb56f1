use Rattle.chord_live_tests.proofs.rings.retried.a_call_is_tried_again.Given as goal

-- picks the name of the ring that was just made
abbrev pub ghosts-tries_again : goal.ghosts-tries_again
ghosts-tries_again g a = record { name = a.parts.name }
