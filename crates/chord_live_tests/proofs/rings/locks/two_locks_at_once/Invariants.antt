use Rattle.chord_live_tests.proofs.rings.locks.two_locks_at_once.Given as goal

-- picks the name of the ring that was just made
abbrev pub ghosts-two_nodes : goal.ghosts-two_nodes
ghosts-two_nodes g a = record { name = a.parts.name }
