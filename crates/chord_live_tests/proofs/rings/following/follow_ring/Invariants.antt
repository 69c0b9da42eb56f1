use Rattle.chord_live_tests.proofs.rings.following.follow_ring.Given as goal

-- picks the name of the ring that was just made
abbrev pub ghosts-run : goal.ghosts-run
ghosts-run g a = record { name = a.parts.name }
