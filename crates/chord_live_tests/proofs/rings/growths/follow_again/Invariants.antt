use Rattle.chord_live_tests.proofs.rings.growths.follow_again.Given as goal

-- picks the name of the ring that was just made
abbrev pub ghosts-follow : goal.ghosts-follow
ghosts-follow g a = record { name = a.parts.name }
