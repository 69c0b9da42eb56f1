use Rattle.chord_live_tests.proofs.rings.standing.a_core_and_its_seat.Given as goal

-- picks the name of the ring that was just made
abbrev pub ghosts-stands : goal.ghosts-stands
ghosts-stands g a = record { name = a.parts.name }
