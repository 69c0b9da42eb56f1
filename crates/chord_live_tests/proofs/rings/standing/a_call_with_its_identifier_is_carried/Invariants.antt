use Rattle.chord_live_tests.proofs.rings.standing.a_call_with_its_identifier_is_carried.Given as goal

-- picks the name of the ring that was just made
abbrev pub ghosts-carries : goal.ghosts-carries
ghosts-carries g a = record { name = a.parts.name }
