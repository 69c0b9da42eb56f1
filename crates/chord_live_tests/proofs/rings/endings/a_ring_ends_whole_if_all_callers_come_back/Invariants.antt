use Rattle.chord_live_tests.proofs.rings.endings.a_ring_ends_whole_if_all_callers_come_back.Given as goal

-- picks the name of the ring that was just made
abbrev pub ghosts-closes : goal.ghosts-closes
ghosts-closes g a = record { name = a.parts.name }
