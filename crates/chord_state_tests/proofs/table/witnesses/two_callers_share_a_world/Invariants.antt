use Rattle.chord_state_tests.proofs.table.witnesses.two_callers_share_a_world.Given as goal

-- picks the name of the table that was just opened
abbrev pub ghosts-two_share_a_world : goal.ghosts-two_share_a_world
ghosts-two_share_a_world g a = record { name = a.parts }
