use Rattle.chord_state_tests.proofs.table.a_node_acts_before.Given as goal

-- picks the name of the table that was just opened
abbrev pub ghosts-acts_before : goal.ghosts-acts_before
ghosts-acts_before g a = record { name = a.parts }
