use Rattle.chord_state_tests.proofs.table.standings.a_first_node_is_a_principal.Given as goal

-- picks the name of the table that was just opened
abbrev pub ghosts-one_stands : goal.ghosts-one_stands
ghosts-one_stands a = record { name = a.parts }
