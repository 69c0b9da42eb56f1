use Rattle.chord_state_tests.proofs.table.assemblies.a_node_and_a_caller_are_a_world.Given as goal

-- picks the name of the table that was just opened
abbrev pub ghosts-two_are_a_world : goal.ghosts-two_are_a_world
ghosts-two_are_a_world a = record { name = a.parts }
