use Rattle.chord_state_tests.proofs.table.a_call_comes_as_it_was_sent.Given as goal

-- picks the name of the table that was just opened
abbrev pub ghosts-comes_as_it_was_sent : goal.ghosts-comes_as_it_was_sent
ghosts-comes_as_it_was_sent g a = record { name = a.parts }
