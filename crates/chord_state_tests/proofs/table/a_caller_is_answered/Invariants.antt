use Rattle.chord_state_tests.proofs.table.a_caller_is_answered.Given as goal

-- picks the name of the table that was just opened
abbrev pub ghosts-is_answered_from_a_box : goal.ghosts-is_answered_from_a_box
ghosts-is_answered_from_a_box g a = record { name = a.parts }
