use Rattle.chord_state_tests.proofs.table.clients.a_reply_is_handed_out.Given as goal

-- picks the name of the table that was just opened
abbrev pub ghosts-hands_out : goal.ghosts-hands_out
ghosts-hands_out g a = record { name = a.parts }
