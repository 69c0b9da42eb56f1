use Rattle.chord_live_tests.proofs.rings.numbering.nodes_get_numbers.Given as goal

-- picks the name of the table that was just opened
abbrev pub ghosts-admitted : goal.ghosts-admitted
ghosts-admitted g a = record { name = a.parts }
