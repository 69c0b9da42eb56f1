use Rattle.chord_live_tests.proofs.rings.numbering.a_seated_core_submits_and_meets.Given as goal

-- picks the name of the table that was just opened
abbrev pub ghosts-seated : goal.ghosts-seated
ghosts-seated g a = record { name = a.parts }
