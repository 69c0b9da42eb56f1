use Rattle.chord_live_tests.proofs.rings.boxed.a_boxed_store_is_full.Given as goal

-- picks the name of the ring that was just made
abbrev pub ghosts-fills_boxed : goal.ghosts-fills_boxed
ghosts-fills_boxed g a = record { name = a.parts.name }
