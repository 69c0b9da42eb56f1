use Rattle.chord_table.proofs.registrar.Registrar.crash.Given as goal

-- picks the node that crashes
abbrev pub ghosts-crash_node : goal.ghosts-crash_node
ghosts-crash_node g a = record { number = a.number }
