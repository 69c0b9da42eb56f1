use Rattle.chord_table.proofs.registrar.Registrar.retire.Given as goal

-- picks the node that retires
abbrev pub ghosts-retire_node : goal.ghosts-retire_node
ghosts-retire_node g a = record { number = a.number }
