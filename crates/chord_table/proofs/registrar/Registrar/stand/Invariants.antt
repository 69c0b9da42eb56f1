use Rattle.chord_table.proofs.registrar.Registrar.stand.Given as goal

-- picks the node that is a principal
abbrev pub ghosts-stand_node : goal.ghosts-stand_node
ghosts-stand_node g a = record { number = a.number }
