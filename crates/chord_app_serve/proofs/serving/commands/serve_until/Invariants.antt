use Rattle.chord_app_serve.proofs.serving.commands.serve_until.Given as goal

-- picks the name of the ring that was just made
abbrev pub ghosts-serve_named : goal.ghosts-serve_named
ghosts-serve_named g a = record { name = a.parts.name }
