-- Calls that are missing from a list.
use Rattle.std.specs.Prelude.{not, is_some, List, filter}
use Rattle.chord_map.specs.declared.done.Done.{Done}
use Rattle.chord_map.specs.History.{done_at}

-- the calls that are not in the list
abbrev pub not_in : List Done → List Done → List Done
not_in listed dones = filter (λ (done : Done). not (is_some (done_at done.caller done.number listed))) dones
