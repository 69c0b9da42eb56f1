use Rattle.std.proofs.Common.{◌≡◌, ℕ, is_some, take}
use Rattle.chord_map.specs.History.{done_at}
use Rattle.chord_caller.specs.Names.{has_name}
use Rattle.chord_caller.proofs.note.names_of.Given as goal

abbrev pub invariant-loop-done : goal.invariant-loop-done
invariant-loop-done l = (caller number : ℕ) → has_name caller number l.names ≡ is_some (done_at caller number (take l.done-index l.dones))
