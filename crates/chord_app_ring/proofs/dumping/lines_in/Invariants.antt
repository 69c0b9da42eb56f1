use Rattle.std.proofs.Common.{◌≡◌, ◌≤◌, take}
use Rattle.std.specs.List.{count_by}
use Rattle.chord_app_ring.specs.Dumping.{is_end}
use Rattle.chord_app_ring.proofs.dumping.lines_in.Given as goal

abbrev pub invariant-loop-byte : goal.invariant-loop-byte
invariant-loop-byte l = (l.lines ≡ count_by is_end (take l.byte-index l.text)) × (l.lines ≤ l.byte-index)
