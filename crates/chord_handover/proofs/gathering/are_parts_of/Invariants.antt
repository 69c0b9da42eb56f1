use Rattle.std.proofs.Common.{◌≡◌, true, take}
use Rattle.chord_map.proofs.Lists.{Has}
use Rattle.chord_handover.specs.Gather.{IsFitting}
use Rattle.chord_handover.specs.Handover.{Part, IsPart, gathered_parts}
use Rattle.chord_handover.proofs.GatherRules.{is_like}
use Rattle.chord_handover.proofs.gathering.are_parts_of.Given as goal

abbrev pub invariant-loop-other : goal.invariant-loop-other
invariant-loop-other l = (other : Part) → Has (take l.other-index l.buffered) other → is_like l.part other ≡ true → IsPart other × IsFitting l.part (gathered_parts l.part l.buffered) other
