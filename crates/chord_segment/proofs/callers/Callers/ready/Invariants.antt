use Rattle.std.proofs.Common.{◌≡◌, ℕ, take}
use Rattle.chord_segment.specs.Callers.{marks_in, calls_in, HasRoom, HasRoomFor}
use Rattle.chord_segment.proofs.callers.Callers.ready.Given as goal

abbrev pub invariant-loop-own : goal.invariant-loop-own
invariant-loop-own l = record {
  floors : marks_in l.self ≡ marks_in l.initial.self;
  calls : calls_in l.self ≡ calls_in l.initial.self;
  keeps : (caller room : ℕ) → HasRoom caller room l.initial.self → HasRoom caller room l.self;
  room : HasRoomFor (take l.own-index l.own-items) l.self;
}
