use Rattle.std.proofs.Common.{◌≡◌, ◌++◌, length}
use Rattle.std.specs.Vec.Iter.{into_iter_items, into_iter_len}
use Rattle.chord_segment.specs.Marks.{lift_all}
use Rattle.chord_segment.specs.Segment.{insert_calls, calls_above}
use Rattle.chord_segment.specs.Callers.{IsGrouped, marks_in, calls_in, AreAbove, HasRoomFor}
use Rattle.chord_segment.proofs.callers.Callers.take_all.Given as goal

abbrev pub invariant-loop-own : goal.invariant-loop-own
invariant-loop-own l = record {
  parts : l.yielded ++ into_iter_items l.own-iterator ≡ into_iter_items l.initial.own-iterator;
  count : into_iter_len l.own-iterator ≡ length (into_iter_items l.own-iterator);
  grouped : IsGrouped (into_iter_items l.own-iterator);
  floors : marks_in l.self ≡ lift_all (marks_in l.yielded) (marks_in l.initial.self);
  calls : calls_in l.self ≡ calls_above (marks_in l.self) (insert_calls (calls_in l.yielded) (calls_in l.initial.self));
  above : AreAbove l.self;
  room : HasRoomFor (into_iter_items l.own-iterator) l.self;
}
