use Rattle.std.proofs.Common.{rules, arith, ◌≡◌, ◌≤◌, ◌<◌, ℕ, List, [], ◌∷◌, ◌++◌, length, refl, append_assoc, ap, sym, subst, ◌∙◌}
use Rattle.std.specs.Vec.Iter.{into_iter_items}
use Rattle.chord_map.specs.declared.done.Done.{Done}
use Rattle.chord_map.proofs.Each.{Each}
use Rattle.chord_segment.specs.declared.mark.Mark.{Mark}
use Rattle.chord_segment.specs.Marks.{mark_of, lift_all}
use Rattle.chord_segment.specs.Segment.{insert_calls}
use Rattle.chord_segment.specs.Callers.{OfCaller, IsGrouped, HasRoomFor, mark_in, marks_in, calls_in}
use Rattle.chord_segment.proofs.Lifting.{lift_all_grows}
use Rattle.chord_segment.proofs.Merging.{rising, marks_more, calls_more, are_above, all_above}
use Rattle.chord_segment.proofs.Rooms.{room_rest}
use Rattle.chord_segment.proofs.callers.Callers.take_all.Goals as goal

pub loop-own-init : goal.loop-own-init
unfolding lift_all insert_calls
loop-own-init c =
    let it = c.into_iter-own-iterator.result in
    let is : into_iter_items it ≡ c.other.inside.entries.items = search rules in
    record {
      parts = refl;
      count = search rules;
      grouped = subst IsGrouped (sym is) c.other.invariant;
      floors = refl;
      calls = all_above (marks_in c.args.self.now) (calls_in c.args.self.now) c.requires.above;
      above = c.requires.above;
      room = subst (λ (zs : List OfCaller). HasRoomFor zs c.args.self.now) (sym (is ∙ c.other.view_is)) c.requires.room;
    }

pub loop-own-preserved : goal.loop-own-preserved
loop-own-preserved c =
    let at = c.loop-own in
    let x = c.in-Some.own in
    let new = c.take.new.self in
    let rest : List OfCaller = into_iter_items c.next.new.self in
    let steps : into_iter_items at.own-iterator ≡ x ∷ rest = c.in-Some.ensures.steps.0 in
    let grouped : IsGrouped (x ∷ rest) = subst IsGrouped steps at.invariant.grouped in
    let first : IsGrouped c.args.self.now = subst IsGrouped c.self.view_is c.self.invariant in
    let room : HasRoomFor (x ∷ rest) at.self = subst (λ (zs : List OfCaller). HasRoomFor zs at.self) steps at.invariant.room in
    record {
      parts = append_assoc at.yielded (x ∷ []) rest ∙ ap (λ (zs : List OfCaller). at.yielded ++ zs) (sym steps) ∙ at.invariant.parts;
      count = let was = at.invariant.count in let gone = c.in-Some.ensures.steps.1 in let short = ap (λ (zs : List OfCaller). length zs) steps in omega arith;
      grouped = grouped.2;
      floors = marks_more (marks_in c.args.self.now) at.yielded x (marks_in at.self) (marks_in new) at.invariant.floors c.take.ensures.floors;
      calls = calls_more (calls_in c.args.self.now) at.yielded x (marks_in at.self) (marks_in new) (calls_in at.self) (calls_in new) (rising c.args.self.now first)
          (λ (owner : ℕ). subst (λ (ms : List Mark). mark_of owner (marks_in at.self) ≤ mark_of owner ms) (sym c.take.ensures.floors) (lift_all_grows owner (mark_in x) (marks_in at.self)))
          at.invariant.calls c.take.ensures.calls;
      above = subst (λ (ds : List Done). Each (λ (done : Done). mark_of done.caller (marks_in new) < done.number) ds) (sym c.take.ensures.calls) (are_above (marks_in new) (insert_calls x.kept (calls_in at.self)));
      room = room_rest x.caller rest at.self new grouped.1 c.take.ensures.room room.1;
    }
