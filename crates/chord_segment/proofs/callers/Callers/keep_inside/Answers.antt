use Rattle.std.proofs.Common.{◌<◌, List, map, length, arith, ap, subst, ◌∙◌}
use Rattle.chord_segment.specs.Segment.{dones_inside}
use Rattle.chord_segment.specs.Callers.{OfCaller, part_in, marks_in, calls_in}
use Rattle.chord_segment.proofs.Bare.{AreSame, same_itself, same_marks, same_calls, same_grouped, parted_more, parted_all, part_marks, part_calls, part_grouped}
use Rattle.chord_segment.proofs.callers.Callers.keep_inside.Goals as goal

pub loop-i-init : goal.loop-i-init
loop-i-init c = same_itself _

pub invariant_of-self : goal.invariant_of-self
invariant_of-self c =
    let xs = c.self.inside.entries.items in
    let all : AreSame c.loop-i.self-inside.entries.items (map (part_in c.args.span) xs) =
    subst (AreSame c.loop-i.self-inside.entries.items) (parted_all c.args.span c.loop-i.i xs (omega (arith, c.len-i-end.ensures, c.loop-i-test.false))) c.loop-i.invariant in
    same_grouped c.loop-i.self-inside.entries.items (map (part_in c.args.span) xs) all (part_grouped c.args.span xs c.self.invariant)

pub loop-i-preserved : goal.loop-i-preserved
loop-i-preserved c =
    let xs = c.self.inside.entries.items in
    let own = c.index_mut.result.now in
    let below : c.loop-i.i < length xs = omega (arith, c.len-i-end.ensures, c.loop-i-test.true) in
    parted_more c.args.span c.loop-i.self-inside.entries.items xs c.loop-i.i own c.keep_inside.new.self c.loop-i.invariant below
    (c.keep_inside.ensures ∙ ap (part_in c.args.span) c.index_mut.ensures.value)

pub returns-clause-floors : goal.returns-clause-floors
returns-clause-floors c =
    let xs = c.self.inside.entries.items in
    let all : AreSame c.loop-i.self-inside.entries.items (map (part_in c.args.span) xs) =
    subst (AreSame c.loop-i.self-inside.entries.items) (parted_all c.args.span c.loop-i.i xs (omega (arith, c.len-i-end.ensures, c.loop-i-test.false))) c.loop-i.invariant in
    same_marks c.loop-i.self-inside.entries.items (map (part_in c.args.span) xs) all ∙ part_marks c.args.span xs ∙ ap marks_in c.self.view_is

pub returns-clause-calls : goal.returns-clause-calls
returns-clause-calls c =
    let xs = c.self.inside.entries.items in
    let all : AreSame c.loop-i.self-inside.entries.items (map (part_in c.args.span) xs) =
    subst (AreSame c.loop-i.self-inside.entries.items) (parted_all c.args.span c.loop-i.i xs (omega (arith, c.len-i-end.ensures, c.loop-i-test.false))) c.loop-i.invariant in
    same_calls c.loop-i.self-inside.entries.items (map (part_in c.args.span) xs) all ∙ part_calls c.args.span xs ∙ ap (λ (ys : List OfCaller). dones_inside c.args.span (calls_in ys)) c.self.view_is
