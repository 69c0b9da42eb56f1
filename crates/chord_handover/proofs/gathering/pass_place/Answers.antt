use Rattle.std.proofs.Common.{◌≡◌, ◌-◌, ◌+◌, Some, List, sym, ◌∙◌, ap, subst, arith}
use Rattle.chord_map.specs.declared.pair.Pair.{Pair}
use Rattle.chord_handover.specs.Gather.{pairs_of, pairs_upto, part_in}
use Rattle.chord_handover.specs.Handover.{Part, gathered_parts}
use Rattle.chord_handover.specs.Passed.{HasPassed, Goes}
use Rattle.chord_handover.proofs.GatherRules.{more_pairs, no_more_pairs}
use Rattle.chord_handover.proofs.gathering.pass_place.Goals as goal

pub returns-in-Some : goal.returns-in-Some
returns-in-Some c = λ has.
    let all = gathered_parts c.args.part.now c.args.buffered.now in
    let low = c.requires in
    let before = c.args.place - 1 in
    let next : before + 1 ≡ c.args.place = omega arith in
    let found : Some c.in-Some.other.now ≡ part_in (before + 1) all = c.in-Some.ensures ∙ ap (λ n. part_in n all) (sym next) in
    let pairs : c.deref.result.now ≡ pairs_of (Some c.in-Some.other.now) = c.deref.ensures.value ∙ ap (λ (p : Part). p.pairs) c.other.view_is in
    subst (λ (ps : List Pair). Goes c.args.segment.now.segment ps c.walk.result)
    (more_pairs all before (Some c.in-Some.other.now) c.deref.result.now found pairs ∙ ap (λ n. pairs_upto n all) next)
    (c.walk.ensures (pairs_upto before all) has)

pub returns-in-None : goal.returns-in-None
returns-in-None c = λ has.
    let all = gathered_parts c.args.part.now c.args.buffered.now in
    let low = c.requires in
    let before = c.args.place - 1 in
    let next : before + 1 ≡ c.args.place = omega arith in
    subst (λ (ps : List Pair). HasPassed c.args.segment.now.segment ps c.args.run)
    (no_more_pairs all before (c.in-None.ensures ∙ ap (λ n. part_in n all) (sym next)) ∙ ap (λ n. pairs_upto n all) next) has
