use Rattle.std.proofs.Common.{◌≡◌, ◌+◌, inl, inr, sym, ◌∙◌, ap, arith}
use Rattle.std.proofs.lemmas.Bool.{cases_lt}
use Rattle.std.proofs.lemmas.Option.{none-some}
use Rattle.chord_handover.specs.Gather.{part_in}
use Rattle.chord_handover.specs.Handover.{Part, gathered_parts}
use Rattle.chord_handover.proofs.GatherRules.{enough_parts, none_there, some_there, at_place, place_there}
use Rattle.chord_handover.proofs.gathering.are_all_there.Goals as goal

pub returns-then-count_buffered-saturating_sub : goal.returns-then-count_buffered-saturating_sub
returns-then-count_buffered-saturating_sub c = (
  λ h. absurd (cc),
  λ there.
      let of = ap (λ (p : Part). p.of) c.part.view_is in
      let enough = enough_parts c.args.part.now c.args.buffered.now there in
      let few = c.if-count_buffered-saturating_sub.true in
      let count = c.count_buffered.ensures in
      let less = c.saturating_sub.ensures in
      absurd (omega arith),
)

pub returns-then-is_none : goal.returns-then-is_none
returns-then-is_none c = (
  λ h. absurd (cc),
  λ there.
      let all = gathered_parts c.args.part.now c.args.buffered.now in
      let of = ap (λ (p : Part). p.of) c.part.view_is in
      let i = c.loop-i.i in
      let within = c.loop-i-test.true in
      let none = none_there c.find_part.result (part_in (i + 1) all) c.find_part.ensures c.if-is_none.ensures in
      let at = at_place c.args.part.now.of (i + 1) all there (omega arith) (omega arith) in
      absurd (none-some at.0 (sym none ∙ at.1)),
)

pub loop-i-preserved : goal.loop-i-preserved
loop-i-preserved c = λ place from upto.
    let all = gathered_parts c.args.part.now c.args.buffered.now in
    let i = c.loop-i.i in
    elim (cases_lt i place) [
      | inl last ↦
          let here : place ≡ i + 1 = omega arith in
          let some = some_there c.find_part.result (part_in (i + 1) all) c.find_part.ensures c.if-is_none.ensures in
          place_there place all some.0 (ap (λ n. part_in n all) here ∙ some.1)
      | inr earlier ↦ c.loop-i.invariant place from earlier
    ]
