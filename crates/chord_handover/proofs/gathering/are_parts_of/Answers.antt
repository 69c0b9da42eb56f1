use Rattle.std.proofs.Common.{◌≡◌, eqb, true, take, List, sym, ◌∙◌, ap, subst}
use Rattle.std.proofs.lemmas.Bool.{and_parts, and_from}
use Rattle.std.proofs.lemmas.List.{take_all}
use Rattle.chord_map.proofs.Lists.{Has, has_contained}
use Rattle.chord_map.proofs.Equal.{eqb_same, eqb_is}
use Rattle.chord_handover.specs.Gather.{IsFitting, pairs_upto}
use Rattle.chord_handover.specs.Handover.{Part, IsPart, gathered_parts}
use Rattle.chord_handover.proofs.FittingRules.{fitting_are, are_fitting, each_gathered}
use Rattle.chord_handover.proofs.GatherRules.{is_like, has_itself, has_buffered, one_further}
use Rattle.chord_handover.proofs.gathering.are_parts_of.Goals as goal
use Rattle.chord_handover.proofs.gathering.are_parts_of.Goals.{else-other-part-via-then-other-part+then-other-part-2+else-not-is_fitting, else-other-part-via-then-other-part+else-other-part-2, else-other-part-via-else-other-part}

pub returns-then-not-is_fitting : goal.returns-then-not-is_fitting
returns-then-not-is_fitting c = (
  λ h. absurd (cc),
  λ each.
      let part = c.args.part.now in
      let buffered = c.args.buffered.now in
      let other = c.other-item.result in
      let from = sym (ap (λ (p : Part). p.from) c.other.view_is) ∙ c.if-other-part.true ∙ ap (λ (p : Part). p.from) c.part.view_is in
      let number = sym (ap (λ (p : Part). p.number) c.other.view_is) ∙ c.if-other-part-2.true ∙ ap (λ (p : Part). p.number) c.part.view_is in
      let like = and_from (eqb other.from part.from) (eqb other.number part.number) (eqb_same other.from part.from from) (eqb_same other.number part.number number) in
      let there = has_buffered part buffered other (has_contained buffered other (c.loop-other.other-index, c.loop-other-test.true, sym c.other-item.is)) like in
      c.if-not-is_fitting.ensures.test.1 (are_fitting part buffered c.args.segment.now.segment (pairs_upto part.of (gathered_parts part buffered)) each other there c.is_fitting.ensures.rules),
)

pub loop-other-preserved : goal.loop-other-preserved
loop-other-preserved c =
    let part = c.args.part.now in
    let buffered = c.args.buffered.now in
    let other = c.other-item.result in
    let P = λ (p : Part). is_like part p ≡ true → IsPart p × IsFitting part (gathered_parts part buffered) p in
    one_further P buffered c.loop-other.other-index other c.loop-other-test.true c.other-item.is c.loop-other.invariant
    (λ like.
    let parts = and_parts (eqb other.from part.from) (eqb other.number part.number) like in
    elim c.else-other-part.branch [
      | else-other-part-via-then-other-part+then-other-part-2+else-not-is_fitting w ↦ (w.is_fitting.ensures.rules, w.if-not-is_fitting.ensures.test.0 (cc))
      | else-other-part-via-then-other-part+else-other-part-2 w ↦
          absurd (w.if-other-part-2.false (ap (λ (p : Part). p.number) c.other.view_is ∙ eqb_is other.number part.number parts.1 ∙ sym (ap (λ (p : Part). p.number) c.part.view_is)))
      | else-other-part-via-else-other-part w ↦
          absurd (w.if-other-part.false (ap (λ (p : Part). p.from) c.other.view_is ∙ eqb_is other.from part.from parts.0 ∙ sym (ap (λ (p : Part). p.from) c.part.view_is)))
    ])

pub returns : goal.returns
returns c =
    let part = c.args.part.now in
    let buffered = c.args.buffered.now in
    let all = gathered_parts part buffered in
    let whole : take c.loop-other.other-index buffered ≡ buffered = take_all c.loop-other.other-index buffered c.loop-other-test.false in (
      λ h. fitting_are part buffered c.args.segment.now.segment c.requires.agree c.requires.there c.requires.segment
          (each_gathered (λ (p : Part). IsPart p × IsFitting part all p) part buffered
          (λ other there like. c.loop-other.invariant other (subst (λ (xs : List Part). Has xs other) (sym whole) there) like)
          (c.is_fitting-2.ensures.rules, c.is_fitting-2.ensures.test.0 h)),
      λ each. c.is_fitting-2.ensures.test.1 (are_fitting part buffered c.args.segment.now.segment (pairs_upto part.of all) each part (has_itself part buffered) c.is_fitting-2.ensures.rules),
    )
