use Rattle.std.proofs.Common.{◌≡◌, ℕ, ◌+◌, ◌-◌, List, ap, subst, arith}
use Rattle.chord_map.specs.declared.pair.Pair.{Pair}
use Rattle.chord_handover.specs.Gather.{pairs_upto}
use Rattle.chord_handover.specs.Handover.{Part, gathered_parts}
use Rattle.chord_handover.specs.Passed.{HasPassed}
use Rattle.chord_handover.proofs.FittingRules.{none_further}
use Rattle.chord_handover.proofs.GatherRules.{no_pairs_yet}
use Rattle.chord_handover.proofs.gathering.are_payload.Goals as goal

pub loop-i-init : goal.loop-i-init
loop-i-init c =
    subst (λ (ps : List Pair). HasPassed c.args.segment.now.segment ps c.new-run.result) (no_pairs_yet (gathered_parts c.args.part.now c.args.buffered.now)) (c.new-run.ensures c.args.segment.now.segment)

pub returns-in-None : goal.returns-in-None
returns-in-None c =
    let all = gathered_parts c.args.part.now c.args.buffered.now in
    let i = c.loop-i.i in
    let within = c.loop-i-test.true in
    let back : i ≡ i + 1 - 1 = omega arith in
    let of = ap (λ (p : Part). p.of) c.part.view_is in (
      λ h. absurd (cc),
      λ rules. absurd (none_further c.args.segment.now.segment (i + 1) c.args.part.now.of all (omega arith) (c.in-None.ensures (subst (λ (n : ℕ). HasPassed c.args.segment.now.segment (pairs_upto n all) (record { last = c.loop-i.run.0; count = (c.loop-i.run.1).0 })) back c.loop-i.invariant)) rules),
    )
