use Rattle.std.proofs.Common.{◌≡◌, ◌++◌, Some, ◌∙◌, ap}
use Rattle.chord_handover.specs.Gather.{pairs_of}
use Rattle.chord_handover.specs.Handover.{Part, gathered_parts}
use Rattle.chord_handover.proofs.GatherRules.{more_pairs, no_more_pairs, no_pairs_yet}
use Rattle.chord_handover.proofs.gathering.join_pairs.Goals as goal
use Rattle.chord_handover.proofs.gathering.join_pairs.Goals.{in-Some+in_ok-push_copies, in_default}

pub loop-i-init : goal.loop-i-init
loop-i-init c = c.new-pairs.ensures.items ∙ no_pairs_yet (gathered_parts c.args.part.now c.args.buffered.now)

pub loop-i-preserved : goal.loop-i-preserved
loop-i-preserved c =
    let all = gathered_parts c.args.part.now c.args.buffered.now in
    let i = c.loop-i.i in
    elim c.match-find_part.branch [
      | in-Some+in_ok-push_copies w ↦
          let more : w.deref.result.now ≡ pairs_of (Some w.in-Some.other.now) = w.deref.ensures.value ∙ ap (λ (p : Part). p.pairs) w.other.view_is in
          ap (λ pairs. pairs.items) w.pairs-is ∙ w.in_ok-push_copies.ensures ∙ ap (λ pairs. pairs ++ w.deref.result.now) c.loop-i.invariant
          ∙ more_pairs all i (Some w.in-Some.other.now) w.deref.result.now w.in-Some.ensures more
      | in_default w ↦ ap (λ pairs. pairs.items) w.pairs-is ∙ c.loop-i.invariant ∙ no_more_pairs all i w.in_default.ensures
    ]
