use Rattle.std.proofs.Common.{◌≡◌, inl, inr, refl, sym, ◌∙◌, subst}
use Rattle.std.proofs.lemmas.Bool.{true≢false}
use Rattle.chord_handover.specs.Gather.{AreWhole, pairs_upto}
use Rattle.chord_handover.specs.Handover.{IsWhole, gathered_parts, ticket_of_part}
use Rattle.chord_handover.specs.Payload.{Payload, handover_of_payload}
use Rattle.chord_handover.proofs.GatherRules.{they_differ, they_agree, makes_none, makes_none_without, on_err, whole_from, are_whole}
use Rattle.chord_handover.proofs.gathering.gather.Goals as goal
use Rattle.chord_handover.proofs.gathering.gather.Goals.{then-not-are_parts_of-via-then-not-are_parts_of, then-not-are_parts_of-via-else-not-are_parts_of+then-not-are_payload}

pub returns-then-has_other_count-clause-made : goal.returns-then-has_other_count-clause-made
returns-then-has_other_count-clause-made c = inl (they_differ c.args.part.now c.args.buffered.now (sym c.if-has_other_count.ensures))

pub returns-then-not-are_all_there-clause-made : goal.returns-then-not-are_all_there-clause-made
returns-then-not-are_all_there-clause-made c =
    (they_agree c.args.part.now c.args.buffered.now (sym c.if-has_other_count.ensures), λ there. true≢false (sym (c.if-not-are_all_there.ensures.1 there)))

pub returns-in_default-clause-made : goal.returns-in_default-clause-made
returns-in_default-clause-made c =
    let there = c.if-not-are_all_there.ensures.0 (cc) in
    inr (there, makes_none_without c.args.part.now c.args.buffered.now there (sym c.in_default.ensures))

pub are_parts_of-requires-clause-agree : goal.are_parts_of-requires-clause-agree
are_parts_of-requires-clause-agree c = they_agree c.args.part.now c.args.buffered.now (sym c.if-has_other_count.ensures)

pub returns-then-not-are_parts_of-clause-made : goal.returns-then-not-are_parts_of-clause-made
returns-then-not-are_parts_of-clause-made c =
    let part = c.args.part.now in
    let buffered = c.args.buffered.now in
    let there = c.if-not-are_all_there.ensures.0 (cc) in
    inr (
      there,
      makes_none part buffered c.in-Some.first.now.segment (pairs_upto part.of (gathered_parts part buffered)) there (sym c.in-Some.ensures) refl
          (λ fits. elim c.then-not-are_parts_of.branch [
            | then-not-are_parts_of-via-then-not-are_parts_of w ↦ true≢false (sym (w.if-not-are_parts_of.ensures.1 fits.1))
            | then-not-are_parts_of-via-else-not-are_parts_of+then-not-are_payload w ↦ true≢false (sym (w.if-not-are_payload.ensures.1 fits.0))
          ]),
    )

pub returns-in_err-segment-clause-whole : goal.returns-in_err-segment-clause-whole
returns-in_err-segment-clause-whole c =
    on_err c.from_residual.result (AreWhole c.args.part.now c.args.buffered.now)
    (are_whole c.args.part.now c.args.buffered.now c.in-Some.first.now.segment (c.if-not-are_all_there.ensures.0 (cc)) (c.if-not-are_payload.ensures.0 (cc)) (c.if-not-are_parts_of.ensures.0 (cc)))

pub returns-in_err-pairs-clause-whole : goal.returns-in_err-pairs-clause-whole
returns-in_err-pairs-clause-whole c =
    on_err c.from_residual-in_err-pairs.result (AreWhole c.args.part.now c.args.buffered.now)
    (are_whole c.args.part.now c.args.buffered.now c.in-Some.first.now.segment (c.if-not-are_all_there.ensures.0 (cc)) (c.if-not-are_payload.ensures.0 (cc)) (c.if-not-are_parts_of.ensures.0 (cc)))

pub returns-clause-made : goal.returns-clause-made
returns-clause-made c =
    let part = c.args.part.now in
    let buffered = c.args.buffered.now in
    let payload : Payload = record { segment = c.in-Some.first.now.segment; pairs = pairs_upto part.of (gathered_parts part buffered) } in
    let copied : record { segment = c.in_ok-segment.segment.segment; pairs = c.in_ok-pairs.pairs.items } ≡ payload = λ i. record { segment = c.in_ok-segment.ensures i; pairs = c.in_ok-pairs.ensures i } in
    subst (λ (p : Payload). IsWhole (gathered_parts part buffered) (handover_of_payload (ticket_of_part part) p)) (sym (c.new.ensures ∙ copied))
    (whole_from part buffered payload (c.if-not-are_all_there.ensures.0 (cc)) (c.if-not-are_parts_of.ensures.0 (cc)))
