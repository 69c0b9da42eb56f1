use Rattle.std.proofs.Common.{List, ap, ◌∙◌, subst}
use Rattle.chord_handover.specs.Gather.{GatherIs, AreWhole}
use Rattle.chord_handover.specs.Handover.{Part}
use Rattle.chord_handover.specs.Taken.{RoomyTaken}
use Rattle.chord_handover.proofs.GatherRules.{on_err}
use Rattle.chord_handover.proofs.taken.Taken.whole_with.Goals as goal

pub returns-clause-made : goal.returns-clause-made
returns-clause-made c =
    subst (λ (buffered : List Part). GatherIs c.args.part.now buffered c.in_ok-made.made)
    (c.deref.ensures.value ∙ ap (λ (taken : RoomyTaken). taken.taken.buffered) c.self.view_is)
    c.in_ok-made.ensures.made

pub returns-in_err-made-clause-whole : goal.returns-in_err-made-clause-whole
returns-in_err-made-clause-whole c =
    on_err c.from_residual.result (AreWhole c.args.part.now c.args.self.now.taken.buffered)
    (subst (λ (buffered : List Part). AreWhole c.args.part.now buffered)
    (c.deref.ensures.value ∙ ap (λ (taken : RoomyTaken). taken.taken.buffered) c.self.view_is)
    c.in_err-made.ensures.whole)
