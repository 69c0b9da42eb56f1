use Rattle.std.proofs.Common.{sym, ◌∙◌, ap}
use Rattle.chord_handover.specs.Handover.{Part}
use Rattle.chord_handover.proofs.GatherRules.{buffered_at, itself_at, none_at}
use Rattle.chord_handover.proofs.gathering.find_part.Goals as goal

pub returns-in-Some : goal.returns-in-Some
returns-in-Some c = buffered_at c.args.part.now c.args.buffered.now c.args.place c.in-Some.other.now c.in-Some.ensures

pub returns-in-None : goal.returns-in-None
returns-in-None c =
    itself_at c.args.part.now c.args.buffered.now c.args.place c.in-None.ensures (sym (ap (λ (p : Part). p.place) c.part.view_is) ∙ c.if-part-place.true)

pub returns-in-None-2 : goal.returns-in-None-2
returns-in-None-2 c =
    none_at c.args.part.now c.args.buffered.now c.args.place c.in-None.ensures (λ here. c.if-part-place.false (ap (λ (p : Part). p.place) c.part.view_is ∙ here))
