use Rattle.chord_segment.proofs.Readied.{still_ruled}
use Rattle.chord_segment.proofs.segment.Segment.reserve.Goals as goal

pub invariant_of-self : goal.invariant_of-self
invariant_of-self c =
    let still = still_ruled c.self.inside.span c.self.inside.readied c.self.inside.callers c.reserve.new.self c.reserve.ensures.floors c.reserve.ensures.calls c.reserve.ensures.keeps c.self.invariant.rules c.self.invariant.readied in
    record { rules = still.rules; readied = still.readied }
