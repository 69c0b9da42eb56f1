use Rattle.chord_serve.proofs.Tales.{told_new}
use Rattle.chord_serve.proofs.link.connection.Link.new.Goals as goal

pub invariant_of-result : goal.invariant_of-result
invariant_of-result g c =
    let p = g.P.Protocol in
    let s = g.S.Stream in
    record { told = ∣ told_new p.hears p.says p.stops p.rests p.idle p.begun p.between s.left s.held _ c.args.stream _ c.args.protocol (rw c.new-none.ensures at c.and-first.ensures) c.new.ensures c.requires ∣₁ }
