use Rattle.chord_serve.proofs.Windows.{judged_keeps}
use Rattle.std.proofs.lemmas.List.Elements.{All-same}
use Rattle.chord_wire.specs.Spelling.{IsWireRequest}
use Rattle.chord_serve.proofs.wire_client.WireClient.receive.Goals as goal

pub invariant_of-self-in-Ok : goal.invariant_of-self-in-Ok
invariant_of-self-in-Ok g c =
    let keeps = judged_keeps c.judge.result c.in-Ok.answer _ _ _ _ c.judge.ensures c.self.invariant.awaited (All-same IsWireRequest _ _ c.reserve.ensures.items c.self.invariant.refused) in
    record { window = c.self.invariant.window; awaited = keeps.0; refused = keeps.1 }
