use Rattle.std.proofs.Common.{◌<◌, List, Some, length, refl, ap, subst, arith}
use Rattle.std.proofs.lemmas.Option.{slice_get_read}
use Rattle.chord_serve.specs.declared.kept_sessions.KeptSession.{KeptSession}
use Rattle.chord_serve.specs.Keeping.{TakesAt}
use Rattle.chord_serve.proofs.kept_sessions.KeptSessions.take_at.Goals as goal

pub returns : goal.returns
returns g c =
    let xs = c.self.inside.kept.items in
    let k = c.remove-client.result in
    let low : c.args.place < length xs = omega (arith, c.requires, ap length c.self.view_is) in
    let there = slice_get_read xs (length xs) c.args.place k refl low c.remove-client.ensures.value in
    subst (λ (old : List (KeptSession g.row.A.Denot)). TakesAt (Some c.args.place) (Some k.client) old c.remove-client.new.self.items) c.self.view_is (k, there, refl, c.remove-client.ensures.items)
