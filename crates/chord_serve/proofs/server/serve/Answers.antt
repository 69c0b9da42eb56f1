use Rattle.std.proofs.Common.{sym}
use Rattle.chord_serve.proofs.Framed.{converses_serves}
use Rattle.chord_serve.proofs.server.serve.Goals as goal

pub returns-clause-served : goal.returns-clause-served
returns-clause-served g c =
    let new = c.drive-served.new.protocol in
    let p = c.drive-served.ensures.conversed in
    let made = c.new-protocol.ensures in
    let client = c.of_connection-client.ensures in
    let served = converses_serves g.A.Asker.answers (λ d. d.frames) (λ d. d.client) (λ d. d.is_opened) (λ d. d.is_over) c.drive-served.result c.new-protocol.result new p.0 p.1 made.over p.3 in
    (p.0, p.1, p.2, (c.into_parted.result, rw (made.frames, c.new.ensures, made.client, made.opened, client.version, client.numbers, client.asker, sym c.into_parted.ensures) at served, sym c.into_asker.ensures), p.4)
