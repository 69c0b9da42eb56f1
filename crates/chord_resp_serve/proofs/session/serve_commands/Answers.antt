use Rattle.std.proofs.Common.{sym}
use Rattle.chord_resp.specs.Machine.{start}
use Rattle.chord_resp_serve.proofs.Sessions.{converses}
use Rattle.chord_resp_serve.proofs.session.serve_commands.Goals as goal

pub returns-clause-answered : goal.returns-clause-answered
returns-clause-answered g c =
    let made = c.new-protocol.ensures in
    let p = c.drive-served.ensures.conversed in
    let answered = converses g.A.Asker.answers (λ h. g.I.Informs.tells h.source.now) (λ h. h.number) (λ d. d.server) (λ d. d.commands) (λ d. d.standing) (λ d. d.asker) start c.new-protocol.result made.commands c.drive-served.result c.drive-served.new.protocol p.0 p.1 p.3 in
    (p.0, p.1, p.2, rw (made.server, made.standing, made.asker, sym c.into_asker.ensures) at answered, p.4)
