use Rattle.std.proofs.Common.{refl, inl, [], Err}
use Rattle.std.proofs.KnownBytes.{Consumes-nil, Keeps-refl}
use Rattle.chord_serve.specs.declared.calls.CallFault.TheVariants as call
use Rattle.chord_serve.proofs.wire_client.sessions.end_session.Goals as goal

pub returns-in_default-clause-ends : goal.returns-in_default-clause-ends
returns-in_default-clause-ends g c =
    (Err call.Memory, (inl (Keeps-refl (g.W.Write.contents c.args.writer.now)), ([], Consumes-nil (g.R.Read.remaining c.args.reader.now))), refl)
