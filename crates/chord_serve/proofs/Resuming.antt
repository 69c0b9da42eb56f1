-- What an answer to an Open says is the same where what was read of an answer is dropped.
use Rattle.std.proofs.Common.{◌≡◌, refl, ap, ◌∙◌, ℕ, Bool, true, false, List, Option, Result, Ok, Err}
use Rattle.chord_wire.specs.declared.answer.Answer.TheVariants as answer
use Rattle.chord_wire.specs.declared.session_answer.SessionAnswer.{SessionAnswer}
use Rattle.chord_wire.specs.declared.session_answer.SessionAnswer.TheVariants as told
use Rattle.chord_wire.specs.declared.session_frame.Opening.{Opening}
use Rattle.chord_serve.specs.declared.calls.CallFault.{CallFault}
use Rattle.chord_serve.specs.declared.told.Told.{Told}
use Rattle.chord_serve.specs.declared.wire_client.sessions.OpenFault.{OpenFault}
use Rattle.chord_serve.specs.ClientState.{ClientState}
use Rattle.chord_serve.specs.Resuming.{behind_loss, opened_by, opened_after, OpenIs}

same_by : (c : ClientState) (x : SessionAnswer) (alone : Bool) → opened_by (behind_loss c) x alone ≡ opened_by c x alone
same_by c (told.Opened floor last) true = refl
same_by c (told.Opened floor last) false = refl
same_by c (told.Answer (answer.Fault number code)) alone = refl
same_by c (told.Answer (answer.Reply number reply)) alone = refl
same_by c told.Closed alone = refl

same_after : (c : ClientState) (heard : Result Told CallFault) → opened_after (behind_loss c) heard ≡ opened_after c heard
same_after c (Ok t) = same_by c t.answer t.is_alone
same_after c (Err why) = refl

pub opens_behind : (result : Result (Unit {0}) OpenFault) (o : Opening) (c d : ClientState) (left left' held held' : Option (List ℕ))
    → d ≡ behind_loss c → OpenIs result o d left left' held held' → OpenIs result o c left left' held held'
opens_behind result o c d left left' held held' same h =
    let is : result ≡ opened_after (behind_loss c) h.0 = h.2 ∙ ap (λ (s : ClientState). opened_after s h.0) same in
    (h.0, h.1, is ∙ same_after c h.0)
