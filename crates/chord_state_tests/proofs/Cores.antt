-- A client's core and the caller of its seat change together.
use Rattle.std.proofs.Common.{◌≡◌, None, Some, Ok, sym, ◌∙◌, ap, subst}
use Rattle.chord_caller.specs.Answers.{SubmitIs}
use Rattle.chord_caller.specs.Caller.{Caller, CallerStep, AskLetter, with_request}
use Rattle.chord_caller.specs.Client.{Client, IsCoreOf, SubmitsAlike}
use Rattle.chord_caller.specs.declared.ask.Ask.{Ask}
use Rattle.chord_caller.proofs.Steps.{submit_steps}
use Rattle.chord_map.specs.declared.request.Request.{Request}

-- a caller that submitted a call has its request after the others
with_ask : (request : Request) (ask : Ask) (old after : Caller) → SubmitIs request old (Ok ask) after → after ≡ with_request ask.request old
with_ask request ask old after (fit, window, small, sent, is) = is ∙ ap (λ r. with_request r old) (sym sent.request)

-- a submission by a client's core is a step of its caller
pub submission_steps : (request : Request) (ask : Ask) (old new : Client) (caller : Caller) → SubmitsAlike request old (Ok ask) new → IsCoreOf old caller
    → CallerStep caller None (with_request ask.request caller) (Some (AskLetter ask))
submission_steps request ask old new caller alike core =
    let (after, goes, answer) = alike caller core in
    subst (λ (c : Caller). CallerStep caller None c (Some (AskLetter ask))) (with_ask request ask caller after answer) (submit_steps request caller ask after answer)
