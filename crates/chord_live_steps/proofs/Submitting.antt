-- A core and the caller of its seat change together when a request is submitted or sent again.
use Rattle.std.proofs.Common.{◌≡◌, ℕ, true, None, Some, Ok, Err, refl, sym, ◌∙◌, ap, subst}
use Rattle.chord_caller.specs.Answers.{ResendIs, SubmitIs, is_pending}
use Rattle.chord_caller.specs.Caller.{Caller, CallerStep, AskLetter, with_request}
use Rattle.chord_caller.specs.declared.ask.Ask.{Ask}
use Rattle.chord_caller.specs.declared.fault.SubmitFault.{SubmitFault}
use Rattle.chord_caller.specs.declared.fault.SubmitFault.TheVariants.{Bad, WindowFull, NumbersSpent, Memory}
use Rattle.chord_caller.proofs.Steps.{submit_steps}
use Rattle.chord_live_steps.specs.Begun.{IsCallOf, Submitted}
use Rattle.chord_map.specs.declared.request.Request.{Request}
use Rattle.chord_model.specs.declared.message.Message.{Message}
use Rattle.chord_model.specs.declared.message.Message.TheVariants.{Ask as AskMessage}
use Rattle.chord_table.specs.Views.{CallerSight}

-- a caller that submitted a call has its request after the others
with_ask : (request : Request) (ask : Ask) (old after : Caller) → SubmitIs request old (Ok ask) after → after ≡ with_request ask.request old
with_ask request ask old after (fit, window, small, sent, is) = is ∙ ap (λ r. with_request r old) (sym sent.request)

-- a core's submission is one by its caller
pub record IsSubmission {Core : Type 0} (is_core : Core → Caller → Type 0) (request : Request) (ask : Ask) (core : Core) (caller : Caller) : Type 0 where
  pub answer : SubmitIs request caller (Ok ask) (with_request ask.request caller)
  pub step : CallerStep caller None (with_request ask.request caller) (Some (AskLetter ask))
  pub core_is : is_core core (with_request ask.request caller)

pub submission : {Core : Type 0} (is_core : Core → Caller → Type 0) (request : Request) (ask : Ask) (core : Core) (caller : Caller)
    → ((after : Caller) × is_core core after × SubmitIs request caller (Ok ask) after) → IsSubmission is_core request ask core caller
submission is_core request ask core caller (after, goes, answer) =
    let is = with_ask request ask caller after answer in
    record {
      answer = subst (λ (c : Caller). SubmitIs request caller (Ok ask) c) is answer;
      step = subst (λ (c : Caller). CallerStep caller None c (Some (AskLetter ask))) is (submit_steps request caller ask after answer);
      core_is = subst (λ (c : Caller). is_core core c) is goes;
    }

-- what a submission sends is the caller's call
pub call_of_submission : (request : Request) (ask : Ask) (old new : Caller) (message : Message) → SubmitIs request old (Ok ask) new → message ≡ AskMessage ask → IsCallOf new ask.number message
call_of_submission request ask old new message (fit, window, small, sent, is) same = (ask, same, sent.caller ∙ sym (ap (λ (c : Caller). c.number) is), refl)

-- what is sent again is the caller's call
pub call_of_resend : (number : ℕ) (ask : Ask) (old new : Caller) (message : Message) → ResendIs number old (Ok ask) → message ≡ AskMessage ask → new ≡ old → IsCallOf new number message
call_of_resend number ask old new message (submission, at, waits, sent) same is = (ask, same, sent.caller ∙ sym (ap (λ (c : Caller). c.number) is), sent.number)

-- the sight of a caller that submitted a request
pub submitted : (request : Request) (ask : Ask) (old new : CallerSight) → SubmitIs request old.caller (Ok ask) new.caller → is_pending ask.number new.caller ≡ true → new.messages ≡ old.messages
    → Submitted request old new
submitted request ask old new (fit, window, small, sent, is) waits quiet =
    record {
      begun = (refl, fit, window, small, is);
      waits = subst (λ n. is_pending n new.caller ≡ true) sent.number waits;
      quiet = quiet;
    }

pub same_refused : (request : Request) (fault : SubmitFault) (old new : Caller) → SubmitIs request old (Err fault) new → new ≡ old
same_refused request (Bad fault) old new h = h.1
same_refused request WindowFull old new h = h.2
same_refused request NumbersSpent old new h = h.3
same_refused request Memory old new h = h.3
