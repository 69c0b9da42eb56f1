-- Each call of a caller is a step of the caller.
use Rattle.std.proofs.Common.{◌≡◌, ℕ, ◌++◌, Option, None, Some, is_some, not, ◌&&◌, Ok, true, refl, sym, ◌∙◌, ap₂, subst}
use Rattle.std.proofs.lemmas.Bool.{and_parts, not-true}
use Rattle.chord_map.specs.declared.request.Request.{Request}
use Rattle.chord_caller.specs.declared.ask.Ask.{Ask}
use Rattle.chord_caller.specs.declared.told.Told.{Told}
use Rattle.chord_caller.specs.declared.heard.Heard.TheVariants.{Fresh, Known}
use Rattle.chord_caller.specs.Caller.{Note, Caller, known_calls, unknown_calls, AskLetter, ToldLetter, NoteLetter, CallerStep, next_number, with_request, with_given_up, submission_at, is_settled, Submission}
use Rattle.chord_caller.specs.Caller.CallerStep.{Submits, Repeats, Takes, Gives_up, Ignores, Shows, Meets}
use Rattle.chord_caller.specs.Answers.{SubmitIs, ResendIs, TakeIs, is_pending}
use Rattle.chord_caller.proofs.Views.{known_stale}

pub submit_steps : (request : Request) (old : Caller) (ask : Ask) (new : Caller) → SubmitIs request old (Ok ask) new → CallerStep old None new (Some (AskLetter ask))
submit_steps request old ask new h = subst (λ (caller : Caller). CallerStep old None caller (Some (AskLetter ask))) (sym h.4) (Submits request ask h.1 h.3)

pub fresh_steps : (told : Told) (old new : Caller) → TakeIs told old (Ok Fresh) new → CallerStep old (Some (ToldLetter told)) new None
fresh_steps told old new h = subst (λ (caller : Caller). CallerStep old (Some (ToldLetter told)) caller None) (sym h.2) (Takes told h.0 h.1)

pub known_steps : (told : Told) (old new : Caller) → TakeIs told old (Ok Known) new → CallerStep old (Some (ToldLetter told)) new None
known_steps told old new h = subst (λ (caller : Caller). CallerStep old (Some (ToldLetter told)) caller None) (sym h.2) (Ignores told (known_stale told old h.1))

pub resend_steps : (number : ℕ) (caller : Caller) (ask : Ask) → ResendIs number caller (Ok ask) → CallerStep caller None caller (Some (AskLetter ask))
resend_steps number caller ask h = Repeats number h.0 ask h.1 h.2 h.3

pub show_steps : (caller : Caller) (note : Note) → note ≡ record { caller = caller.number; done = known_calls caller } → CallerStep caller None caller (Some (NoteLetter note))
show_steps caller note e = subst (λ (shown : Note). CallerStep caller None caller (Some (NoteLetter shown))) (sym e) Shows

pub meet_steps : (old : Caller) (note : Note) (new : Caller) → new ≡ record old { told = old.told ++ unknown_calls old note.done } → CallerStep old (Some (NoteLetter note)) new None
meet_steps old note new e = subst (λ (caller : Caller). CallerStep old (Some (NoteLetter note)) caller None) (sym e) (Meets note)

pub submit_waits : (request : Request) (old : Caller) (ask : Ask) (new : Caller) → SubmitIs request old (Ok ask) new → is_pending (next_number old) (with_request request old) ≡ true
    → is_pending ask.number new ≡ true
submit_waits request old ask new (fit, window, small, sent, is) waits = ap₂ is_pending sent.number is ∙ waits

submitted_is : (o : Option Submission) → is_some o ≡ true → (submission : Submission) × (o ≡ Some submission)
submitted_is None e = absurd (cc)
submitted_is (Some submission) e = (submission, refl)

pub give_up_steps : (number : ℕ) (old new : Caller) → is_pending number old ≡ true → new ≡ with_given_up number old → CallerStep old None new None
give_up_steps number old new pending is =
    let parts = and_parts (is_some (submission_at number old.submitted)) (not (is_settled old number)) pending in
    let there = submitted_is (submission_at number old.submitted) parts.0 in
    subst (λ (caller : Caller). CallerStep old None caller None) (sym is) (Gives_up number there.0 there.1 (not-true (is_settled old number) parts.1))
