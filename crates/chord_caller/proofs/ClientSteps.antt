-- A client answers as each caller that it is the core of, and its call is a step of that caller.
use Rattle.std.proofs.Common.{◌≡◌, ◌≢◌, ℕ, suc, ◌+◌, Bool, true, false, cond, not, ◌&&◌, eqb, Option, None, Some, Ok, [], ◌∷◌, ◌++◌, length, length-append, slice_get, is_some, inl, inr, ⊎_elim, refl, sym, ◌∙◌, ap, subst, arith}
use Rattle.std.proofs.lemmas.Bool.{ne_eqb, cond-false}
use Rattle.std.proofs.lemmas.Option.{none-some}
use Rattle.chord_map.specs.declared.request.Request.{Request}
use Rattle.chord_map.specs.Map.{fits}
use Rattle.chord_map.proofs.Lists.{by_option}
use Rattle.chord_caller.specs.declared.ask.Ask.{Ask}
use Rattle.chord_caller.specs.declared.told.Told.{Told}
use Rattle.chord_caller.specs.declared.request_state.RequestState.TheVariants.{Waiting, Over}
use Rattle.chord_caller.specs.declared.outcome.TakeOutcome.{TakeOutcome}
use Rattle.chord_caller.specs.declared.outcome.TakeOutcome.TheVariants.{Fresh, Known, Foreign}
use Rattle.chord_caller.specs.Answers.{is_pending, RefusalIs, ResendIs, IsForeign, TakeIs}
use Rattle.chord_caller.specs.Caller.{Submission, Caller, AskLetter, ToldLetter, CallerStep, submission_at, is_settled, next_number, IsSentNow, request_for_reply, fresh_for, with_request, with_reply, with_given_up}
use Rattle.chord_caller.specs.Caller.CallerStep.{Takes, Ignores}
use Rattle.chord_caller.specs.Slots.{request_waiting_in, is_over}
use Rattle.chord_caller.specs.Client.{Client, IsClient, state_at, IsCoreOf, SubmitsAlike, Simulates, caller_after_taking, caller_after_hearing, heard_of, TakesAlike}
use Rattle.chord_caller.proofs.Views.{fresh_is, known_stale}
use Rattle.chord_caller.proofs.Steps.{submit_steps, resend_steps, give_up_steps}
use Rattle.chord_caller.proofs.Clients.{IsEnded, slot_by, with_waiting, settled_is, next_pushed, pushed_last, submit_core, settle_core, give_up_core, waits_slot, idle_slot, pending_is}

-- ---- submitting

-- the ask is the client's call of that number
pub record IsAsked (client : Client) (number : ℕ) (request : Request) (ask : Ask) : Type 0 where
  pub caller : ask.caller ≡ client.number
  pub number_is : ask.number ≡ number
  pub floor : ask.floor ≡ client.floor
  pub request_is : ask.request ≡ request
  pub hops : ask.hops ≡ 255

-- what a client sends is the call of its callers
sent_alike : (client : Client) (caller : Caller) (number : ℕ) (request : Request) (ask : Ask) → IsCoreOf client caller → IsAsked client number request ask → IsSentNow caller number request ask
sent_alike client caller number request ask core asked = record {
  caller = asked.caller ∙ core.number_is;
  number = asked.number_is;
  floor = asked.floor ∙ core.floor_is;
  request = asked.request_is;
  hops = asked.hops;
}

-- the next number of its callers
pub next_is : (client : Client) (caller : Caller) → IsCoreOf client caller → next_number caller ≡ client.floor + length client.states + 1
next_is client caller core = let count = core.count_is in omega arith

-- a request that its callers do not refuse is submitted
pub submitted_alike : (request : Request) (old : Client) (ask : Ask) (new : Client) → is_over (slice_get old.states 0) ≡ false
    → ((caller : Caller) → IsCoreOf old caller → RefusalIs request caller None)
    → IsAsked old (old.floor + length old.states + 1) request ask → new ≡ with_waiting request old → SubmitsAlike request old (Ok ask) new
submitted_alike request old ask new next allowed asked is caller core =
    let allows = allowed caller core in
    let number : old.floor + length old.states + 1 ≡ next_number caller = sym (next_is old caller core) in
    let sent = sent_alike old caller (old.floor + length old.states + 1) request ask core asked in (
      with_request request caller,
      subst (λ (client : Client). IsCoreOf client (with_request request caller)) (sym is) (submit_core request old caller next core),
      (allows.0, allows.1, allows.2, subst (λ n. IsSentNow caller n request ask) number sent, refl),
    )

-- a client keeps its rules when it submits a request
pub submitted_keeps : (room : ℕ) (request : Request) (old : Client) → IsClient room old → ((caller : Caller) → IsCoreOf old caller → RefusalIs request caller None) → (room' : ℕ) → room' ≡ room
    → IsClient room' (with_waiting request old)
submitted_keeps room request old h allowed room' same =
    let core = h.core in
    let allows = allowed h.caller core in
    let count : length (old.states ++ Waiting request ∷ []) ≡ length old.states + 1 = length-append old.states (Waiting request ∷ []) in
    record {
      some_window = h.some_window;
      small_window = h.small_window;
      near = omega (arith, count, allows.1, core.count_is, core.floor_is, core.window_is);
      room_is = same ∙ h.room_is;
      numbered = omega (arith, count, allows.2, core.count_is);
      next = next_pushed old.states request h.next;
      caller = with_request request h.caller;
      core = submit_core request old h.caller h.next core;
    }

pub submit_simulates : (request : Request) (old : Client) (ask : Ask) (new : Client) → SubmitsAlike request old (Ok ask) new → Simulates old None new (Some (AskLetter ask))
submit_simulates request old ask new alike caller core =
    let next = alike caller core in
    (next.0, next.1, submit_steps request caller ask next.0 next.2)

-- the request that was submitted waits
pub submitted_waits : (request : Request) (client : Client) (caller : Caller) (number : ℕ) → number ≡ client.floor + length client.states + 1 → IsCoreOf (with_waiting request client) caller
    → is_pending number caller ≡ true
submitted_waits request client caller number is core =
    let last : number ≡ suc (client.floor + length client.states) = omega (arith, is) in
    sym (pending_is (with_waiting request client) caller core number)
    ∙ ap (λ n. is_some (request_waiting_in (state_at n (with_waiting request client)))) last
    ∙ ap (λ o. is_some (request_waiting_in o)) (pushed_last request client)

-- ---- sending again

-- a waiting slot is a submission that is not settled
waits_by : (settled : Bool) (submission : Option Submission) (request : Request) → slot_by settled submission ≡ Some (Waiting request)
    → (settled ≡ false) × (s : Submission) × (submission ≡ Some s) × (s.request ≡ request)
waits_by true submission request e = cc
waits_by false None request e = absurd (none-some (Waiting request) e)
waits_by false (Some s) request e =
    let same : s.request ≡ request = cc in
    (refl, s, refl, same)

waits_at : (client : Client) (caller : Caller) → IsCoreOf client caller → (number : ℕ) (request : Request) → state_at number client ≡ Some (Waiting request)
    → (is_settled caller number ≡ false) × (s : Submission) × (submission_at number caller.submitted ≡ Some s) × (s.request ≡ request)
waits_at client caller core number request e = waits_by (is_settled caller number) (submission_at number caller.submitted) request (sym (core.slots_are number) ∙ e)

pub resend_alike : (number : ℕ) (client : Client) (request : Request) (ask : Ask) (caller : Caller) → request_waiting_in (state_at number client) ≡ Some request
    → IsAsked client number request ask → IsCoreOf client caller → ResendIs number caller (Ok ask)
resend_alike number client request ask caller waits asked core =
    let at = waits_at client caller core number request (waits_slot (state_at number client) request waits) in
    (at.1, at.2, at.0, subst (λ request. IsSentNow caller number request ask) (sym at.3) (sent_alike client caller number request ask core asked))

-- without such a request nothing is pending
pub idle_alike : (number : ℕ) (client : Client) (caller : Caller) → request_waiting_in (state_at number client) ≡ None → IsCoreOf client caller → is_pending number caller ≡ false
idle_alike number client caller none core = sym (pending_is client caller core number) ∙ ap is_some none

-- with such a request it is pending
pub waits_alike : (number : ℕ) (client : Client) (request : Request) (caller : Caller) → request_waiting_in (state_at number client) ≡ Some request → IsCoreOf client caller → is_pending number caller ≡ true
waits_alike number client request caller waits core = sym (pending_is client caller core number) ∙ ap is_some waits

pub resend_simulates : (number : ℕ) (client : Client) (ask : Ask) → ((caller : Caller) → IsCoreOf client caller → ResendIs number caller (Ok ask)) → Simulates client None client (Some (AskLetter ask))
resend_simulates number client ask alike caller core = (caller, core, resend_steps number caller ask (alike caller core))

-- ---- taking

-- a caller that hears a reply does a step
pub hearing_steps : (told : Told) (caller : Caller) → CallerStep caller (Some (ToldLetter told)) (caller_after_hearing told caller) None
hearing_steps told caller =
    by_option (fresh_for told caller)
    (λ none. subst (λ (o : Option Request). CallerStep caller (Some (ToldLetter told)) (caller_after_taking told o caller) None) (sym none) (Ignores told none))
    (λ request fresh. subst (λ (o : Option Request). CallerStep caller (Some (ToldLetter told)) (caller_after_taking told o caller) None) (sym fresh) (Takes told request fresh))

pub take_simulates : (told : Told) (old : Client) (outcome : TakeOutcome) (new : Client) → TakesAlike told old outcome new → Simulates old (Some (ToldLetter told)) new None
take_simulates told old outcome new alike caller core = (caller_after_hearing told caller, (alike caller core).0, hearing_steps told caller)

pub fresh_alike : (told : Told) (request : Request) (old new : Client) → told.caller ≡ old.number → fits told.reply request ≡ true → IsEnded told.number request old new
    → TakesAlike told old (Fresh told.reply) new
fresh_alike told request old new own fit ended caller core =
    let at = waits_at old caller core told.number request ended.waits in
    let fits_it : fits told.reply (at.1).request ≡ true = ap (fits told.reply) at.3 ∙ fit in
    let fresh : fresh_for told caller ≡ Some request = fresh_is told caller at.1 (own ∙ core.number_is) at.0 at.2 fits_it ∙ ap Some at.3 in
    let after : caller_after_hearing told caller ≡ with_reply told request caller = ap (λ (o : Option Request). caller_after_taking told o caller) fresh in (
      subst (λ (c : Caller). IsCoreOf new c) (sym after) (settle_core told request old new caller own ended core),
      (request, fresh, after),
    )

-- a reply that is not fresh changes nothing
stays : (told : Told) (caller : Caller) → fresh_for told caller ≡ None → caller_after_hearing told caller ≡ caller
stays told caller none = ap (λ (o : Option Request). caller_after_taking told o caller) none

core_stays : (told : Told) (client : Client) (caller : Caller) → fresh_for told caller ≡ None → IsCoreOf client caller → IsCoreOf client (caller_after_hearing told caller)
core_stays told client caller none core = subst (λ (c : Caller). IsCoreOf client c) (sym (stays told caller none)) core

pub known_alike : (told : Told) (client : Client) → told.caller ≡ client.number → is_over (state_at told.number client) ≡ true → TakesAlike told client Known client
known_alike told client own over caller core =
    let settled : is_settled caller told.number ≡ true = settled_is client caller core.slots_are told.number ∙ over in
    let none = known_stale told caller settled in
    (core_stays told client caller none core, (own ∙ core.number_is, settled, stays told caller none))

cond_same : (b : Bool) (o : Option Request) → o ≡ None → cond b o None ≡ None
cond_same true o e = e
cond_same false o e = refl

-- a reply that fits no submitted request is not fresh
unfit_stale : (told : Told) (caller : Caller) → request_for_reply told.reply (submission_at told.number caller.submitted) ≡ None → fresh_for told caller ≡ None
unfolding fresh_for
unfit_stale told caller e = cond_same (eqb told.caller caller.number && not (is_settled caller told.number)) (request_for_reply told.reply (submission_at told.number caller.submitted)) e

another_stale : (told : Told) (caller : Caller) → told.caller ≢ caller.number → fresh_for told caller ≡ None
unfolding fresh_for
another_stale told caller apart =
    cond-false (eqb told.caller caller.number && not (is_settled caller told.number)) (request_for_reply told.reply (submission_at told.number caller.submitted)) None
    (ap (λ b. b && not (is_settled caller told.number)) (ne_eqb told.caller caller.number apart))

pub foreign_stale : (told : Told) (caller : Caller) → IsForeign told caller → fresh_for told caller ≡ None
foreign_stale told caller foreign =
    ⊎_elim
    (λ (other : told.caller ≢ caller.number). another_stale told caller other)
    (λ rest.
    ⊎_elim
    (λ (absent : submission_at told.number caller.submitted ≡ None). unfit_stale told caller (ap (request_for_reply told.reply) absent))
    (λ (misfit : (s : Submission) × (submission_at told.number caller.submitted ≡ Some s) × (is_settled caller told.number ≡ false) × (fits told.reply s.request ≡ false)).
    unfit_stale told caller (ap (request_for_reply told.reply) misfit.1 ∙ cond-false (fits told.reply (misfit.0).request) (Some (misfit.0).request) None misfit.3))
    rest)
    foreign

none_by : (settled : Bool) (submission : Option Submission) → slot_by settled submission ≡ None → submission ≡ None
none_by true submission e = absurd (none-some Over (sym e))
none_by false None e = refl
none_by false (Some s) e = absurd (none-some (Waiting s.request) (sym e))

foreign_alike : (told : Told) (client : Client) (caller : Caller) → IsCoreOf client caller → IsForeign told caller
    → IsCoreOf client (caller_after_hearing told caller) × TakeIs told caller (heard_of Foreign) (caller_after_hearing told caller)
foreign_alike told client caller core foreign =
    let none = foreign_stale told caller foreign in
    (core_stays told client caller none core, (foreign, stays told caller none))

-- a reply to another caller
pub another_alike : (told : Told) (client : Client) → told.caller ≢ client.number → TakesAlike told client Foreign client
another_alike told client other caller core = foreign_alike told client caller core (inl (λ e. other (e ∙ sym core.number_is)))

-- a reply to a number that was never submitted
pub absent_alike : (told : Told) (client : Client) → is_over (state_at told.number client) ≡ false → request_waiting_in (state_at told.number client) ≡ None → TakesAlike told client Foreign client
absent_alike told client over none caller core =
    let absent : state_at told.number client ≡ None = idle_slot (state_at told.number client) over none in
    foreign_alike told client caller core
    (inr (inl (none_by (is_settled caller told.number) (submission_at told.number caller.submitted) (sym (core.slots_are told.number) ∙ absent))))

-- a reply that does not fit its pending request
pub unfit_alike : (told : Told) (client : Client) (request : Request) → request_waiting_in (state_at told.number client) ≡ Some request → fits told.reply request ≡ false → TakesAlike told client Foreign client
unfit_alike told client request waits misfit caller core =
    let at = waits_at client caller core told.number request (waits_slot (state_at told.number client) request waits) in
    foreign_alike told client caller core (inr (inr (at.1, at.2, at.0, ap (fits told.reply) at.3 ∙ misfit)))

-- ---- giving up

pub given_up_alike : (given : ℕ) (request : Request) (old new : Client) → IsEnded given request old new → (caller : Caller) → IsCoreOf old caller → IsCoreOf new (with_given_up given caller)
given_up_alike given request old new ended caller core = give_up_core given request old new caller ended core

pub give_up_simulates : (given : ℕ) (old new : Client) → ((caller : Caller) → IsCoreOf old caller → is_pending given caller ≡ true)
    → ((caller : Caller) → IsCoreOf old caller → IsCoreOf new (with_given_up given caller)) → Simulates old None new None
give_up_simulates given old new pending alike caller core =
    (with_given_up given caller, alike caller core, give_up_steps given caller (with_given_up given caller) (pending caller core) refl)
