-- What a session hears of a caller of a ring: its requests are those that the caller submitted, and
-- a reply is of its request's kind.
use Rattle.std.proofs.Common.{◌≡◌, ℕ, zero, suc, ◌+◌, ◌≤◌, Bool, true, not, ◌&&◌, eqb, List, [], ◌∷◌, ◌++◌, Option, Some, None, Result, Ok, Err, map, drop, length, slice_get, option_map, refl, sym, ap, ◌∙◌, subst, arith}
use Rattle.std.specs.Prelude.{IsTrue}
use Rattle.std.proofs.lemmas.Bool.{cond-true, cond-false}
use Rattle.std.proofs.lemmas.List.{drop-append-le, length-map, map-append}
use Rattle.std.proofs.lemmas.Option.{none-some, same_Some, slice_get-map}
use Rattle.chord_app_serve.specs.Answered.{TellsCall, TellsReply, TellsRetry, told_of_wait}
use Rattle.chord_app_serve.specs.Asked.{asked_by, asked_since}
use Rattle.chord_caller.proofs.Places.{got_last}
use Rattle.chord_caller.specs.Caller.{Caller, Submission, request_for_reply, fresh_for, is_settled, next_number, submission_at, with_request}
use Rattle.chord_caller.specs.declared.told.Told.{Told}
use Rattle.chord_live_steps.specs.Asking.{CallIs, RetryIs, SubmittedAndEnded}
use Rattle.chord_live_steps.specs.Ending.{AwaitIs, TookReply, told_to}
use Rattle.chord_live_types.specs.declared.caller.AskFault.{AskFault}
use Rattle.chord_live_types.specs.declared.caller.AskFault.TheVariants as ask
use Rattle.chord_live_types.specs.declared.caller.RetryFault.{RetryFault}
use Rattle.chord_live_types.specs.declared.caller.RetryFault.TheVariants as retry
use Rattle.chord_live_types.specs.declared.caller.WaitFault.{WaitFault}
use Rattle.chord_live_types.specs.declared.caller.WaitFault.TheVariants as wait
use Rattle.chord_map.specs.Map.{fits}
use Rattle.chord_map.specs.declared.reply.Reply.{Reply}
use Rattle.chord_map.specs.declared.request.Request.{Request}
use Rattle.chord_map.proofs.Lists.{by_test}
use Rattle.chord_model.specs.Headline.{request_with}
use Rattle.chord_serve.specs.Question.{Ask, Retry, IsHeard, IsReplyTo, request_at}
use Rattle.chord_serve.specs.declared.asker.Asked.{Asked}
use Rattle.chord_serve.specs.declared.asker.Asked.TheVariants as asked
use Rattle.chord_table.specs.Views.{CallerSight}

-- ---- the kinds of replies

-- what is told of a reply is of its kind
kind_of : (reply : Reply) (answer : Asked) (request : Option Request) → TellsReply reply answer → IsReplyTo (asked.Reply reply) request → IsReplyTo answer request
kind_of reply (asked.Reply other) request told fit = subst (λ r. IsReplyTo (asked.Reply r) request) (sym told) fit
kind_of reply asked.Full request told fit = tt
kind_of reply asked.NoAnswer request told fit = tt
kind_of reply asked.Memory request told fit = tt

of_wait : (fault : WaitFault) (request : Option Request) → IsReplyTo (told_of_wait fault) request
of_wait wait.Full request = tt
of_wait wait.NoAnswer request = tt
of_wait wait.Memory request = tt

-- what is told of a wait without a reply is no reply
kind_of_wait : (fault : WaitFault) (what : Asked) (request : Option Request) → what ≡ told_of_wait fault → IsReplyTo what request
kind_of_wait fault what request told = subst (λ a. IsReplyTo a request) (sym told) (of_wait fault request)

-- if no request is known, any kind of answer fits
of_none : (answer : Asked) → IsReplyTo answer None
of_none (asked.Reply reply) = tt
of_none asked.Full = tt
of_none asked.NoAnswer = tt
of_none asked.Memory = tt

as_request : (o : Option Submission) → option_map (λ (s : Submission). s.request) o ≡ request_with o
as_request None = refl
as_request (Some submission) = refl

request_at_is : (number : ℕ) (submitted : List Submission) → request_at number (map (λ (s : Submission). s.request) submitted) ≡ request_with (submission_at number submitted)
request_at_is zero submitted = refl
request_at_is (suc place) submitted = slice_get-map (λ (s : Submission). s.request) submitted place ∙ as_request (slice_get submitted place)

-- a reply that fits a submission is to its request, and of its kind
fitting_kind : (reply : Reply) (o : Option Submission) (request : Request) → request_for_reply reply o ≡ Some request
    → (s : Submission) × (o ≡ Some s) × (fits reply s.request ≡ true) × (s.request ≡ request)
fitting_kind reply None request e = absurd (none-some request e)
fitting_kind reply (Some s) request e =
    by_test (fits reply s.request)
    (λ t. (s, refl, t, same_Some s.request request (sym (cond-true (fits reply s.request) (Some s.request) None t) ∙ e)))
    (λ f. absurd (none-some request (sym (cond-false (fits reply s.request) (Some s.request) None f) ∙ e)))

-- a fresh reply is to the request that was submitted under its number, and of its kind
pub fresh_kind : (told : Told) (caller : Caller) (request : Request) → fresh_for told caller ≡ Some request
    → (s : Submission) × (submission_at told.number caller.submitted ≡ Some s) × (fits told.reply s.request ≡ true) × (s.request ≡ request)
unfolding fresh_for
fresh_kind told caller request e =
    let test : Bool = eqb told.caller caller.number && not (is_settled caller told.number) in
    let found : Option Request = request_for_reply told.reply (submission_at told.number caller.submitted) in
    by_test test
    (λ t. fitting_kind told.reply (submission_at told.number caller.submitted) request (sym (cond-true test found None t) ∙ e))
    (λ f. absurd (none-some request (sym (cond-false test found None f) ∙ e)))

-- a reply that the caller took is of the kind of the request with its number
fits_taken : (number : ℕ) (reply : Reply) (old new : CallerSight) → TookReply number reply old.caller new.caller → IsReplyTo (asked.Reply reply) (request_at number (asked_by old))
fits_taken number reply old new (request, fresh, is) =
    let kind = fresh_kind (told_to old.caller number reply) old.caller request fresh in
    let at : request_at number (asked_by old) ≡ Some (kind.0).request = request_at_is number old.caller.submitted ∙ ap request_with kind.1 in
    subst (λ o. IsReplyTo (asked.Reply reply) o) (sym at) kind.2

-- an element of a list without its first ones is the element that many places later in the list
slice_get_behind : {A : Type 0} (xs : List A) (before place : ℕ) → slice_get (drop before xs) place ≡ slice_get xs (before + place)
slice_get_behind xs zero place = ap (λ n. slice_get xs n) (let e : place ≡ 0 + place = omega arith in e)
slice_get_behind [] (suc before) place = refl
slice_get_behind (x ∷ xs) (suc before) place =
    slice_get_behind xs before place ∙ ap (λ n. slice_get (x ∷ xs) n) (let e : suc (before + place) ≡ suc before + place = omega arith in e)

request_behind : (before place : ℕ) (requests : List Request) → request_at (suc place) (drop before requests) ≡ request_at (before + suc place) requests
request_behind before place requests =
    slice_get_behind requests before place ∙ ap (λ n. request_at n requests) (let e : suc (before + place) ≡ before + suc place = omega arith in e)

-- an answer that fits request `before + number` of the caller fits request `number` of the session
kind_behind : (before number : ℕ) (answer : Asked) (requests : List Request) → IsReplyTo answer (request_at (before + number) requests) → IsReplyTo answer (request_at number (drop before requests))
kind_behind before zero answer requests fit = of_none answer
kind_behind before (suc place) answer requests fit = subst (λ o. IsReplyTo answer o) (sym (request_behind before place requests)) fit

-- ---- a request that is sent again

-- the caller submits nothing
pub submits_none : (number : ℕ) (ended : Result Reply RetryFault) (old new : CallerSight) → RetryIs AwaitIs number old ended new → new.caller.submitted ≡ old.caller.submitted
submits_none number (Ok reply) old new (pending, ends) = let (request, fresh, is) = ends.change in ap (λ (c : Caller). c.submitted) is
submits_none number (Err (retry.Wait fault)) old new (pending, ends) = ap (λ (c : Caller). c.submitted) ends.change
submits_none number (Err retry.NoSuchNode) old new (pending, same) = ap (λ (s : CallerSight). s.caller.submitted) same
submits_none number (Err retry.Idle) old new (idle, same) = ap (λ (s : CallerSight). s.caller.submitted) same

kind_of_retry : (number : ℕ) (ended : Result Reply RetryFault) (answer : Asked) (old new : CallerSight) → RetryIs AwaitIs number old ended new → TellsRetry ended answer → IsReplyTo answer (request_at number (asked_by old))
kind_of_retry number (Ok reply) answer old new (pending, ends) told = kind_of reply answer (request_at number (asked_by old)) told (fits_taken number reply old new ends.change)
kind_of_retry number (Err (retry.Wait fault)) answer old new is told = kind_of_wait fault answer (request_at number (asked_by old)) told
kind_of_retry number (Err retry.NoSuchNode) answer old new is told = kind_of_wait wait.NoAnswer answer (request_at number (asked_by old)) told
kind_of_retry number (Err retry.Idle) answer old new is told = kind_of_wait wait.NoAnswer answer (request_at number (asked_by old)) told

-- no request joins those of the session, and what is told is of the kind of the request
pub heard_again : (before number floor : ℕ) (ended : Result Reply RetryFault) (answer : Asked) (old new : CallerSight) → RetryIs AwaitIs (before + number) old ended new → TellsRetry ended answer
    → IsHeard (Retry number floor) answer (asked_since before old) (asked_since before new)
heard_again before number floor ended answer old new is told = record {
  notes = λ other. ap (λ (submitted : List Submission). drop before (map (λ (s : Submission). s.request) submitted)) (submits_none (before + number) ended old new is);
  kind = kind_behind before number answer (asked_by old) (kind_of_retry (before + number) ended answer old new is told);
}

-- ---- a new request

-- the request that was submitted last has the next number
pub last_request : (request : Request) (old : Caller) (s : Submission) → submission_at (next_number old) (with_request request old).submitted ≡ Some s → s.request ≡ request
last_request request old s at =
    let last : Submission = record { request = request; mine_seen = length old.mine; told_seen = length old.told } in
    let next : length old.submitted + 1 ≡ suc (length old.submitted) = omega arith in
    let found : submission_at (next_number old) (with_request request old).submitted ≡ Some last =
    ap (λ n. submission_at n (old.submitted ++ last ∷ [])) next ∙ got_last old.submitted last in
    ap (λ (x : Submission). x.request) (sym (same_Some last s (sym found ∙ at)))

-- a reply to the request that was just submitted is of its kind
fits_last : (request of : Request) (reply : Reply) (old submitted : Caller) → submitted ≡ with_request request old → fresh_for (told_to submitted (next_number old) reply) submitted ≡ Some of
    → IsReplyTo (asked.Reply reply) (Some request)
fits_last request of reply old submitted begun fresh =
    let found = fresh_kind (told_to submitted (next_number old) reply) submitted of fresh in
    let same : (found.0).request ≡ request = last_request request old found.0 (ap (λ (c : Caller). submission_at (next_number old) c.submitted) (sym begun) ∙ found.1) in
    subst (λ r. IsTrue (fits reply r)) same found.2

-- the caller submits the request
submits_one : (request : Request) (answered : Result Reply WaitFault) (old new : CallerSight) → SubmittedAndEnded AwaitIs request old answered new → new.caller.submitted ≡ (with_request request old.caller).submitted
submits_one request (Ok reply) old new (between, submitted, ends) =
    let (of, fresh, is) = ends.change in ap (λ (c : Caller). c.submitted) is ∙ ap (λ (c : Caller). c.submitted) (submitted.begun).4
submits_one request (Err fault) old new (between, submitted, ends) = ap (λ (c : Caller). c.submitted) ends.change ∙ ap (λ (c : Caller). c.submitted) (submitted.begun).4

-- what the caller submits joins the requests of the session
joins : (before : ℕ) (request : Request) (old new : CallerSight) → before ≤ length old.caller.submitted → new.caller.submitted ≡ (with_request request old.caller).submitted
    → asked_since before new ≡ asked_since before old ++ request ∷ []
joins before request old new begun is =
    let last : Submission = record { request = request; mine_seen = length old.caller.mine; told_seen = length old.caller.told } in
    let as_many = length-map old.caller.submitted (λ (s : Submission). s.request) in
    ap (λ (submitted : List Submission). drop before (map (λ (s : Submission). s.request) submitted)) is
    ∙ ap (λ (requests : List Request). drop before requests) (map-append (λ (s : Submission). s.request) old.caller.submitted (last ∷ []))
    ∙ drop-append-le before (asked_by old) (request ∷ []) (omega (arith, begun, as_many))

-- where it is told that memory is out, nothing has to be said of the requests
pub heard_nothing : (request : Request) (floor : ℕ) (answer : Asked) (before after : List Request) → answer ≡ asked.Memory → IsHeard (Ask request floor) answer before after
heard_nothing request floor answer before after told = record {
  notes = λ other. absurd (other told);
  kind = kind_of_wait wait.Memory answer (Some request) told;
}

-- where no request can have the number nothing is asked
pub heard_no_number : (number floor : ℕ) (before after : List Request) → after ≡ before → IsHeard (Retry number floor) asked.NoAnswer before after
heard_no_number number floor before after same = record {
  notes = λ other. same;
  kind = kind_of_wait wait.NoAnswer asked.NoAnswer (request_at number before) refl;
}

-- the request joins those of the session, and what is told is of its kind
pub heard_first : (before : ℕ) (request : Request) (floor : ℕ) (ended : Result Reply AskFault) (answer : Asked) (old new : CallerSight) → before ≤ length old.caller.submitted → CallIs AwaitIs request old ended new → TellsCall ended answer
    → IsHeard (Ask request floor) answer (asked_since before old) (asked_since before new)
heard_first before request floor (Ok reply) answer old new begun (between, submitted, ends) told = record {
  notes = λ other. joins before request old new begun (submits_one request (Ok reply) old new (between, submitted, ends));
  kind = let (of, fresh, is) = ends.change in kind_of reply answer (Some request) told (fits_last request of reply old.caller between.caller (submitted.begun).4 fresh);
}
heard_first before request floor (Err (ask.Wait fault)) answer old new begun called told = record {
  notes = λ other. joins before request old new begun (submits_one request (Err fault) old new called);
  kind = kind_of_wait fault answer (Some request) told;
}
heard_first before request floor (Err (ask.Begin fault)) answer old new begun called told = heard_nothing request floor answer (asked_since before old) (asked_since before new) told
