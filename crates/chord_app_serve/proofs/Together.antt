-- The replies that the callers of a plan's run were answered are those that they took.
use Rattle.std.proofs.Common.{◌≡◌, ◌≢◌, ℕ, zero, suc, ◌+◌, ◌<◌, Bool, true, false, eqb, List, Some, Ok, Err, [], ◌∷◌, ◌++◌, map, take, get_or, length, append-nil, refl, sym, ap, ap₂, ◌∙◌, subst, arith}
use Rattle.std.proofs.lemmas.Bool.{cond-true, cond-false, ne_eqb}
use Rattle.std.proofs.lemmas.Grind.{flat_map-append}
use Rattle.std.proofs.lemmas.List.{map-append}
use Rattle.chord_app_plan.specs.declared.ask.PlanAsk.{PlanAsk}
use Rattle.chord_app_serve.proofs.Asked.{fresh_kind, last_request}
use Rattle.chord_app_serve.specs.Together.{taken_requests, taken_replies, AskedIs, NextIs, replies_of, AreAnswers, requests_of, replies_taken, AreOf, AreGroups}
use Rattle.chord_app_serve.specs.declared.plan_run.asking.AskResult.{AskResult}
use Rattle.chord_app_serve.specs.declared.plan_run.asking.AskResult.TheVariants as ended
use Rattle.chord_caller.specs.Caller.{Caller, fresh_for, submission_at, next_number, with_request, with_reply}
use Rattle.chord_live_steps.specs.Asking.{CallIs}
use Rattle.chord_live_steps.specs.Ending.{AwaitIs, told_to}
use Rattle.chord_live_types.specs.declared.caller.AskFault.{AskFault}
use Rattle.chord_live_types.specs.declared.caller.AskFault.TheVariants as fault
use Rattle.chord_map.proofs.Equal.{eqb_same}
use Rattle.chord_map.proofs.Lists.{by_test}
use Rattle.chord_map.specs.declared.done.Done.{Done}
use Rattle.chord_map.specs.declared.reply.Reply.{Reply}
use Rattle.chord_map.specs.declared.request.Request.{Request}
use Rattle.chord_table.specs.Views.{CallerSight}

-- ---- one ask

-- the caller after it took the reply to a request that it had just submitted
took_last : (request asked : Request) (reply : Reply) (old submitted new : Caller) → submitted ≡ with_request request old
    → fresh_for (told_to submitted (next_number old) reply) submitted ≡ Some asked → new ≡ with_reply (told_to submitted (next_number old) reply) asked submitted
    → AskedIs request old (ended.Reply reply) new
took_last request asked reply old submitted new begun fresh is =
    let found = fresh_kind (told_to submitted (next_number old) reply) submitted asked fresh in
    let same : asked ≡ request =
    sym found.3 ∙ last_request request old found.0 (ap (λ (c : Caller). submission_at (next_number old) c.submitted) (sym begun) ∙ found.1) in
    let done : Done = record { caller = submitted.number; number = next_number old; request = asked; reply = reply } in
    let mine : new.mine ≡ old.mine ++ done ∷ [] = ap (λ (c : Caller). c.mine) is ∙ ap (λ (c : Caller). c.mine ++ done ∷ []) begun in (
      ap (λ dones. map (λ (d : Done). d.request) dones) mine ∙ map-append (λ (d : Done). d.request) old.mine (done ∷ []) ∙ ap (λ r. taken_requests old ++ r ∷ []) same,
      ap (λ dones. map (λ (d : Done). d.reply) dones) mine ∙ map-append (λ (d : Done). d.reply) old.mine (done ∷ []),
    )

-- a call that was answered by a reply took it
pub asked_reply : (request : Request) (reply : Reply) (old new : CallerSight) → CallIs AwaitIs request old (Ok reply) new → AskedIs request old.caller (ended.Reply reply) new.caller
asked_reply request reply old new (asked, submitted, ends) =
    let (taken, fresh, is) = ends.change in
    took_last request taken reply old.caller asked.caller new.caller (submitted.begun).4 fresh is

-- a call that was not answered took nothing
pub asked_none : (request : Request) (failed : AskFault) (old new : CallerSight) → CallIs AwaitIs request old (Err failed) new → new.caller.mine ≡ old.caller.mine
asked_none request (fault.Wait failed) old new (asked, submitted, ends) =
    ap (λ (c : Caller). c.mine) ends.change ∙ ap (λ (c : Caller). c.mine) (submitted.begun).4
asked_none request (fault.Begin failed) old new (begun, same) = ap (λ (s : CallerSight). s.caller.mine) same

-- ---- the results of one caller

replies-push : (results : List AskResult) (asked : AskResult) → replies_of (results ++ asked ∷ []) ≡ replies_of results ++ replies_of (asked ∷ [])
replies-push [] asked = refl
replies-push (ended.Reply reply ∷ rest) asked = ap (λ replies. reply ∷ replies) (replies-push rest asked)
replies-push (ended.Full ∷ rest) asked = replies-push rest asked
replies-push (ended.NoAnswer ∷ rest) asked = replies-push rest asked

-- the next result is the caller's answer too
pub answers_next : (request : Request) (old new : Caller) (results : List AskResult) (asked : AskResult) → AreAnswers old results → AskedIs request old asked new → AreAnswers new (results ++ asked ∷ [])
answers_next request old new results (ended.Reply reply) answers is =
    replies-push results (ended.Reply reply) ∙ ap (λ replies. replies ++ reply ∷ []) answers ∙ sym is.1
answers_next request old new results ended.Full answers is =
    replies-push results ended.Full ∙ append-nil (replies_of results) ∙ answers ∙ sym (ap (λ dones. map (λ (d : Done). d.reply) dones) is)
answers_next request old new results ended.NoAnswer answers is =
    replies-push results ended.NoAnswer ∙ append-nil (replies_of results) ∙ answers ∙ sym (ap (λ dones. map (λ (d : Done). d.reply) dones) is)

-- whether a reply came
abbrev pub is_reply : AskResult → Bool
is_reply (ended.Reply reply) = true
is_reply ended.Full = false
is_reply ended.NoAnswer = false

pub next_is : (number : ℕ) (ask : PlanAsk) (old new : Caller) (asked : AskResult) (goes_on : Bool) → ask.caller ≡ number → goes_on ≡ is_reply asked → AskedIs ask.request old asked new
    → NextIs (requests_of number (ask ∷ [])) old goes_on new
next_is number ask old new asked goes_on own same is =
    let requests : requests_of number (ask ∷ []) ≡ ask.request ∷ [] = cond-true (eqb ask.caller number) (ask.request ∷ []) [] (eqb_same ask.caller number own) in
    subst (λ b. NextIs (requests_of number (ask ∷ [])) old b new) (sym same) (by_result asked is requests)
  where
    by_result : (asked : AskResult) → AskedIs ask.request old asked new → requests_of number (ask ∷ []) ≡ ask.request ∷ [] → NextIs (requests_of number (ask ∷ [])) old (is_reply asked) new
    by_result (ended.Reply reply) is requests = is.0 ∙ ap (λ rs. taken_requests old ++ rs) (sym requests)
    by_result ended.Full is requests = is
    by_result ended.NoAnswer is requests = is

-- an ask of another caller asks nothing of this one
pub not_next : (number : ℕ) (ask : PlanAsk) (caller : Caller) → ask.caller ≢ number → NextIs (requests_of number (ask ∷ [])) caller true caller
not_next number ask caller other =
    sym (ap (λ rs. taken_requests caller ++ rs) (cond-false (eqb ask.caller number) (ask.request ∷ []) [] (ne_eqb ask.caller number other)) ∙ append-nil (taken_requests caller))

-- ---- the plan's requests of one caller

-- the requests among the first asks are the first of the requests
pub first_requests : (number n : ℕ) (asks : List PlanAsk) → (rest : List Request) × (requests_of number asks ≡ requests_of number (take n asks) ++ rest)
first_requests number zero asks = (requests_of number asks, refl)
first_requests number (suc n) [] = ([], refl)
first_requests number (suc n) (ask ∷ asks) =
    let (rest, is) = first_requests number n asks in
    by_test (eqb ask.caller number)
    (λ t. (rest, of_own t rest is))
    (λ f. (rest, of_other f rest is))
  where
    of_own : eqb ask.caller number ≡ true → (rest : List Request) → requests_of number asks ≡ requests_of number (take n asks) ++ rest
        → requests_of number (ask ∷ asks) ≡ requests_of number (ask ∷ take n asks) ++ rest
    of_own t rest is =
        cond-true (eqb ask.caller number) (ask.request ∷ requests_of number asks) (requests_of number asks) t
        ∙ ap (λ requests. ask.request ∷ requests) is
        ∙ ap (λ requests. requests ++ rest) (sym (cond-true (eqb ask.caller number) (ask.request ∷ requests_of number (take n asks)) (requests_of number (take n asks)) t))

    of_other : eqb ask.caller number ≡ false → (rest : List Request) → requests_of number asks ≡ requests_of number (take n asks) ++ rest
        → requests_of number (ask ∷ asks) ≡ requests_of number (ask ∷ take n asks) ++ rest
    of_other f rest is =
        cond-false (eqb ask.caller number) (ask.request ∷ requests_of number asks) (requests_of number asks) f
        ∙ is
        ∙ ap (λ requests. requests ++ rest) (sym (cond-false (eqb ask.caller number) (ask.request ∷ requests_of number (take n asks)) (requests_of number (take n asks)) f))

-- one ask more
pub requests_next : (number i : ℕ) (asks : List PlanAsk) (d : PlanAsk) → i < length asks
    → requests_of number (take (i + 1) asks) ≡ requests_of number (take i asks) ++ requests_of number (get_or asks i d ∷ [])
requests_next number i [] d within = absurd (omega arith)
requests_next number zero (ask ∷ asks) d within = refl
requests_next number (suc i) (ask ∷ asks) d within =
    let later : requests_of number (take (i + 1) asks) ≡ requests_of number (take i asks) ++ requests_of number (get_or asks i d ∷ []) = requests_next number i asks d (omega arith) in
    let own : List Request = requests_of number (get_or asks i d ∷ []) in
    let more : suc i + 1 ≡ suc (i + 1) = omega arith in
    ap (λ n. requests_of number (take n (ask ∷ asks))) more ∙ by_test (eqb ask.caller number)
    (λ t.
    cond-true (eqb ask.caller number) (ask.request ∷ requests_of number (take (i + 1) asks)) (requests_of number (take (i + 1) asks)) t
    ∙ ap (λ requests. ask.request ∷ requests) later
    ∙ ap (λ requests. requests ++ own) (sym (cond-true (eqb ask.caller number) (ask.request ∷ requests_of number (take i asks)) (requests_of number (take i asks)) t)))
    (λ f.
    cond-false (eqb ask.caller number) (ask.request ∷ requests_of number (take (i + 1) asks)) (requests_of number (take (i + 1) asks)) f
    ∙ later
    ∙ ap (λ requests. requests ++ own) (sym (cond-false (eqb ask.caller number) (ask.request ∷ requests_of number (take i asks)) (requests_of number (take i asks)) f)))

-- ---- all callers

-- the replies of one caller are those of the group of it alone
pub of_one : (caller : Caller) (results : List AskResult) → AreAnswers caller results → AreOf (caller ∷ []) results
of_one caller results answers = answers ∙ sym (append-nil (taken_replies caller))

-- one group more
pub groups_next : (callers more : List Caller) (all : List (List AskResult)) (results : List AskResult) → AreGroups callers all → AreOf more results → AreGroups (callers ++ more) (all ++ results ∷ [])
groups_next callers more all results (groups, joined, answers) of = (
  groups ++ more ∷ [],
  flat_map-append (λ (group : List Caller). group) groups (more ∷ []) ∙ ap₂ (λ (xs ys : List Caller). xs ++ ys) joined (append-nil more),
  map-append replies_of all (results ∷ []) ∙ ap₂ (λ (xs ys : List (List Reply)). xs ++ ys) answers (ap (λ replies. replies ∷ []) of) ∙ sym (map-append replies_taken groups (more ∷ [])),
)
