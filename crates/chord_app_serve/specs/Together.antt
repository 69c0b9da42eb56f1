-- What the callers of a plan's run are answered.
use Rattle.std.specs.Prelude.{◌≡◌, ℕ, ◌==◌, Bool, true, false, if◌then◌else◌, List, [], ◌∷◌, ◌++◌, map, flat_map, Option, Some, None}
use Rattle.chord_app_plan.specs.declared.ask.PlanAsk.{PlanAsk}
use Rattle.chord_app_serve.specs.declared.plan_run.asking.AskResult.{AskResult}
use Rattle.chord_app_serve.specs.declared.plan_run.asking.AskResult.TheVariants as ended
use Rattle.chord_caller.specs.Caller.{Caller}
use Rattle.chord_map.specs.declared.done.Done.{Done}
use Rattle.chord_map.specs.declared.reply.Reply.{Reply}
use Rattle.chord_map.specs.declared.request.Request.{Request}
use Rattle.chord_table.specs.Shown.{WholeShown}
use Rattle.chord_table.specs.Views.{Assembled, CallerSight, callers_among}

-- the requests of the calls that a caller took, in order, and their replies
abbrev pub taken_requests : Caller → List Request
taken_requests caller = map (λ (done : Done). done.request) caller.mine

abbrev pub taken_replies : Caller → List Reply
taken_replies caller = map (λ (done : Done). done.reply) caller.mine

-- the request was asked: the caller took its reply, or none
abbrev pub AskedIs : Request → Caller → AskResult → Caller → Type 0
AskedIs request old (ended.Reply reply) new = (taken_requests new ≡ taken_requests old ++ request ∷ []) × (taken_replies new ≡ taken_replies old ++ reply ∷ [])
AskedIs request old ended.Full new = new.mine ≡ old.mine
AskedIs request old ended.NoAnswer new = new.mine ≡ old.mine

-- the caller took replies to these requests, or to none of them
abbrev pub NextIs : List Request → Caller → Bool → Caller → Type 0
NextIs requests old true new = taken_requests new ≡ taken_requests old ++ requests
NextIs requests old false new = new.mine ≡ old.mine

-- the replies among these results, in order
abbrev pub replies_of : List AskResult → List Reply
replies_of [] = []
replies_of (ended.Reply reply ∷ rest) = reply ∷ replies_of rest
replies_of (ended.Full ∷ rest) = replies_of rest
replies_of (ended.NoAnswer ∷ rest) = replies_of rest

-- the replies are those that the caller took, in order
abbrev pub AreAnswers : Caller → List AskResult → Type 0
AreAnswers caller results = replies_of results ≡ taken_replies caller

-- the requests of the plan's caller of this number, in order
abbrev pub requests_of : ℕ → List PlanAsk → List Request
requests_of number [] = []
requests_of number (ask ∷ rest) = if ask.caller == number then ask.request ∷ requests_of number rest else requests_of number rest

-- the caller took replies to the first of these requests, in order
abbrev pub TookFirst : List Request → Caller → Type 0
TookFirst requests caller = (rest : List Request) × (requests ≡ taken_requests caller ++ rest)

-- the replies that these callers took, one caller after another
abbrev pub replies_taken : List Caller → List Reply
replies_taken callers = flat_map taken_replies callers

-- the callers of all groups, one group after another
abbrev pub all_of : List (List Caller) → List Caller
all_of groups = flat_map (λ (group : List Caller). group) groups

-- the replies are those that the callers took, in order
abbrev pub AreOf : List Caller → List AskResult → Type 0
AreOf callers results = replies_of results ≡ replies_taken callers

-- the caller that a seat shows
abbrev pub caller_in : CallerSight → Caller
caller_in sight = sight.caller

-- the caller that this is, if there is one
abbrev pub callers_in : Option CallerSight → List Caller
callers_in None = []
callers_in (Some sight) = sight.caller ∷ []

-- The callers in groups, one for each list of results: one caller, or none if none could be opened.
-- The replies among the results are those that the callers of the group took.
abbrev pub AreGroups : List Caller → List (List AskResult) → Type 0
AreGroups callers all = (groups : List (List Caller)) × (all_of groups ≡ callers) × (map replies_of all ≡ map replies_taken groups)

-- The nodes of the run and the callers whose answers these are, and no others, are a reachable
-- world.
pub record StandTogether (all : List (List AskResult)) : Type 0 where
  pub assembled : Assembled
  pub answered : AreGroups (callers_among assembled.taken) all
  pub shown : WholeShown assembled
