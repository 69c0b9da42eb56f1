-- Messages that are delivered.
use Rattle.std.proofs.Common.{◌≡◌, ℕ, ◌<◌, ◌≤◌, ⊎_elim, inl, inr, Bool, true, false, cond, Option, None, Some, Ok, List, length, get_or, refl, sym, ◌∙◌, ap, subst, arith}
use Rattle.std.proofs.lemmas.Option.{slice_get_past, slice_get_within, get_or_from_slice_get, slice_get_cases}
use Rattle.std.proofs.lemmas.List.{length-map}
use Rattle.std.specs.Prelude.{slice_get, Contains}
use Rattle.chord_map.specs.declared.reply.Reply.{Reply}
use Rattle.chord_map.specs.declared.done.Done.{Done}
use Rattle.chord_segment.specs.Segment.{Segment, Past, past_at}
use Rattle.chord_segment.specs.Segment.Past.{New, Kept, Seen}
use Rattle.chord_caller.specs.declared.ask.Ask.{Ask}
use Rattle.chord_caller.specs.declared.told.Told.{Told}
use Rattle.chord_caller.specs.declared.heard.Heard.{Heard}
use Rattle.chord_caller.specs.declared.heard.Heard.TheVariants.{Fresh, Known}
use Rattle.chord_caller.specs.Caller.{Caller, CallerStep}
use Rattle.chord_caller.specs.Caller.Letter.{ToldLetter, FullLetter}
use Rattle.chord_caller.specs.Caller.CallerStep.{Hears_full}
use Rattle.chord_caller.specs.Answers.{IsForeign, TakeIs}
use Rattle.chord_caller.proofs.Steps.{fresh_steps, known_steps}
use Rattle.chord_node.specs.declared.asks.answered.Answered.{Answered}
use Rattle.chord_node.specs.declared.asks.answered.Answered.TheVariants as answer
use Rattle.chord_model.specs.declared.message.Message.{Message}
use Rattle.chord_model.specs.declared.message.Message.TheVariants.{Ask as AskMessage, Told as ToldMessage, Full as FullMessage}
use Rattle.chord_model.specs.Headline.{Headline, request_with, submitted_by, answers}
use Rattle.chord_model.specs.Node.{Node}
use Rattle.chord_node.specs.Asked.{AskIs, AnswersBy, ask_done, after_done, past_answer, is_full_for, sent_by}
use Rattle.chord_model.specs.World.{WorldStep, caller_at, put_caller, with_one}
use Rattle.chord_model.specs.World.WorldStep.{Calls}
use Rattle.chord_world.specs.declared.sent.Sent.{Sent}
use Rattle.chord_world.specs.State.{WorldState, messages_of, targets_of, with_heard, AreAimed, IsWorld, is_crashed}
use Rattle.chord_world.specs.Taking.{target_of}
use Rattle.chord_world.specs.Delivered.{outcome_heard, IsAstray, IsForCrashed, Delivers}
use Rattle.chord_world.specs.Delivered.Delivers.{To_caller, Full_to_caller}
use Rattle.chord_world.specs.Delivered.IsFor.{Ask_for}
use Rattle.chord_world.specs.declared.outcome.Outcome.{Outcome}
use Rattle.chord_world.specs.declared.outcome.Outcome.TheVariants as did
use Rattle.chord_world.specs.Delivering.{HearsAt, IsOwed, IsReceiver, message_by}
use Rattle.chord_world.proofs.Placing.{nodes_by, callers_by, call_at, aimed_pushed, aimed_at}
use Rattle.chord_world.proofs.Keeping.{with_callers}
use Rattle.chord_world.proofs.Acting.{SendsCall}
use Rattle.chord_world.proofs.Posting.{got_of, set_same}
use Rattle.chord_world.proofs.Speaking.{heard_is_world}

-- the message at an index was sent
pub was_sent : (sent : List Message) (place : ℕ) (message : Message) → slice_get sent place ≡ Some message → Contains sent message
was_sent sent place message e = (place, slice_get_within sent place message e, get_or_from_slice_get sent place message message e)

-- ---- a call at its node

after_number : (did : Option Done) (ask : Ask) (node : Node) → (after_done did ask node).number ≡ node.number
after_number None ask node = refl
after_number (Some done) ask node = refl

pub answered_number : (ask : Ask) (node after : Node) (answered : Answered) → AskIs ask node (Ok answered) after → after.number ≡ node.number
answered_number ask node after answered h = ap (λ (n : Node). n.number) h.1 ∙ after_number (ask_done ask node) ask node

pub message_is : (ask : Ask) (answered : Answered) → message_by ask.caller ask.number answered ≡ sent_by ask answered
message_is ask (answer.Told told) = refl
message_is ask (answer.Forward to passed) = refl
message_is ask answer.Dropped = refl
message_is ask answer.Full = refl

new_call : (nodes count : ℕ) (ask : Ask) (told : Told) (full : Bool) → ask.caller < count → told.caller < count → SendsCall nodes count (sent_by ask (cond full answer.Full (answer.Told told)))
new_call nodes count ask told true within own = within
new_call nodes count ask told false within own = own

past_call : (nodes count : ℕ) (ask : Ask) (node : Node) (past : Past) → ask.caller < count → SendsCall nodes count (sent_by ask (past_answer past ask node.entries node.limit))
past_call nodes count ask node Seen within = tt
past_call nodes count ask node (Kept done) within = within
past_call nodes count ask node New within = new_call nodes count ask _ (is_full_for ask.request node.entries node.limit) within within

pass_call : (nodes count : ℕ) (ask passed : Ask) (to : ℕ) (spent : Bool) → passed.caller ≡ ask.caller → ask.caller < count → SendsCall nodes count (sent_by ask (cond spent answer.Dropped (answer.Forward to passed)))
pass_call nodes count ask passed to true same within = tt
pass_call nodes count ask passed to false same within = omega arith

pub answer_call : (nodes count : ℕ) (ask : Ask) (node : Node) (answered : Answered) (o : Option Segment) → AnswersBy o ask node answered → ask.caller < count → SendsCall nodes count (sent_by ask answered)
answer_call nodes count ask node answered None (hop, next, is) within = subst (λ a. SendsCall nodes count (sent_by ask a)) (sym is) (pass_call nodes count ask _ _ _ refl within)
answer_call nodes count ask node answered (Some segment) is within = subst (λ a. SendsCall nodes count (sent_by ask a)) (sym is) (past_call nodes count ask node (past_at ask.caller ask.number segment) within)

pub answer_aimed : (sent : List Message) (targets : List (Option ℕ)) (ask : Ask) (answered : Answered) → AreAimed sent targets → AreAimed (with_one sent (sent_by ask answered)) (with_one targets (target_of answered))
answer_aimed sent targets ask (answer.Told told) all = aimed_pushed sent targets (ToldMessage told) None all tt
answer_aimed sent targets ask (answer.Forward to passed) all = aimed_pushed sent targets (AskMessage passed) (Some to) all tt
answer_aimed sent targets ask answer.Dropped all = all
answer_aimed sent targets ask answer.Full all = aimed_pushed sent targets (FullMessage ask.caller ask.number) None all tt

pub done_phase : (did : Option Done) (ask : Ask) (node : Node) → (after_done did ask node).phase ≡ node.phase
done_phase None ask node = refl
done_phase (Some done) ask node = refl

pub done_links : (did : Option Done) (ask : Ask) (node : Node) → (after_done did ask node).links ≡ node.links
done_links None ask node = refl
done_links (Some done) ask node = refl

-- ---- a reply at its caller

heard_step : (told : Told) (heard : Heard) (core after : Caller) → TakeIs told core (Ok heard) after → CallerStep core (Some (ToldLetter told)) after None
heard_step told Fresh core after h = fresh_steps told core after h
heard_step told Known core after h = known_steps told core after h

heard_number : (told : Told) (heard : Heard) (core after : Caller) → TakeIs told core (Ok heard) after → after.number ≡ core.number
heard_number told Fresh core after h = ap (λ (c : Caller). c.number) h.2
heard_number told Known core after h = ap (λ (c : Caller). c.number) h.2

-- a delivered reply, by what the caller at this index heard
pub record ToldTo (place : ℕ) (told : Told) (view : WorldState) (heard : Heard) (core after : Caller) : Type 0 where
  pub sent : slice_get view.world.sent place ≡ Some (ToldMessage told)
  pub here : slice_get view.world.callers told.caller ≡ Some core
  pub hears : TakeIs told core (Ok heard) after

pub told_step : (place : ℕ) (told : Told) (view : WorldState) (heard : Heard) (core after : Caller) → IsWorld view → ToldTo place told view heard core after
    → WorldStep view.world (with_heard after view).world
told_step place told view heard core after kept to =
    Calls told.caller core after (Some (ToldLetter told)) None (callers_by.found 0 told.caller told.caller view.world.callers kept.callers (omega arith) ∙ to.here)
    (was_sent view.world.sent place (ToldMessage told) to.sent) (heard_step told heard core after to.hears)

pub told_is_world : (place : ℕ) (told : Told) (view : WorldState) (heard : Heard) (core after : Caller) → IsWorld view → ToldTo place told view heard core after → IsWorld (with_heard after view)
told_is_world place told view heard core after kept to =
    heard_is_world told.caller core after view kept to.here (heard_number told heard core after to.hears) (told_step place told view heard core after kept to)

pub told_delivers : (place : ℕ) (told : Told) (view old : WorldState) (heard : Heard) (core after : Caller) → view ≡ old → IsWorld view → ToldTo place told view heard core after
    → Delivers place old (outcome_heard heard told.caller) (with_heard after view)
told_delivers place told view old heard core after same kept to =
    subst (λ (w : WorldState). Delivers place w (outcome_heard heard told.caller) (with_heard after view)) same
    (To_caller told core after heard to.sent (callers_by.found 0 told.caller told.caller view.world.callers kept.callers (omega arith) ∙ to.here) to.hears)

pub heard_is : (told : Told) (view : WorldState) (heard : Heard) (callers : List Caller) → IsWorld view → (did : HearsAt told.caller told view.world.callers (Ok heard) callers)
    → with_callers callers view ≡ with_heard did.after view
heard_is told view heard callers kept did =
    let at = heard_number told heard did.core did.after did.does ∙ callers_by.number 0 told.caller did.core view.world.callers kept.callers did.here in
    ap (λ (cs : List Caller). with_callers cs view) (did.new_is ∙ sym (callers_by.put_is 0 told.caller did.after view.world.callers kept.callers at))

-- a reply that was sent answers a request of its caller's own
foreign_none : (told : Told) (core : Caller) → told.caller ≡ core.number → answers told.reply (submitted_by (Some core) told.number) ≡ true → IsForeign told core → ⊥
foreign_none told core own owed (inl other) = other own
foreign_none told core own owed (inr (inl none)) =
    let bad : false ≡ true = sym (ap (λ o. answers told.reply (request_with o)) none) ∙ owed in cc
foreign_none told core own owed (inr (inr (submission, at, pending, unfit))) =
    let bad : false ≡ true = sym unfit ∙ sym (ap (λ o. answers told.reply (request_with o)) at) ∙ owed in cc

pub told_owed : (told : Told) (place : ℕ) (view : WorldState) → IsWorld view → Headline view.world → slice_get view.world.sent place ≡ Some (ToldMessage told) → IsOwed told.caller told view.world.callers
told_owed told place view kept headline sent core here foreign =
    let at : caller_at told.caller view.world.callers ≡ Some core = callers_by.found 0 told.caller told.caller view.world.callers kept.callers (omega arith) ∙ here in
    let number = callers_by.number 0 told.caller core view.world.callers kept.callers here in
    let owed : answers told.reply (submitted_by (Some core) told.number) ≡ true =
    ap (λ o. answers told.reply (submitted_by o told.number)) (sym at) ∙ headline.history.owed told (was_sent view.world.sent place (ToldMessage told) sent) in
    foreign_none told core (omega arith) owed foreign

-- ---- Full

pub full_there : (place caller number : ℕ) (view : WorldState) → IsWorld view → slice_get view.world.sent place ≡ Some (FullMessage caller number)
    → (core : Caller) × (slice_get view.world.callers caller ≡ Some core)
full_there place caller number view kept sent =
    let within : caller < length view.world.callers = call_at (length view.world.nodes) (length view.world.callers) view.world.sent place (FullMessage caller number) kept.calls sent in
    ⊎_elim (λ h. (h.0, h.2)) (λ h. absurd (let past = h.0 in omega arith)) (slice_get_cases view.world.callers caller).1

pub full_delivers : (place caller number : ℕ) (view old : WorldState) → view ≡ old → IsWorld view → slice_get view.world.sent place ≡ Some (FullMessage caller number)
    → Delivers place old did.HeardFull old
full_delivers place caller number view old same kept sent =
    let there = full_there place caller number view kept sent in
    subst (λ (w : WorldState). Delivers place w did.HeardFull w) same
    (Full_to_caller caller number there.0 sent (callers_by.found 0 caller caller view.world.callers kept.callers (omega arith) ∙ there.1))

pub full_step : (place caller number : ℕ) (view old : WorldState) → view ≡ old → IsWorld view → slice_get view.world.sent place ≡ Some (FullMessage caller number)
    → WorldStep old.world old.world
full_step place caller number view old same kept sent =
    let there = full_there place caller number view kept sent in
    let core = there.0 in
    let at = callers_by.number 0 caller core view.world.callers kept.callers there.1 in
    let put : put_caller core view.world.callers ≡ view.world.callers = callers_by.put_is 0 caller core view.world.callers kept.callers at ∙ set_same view.world.callers caller core there.1 in
    subst (λ (w : WorldState). WorldStep w.world w.world) same
    (subst (λ cs. WorldStep view.world (record view.world { callers = cs })) put
    (Calls caller core core (Some (FullLetter caller number)) None (callers_by.found 0 caller caller view.world.callers kept.callers (omega arith) ∙ there.1)
    (was_sent view.world.sent place (FullMessage caller number) sent) (Hears_full caller number)))

-- ---- in the words of the code

-- an index with a message is within the list of those sent
pub place_within : (items before : List Sent) (place : ℕ) (message : Message) → items ≡ before → slice_get (messages_of before) place ≡ Some message → place < length items
place_within items before place message same here =
    let within = slice_get_within (messages_of before) place message here in
    let count = length-map before (λ (one : Sent). one.message) in
    let room = ap length same in
    omega arith

-- the message that was read at an index is the one there
pub read : (items before : List Sent) (place : ℕ) (x : Sent) (message : Message) → items ≡ before → place < length items → x ≡ get_or items place x → x.message ≡ message
    → slice_get (messages_of before) place ≡ Some message
read items before place x message same within e is =
    ap (λ xs. slice_get (messages_of xs) place) (sym same) ∙ got_of (λ (one : Sent). one.message) items place x within e ∙ ap (λ m. Some m) is

pub read_is : (items before : List Sent) (place : ℕ) (x : Sent) (message : Message) → items ≡ before → place < length items → x ≡ get_or items place x
    → slice_get (messages_of before) place ≡ Some message → x.message ≡ message
read_is items before place x message same within e here =
    let both : Some x.message ≡ Some message = sym (read items before place x x.message same within e refl) ∙ here in cc

-- an Ask that was read has the node that it goes to
pub read_target : (items : List Sent) (place : ℕ) (x : Sent) (to : ℕ) → place < length items → x ≡ get_or items place x → x.to ≡ Some to → slice_get (targets_of items) place ≡ Some (Some to)
read_target items place x to within e is = got_of (λ (one : Sent). one.to) items place x within e ∙ ap (λ t. Some t) is

pub has_target : (items : List Sent) (place : ℕ) (x : Sent) (ask : Ask) → AreAimed (messages_of items) (targets_of items) → place < length items → x ≡ get_or items place x
    → slice_get (messages_of items) place ≡ Some (AskMessage ask) → (to : ℕ) × (x.to ≡ Some to)
has_target items place x ask all within e sent =
    aimed_at (messages_of items) (targets_of items) place ask x.to all sent (got_of (λ (one : Sent). one.to) items place x within e)

-- the message asked for, stated over the view of the fields
pub sent_here : (view old : WorldState) (place : ℕ) (message : Message) → view ≡ old → slice_get old.world.sent place ≡ Some message → slice_get view.world.sent place ≡ Some message
sent_here view old place message same here = ap (λ (w : WorldState). slice_get w.world.sent place) same ∙ here

pub sent_there : (view old : WorldState) (place : ℕ) (message : Message) → view ≡ old → slice_get view.world.sent place ≡ Some message → slice_get old.world.sent place ≡ Some message
sent_there view old place message same here = ap (λ (w : WorldState). slice_get w.world.sent place) (sym same) ∙ here

-- the message that was read is in the world
pub read_there : {place : ℕ} {x : Sent} {message : Message} (items : List Sent) (view old : WorldState) → view.world.sent ≡ messages_of items → view ≡ old → place < length items → x ≡ get_or items place x
    → x.message ≡ message → slice_get old.world.sent place ≡ Some message
read_there {place} {x} {message} items view old is same within e here =
    sent_there view old place message same (ap (λ ms. slice_get ms place) is ∙ read items items place x message refl within e here)

pub astray : (place to : ℕ) (ask : Ask) (view old : WorldState) → view ≡ old → IsWorld view → slice_get view.world.sent place ≡ Some (AskMessage ask) → slice_get view.targets place ≡ Some (Some to)
    → length view.world.nodes ≤ to → IsAstray place old
astray place to ask view old same kept sent target past =
    subst (IsAstray place) same
    (record { ask = ask; to = to; sent = sent; target = target; missing = nodes_by.found 0 to to view.world.nodes kept.nodes (omega arith) ∙ slice_get_past view.world.nodes to past })

pub for_crashed : (place to : ℕ) (ask : Ask) (node : Node) (view old : WorldState) → view ≡ old → IsWorld view → slice_get view.world.sent place ≡ Some (AskMessage ask) → slice_get view.targets place ≡ Some (Some to)
    → slice_get view.world.nodes to ≡ Some node → is_crashed to old ≡ true → IsForCrashed place old
for_crashed place to ask node view old same kept sent target here out =
    subst (IsForCrashed place) same
    (record {
      to = to;
      node = node;
      is_for = Ask_for ask to sent target;
      here = nodes_by.found 0 to to view.world.nodes kept.nodes (omega arith) ∙ here;
      crashed = ap (is_crashed to) same ∙ out;
    })

pub world_after : (view new next : WorldState) → new ≡ next → IsWorld next → IsWorld new
world_after view new next e h = subst IsWorld (sym e) h

-- the callers are as they were
pub callers_stay : (view : WorldState) (callers : List Caller) → callers ≡ view.world.callers → IsWorld view → IsWorld (with_callers callers view)
callers_stay view callers same kept = subst IsWorld (sym (ap (λ cs. with_callers cs view) same)) kept

pub step_after : (view old new next : WorldState) → view ≡ old → new ≡ next → WorldStep view.world next.world → WorldStep old.world new.world
step_after view old new next same e h =
    subst (λ (w : WorldState). WorldStep w.world new.world) same (subst (λ (w : WorldState). WorldStep view.world w.world) (sym e) h)

pub delivers_after : (place : ℕ) (old new next : WorldState) (outcome outcome' : Outcome) → new ≡ next → outcome ≡ outcome' → Delivers place old outcome' next → Delivers place old outcome new
delivers_after place old new next outcome outcome' e f h =
    subst (λ o. Delivers place old o new) (sym f) (subst (Delivers place old outcome') (sym e) h)

pub told_copy : (told : Told) (reply : Reply) → reply ≡ told.reply → ◌≡◌ {A = Told} (record { caller = told.caller; number = told.number; reply = reply }) told
told_copy told reply e = λ i. record { caller = told.caller; number = told.number; reply = e i }

pub told_to : (place : ℕ) (told : Told) (view : WorldState) (heard : Heard) (callers : List Caller) → slice_get view.world.sent place ≡ Some (ToldMessage told)
    → (did : HearsAt told.caller told view.world.callers (Ok heard) callers) → ToldTo place told view heard did.core did.after
told_to place told view heard callers sent did = record { sent = sent; here = did.here; hears = did.does }

-- ---- a call, from its receiver's answer

pub is_receiver : (place to : ℕ) (view old : WorldState) → view ≡ old → slice_get view.targets place ≡ Some (Some to) → to < length view.world.nodes → is_crashed to old ≡ false → IsReceiver place to old
is_receiver place to view old same target there running = record {
  target = ap (λ (w : WorldState). slice_get w.targets place) (sym same) ∙ target;
  there = subst (λ (w : WorldState). to < length w.world.nodes) same there;
  running = running;
}

pub receiver_there : (place to : ℕ) (view old : WorldState) → view ≡ old → IsReceiver place to old → to < length view.world.nodes
receiver_there place to view old same receiver = subst (λ (w : WorldState). to < length w.world.nodes) (sym same) receiver.there
