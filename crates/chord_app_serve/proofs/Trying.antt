-- A request that is tried again is one question.
use Rattle.std.proofs.Common.{◌≡◌, ◌≤◌, ℕ, ◌+◌, length, refl, Bool, true, Result, Ok, Err, List, map, drop, inl, sym, ap, ◌∙◌, subst, arith}
use Rattle.chord_app_serve.proofs.Asked.{heard_again, heard_first, submits_none}
use Rattle.chord_app_serve.proofs.Settling.{as_many, asked_stays}
use Rattle.chord_app_serve.specs.Answered.{SettlesTo, TellsCall, TellsRetry}
use Rattle.chord_app_serve.specs.Asked.{asked_since}
use Rattle.chord_app_serve.specs.Tried.{TrySight, TriesBy, WaitsOn}
use Rattle.chord_caller.specs.Caller.{Caller, Submission, next_number}
use Rattle.chord_live_steps.proofs.Waiting.{ended_again}
use Rattle.chord_live_steps.specs.Asking.{CallIs, RetryIs}
use Rattle.chord_live_steps.specs.Ending.{AwaitIs, Ended}
use Rattle.chord_live_types.specs.declared.caller.AskFault.{AskFault}
use Rattle.chord_live_types.specs.declared.caller.AskFault.TheVariants as ask
use Rattle.chord_live_types.specs.declared.caller.RetryFault.{RetryFault}
use Rattle.chord_live_types.specs.declared.caller.RetryFault.TheVariants as retry
use Rattle.chord_live_types.specs.declared.caller.WaitFault.{WaitFault}
use Rattle.chord_live_types.specs.declared.caller.WaitFault.TheVariants as wait
use Rattle.chord_map.specs.declared.reply.Reply.{Reply}
use Rattle.chord_map.specs.declared.request.Request.{Request}
use Rattle.chord_serve.specs.Question.{Question, Ask, Retry, IsHeard, IsReplyTo, request_at}
use Rattle.chord_serve.specs.declared.asker.Asked.{Asked}
use Rattle.chord_serve.specs.declared.asker.Asked.TheVariants as asked
use Rattle.chord_table.specs.Views.{CallerSight}

-- how a call ended whose request was tried again so
abbrev pub called_of : Result Reply RetryFault → Result Reply AskFault
called_of (Ok reply) = Ok reply
called_of (Err (retry.Wait fault)) = Err (ask.Wait fault)
called_of (Err retry.NoSuchNode) = Err (ask.Wait wait.NoAnswer)
called_of (Err retry.Idle) = Err (ask.Wait wait.NoAnswer)

-- the same of one that was sent again before
abbrev pub retried_of : Result Reply RetryFault → Result Reply RetryFault
retried_of (Ok reply) = Ok reply
retried_of (Err (retry.Wait fault)) = Err (retry.Wait fault)
retried_of (Err retry.NoSuchNode) = Err (retry.Wait wait.NoAnswer)
retried_of (Err retry.Idle) = Err (retry.Wait wait.NoAnswer)

awaited_again : (number : ℕ) (first middle last : Caller) (fault : WaitFault) (answer : Result Reply WaitFault) → AwaitIs number first (Err fault) middle → AwaitIs number middle answer last → AwaitIs number first answer last
awaited_again number first middle last fault answer one two = subst (λ (c : Caller). AwaitIs number c answer last) one two

one_wait : (number : ℕ) (answer : Result Reply WaitFault) (first middle last : CallerSight) → Ended AwaitIs number first (Err wait.NoAnswer) middle → Ended AwaitIs number middle answer last → Ended AwaitIs number first answer last
one_wait = ended_again AwaitIs awaited_again

tells_called : (ended : Result Reply RetryFault) (answer : Asked) → TellsRetry ended answer → TellsCall (called_of ended) answer
tells_called (Ok reply) answer told = told
tells_called (Err (retry.Wait fault)) answer told = told
tells_called (Err retry.NoSuchNode) answer told = told
tells_called (Err retry.Idle) answer told = told

tells_retried : (ended : Result Reply RetryFault) (answer : Asked) → TellsRetry ended answer → TellsRetry (retried_of ended) answer
tells_retried (Ok reply) answer told = told
tells_retried (Err (retry.Wait fault)) answer told = told
tells_retried (Err retry.NoSuchNode) answer told = told
tells_retried (Err retry.Idle) answer told = told

-- a call that waits, and then a further try
calls_on : (request : Request) (settled middle new : CallerSight) (ended : Result Reply RetryFault) → CallIs AwaitIs request settled (Err (ask.Wait wait.NoAnswer)) middle → RetryIs AwaitIs (next_number settled.caller) middle ended new
    → CallIs AwaitIs request settled (called_of ended) new
calls_on request settled middle new (Ok reply) (between, submitted, ends) (pending, more) = (between, submitted, one_wait (next_number settled.caller) (Ok reply) between middle new ends more)
calls_on request settled middle new (Err (retry.Wait fault)) (between, submitted, ends) (pending, more) = (between, submitted, one_wait (next_number settled.caller) (Err fault) between middle new ends more)
calls_on request settled middle new (Err retry.NoSuchNode) called (pending, same) = subst (λ (s : CallerSight). CallIs AwaitIs request settled (Err (ask.Wait wait.NoAnswer)) s) (sym same) called
calls_on request settled middle new (Err retry.Idle) called (idle, same) = subst (λ (s : CallerSight). CallIs AwaitIs request settled (Err (ask.Wait wait.NoAnswer)) s) (sym same) called

-- the same of one that was sent again
retries_on : (number : ℕ) (settled middle new : CallerSight) (ended : Result Reply RetryFault) → RetryIs AwaitIs number settled (Err (retry.Wait wait.NoAnswer)) middle → RetryIs AwaitIs number middle ended new
    → RetryIs AwaitIs number settled (retried_of ended) new
retries_on number settled middle new (Ok reply) (first, ends) (pending, more) = (first, one_wait number (Ok reply) settled middle new ends more)
retries_on number settled middle new (Err (retry.Wait fault)) (first, ends) (pending, more) = (first, one_wait number (Err fault) settled middle new ends more)
retries_on number settled middle new (Err retry.NoSuchNode) sent (pending, same) = subst (λ (s : CallerSight). RetryIs AwaitIs number settled (Err (retry.Wait wait.NoAnswer)) s) (sym same) sent
retries_on number settled middle new (Err retry.Idle) sent (idle, same) = subst (λ (s : CallerSight). RetryIs AwaitIs number settled (Err (retry.Wait wait.NoAnswer)) s) (sym same) sent

-- no request joins those of the session
stays : (before number : ℕ) (ended : Result Reply RetryFault) (old new : CallerSight) → RetryIs AwaitIs number old ended new → asked_since before new ≡ asked_since before old
stays before number ended old new sent = ap (λ (submitted : List Submission). drop before (map (λ (s : Submission). s.request) submitted)) (submits_none number ended old new sent)

no_memory : asked.NoAnswer ≡ asked.Memory → ⊥
no_memory e = cc

-- the request that waits is tried once more
pub tried_again : (before old : TrySight) (answer : Asked) (new : CallerSight) (waits : Bool) (ended : Result Reply RetryFault) → RetryIs AwaitIs old.last old.caller ended new → TellsRetry ended answer
    → (waits ≡ true → ended ≡ Err (retry.Wait wait.NoAnswer)) → (q : Question) → TriesBy before q asked.NoAnswer old → WaitsOn before.before q before.caller old.last old.caller
    → TriesBy before q answer (record old { waits = waits; caller = new })
tried_again before old answer new waits ended sent told still (Ask request floor) ((heard, same, via, answered), on) (settled, settles, number, called) =
    let more : CallIs AwaitIs request settled (called_of ended) new = calls_on request settled old.caller new ended called (subst (λ (n : ℕ). RetryIs AwaitIs n old.caller ended new) number sent) in
    let tells : TellsCall (called_of ended) answer = tells_called ended answer told in
    let now : IsHeard (Ask request floor) answer (asked_since before.before before.caller) (asked_since old.before new) = record {
      notes = λ other. stays old.before old.last ended old.caller new sent ∙ heard.notes no_memory;
      kind = (heard_first 0 request floor (called_of ended) answer settled new (omega arith) more tells).kind;
    } in
    ((now, same, via, (settled, settles, inl (called_of ended, more, tells))), λ t. (settled, settles, number, subst (λ (e : Result Reply RetryFault). CallIs AwaitIs request settled (called_of e) new) (still t) more))
tried_again before old answer new waits ended sent told still (Retry again floor) ((heard, same, via, answered), on) (settled, settles, number, first) =
    let more : RetryIs AwaitIs (before.before + again) settled (retried_of ended) new = retries_on (before.before + again) settled old.caller new ended first (subst (λ (n : ℕ). RetryIs AwaitIs n old.caller ended new) number sent) in
    let tells : TellsRetry (retried_of ended) answer = tells_retried ended answer told in
    let now : IsHeard (Retry again floor) answer (asked_since before.before before.caller) (asked_since old.before new) = record {
      notes = λ other. stays old.before old.last ended old.caller new sent ∙ heard.notes no_memory;
      kind = subst (λ (requests : List Request). IsReplyTo answer (request_at again requests)) (asked_stays before.before (before.before + floor) before.caller settled settles)
          (heard_again before.before again floor (retried_of ended) answer settled new more tells).kind;
    } in
    ((now, same, via, (settled, settles, inl (retried_of ended, more, tells))), λ t. (settled, settles, number, subst (λ (e : Result Reply RetryFault). RetryIs AwaitIs (before.before + again) settled (retried_of e) new) (still t) more))

-- a new request is tried
pub tried_first : (old : TrySight) (settled : CallerSight) (request : Request) (floor : ℕ) (answer : Asked) (new : CallerSight) (last : ℕ) (waits : Bool) (ended : Result Reply AskFault) → old.before ≤ length old.caller.caller.submitted
    → SettlesTo (old.before + floor) old.caller settled → CallIs AwaitIs request settled ended new → TellsCall ended answer
    → (ended ≡ Err (ask.Wait wait.NoAnswer) → last ≡ next_number settled.caller) → (waits ≡ true → ended ≡ Err (ask.Wait wait.NoAnswer))
    → TriesBy old (Ask request floor) answer (record old { last = last; waits = waits; caller = new })
tried_first old settled request floor answer new last waits ended begins settles called told number still =
    let begun : old.before ≤ length settled.caller.submitted = omega (arith, begins, as_many (old.before + floor) old.caller settled settles) in
    let now : IsHeard (Ask request floor) answer (asked_since old.before old.caller) (asked_since old.before new) =
    subst (λ (requests : List Request). IsHeard (Ask request floor) answer requests (asked_since old.before new)) (asked_stays old.before (old.before + floor) old.caller settled settles)
    (heard_first old.before request floor ended answer settled new begun called told) in
    ((now, refl, refl, (settled, settles, inl (ended, called, told))), λ t. (settled, settles, number (still t), subst (λ (e : Result Reply AskFault). CallIs AwaitIs request settled e new) (still t) called))
