-- A caller takes other replies too while it waits for one.
use Rattle.std.proofs.Common.{◌≡◌, ◌≢◌, ℕ, Bool, false, not, ◌&&◌, ◌||◌, eqb, None, Some, is_some, Result, Ok, Err, [], ◌∷◌, ◌++◌, sym, ◌∙◌, ap, subst}
use Rattle.std.proofs.Math.Bool.{or-false}
use Rattle.std.proofs.lemmas.Bool.{cond-false, and_parts, eqb-true, not-true, true≢false}
use Rattle.std.proofs.lemmas.Option.{none-some}
use Rattle.chord_caller.specs.Answers.{TakeIs, is_pending}
use Rattle.chord_caller.specs.Caller.{Caller, request_for_reply, fresh_for, is_taken, is_settled, is_among, submission_at, with_reply}
use Rattle.chord_caller.specs.declared.fault.TakeFault.{TakeFault}
use Rattle.chord_caller.specs.declared.fault.TakeFault.TheVariants.{Foreign, Memory}
use Rattle.chord_caller.specs.declared.heard.Heard.{Heard as TakenAs}
use Rattle.chord_caller.specs.declared.heard.Heard.TheVariants.{Fresh, Known}
use Rattle.chord_caller.specs.declared.told.Told.{Told}
use Rattle.chord_caller.proofs.Places.{either_is}
use Rattle.chord_caller.proofs.Views.{known_stale}
use Rattle.chord_caller.proofs.ClientSteps.{foreign_stale}
use Rattle.chord_live_steps.specs.Ending.{IsTaken, TookReplies, TookReply, WaitsStill, told_to}
use Rattle.chord_live_steps.specs.Laws.{none_more}
use Rattle.chord_map.specs.declared.reply.Reply.{Reply}
use Rattle.chord_map.specs.declared.request.Request.{Request}
use Rattle.chord_map.proofs.Lists.{by_option, by_test}
use Rattle.chord_model.proofs.CallerLemmas.{is_taken_from, unsettled_untaken}
use Rattle.chord_map.specs.History.{done_at}
use Rattle.chord_map.specs.declared.done.Done.{Done}
use Rattle.chord_map.proofs.HistoryLemmas.{done_right, done_alone, is_call}

waits_same : (number : ℕ) (old new : Caller) → new ≡ old → WaitsStill number old new
waits_same number old new same = (([], same ∙ none_more old), ap (is_pending number) same)

-- a fresh reply is to one of the caller's own pending requests
fresh_own : (told : Told) (caller : Caller) (request : Request) → fresh_for told caller ≡ Some request → (told.caller ≡ caller.number) × (is_settled caller told.number ≡ false)
unfolding fresh_for
fresh_own told caller request e =
    let test : Bool = eqb told.caller caller.number && not (is_settled caller told.number) in
    by_test test
    (λ t.
    let tests = and_parts (eqb told.caller caller.number) (not (is_settled caller told.number)) t in
    (eqb-true told.caller caller.number tests.0, not-true (is_settled caller told.number) tests.1))
    (λ f. absurd (none-some request (sym (cond-false test (request_for_reply told.reply (submission_at told.number caller.submitted)) None f) ∙ e)))

-- taking the reply that the caller waits for
pub took_fresh : (number : ℕ) (told : Told) (copy : Reply) (old new : Caller) → told.number ≡ number → copy ≡ told.reply → TakeIs told old (Ok Fresh) new
    → TookReplies old new × IsTaken new number copy
took_fresh number told copy old new same copied (request, fresh, is) =
    let parts = fresh_own told old request fresh in
    let done : Done = record { caller = told.caller; number = told.number; request = request; reply = told.reply } in
    let none : done_at old.number told.number old.mine ≡ None =
    by_option (done_at old.number told.number old.mine) (λ none. none) (λ one found. absurd (true≢false (sym (is_taken_from old told.number one found) ∙ unsettled_untaken old told.number parts.1))) in
    let last : done_at old.number told.number (done ∷ []) ≡ Some done = ap (λ n. done_at n told.number (done ∷ [])) (sym parts.0) ∙ done_alone done in
    let found : done_at old.number number (old.mine ++ done ∷ []) ≡ Some done =
    ap (λ n. done_at old.number n (old.mine ++ done ∷ [])) (sym same) ∙ done_right old.number told.number old.mine (done ∷ []) none ∙ last in (
      (done ∷ [], is),
      (done, ap (λ (c : Caller). done_at c.number number c.mine) is ∙ found, sym copied),
    )

-- a list of one call has no call of another number
other_alone : (caller number : ℕ) (done : Done) → done.number ≢ number → is_some (done_at caller number (done ∷ [])) ≡ false
unfolding done_at
other_alone caller number done other =
    by_test (is_call caller number done)
    (λ t. absurd (other (eqb-true done.number number (and_parts (eqb done.caller caller) (eqb done.number number) t).1)))
    (λ f. ap is_some (cond-false (is_call caller number done) (Some done) None f))

taken_apart : (told : Told) (request : Request) (old : Caller) (number : ℕ) → told.number ≢ number → is_taken (with_reply told request old) number ≡ is_taken old number
unfolding is_taken
taken_apart told request old number other =
    let done : Done = record { caller = told.caller; number = told.number; request = request; reply = told.reply } in
    either_is old.number number old.mine (done ∷ [])
    ∙ ap (λ b. is_some (done_at old.number number old.mine) || b) (other_alone old.number number done other)
    ∙ or-false (is_some (done_at old.number number old.mine))

settled_apart : (told : Told) (request : Request) (old : Caller) (number : ℕ) → told.number ≢ number → is_settled (with_reply told request old) number ≡ is_settled old number
unfolding is_settled
settled_apart told request old number other = ap (λ b. b || is_among number old.given_up) (taken_apart told request old number other)

-- taking any other reply
pub took_other : (number : ℕ) (told : Told) (old new : Caller) (taken : Result TakenAs TakeFault) → told.number ≢ number → TakeIs told old taken new → WaitsStill number old new
took_other number told old new (Ok Fresh) other (request, fresh, is) =
    let done : Done = record { caller = told.caller; number = told.number; request = request; reply = told.reply } in (
      (done ∷ [], is),
      ap (is_pending number) is ∙ ap (λ settled. is_some (submission_at number old.submitted) && not settled) (settled_apart told request old number other),
    )
took_other number told old new (Ok Known) other is = waits_same number old new is.2
took_other number told old new (Err Foreign) other is = waits_same number old new is.1
took_other number told old new (Err Memory) other is = waits_same number old new is.2

-- a client takes the reply that it waits for
pub took_awaited : (number : ℕ) (told : Told) (reply : Reply) (old new : Caller) → told.number ≡ number → reply ≡ told.reply → TakeIs told old (Ok Fresh) new → TookReply number reply old new
took_awaited number told reply old new same copied (request, fresh, is) =
    let own : told.caller ≡ old.number = (fresh_own told old request fresh).0 in
    let named : told ≡ told_to old number reply =
    ap (λ n. record { caller = n; number = told.number; reply = told.reply }) own
    ∙ ap (λ n. record { caller = old.number; number = n; reply = told.reply }) same
    ∙ ap (λ r. record { caller = old.number; number = number; reply = r }) (sym copied) in
    (request, subst (λ (t : Told). fresh_for t old ≡ Some request) named fresh, is ∙ ap (λ (t : Told). with_reply t request old) named)

-- a reply that its caller knows, or that is foreign to it, is not fresh
pub known_not_fresh : (told : Told) (old new : Caller) → TakeIs told old (Ok Known) new → fresh_for told old ≡ None
known_not_fresh told old new is = known_stale told old is.1

pub foreign_not_fresh : (told : Told) (old new : Caller) → TakeIs told old (Err Foreign) new → fresh_for told old ≡ None
foreign_not_fresh told old new is = foreign_stale told old is.0
