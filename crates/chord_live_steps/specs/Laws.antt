-- The two ways for waits to end keep the laws of an AskingCore.
use Rattle.std.specs.Prelude.{◌≡◌, ℕ, ◌++◌, [], refl, Result, Ok, Err}
use Rattle.std.proofs.Common.{◌∙◌, ap, sym, subst, append-nil}
use Rattle.std.proofs.lemmas.List.{append_assoc}
use Rattle.chord_caller.specs.Answers.{is_pending}
use Rattle.chord_caller.specs.Caller.{Caller}
use Rattle.chord_live_steps.specs.Ending.{AwaitIs, TookReplies, WaitIs}
use Rattle.chord_live_types.specs.declared.caller.WaitFault.{WaitFault}
use Rattle.chord_map.specs.declared.reply.Reply.{Reply}

-- ---- a client

pub await_again : (number : ℕ) (first middle last : Caller) (fault : WaitFault) (answer : Result Reply WaitFault) → AwaitIs number first (Err fault) middle → AwaitIs number middle answer last → AwaitIs number first answer last
await_again number first middle last fault answer same ended = subst (λ (c : Caller). AwaitIs number c answer last) same ended

pub await_still : (number : ℕ) (old new : Caller) (fault : WaitFault) → AwaitIs number old (Err fault) new → is_pending number new ≡ is_pending number old
await_still number old new fault same = ap (is_pending number) same

pub await_numbered : (number : ℕ) (old new : Caller) (answer : Result Reply WaitFault) → AwaitIs number old answer new → new.number ≡ old.number
await_numbered number old new (Ok reply) (request, fresh, is) = ap (λ (c : Caller). c.number) is
await_numbered number old new (Err fault) same = ap (λ (c : Caller). c.number) same

-- ---- a caller that stores replies

pub none_more : (caller : Caller) → caller ≡ record caller { mine = caller.mine ++ [] }
none_more caller = ap (λ mine. record caller { mine = mine }) (sym (append-nil caller.mine))

pub wait_nothing : (number : ℕ) (caller : Caller) (fault : WaitFault) → WaitIs number caller (Err fault) caller
wait_nothing number caller fault = (([], none_more caller), refl)

-- taking replies twice is taking replies
pub took_on : (first middle last : Caller) → TookReplies first middle → TookReplies middle last → TookReplies first last
took_on first middle last (rest, is) (more, is') =
    (rest ++ more, is' ∙ ap (λ (c : Caller). record c { mine = c.mine ++ more }) is ∙ ap (λ mine. record first { mine = mine }) (append_assoc first.mine rest more))

pub wait_again : (number : ℕ) (first middle last : Caller) (fault : WaitFault) (answer : Result Reply WaitFault) → WaitIs number first (Err fault) middle → WaitIs number middle answer last → WaitIs number first answer last
wait_again number first middle last fault (Ok reply) (took, still) (took', taken) = (took_on first middle last took took', taken)
wait_again number first middle last fault (Err other) (took, still) (took', still') = (took_on first middle last took took', still' ∙ still)

pub wait_still : (number : ℕ) (old new : Caller) (fault : WaitFault) → WaitIs number old (Err fault) new → is_pending number new ≡ is_pending number old
wait_still number old new fault (took, still) = still

pub wait_numbered : (number : ℕ) (old new : Caller) (answer : Result Reply WaitFault) → WaitIs number old answer new → new.number ≡ old.number
wait_numbered number old new (Ok reply) ((rest, is), taken) = ap (λ (c : Caller). c.number) is
wait_numbered number old new (Err fault) ((rest, is), still) = ap (λ (c : Caller). c.number) is
