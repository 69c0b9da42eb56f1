-- How waits for a reply add up.
use Rattle.std.proofs.Common.{◌≡◌, ◌≢◌, ℕ, ◌+◌, Bool, true, false, cond, ◌&&◌, eqb, Ok, Err, Result, List, [], ◌∷◌, ◌++◌, append-nil, refl, sym, ◌∙◌, ap, arith}
use Rattle.std.specs.Prelude.{count_by, ◌↔◌}
use Rattle.std.proofs.lemmas.Bool.{and_parts, eqb-true}
use Rattle.std.proofs.lemmas.List.{append_assoc}
use Rattle.std.proofs.lemmas.List.Sums.{sum_by_push}
use Rattle.chord_caller.specs.Caller.{Caller}
use Rattle.chord_live_steps.specs.Ending.{Ended, TookMessages, full_count, fulls_at, says_full}
use Rattle.chord_live_types.specs.declared.caller.WaitFault.{WaitFault}
use Rattle.chord_live_types.specs.declared.caller.WaitFault.TheVariants as wait
use Rattle.chord_map.proofs.Equal.{eqb_same}
use Rattle.chord_map.proofs.Lists.{by_test}
use Rattle.chord_map.specs.declared.reply.Reply.{Reply}
use Rattle.chord_model.specs.declared.message.Message.{Message}
use Rattle.chord_model.specs.declared.message.Message.TheVariants.{Ask as AskMessage, Told, Full, Part, Got, Declined, Note}
use Rattle.chord_table.specs.Views.{CallerSight}

-- ---- which messages count

says_it : (caller number : ℕ) (message : Message) → message ≡ Full caller number → says_full caller number message ≡ true
says_it caller number message is =
    ap (says_full caller number) is ∙ ap (λ (b : Bool). b && eqb number number) (eqb_same caller caller refl) ∙ ap (λ (b : Bool). true && b) (eqb_same number number refl)

says_not : (caller number : ℕ) (message : Message) → message ≢ Full caller number → says_full caller number message ≡ false
says_not caller number (Full other of) differs =
    by_test (eqb other caller && eqb of number)
    (λ t.
    let parts = and_parts (eqb other caller) (eqb of number) t in
    absurd (differs (ap (λ (n : ℕ). Full n of) (eqb-true other caller parts.0) ∙ ap (λ (n : ℕ). Full caller n) (eqb-true of number parts.1))))
    (λ f. f)
says_not caller number (AskMessage ask) differs = refl
says_not caller number (Told told) differs = refl
says_not caller number (Part part) differs = refl
says_not caller number (Got got) differs = refl
says_not caller number (Declined declined) differs = refl
says_not caller number (Note note) differs = refl

counted : (number : ℕ) (old new : CallerSight) (message : Message) → new.messages ≡ old.messages ++ message ∷ [] → new.caller.number ≡ old.caller.number
    → full_count number new ≡ full_count number old + cond (says_full new.caller.number number message) 1 0
unfolding full_count
counted number old new message came same =
    let score : ℕ → Message → ℕ = λ caller one. cond (says_full caller number one) 1 0 in
    ap (λ (messages : List Message). count_by (says_full new.caller.number number) messages) came
    ∙ sum_by_push (score new.caller.number) old.messages message
    ∙ ap (λ (caller : ℕ). count_by (says_full caller number) old.messages + score new.caller.number message) same

-- a submission takes no message, so what counts stays
uncounted : (number : ℕ) (old new : CallerSight) → new.messages ≡ old.messages → new.caller.number ≡ old.caller.number → full_count number new ≡ full_count number old
unfolding full_count
uncounted number old new none same =
    ap (λ (messages : List Message). count_by (says_full new.caller.number number) messages) none
    ∙ ap (λ (caller : ℕ). count_by (says_full caller number) old.messages) same

-- one message counts exactly if it ends the wait as Full
score_of : (number : ℕ) (answer : Result Reply WaitFault) (message : Message) (caller : ℕ) → (answer ≡ Err wait.Full) ↔ (message ≡ Full caller number)
    → cond (says_full caller number message) 1 0 ≡ fulls_at answer
score_of number (Ok reply) message caller means = ap (λ (b : Bool). cond b 1 0) (says_not caller number message (λ full. let e : Ok reply ≡ Err wait.Full = means.1 full in cc))
score_of number (Err wait.Full) message caller means = ap (λ (b : Bool). cond b 1 0) (says_it caller number message (means.0 refl))
score_of number (Err wait.NoAnswer) message caller means = ap (λ (b : Bool). cond b 1 0) (says_not caller number message (λ full. let e : Err wait.NoAnswer ≡ Err wait.Full = means.1 full in cc))
score_of number (Err wait.Memory) message caller means = ap (λ (b : Bool). cond b 1 0) (says_not caller number message (λ full. let e : Err wait.Memory ≡ Err wait.Full = means.1 full in cc))

-- ---- waits

-- one message may end a wait
pub ended_by : (ends : ℕ → Caller → Result Reply WaitFault → Caller → Type 0)
    → ((number : ℕ) (old new : Caller) (answer : Result Reply WaitFault) → ends number old answer new → new.number ≡ old.number)
    → (number : ℕ) (answer : Result Reply WaitFault) (message : Message) (old new : CallerSight) → new.messages ≡ old.messages ++ message ∷ []
    → ends number old.caller answer new.caller → (answer ≡ Err wait.Full) ↔ (message ≡ Full new.caller.number number) → Ended ends number old answer new
ended_by ends numbered number answer message old new came change means =
    record {
      change = change;
      came = (message ∷ [], came);
      full =
          counted number old new message came (numbered number old.caller new.caller answer change)
          ∙ ap (λ (n : ℕ). full_count number old + n) (score_of number answer message new.caller.number means);
    }

-- a wait in which nothing came
pub ended_quiet : (ends : ℕ → Caller → Result Reply WaitFault → Caller → Type 0) → ((number : ℕ) (caller : Caller) (fault : WaitFault) → ends number caller (Err fault) caller)
    → (number : ℕ) (fault : WaitFault) (sight : CallerSight) → fulls_at (Err fault) ≡ 0 → Ended ends number sight (Err fault) sight
ended_quiet ends nothing number fault sight none =
    record {
      change = nothing number sight.caller fault;
      came = ([], sym (append-nil sight.messages));
      full = let e : full_count number sight ≡ full_count number sight + fulls_at (Err fault) = omega (arith, none) in e;
    }

took_more : (first middle last : CallerSight) → TookMessages first middle → TookMessages middle last → TookMessages first last
took_more first middle last (some, is) (more, is') =
    (some ++ more, is' ∙ ap (λ (messages : List Message). messages ++ more) is ∙ append_assoc first.messages some more)

-- a wait without an answer, and then another wait
pub ended_again : (ends : ℕ → Caller → Result Reply WaitFault → Caller → Type 0)
    → ((number : ℕ) (first middle last : Caller) (fault : WaitFault) (answer : Result Reply WaitFault) → ends number first (Err fault) middle → ends number middle answer last → ends number first answer last)
    → (number : ℕ) (answer : Result Reply WaitFault) (first middle last : CallerSight) → Ended ends number first (Err wait.NoAnswer) middle → Ended ends number middle answer last
    → Ended ends number first answer last
ended_again ends again number answer first middle last one two =
    record {
      change = again number first.caller middle.caller last.caller wait.NoAnswer answer one.change two.change;
      came = took_more first middle last one.came two.came;
      full = let a = one.full in let b = two.full in let e : full_count number last ≡ full_count number first + fulls_at answer = omega (arith, a, b) in e;
    }
