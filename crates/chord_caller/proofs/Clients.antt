-- The slots of a client, and that a client stays the core of its callers after the same steps.
use Rattle.std.proofs.Common.{◌≡◌, ◌≢◌, ℕ, zero, suc, ◌+◌, ◌-◌, ◌<◌, ◌≤◌, Bool, true, false, cond, not, ◌&&◌, ◌||◌, eqb, Option, None, Some, List, [], ◌∷◌, ◌++◌, replicate, length, length-append, length-set, slice_get, slice_set, is_some, option_map, ⊎_elim, refl, sym, ◌∙◌, ap, ap₂, arith}
use Rattle.std.proofs.lemmas.Bool.{true≢false, cases_lt, ne_eqb}
use Rattle.std.proofs.lemmas.List.{append_assoc, length-replicate}
use Rattle.std.proofs.lemmas.Option.{none-some, slice_get_past}
use Rattle.chord_map.specs.declared.request.Request.{Request}
use Rattle.chord_map.specs.declared.done.Done.{Done}
use Rattle.chord_map.specs.History.{done_at}
use Rattle.chord_map.proofs.Equal.{same_or_not, eqb_same}
use Rattle.chord_caller.specs.declared.request_state.RequestState.{RequestState}
use Rattle.chord_caller.specs.declared.request_state.RequestState.TheVariants.{Waiting, Over}
use Rattle.chord_caller.specs.declared.told.Told.{Told}
use Rattle.chord_caller.specs.Caller.{Submission, Caller, submission_at, is_taken, is_settled, is_among, floor_of, with_request, with_reply, with_given_up}
use Rattle.chord_caller.specs.Slots.{all_states, state_of, request_waiting_in, is_over, IsRaised}
use Rattle.chord_caller.specs.Client.{Client, client_of, IsClient, count_of, state_at, state_in, IsCoreOf}
use Rattle.chord_caller.specs.Answers.{new_caller, is_pending, PendingIs}
use Rattle.chord_caller.proofs.GivenUp.{among_more}
use Rattle.chord_caller.proofs.Floors.{upto_is}
use Rattle.chord_caller.proofs.Places.{got_last, got_set_same, got_set_other, either_is}

-- the client after it submitted a request
abbrev pub with_waiting : Request → Client → Client
with_waiting request client = record client { states = client.states ++ Waiting request ∷ [] }

-- the pending request of this number is over, no other changed, and the floor is as high as it can
-- be
pub record IsEnded (number : ℕ) (request : Request) (old new : Client) : Type 0 where
  pub place : ℕ
  pub number_is : number ≡ suc place
  pub waits : state_at number old ≡ Some (Waiting request)
  pub caller_is : new.number ≡ old.number
  pub window_is : new.window ≡ old.window
  pub slots_are : all_states new.floor new.states ≡ slice_set (all_states old.floor old.states) place Over
  pub next : is_over (slice_get new.states 0) ≡ false

-- the slots up to the floor are over
pub got_over : (floor : ℕ) (states : List RequestState) (place : ℕ) → place < floor → slice_get (all_states floor states) place ≡ Some Over
got_over zero states place low = absurd (omega arith)
got_over (suc floor) states zero low = refl
got_over (suc floor) states (suc place) low = got_over floor states place (omega arith)

-- the slots above the floor are the stored ones
pub got_kept : (floor : ℕ) (states : List RequestState) (place : ℕ) → floor ≤ place → slice_get (all_states floor states) place ≡ slice_get states (place - floor)
got_kept zero states place high = ap (slice_get states) (omega arith)
got_kept (suc floor) states zero high = absurd (omega arith)
got_kept (suc floor) states (suc place) high = got_kept floor states place (omega arith) ∙ ap (slice_get states) (omega arith)

pub count_all : (floor : ℕ) (states : List RequestState) → length (all_states floor states) ≡ floor + length states
count_all floor states = length-append (replicate floor Over) states ∙ ap (λ n. n + length states) (length-replicate floor Over)

-- the slot of a number by whether it is settled and what was submitted
abbrev pub slot_by : Bool → Option Submission → Option RequestState
slot_by settled submission = cond settled (Some Over) (option_map (λ (s : Submission). Waiting s.request) submission)

over_by : (settled : Bool) (submission : Option Submission) → is_over (slot_by settled submission) ≡ settled
over_by true submission = refl
over_by false None = refl
over_by false (Some submission) = refl

-- a number is settled exactly if its slot is over
pub settled_is : (client : Client) (caller : Caller) → ((number : ℕ) → state_at number client ≡ state_in number caller) → (number : ℕ) → is_settled caller number ≡ is_over (state_at number client)
settled_is client caller states number =
    sym (over_by (is_settled caller number) (submission_at number caller.submitted)) ∙ ap is_over (sym (states number))

-- the floor of the caller is the client's
floor_from : (client : Client) (caller : Caller) → is_over (slice_get client.states 0) ≡ false → count_of client ≡ length caller.submitted
    → ((number : ℕ) → state_at number client ≡ state_in number caller) → client.floor ≡ floor_of caller
floor_from client caller next count states =
    let e = upto_is caller client.floor below
    (settled_is client caller states (suc client.floor)
    ∙ ap is_over (got_kept client.floor client.states client.floor (omega arith))
    ∙ ap (λ n. is_over (slice_get client.states n)) (omega arith)
    ∙ next)
    (length caller.submitted) in
    sym (e ∙ omega arith)
  where
    below : (number : ℕ) → 1 ≤ number → number ≤ client.floor → is_settled caller number ≡ true
    below zero low high = absurd (omega arith)
    below (suc place) low high = settled_is client caller states (suc place) ∙ ap is_over (got_over client.floor client.states place (omega arith))

-- a client is the core of a caller if number, window, count and slots agree
core_from : (client : Client) (caller : Caller) → client.number ≡ caller.number → client.window ≡ caller.window → is_over (slice_get client.states 0) ≡ false
    → count_of client ≡ length caller.submitted → ((number : ℕ) → state_at number client ≡ state_in number caller) → IsCoreOf client caller
core_from client caller number window next count states = record {
  number_is = number;
  window_is = window;
  floor_is = floor_from client caller next count states;
  count_is = count;
  slots_are = states;
}

new_slots : (number window asked : ℕ) → state_at asked (client_of number window 0 []) ≡ state_in asked (new_caller number window)
unfolding is_settled is_taken done_at
new_slots number window zero = refl
new_slots number window (suc place) = refl

-- a new client is the core of a new caller
pub new_core : (number window : ℕ) → IsCoreOf (client_of number window 0 []) (new_caller number window)
new_core number window = core_from (client_of number window 0 []) (new_caller number window) refl refl refl refl (new_slots number window)

got_push_other : {A : Type 0} (xs : List A) (last : A) (place : ℕ) → place ≢ length xs → slice_get (xs ++ last ∷ []) place ≡ slice_get xs place
got_push_other [] last zero apart = absurd (apart refl)
got_push_other [] last (suc place) apart = refl
got_push_other (x ∷ xs) last zero apart = refl
got_push_other (x ∷ xs) last (suc place) apart = got_push_other xs last place (λ e. apart (ap suc e))

pub next_pushed : (states : List RequestState) (request : Request) → is_over (slice_get states 0) ≡ false → is_over (slice_get (states ++ Waiting request ∷ []) 0) ≡ false
next_pushed [] request next = refl
next_pushed (state ∷ states) request next = next

-- the submission made of a request
abbrev pub submission_now : Request → Caller → Submission
submission_now request caller = record { request = request; mine_seen = length caller.mine; told_seen = length caller.told }

same_settled : (request : Request) (caller : Caller) (number : ℕ) → is_settled (with_request request caller) number ≡ is_settled caller number
unfolding is_settled is_taken
same_settled request caller number = refl

pushed_slots : (request : Request) (client : Client) (caller : Caller) → IsCoreOf client caller → (number : ℕ)
    → state_at number (with_waiting request client) ≡ state_in number (with_request request caller)
pushed_slots request client caller core zero = core.slots_are zero ∙ ap (λ t. slot_by t None) (sym (same_settled request caller zero))
pushed_slots request client caller core (suc place) =
    let xs = all_states client.floor client.states in
    let count : length xs ≡ length caller.submitted = count_all client.floor client.states ∙ core.count_is in
    let grown : state_at (suc place) (with_waiting request client) ≡ slice_get (xs ++ Waiting request ∷ []) place =
    ap (λ (all : List RequestState). slice_get all place) (sym (append_assoc (replicate client.floor Over) client.states (Waiting request ∷ []))) in
    ⊎_elim
    (λ (here : place ≡ length xs).
    let none : slice_get xs place ≡ None = slice_get_past xs place (omega arith) in
    let waits : is_settled caller (suc place) ≡ false = settled_is client caller core.slots_are (suc place) ∙ ap is_over none in
    let mine : slice_get (xs ++ Waiting request ∷ []) place ≡ Some (Waiting request) = ap (slice_get (xs ++ Waiting request ∷ [])) here ∙ got_last xs (Waiting request) in
    let theirs : slice_get (caller.submitted ++ submission_now request caller ∷ []) place ≡ Some (submission_now request caller) =
    ap (slice_get (caller.submitted ++ submission_now request caller ∷ [])) (here ∙ count) ∙ got_last caller.submitted (submission_now request caller) in
    grown ∙ mine ∙ sym (ap₂ slot_by (same_settled request caller (suc place) ∙ waits) theirs))
    (λ (there : place ≢ length xs).
    let theirs : slice_get (caller.submitted ++ submission_now request caller ∷ []) place ≡ slice_get caller.submitted place =
    got_push_other caller.submitted (submission_now request caller) place (λ e. there (e ∙ sym count)) in
    grown ∙ got_push_other xs (Waiting request) place there ∙ core.slots_are (suc place) ∙ sym (ap₂ slot_by (same_settled request caller (suc place)) theirs))
    (same_or_not place (length xs))

-- the request that is submitted last waits
pub pushed_last : (request : Request) (client : Client) → state_at (suc (client.floor + length client.states)) (with_waiting request client) ≡ Some (Waiting request)
pushed_last request client =
    got_kept client.floor (client.states ++ Waiting request ∷ []) (client.floor + length client.states) (omega arith)
    ∙ ap (slice_get (client.states ++ Waiting request ∷ [])) (omega arith)
    ∙ got_last client.states (Waiting request)

-- a client that submits a request is the core of the caller that does
pub submit_core : (request : Request) (client : Client) (caller : Caller) → is_over (slice_get client.states 0) ≡ false → IsCoreOf client caller
    → IsCoreOf (with_waiting request client) (with_request request caller)
submit_core request client caller next core =
    core_from (with_waiting request client) (with_request request caller) core.number_is core.window_is
    (next_pushed client.states request next)
    (let count = core.count_is in simp length-append (omega arith))
    (pushed_slots request client caller core)

one_found : (caller number : ℕ) (call : Done) → is_some (done_at caller number (call ∷ [])) ≡ (eqb call.caller caller && eqb call.number number)
unfolding done_at
one_found caller number call = by_test (eqb call.caller caller && eqb call.number number)
  where
    by_test : (test : Bool) → is_some (cond test (Some call) None) ≡ test
    by_test true = refl
    by_test false = refl

pub taken_after : (told : Told) (request : Request) (caller : Caller) (number : ℕ)
    → is_taken (with_reply told request caller) number ≡ (is_taken caller number || (eqb told.caller caller.number && eqb told.number number))
unfolding is_taken
taken_after told request caller number =
    let call : Done = record { caller = told.caller; number = told.number; request = request; reply = told.reply } in
    either_is caller.number number caller.mine (call ∷ [])
    ∙ ap (λ b. is_some (done_at caller.number number caller.mine) || b) (one_found caller.number number call)

-- the caller settled this number, and no other
abbrev pub SettlesOne : ℕ → Caller → Caller → Type 0
SettlesOne settled old new = (number : ℕ) → is_settled new number ≡ (is_settled old number || eqb settled number)

or_true : (b : Bool) → (b || true) ≡ true
or_true true = refl
or_true false = refl

or_false : (b : Bool) → (b || false) ≡ b
or_false true = refl
or_false false = refl

by_reply : (taken given own here : Bool) → own ≡ true → ((taken || (own && here)) || given) ≡ ((taken || given) || here)
by_reply true given own here on = refl
by_reply false true own here on = ap (λ o. (o && here) || true) on ∙ or_true here
by_reply false false own here on = ap (λ o. (o && here) || false) on ∙ or_false here

-- a reply settles its number
reply_settles : (told : Told) (request : Request) (caller : Caller) → told.caller ≡ caller.number → SettlesOne told.number caller (with_reply told request caller)
unfolding is_settled
reply_settles told request caller own number =
    ap (λ b. b || is_among number caller.given_up) (taken_after told request caller number)
    ∙ by_reply (is_taken caller number) (is_among number caller.given_up) (eqb told.caller caller.number) (eqb told.number number) (eqb_same told.caller caller.number own)

taken_before : (given : ℕ) (caller : Caller) (number : ℕ) → is_taken (with_given_up given caller) number ≡ is_taken caller number
unfolding is_taken
taken_before given caller number = refl

or_last : (a b c : Bool) → (a || (b || c)) ≡ ((a || c) || b)
or_last true b c = refl
or_last false true true = refl
or_last false true false = refl
or_last false false true = refl
or_last false false false = refl

-- so does giving it up
give_up_settles : (given : ℕ) (caller : Caller) → SettlesOne given caller (with_given_up given caller)
unfolding is_settled
give_up_settles given caller number =
    ap₂ (λ a b. a || b) (taken_before given caller number) (among_more number given caller.given_up)
    ∙ or_last (is_taken caller number) (eqb given number) (is_among number caller.given_up)

settled_slots : (settled : ℕ) (request : Request) (client new : Client) (caller after : Caller) → after.submitted ≡ caller.submitted → SettlesOne settled caller after → IsEnded settled request client new → IsCoreOf client caller
    → (number : ℕ) → state_at number new ≡ state_in number after
settled_slots settled request client new caller after same settles ended core number =
    ⊎_elim
    (λ (here : number ≡ settled).
    let over : is_settled after number ≡ true =
    settles number ∙ ap (λ b. is_settled caller number || b) (eqb_same settled number (sym here)) ∙ or_true (is_settled caller number) in
    let at : state_at number client ≡ Some (Waiting request) = ap (λ n. state_at n client) here ∙ ended.waits in
    over_here number (here ∙ ended.number_is) at ∙ sym (ap (λ t. slot_by t (submission_at number after.submitted)) over))
    (λ (there : number ≢ settled).
    let over : is_settled after number ≡ is_settled caller number =
    settles number ∙ ap (λ b. is_settled caller number || b) (ne_eqb settled number (λ e. there (sym e))) ∙ or_false (is_settled caller number) in
    same_there number (λ e. there (e ∙ sym ended.number_is)) ∙ core.slots_are number
    ∙ sym (ap₂ (λ t (all : List Submission). slot_by t (submission_at number all)) over same))
    (same_or_not number settled)
  where
    over_here : (n : ℕ) → n ≡ suc ended.place → state_at n client ≡ Some (Waiting request) → state_at n new ≡ Some Over
    over_here zero e at = absurd (none-some (Waiting request) at)
    over_here (suc place) e at =
        let same : place ≡ ended.place = omega arith in
        ap (λ (all : List RequestState). slice_get all place) ended.slots_are
        ∙ ap (λ p. slice_get (slice_set (all_states client.floor client.states) p Over) place) (sym same)
        ∙ got_set_same (all_states client.floor client.states) place (Waiting request) Over at

    same_there : (n : ℕ) → n ≢ suc ended.place → state_at n new ≡ state_at n client
    same_there zero apart = refl
    same_there (suc place) apart =
        ap (λ (all : List RequestState). slice_get all place) ended.slots_are
        ∙ got_set_other (all_states client.floor client.states) ended.place place Over (λ e. apart (ap suc e))

-- a client that ends a request is the core of the caller that settles it
ended_core : (settled : ℕ) (request : Request) (client new : Client) (caller after : Caller) → after.number ≡ caller.number → after.window ≡ caller.window → after.submitted ≡ caller.submitted
    → SettlesOne settled caller after → IsEnded settled request client new → IsCoreOf client caller → IsCoreOf new after
ended_core settled request client new caller after number window same settles ended core =
    core_from new after (ended.caller_is ∙ core.number_is ∙ sym number) (ended.window_is ∙ core.window_is ∙ sym window) ended.next
    (sym (count_all new.floor new.states) ∙ ap (λ (all : List RequestState). length all) ended.slots_are ∙ length-set (all_states client.floor client.states) ended.place Over
    ∙ count_all client.floor client.states ∙ core.count_is ∙ ap (λ (all : List Submission). length all) (sym same))
    (settled_slots settled request client new caller after same settles ended core)

-- a client that takes a reply is the core of the caller that does
pub settle_core : (told : Told) (request : Request) (client new : Client) (caller : Caller) → told.caller ≡ client.number → IsEnded told.number request client new → IsCoreOf client caller
    → IsCoreOf new (with_reply told request caller)
settle_core told request client new caller own ended core =
    ended_core told.number request client new caller (with_reply told request caller) refl refl refl (reply_settles told request caller (own ∙ core.number_is)) ended core

-- a client that gives a request up is the core of the caller that does
pub give_up_core : (given : ℕ) (request : Request) (client new : Client) (caller : Caller) → IsEnded given request client new → IsCoreOf client caller → IsCoreOf new (with_given_up given caller)
give_up_core given request client new caller ended core =
    ended_core given request client new caller (with_given_up given caller) refl refl refl (give_up_settles given caller) ended core

-- a pending number is above the floor and among those submitted
pub waits_above : (floor : ℕ) (states : List RequestState) (number : ℕ) (request : Request) → request_waiting_in (state_of floor states number) ≡ Some request → (floor < number) × (number ≤ floor + length states)
waits_above floor states zero request e = absurd (none-some request e)
waits_above floor states (suc place) request e =
    let low : floor < suc place =
    ⊎_elim (λ (above : floor < suc place). above)
    (λ (below : suc place ≤ floor). absurd (none-some request (sym (ap request_waiting_in (got_over floor states place (omega arith))) ∙ e)))
    (cases_lt floor (suc place)) in
    ⊎_elim
    (λ (within : place < length (all_states floor states)). (low, let n = count_all floor states in omega arith))
    (λ (beyond : length (all_states floor states) ≤ place). absurd (none-some request (sym (ap request_waiting_in (slice_get_past (all_states floor states) place beyond)) ∙ e)))
    (cases_lt place (length (all_states floor states)))

-- the slot of a number whose request waits
pub waits_slot : (o : Option RequestState) (request : Request) → request_waiting_in o ≡ Some request → o ≡ Some (Waiting request)
waits_slot None request e = absurd (none-some request e)
waits_slot (Some (Waiting other)) request e = cc
waits_slot (Some Over) request e = absurd (none-some request e)

-- a number that neither waits nor is over was never submitted
pub idle_slot : (o : Option RequestState) → is_over o ≡ false → request_waiting_in o ≡ None → o ≡ None
idle_slot None over e = refl
idle_slot (Some (Waiting request)) over e = absurd (none-some request (sym e))
idle_slot (Some Over) over e = absurd (true≢false over)

pub over_slot : (o : Option RequestState) → is_over o ≡ true → o ≡ Some Over
over_slot None over = absurd (true≢false (sym over))
over_slot (Some (Waiting request)) over = absurd (true≢false (sym over))
over_slot (Some Over) over = refl

-- a slot that is set above the floor
pub set_above : (floor : ℕ) (states : List RequestState) (place : ℕ) (state : RequestState) → floor ≤ place → all_states floor (slice_set states (place - floor) state) ≡ slice_set (all_states floor states) place state
set_above zero states place state high = ap (λ p. slice_set states p state) (omega arith)
set_above (suc floor) states zero state high = absurd (omega arith)
set_above (suc floor) states (suc place) state high =
    ap (λ (all : List RequestState). Over ∷ all) (ap (λ p. all_states floor (slice_set states p state)) (omega arith) ∙ set_above floor states place state (omega arith))

-- the floor is not lowered
ended_rises : (number : ℕ) (request : Request) (old new : Client) → IsEnded number request old new → old.floor ≤ new.floor
ended_rises number request old new ended =
    ⊎_elim
    (λ (below : new.floor < old.floor).
    let past : new.floor ≢ ended.place = λ here. true≢false (sym (ap is_over (got_over old.floor old.states new.floor below)) ∙ ap is_over (waits_here here)) in
    let first : slice_get new.states 0 ≡ Some Over =
    ap (slice_get new.states) (omega arith) ∙ sym (got_kept new.floor new.states new.floor (omega arith)) ∙ ap (λ (all : List RequestState). slice_get all new.floor) ended.slots_are
    ∙ got_set_other (all_states old.floor old.states) ended.place new.floor Over past ∙ got_over old.floor old.states new.floor below in
    absurd (true≢false (sym (ap is_over first) ∙ ended.next)))
    (λ rises. rises)
    (cases_lt new.floor old.floor)
  where
    waits_here : new.floor ≡ ended.place → slice_get (all_states old.floor old.states) new.floor ≡ Some (Waiting request)
    waits_here here =
        ap (slice_get (all_states old.floor old.states)) here
        ∙ sym (ap (λ n. state_at n old) ended.number_is)
        ∙ ended.waits

-- the slot that is settled is that of the number
pub settled_from : (number window floor : ℕ) (states : List RequestState) (asked : ℕ) (request : Request) (floor' : ℕ) (states' : List RequestState)
    → request_waiting_in (state_of floor states asked) ≡ Some request → IsRaised floor (slice_set states (asked - floor - 1) Over) floor' states'
    → IsEnded asked request (client_of number window floor states) (client_of number window floor' states')
settled_from number window floor states zero request floor' states' waits raised = absurd (none-some request waits)
settled_from number window floor states (suc place) request floor' states' waits raised =
    let above = (waits_above floor states (suc place) request waits).0 in
    record {
      place = place;
      number_is = refl;
      waits = waits_slot (state_of floor states (suc place)) request waits;
      caller_is = refl;
      window_is = refl;
      slots_are = raised.same ∙ ap (λ p. all_states floor (slice_set states p Over)) (omega arith) ∙ set_above floor states place Over (omega arith);
      next = raised.next;
    }

-- a client keeps its rules when it ends a request
ended_keeps : (room number : ℕ) (request : Request) (old new : Client) → IsClient room old → IsEnded number request old new → (after : Caller) → IsCoreOf new after → (room' : ℕ) → room' ≡ room → IsClient room' new
ended_keeps room number request old new h ended after core room' same =
    let count : new.floor + length new.states ≡ old.floor + length old.states =
    sym (count_all new.floor new.states) ∙ ap (λ (all : List RequestState). length all) ended.slots_are ∙ length-set (all_states old.floor old.states) ended.place Over ∙ count_all old.floor old.states in
    let rises = ended_rises number request old new ended in
    let near = h.near in
    let numbered = h.numbered in
    let window = ended.window_is in
    record {
      some_window = rw window h.some_window;
      small_window = rw window h.small_window;
      near = omega arith;
      room_is = same ∙ h.room_is ∙ sym window;
      numbered = rw count numbered;
      next = ended.next;
      caller = after;
      core = core;
    }

-- a client keeps its rules when a reply settles a slot
pub settled_keeps : (room : ℕ) (told : Told) (request : Request) (old new : Client) → IsClient room old → told.caller ≡ old.number → IsEnded told.number request old new → (room' : ℕ) → room' ≡ room → IsClient room' new
settled_keeps room told request old new h own ended room' same =
    ended_keeps room told.number request old new h ended (with_reply told request h.caller) (settle_core told request old new h.caller own ended h.core) room' same

-- and when it gives a request up
pub given_up_keeps : (room given : ℕ) (request : Request) (old new : Client) → IsClient room old → IsEnded given request old new → (room' : ℕ) → room' ≡ room → IsClient room' new
given_up_keeps room given request old new h ended room' same =
    ended_keeps room given request old new h ended (with_given_up given h.caller) (give_up_core given request old new h.caller ended h.core) room' same

pending_by : (settled : Bool) (submission : Option Submission) → is_some (request_waiting_in (slot_by settled submission)) ≡ (is_some submission && not settled)
pending_by true None = refl
pending_by true (Some submission) = refl
pending_by false None = refl
pending_by false (Some submission) = refl

-- a number is pending in a client exactly if it is in each caller that the client is the core of
pub pending_is : (client : Client) (caller : Caller) → IsCoreOf client caller → (number : ℕ) → is_some (request_waiting_in (state_at number client)) ≡ is_pending number caller
pending_is client caller core number =
    ap (λ o. is_some (request_waiting_in o)) (core.slots_are number) ∙ pending_by (is_settled caller number) (submission_at number caller.submitted)

-- a number up to the floor does not wait
low_idle : (client : Client) (number : ℕ) → number ≤ client.floor → is_some (request_waiting_in (state_at number client)) ≡ false
low_idle client zero low = refl
low_idle client (suc place) low = ap (λ o. is_some (request_waiting_in o)) (got_over client.floor client.states place (omega arith))

-- without a slot no request is pending
pub none_pending : (client : Client) (caller : Caller) → IsCoreOf client caller → length client.states ≡ 0 → PendingIs caller None
none_pending client caller core empty number = sym (pending_is client caller core number) ∙ idle number
  where
    idle : (number : ℕ) → is_some (request_waiting_in (state_at number client)) ≡ false
    idle zero = refl
    idle (suc place) =
        let count = count_all client.floor client.states in
        ⊎_elim
        (λ (low : place < client.floor). low_idle client (suc place) (omega arith))
        (λ (high : client.floor ≤ place). ap (λ o. is_some (request_waiting_in o)) (slice_get_past (all_states client.floor client.states) place (omega arith)))
        (cases_lt place client.floor)

first_waits : (states : List RequestState) → 0 < length states → is_over (slice_get states 0) ≡ false → is_some (request_waiting_in (slice_get states 0)) ≡ true
first_waits [] some next = absurd (omega arith)
first_waits (Waiting request ∷ states) some next = refl
first_waits (Over ∷ states) some next = absurd (true≢false next)

-- with a slot the first above the floor is the least pending
pub first_pending : (client : Client) (caller : Caller) → IsCoreOf client caller → 0 < length client.states → is_over (slice_get client.states 0) ≡ false → PendingIs caller (Some (client.floor + 1))
first_pending client caller core some next =
    let shift : client.floor + 1 ≡ suc client.floor = omega arith in
    let here : is_some (request_waiting_in (state_at (suc client.floor) client)) ≡ true =
    ap (λ o. is_some (request_waiting_in o)) (got_kept client.floor client.states client.floor (omega arith))
    ∙ ap (λ n. is_some (request_waiting_in (slice_get client.states n))) (omega arith)
    ∙ first_waits client.states some next in (
      sym (pending_is client caller core (client.floor + 1)) ∙ ap (λ n. is_some (request_waiting_in (state_at n client))) shift ∙ here,
      λ number below. sym (pending_is client caller core number) ∙ low_idle client number (omega arith),
    )

some_waits : (o : Option RequestState) → is_some (request_waiting_in o) ≡ true → (request : Request) × (request_waiting_in o ≡ Some request)
some_waits None e = absurd (true≢false (sym e))
some_waits (Some (Waiting request)) e = (request, refl)
some_waits (Some Over) e = absurd (true≢false (sym e))

-- a number that is pending in each caller that the client is the core of has a request that waits
pub pending_waits : (room : ℕ) (client : Client) (number : ℕ) → IsClient room client → ((caller : Caller) → IsCoreOf client caller → is_pending number caller ≡ true)
    → (request : Request) × (request_waiting_in (state_at number client) ≡ Some request)
pending_waits room client number h pending =
    some_waits (state_at number client) (pending_is client h.caller h.core number ∙ pending h.caller h.core)
