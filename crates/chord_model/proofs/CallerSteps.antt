-- A caller's step keeps the invariant.
use Rattle.std.proofs.Common.{◌≡◌, ◌≢◌, ℕ, zero, suc, ◌+◌, ◌<◌, ◌≤◌, Bool, true, false, not, ◌&&◌, eqb, ◌⊎◌, inl, inr, ⊎_elim, refl, sym, ◌∙◌, ap, subst, arith, List, [], ◌∷◌, ◌++◌, length, Option, Some, None, is_some, slice_get, length-append, add-one}
use Rattle.std.proofs.lemmas.Bool.{and_parts, eqb-true, cond-true, cond-false, not-true, cases_lt, cases_eq, ne_eqb, true≢false, or_cases, or_from, or_parts, or_right, and_right}
use Rattle.std.proofs.lemmas.Option.{same_Some, none-some}
use Rattle.chord_caller.specs.declared.told.Told.{Told}
use Rattle.chord_caller.specs.Caller.{Note, Submission, Caller, submission_at, is_taken, is_among, is_settled, with_number, floor_of, IsSentNow, next_number, with_request, with_reply, with_given_up, request_for_reply, fresh_for, known_calls, unknown_calls, CallerStep, Letter}
use Rattle.chord_caller.proofs.GivenUp.{among_more}
use Rattle.chord_caller.proofs.Clients.{taken_after}
use Rattle.chord_caller.specs.Caller.CallerStep.{Submits, Repeats, Takes, Gives_up, Ignores, Hears_full, Shows, Meets}
use Rattle.chord_map.proofs.Lists.{by_test, not_both, Has, Each, has_cases, has_pushed, has_filter, has_contained}
use Rattle.chord_map.specs.declared.reply.Reply.{Reply}
use Rattle.chord_map.specs.declared.request.Request.{Request}
use Rattle.chord_map.specs.Map.{fits}
use Rattle.chord_model.proofs.CallerLemmas.{Grown, AllGrown, nothing_more, grown_itself, all_grown_put, submission_grown, unsettled_untaken, taken_same, settled_grown, one_request, floor_settled, floor_grown}
use Rattle.chord_model.proofs.Growth.{message_grown, good_of_grown}
use Rattle.chord_model.proofs.Invariant.{IsOwn, CallerGood, AskGood, ToldGood, MessageGood, Good, Submitted}
use Rattle.chord_caller.specs.declared.ask.Ask.{Ask}
use Rattle.chord_model.specs.declared.message.Message.{Message}
use Rattle.chord_model.specs.Letters.{letter_sent}
use Rattle.chord_model.specs.declared.message.Message.TheVariants.{Ask as AskMessage, Told as ToldMessage, Note as NoteMessage}
use Rattle.chord_model.specs.World.{World, caller_at, put_caller, with_one, WasSent}
use Rattle.chord_map.proofs.HistoryLemmas.{once_pushed}
use Rattle.chord_map.specs.declared.done.Done.{Done}
use Rattle.chord_map.specs.History.{done_at, StandsIn}
use Rattle.chord_model.proofs.Numbered.{callers_by}

-- a property of each message holds with one more, if there is one
pub each_with_one : {A : Type 0} (P : A → Type 0) (xs : List A) (o : Option A) → Each P xs → ((x : A) → o ≡ Some x → P x) → Each P (with_one xs o)
each_with_one P xs None each one x h = each x h
each_with_one P xs (Some y) each one x h = ⊎_elim (λ a. each x a) (λ e. subst P e (one y refl)) (has_pushed xs y x h)

-- one event of one caller
pub caller_event : (old : World) (good : Good old) (number : ℕ) (caller after : Caller) (sent : Option Message)
    → caller_at number old.callers ≡ Some caller → Grown caller after → CallerGood old.history after
    → ((message : Message) → sent ≡ Some message → MessageGood (put_caller after old.callers) old.history message)
    → Good (record old { callers = put_caller after old.callers; sent = with_one old.sent sent })
caller_event old good number caller after sent here grown after_good sent_good =
    let at : caller_at after.number old.callers ≡ Some caller =
    ap (λ n. caller_at n old.callers) (grown.number ∙ callers_by.number number old.callers caller here) ∙ here in
    let all = all_grown_put after old.callers caller at grown in
    good_of_grown old good (put_caller after old.callers) (with_one old.sent sent) all
    (λ other h. ⊎_elim (λ there. good.callers other there) (λ is. subst (CallerGood old.history) is after_good) (callers_by.has_put after old.callers other h))
    (each_with_one (MessageGood (put_caller after old.callers) old.history) old.sent sent
    (λ message h. message_grown old.callers (put_caller after old.callers) old.history old.history all (λ done stands. stands) message (good.messages message h)) sent_good)

-- a caller that does not change
pub caller_stays : (old : World) (good : Good old) (number : ℕ) (caller : Caller) (sent : Option Message) → caller_at number old.callers ≡ Some caller
    → ((message : Message) → sent ≡ Some message → MessageGood (put_caller caller old.callers) old.history message)
    → Good (record old { callers = put_caller caller old.callers; sent = with_one old.sent sent })
caller_stays old good number caller sent here sent_good =
    caller_event old good number caller caller sent here (grown_itself caller) (good.callers caller (callers_by.has number old.callers caller here)) sent_good

-- the submissions with one more

got_pushed : {A : Type 0} (xs : List A) (y : A) (place : ℕ) (x : A) → slice_get (xs ++ y ∷ []) place ≡ Some x → (slice_get xs place ≡ Some x) ⊎ (y ≡ x)
got_pushed [] y zero x e = inr (same_Some y x e)
got_pushed [] y (suc place) x e = absurd (none-some x e)
got_pushed (z ∷ xs) y zero x e = inl e
got_pushed (z ∷ xs) y (suc place) x e = got_pushed xs y place x e

pub submission_pushed : (submitted : List Submission) (last : Submission) (place : ℕ) (submission : Submission)
    → submission_at place (submitted ++ last ∷ []) ≡ Some submission → (submission_at place submitted ≡ Some submission) ⊎ (last ≡ submission)
submission_pushed submitted last zero submission e = absurd (none-some submission e)
submission_pushed submitted last (suc place) submission e = got_pushed submitted last place submission e

number_got : {A : Type 0} (xs : List A) (y : A) (place : ℕ) (x : A) → slice_get (xs ++ y ∷ []) place ≡ Some x → (slice_get xs place ≡ Some x) ⊎ (place ≡ length xs)
number_got [] y zero x e = inr refl
number_got [] y (suc place) x e = absurd (none-some x e)
number_got (z ∷ xs) y zero x e = inl e
number_got (z ∷ xs) y (suc place) x e = ⊎_elim (λ there. inl there) (λ at. inr (ap suc at)) (number_got xs y place x e)

number_pushed : (submitted : List Submission) (last : Submission) (place : ℕ) (submission : Submission)
    → submission_at place (submitted ++ last ∷ []) ≡ Some submission → (submission_at place submitted ≡ Some submission) ⊎ (place ≡ length submitted + 1)
number_pushed submitted last zero submission e = absurd (none-some submission e)
number_pushed submitted last (suc place) submission e = ⊎_elim (λ there. inl there) (λ at. inr (omega arith)) (number_got submitted last place submission e)

-- a pending call is above the floor
pending_above : (caller : Caller) (place : ℕ) (submission : Submission) → submission_at place caller.submitted ≡ Some submission → is_settled caller place ≡ false
    → floor_of caller < place
pending_above caller zero submission is pending = absurd (none-some submission is)
pending_above caller (suc place) submission is pending =
    ⊎_elim (λ above. above) (λ low. not_both (is_settled caller (suc place)) (floor_settled caller (suc place) (omega arith) low) pending) (cases_lt (floor_of caller) (suc place))

got_last : {A : Type 0} (xs : List A) (y : A) → slice_get (xs ++ y ∷ []) (length xs) ≡ Some y
got_last [] y = refl
got_last (z ∷ xs) y = got_last xs y

submission_last : (submitted : List Submission) (last : Submission) → submission_at (length submitted + 1) (submitted ++ last ∷ []) ≡ Some last
submission_last submitted last = rw add-one (got_last submitted last)

-- a reply that is taken
pub record IsFresh (caller : Caller) (told : Told) (request : Request) : Type 0 where
  pub submission : Submission
  pub is_caller : told.caller ≡ caller.number
  pub is_new : is_settled caller told.number ≡ false
  pub is_submission : submission_at told.number caller.submitted ≡ Some submission
  pub is_request : submission.request ≡ request
  pub kind : fits told.reply submission.request ≡ true

fitting_parts : (reply : Reply) (o : Option Submission) (request : Request) → request_for_reply reply o ≡ Some request
    → (submission : Submission) × (o ≡ Some submission) × (submission.request ≡ request) × (fits reply submission.request ≡ true)
fitting_parts reply None request e = absurd (none-some request e)
fitting_parts reply (Some submission) request e =
    by_test (fits reply submission.request)
    (λ t. (submission, refl, same_Some submission.request request (sym (cond-true (fits reply submission.request) (Some submission.request) None t) ∙ e), t))
    (λ f. absurd (none-some request (sym (cond-false (fits reply submission.request) (Some submission.request) None f) ∙ e)))

pub fresh_parts : (caller : Caller) (told : Told) (request : Request) → fresh_for told caller ≡ Some request → IsFresh caller told request
unfolding fresh_for
fresh_parts caller told request e =
    let test : Bool = eqb told.caller caller.number && not (is_settled caller told.number) in
    let found : Option Request = request_for_reply told.reply (submission_at told.number caller.submitted) in
    by_test test
    (λ t.
    let tests = and_parts (eqb told.caller caller.number) (not (is_settled caller told.number)) t in
    let parts = fitting_parts told.reply (submission_at told.number caller.submitted) request (sym (cond-true test found None t) ∙ e) in
    record {
      submission = parts.0;
      is_caller = eqb-true told.caller caller.number tests.0;
      is_new = not-true (is_settled caller told.number) tests.1;
      is_submission = parts.1;
      is_request = parts.2;
      kind = parts.3;
    })
    (λ f. absurd (none-some request (sym (cond-false test found None f) ∙ e)))

none_is : {A : Type 0} (o : Option A) → is_some o ≡ false → o ≡ None
none_is None e = refl
none_is (Some x) e = absurd (cc)

pub not_taken_is : (caller : Caller) (place : ℕ) → is_taken caller place ≡ false → done_at caller.number place caller.mine ≡ None
unfolding is_taken
not_taken_is caller place e = none_is (done_at caller.number place caller.mine) e

-- a number among others still is with one more
pub among_with : (asked number : ℕ) (numbers : List ℕ) → is_among asked numbers ≡ true → is_among asked (with_number number numbers) ≡ true
among_with asked number numbers e = among_more asked number numbers ∙ or_right (eqb number asked) (is_among asked numbers) e

-- a number that was given up is not settled by a fresh reply
unsettled_apart : (caller : Caller) (place : ℕ) → is_settled caller place ≡ false → is_among place caller.given_up ≡ false
unfolding is_settled
unsettled_apart caller place e = (or_parts (is_taken caller place) (is_among place caller.given_up) e).1

apart_taken : (caller : Caller) (told : Told) (request : Request) → ((place : ℕ) → is_among place caller.given_up ≡ true → is_taken caller place ≡ false)
    → is_settled caller told.number ≡ false → (place : ℕ) → is_among place caller.given_up ≡ true → is_taken (with_reply told request caller) place ≡ false
apart_taken caller told request apart fresh place given =
    let other : told.number ≢ place = λ same. true≢false (sym given ∙ ap (λ n. is_among n caller.given_up) (sym same) ∙ unsettled_apart caller told.number fresh) in
    taken_after told request caller place
    ∙ or_from (is_taken caller place) (eqb told.caller caller.number && eqb told.number place) (apart place given)
    (and_right (eqb told.caller caller.number) (eqb told.number place) (ne_eqb told.number place other))

-- nor is one that is given up taken
apart_given : (caller : Caller) (given : ℕ) → ((place : ℕ) → is_among place caller.given_up ≡ true → is_taken caller place ≡ false)
    → is_settled caller given ≡ false → (place : ℕ) → is_among place (with_number given caller.given_up) ≡ true → is_taken caller place ≡ false
apart_given caller given apart pending place e =
    ⊎_elim
    (λ here. ap (is_taken caller) (sym (eqb-true given place here)) ∙ unsettled_untaken caller given pending)
    (λ there. apart place there)
    (or_cases (eqb given place) (is_among place caller.given_up) (sym (among_more place given caller.given_up) ∙ e))

own_grown : (old new : Caller) → Grown old new → (done : Done) → IsOwn old done → IsOwn new done
own_grown old new grown done own = record {
  submission = own.submission;
  is_caller = own.is_caller ∙ sym grown.number;
  is_submission = submission_grown old new grown done.number own.submission own.is_submission;
  is_request = own.is_request;
}

-- each kind of step

module _ (old : World) (good : Good old) (number : ℕ) (caller : Caller) (here : caller_at number old.callers ≡ Some caller) where
  before_good : CallerGood old.history caller
  before_good = good.callers caller (callers_by.has number old.callers caller here)

  itself : caller_at caller.number old.callers ≡ Some caller
  itself = ap (λ n. caller_at n old.callers) (callers_by.number number old.callers caller here) ∙ here

  -- the ask of a submitted request
  ask_good : (after : Caller) → Grown caller after → (place : ℕ) (submission : Submission) → submission_at place after.submitted ≡ Some submission
      → (ask : Ask) → IsSentNow caller place submission.request ask → AskGood (put_caller after old.callers) ask
  ask_good after grown place submission is ask sent =
      let at : caller_at after.number old.callers ≡ Some caller = ap (λ n. caller_at n old.callers) grown.number ∙ itself in
      let put : caller_at caller.number (put_caller after old.callers) ≡ Some after =
      ap (λ n. caller_at n (put_caller after old.callers)) (sym grown.number) ∙ callers_by.put_same after old.callers caller at in
      record {
        submitted = record {
          caller = after;
          submission = submission;
          is_caller = ap (λ n. caller_at n (put_caller after old.callers)) sent.caller ∙ put;
          is_submission = ap (λ n. submission_at n after.submitted) sent.number ∙ is;
          is_request = sym sent.request;
        };
        floor = λ below low high. record {
          caller = after;
          is_caller = ap (λ n. caller_at n (put_caller after old.callers)) sent.caller ∙ put;
          settled = settled_grown caller after grown below (floor_settled caller below low (omega (arith, sent.floor)));
        };
      }

  submits : (request : Request) (ask : Ask) → next_number caller ≤ floor_of caller + caller.window → IsSentNow caller (next_number caller) request ask
      → Good (record old { callers = put_caller (with_request request caller) old.callers; sent = with_one old.sent (Some (AskMessage ask)) })
  submits request ask bound sent =
      let after : Caller = with_request request caller in
      let last : Submission = record { request = request; mine_seen = length caller.mine; told_seen = length caller.told } in
      let grown : Grown caller after = record { number = refl; window = refl; submitted = (last ∷ [], refl); mine = nothing_more caller.mine; told = nothing_more caller.told; given_up = λ place given. given } in
      caller_event old good number caller after (Some (AskMessage ask)) here grown
      (record {
        own = λ done h. own_grown caller after grown done (before_good.own done h);
        once = before_good.once;
        mine_stand = before_good.mine_stand;
        told_stand = before_good.told_stand;
        seen = λ place submission is. ⊎_elim (λ there. before_good.seen place submission there)
            (λ e. subst (λ (s : Submission). (s.mine_seen ≤ length caller.mine) × (s.told_seen ≤ length caller.told)) e (omega arith, omega arith))
            (submission_pushed caller.submitted last place submission is);
        apart = λ place given. taken_same caller after refl refl place ∙ before_good.apart place given;
        window = before_good.window;
        near = λ place submission is. ⊎_elim (λ there. omega (arith, before_good.near place submission there, floor_grown caller after grown))
            (λ at. omega (arith, floor_grown caller after grown)) (number_pushed caller.submitted last place submission is);
      })
      (λ message e. subst (MessageGood (put_caller after old.callers) old.history) (same_Some (AskMessage ask) message e)
      (ask_good after grown (next_number caller) last (submission_last caller.submitted last) ask sent))

  repeats : (place : ℕ) (submission : Submission) (ask : Ask) → submission_at place caller.submitted ≡ Some submission → IsSentNow caller place submission.request ask
      → Good (record old { callers = put_caller caller old.callers; sent = with_one old.sent (Some (AskMessage ask)) })
  repeats place submission ask is sent =
      caller_stays old good number caller (Some (AskMessage ask)) here
      (λ message e. subst (MessageGood (put_caller caller old.callers) old.history) (same_Some (AskMessage ask) message e)
      (ask_good caller (grown_itself caller) place submission is ask sent))

  nothing_sent : Good (record old { callers = put_caller caller old.callers; sent = with_one old.sent None })
  nothing_sent = caller_stays old good number caller None here (λ message e. absurd (none-some message e))

  takes : (told : Told) (request : Request) → Has old.sent (ToldMessage told) → fresh_for told caller ≡ Some request
      → Good (record old { callers = put_caller (with_reply told request caller) old.callers; sent = with_one old.sent None })
  takes told request was fresh =
      let after : Caller = with_reply told request caller in
      let last : Done = record { caller = told.caller; number = told.number; request = request; reply = told.reply } in
      let parts : IsFresh caller told request = fresh_parts caller told request fresh in
      let grown : Grown caller after = record { number = refl; window = refl; submitted = nothing_more caller.submitted; mine = (last ∷ [], refl); told = nothing_more caller.told; given_up = λ place given. given } in
      let told_good : ToldGood old.history told = good.messages (ToldMessage told) was in
      let mine : Submitted old.callers told.caller told.number request = record {
        caller = caller;
        submission = parts.submission;
        is_caller = ap (λ n. caller_at n old.callers) parts.is_caller ∙ itself;
        is_submission = parts.is_submission;
        is_request = parts.is_request;
      } in
      let same : told_good.request ≡ request =
      one_request old.callers told.caller told.number told_good.request request (good.executed _ told_good.stands).submitted mine in
      let stands : StandsIn old.history last =
      subst (λ (r : Request). StandsIn old.history (record { caller = told.caller; number = told.number; request = r; reply = told.reply })) same told_good.stands in
      let new_one : done_at told.caller told.number caller.mine ≡ None =
      ap (λ n. done_at n told.number caller.mine) parts.is_caller ∙ not_taken_is caller told.number (unsettled_untaken caller told.number parts.is_new) in
      let own : IsOwn after last = record { submission = parts.submission; is_caller = parts.is_caller; is_submission = parts.is_submission; is_request = parts.is_request } in
      caller_event old good number caller after None here grown
      (record {
        own = λ done h. ⊎_elim (λ there. own_grown caller after grown done (before_good.own done there)) (λ e. subst (IsOwn after) e own) (has_pushed caller.mine last done h);
        once = once_pushed caller.mine last before_good.once new_one;
        mine_stand = λ done h. ⊎_elim (λ there. before_good.mine_stand done there) (λ e. subst (StandsIn old.history) e stands) (has_pushed caller.mine last done h);
        told_stand = before_good.told_stand;
        seen = λ place submission is.
            let low = before_good.seen place submission is in
            (omega (arith, length-append caller.mine (last ∷ [])), low.1);
        apart = apart_taken caller told request before_good.apart parts.is_new;
        window = before_good.window;
        near = λ place submission is. omega (arith, before_good.near place submission is, floor_grown caller after grown);
      })
      (λ message e. absurd (none-some message e))

  gives_up : (given : ℕ) → is_settled caller given ≡ false → Good (record old { callers = put_caller (with_given_up given caller) old.callers; sent = with_one old.sent None })
  gives_up given pending =
      let after : Caller = with_given_up given caller in
      let grown : Grown caller after = record {
        number = refl;
        window = refl;
        submitted = nothing_more caller.submitted;
        mine = nothing_more caller.mine;
        told = nothing_more caller.told;
        given_up = λ place e. among_with place given caller.given_up e;
      } in
      caller_event old good number caller after None here grown
      (record {
        own = λ done h. own_grown caller after grown done (before_good.own done h);
        once = before_good.once;
        mine_stand = before_good.mine_stand;
        told_stand = before_good.told_stand;
        seen = before_good.seen;
        apart = λ place e. taken_same caller after refl refl place ∙ apart_given caller given before_good.apart pending place e;
        window = before_good.window;
        near = λ place submission is. omega (arith, before_good.near place submission is, floor_grown caller after grown);
      })
      (λ message e. absurd (none-some message e))

  shows : Good (record old { callers = put_caller caller old.callers; sent = with_one old.sent (Some (NoteMessage (record { caller = caller.number; done = known_calls caller }))) })
  shows =
      let note : Note = record { caller = caller.number; done = known_calls caller } in
      caller_stays old good number caller (Some (NoteMessage note)) here
      (λ message e. subst (MessageGood (put_caller caller old.callers) old.history) (same_Some (NoteMessage note) message e)
      (λ done h. ⊎_elim (λ a. before_good.mine_stand done a) (λ b. before_good.told_stand done b) (has_cases caller.mine caller.told done h)))

  meets : (note : Note) → Has old.sent (NoteMessage note)
      → Good (record old { callers = put_caller (record caller { told = caller.told ++ unknown_calls caller note.done }) old.callers; sent = with_one old.sent None })
  meets note was =
      let more : List Done = unknown_calls caller note.done in
      let after : Caller = record caller { told = caller.told ++ more } in
      let note_good : Each (StandsIn old.history) note.done = good.messages (NoteMessage note) was in
      let grown : Grown caller after = record { number = refl; window = refl; submitted = nothing_more caller.submitted; mine = nothing_more caller.mine; told = (more, refl); given_up = λ place given. given } in
      caller_event old good number caller after None here grown
      (record {
        own = λ done h. own_grown caller after grown done (before_good.own done h);
        once = before_good.once;
        mine_stand = before_good.mine_stand;
        told_stand = λ done h. ⊎_elim (λ a. before_good.told_stand done a)
            (λ b. note_good done (has_filter (λ (d : Done). not (is_some (done_at d.caller d.number (known_calls caller)))) note.done done b).0)
            (has_cases caller.told more done h);
        seen = λ place submission is.
            let low = before_good.seen place submission is in
            (low.0, omega (arith, length-append caller.told more));
        apart = λ place given. taken_same caller after refl refl place ∙ before_good.apart place given;
        window = before_good.window;
        near = λ place submission is. omega (arith, before_good.near place submission is, floor_grown caller after grown);
      })
      (λ message e. absurd (none-some message e))

-- a caller's step
pub calls_keep : (old : World) (good : Good old) (number : ℕ) (caller after : Caller) (taken sent : Option Letter) → caller_at number old.callers ≡ Some caller
    → WasSent old.sent (letter_sent taken) → CallerStep caller taken after sent
    → Good (record old { callers = put_caller after old.callers; sent = with_one old.sent (letter_sent sent) })
calls_keep old good number caller after taken sent here was (Submits request ask bound sends) = submits old good number caller here request ask bound sends
calls_keep old good number caller after taken sent here was (Repeats place submission ask is pending sends) = repeats old good number caller here place submission ask is sends
calls_keep old good number caller after taken sent here was (Takes told request fresh) =
    takes old good number caller here told request (has_contained old.sent (ToldMessage told) was) fresh
calls_keep old good number caller after taken sent here was (Gives_up place submission is pending) = gives_up old good number caller here place pending
calls_keep old good number caller after taken sent here was (Ignores told none) = nothing_sent old good number caller here
calls_keep old good number caller after taken sent here was (Hears_full other place) = nothing_sent old good number caller here
calls_keep old good number caller after taken sent here was Shows = shows old good number caller here
calls_keep old good number caller after taken sent here was (Meets note) =
    meets old good number caller here note (has_contained old.sent (NoteMessage note) was)
