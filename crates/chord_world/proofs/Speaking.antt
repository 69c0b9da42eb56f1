-- Callers that send a request again or give one up, send a note or meet one.
use Rattle.std.proofs.Common.{◌≡◌, ℕ, ◌<◌, Option, None, Some, Result, Ok, Err, List, [], ◌∷◌, ◌++◌, length, true, set, get_or, refl, sym, ◌∙◌, ap, subst, arith}
use Rattle.std.specs.Prelude.{slice_get, slice_set, Contains, OnOk, OnErr, IsErrAnd}
use Rattle.std.specs.declared.alloc.AllocError.{AllocError}
use Rattle.std.proofs.lemmas.Option.{slice_get_within, same_Some}
use Rattle.std.proofs.lemmas.List.{length-set}
use Rattle.chord_caller.specs.declared.ask.Ask.{Ask}
use Rattle.chord_caller.specs.Caller.{Note, Caller, CallerStep, Letter, unknown_calls, with_given_up}
use Rattle.chord_caller.specs.Caller.Letter.{AskLetter, NoteLetter}
use Rattle.chord_caller.specs.Caller.CallerStep.{Meets}
use Rattle.chord_caller.specs.declared.fault.ResendFault.TheVariants.{Idle}
use Rattle.chord_caller.specs.Answers.{ResendIs, is_pending}
use Rattle.chord_caller.proofs.Steps.{resend_steps, give_up_steps}
use Rattle.chord_model.specs.Letters.{message_of}
use Rattle.chord_model.specs.declared.message.Message.{Message}
use Rattle.chord_model.specs.declared.message.Message.TheVariants.{Ask as AskMessage, Note as NoteMessage}
use Rattle.chord_model.specs.World.{WorldStep, caller_at, put_caller}
use Rattle.chord_model.specs.World.WorldStep.{Calls}
use Rattle.chord_world.specs.declared.outcome.Outcome.{Outcome}
use Rattle.chord_world.specs.declared.refusal.Refusal.{Refusal}
use Rattle.chord_world.specs.declared.refusal.Refusal.TheVariants as refused
use Rattle.chord_world.specs.State.{WorldState, CallersFrom, IsKnown, AreKnown, IsAimed, IsWorld, IsThere, with_heard, with_sent}
use Rattle.chord_world.specs.Calling.CannotAskAgain.{Is_idle, No_memory}
use Rattle.chord_world.specs.Calling.{CallerIs, WantedIs, IsIdle, IsWaiting, AsksAgain, CannotAskAgain, AgainIs, SendsAgain, ResendStepIs, GivesUp, MayGiveUp, CanGiveUp, GaveUp, note_of, SendsNote, with_note, MeetsNote, MeetIs, SentIs, Met, MeetsAt}
use Rattle.chord_world.specs.Calling.IsIdle.{Not_pending}
use Rattle.chord_world.proofs.Placing.{callers_by, calls_pushed, aimed_pushed}
use Rattle.chord_world.proofs.Keeping.{further}
use Rattle.chord_world.proofs.Posting.{got, set_same, posted, caller_stands}

-- ---- a caller that sends and is as it was

put_here : (place : ℕ) (core : Caller) (callers : List Caller) → CallersFrom 0 callers → slice_get callers place ≡ Some core → put_caller core callers ≡ callers
put_here place core callers numbered here = callers_by.put_is 0 place core callers numbered (callers_by.number 0 place core callers numbered here) ∙ set_same callers place core here

pub sent_step : (place : ℕ) (to : Option ℕ) (core : Caller) (letter : Letter) (view : WorldState) → IsWorld view → slice_get view.world.callers place ≡ Some core → CallerStep core None core (Some letter)
    → WorldStep view.world (with_sent (message_of letter) to view).world
sent_step place to core letter view kept here step =
    subst (λ (callers : List Caller). WorldStep view.world (record view.world { callers = callers; sent = view.world.sent ++ message_of letter ∷ [] })) (put_here place core view.world.callers kept.callers here)
    (Calls place core core None (Some letter) (callers_by.found 0 place place view.world.callers kept.callers (omega arith) ∙ here) tt step)

pub sent_is_world : (place : ℕ) (to : Option ℕ) (core : Caller) (letter : Letter) (view : WorldState) → IsWorld view → slice_get view.world.callers place ≡ Some core → CallerStep core None core (Some letter)
    → IsKnown (length view.world.nodes) (length view.world.callers) (message_of letter) → IsAimed (message_of letter) to → IsWorld (with_sent (message_of letter) to view)
sent_is_world place to core letter view kept here step call aim = record {
  reached = further view.world (with_sent (message_of letter) to view).world kept.reached (sent_step place to core letter view kept here step);
  nodes = kept.nodes;
  callers = kept.callers;
  targets = aimed_pushed view.world.sent view.targets (message_of letter) to kept.targets aim;
  calls = calls_pushed (length view.world.nodes) (length view.world.callers) view.world.sent (message_of letter) kept.calls call;
  fates = kept.fates;
  crashed = kept.crashed;
  ring = kept.ring;
  low = kept.low;
  high = kept.high;
}

-- restated in the terms of the code
pub sent_now : (message : Message) (to : Option ℕ) (view : WorldState) (number : ℕ) (sent : List Message) (targets : List (Option ℕ)) → SentIs message to view.world.sent view.targets (Ok number) sent targets
    → posted view.world.callers sent targets view ≡ with_sent message to view
sent_now message to view number sent targets h = λ i. posted view.world.callers (h.1 i) (h.2 i) view

pub sent_not : (message : Message) (to : Option ℕ) (view : WorldState) (refused : AllocError) (sent : List Message) (targets : List (Option ℕ)) → SentIs message to view.world.sent view.targets (Err refused) sent targets
    → posted view.world.callers sent targets view ≡ view
sent_not message to view refused sent targets h = λ i. posted view.world.callers (h.0 i) (h.1 i) view

-- the call that is sent again is the caller's own
pub again_call : (named : Option ℕ) (place : ℕ) (core : Caller) (ask : Ask) (view : WorldState) → IsWorld view → slice_get view.world.callers place ≡ Some core → AsksAgain named core ask
    → IsKnown (length view.world.nodes) (length view.world.callers) (AskMessage ask)
again_call named place core ask view kept here asks =
    let within = slice_get_within view.world.callers place core here in
    let number = callers_by.number 0 place core view.world.callers kept.callers here in
    let own = asks.resends.3.caller in
    omega arith

pub note_call : (place : ℕ) (core : Caller) (view : WorldState) → IsWorld view → slice_get view.world.callers place ≡ Some core → IsKnown (length view.world.nodes) (length view.world.callers) (NoteMessage (note_of core))
note_call place core view kept here =
    let within = slice_get_within view.world.callers place core here in
    let number = callers_by.number 0 place core view.world.callers kept.callers here in
    omega arith

pub again_step : (named : Option ℕ) (core : Caller) (ask : Ask) → AsksAgain named core ask → CallerStep core None core (Some (AskLetter ask))
again_step named core ask asks = resend_steps asks.number core ask asks.resends

-- ---- a caller that takes something in

pub heard_is_world : (place : ℕ) (core after : Caller) (view : WorldState) → IsWorld view → slice_get view.world.callers place ≡ Some core → after.number ≡ core.number
    → WorldStep view.world (with_heard after view).world → IsWorld (with_heard after view)
heard_is_world place core after view kept here same step =
    let at = same ∙ callers_by.number 0 place core view.world.callers kept.callers here in
    let put : put_caller after view.world.callers ≡ set view.world.callers place after = callers_by.put_is 0 place after view.world.callers kept.callers at in
    let count : length (put_caller after view.world.callers) ≡ length view.world.callers = ap (λ (cs : List Caller). length cs) put ∙ length-set view.world.callers place after in
    record {
      reached = further view.world (with_heard after view).world kept.reached step;
      nodes = kept.nodes;
      callers = subst (CallersFrom 0) (sym put) (callers_by.numbered_set 0 place after view.world.callers kept.callers at);
      targets = kept.targets;
      calls = subst (λ n. AreKnown (length view.world.nodes) n view.world.sent) (sym count) kept.calls;
      fates = kept.fates;
      crashed = kept.crashed;
      ring = kept.ring;
      low = kept.low;
      high = kept.high;
    }

pub met_step : (place : ℕ) (note : Note) (core : Caller) (view : WorldState) → IsWorld view → slice_get view.world.callers place ≡ Some core → Contains view.world.sent (NoteMessage note)
    → WorldStep view.world (with_heard (with_note note core) view).world
met_step place note core view kept here sent =
    Calls place core (with_note note core) (Some (NoteLetter note)) None (callers_by.found 0 place place view.world.callers kept.callers (omega arith) ∙ here) sent (Meets note)

-- restated in the terms of the code
pub met_is : (place : ℕ) (note : Note) (view : WorldState) (callers : List Caller) → IsWorld view → (met : Met place note view.world.callers callers)
    → posted callers view.world.sent view.targets view ≡ with_heard (with_note note met.core) view
met_is place note view callers kept met =
    let at = callers_by.number 0 place met.core view.world.callers kept.callers met.here in
    let put : callers ≡ put_caller (with_note note met.core) view.world.callers = met.new_is ∙ sym (callers_by.put_is 0 place (with_note note met.core) view.world.callers kept.callers at) in
    λ i. posted (put i) view.world.sent view.targets view

-- ---- what the callers answer

pub idle_from : (named : Option ℕ) (core : Caller) (number : ℕ) → WantedIs named core (Some number) → ResendIs number core (Err Idle) → IsIdle named core
idle_from named core number wanted idle = Not_pending number wanted idle

pub meets_from : (place : ℕ) (note : Note) (old : List Caller) (core after : Caller) (result : Result (Unit {0}) AllocError) → place < length old → core ≡ get_or old place core
    → OnOk result (after ≡ record core { told = core.told ++ unknown_calls core note.done }) → OnErr result (after ≡ core) → MeetsAt place note old result (slice_set old place after)
meets_from place note old core after (Ok met) within e ok err =
    record { core = core; here = got old place core within e; new_is = ap (λ (c : Caller). set old place c) ok }
meets_from place note old core after (Err refused) within e ok err =
    ap (λ (c : Caller). set old place c) err ∙ set_same old place core (got old place core within e)

-- the caller of the code, at its index
pub caller_index : (caller : ℕ) (view old : WorldState) (core : Caller) → view ≡ old → IsWorld view → caller_at caller old.world.callers ≡ Some core → slice_get view.world.callers caller ≡ Some core
caller_index caller view old core same kept here =
    sym (callers_by.found 0 caller caller view.world.callers kept.callers (omega arith)) ∙ ap (λ (w : WorldState). caller_at caller w.world.callers) same ∙ here

pub caller_in : (caller : ℕ) (view old : WorldState) (core : Caller) → view ≡ old → IsWorld view → caller_at caller old.world.callers ≡ Some core → caller < length view.world.callers
caller_in caller view old core same kept here = slice_get_within view.world.callers caller core (caller_index caller view old core same kept here)

-- the caller that is read is the one that exists
pub there_now : (caller via : ℕ) (view old : WorldState) (core found : Caller) → view ≡ old → IsWorld view → IsThere caller via old core → slice_get view.world.callers caller ≡ Some found → IsThere caller via old found
there_now caller via view old core found same kept there here = (there.0, caller_stands caller view old found same kept here)

again_because : (caller via : ℕ) (named : Option ℕ) (old : WorldState) (core : Caller) (refusal : Refusal) → IsThere caller via old core → CannotAskAgain named core refusal
    → ResendStepIs caller via named old (Err refusal) old
again_because caller via named old core refusal there (Is_idle idle) = ((core, there, idle), refl)
again_because caller via named old core refusal there (No_memory waiting) = ((core, there, waiting), refl)

-- a request that is not sent again
pub again_refused : (caller via : ℕ) (named : Option ℕ) (old : WorldState) (core : Caller) (refusal : Refusal) (result : Result Outcome Refusal) → IsThere caller via old core
    → AgainIs named core (Err refusal) → IsErrAnd result (λ e. e ≡ refusal) → ResendStepIs caller via named old result old
again_refused caller via named old core refusal (Ok outcome) there why is = absurd is
again_refused caller via named old core refusal (Err e) there why is = subst (λ r. ResendStepIs caller via named old (Err r) old) (sym is) (again_because caller via named old core refusal there why)

-- a request that is asked again is pending
asks_pending : (named : Option ℕ) (core : Caller) (ask : Ask) → AsksAgain named core ask → IsWaiting named core
asks_pending named core ask asks = record {
  number = asks.number;
  wanted = asks.wanted;
  pending = rw (asks.resends.1, asks.resends.2) refl;
}

pub again_memory : (caller via : ℕ) (named : Option ℕ) (view old : WorldState) (core : Caller) (ask : Ask) (denied : AllocError) (sent : List Message) (targets : List (Option ℕ)) (result : Result Outcome Refusal)
    → view ≡ old → IsThere caller via old core → AsksAgain named core ask → SentIs (AskMessage ask) (Some via) view.world.sent view.targets (Err denied) sent targets
    → IsErrAnd result (λ e. e ≡ refused.Memory) → ResendStepIs caller via named old result (posted view.world.callers sent targets view)
again_memory caller via named view old core ask denied sent targets (Ok outcome) same there asks stays is = absurd is
again_memory caller via named view old core ask denied sent targets (Err e) same there asks stays is =
    subst (λ r. ResendStepIs caller via named old (Err r) (posted view.world.callers sent targets view)) (sym is)
    ((core, there, asks_pending named core ask asks), sent_not (AskMessage ask) (Some via) view denied sent targets stays ∙ same)

pub again_sends : (caller via number : ℕ) (named : Option ℕ) (view old : WorldState) (core : Caller) (ask : Ask) (sent : List Message) (targets : List (Option ℕ)) → view ≡ old → IsThere caller via old core
    → AsksAgain named core ask → SentIs (AskMessage ask) (Some via) view.world.sent view.targets (Ok number) sent targets → SendsAgain caller via named old number (posted view.world.callers sent targets view)
again_sends caller via number named view old core ask sent targets same there asks goes = record {
  core = core;
  ask = ask;
  there = there;
  asks = asks;
  numbered = goes.0 ∙ ap (λ (w : WorldState). length w.world.sent) same;
  new_is = sent_now (AskMessage ask) (Some via) view number sent targets goes ∙ ap (with_sent (AskMessage ask) (Some via)) same;
}

-- a note that is sent
pub show_sends : (caller number : ℕ) (view old : WorldState) (core : Caller) (note : Note) (sent : List Message) (targets : List (Option ℕ)) → view ≡ old → caller_at caller old.world.callers ≡ Some core
    → note ≡ note_of core → SentIs (NoteMessage note) None view.world.sent view.targets (Ok number) sent targets → SendsNote caller old number (posted view.world.callers sent targets view)
show_sends caller number view old core note sent targets same here is goes = record {
  core = core;
  here = here;
  numbered = goes.0 ∙ ap (λ (w : WorldState). length w.world.sent) same;
  new_is = sent_now (NoteMessage note) None view number sent targets goes ∙ ap (with_sent (NoteMessage note) None) same ∙ ap (λ n. with_sent (NoteMessage n) None old) is;
}

-- the note of the code is the one that was sent
pub meets_after : (caller message : ℕ) (view old : WorldState) (note : Note) (callers : List Caller) → view ≡ old → IsWorld view → slice_get view.world.sent message ≡ Some (NoteMessage note)
    → (met : Met caller note view.world.callers callers) → MeetsNote caller message old (posted callers view.world.sent view.targets view)
meets_after caller message view old note callers same kept sent met =
    subst (λ w. MeetsNote caller message w (posted callers view.world.sent view.targets view)) same
    (record {
      core = met.core;
      note = note;
      here = caller_stands caller view view met.core refl kept met.here;
      sent = sent;
      new_is = met_is caller note view callers kept met;
    })

pub meets_not : (caller message : ℕ) (view old : WorldState) (note : Note) (callers : List Caller) (result : Result Outcome Refusal) → view ≡ old → CallerIs caller old (Ok tt)
    → slice_get old.world.sent message ≡ Some (NoteMessage note) → callers ≡ view.world.callers → IsErrAnd result (λ e. e ≡ refused.Memory)
    → MeetIs caller message old result (posted callers view.world.sent view.targets view)
meets_not caller message view old note callers (Ok outcome) same there sent stays is = absurd is
meets_not caller message view old note callers (Err e) same there sent stays is =
    subst (λ r. MeetIs caller message old (Err r) (posted callers view.world.sent view.targets view)) (sym is)
    ((there, (note, sent)), ap (λ cs. posted cs view.world.sent view.targets view) stays ∙ same)

-- ---- a request that is given up

-- the caller that is read at the index has it pending
pub pending_at : (place number : ℕ) (callers : List Caller) (core : Caller) → place < length callers → core ≡ get_or callers place core → CanGiveUp place number callers → is_pending number core ≡ true
pending_at place number callers core within e can =
    let same : can.core ≡ core = same_Some can.core core (sym can.here ∙ got callers place core within e) in
    ap (is_pending number) (sym same) ∙ can.pending

pub gave_up_from : (place number : ℕ) (old : List Caller) (core after : Caller) → place < length old → core ≡ get_or old place core → CanGiveUp place number old → after ≡ with_given_up number core
    → GaveUp place number old (slice_set old place after)
gave_up_from place number old core after within e can is =
    record {
      can = record { core = core; here = got old place core within e; pending = pending_at place number old core within e can };
      new_is = ap (λ (c : Caller). set old place c) is;
    }

pub can_give_up : (caller number : ℕ) (view old : WorldState) → view ≡ old → IsWorld view → MayGiveUp caller number old (Ok tt) → CanGiveUp caller number view.world.callers
can_give_up caller number view old same kept may = record {
  core = may.0;
  here = caller_index caller view old may.0 same kept may.1;
  pending = may.2;
}

pub gave_up_step : (place number : ℕ) (view : WorldState) → IsWorld view → (can : CanGiveUp place number view.world.callers)
    → WorldStep view.world (with_heard (with_given_up number can.core) view).world
gave_up_step place number view kept can =
    Calls place can.core (with_given_up number can.core) None None (callers_by.found 0 place place view.world.callers kept.callers (omega arith) ∙ can.here) tt
    (give_up_steps number can.core (with_given_up number can.core) can.pending refl)

-- restated in the terms of the code
pub gave_up_is : (place number : ℕ) (view : WorldState) (callers : List Caller) → IsWorld view → (gone : GaveUp place number view.world.callers callers)
    → posted callers view.world.sent view.targets view ≡ with_heard (with_given_up number (gone.can).core) view
gave_up_is place number view callers kept gone =
    let core = (gone.can).core in
    let at = callers_by.number 0 place core view.world.callers kept.callers (gone.can).here in
    let put : callers ≡ put_caller (with_given_up number core) view.world.callers =
    gone.new_is ∙ sym (callers_by.put_is 0 place (with_given_up number core) view.world.callers kept.callers at) in
    λ i. posted (put i) view.world.sent view.targets view

pub gives_up_after : (caller number : ℕ) (view old : WorldState) (callers : List Caller) → view ≡ old → IsWorld view → GaveUp caller number view.world.callers callers
    → GivesUp caller number old (posted callers view.world.sent view.targets view)
gives_up_after caller number view old callers same kept gone =
    subst (λ w. GivesUp caller number w (posted callers view.world.sent view.targets view)) same
    (record {
      core = (gone.can).core;
      here = caller_stands caller view view (gone.can).core refl kept (gone.can).here;
      pending = (gone.can).pending;
      new_is = gave_up_is caller number view callers kept gone;
    })
