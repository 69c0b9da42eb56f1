-- The invariant still holds as the callers grow and the history gets more calls.
use Rattle.std.proofs.Common.{◌≡◌, true, inl, inr, ⊎_elim, refl, sym, ◌∙◌, ap, ap₂, subst, List, [], ◌∷◌, take, Some, None, All}
use Rattle.std.proofs.lemmas.Bool.{cond-true, cond-false}
use Rattle.std.proofs.lemmas.Option.{same_Some}
use Rattle.chord_caller.specs.declared.ask.Ask.{Ask}
use Rattle.chord_caller.specs.Caller.{Submission, Caller, submission_at, seen_at}
use Rattle.chord_map.proofs.Lists.{by_test, Has, Each, has_cases, has_taken, has_right}
use Rattle.chord_model.proofs.CallerLemmas.{AllGrown, submitted_grown, settled_upto_grown, submission_grown, seen_grown}
use Rattle.chord_model.proofs.Invariant.{CallerGood, SegmentGood, AskGood, MessageGood, DoneGood, NodeGood, Good}
use Rattle.chord_model.specs.declared.message.Message.{Message}
use Rattle.chord_model.specs.declared.message.Message.TheVariants.{Ask as AskMessage, Told as ToldMessage, Full as FullMessage, Part as PartMessage, Got as GotMessage, Declined as DeclinedMessage, Note as NoteMessage}
use Rattle.chord_model.specs.Node.{Node}
use Rattle.chord_model.specs.World.{World, caller_at, InOrder}
use Rattle.chord_map.proofs.HistoryLemmas.{is_call, is_itself, done_absent, done_is}
use Rattle.chord_map.specs.declared.done.Done.{Done}
use Rattle.chord_map.specs.History.{done_at, EachOnce, StandsIn}
use Rattle.chord_segment.specs.Segment.{Segment}
use Rattle.chord_model.proofs.Numbered.{callers_by}

abbrev pub HistoryGrown : List Done → List Done → Type 0
HistoryGrown old new = (done : Done) → StandsIn old done → StandsIn new done

module _ (callers more_callers : List Caller) (history more_history : List Done) (grown : AllGrown callers more_callers) (longer : HistoryGrown history more_history) where
  pub segment_grown : (segment : Segment) → SegmentGood callers history segment → SegmentGood more_callers more_history segment
  segment_grown segment good = record {
    floors = λ mark h. settled_upto_grown callers more_callers grown mark.owner mark.number (good.floors mark h);
    kept = λ done h. longer done (good.kept done h);
    near = good.near;
  }

  pub ask_grown : (ask : Ask) → AskGood callers ask → AskGood more_callers ask
  ask_grown ask good = record {
    submitted = submitted_grown callers more_callers grown ask.caller ask.number ask.request good.submitted;
    floor = settled_upto_grown callers more_callers grown ask.caller ask.floor good.floor;
  }

  pub message_grown : (message : Message) → MessageGood callers history message → MessageGood more_callers more_history message
  message_grown (AskMessage ask) good = ask_grown ask good
  message_grown (ToldMessage told) good = record { request = good.request; stands = longer _ good.stands }
  message_grown (FullMessage caller number) good = tt
  message_grown (PartMessage part) good = λ segment e. segment_grown segment (good segment e)
  message_grown (GotMessage ticket) good = tt
  message_grown (DeclinedMessage ticket) good = tt
  message_grown (NoteMessage note) good = λ done h. longer done (good done h)

  pub done_grown : (done : Done) → DoneGood callers done → DoneGood more_callers done
  done_grown done good = record { submitted = submitted_grown callers more_callers grown done.caller done.number done.request good.submitted; kind = good.kind }

  pub node_grown : (node : Node) → NodeGood callers history node → NodeGood more_callers more_history node
  node_grown node good = record {
    rising = good.rising;
    held = λ segment h. segment_grown segment (good.held segment h);
    outbox = λ item h. segment_grown item.segment (good.outbox item h);
    outbox_rising = good.outbox_rising;
  }

  pub caller_longer : (caller : Caller) → CallerGood history caller → CallerGood more_history caller
  caller_longer caller good = record {
    own = good.own;
    once = good.once;
    mine_stand = λ done h. longer done (good.mine_stand done h);
    told_stand = λ done h. longer done (good.told_stand done h);
    seen = good.seen;
    apart = good.apart;
    window = good.window;
    near = good.near;
  }

-- in a list with each call once, each of its calls is found in it
pub once_stands : (dones : List Done) (done : Done) → EachOnce dones → Has dones done → StandsIn dones done
unfolding done_at
once_stands [] done once h = absurd h
once_stands (first ∷ rest) done once (inl same) =
    cond-true (is_call done.caller done.number first) (Some first) (done_at done.caller done.number rest) (subst (λ (d : Done). is_call d.caller d.number first ≡ true) same (is_itself first)) ∙ ap Some same
once_stands (first ∷ rest) done once (inr h) =
    by_test (is_call done.caller done.number first)
    (λ t.
    let e : done_at done.caller done.number (first ∷ []) ≡ Some first = cond-true (is_call done.caller done.number first) (Some first) None t in
    let r = done_is done.caller done.number (first ∷ []) first e in
    absurd (done_absent first.caller first.number rest done once.0 h (sym r.0) (sym r.1)))
    (λ f. cond-false (is_call done.caller done.number first) (Some first) (done_at done.caller done.number rest) f ∙ once_stands rest done once.1 h)

-- all that a caller has seen is in the history
pub seen_stands : (history : List Done) (caller : Caller) (submission : Submission) → CallerGood history caller → Each (StandsIn history) (seen_at caller submission)
seen_stands history caller submission good done h =
    ⊎_elim (λ a. good.mine_stand done (has_taken submission.mine_seen caller.mine done a)) (λ b. good.told_stand done (has_taken submission.told_seen caller.told done b))
    (has_cases (take submission.mine_seen caller.mine) (take submission.told_seen caller.told) done h)

-- the order stays as the callers grow
pub ordered_grown : (old new : World) → Good old → new.history ≡ old.history → AllGrown old.callers new.callers → InOrder new
ordered_grown old new good same grown caller number submission before behind done is_caller is_submission split c n =
    let there : Has old.history done = subst (λ ds. Has ds done) (sym split ∙ same) (has_right before (done ∷ behind) done (inl refl)) in
    let stands : StandsIn old.history done = once_stands old.history done good.legal.once there in
    let from = good.executed done stands in
    let s = from.submitted in
    let r = grown done.caller s.caller s.is_caller in
    let is : r.0 ≡ caller = same_Some r.0 caller (sym r.1 ∙ ap (λ k. caller_at k new.callers) c ∙ is_caller) in
    let there_too : submission_at done.number (r.0).submitted ≡ Some s.submission = submission_grown s.caller r.0 r.2 done.number s.submission s.is_submission in
    let which : s.submission ≡ submission =
    same_Some s.submission submission (sym there_too ∙ ap₂ (λ k (q : Caller). submission_at k q.submitted) n is ∙ is_submission) in
    let caller_good : CallerGood old.history s.caller = good.callers s.caller (callers_by.has done.caller old.callers s.caller s.is_caller) in
    let seen = caller_good.seen done.number s.submission s.is_submission in
    let e : seen_at caller submission ≡ seen_at s.caller s.submission =
    ap₂ seen_at (sym is) (sym which) ∙ seen_grown s.caller r.0 r.2 s.submission seen.0 seen.1 in
    let own_number : s.caller.number ≡ done.caller = callers_by.number done.caller old.callers s.caller s.is_caller in
    subst (λ ds. All (StandsIn before) ds) (sym e)
    (good.in_order s.caller done.number s.submission before behind done
    (ap (λ k. caller_at k old.callers) own_number ∙ s.is_caller) s.is_submission (sym same ∙ split) (sym own_number) refl)

-- more callers, or callers that have grown, and messages
pub good_of_grown : (old : World) → Good old → (callers : List Caller) (sent : List Message) → AllGrown old.callers callers → Each (CallerGood old.history) callers
    → Each (MessageGood callers old.history) sent → Good (record old { callers = callers; sent = sent })
good_of_grown old good callers sent all each messages = record {
  callers = each;
  messages = messages;
  executed = λ done stands. done_grown old.callers callers old.history old.history all (λ done stands. stands) done (good.executed done stands);
  legal = good.legal;
  in_order = ordered_grown old (record old { callers = callers; sent = sent }) good refl all;
  nodes = λ node h. node_grown old.callers callers old.history old.history all (λ done stands. stands) node (good.nodes node h);
  held = good.held;
  under_way = good.under_way;
  unbegun = good.unbegun;
}
