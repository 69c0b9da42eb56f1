-- What follows from the invariant of a world.
use Rattle.std.proofs.Common.{◌≡◌, ℕ, ◌+◌, ◌<◌, ◌≤◌, true, not, ◌&&◌, eqb, ⊎_elim, sym, ◌∙◌, ap, arith, List, [], Some, None, Contains, ap₂, subst}
use Rattle.std.proofs.lemmas.Bool.{and_from, eq-eqb, cond-true, cases_Bool, not_from_false}
use Rattle.std.proofs.lemmas.Option.{none-some, same_Some}
use Rattle.chord_ident.proofs.Digest.{key_id-below}
use Rattle.chord_caller.specs.declared.told.Told.{Told}
use Rattle.chord_caller.specs.Caller.{Caller, Submission, submission_at, is_settled, request_for_reply, fresh_for}
use Rattle.chord_ident.specs.Circle.{in_span}
use Rattle.chord_map.proofs.Lists.{Has, all_each, has_contained, by_option, has_got}
use Rattle.chord_map.proofs.MapLemmas.{RisingPairs, pair_of, values_same}
use Rattle.chord_map.specs.declared.pair.Pair.{Pair}
use Rattle.chord_map.specs.Map.{fits, key_of}
use Rattle.chord_model.proofs.Clash.{placed_reached}
use Rattle.chord_model.proofs.HolderTie.{every_has, holder_facts}
use Rattle.chord_model.proofs.Invariant.{HasSettled, SettledUpto, SegmentGood, ToldGood, NodeGood, Current, Good, HolderFacts, CallerGood}
use Rattle.chord_model.proofs.Main.{reached_good}
use Rattle.chord_model.proofs.Placed.{KeptInside}
use Rattle.chord_model.specs.Headline.{Holds, Appears, OneHistory, KeepNoneTwice, request_with, submitted_by, was_settled, answers}
use Rattle.chord_model.specs.Headline.Appears.{Held, Kept_for, Sent}
use Rattle.chord_model.specs.Headline.Holds.{ByNode, ByHandover}
use Rattle.chord_model.specs.declared.message.Message.TheVariants.{Note as NoteMessage, Told as ToldMessage, Part as PartMessage}
use Rattle.chord_model.specs.Node.{Node}
use Rattle.chord_model.specs.World.{World, Reached, node_at, caller_at}
use Rattle.chord_map.proofs.HistoryLemmas.{done_is, kept_found, rises_replay}
use Rattle.chord_segment.proofs.SegmentLemmas.{mark_each}
use Rattle.chord_segment.specs.Marks.{mark_of}
use Rattle.chord_map.specs.declared.done.Done.{Done}
use Rattle.chord_map.specs.History.{replay, StandsIn, done_at}
use Rattle.chord_segment.specs.Segment.{id_of, Segment}
use Rattle.chord_model.proofs.Numbered.{callers_by, nodes_by}

-- the call of a fitting reply that is not fresh was settled before
fresh_none : (caller : Caller) (told : Told) (submission : Submission) → told.caller ≡ caller.number → submission_at told.number caller.submitted ≡ Some submission
    → fits told.reply submission.request ≡ true → fresh_for told caller ≡ None → is_settled caller told.number ≡ true
unfolding fresh_for
fresh_none caller told submission own is kind none =
    ⊎_elim (λ t. t)
    (λ f.
    let test : (eqb told.caller caller.number && not (is_settled caller told.number)) ≡ true =
    and_from (eqb told.caller caller.number) (not (is_settled caller told.number)) (eq-eqb told.caller caller.number own) (not_from_false (is_settled caller told.number) f) in
    let fit : request_for_reply told.reply (submission_at told.number caller.submitted) ≡ Some submission.request =
    ap (request_for_reply told.reply) is ∙ cond-true (fits told.reply submission.request) (Some submission.request) None kind in
    absurd (none-some submission.request
    (sym none ∙ cond-true (eqb told.caller caller.number && not (is_settled caller told.number)) (request_for_reply told.reply (submission_at told.number caller.submitted)) None test ∙ fit)))
    (cases_Bool (is_settled caller told.number))

module _ (world : World) (good : Good world) where
  node_good : (number : ℕ) (node : Node) → node_at number world.nodes ≡ Some node → NodeGood world.callers world.history node
  node_good number node here = good.nodes node (nodes_by.has number world.nodes node here)

  -- what follows for a held segment
  record HeldGood (segment : Segment) (pairs : List Pair) : Type 0 where
    current : Current world.history segment pairs
    rising : RisingPairs pairs
    segment_good : SegmentGood world.callers world.history segment

  held_good : (segment : Segment) (pairs : List Pair) → Holds world.nodes segment pairs → HeldGood segment pairs
  held_good part pairs (ByNode number node segment here there) =
      let h : Has node.held segment = has_contained node.held segment there in
      let all = node_good number node here in
      record { current = good.held number node segment here h; rising = all.rising; segment_good = all.held segment h }
  held_good part pairs (ByHandover number node item here there late) =
      let h : Has node.outbox item = has_contained node.outbox item there in
      let all = node_good number node here in
      record { current = good.under_way number node item here h late; rising = all.outbox_rising item h; segment_good = all.outbox item h }

  appears_good : (segment : Segment) → Appears world segment → SegmentGood world.callers world.history segment
  appears_good part (Held number node segment here there) = (node_good number node here).held segment (has_contained node.held segment there)
  appears_good part (Kept_for number node item here there) = (node_good number node here).outbox item (has_contained node.outbox item there)
  appears_good one (Sent part segment was is) = good.messages (PartMessage part) (has_contained world.sent (PartMessage part) was) segment is

  made : (done : Done) → StandsIn world.history done → submitted_by (caller_at done.caller world.callers) done.number ≡ Some done.request
  made done stands =
      let s = (good.executed done stands).submitted in
      ap (λ o. submitted_by o done.number) s.is_caller ∙ ap request_with s.is_submission ∙ ap Some s.is_request

  owed : (told : Told) → Contains world.sent (ToldMessage told) → answers told.reply (submitted_by (caller_at told.caller world.callers) told.number) ≡ true
  owed told was =
      let told_good : ToldGood world.history told = good.messages (ToldMessage told) (has_contained world.sent (ToldMessage told) was) in
      ap (answers told.reply) (made _ told_good.stands) ∙ (good.executed _ told_good.stands).kind

  stale : (told : Told) (caller : Caller) → Contains world.sent (ToldMessage told) → caller_at told.caller world.callers ≡ Some caller
      → fresh_for told caller ≡ None → is_settled caller told.number ≡ true
  stale told caller was here none =
      let told_good : ToldGood world.history told = good.messages (ToldMessage told) (has_contained world.sent (ToldMessage told) was) in
      let done_good = good.executed _ told_good.stands in
      let s = done_good.submitted in
      let same : s.caller ≡ caller = same_Some s.caller caller (sym s.is_caller ∙ here) in
      fresh_none caller told s.submission (sym (callers_by.number told.caller world.callers caller here)) (ap (λ (c : Caller). submission_at told.number c.submitted) (sym same) ∙ s.is_submission)
      (ap (fits told.reply) s.is_request ∙ done_good.kind) none

  pub history_of : OneHistory world
  history_of = record {
    legal = good.legal;
    made = made;
    mine = λ number caller here.
        let good_one : CallerGood world.history caller = good.callers caller (callers_by.has number world.callers caller here) in
        all_each (λ done. (done.caller ≡ number) × StandsIn world.history done) caller.mine
        (λ done h. ((good_one.own done h).is_caller ∙ callers_by.number number world.callers caller here, good_one.mine_stand done h));
    noted = λ note was. all_each (StandsIn world.history) note.done (good.messages (NoteMessage note) (has_contained world.sent (NoteMessage note) was));
    told = λ number caller here. all_each (StandsIn world.history) caller.told (good.callers caller (callers_by.has number world.callers caller here)).told_stand;
    given_up = λ number caller place here given. (good.callers caller (callers_by.has number world.callers caller here)).apart place given;
    once = λ number caller here. (good.callers caller (callers_by.has number world.callers caller here)).once;
    in_order = good.in_order;
    owed = owed;
    stale = stale;
    values = λ segment pairs key holds inside.
        let g = held_good segment pairs holds in
        values_same key pairs (replay [] world.history) g.rising (rises_replay [] world.history tt) (λ value. g.current.content (pair_of key value) inside);
    kept = λ segment pairs done holds stands inside above.
        let g = held_good segment pairs holds in
        ⊎_elim (λ low. absurd (omega arith)) (λ h. kept_found world.history segment.kept done g.segment_good.kept stands h) (g.current.covered done stands inside);
    stands = λ segment appears. all_each (StandsIn world.history) segment.kept (appears_good segment appears).kept;
    near = λ segment appears. all_each (λ (done : Done). (mark_of done.caller segment.floors < done.number) × (done.number ≤ mark_of done.caller segment.floors + 16)) segment.kept
        (λ done h. let n = (appears_good segment appears).near done h in (n.above, n.near));
    floors = λ segment number place appears low high.
        let t : HasSettled world.callers number place =
        mark_each (SettledUpto world.callers) number segment.floors (λ other above below. absurd (omega arith)) (appears_good segment appears).floors place low high in
        ap (λ o. was_settled o place) t.is_caller ∙ t.settled;
  }

-- the headline, if no reachable world holds an identifier twice
pub history_from : ((world : World) → Reached world → HolderFacts world) → (world : World) → Reached world → OneHistory world
history_from facts world reached = history_of world (reached_good facts world reached)

-- every reachable world
pub one_history : (world : World) → Reached world → OneHistory world
one_history world reached = history_from holder_facts world reached

-- no call is kept in two of a node's segments
pub none_twice : (world : World) → Reached world → (number : ℕ) (node : Node) → node_at number world.nodes ≡ Some node → KeepNoneTwice node.held
none_twice world reached number node here place other segment more caller k done got got_other apart kept =
    by_option (done_at caller k more.kept) (λ none. none)
    (λ also there.
    let good : Good world = reached_good holder_facts world reached in
    let all : NodeGood world.callers world.history node = good.nodes node (nodes_by.has number world.nodes node here) in
    let h : Has node.held segment = has_got node.held place segment got in
    let g : Has node.held more = has_got node.held other more got_other in
    let is = done_is caller k segment.kept done kept in
    let is_also = done_is caller k more.kept also there in
    let stands : StandsIn world.history done = (all.held segment h).kept done is.2 in
    let stands_also : StandsIn world.history also = (all.held more g).kept also is_also.2 in
    let same : done ≡ also =
    same_Some done also (sym stands ∙ ap₂ (λ c n. done_at c n world.history) (is.0 ∙ sym is_also.0) (is.1 ∙ sym is_also.1) ∙ stands_also) in
    let placed = (placed_reached world reached number node here).kept in
    let inside : in_span segment.span (id_of done.request) ≡ true =
    every_has (λ (d : Done). in_span segment.span (id_of d.request) ≡ true) segment.kept done (every_has KeptInside node.held segment placed h) is.2 in
    let inside_also : in_span more.span (id_of also.request) ≡ true =
    every_has (λ (d : Done). in_span more.span (id_of d.request) ≡ true) more.kept also (every_has KeptInside node.held more placed g) is_also.2 in
    absurd (apart ((holder_facts world reached).apart_at_node number node place other segment more (id_of done.request) here got got_other
    (key_id-below (key_of done.request)) inside (subst (λ (d : Done). in_span more.span (id_of d.request) ≡ true) (sym same) inside_also))))
