-- A node's step keeps the invariant: the steps that execute nothing.
use Rattle.std.proofs.Common.{◌≡◌, ◌≢◌, ℕ, ◌+◌, ◌^◌, ◌<◌, ◌≤◌, true, ◌⊎◌, inl, inr, ⊎_elim, refl, sym, ◌∙◌, ap, ap₂, subst, arith, [], ◌∷◌, ◌++◌, Option, Some, None, slice_get, slice_set, lt_of_le_of_lt}
use Rattle.std.proofs.lemmas.Option.{same_Some, none-some}
use Rattle.chord_store.proofs.Inside.{rises_inside, rises_outside}
use Rattle.chord_ident.proofs.Digest.{key_id-below}
use Rattle.chord_caller.specs.declared.ask.Ask.{Ask}
use Rattle.chord_handover.specs.declared.ticket.Ticket.{Ticket}
use Rattle.chord_handover.specs.Handover.{Handover, Part, part_at, IsWhole, ticket_of, gathered_parts, Item, item_at, handover_of}
use Rattle.chord_ident.specs.declared.id.Id.{Id}
use Rattle.chord_ident.specs.Circle.{cuts, key_id}
use Rattle.chord_map.proofs.Lists.{Has, has_pushed, has_got, has_removed, removed_apart, has_set, has_inserted}
use Rattle.chord_map.proofs.MapLemmas.{RisingPairs, rises_put}
use Rattle.chord_map.specs.Map.{put_all}
use Rattle.chord_model.proofs.CallerLemmas.{all_grown_itself}
use Rattle.chord_model.proofs.CallerSteps.{each_with_one}
use Rattle.chord_model.proofs.Contents.{before_within, behind_within, joined_cases, part_good, part_current, joined_good, joined_current, stays_current, comes_current, inside_current, outside_current}
use Rattle.chord_model.proofs.Growth.{ordered_grown}
use Rattle.chord_model.proofs.Invariant.{SegmentGood, MessageGood, NodeGood, Current, Good, HolderFacts}
use Rattle.chord_model.proofs.NodeLemmas.{put_node_cases, put_not_empty, last_at, last_grows, segment_found, item_found, without_has}
use Rattle.chord_model.specs.declared.message.Message.{Message}
use Rattle.chord_model.specs.declared.message.Message.TheVariants.{Told as ToldMessage, Part as PartMessage, Got as GotMessage, Declined as DeclinedMessage}
use Rattle.chord_model.specs.declared.phase.Phase.{Phase}
use Rattle.chord_model.specs.Node.{Node, segment_with, told_of, with_taken, with_back, item_of, without_segment, cut_held, joined_held}
use Rattle.chord_model.specs.World.{World, node_at, put_node, with_one, last_taken}
use Rattle.chord_map.proofs.HistoryLemmas.{done_is}
use Rattle.chord_segment.proofs.SegmentLemmas.{mark_grows, past_kept}
use Rattle.chord_map.specs.declared.done.Done.{Done}
use Rattle.chord_map.specs.History.{StandsIn}
use Rattle.chord_segment.specs.Marks.{mark_of}
use Rattle.chord_segment.specs.Segment.{id_of, Segment, past_at, span_before, span_behind, span_joined, part_before, part_behind, joined_segment}
use Rattle.chord_segment.specs.Segment.Past.{Kept}
use Rattle.chord_model.proofs.Numbered.{nodes_by}

-- one event of one node that executes nothing
pub node_event : (old : World) (good : Good old) (number : ℕ) (node after : Node) (sent : Option Message)
    → node_at number old.nodes ≡ Some node → after.number ≡ node.number
    → ((from : ℕ) → mark_of from node.taken ≤ mark_of from after.taken)
    → NodeGood old.callers old.history after
    → ((segment : Segment) → Has after.held segment → Current old.history segment after.entries)
    → ((item : Item) → Has after.outbox item → last_taken old.nodes item.to number < item.number → Current old.history item.segment item.pairs)
    → ((message : Message) → sent ≡ Some message → MessageGood old.callers old.history message)
    → Good (record old { nodes = put_node after old.nodes; sent = with_one old.sent sent })
node_event old good number node after sent here same grows after_good held_current outbox_current sent_good =
    let new : World = record old { nodes = put_node after old.nodes; sent = with_one old.sent sent } in
    let is_number : after.number ≡ number = same ∙ nodes_by.number number old.nodes node here in
    let at : node_at after.number old.nodes ≡ Some node = ap (λ n. node_at n old.nodes) is_number ∙ here in
    record {
      callers = good.callers;
      messages = each_with_one (MessageGood old.callers old.history) old.sent sent good.messages sent_good;
      executed = good.executed;
      legal = good.legal;
      in_order = ordered_grown old new good refl (all_grown_itself old.callers);
      nodes = λ other h. ⊎_elim (λ there. good.nodes other there) (λ e. subst (NodeGood old.callers old.history) e after_good) (nodes_by.has_put after old.nodes other h);
      held = λ place other segment e h. ⊎_elim
          (λ r. subst (λ (n : Node). Current old.history segment n.entries) r.1 (held_current segment (subst (λ (n : Node). Has n.held segment) (sym r.1) h)))
          (λ r. good.held place other segment r.1 h)
          (put_node_cases after old.nodes node place other at e);
      under_way = λ place other item e h late.
          let still : last_taken old.nodes item.to place < item.number = lt_of_le_of_lt (last_grows after old.nodes node at grows item.to place) late in
          ⊎_elim
          (λ r. outbox_current item (subst (λ (n : Node). Has n.outbox item) (sym r.1) h)
          (subst (λ n. last_taken old.nodes item.to n < item.number) (r.0 ∙ is_number) still))
          (λ r. good.under_way place other item r.1 h still)
          (put_node_cases after old.nodes node place other at e);
      unbegun = λ e. absurd (put_not_empty after old.nodes node at e);
    }

module _ (old : World) (good : Good old) (facts : HolderFacts old) (number : ℕ) (node : Node) (here : node_at number old.nodes ≡ Some node) where
  before_good : NodeGood old.callers old.history node
  before_good = good.nodes node (nodes_by.has number old.nodes node here)

  no_less : (from : ℕ) → mark_of from node.taken ≤ mark_of from node.taken
  no_less from = omega arith

  -- a node that does not change
  pub node_stays : (sent : Option Message) → ((message : Message) → sent ≡ Some message → MessageGood old.callers old.history message)
      → Good (record old { nodes = put_node node old.nodes; sent = with_one old.sent sent })
  node_stays sent sent_good =
      node_event old good number node node sent here refl no_less before_good (λ segment h. good.held number node segment here h)
      (λ item h late. good.under_way number node item here h late) sent_good

  pub nothing_sent : Good (record old { nodes = put_node node old.nodes; sent = with_one old.sent None })
  nothing_sent = node_stays None (λ message e. absurd (none-some message e))

  pub stays_and_sends : (message : Message) → MessageGood old.callers old.history message
      → Good (record old { nodes = put_node node old.nodes; sent = with_one old.sent (Some message) })
  stays_and_sends message is_good =
      node_stays (Some message) (λ other e. subst (MessageGood old.callers old.history) (same_Some message other e) is_good)

  -- only the phase or the outbox changes
  pub same_store : (after : Node) → after.number ≡ node.number → after.taken ≡ node.taken → after.held ≡ node.held → after.entries ≡ node.entries
      → ((item : Item) → Has after.outbox item → Has node.outbox item)
      → Good (record old { nodes = put_node after old.nodes; sent = with_one old.sent None })
  same_store after same_number same_taken same_held same_entries fewer =
      node_event old good number node after None here same_number (λ from. subst (λ taken. mark_of from node.taken ≤ mark_of from taken) (sym same_taken) (no_less from))
      (record {
        rising = subst RisingPairs (sym same_entries) before_good.rising;
        held = λ segment h. before_good.held segment (subst (λ ss. Has ss segment) same_held h);
        outbox = λ item h. before_good.outbox item (fewer item h);
        outbox_rising = λ item h. before_good.outbox_rising item (fewer item h);
      })
      (λ segment h. subst (Current old.history segment) (sym same_entries) (good.held number node segment here (subst (λ ss. Has ss segment) same_held h)))
      (λ item h late. good.under_way number node item here (fewer item h) late)
      (λ message e. absurd (none-some message e))

  -- a kept reply is sent again
  pub tells_again : (ask : Ask) (segment : Segment) (done : Done) → segment_with (id_of ask.request) node.held ≡ Some segment
      → past_at ask.caller ask.number segment ≡ Kept done
      → Good (record old { nodes = put_node node old.nodes; sent = with_one old.sent (Some (ToldMessage (told_of ask done.reply))) })
  tells_again ask segment done found past =
      let is = done_is ask.caller ask.number segment.kept done (past_kept ask.caller ask.number segment done past) in
      let held : Has node.held segment = (segment_found (id_of ask.request) node.held segment found).1 in
      let stands : StandsIn old.history done = (before_good.held segment held).kept done is.2 in
      let as_told : done ≡ record { caller = ask.caller; number = ask.number; request = done.request; reply = done.reply } =
      ap₂ (λ (c n : ℕ). let d : Done = record { caller = c; number = n; request = done.request; reply = done.reply } in d) is.0 is.1 in
      stays_and_sends (ToldMessage (told_of ask done.reply)) (record { request = done.request; stands = subst (StandsIn old.history) as_told stands })

  -- a held segment, or one that comes in, is current after pairs came
  received : (from : ℕ) (sender : Node) (item : Item) → node_at from old.nodes ≡ Some sender → Has sender.outbox item → last_taken old.nodes item.to from < item.number
      → (other : Segment) → Has (node.held ++ item.segment ∷ []) other → Current old.history other (put_all item.pairs node.entries)
  received from sender item there sends late other h =
      ⊎_elim
      (λ held. stays_current old.history other item.pairs node.entries
      (λ pair in_item inside. facts.apart_under_way number from node sender other item (key_id pair.key) here there held sends late (key_id-below pair.key) inside
      (facts.items_inside from sender item pair there sends in_item))
      (good.held number node other here held))
      (λ e. subst (λ s. Current old.history s (put_all item.pairs node.entries)) e
      (comes_current old.history item.segment item.pairs node.entries
      (λ pair in_entries inside.
      let r = facts.entries_held number node pair here in_entries in
      facts.apart_under_way number from node sender r.0 item (key_id pair.key) here there r.1 sends late (key_id-below pair.key) r.2 inside)
      (good.under_way from sender item there sends late)))
      (has_pushed node.held item.segment other h)

  -- the next handover is taken
  pub takes : (part : Part) (handover : Handover) → Has old.sent (PartMessage part) → IsWhole (gathered_parts part node.buffered) handover → handover.to ≡ node.number → handover.number ≡ mark_of handover.from node.taken + 1 → node.phase ≢ Phase.Gone
      → Good (record old { nodes = put_node (with_taken handover node) old.nodes; sent = with_one old.sent (Some (GotMessage (ticket_of handover))) })
  takes part handover was whole to next phase =
      let at : node_at handover.to old.nodes ≡ Some node = ap (λ n. node_at n old.nodes) (to ∙ nodes_by.number number old.nodes node here) ∙ here in
      let r = facts.next_in_outbox node part handover at was whole next phase in
      let sender : Node = r.0 in
      let item : Item = r.1 in
      let late : last_taken old.nodes item.to handover.from < item.number =
      subst (λ n. last_taken old.nodes n handover.from < item.number) (sym r.4)
      (omega (arith, last_at old.nodes handover.to handover.from node at, r.5)) in
      let given : SegmentGood old.callers old.history handover.segment =
      subst (SegmentGood old.callers old.history) r.6 ((good.nodes sender (nodes_by.has handover.from old.nodes sender r.2)).outbox item r.3) in
      node_event old good number node (with_taken handover node) (Some (GotMessage (ticket_of handover))) here refl
      (λ from. mark_grows from handover.from handover.number node.taken)
      (record {
        rising = rises_put handover.pairs node.entries before_good.rising;
        held = λ segment h. ⊎_elim (λ held. before_good.held segment held) (λ e. subst (SegmentGood old.callers old.history) e given) (has_pushed node.held handover.segment segment h);
        outbox = before_good.outbox;
        outbox_rising = before_good.outbox_rising;
      })
      (λ segment h. subst (λ pairs. Current old.history segment (put_all pairs node.entries)) r.7
      (received handover.from sender item r.2 r.3 late segment (subst (λ s. Has (node.held ++ s ∷ []) segment) (sym r.6) h)))
      (λ other h still. good.under_way number node other here h still)
      (λ message e. subst (MessageGood old.callers old.history) (same_Some (GotMessage (ticket_of handover)) message e) tt)

  -- a declined item is held again
  pub takes_back : (ticket : Ticket) (item : Item) → Has old.sent (DeclinedMessage ticket) → ticket.from ≡ node.number → item_at ticket.to ticket.number node.outbox ≡ Some item
      → Good (record old { nodes = put_node (with_back item node) old.nodes; sent = with_one old.sent None })
  takes_back ticket item was from found =
      let is = item_found ticket.to ticket.number node.outbox item found in
      let early : last_taken old.nodes ticket.to number < ticket.number =
      facts.declined_not_taken number node ticket item here was (from ∙ nodes_by.number number old.nodes node here) found in
      let late : last_taken old.nodes item.to number < item.number = subst (λ n. last_taken old.nodes n number < item.number) (sym is.0) (omega (arith, is.1)) in
      node_event old good number node (with_back item node) None here refl no_less
      (record {
        rising = rises_put item.pairs node.entries before_good.rising;
        held = λ segment h. ⊎_elim (λ held. before_good.held segment held) (λ e. subst (SegmentGood old.callers old.history) e (before_good.outbox item is.2)) (has_pushed node.held item.segment segment h);
        outbox = λ other h. before_good.outbox other (without_has item.to item.number node.outbox other h);
        outbox_rising = λ other h. before_good.outbox_rising other (without_has item.to item.number node.outbox other h);
      })
      (λ segment h. received number node item here is.2 late segment h)
      (λ other h still. good.under_way number node other here (without_has item.to item.number node.outbox other h) still)
      (λ message e. absurd (none-some message e))

  -- a held segment is cut
  pub cuts_one : (place : ℕ) (segment : Segment) (at : Id) → slice_get node.held place ≡ Some segment → at.number < 2 ^ 128 → cuts segment.span at ≡ true
      → Good (record old { nodes = put_node (record node { held = cut_held place segment at node.held }) old.nodes; sent = with_one old.sent None })
  cuts_one place segment at got at_in cut =
      let held : Has node.held segment = has_got node.held place segment got in
      let ends = facts.spans_bounded number node segment here held in
      let after : Node = record node { held = cut_held place segment at node.held } in
      let cases : (other : Segment) → Has after.held other → Has node.held other ⊎ ((part_before at segment ≡ other) ⊎ (part_behind at segment ≡ other)) =
      λ other h. ⊎_elim (λ a. ⊎_elim (λ old_one. inl old_one) (λ e. inr (inl e)) (has_set node.held place (part_before at segment) other a)) (λ e. inr (inr e))
      (has_inserted (slice_set node.held place (part_before at segment)) (place + 1) (part_behind at segment) other h) in
      let good_one : SegmentGood old.callers old.history segment = before_good.held segment held in
      let current_one : Current old.history segment node.entries = good.held number node segment here held in
      node_event old good number node after None here refl no_less
      (record {
        rising = before_good.rising;
        held = λ other h. ⊎_elim (λ old_one. before_good.held other old_one)
            (⊎_elim (λ e. subst (SegmentGood old.callers old.history) e (part_good old.callers old.history (span_before at segment.span) segment good_one))
            (λ e. subst (SegmentGood old.callers old.history) e (part_good old.callers old.history (span_behind at segment.span) segment good_one)))
            (cases other h);
        outbox = before_good.outbox;
        outbox_rising = before_good.outbox_rising;
      })
      (λ other h. ⊎_elim (λ old_one. good.held number node other here old_one)
      (⊎_elim
      (λ e. subst (λ s. Current old.history s node.entries) e
      (part_current old.history (span_before at segment.span) segment node.entries (before_within segment.span at ends.0 ends.1 at_in cut) current_one))
      (λ e. subst (λ s. Current old.history s node.entries) e
      (part_current old.history (span_behind at segment.span) segment node.entries (behind_within segment.span at ends.0 ends.1 at_in cut) current_one)))
      (cases other h))
      (λ other h still. good.under_way number node other here h still)
      (λ message e. absurd (none-some message e))

  -- two neighbours are joined
  pub joins_two : (place : ℕ) (first : Segment) (place_behind : ℕ) (second : Segment) → slice_get node.held place ≡ Some first → slice_get node.held place_behind ≡ Some second
      → first.span.upto ≡ second.span.after → cuts (span_joined first.span second.span) first.span.upto ≡ true
      → Good (record old { nodes = put_node (record node { held = joined_held place first place_behind second node.held }) old.nodes; sent = with_one old.sent None })
  joins_two place first place_behind second got_first got_second meet cut =
      let held_first : Has node.held first = has_got node.held place first got_first in
      let held_second : Has node.held second = has_got node.held place_behind second got_second in
      let ends = facts.spans_bounded number node first here held_first in
      let more_ends = facts.spans_bounded number node second here held_second in
      let after : Node = record node { held = joined_held place first place_behind second node.held } in
      let cases : (other : Segment) → Has after.held other → Has node.held other ⊎ (joined_segment first second ≡ other) =
      λ other h. has_set node.held place (joined_segment first second) other (has_removed (slice_set node.held place (joined_segment first second)) place_behind other h) in
      node_event old good number node after None here refl no_less
      (record {
        rising = before_good.rising;
        held = λ other h. ⊎_elim (λ old_one. before_good.held other old_one)
            (λ e. subst (SegmentGood old.callers old.history) e
            (joined_good old.callers old.history first second (before_good.held first held_first) (before_good.held second held_second)))
            (cases other h);
        outbox = before_good.outbox;
        outbox_rising = before_good.outbox_rising;
      })
      (λ other h. ⊎_elim (λ old_one. good.held number node other here old_one)
      (λ e. subst (λ s. Current old.history s node.entries) e
      (joined_current old.history first second node.entries (joined_cases first.span second.span ends.0 ends.1 more_ends.1 meet cut)
      (good.held number node first here held_first) (good.held number node second here held_second)))
      (cases other h))
      (λ other h still. good.under_way number node other here h still)
      (λ message e. absurd (none-some message e))

  -- a segment is put into the outbox
  pub gives : (place : ℕ) (segment : Segment) (to : ℕ) → slice_get node.held place ≡ Some segment
      → Good (record old { nodes = put_node (without_segment place segment to node) old.nodes; sent = with_one old.sent (Some (PartMessage (part_at (handover_of node.number (item_of segment to node)) 1))) })
  gives place segment to got =
      let held : Has node.held segment = has_got node.held place segment got in
      let after : Node = without_segment place segment to node in
      let item : Item = item_of segment to node in
      let handover : Handover = handover_of node.number item in
      let good_one : SegmentGood old.callers old.history segment = before_good.held segment held in
      node_event old good number node after (Some (PartMessage (part_at handover 1))) here refl no_less
      (record {
        rising = rises_outside segment.span node.entries before_good.rising;
        held = λ other h. before_good.held other (has_removed node.held place other h);
        outbox = λ other h. ⊎_elim (λ there. before_good.outbox other there) (λ e. subst (λ (i : Item). SegmentGood old.callers old.history i.segment) e good_one)
            (has_pushed node.outbox item other h);
        outbox_rising = λ other h. ⊎_elim (λ there. before_good.outbox_rising other there) (λ e. subst (λ (i : Item). RisingPairs i.pairs) e (rises_inside segment.span node.entries before_good.rising))
            (has_pushed node.outbox item other h);
      })
      (λ other h.
      let r = removed_apart node.held place other h in
      outside_current old.history segment.span other node.entries
      (λ x x_in in_segment in_other. r.1 (facts.apart_at_node number node r.0 place other segment x here r.2 got x_in in_other in_segment))
      (good.held number node other here (has_got node.held r.0 other r.2)))
      (λ other h still. ⊎_elim (λ there. good.under_way number node other here there still)
      (λ e. subst (λ (i : Item). Current old.history i.segment i.pairs) e (inside_current old.history segment node.entries (good.held number node segment here held)))
      (has_pushed node.outbox item other h))
      (λ message e. subst (MessageGood old.callers old.history) (same_Some (PartMessage (part_at handover 1)) message e) (λ part e. subst (SegmentGood old.callers old.history) (same_Some segment part e) good_one))
