-- A node executes a call.
use Rattle.std.proofs.Common.{◌≡◌, ◌≢◌, ℕ, ◌<◌, ◌≤◌, true, ⊎_elim, sym, ◌∙◌, ap, ap₂, subst, arith, List, [], ◌∷◌, ◌++◌, Some, None, lt_of_le_of_lt}
use Rattle.std.proofs.lemmas.Option.{same_Some, none-some}
use Rattle.chord_ident.proofs.Digest.{key_id-below}
use Rattle.chord_caller.specs.declared.ask.Ask.{Ask}
use Rattle.chord_caller.specs.declared.told.Told.{Told}
use Rattle.chord_caller.specs.Caller.{seen_at}
use Rattle.chord_handover.specs.Handover.{Item}
use Rattle.chord_ident.specs.Circle.{in_span}
use Rattle.chord_map.proofs.Lists.{by_option, Has, Each, all_each, has_got, split_pushed}
use Rattle.chord_map.proofs.MapLemmas.{pair_of, reply_same, fits_reply}
use Rattle.chord_map.specs.declared.reply.Reply.{Reply}
use Rattle.chord_map.specs.Map.{key_of, reply_to, pairs_after}
use Rattle.chord_model.proofs.CallerLemmas.{all_grown_itself, one_request}
use Rattle.chord_model.proofs.CallerSteps.{each_with_one}
use Rattle.chord_model.proofs.Contents.{elsewhere_current, beside_current, appended_current, appended_good}
use Rattle.chord_model.proofs.Growth.{HistoryGrown, message_grown, node_grown, caller_longer, seen_stands}
use Rattle.chord_model.proofs.Invariant.{SegmentGood, AskGood, MessageGood, DoneGood, NodeGood, Current, Good, HolderFacts, Submitted}
use Rattle.chord_model.proofs.NodeLemmas.{put_node_cases, put_not_empty, last_grows, segment_found, append_cases}
use Rattle.chord_model.specs.declared.message.Message.TheVariants.{Ask as AskMessage, Told as ToldMessage}
use Rattle.chord_model.specs.Node.{Node, segment_with, done_of, told_of, with_executed}
use Rattle.chord_model.specs.World.{World, node_at, put_node, with_one, last_taken, InOrder}
use Rattle.chord_map.proofs.HistoryLemmas.{done_is, stands_found, stands_left, stands_last, stands_pushed, kept_found, legal_pushed, rises_after, rises_replay}
use Rattle.chord_segment.proofs.SegmentLemmas.{past_new}
use Rattle.chord_map.specs.declared.done.Done.{Done}
use Rattle.chord_map.specs.History.{replay, done_at, StandsIn}
use Rattle.chord_segment.specs.Marks.{mark_of}
use Rattle.chord_segment.specs.Segment.{id_of, Segment, past_at}
use Rattle.chord_segment.specs.Segment.Past.{New}
use Rattle.chord_model.proofs.Numbered.{callers_by, nodes_by}

module _ (old : World) (good : Good old) (facts : HolderFacts old) (number : ℕ) (node : Node) (here : node_at number old.nodes ≡ Some node)
    (ask : Ask) (segment : Segment) (was : Has old.sent (AskMessage ask)) (found : segment_with (id_of ask.request) node.held ≡ Some segment)
    (past : past_at ask.caller ask.number segment ≡ New) where
  before_good : NodeGood old.callers old.history node
  before_good = good.nodes node (nodes_by.has number old.nodes node here)

  contains : in_span segment.span (id_of ask.request) ≡ true
  contains = (segment_found (id_of ask.request) node.held segment found).0

  held : Has node.held segment
  held = (segment_found (id_of ask.request) node.held segment found).1

  current : Current old.history segment node.entries
  current = good.held number node segment here held

  ask_good : AskGood old.callers ask
  ask_good = good.messages (AskMessage ask) was

  -- the call is not in the history
  unexecuted : done_at ask.caller ask.number old.history ≡ None
  unexecuted = by_option (done_at ask.caller ask.number old.history) (λ none. none)
      (λ done there.
      let is = done_is ask.caller ask.number old.history done there in
      let stands : StandsIn old.history done = stands_found ask.caller ask.number old.history done there in
      let from : Submitted old.callers ask.caller ask.number done.request =
      subst (λ c. Submitted old.callers c ask.number done.request) is.0
      (subst (λ n. Submitted old.callers done.caller n done.request) is.1 (good.executed done stands).submitted) in
      let same : ask.request ≡ done.request = one_request old.callers ask.caller ask.number ask.request done.request ask_good.submitted from in
      let new = past_new ask.caller ask.number segment past in
      ⊎_elim
      (λ low. absurd (omega (arith, new.0, is.1, subst (λ c. done.number ≤ mark_of c segment.floors) is.0 low)))
      (λ kept.
      let at : done_at done.caller done.number segment.kept ≡ Some done =
      kept_found old.history segment.kept done (before_good.held segment held).kept stands kept in
      absurd (none-some done (sym new.1 ∙ ap₂ (λ c n. done_at c n segment.kept) (sym is.0) (sym is.1) ∙ at)))
      (current.covered done stands (subst (λ r. in_span segment.span (id_of r) ≡ true) same contains)))

  -- the node's reply is the one of the replayed history
  same_reply : reply_to ask.request node.entries ≡ reply_to ask.request (replay [] old.history)
  same_reply = reply_same ask.request node.entries (replay [] old.history) before_good.rising (rises_replay [] old.history tt)
      (λ value. current.content (pair_of (key_of ask.request) value) contains)

  reply : Reply
  reply = reply_to ask.request node.entries

  done_now : Done
  done_now = done_of ask (reply_to ask.request node.entries)

  abbrev pub new_world : World
  new_world = record old {
    nodes = put_node (with_executed ask node) old.nodes;
    sent = with_one old.sent (Some (ToldMessage (told_of ask (reply_to ask.request node.entries))));
    history = old.history ++ done_of ask (reply_to ask.request node.entries) ∷ [];
  }

  longer : HistoryGrown old.history (old.history ++ done_of ask (reply_to ask.request node.entries) ∷ [])
  longer done stands = stands_left old.history (done_of ask (reply_to ask.request node.entries) ∷ []) done stands

  stands_now : StandsIn (old.history ++ done_of ask (reply_to ask.request node.entries) ∷ []) (done_of ask (reply_to ask.request node.entries))
  stands_now = stands_last old.history (done_of ask (reply_to ask.request node.entries)) unexecuted

  ordered : InOrder new_world
  ordered caller place submission before behind done is_caller is_submission split c n =
      ⊎_elim
      (λ r.
      all_each (StandsIn before) (seen_at caller submission)
      (subst (λ ds. Each (StandsIn ds) (seen_at caller submission)) r.0
      (seen_stands old.history caller submission (good.callers caller (callers_by.has caller.number old.callers caller is_caller)))))
      (λ r. good.in_order caller place submission before r.0 done is_caller is_submission r.1 c n)
      (split_pushed old.history (done_of ask (reply_to ask.request node.entries)) before done behind split)

  after_good : NodeGood old.callers (old.history ++ done_of ask (reply_to ask.request node.entries) ∷ []) (with_executed ask node)
  after_good =
      let last : Done = done_of ask (reply_to ask.request node.entries) in
      let grown = node_grown old.callers old.callers old.history (old.history ++ last ∷ []) (all_grown_itself old.callers) longer node before_good in
      record {
        rising = rises_after ask.request node.entries before_good.rising;
        held = λ other h. ⊎_elim
            (λ e. subst (SegmentGood old.callers (old.history ++ last ∷ [])) e
            (appended_good old.callers old.history last ask.floor segment ask_good.floor ask.near unexecuted (before_good.held segment held)))
            (λ r. grown.held other (has_got node.held r.1 other r.3))
            (append_cases (id_of ask.request) last ask.floor node.held segment other found h);
        outbox = grown.outbox;
        outbox_rising = grown.outbox_rising;
      }

  held_current : (other : Segment) → Has (with_executed ask node).held other → Current (old.history ++ done_of ask (reply_to ask.request node.entries) ∷ []) other (pairs_after ask.request node.entries)
  held_current other h =
      let last : Done = done_of ask (reply_to ask.request node.entries) in
      ⊎_elim
      (λ e. subst (λ s. Current (old.history ++ last ∷ []) s (pairs_after ask.request node.entries)) e
      (appended_current old.history last ask.floor segment node.entries same_reply current))
      (λ r. beside_current old.history last other node.entries same_reply
      (λ inside. r.4 (facts.apart_at_node number node r.0 r.1 segment other (id_of ask.request) here r.2 r.3 (key_id-below (key_of ask.request)) contains inside))
      (good.held number node other here (has_got node.held r.1 other r.3)))
      (append_cases (id_of ask.request) last ask.floor node.held segment other found h)

  elsewhere_held : (place : ℕ) (other : Node) (one : Segment) → place ≢ number → node_at place old.nodes ≡ Some other → Has other.held one
      → Current (old.history ++ done_of ask (reply_to ask.request node.entries) ∷ []) one other.entries
  elsewhere_held place other one apart there h =
      elsewhere_current old.history (done_of ask (reply_to ask.request node.entries)) one other.entries
      (λ inside. apart (facts.apart_nodes place number other node one segment (id_of ask.request) there here h held (key_id-below (key_of ask.request)) inside contains))
      (good.held place other one there h)

  elsewhere_under_way : (place : ℕ) (other : Node) (item : Item) → node_at place old.nodes ≡ Some other → Has other.outbox item
      → last_taken old.nodes item.to place < item.number
      → Current (old.history ++ done_of ask (reply_to ask.request node.entries) ∷ []) item.segment item.pairs
  elsewhere_under_way place other item there h late =
      elsewhere_current old.history (done_of ask (reply_to ask.request node.entries)) item.segment item.pairs
      (λ inside. facts.apart_under_way number place node other segment item (id_of ask.request) here there held h late (key_id-below (key_of ask.request)) contains inside)
      (good.under_way place other item there h late)

  pub executes : Good new_world
  executes =
      let last : Done = done_of ask (reply_to ask.request node.entries) in
      let after : Node = with_executed ask node in
      let told : Told = told_of ask (reply_to ask.request node.entries) in
      let longer_history : List Done = old.history ++ last ∷ [] in
      let at : node_at after.number old.nodes ≡ Some node = ap (λ n. node_at n old.nodes) (nodes_by.number number old.nodes node here) ∙ here in
      record {
        callers = λ caller h. caller_longer old.callers old.callers old.history longer_history (all_grown_itself old.callers) longer caller (good.callers caller h);
        messages = each_with_one (MessageGood old.callers longer_history) old.sent (Some (ToldMessage told))
            (λ message h. message_grown old.callers old.callers old.history longer_history (all_grown_itself old.callers) longer message (good.messages message h))
            (λ message e. subst (MessageGood old.callers longer_history) (same_Some (ToldMessage told) message e) (record { request = ask.request; stands = stands_now }));
        executed = λ done stands. ⊎_elim (λ there. good.executed done there)
            (λ e. subst (DoneGood old.callers) e (record { submitted = ask_good.submitted; kind = fits_reply ask.request node.entries }))
            (stands_pushed old.history last done stands);
        legal = legal_pushed old.history last good.legal same_reply unexecuted;
        in_order = ordered;
        nodes = λ other h. ⊎_elim
            (λ there. node_grown old.callers old.callers old.history longer_history (all_grown_itself old.callers) longer other (good.nodes other there))
            (λ e. subst (NodeGood old.callers longer_history) e after_good)
            (nodes_by.has_put after old.nodes other h);
        held = λ place other one e h. ⊎_elim
            (λ r. subst (λ (n : Node). Current longer_history one n.entries) r.1 (held_current one (subst (λ (n : Node). Has n.held one) (sym r.1) h)))
            (λ r. elsewhere_held place other one (λ same. r.0 (same ∙ sym (nodes_by.number number old.nodes node here))) r.1 h)
            (put_node_cases after old.nodes node place other at e);
        under_way = λ place other item e h late.
            let still : last_taken old.nodes item.to place < item.number = lt_of_le_of_lt (last_grows after old.nodes node at (λ from. omega arith) item.to place) late in
            ⊎_elim
            (λ r. elsewhere_under_way place node item (ap (λ n. node_at n old.nodes) r.0 ∙ at) (subst (λ (n : Node). Has n.outbox item) (sym r.1) h) still)
            (λ r. elsewhere_under_way place other item r.1 h still)
            (put_node_cases after old.nodes node place other at e);
        unbegun = λ e. absurd (put_not_empty after old.nodes node at e);
      }
