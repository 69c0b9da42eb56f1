-- In every reachable world each node is stocked, the items of its outbox are payloads, and its
-- buffered parts are for it.
use Rattle.std.proofs.Common.{◌≡◌, ℕ, suc, ◌<◌, ◌||◌, Bool, true, false, inl, inr, ⊎_elim, Option, Some, None, List, [], ◌∷◌, ◌++◌, refl, sym, ◌∙◌, ap, subst, arith}
use Rattle.std.proofs.lemmas.Bool.{true≢false}
use Rattle.std.specs.Prelude.{slice_get}
use Rattle.chord_handover.specs.Handover.{Part, Item, is_item, item_at, outbox_without}
use Rattle.chord_handover.specs.Payload.{Payload, IsPayload}
use Rattle.chord_ident.specs.declared.span.Span.{Span}
use Rattle.chord_ident.specs.Circle.{in_span}
use Rattle.chord_map.proofs.Each.{Each, Each_push, Each-slice_get, Each-filter, Each-find}
use Rattle.chord_map.proofs.Lists.{Has, by_test, not_both}
use Rattle.chord_map.specs.Map.{reply_to}
use Rattle.chord_model.proofs.Channels.{taken_in, gone_in, item_from}
use Rattle.chord_model.proofs.Clash.{taken_clear, back_clear}
use Rattle.chord_model.proofs.Events.{SegmentOn, count-append_at, count-cut, count-join, sender_of}
use Rattle.chord_model.proofs.Kept.{sound_reached, gone_test, none_at, event}
use Rattle.chord_model.proofs.NodeLemmas.{segment_found, put_node_cases, node_pushed}
use Rattle.chord_model.proofs.Stocking.{holds_same, stocked_none, stocked_same, stocked_after, stocked_less, stocked_more, payload_taken}
use Rattle.chord_model.proofs.Whole.{whole_ok}
use Rattle.chord_model.specs.declared.message.Message.{Message}
use Rattle.chord_model.specs.Headline.{MeetsNone}
use Rattle.chord_model.specs.Node.{Node, NodeStep, founder, newborn, done_of, item_of, append_at, cut_held, joined_held}
use Rattle.chord_model.specs.Node.NodeStep.{Tells_again, Drops_seen, Executes, Answers_full, Forwards, Drops, Got_again, Declines, Buffers, Takes, Waits, Frees, Takes_back, Keeps, Cuts, Joins, Gives, Gives_again, Links_change, Leaves, Retires}
use Rattle.chord_model.specs.Stock.{holds, IsClash, IsClear, IsStocked}
use Rattle.chord_model.specs.World.{World, WorldStep, Reached, node_at, WasSent}
use Rattle.chord_model.specs.World.Run.{Stays, Goes_on}
use Rattle.chord_model.specs.World.WorldStep.{Creates, Joins as Arrives, Opens, Calls, Acts}
use Rattle.chord_map.specs.declared.done.Done.{Done}
use Rattle.chord_segment.specs.Segment.{Segment, id_of}
use Rattle.chord_model.proofs.Numbered.{nodes_by}

-- ---- what is held, index by index

-- a held identifier is in the segment at some index
held_at : (x : ℕ) (held : List Segment) → holds x held ≡ true → (place : ℕ) × (segment : Segment) × (slice_get held place ≡ Some segment) × (in_span segment.span x ≡ true)
held_at x [] e = absurd (true≢false (sym e))
held_at x (first ∷ held) e =
    by_test (in_span first.span x)
    (λ here. (0, first, refl, here))
    (λ away. let more = held_at x held (sym (ap (λ b. b || holds x held) away) ∙ e) in (suc more.0, more.1, more.2, more.3))

or_true : (a b : Bool) → b ≡ true → (a || b) ≡ true
or_true true b e = refl
or_true false b e = e

holds_has : (x : ℕ) (held : List Segment) (segment : Segment) → Has held segment → in_span segment.span x ≡ true → holds x held ≡ true
holds_has x [] segment h here = absurd h
holds_has x (first ∷ held) segment (inl same) here = ap (λ b. b || holds x held) (ap (λ (s : Segment). in_span s.span x) same ∙ here)
holds_has x (first ∷ held) segment (inr h) here = or_true (in_span first.span x) (holds x held) (holds_has x held segment h here)

-- a span that overlaps no held one is no clash
pub no_clash : (span : Span) (held : List Segment) → MeetsNone span held → IsClash span held → ⊥
no_clash span held none clash =
    let at = held_at clash.0 held clash.3 in
    not_both (in_span (at.1).span clash.0) at.3 (none at.0 at.1 at.2 clash.0 clash.1 clash.2)

clear : (span : Span) (held : List Segment) → MeetsNone span held → IsClear span held
clear span held none x x_in inside = by_test (holds x held) (λ here. absurd (no_clash span held none (x, x_in, inside, here))) (λ away. away)

-- ---- the invariant of one node

-- the payload of an item
abbrev pub payload_of_item : Item → Payload
payload_of_item item = record { segment = item.segment; pairs = item.pairs }

abbrev ItemPayload : Item → Type 0
ItemPayload item = IsPayload (payload_of_item item)

pub record Stocks (node : Node) : Type 0 where
  pub stocked : IsStocked node.held node.entries
  pub payloads : Each ItemPayload node.outbox
  pub buffered : Each (λ (part : Part). part.to ≡ node.number) node.buffered

abbrev AllStocked : List Node → Type 0
AllStocked nodes = (number : ℕ) (node : Node) → node_at number nodes ≡ Some node → Stocks node

pub payload_at : (to number : ℕ) (node : Node) (item : Item) → item_at to number node.outbox ≡ Some item → Stocks node → IsPayload (payload_of_item item)
unfolding item_at
payload_at to number node item e stocks = Each-find ItemPayload (is_item to number) node.outbox item e stocks.payloads

payloads_without : (to number : ℕ) (outbox : List Item) → Each ItemPayload outbox → Each ItemPayload (outbox_without to number outbox)
unfolding outbox_without
payloads_without to number outbox all = Each-filter ItemPayload _ outbox all

-- every step of a node keeps it stocked
stocks_step : (world : World) → Reached world → AllStocked world.nodes → (node : Node) (taken : Option Message) (after : Node) (out : Option Message) (did : Option Done)
    → node_at node.number world.nodes ≡ Some node → WasSent world.sent taken → NodeStep node taken after out did → Stocks after
stocks_step world reached all node taken after out did at was (Tells_again ask segment done found past) = all node.number node at
stocks_step world reached all node taken after out did at was (Drops_seen ask segment found past) = all node.number node at
stocks_step world reached all node taken after out did at was (Executes ask segment found past) =
    let s = all node.number node at in
    let here = segment_found (id_of ask.request) node.held segment found in
    let done : Done = done_of ask (reply_to ask.request node.entries) in
    record {
      stocked = stocked_after node.held (append_at (id_of ask.request) done ask.floor node.held) ask.request node.entries
          (λ x x_in. holds_same x node.held _ (count-append_at x (id_of ask.request) done ask.floor node.held))
          (holds_has (id_of ask.request) node.held segment here.1 here.0) s.stocked;
      payloads = s.payloads;
      buffered = s.buffered;
    }
stocks_step world reached all node taken after out did at was (Answers_full ask segment found past added full) = all node.number node at
stocks_step world reached all node taken after out did at was (Forwards ask hops found fewer) = all node.number node at
stocks_step world reached all node taken after out did at was (Drops ask found) = all node.number node at
stocks_step world reached all node taken after out did at was (Got_again part here seen) = all node.number node at
stocks_step world reached all node taken after out did at was (Declines part here above gone) = all node.number node at
stocks_step world reached all node taken after out did at was (Buffers part here next stays) =
    let s = all node.number node at in
    record { stocked = s.stocked; payloads = s.payloads; buffered = Each_push _ node.buffered part s.buffered here }
stocks_step world reached all node taken after out did at was (Takes part handover here next stays whole) =
    let s = all node.number node at in
    let sound = sound_reached world reached in
    let at' : node_at handover.to world.nodes ≡ Some node = ap (λ n. node_at n world.nodes) here ∙ at in
    let gone : gone_in world.nodes handover.to ≡ false = rw at' (gone_test node.phase stays) in
    let above : taken_in world.nodes handover.to handover.from < handover.number = rw at' (omega arith) in
    let ok = whole_ok world.nodes world.sent sound.channels.messages part node.buffered handover was (sound.buffered node.number node at) whole gone above in
    let sender = sender_of (node_at handover.from world.nodes) handover.to handover.number (item_from handover) (ok.kept gone above) in
    let rules = payload_at handover.to handover.number sender.0 (item_from handover) sender.2 (all handover.from sender.0 sender.1) in
    record {
      stocked = stocked_more node.held (payload_of_item (item_from handover)) node.entries rules
          (clear handover.segment.span node.held (taken_clear world reached part handover node was whole at' stays next)) s.stocked;
      payloads = s.payloads;
      buffered = Each-filter _ _ node.buffered s.buffered;
    }
stocks_step world reached all node taken after out did at was (Waits part here above stays) = all node.number node at
stocks_step world reached all node taken after out did at was (Frees ticket here) =
    let s = all node.number node at in
    record { stocked = s.stocked; payloads = payloads_without ticket.to ticket.number node.outbox s.payloads; buffered = s.buffered }
stocks_step world reached all node taken after out did at was (Takes_back ticket item here found) =
    let s = all node.number node at in
    let at' : node_at ticket.from world.nodes ≡ Some node = ap (λ n. node_at n world.nodes) here ∙ at in
    record {
      stocked = stocked_more node.held (payload_of_item item) node.entries (payload_at ticket.to ticket.number node item found s)
          (clear item.segment.span node.held (back_clear world reached ticket node item was at' found)) s.stocked;
      payloads = payloads_without item.to item.number node.outbox s.payloads;
      buffered = s.buffered;
    }
stocks_step world reached all node taken after out did at was (Keeps ticket here) = all node.number node at
stocks_step world reached all node taken after out did at was (Cuts place segment cut found circle inside) =
    let s = all node.number node at in
    let on = Each-slice_get SegmentOn node.held place segment found ((sound_reached world reached).locals node.number node at).held_on in
    record {
      stocked = stocked_same node.held (cut_held place segment cut node.held) node.entries
          (λ x x_in. holds_same x node.held _ (count-cut x place segment cut node.held x_in on circle found inside)) s.stocked;
      payloads = s.payloads;
      buffered = s.buffered;
    }
stocks_step world reached all node taken after out did at was (Joins place first place_behind second found found' apart meet cut) =
    let s = all node.number node at in
    let local = (sound_reached world reached).locals node.number node at in
    let on = Each-slice_get SegmentOn node.held place first found local.held_on in
    let on' = Each-slice_get SegmentOn node.held place_behind second found' local.held_on in
    record {
      stocked = stocked_same node.held (joined_held place first place_behind second node.held) node.entries
          (λ x x_in. holds_same x node.held _ (count-join x place first place_behind second node.held x_in on on' found found' apart meet cut)) s.stocked;
      payloads = s.payloads;
      buffered = s.buffered;
    }
stocks_step world reached all node taken after out did at was (Gives place segment to found) =
    let s = all node.number node at in
    record {
      stocked = stocked_less node.held place segment node.entries found s.stocked;
      payloads = Each_push ItemPayload node.outbox (item_of segment to node) s.payloads (payload_taken node.held segment node.entries s.stocked);
      buffered = s.buffered;
    }
stocks_step world reached all node taken after out did at was (Gives_again to number place item found from below) = all node.number node at
stocks_step world reached all node taken after out did at was (Links_change links same) =
    let s = all node.number node at in record { stocked = s.stocked; payloads = s.payloads; buffered = s.buffered }
stocks_step world reached all node taken after out did at was (Leaves stays) =
    let s = all node.number node at in record { stocked = s.stocked; payloads = s.payloads; buffered = s.buffered }
stocks_step world reached all node taken after out did at was (Retires leaves held outbox) =
    let s = all node.number node at in record { stocked = s.stocked; payloads = s.payloads; buffered = tt }

-- ---- and of all nodes

-- a new node has nothing to stock
pushed : (nodes : List Node) (new : Node) → AllStocked nodes → Stocks new → AllStocked (nodes ++ new ∷ [])
pushed nodes new all here number node e = ⊎_elim (λ there. all number node there) (λ same. subst Stocks same here) (node_pushed number nodes new node e)

stocks_world_step : (old new : World) → Reached old → AllStocked old.nodes → WorldStep old new → AllStocked new.nodes
stocks_world_step old new reached all (Creates links limit circle none) =
    subst (λ nodes. AllStocked (nodes ++ founder links limit ∷ [])) none
    (pushed old.nodes (founder links limit) all (record { stocked = stocked_none (founder links limit).held; payloads = tt; buffered = tt }))
stocks_world_step old new reached all (Arrives links limit circle some new_number) =
    pushed old.nodes (newborn links limit) all (record { stocked = stocked_none []; payloads = tt; buffered = tt })
stocks_world_step old new reached all (Opens number window low high new_number) = all
stocks_world_step old new reached all (Calls number caller after taken out at was step) = all
stocks_world_step old new reached all (Acts number node after taken out did at was step) =
    let at' : node_at node.number old.nodes ≡ Some node = ap (λ n. node_at n old.nodes) (nodes_by.number number old.nodes node at) ∙ at in
    let event = event old.nodes old.sent node taken after out did (sound_reached old reached) at' was step in
    let at'' : node_at after.number old.nodes ≡ Some node = rw event.change.same_number at' in
    λ other_number other e. ⊎_elim
    (λ same. subst Stocks same.1 (stocks_step old reached all node taken after out did at' was step))
    (λ apart. all other_number other apart.1)
    (put_node_cases after old.nodes node other_number other at'' e)

pub stocks_reached : (world : World) → Reached world → AllStocked world.nodes
stocks_reached world Stays = λ number node e. let i : None ≡ Some node = sym (none_at number) ∙ e in cc
stocks_reached world (Goes_on {middle} run step) = stocks_world_step middle world run (stocks_reached middle run) step
