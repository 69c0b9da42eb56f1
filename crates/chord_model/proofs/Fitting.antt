-- The next handover at a node, or one that comes back to it, fits there.
use Rattle.std.proofs.Common.{◌≡◌, ◌<◌, eqb, false, ⊎_elim, Some, List, [], ◌∷◌, refl, sym, ◌∙◌, ap, subst, arith, Contains}
use Rattle.std.proofs.lemmas.Bool.{and_parts}
use Rattle.std.proofs.lemmas.Option.{same_Some}
use Rattle.chord_handover.proofs.OutboxLemmas.{item_at_is}
use Rattle.chord_handover.specs.declared.gather.Gather.TheVariants.{Unfit}
use Rattle.chord_handover.specs.declared.ticket.Ticket.{Ticket}
use Rattle.chord_handover.specs.Gather.{AreAllThere, GatherIs}
use Rattle.chord_handover.specs.Handover.{Handover, Part, Item, parts_in, part_at, IsWhole, gathered_parts, ticket_of_part, handover_of}
use Rattle.chord_handover.specs.Payload.{Payload, IsPayload, handover_of_payload}
use Rattle.chord_model.proofs.HolderTie.{every_has}
use Rattle.chord_map.proofs.Lists.{Has, has_cases, has_filter, all_each, has_last, has_contained}
use Rattle.chord_model.proofs.Channels.{taken_in, gone_in, gone_by, item_in}
use Rattle.chord_model.proofs.Clash.{taken_clear}
use Rattle.chord_model.proofs.Events.{sender_of}
use Rattle.chord_model.proofs.Kept.{sound_reached, gone_test}
use Rattle.chord_model.proofs.Stocked.{no_clash, payload_of_item, payload_at, stocks_reached}
use Rattle.chord_model.specs.declared.message.Message.TheVariants.{Part as PartMessage}
use Rattle.chord_model.specs.Node.{Node}
use Rattle.chord_model.specs.Headline.{IsNextFor}
use Rattle.chord_model.specs.World.{World, Reached, node_at, taken_by}
use Rattle.chord_model.specs.Stock.{IsClash}
use Rattle.chord_map.proofs.Equal.{eqb_is}
use Rattle.chord_segment.specs.Marks.{mark_of}
use Rattle.chord_model.proofs.Numbered.{nodes_by}

-- the parts are some of the parts of a payload, under this name
record ArePartsOf (ticket : Ticket) (parts : List Part) (payload : Payload) : Type 0 where
  rules : IsPayload payload
  each : (part : Part) → Has parts part → part ≡ part_at (handover_of_payload ticket payload) part.place

-- they say its number of parts, and are all of them if each part number has its part
module _ (part : Part) (buffered : List Part) (payload : Payload) (are : ArePartsOf (ticket_of_part part) (gathered_parts part buffered) payload) where
  tells : (other : Part) → Has (gathered_parts part buffered) other → other.of ≡ parts_in payload.pairs
  tells other h = ap (λ (p : Part). p.of) (are.each other h)

  whole : AreAllThere part.of (gathered_parts part buffered) → IsWhole (gathered_parts part buffered) (handover_of_payload (ticket_of_part part) payload)
  whole there = record {
    each = all_each _ (gathered_parts part buffered) are.each;
    all = λ place from below.
        let found = there place from (omega (arith, tells part (has_last _ part))) in
        let is : found.1 ≡ part_at (handover_of_payload (ticket_of_part part) payload) place =
        are.each found.1 (has_contained (gathered_parts part buffered) found.1 (found.0, found.2, found.3)) ∙ ap (part_at (handover_of_payload (ticket_of_part part) payload)) found.4 in
        subst (Contains (gathered_parts part buffered)) is (found.0, found.2, found.3);
  }

  fits : GatherIs part buffered Unfit → ⊥
  fits unfit =
      ⊎_elim
      (λ different. different (all_each _ (gathered_parts part buffered) (λ other h. tells other h ∙ sym (tells part (has_last _ part)))))
      (λ none. none.1 payload are.rules (whole none.0))
      unfit

-- a part of an item in the outbox under this name is a part of its payload
same_name : (nodes : List Node) (ticket : Ticket) (item theirs : Item) (part : Part) → item.to ≡ ticket.to → item.number ≡ ticket.number
    → item_in nodes ticket.from ticket.to ticket.number ≡ Some item → part.from ≡ ticket.from → part.to ≡ ticket.to → part.number ≡ ticket.number
    → item_in nodes part.from part.to part.number ≡ Some theirs → part ≡ part_at (handover_of part.from theirs) part.place
    → part ≡ part_at (handover_of_payload ticket (payload_of_item item)) part.place
same_name nodes ticket item theirs part item_to item_number kept from to number found is =
    let same : theirs ≡ item = same_Some theirs item (sym found ∙ ((λ i. item_in nodes (from i) (to i) (number i)) ∙ kept)) in
    let renamed : handover_of ticket.from item ≡ handover_of_payload ticket (payload_of_item item) =
    λ i. record { from = ticket.from; to = item_to i; number = item_number i; segment = item.segment; pairs = item.pairs } in
    is ∙ ap (λ (h : Handover). part_at h part.place) ((λ i. handover_of (from i) (same i)) ∙ renamed)

module _ (world : World) (reached : Reached world) (part : Part) (node : Node) (was : Contains world.sent (PartMessage part)) (at : node_at part.to world.nodes ≡ Some node)
    (next : IsNextFor node part) where
  gone : gone_in world.nodes part.to ≡ false
  gone = ap gone_by at ∙ gone_test node.phase next.1

  above : taken_in world.nodes part.to part.from < part.number
  above = let e : taken_in world.nodes part.to part.from ≡ mark_of part.from node.taken = ap (λ o. taken_by o part.from) at in let n = next.0 in omega arith

  -- the part and the buffered parts of its handover are parts of the item in the giver's outbox
  parts_of : (payload : Payload) × ArePartsOf (ticket_of_part part) (gathered_parts part node.buffered) payload
  parts_of =
      let sound = sound_reached world reached in
      let kept = (sound.channels.messages (PartMessage part) was).kept gone above in
      let item : Item = kept.0 in
      let sender = sender_of (node_at part.from world.nodes) part.to part.number item kept.1 in
      let is = item_at_is part.to part.number (sender.0).outbox item sender.2 in
      let stocks = stocks_reached world reached part.to node at in
      let one : (other : Part) → Contains world.sent (PartMessage other) → other.from ≡ part.from → other.to ≡ part.to → other.number ≡ part.number
      → other ≡ part_at (handover_of_payload (ticket_of_part part) (payload_of_item item)) other.place =
      λ other other_was from to number.
      let theirs = (sound.channels.messages (PartMessage other) other_was).kept (rw to gone) (rw (to, from, number) above) in
      same_name world.nodes (ticket_of_part part) item theirs.0 other is.0 is.1 kept.1 from to number theirs.1 theirs.2 in (
        payload_of_item item,
        record {
          rules = payload_at part.to part.number sender.0 item sender.2 (stocks_reached world reached part.from sender.0 sender.1);
          each = λ other h. ⊎_elim
              (λ n.
              let buffered = has_filter _ node.buffered other n in
              let names = and_parts (eqb other.from part.from) (eqb other.number part.number) buffered.1 in
              one other (sound.buffered part.to node at other buffered.0) (eqb_is other.from part.from names.0)
              (every_has _ node.buffered other stocks.buffered buffered.0 ∙ nodes_by.number part.to world.nodes node at) (eqb_is other.number part.number names.1))
              (λ last. ⊎_elim (λ same. subst (λ (p : Part). p ≡ part_at (handover_of_payload (ticket_of_part part) (payload_of_item item)) p.place) same (one part was refl refl refl)) (λ n. absurd n) last)
              (has_cases _ (part ∷ []) other h);
        },
      )

  pub part_fits : GatherIs part node.buffered Unfit → ⊥
  part_fits = fits part node.buffered parts_of.0 parts_of.1

  pub whole_fits : (payload : Payload) → IsWhole (gathered_parts part node.buffered) (handover_of_payload (ticket_of_part part) payload) → IsClash payload.segment.span node.held → ⊥
  whole_fits payload whole = no_clash payload.segment.span node.held (taken_clear world reached part (handover_of_payload (ticket_of_part part) payload) node was whole at next.1 next.0)
