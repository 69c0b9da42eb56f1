-- It is enough that some run exists: the headline's part on the history has at most one proof.
use Rattle.std.proofs.Common.{◌≡◌, ◌≢◌, ℕ, ◌+◌, ◌<◌, ◌^◌, Some, List, [], ◌∷◌}
use Rattle.std.specs.Prelude.{Contains}
use Rattle.std.specs.List.{AllByRecursion-prop}
use Rattle.std.specs.List.Sorted.{IsStrictlySortedBy-prop}
use Rattle.std.proofs.Props.{props}
use mathlib.Core.Logic.{∥∥₁_elim}
use Rattle.chord_map.specs.declared.pair.Pair.{Pair}
use Rattle.chord_map.specs.declared.reply.Reply.{Reply}
use Rattle.chord_map.specs.declared.request.Request.{Request}
use Rattle.chord_map.specs.Map.{pair_cmp, pairs_after}
use Rattle.chord_model.proofs.HistoryProof.{one_history, none_twice}
use Rattle.chord_model.proofs.SeenFirst.{seen_first}
use Rattle.chord_handover.specs.declared.gather.Gather.TheVariants.{Unfit}
use Rattle.chord_handover.specs.declared.ticket.Ticket.{Ticket}
use Rattle.chord_handover.specs.Gather.{GatherIs}
use Rattle.chord_handover.specs.Handover.{Handover, Part, IsWhole, gathered_parts, Item, item_at}
use Rattle.chord_model.proofs.Clash.{taken_clear, back_clear, held_apart}
use Rattle.chord_model.proofs.Fitting.{part_fits}
use Rattle.chord_model.proofs.Stocked.{stocks_reached}
use Rattle.chord_model.proofs.Theorem.{only_one, one_length}
use Rattle.chord_model.specs.declared.message.Message.TheVariants.{Part as PartMessage, Declined as DeclinedMessage}
use Rattle.chord_model.specs.declared.phase.Phase.TheVariants.{Gone}
use Rattle.chord_segment.specs.Marks.{mark_of}
use Rattle.chord_segment.specs.Segment.{Segment}
use Rattle.chord_model.specs.Headline.{MeetsNone, AllApart, Headline, IsWellHeld, OneHistory, IsNextFor, KeepNoneTwice, SeenFirst}
use Rattle.chord_model.specs.Node.{Node}
use Rattle.chord_model.specs.Stock.{IsHeld, IsStocked}
use Rattle.chord_model.specs.World.{World, Reached, Run, node_at, HasOneHolder, holders}
use Rattle.chord_map.specs.declared.done.Done.{Done}
use Rattle.chord_map.specs.History.{Replies, EachOnce, IsLegal, StandsIn}

reply_set : IsSet Reply
reply_set = hlevel props

request_set : IsSet Request
request_set = hlevel props

done_set : IsSet Done
done_set = hlevel (props, reply_set, request_set)

replies_prop : (pairs : List Pair) (dones : List Done) → IsProp (Replies pairs dones)
replies_prop pairs [] = hlevel props
replies_prop pairs (done ∷ rest) = hlevel (reply_set, replies_prop (pairs_after done.request pairs) rest)

once_prop : (dones : List Done) → IsProp (EachOnce dones)
once_prop [] = hlevel props
once_prop (done ∷ rest) = hlevel (props, done_set, once_prop rest)

legal_prop : (dones : List Done) → IsProp (IsLegal dones)
legal_prop dones = hlevel (replies_prop [] dones, once_prop dones)

stands_prop : (dones : List Done) (done : Done) → IsProp (StandsIn dones done)
stands_prop dones done = hlevel (props, done_set)

pub history_prop : (world : World) → IsProp (OneHistory world)
history_prop world = hlevel (props, reply_set, request_set, done_set, legal_prop world.history, once_prop)

-- one history if only the existence of a run is known
pub history_merely : (world : World) → ∥ Reached world ∥₁ → OneHistory world
history_merely world reached = ∥∥₁_elim reached (history_prop world) (λ run. one_history world run)

pub none_twice_merely : (world : World) → ∥ Reached world ∥₁ → (number : ℕ) (node : Node) → node_at number world.nodes ≡ Some node → KeepNoneTwice node.held
none_twice_merely world reached number node here =
    ∥∥₁_elim reached (hlevel (props, done_set)) (λ run. none_twice world run number node here)

pub seen_first_merely : (earlier later : World) → ∥ Reached earlier ∥₁ → ∥ Run earlier later ∥₁ → SeenFirst earlier later
seen_first_merely earlier later reached run =
    ∥∥₁_elim reached (hlevel (props, done_set)) (λ r. ∥∥₁_elim run (hlevel (props, done_set)) (λ s. seen_first earlier later r s))

-- ---- the laws of holders

pub one_holder_merely : (world : World) → ∥ Reached world ∥₁ → world.nodes ≢ [] → (x : ℕ) → x < 2 ^ 128 → HasOneHolder x world.nodes
one_holder_merely world reached some x x_in = only_one (holders x world.nodes) (∥∥₁_elim reached (hlevel props) (λ run. one_length world run some x x_in))

pub taken_merely : (world : World) → ∥ Reached world ∥₁ → (part : Part) (handover : Handover) (node : Node) → Contains world.sent (PartMessage part) → IsWhole (gathered_parts part node.buffered) handover
    → node_at handover.to world.nodes ≡ Some node → node.phase ≢ Gone → handover.number ≡ mark_of handover.from node.taken + 1 → MeetsNone handover.segment.span node.held
taken_merely world reached part handover node was whole at stays next =
    ∥∥₁_elim reached (hlevel props) (λ run. taken_clear world run part handover node was whole at stays next)

pub back_merely : (world : World) → ∥ Reached world ∥₁ → (ticket : Ticket) (node : Node) (item : Item) → Contains world.sent (DeclinedMessage ticket) → node_at ticket.from world.nodes ≡ Some node
    → item_at ticket.to ticket.number node.outbox ≡ Some item → MeetsNone item.segment.span node.held
back_merely world reached ticket node item was at found = ∥∥₁_elim reached (hlevel props) (λ run. back_clear world run ticket node item was at found)

pub apart_merely : (world : World) → ∥ Reached world ∥₁ → (number : ℕ) (node : Node) → node_at number world.nodes ≡ Some node → AllApart node.held
apart_merely world reached number node at = ∥∥₁_elim reached (hlevel props) (λ run. held_apart world run number node at)

pub fits_merely : (world : World) → ∥ Reached world ∥₁ → (part : Part) (node : Node) → Contains world.sent (PartMessage part) → node_at part.to world.nodes ≡ Some node
    → IsNextFor node part → ¬ GatherIs part node.buffered Unfit
fits_merely world reached part node was at next = ∥∥₁_elim reached (hlevel props) (λ run. part_fits world run part node was at next)

-- ---- the whole headline

stocked_prop : (held : List Segment) (pairs : List Pair) → IsProp (IsStocked held pairs)
stocked_prop held pairs = hlevel (props, IsStrictlySortedBy-prop pair_cmp pairs, AllByRecursion-prop (IsHeld held) (λ pair. hlevel props) pairs)

well_held : (world : World) → ∥ Reached world ∥₁ → (number : ℕ) (node : Node) → node_at number world.nodes ≡ Some node → IsWellHeld node
well_held world reached number node at = record {
  apart = apart_merely world reached number node at;
  once = none_twice_merely world reached number node at;
  stocked = ∥∥₁_elim reached (stocked_prop node.held node.entries) (λ run. (stocks_reached world run number node at).stocked);
}

pub headline_merely : (world : World) → ∥ Reached world ∥₁ → Headline world
headline_merely world reached = record {
  history = history_merely world reached;
  one_holder = λ some x within. one_holder_merely world reached some x within;
  held = well_held world reached;
}
