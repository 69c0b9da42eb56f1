-- No handover that is taken, or taken back, overlaps what its node holds.
use Rattle.std.proofs.Common.{◌≡◌, ◌≢◌, ℕ, suc, zero, ◌+◌, ◌^◌, ◌<◌, ◌≤◌, Bool, true, false, cond, eqb, Option, Some, None, List, [], ◌∷◌, ◌++◌, ⊎_elim, refl, sym, ◌∙◌, ap, subst, arith}
use Rattle.std.specs.Prelude.{Contains, slice_get}
use Rattle.chord_handover.proofs.Counting.{count, count_push}
use Rattle.chord_handover.specs.declared.ticket.Ticket.{Ticket}
use Rattle.chord_handover.specs.Handover.{Handover, Part, IsWhole, gathered_parts, Item, item_at}
use Rattle.chord_ident.proofs.Spans.{one_if}
use Rattle.chord_map.proofs.Finding.{not_true}
use Rattle.chord_model.proofs.Channels.{taken_in, gone_by}
use Rattle.chord_model.proofs.Events.{Event, take_event, takes_back_event}
use Rattle.chord_model.proofs.Kept.{Sound, sound_reached, gone_test, none_at, event}
use Rattle.chord_model.proofs.Nodes.{at_put, at_push}
use Rattle.chord_model.proofs.Placed.{Placed, placed_step}
use Rattle.chord_model.proofs.Totals.{has, weight, total}
use Rattle.chord_model.proofs.Whole.{whole_ok}
use Rattle.chord_model.specs.Headline.{MeetsNone, AllApart}
use Rattle.chord_model.specs.declared.message.Message.{Message}
use Rattle.chord_model.specs.declared.message.Message.TheVariants.{Part as PartMessage, Declined as DeclinedMessage}
use Rattle.chord_model.specs.Node.{Node, with_taken, with_back, founder, newborn}
use Rattle.chord_model.specs.World.{World, WorldStep, Reached, node_at, put_node, taken_by}
use Rattle.chord_model.specs.World.Run.{Stays, Goes_on}
use Rattle.chord_model.specs.World.WorldStep.{Creates, Joins as Arrives, Opens, Calls, Acts}
use Rattle.chord_model.specs.declared.phase.Phase.TheVariants.{Gone}
use Rattle.chord_map.proofs.Equal.{same_or_not, eqb_same, eqb_other}
use Rattle.chord_segment.specs.Marks.{mark_of}
use Rattle.chord_segment.specs.Segment.{Segment}
use Rattle.chord_model.proofs.Numbered.{nodes_by}

-- a node weighs no more than all
weight-le-total : (x : ℕ) (taken : ℕ → ℕ → ℕ) (number : ℕ) (node : Node) (nodes : List Node) → node_at number nodes ≡ Some node → weight x taken node ≤ total x taken nodes
unfolding node_at
weight-le-total x taken number node [] e = cc
weight-le-total x taken number node (other ∷ rest) e =
    ⊎_elim
    (λ (same : other.number ≡ number).
    let e' : Some other ≡ Some node = rw (eqb_same other.number number same) at e in
    let found : other ≡ node = cc in
    let w = ap (weight x taken) found in
    omega arith)
    (λ (apart : other.number ≢ number).
    let e' : node_at number rest ≡ Some node = rw (eqb_other other.number number apart) at e in
    omega (arith, weight-le-total x taken number node rest e'))
    (same_or_not other.number number)

at_place : (x place : ℕ) (segment : Segment) (held : List Segment) → slice_get held place ≡ Some segment → one_if (has x segment) ≤ count (has x) held
at_place x place segment [] e = cc
at_place x zero segment (first ∷ held) e = let same : first ≡ segment = cc in let w = ap (λ s. one_if (has x s)) same in omega arith
at_place x (suc place) segment (first ∷ held) e = omega (arith, at_place x place segment held e)

-- an identifier that nobody holds is in no segment
has_none : (x place : ℕ) (segment : Segment) (held : List Segment) → count (has x) held ≡ 0 → slice_get held place ≡ Some segment → has x segment ≡ false
has_none x place segment held none e =
    not_true (has x segment) (λ yes. let one = ap one_if yes in let c = at_place x place segment held e in absurd (omega arith))

one_place : (x place other : ℕ) (segment more : Segment) (held : List Segment) → count (has x) held ≤ 1
    → slice_get held place ≡ Some segment → slice_get held other ≡ Some more → place ≢ other → has x segment ≡ true → has x more ≡ false
one_place x place other segment more [] few e e' apart here = cc
one_place x zero zero segment more (first ∷ held) few e e' apart here = absurd (apart refl)
one_place x zero (suc other) segment more (first ∷ held) few e e' apart here =
    let same : first ≡ segment = cc in
    let w = ap (λ s. one_if (has x s)) same in
    let one = ap one_if here in
    has_none x other more held (omega arith) e'
one_place x (suc place) zero segment more (first ∷ held) few e e' apart here =
    let same : first ≡ more = cc in
    let one = ap one_if here in
    let c = at_place x place segment held e in
    not_true (has x more) (λ yes. let w = ap (λ s. one_if (has x s)) same in let w' = ap one_if yes in absurd (omega arith))
one_place x (suc place) (suc other) segment more (first ∷ held) few e e' apart here =
    one_place x place other segment more held (omega arith) e e' (λ s. apart (ap suc s)) here

some_nodes : (number : ℕ) (node : Node) (nodes : List Node) → node_at number nodes ≡ Some node → nodes ≢ []
some_nodes number node nodes e none = let n : Some node ≡ None = sym e ∙ (ap (node_at number) none ∙ none_at number) in cc

put_some : (after : Node) (nodes : List Node) → nodes ≢ [] → put_node after nodes ≢ []
unfolding put_node
put_some after [] h = h
put_some after (node ∷ rest) h = put_cons (eqb node.number after.number)
  where
    put_cons : (b : Bool) → cond b (after ∷ rest) (node ∷ put_node after rest) ≢ []
    put_cons true = λ e. cc
    put_cons false = λ e. cc

-- the spans of a node do not overlap
pub held_apart : (world : World) → Reached world → (number : ℕ) (node : Node) → node_at number world.nodes ≡ Some node → AllApart node.held
held_apart world reached number node at place other segment more e e' apart x x_in here =
    let sound = sound_reached world reached in
    let one = sound.one x x_in (some_nodes number node world.nodes at) in
    let w = weight-le-total x (taken_in world.nodes) number node world.nodes at in
    one_place x place other segment more node.held (omega arith) e e' apart here

-- if a step leaves its node one more segment, that overlaps none of the others
clear_by : (nodes : List Node) (node after : Node) (out : Option Message) → node_at node.number nodes ≡ Some node → Event nodes node after out
    → (x : ℕ) → x < 2 ^ 128 → total x (taken_in nodes) nodes ≡ 1 → count (has x) node.held + 1 ≡ count (has x) after.held → count (has x) node.held ≡ 0
clear_by nodes node after out at event x x_in one more =
    let at' : node_at after.number nodes ≡ Some node = rw event.change.same_number at in
    let w = weight-le-total x (taken_in (put_node after nodes)) after.number after (put_node after nodes) (nodes_by.put_same after nodes node at') in
    let t = event.totals x x_in in
    omega arith

-- a handover that a node takes next overlaps nothing that it holds
pub taken_clear : (world : World) → Reached world → (part : Part) (handover : Handover) (node : Node) → Contains world.sent (PartMessage part) → IsWhole (gathered_parts part node.buffered) handover → node_at handover.to world.nodes ≡ Some node
    → node.phase ≢ Gone → handover.number ≡ mark_of handover.from node.taken + 1 → MeetsNone handover.segment.span node.held
taken_clear world reached part handover node was whole at stays next place segment e x x_in here =
    let sound = sound_reached world reached in
    let me : node.number ≡ handover.to = nodes_by.number handover.to world.nodes node at in
    let at' : node_at node.number world.nodes ≡ Some node = ap (λ n. node_at n world.nodes) me ∙ at in
    let event = take_event world.nodes world.sent node handover sound.distinct sound.channels sound.locals at' (sym me) next (gone_test node.phase stays)
    (whole_ok world.nodes world.sent sound.channels.messages part node.buffered handover was (sound.buffered handover.to node at) whole
    (ap gone_by at ∙ gone_test node.phase stays) (let e : taken_in world.nodes handover.to handover.from ≡ mark_of handover.from node.taken = ap (λ o. taken_by o handover.from) at in omega arith)) in
    let held = count_push (has x) node.held handover.segment in
    let one = ap one_if here in
    let none = clear_by world.nodes node (with_taken handover node) _ at' event x x_in (sound.one x x_in (some_nodes handover.to node world.nodes at)) (omega arith) in
    has_none x place segment node.held none e

-- a handover that a node takes back does not overlap what it holds either
pub back_clear : (world : World) → Reached world → (ticket : Ticket) (node : Node) (item : Item) → Contains world.sent (DeclinedMessage ticket)
    → node_at ticket.from world.nodes ≡ Some node → item_at ticket.to ticket.number node.outbox ≡ Some item → MeetsNone item.segment.span node.held
back_clear world reached ticket node item was at found place segment e x x_in here =
    let sound = sound_reached world reached in
    let me : node.number ≡ ticket.from = nodes_by.number ticket.from world.nodes node at in
    let at' : node_at node.number world.nodes ≡ Some node = ap (λ n. node_at n world.nodes) me ∙ at in
    let event = takes_back_event world.nodes world.sent node ticket item sound.channels at' (sound.locals node.number node at') (sym me) found
    (sound.channels.messages (DeclinedMessage ticket) was) in
    let held = count_push (has x) node.held item.segment in
    let one = ap one_if here in
    let none = clear_by world.nodes node (with_back item node) _ at' event x x_in (sound.one x x_in (some_nodes ticket.from node world.nodes at)) (omega arith) in
    has_none x place segment node.held none e

all_placed_put : (after node : Node) (nodes : List Node) → node_at after.number nodes ≡ Some node → Placed after
    → ((number : ℕ) (node : Node) → node_at number nodes ≡ Some node → Placed node) → (number : ℕ) (other : Node) → node_at number (put_node after nodes) ≡ Some other → Placed other
all_placed_put after node nodes at here placed number =
    at_put (λ number old new. ((node : Node) → old ≡ Some node → Placed node) → (node : Node) → new ≡ Some node → Placed node) after node nodes at
    (λ before other e. let same : after ≡ other = cc in subst Placed same here) (λ number other h. h) number (placed number)

all_placed_push : (new : Node) (nodes : List Node) → node_at new.number nodes ≡ None → Placed new
    → ((number : ℕ) (node : Node) → node_at number nodes ≡ Some node → Placed node) → (number : ℕ) (other : Node) → node_at number (nodes ++ new ∷ []) ≡ Some other → Placed other
all_placed_push new nodes none here placed number =
    at_push (λ number old new. ((node : Node) → old ≡ Some node → Placed node) → (node : Node) → new ≡ Some node → Placed node) new nodes none
    (λ before other e. let same : new ≡ other = cc in subst Placed same here) (λ number other h. h) number (placed number)

placed_world_step : (old new : World) → Sound old.nodes old.sent → ((number : ℕ) (node : Node) → node_at number old.nodes ≡ Some node → Placed node) → WorldStep old new
    → (number : ℕ) (node : Node) → node_at number new.nodes ≡ Some node → Placed node
placed_world_step old new sound placed (Creates links limit circle none) =
    subst (λ nodes. (other : ℕ) (node : Node) → node_at other (nodes ++ founder links limit ∷ []) ≡ Some node → Placed node) none
    (all_placed_push (founder links limit) old.nodes (ap (node_at links.me.number) none ∙ none_at links.me.number) (record { entries = tt; kept = (tt, tt); outbox = tt }) placed)
placed_world_step old new sound placed (Arrives links limit circle some new_number) =
    all_placed_push (newborn links limit) old.nodes new_number (record { entries = tt; kept = tt; outbox = tt }) placed
placed_world_step old new sound placed (Opens number window low high new_number) = placed
placed_world_step old new sound placed (Calls number caller after taken out at was step) = placed
placed_world_step old new sound placed (Acts number node after taken out did at was step) =
    let at' : node_at node.number old.nodes ≡ Some node = ap (λ n. node_at n old.nodes) (nodes_by.number number old.nodes node at) ∙ at in
    let event = event old.nodes old.sent node taken after out did sound at' was step in
    let at'' : node_at after.number old.nodes ≡ Some node = rw event.change.same_number at' in
    all_placed_put after node old.nodes at'' (placed_step old.nodes old.sent node taken after out did sound placed at' was step) placed

-- in every reachable world all nodes are placed
pub placed_reached : (world : World) → Reached world → (number : ℕ) (node : Node) → node_at number world.nodes ≡ Some node → Placed node
placed_reached world Stays = λ number node e. let i : None ≡ Some node = sym (none_at number) ∙ e in cc
placed_reached world (Goes_on {middle} run step) = placed_world_step middle world (sound_reached middle run) (placed_reached middle run) step
