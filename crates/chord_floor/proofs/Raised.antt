-- A node that executes a call is the holder of its identifier, which then has the floor of the Ask.
use Rattle.std.proofs.Common.{◌≡◌, ◌≢◌, ℕ, ◌^◌, ◌<◌, ◌≤◌, Bool, true, ◌&&◌, ltb, inl, inr, ⊎_elim, refl, sym, ◌∙◌, ap, subst, arith, List, [], ◌∷◌, ◌++◌, Option, Some, None, lt_of_le_of_lt}
use Rattle.std.specs.Prelude.{filter, flat_map, map}
use Rattle.std.proofs.lemmas.Bool.{and_from, lt-ltb, true≢false}
use Rattle.std.proofs.lemmas.Option.{same_Some, none-some}
use Rattle.chord_caller.specs.declared.ask.Ask.{Ask}
use Rattle.chord_floor.proofs.Rising.{Floored}
use Rattle.chord_floor.specs.Floors.{ask_executed_by, ask_executed_in}
use Rattle.chord_handover.specs.Handover.{Item}
use Rattle.chord_ident.proofs.Digest.{key_id-below}
use Rattle.chord_ident.specs.Circle.{in_span}
use Rattle.chord_map.proofs.Lists.{Has, has_contained, has_filter_back, has_left, has_right}
use Rattle.chord_map.specs.declared.done.Done.{Done}
use Rattle.chord_map.specs.declared.reply.Reply.{Reply}
use Rattle.chord_map.specs.Map.{key_of, reply_to}
use Rattle.chord_model.proofs.Clash.{held_apart}
use Rattle.chord_model.proofs.NodeLemmas.{append_cases, last_grows, put_node_cases, put_not_empty, segment_found}
use Rattle.chord_model.proofs.Numbered.{nodes_by}
use Rattle.chord_model.specs.declared.holder.Holder.{Holder}
use Rattle.chord_model.specs.declared.holder.Holder.TheVariants as holder
use Rattle.chord_model.specs.declared.message.Message.{Message}
use Rattle.chord_model.specs.declared.message.Message.TheVariants.{Ask as AskMessage}
use Rattle.chord_model.specs.Headline.{AllApart}
use Rattle.chord_model.specs.Node.{Node, NodeStep, segment_with, done_of, with_executed}
use Rattle.chord_model.specs.World.{World, WorldStep, Reached, HasOneHolder, WasSent, node_at, put_node, with_one, last_taken, at_node, holders_under_way, holders}
use Rattle.chord_segment.proofs.Lifting.{mark_lifted}
use Rattle.chord_segment.specs.Marks.{mark_of}
use Rattle.chord_segment.specs.Segment.{Segment, id_of, append}

-- the holders of an identifier

has_mapped : {A B : Type 0} (f : A → B) (xs : List A) (x : A) → Has xs x → Has (map f xs) (f x)
has_mapped f [] x h = absurd h
has_mapped f (y ∷ xs) x (inl e) = inl (ap f e)
has_mapped f (y ∷ xs) x (inr h) = inr (has_mapped f xs x h)

has_flat : {A B : Type 0} (f : A → List B) (xs : List A) (x : A) (y : B) → Has xs x → Has (f x) y → Has (flat_map f xs) y
has_flat f [] x y h g = absurd h
has_flat f (z ∷ xs) x y (inl e) g = has_left (f z) (flat_map f xs) y (subst (λ w. Has (f w) y) (sym e) g)
has_flat f (z ∷ xs) x y (inr h) g = has_right (f z) (flat_map f xs) y (has_flat f xs x y h g)

module _ (x : ℕ) (nodes : List Node) (one : HasOneHolder x nodes) where
  of_one : (first second : Holder) → Has (one.0 ∷ []) first → Has (one.0 ∷ []) second → first ≡ second
  of_one first second h g = ⊎_elim (λ e. ⊎_elim (λ d. sym e ∙ d) (λ n. absurd n) g) (λ n. absurd n) h

  same_holder : (first second : Holder) → Has (holders x nodes) first → Has (holders x nodes) second → first ≡ second
  same_holder first second h g = of_one first second (subst (λ hs. Has hs first) one.1 h) (subst (λ hs. Has hs second) one.1 g)

  by_node : (number : ℕ) (node : Node) (segment : Segment) → node_at number nodes ≡ Some node → Has node.held segment → in_span segment.span x ≡ true
      → Has (holders x nodes) (holder.Node node.number)
  by_node number node segment at h inside =
      has_flat (λ (n : Node). at_node x n ++ holders_under_way x (last_taken nodes) n) nodes node (holder.Node node.number) (nodes_by.has number nodes node at)
      (has_left (at_node x node) (holders_under_way x (last_taken nodes) node) (holder.Node node.number)
      (has_mapped (λ (s : Segment). holder.Node node.number) (filter (λ (s : Segment). in_span s.span x) node.held) segment
      (has_filter_back (λ (s : Segment). in_span s.span x) node.held segment h inside)))

  by_handover : (number : ℕ) (node : Node) (item : Item) → node_at number nodes ≡ Some node → Has node.outbox item → last_taken nodes item.to number < item.number
      → in_span item.segment.span x ≡ true → Has (holders x nodes) (holder.UnderWay node.number item.to item.number)
  by_handover number node item at h late inside =
      let test : Item → Bool = λ (i : Item). in_span i.segment.span x && ltb (last_taken nodes i.to node.number) i.number in
      let own : last_taken nodes item.to node.number < item.number = subst (λ n. last_taken nodes item.to n < item.number) (sym (nodes_by.number number nodes node at)) late in
      has_flat (λ (n : Node). at_node x n ++ holders_under_way x (last_taken nodes) n) nodes node (holder.UnderWay node.number item.to item.number) (nodes_by.has number nodes node at)
      (has_right (at_node x node) (holders_under_way x (last_taken nodes) node) (holder.UnderWay node.number item.to item.number)
      (has_mapped (λ (i : Item). holder.UnderWay node.number i.to i.number) (filter test node.outbox) item
      (has_filter_back test node.outbox item h (and_from (in_span item.segment.span x) (ltb (last_taken nodes item.to node.number) item.number) inside (lt-ltb _ _ own)))))

  -- two nodes do not hold it
  one_node : (first second : ℕ) (node other : Node) (mine theirs : Segment) → node_at first nodes ≡ Some node → node_at second nodes ≡ Some other
      → Has node.held mine → Has other.held theirs → in_span mine.span x ≡ true → in_span theirs.span x ≡ true → first ≡ second
  one_node first second node other mine theirs at there h g inside also =
      let same : holder.Node node.number ≡ holder.Node other.number =
      same_holder (holder.Node node.number) (holder.Node other.number) (by_node first node mine at h inside) (by_node second other theirs there g also) in
      let number : node.number ≡ other.number = cc in
      sym (nodes_by.number first nodes node at) ∙ number ∙ nodes_by.number second nodes other there

  -- nor a node and a handover
  not_both : (number from : ℕ) (node sender : Node) (segment : Segment) (item : Item) → node_at number nodes ≡ Some node → node_at from nodes ≡ Some sender
      → Has node.held segment → Has sender.outbox item → last_taken nodes item.to from < item.number → in_span segment.span x ≡ true → in_span item.segment.span x ≡ true → ⊥
  not_both number from node sender segment item at there h g late inside also =
      let same : holder.Node node.number ≡ holder.UnderWay sender.number item.to item.number =
      same_holder (holder.Node node.number) (holder.UnderWay sender.number item.to item.number)
      (by_node number node segment at h inside) (by_handover from sender item there g late also) in
      absurd (cc)

-- the holder after it executed the call

raised_floor : (done : Done) (floor : ℕ) (segment : Segment) → floor ≤ mark_of done.caller (append done floor segment).floors
unfolding append
raised_floor done floor segment = omega (arith, mark_lifted done.caller floor segment.floors)

module _ (nodes : List Node) (number : ℕ) (node : Node) (here : node_at number nodes ≡ Some node) (apart_at_node : AllApart node.held)
    (ask : Ask) (segment : Segment) (found : segment_with (id_of ask.request) node.held ≡ Some segment) (one : HasOneHolder (id_of ask.request) nodes) where
  pub raises : Floored (id_of ask.request) (key_id-below (key_of ask.request)) ask.caller ask.floor (put_node (with_executed ask node) nodes)
  raises =
      let place = segment_found (id_of ask.request) node.held segment found in
      let own : node_at node.number nodes ≡ Some node = ap (λ n. node_at n nodes) (nodes_by.number number nodes node here) ∙ here in
      let id_in : id_of ask.request < 2 ^ 128 = key_id-below (key_of ask.request) in
      record {
        held = λ other_number other held e h inside. ⊎_elim
            (λ r. ⊎_elim
            (λ is. subst (λ (s : Segment). ask.floor ≤ mark_of ask.caller s.floors) is (raised_floor (done_of ask (reply_to ask.request node.entries)) ask.floor segment))
            (λ q. absurd (true≢false (sym inside ∙ apart_at_node q.0 q.1 segment held q.2 q.3 q.4 (id_of ask.request) id_in place.0)))
            (append_cases (id_of ask.request) (done_of ask (reply_to ask.request node.entries)) ask.floor node.held segment held found
            (subst (λ (n : Node). Has n.held held) (sym r.1) h)))
            (λ r. absurd (r.0 (one_node (id_of ask.request) nodes one other_number node.number other node held segment r.1 own h place.1 inside place.0)))
            (put_node_cases (with_executed ask node) nodes node other_number other own e);
        under_way = λ from sender item e h late inside.
            let still : last_taken nodes item.to from < item.number =
            lt_of_le_of_lt (last_grows (with_executed ask node) nodes node own (λ giver. omega arith) item.to from) late in
            ⊎_elim
            (λ r. absurd (not_both (id_of ask.request) nodes one node.number from node node segment item own (ap (λ n. node_at n nodes) r.0 ∙ own) place.1
            (subst (λ (n : Node). Has n.outbox item) (sym r.1) h) still place.0 inside))
            (λ r. absurd (not_both (id_of ask.request) nodes one node.number from node sender segment item own r.1 place.1 h still place.0 inside))
            (put_node_cases (with_executed ask node) nodes node from sender own e);
      }

-- a step that executes an Ask

some_nodes : (number : ℕ) (node : Node) (nodes : List Node) → node_at number nodes ≡ Some node → nodes ≢ []
unfolding node_at
some_nodes number node [] e = absurd (none-some node e)
some_nodes number node (first ∷ rest) e = λ none. cc

-- each identifier has one holder
abbrev pub OneHolder : World → Type 0
OneHolder world = world.nodes ≢ [] → (x : ℕ) → x < 2 ^ 128 → HasOneHolder x world.nodes

pub record Execution (old new : World) (ask : Ask) : Type 0 where
  pub low : Floored (id_of ask.request) (key_id-below (key_of ask.request)) ask.caller ask.floor new.nodes
  pub some : new.nodes ≢ []
  pub was : Has old.sent (AskMessage ask)

by_acts : (old : World) → Reached old → OneHolder old → (number : ℕ) (node after : Node) (taken sent : Option Message) (call : Option Done) → node_at number old.nodes ≡ Some node → WasSent old.sent taken
    → (step : NodeStep node taken after sent call) → (ask : Ask) → ask_executed_by step ≡ Some ask
    → Execution old (record old { nodes = put_node after old.nodes; sent = with_one old.sent sent; history = with_one old.history call }) ask
by_acts old reached one number node after taken sent call here was (NodeStep.Executes other segment found past) ask e =
    subst (λ (a : Ask). Execution old (record old {
      nodes = put_node (with_executed other node) old.nodes;
      sent = with_one old.sent sent;
      history = old.history ++ done_of other (reply_to other.request node.entries) ∷ [];
    }) a) (same_Some other ask e)
    (record {
      low = raises old.nodes number node here (held_apart old reached number node here) other segment found
          (one (some_nodes number node old.nodes here) (id_of other.request) (key_id-below (key_of other.request)));
      some = put_not_empty (with_executed other node) old.nodes node (ap (λ n. node_at n old.nodes) (nodes_by.number number old.nodes node here) ∙ here);
      was = has_contained old.sent (AskMessage other) was;
    })
by_acts old reached one number node after taken sent call here was step ask e = absurd (none-some ask e)

pub execution : (old new : World) → Reached old → OneHolder old → (step : WorldStep old new) → (ask : Ask) → ask_executed_in step ≡ Some ask → Execution old new ask
execution old new reached one (WorldStep.Acts number node after taken sent call here was step) ask e = by_acts old reached one number node after taken sent call here was step ask e
execution old new reached one step ask e = absurd (none-some ask e)

-- any other step executes nothing

nothing_by_node : (node after : Node) (taken sent : Option Message) (call : Option Done) → (step : NodeStep node taken after sent call) → ask_executed_by step ≡ None → call ≡ None
nothing_by_node node after taken sent call (NodeStep.Executes ask segment found past) e = absurd (none-some ask (sym e))
nothing_by_node node after taken sent call step e = refl

pub nothing : (old new : World) → (step : WorldStep old new) → ask_executed_in step ≡ None → new.history ≡ old.history
nothing old new (WorldStep.Acts number node after taken sent call here was step) e = ap (with_one old.history) (nothing_by_node node after taken sent call step e)
nothing old new step e = refl

added_by_node : (history : List Done) (node after : Node) (taken sent : Option Message) (call : Option Done) → (step : NodeStep node taken after sent call) → (ask : Ask) → ask_executed_by step ≡ Some ask
    → (reply : Reply) × (with_one history call ≡ history ++ done_of ask reply ∷ [])
added_by_node history node after taken sent call (NodeStep.Executes other segment found past) ask e =
    (reply_to other.request node.entries, ap (λ (a : Ask). history ++ done_of a (reply_to other.request node.entries) ∷ []) (same_Some other ask e))
added_by_node history node after taken sent call step ask e = absurd (none-some ask e)

-- and this one adds its call
pub added : (old new : World) → (step : WorldStep old new) → (ask : Ask) → ask_executed_in step ≡ Some ask → (reply : Reply) × (new.history ≡ old.history ++ done_of ask reply ∷ [])
added old new (WorldStep.Acts number node after taken sent call here was step) ask e = added_by_node old.history node after taken sent call step ask e
added old new step ask e = absurd (none-some ask e)
