-- No identifier is held twice: the facts about holders, in the form that the history's part uses.
use Rattle.std.proofs.Common.{◌≡◌, ◌≢◌, ℕ, ◌+◌, ◌^◌, ◌<◌, ◌≤◌, Bool, true, false, eqb, ◌⊎◌, inl, inr, ⊎_elim, refl, sym, ◌∙◌, ap, subst, arith, List, [], ◌∷◌, Some}
use Rattle.std.proofs.lemmas.Bool.{cases_eq, true≢false, eq-eqb, ne_eqb, cond-true, cond-false}
use Rattle.std.proofs.lemmas.Option.{none-some, same_Some}
use Rattle.chord_handover.proofs.Counting.{count}
use Rattle.chord_handover.specs.Handover.{Item}
use Rattle.chord_ident.proofs.Spans.{one_if}
use Rattle.chord_ident.specs.Circle.{in_span, key_id}
use Rattle.chord_map.proofs.Each.{Each as Every}
use Rattle.chord_map.proofs.Lists.{by_test, Has, contains_has}
use Rattle.chord_map.proofs.MapLemmas.{has_of}
use Rattle.chord_model.proofs.Channels.{taken_in, gone_in, gone_by, item_from}
use Rattle.chord_model.proofs.Clash.{held_apart, placed_reached}
use Rattle.chord_model.proofs.Events.{SegmentOn, sender_of}
use Rattle.chord_model.proofs.Invariant.{HolderFacts}
use Rattle.chord_model.proofs.Kept.{Sound, sound_reached, gone_test}
use Rattle.chord_model.proofs.NodeLemmas.{item_found}
use Rattle.chord_model.proofs.Placed.{InHeld, InSegment, ItemPlaced}
use Rattle.chord_model.proofs.Totals.{has, awaits, weight, total, awaits_yes}
use Rattle.chord_model.proofs.Whole.{whole_ok}
use Rattle.chord_model.specs.declared.message.Message.TheVariants.{Part as PartMessage, Declined as DeclinedMessage}
use Rattle.chord_model.specs.Node.{Node}
use Rattle.chord_model.specs.World.{World, Reached, node_at, last_taken, taken_by}
use Rattle.chord_segment.specs.Marks.{mark_of}
use Rattle.chord_segment.specs.Segment.{Segment}
use Rattle.chord_model.proofs.Numbered.{nodes_by}

pub every_has : {A : Type 0} (P : A → Type 0) (xs : List A) (x : A) → Every P xs → Has xs x → P x
every_has P [] x every h = absurd h
every_has P (y ∷ xs) x every (inl e) = subst P e every.0
every_has P (y ∷ xs) x every (inr h) = every_has P xs x every.1 h

counts_one : {A : Type 0} (p : A → Bool) (xs : List A) (x : A) → Has xs x → p x ≡ true → 1 ≤ count p xs
counts_one p [] x h e = absurd h
counts_one p (y ∷ xs) x (inl same) e = let one : one_if (p y) ≡ 1 = ap (λ z. one_if (p z)) same ∙ ap one_if e in omega arith
counts_one p (y ∷ xs) x (inr h) e = omega (arith, counts_one p xs x h e)

one_counted : {A : Type 0} (p : A → Bool) (xs : List A) → 1 ≤ count p xs → (x : A) × Has xs x × (p x ≡ true)
one_counted p [] some = absurd (omega arith)
one_counted p (y ∷ xs) some =
    by_test (p y) (λ t. (y, inl refl, t))
    (λ f. let none : one_if (p y) ≡ 0 = ap one_if f in let r = one_counted p xs (omega arith) in (r.0, inr r.1, r.2))

-- a node that is looked up is the first, or is looked up in the rest
first_or_rest : (number : ℕ) (first : Node) (rest : List Node) (node : Node) → node_at number (first ∷ rest) ≡ Some node
    → ((first.number ≡ number) × (first ≡ node)) ⊎ ((first.number ≢ number) × (node_at number rest ≡ Some node))
unfolding node_at
first_or_rest number first rest node e =
    ⊎_elim
    (λ same. inl (same, same_Some first node (sym (cond-true (eqb first.number number) (Some first) (node_at number rest) (eq-eqb first.number number same)) ∙ e)))
    (λ apart. inr (apart, sym (cond-false (eqb first.number number) (Some first) (node_at number rest) (ne_eqb first.number number apart)) ∙ e))
    (cases_eq first.number number)

-- a node weighs no more than all
one_weight : (x : ℕ) (taken : ℕ → ℕ → ℕ) (number : ℕ) (node : Node) (nodes : List Node) → node_at number nodes ≡ Some node → weight x taken node ≤ total x taken nodes
unfolding node_at
one_weight x taken number node [] e = absurd (none-some node e)
one_weight x taken number node (first ∷ rest) e =
    ⊎_elim
    (λ here. let same : weight x taken first ≡ weight x taken node = ap (weight x taken) here.1 in omega arith)
    (λ further. omega (arith, one_weight x taken number node rest further.1))
    (first_or_rest number first rest node e)

-- two nodes together weigh no more than all
two_weights : (x : ℕ) (taken : ℕ → ℕ → ℕ) (one_number other_number : ℕ) (one other : Node) (nodes : List Node) → one_number ≢ other_number
    → node_at one_number nodes ≡ Some one → node_at other_number nodes ≡ Some other → weight x taken one + weight x taken other ≤ total x taken nodes
unfolding node_at
two_weights x taken one_number other_number one other [] apart e d = absurd (none-some one e)
two_weights x taken one_number other_number one other (first ∷ rest) apart e d =
    ⊎_elim
    (λ here.
    let same : weight x taken first ≡ weight x taken one = ap (weight x taken) here.1 in
    ⊎_elim (λ there. absurd (apart (sym here.0 ∙ there.0)))
    (λ further. omega (arith, one_weight x taken other_number other rest further.1))
    (first_or_rest other_number first rest other d))
    (λ further.
    ⊎_elim
    (λ there.
    let same : weight x taken first ≡ weight x taken other = ap (weight x taken) there.1 in
    omega (arith, one_weight x taken one_number one rest further.1))
    (λ behind. omega (arith, two_weights x taken one_number other_number one other rest apart further.1 behind.1))
    (first_or_rest other_number first rest other d))
    (first_or_rest one_number first rest one e)

some_nodes : (number : ℕ) (node : Node) (nodes : List Node) → node_at number nodes ≡ Some node → nodes ≢ []
unfolding node_at
some_nodes number node [] e none = none-some node e
some_nodes number node (first ∷ rest) e none = cc

module _ (world : World) (reached : Reached world) where
  sound : Sound world.nodes world.sent
  sound = sound_reached world reached

  taken : ℕ → ℕ → ℕ
  taken to from = taken_in world.nodes to from

  only_one : (x number : ℕ) (node : Node) → node_at number world.nodes ≡ Some node → x < 2 ^ 128 → total x (taken_in world.nodes) world.nodes ≡ 1
  only_one x number node here x_in = sound.one x x_in (some_nodes number node world.nodes here)

  held_weight : (x : ℕ) (node : Node) (segment : Segment) → Has node.held segment → in_span segment.span x ≡ true → 1 ≤ count (has x) node.held
  held_weight x node segment h inside = counts_one (has x) node.held segment h inside

  last_is : (to from : ℕ) → last_taken world.nodes to from ≡ taken_in world.nodes to from
  unfolding last_taken
  last_is to from = refl

  way_weight : (x from : ℕ) (sender : Node) (item : Item) → node_at from world.nodes ≡ Some sender → Has sender.outbox item → last_taken world.nodes item.to from < item.number
      → in_span item.segment.span x ≡ true → 1 ≤ count (awaits x (λ to. taken_in world.nodes to sender.number)) sender.outbox
  way_weight x from sender item here h late inside =
      let above : taken_in world.nodes item.to sender.number < item.number =
      subst (λ n. taken_in world.nodes item.to n < item.number) (sym (nodes_by.number from world.nodes sender here)) (omega (arith, last_is item.to from)) in
      counts_one (awaits x (λ to. taken_in world.nodes to sender.number)) sender.outbox item h
      (awaits_yes x (λ to. taken_in world.nodes to sender.number) item above ∙ inside)

  pub holder_facts : HolderFacts world
  holder_facts = record {
    apart_at_node = λ number node first second one other x here got got_other x_in inside also.
        ⊎_elim (λ same. same)
        (λ apart. absurd (true≢false (sym also ∙ held_apart world reached number node here first second one other got got_other apart x x_in inside)))
        (cases_eq first second);
    apart_nodes = λ first second one other mine theirs x here there h k x_in inside also.
        ⊎_elim (λ same. same)
        (λ apart. absurd (omega (
          arith,
          two_weights x (taken_in world.nodes) first second one other world.nodes apart here there,
          only_one x first one here x_in,
          held_weight x one mine h inside,
          held_weight x other theirs k also,
        )))
        (cases_eq first second);
    apart_under_way = λ number from node sender segment item x here there h k late x_in inside also.
        ⊎_elim
        (λ same.
        let is : sender ≡ node = same_Some sender node (sym there ∙ ap (λ n. node_at n world.nodes) (sym same) ∙ here) in
        let held : 1 ≤ count (has x) sender.held = held_weight x sender segment (subst (λ (n : Node). Has n.held segment) (sym is) h) inside in
        omega (arith, one_weight x (taken_in world.nodes) from sender world.nodes there, only_one x number node here x_in, way_weight x from sender item there k late also))
        (λ apart. omega (
          arith,
          two_weights x (taken_in world.nodes) number from node sender world.nodes apart here there,
          only_one x number node here x_in,
          held_weight x node segment h inside,
          way_weight x from sender item there k late also,
        ))
        (cases_eq number from);
    entries_held = λ number node pair here in_entries.
        one_counted (has (key_id pair.key)) node.held
        (every_has (InHeld node.held) node.entries pair (placed_reached world reached number node here).entries (has_of pair node.entries in_entries));
    items_inside = λ number node item pair here h in_item.
        every_has (InSegment item.segment) item.pairs pair
        (every_has ItemPlaced node.outbox item (placed_reached world reached number node here).outbox h).pairs (has_of pair item.pairs in_item);
    next_in_outbox = λ node part handover here was whole next stays.
        let gone : gone_in world.nodes handover.to ≡ false = ap gone_by here ∙ gone_test node.phase stays in
        let is : taken_in world.nodes handover.to handover.from ≡ mark_of handover.from node.taken = ap (λ o. taken_by o handover.from) here in
        let above : taken_in world.nodes handover.to handover.from < handover.number = omega arith in
        let ok = whole_ok world.nodes world.sent sound.channels.messages part node.buffered handover (contains_has world.sent (PartMessage part) was) (sound.buffered handover.to node here) whole gone above in
        let sender = sender_of (node_at handover.from world.nodes) handover.to handover.number (item_from handover) (ok.kept gone above) in
        let there : Has sender.0.outbox (item_from handover) = (item_found handover.to handover.number sender.0.outbox (item_from handover) sender.2).2 in
        (sender.0, item_from handover, sender.1, there, refl, refl, refl, refl);
    declined_not_taken = λ number node ticket item here was from found.
        let ok = sound.channels.messages (DeclinedMessage ticket) (contains_has world.sent (DeclinedMessage ticket) was) in
        subst (λ n. last_taken world.nodes ticket.to n < ticket.number) from (omega (arith, ok.above, last_is ticket.to ticket.from));
    spans_bounded = λ number node segment here h. every_has SegmentOn node.held segment (sound.locals number node here).held_on h;
  }
