-- The invariant of all nodes, and that every step keeps it.
use Rattle.std.proofs.lemmas.List.Elements.{Contains-append_left}
use Rattle.std.proofs.Common.{◌≡◌, ◌≢◌, ℕ, ◌+◌, ◌^◌, ◌<◌, false, Option, Some, None, List, [], ◌∷◌, ◌++◌, ◌⊎◌, inl, inr, ⊎_elim, refl, sym, ◌∙◌, ap, subst, arith, Contains}
use Rattle.chord_caller.specs.Caller.{Caller, CallerStep, Letter}
use Rattle.chord_caller.specs.Caller.CallerStep.{Submits, Repeats, Takes as Hears, Gives_up, Ignores, Hears_full, Shows, Meets}
use Rattle.chord_handover.proofs.Counting.{count}
use Rattle.chord_handover.proofs.OutboxLemmas.{DistinctItems, item_at_is}
use Rattle.chord_handover.specs.Handover.{Part, part_at, ticket_of_part, item_at, handover_of}
use Rattle.chord_ident.proofs.Spans.{one_if, whole_circle}
use Rattle.chord_map.proofs.Each.{Each, Each-set, Each-insert, Each-remove, Each-slice_get}
use Rattle.chord_map.proofs.Lists.{Has, has_pushed, has_filter}
use Rattle.chord_model.proofs.Channels.{is_gone, gone_by, given_by, item_by, taken_in, given_in, item_in, gone_in, MessageOk, Channels, Later, MessageOk-later, Channels-later, Channels_with, part_ok}
use Rattle.chord_model.proofs.Events.{SegmentOn, ItemOn, Local, Event, same_event, quiet_event, count-append_at, append_at_on, count-cut, count-join, joined_on, give_event, frees_event, takes_back_event, take_event, kept_was_given}
use Rattle.chord_model.proofs.Nodes.{DistinctNodes, at_put, at_push, DistinctNodes-put, DistinctNodes_push, put_node_some}
use Rattle.chord_model.proofs.Totals.{has, awaits, total, total-append, total_same}
use Rattle.chord_model.proofs.Whole.{whole_ok}
use Rattle.chord_model.specs.declared.message.Message.{Message}
use Rattle.chord_model.specs.Letters.{letter_sent}
use Rattle.chord_model.specs.declared.message.Message.TheVariants.{Part as PartMessage, Got as GotMessage, Declined as DeclinedMessage}
use Rattle.chord_model.specs.declared.phase.Phase.{Phase}
use Rattle.chord_model.specs.Node.{Node, NodeStep, founder, newborn}
use Rattle.chord_model.specs.Node.NodeStep.{Tells_again, Drops_seen, Executes, Answers_full, Forwards, Drops, Got_again, Declines, Buffers, Takes, Waits, Frees, Takes_back, Keeps, Cuts, Joins, Gives, Gives_again, Links_change, Leaves, Retires}
use Rattle.chord_model.specs.World.{World, WorldStep, Reached, node_at, put_node, WasSent, taken_by, with_one}
use Rattle.chord_model.specs.World.Run.{Stays, Goes_on}
use Rattle.chord_model.specs.World.WorldStep.{Creates, Joins as Arrives, Opens, Calls, Acts}
use Rattle.chord_model.specs.declared.phase.Phase.TheVariants.{Staying, Leaving, Gone}
use Rattle.chord_segment.specs.Marks.{mark_of}
use Rattle.chord_segment.specs.Segment.{id_of, part_before, part_behind}
use Rattle.chord_map.specs.declared.done.Done.{Done}
use Rattle.chord_model.proofs.Numbered.{nodes_by}

-- what holds of all nodes and messages
pub record Sound (nodes : List Node) (sent : List Message) : Type 0 where
  pub distinct : DistinctNodes nodes
  pub channels : Channels nodes sent
  pub locals : (number : ℕ) (node : Node) → node_at number nodes ≡ Some node → Local node
  pub one : (x : ℕ) → x < 2 ^ 128 → nodes ≢ [] → total x (taken_in nodes) nodes ≡ 1
  -- a buffered part was sent
  pub buffered : (number : ℕ) (node : Node) → node_at number nodes ≡ Some node → (part : Part) → Has node.buffered part → Contains sent (PartMessage part)

contained_more : (sent : List Message) (out : Option Message) (message : Message) → Contains sent message → Contains (with_one sent out) message
contained_more sent None message c = c
contained_more sent (Some other) message c = Contains-append_left sent (other ∷ []) message c

-- a buffered part was buffered before, or is taken in now
buffered_step : (node : Node) (taken : Option Message) (after : Node) (out : Option Message) (did : Option Done) → NodeStep node taken after out did
    → (sent : List Message) → WasSent sent taken → ((part : Part) → Has node.buffered part → Contains sent (PartMessage part))
    → (part : Part) → Has after.buffered part → Contains sent (PartMessage part)
buffered_step node taken after out did (Buffers new here next stays) sent was all part h =
    ⊎_elim (λ there. all part there) (λ e. subst (λ (p : Part). Contains sent (PartMessage p)) e was) (has_pushed node.buffered new part h)
buffered_step node taken after out did (Takes new handover here next stays whole) sent was all part h = all part (has_filter _ node.buffered part h).0
buffered_step node taken after out did (Retires leaves held outbox) sent was all part h = absurd h
buffered_step node taken after out did step sent was all part h = all part h

pub gone_test : (phase : Phase) → phase ≢ Gone → is_gone phase ≡ false
gone_test Staying h = refl
gone_test Leaving h = refl
gone_test Gone h = absurd (h refl)

saying : (nodes : List Node) (new : Message) → MessageOk nodes new → (message : Message) → Some new ≡ Some message → MessageOk nodes message
saying nodes new ok message e = let same : new ≡ message = cc in subst (MessageOk nodes) same ok

silent : (nodes : List Node) (message : Message) → None ≡ Some message → MessageOk nodes message
silent nodes message e = cc

-- every step of a node
pub event : (nodes : List Node) (sent : List Message) (node : Node) (taken : Option Message) (after : Node) (out : Option Message) (did : Option Done)
    → Sound nodes sent → node_at node.number nodes ≡ Some node → WasSent sent taken → NodeStep node taken after out did → Event nodes node after out
event nodes sent node taken after out did sound at was (Tells_again ask segment done found past) =
    same_event nodes sent node _ sound.channels at (sound.locals node.number node at) (saying nodes _ tt)
event nodes sent node taken after out did sound at was (Drops_seen ask segment found past) =
    same_event nodes sent node _ sound.channels at (sound.locals node.number node at) (silent nodes)
event nodes sent node taken after out did sound at was (Executes ask segment found past) =
    let local = sound.locals node.number node at in
    quiet_event nodes sent node _ _ sound.channels at refl refl refl refl (λ h. h)
    (record { items = local.items; held_on = append_at_on (id_of ask.request) _ ask.floor node.held local.held_on; outbox_on = local.outbox_on })
    (λ x x_in. count-append_at x (id_of ask.request) _ ask.floor node.held) (saying nodes _ tt)
event nodes sent node taken after out did sound at was (Answers_full ask segment found past added full) =
    same_event nodes sent node _ sound.channels at (sound.locals node.number node at) (saying nodes _ tt)
event nodes sent node taken after out did sound at was (Forwards ask hops found fewer) =
    same_event nodes sent node _ sound.channels at (sound.locals node.number node at) (saying nodes _ tt)
event nodes sent node taken after out did sound at was (Drops ask found) =
    same_event nodes sent node _ sound.channels at (sound.locals node.number node at) (silent nodes)
event nodes sent node taken after out did sound at was (Got_again handover here seen) =
    same_event nodes sent node _ sound.channels at (sound.locals node.number node at)
    (saying nodes (GotMessage (ticket_of_part handover))
    (let e : taken_in nodes handover.to handover.from ≡ mark_of handover.from node.taken = ap (λ n. taken_in nodes n handover.from) here ∙ ap (λ o. taken_by o handover.from) at in omega arith))
event nodes sent node taken after out did sound at was (Declines handover here above gone) =
    same_event nodes sent node _ sound.channels at (sound.locals node.number node at)
    (saying nodes (DeclinedMessage (ticket_of_part handover)) (record {
      gone = ap (gone_in nodes) here ∙ (ap gone_by at ∙ ap is_gone gone);
      above = let e : taken_in nodes handover.to handover.from ≡ mark_of handover.from node.taken = ap (λ n. taken_in nodes n handover.from) here ∙ ap (λ o. taken_by o handover.from) at in omega arith;
    }))
event nodes sent node taken after out did sound at was (Buffers part here next stays) =
    let local = sound.locals node.number node at in
    quiet_event nodes sent node _ _ sound.channels at refl refl refl refl (λ h. h)
    (record { items = local.items; held_on = local.held_on; outbox_on = local.outbox_on }) (λ x x_in. refl) (silent nodes)
event nodes sent node taken after out did sound at was (Takes part handover here next stays whole) =
    take_event nodes sent node handover sound.distinct sound.channels sound.locals at here next (gone_test node.phase stays)
    (whole_ok nodes sent sound.channels.messages part node.buffered handover was (sound.buffered node.number node at) whole
    (rw here (rw at (gone_test node.phase stays))) (rw here (rw at (omega arith))))
event nodes sent node taken after out did sound at was (Waits handover here above stays) =
    same_event nodes sent node _ sound.channels at (sound.locals node.number node at) (silent nodes)
event nodes sent node taken after out did sound at was (Frees ticket here) =
    frees_event nodes sent node ticket sound.channels at (sound.locals node.number node at) here (sound.channels.messages (GotMessage ticket) was)
event nodes sent node taken after out did sound at was (Takes_back ticket item here found) =
    takes_back_event nodes sent node ticket item sound.channels at (sound.locals node.number node at) here found (sound.channels.messages (DeclinedMessage ticket) was)
event nodes sent node taken after out did sound at was (Keeps ticket here) =
    same_event nodes sent node _ sound.channels at (sound.locals node.number node at) (silent nodes)
event nodes sent node taken after out did sound at was (Cuts place segment cut found circle inside) =
    let local = sound.locals node.number node at in
    let on = Each-slice_get SegmentOn node.held place segment found local.held_on in
    quiet_event nodes sent node _ _ sound.channels at refl refl refl refl (λ h. h)
    (record {
      items = local.items;
      held_on = Each-insert SegmentOn _ (place + 1) (part_behind cut segment) (Each-set SegmentOn node.held place (part_before cut segment) local.held_on (on.0, circle)) (circle, on.1);
      outbox_on = local.outbox_on;
    })
    (λ x x_in. count-cut x place segment cut node.held x_in on circle found inside) (silent nodes)
event nodes sent node taken after out did sound at was (Joins place first place_behind second found found' apart meet cut) =
    let local = sound.locals node.number node at in
    let on = Each-slice_get SegmentOn node.held place first found local.held_on in
    let on' = Each-slice_get SegmentOn node.held place_behind second found' local.held_on in
    quiet_event nodes sent node _ _ sound.channels at refl refl refl refl (λ h. h)
    (record {
      items = local.items;
      held_on = Each-remove SegmentOn _ place_behind (Each-set SegmentOn node.held place _ local.held_on (joined_on first second on on'));
      outbox_on = local.outbox_on;
    })
    (λ x x_in. count-join x place first place_behind second node.held x_in on on' found found' apart meet cut) (silent nodes)
event nodes sent node taken after out did sound at was (Gives place segment to found) =
    give_event nodes sent node place segment to sound.channels at (sound.locals node.number node at) found
event nodes sent node taken after out did sound at was (Gives_again to number place item found from below) =
    let is = item_at_is to number node.outbox item found in
    let found' : item_at item.to item.number node.outbox ≡ Some item =
    ap (λ n. item_at item.to n node.outbox) is.1 ∙ (ap (λ a. item_at a number node.outbox) is.0 ∙ found) in
    same_event nodes sent node _ sound.channels at (sound.locals node.number node at)
    (saying nodes (PartMessage (part_at (handover_of node.number item) place)) (part_ok nodes (handover_of node.number item) place (record {
      given = rw at (kept_was_given nodes sent node sound.channels at item.to item.number item found');
      kept = λ stays above. ap (λ o. item_by o item.to item.number) at ∙ found';
    })))
event nodes sent node taken after out did sound at was (Links_change links same) =
    let local = sound.locals node.number node at in
    quiet_event nodes sent node _ _ sound.channels at refl refl refl refl (λ gone. gone)
    (record { items = local.items; held_on = local.held_on; outbox_on = local.outbox_on }) (λ x x_in. refl) (silent nodes)
event nodes sent node taken after out did sound at was (Leaves stays) =
    let local = sound.locals node.number node at in
    quiet_event nodes sent node _ _ sound.channels at refl refl refl refl (λ gone. let staying = ap is_gone stays in cc)
    (record { items = local.items; held_on = local.held_on; outbox_on = local.outbox_on }) (λ x x_in. refl) (silent nodes)
event nodes sent node taken after out did sound at was (Retires leaves held outbox) =
    let local = sound.locals node.number node at in
    quiet_event nodes sent node _ _ sound.channels at refl refl refl refl (λ gone. refl)
    (record { items = local.items; held_on = local.held_on; outbox_on = local.outbox_on }) (λ x x_in. refl) (silent nodes)

-- a step of a node keeps all
act_sound : (nodes : List Node) (sent : List Message) (node after : Node) (out : Option Message) → Sound nodes sent → node_at node.number nodes ≡ Some node
    → ((part : Part) → Has after.buffered part → Contains sent (PartMessage part))
    → Event nodes node after out → Sound (put_node after nodes) (with_one sent out)
act_sound nodes sent node after out sound at buffered event =
    let at' : node_at after.number nodes ≡ Some node = rw event.change.same_number at in
    record {
      distinct = DistinctNodes-put after nodes sound.distinct;
      channels = Channels_with (put_node after nodes) sent out (Channels-later nodes sent node after sound.channels at event.change) event.says;
      locals = λ number other e. at_put (λ number old new. ((node : Node) → old ≡ Some node → Local node) → (node : Node) → new ≡ Some node → Local node) after node nodes at'
          (λ part_before other e. let same : after ≡ other = cc in subst Local same event.local) (λ number other h. h) number (sound.locals number) other e;
      one = λ x x_in some. event.totals x x_in ∙ sound.one x x_in (put_node_some after nodes some);
      buffered = λ number other e part h. contained_more sent out (PartMessage part)
          (at_put (λ number old new. ((node : Node) → old ≡ Some node → (part : Part) → Has node.buffered part → Contains sent (PartMessage part))
          → (node : Node) → new ≡ Some node → (part : Part) → Has node.buffered part → Contains sent (PartMessage part)) after node nodes at'
          (λ part_before other e part h. let same : after ≡ other = cc in buffered part (subst (λ (n : Node). Has n.buffered part) (sym same) h)) (λ number other h. h)
          number (sound.buffered number) other e part h);
    }

-- a node as it begins, with no handover of its own
pub record IsFresh (node : Node) : Type 0 where
  pub stays : node.phase ≡ Staying
  pub given : node.given ≡ []
  pub taken : node.taken ≡ []
  pub outbox : node.outbox ≡ []
  pub buffered : node.buffered ≡ []

fresh_taken : (node : Node) → IsFresh node → (from : ℕ) → mark_of from node.taken ≡ 0
unfolding mark_of
fresh_taken node fresh from = ap (mark_of from) fresh.taken

fresh_given : (node : Node) → IsFresh node → (to : ℕ) → mark_of to node.given ≡ 0
unfolding mark_of
fresh_given node fresh to = ap (mark_of to) fresh.given

fresh_item : (node : Node) → IsFresh node → (to number : ℕ) → item_at to number node.outbox ≡ None
unfolding item_at
fresh_item node fresh to number = ap (item_at to number) fresh.outbox

-- a new node keeps all, except that its segments are now held
fresh_channels : (nodes : List Node) (sent : List Message) (new : Node) → Channels nodes sent → node_at new.number nodes ≡ None → IsFresh new → Channels (nodes ++ new ∷ []) sent
fresh_channels nodes sent new channels none fresh =
    let nodes' = nodes ++ new ∷ [] in
    let taken : (to from : ℕ) → taken_in nodes' to from ≡ taken_in nodes to from =
    at_push (λ to old new. (from : ℕ) → taken_by new from ≡ taken_by old from) new nodes none (fresh_taken new fresh) (λ to other from. refl) in
    let given : (from to : ℕ) → given_in nodes' from to ≡ given_in nodes from to =
    at_push (λ from old new. (to : ℕ) → given_by new to ≡ given_by old to) new nodes none (fresh_given new fresh) (λ from other to. refl) in
    let items : (from to number : ℕ) → item_in nodes' from to number ≡ item_in nodes from to number =
    at_push (λ from old new. (to number : ℕ) → item_by new to number ≡ item_by old to number) new nodes none (fresh_item new fresh) (λ from other to number. refl) in
    let gone : (number : ℕ) → gone_in nodes' number ≡ gone_in nodes number =
    at_push (λ number old new. gone_by new ≡ gone_by old) new nodes none (ap is_gone fresh.stays) (λ number other. refl) in
    let later : Later nodes nodes' = record {
      taken_grows = λ to from. let t = taken to from in omega arith;
      gone_takes_none = λ to from h. taken to from;
      given_grows = λ from to. let g = given from to in omega arith;
      gone_stays = λ number h. gone number ∙ h;
      items_stay = λ from to number h above below. items from to number;
    } in
    record {
      behind = λ to from. let t = taken to from in let g = given from to in let b = channels.behind to from in omega arith;
      numbered = λ from to number item e. let g = given from to in let n = channels.numbered from to number item (sym (items from to number) ∙ e) in omega arith;
      messages = λ message was. MessageOk-later nodes nodes' later message (channels.messages message was);
    }

fresh_total : (nodes : List Node) (new : Node) (x : ℕ) → node_at new.number nodes ≡ None → IsFresh new
    → total x (taken_in (nodes ++ new ∷ [])) (nodes ++ new ∷ []) ≡ total x (taken_in nodes) nodes + count (has x) new.held
fresh_total nodes new x none fresh =
    let nodes' = nodes ++ new ∷ [] in
    let taken : (to from : ℕ) → taken_in nodes' to from ≡ taken_in nodes to from =
    at_push (λ to old new. (from : ℕ) → taken_by new from ≡ taken_by old from) new nodes none (fresh_taken new fresh) (λ to other from. refl) in
    let same = total_same x (taken_in nodes') (taken_in nodes) taken nodes in
    let both = total-append x (taken_in nodes') nodes (new ∷ []) in
    let way = ap (count (awaits x (λ to. taken_in nodes' to new.number))) fresh.outbox in
    omega arith

fresh_local : (new : Node) → IsFresh new → Each SegmentOn new.held → Local new
fresh_local new fresh on = record {
  items = subst DistinctItems (sym fresh.outbox) tt;
  held_on = on;
  outbox_on = subst (Each ItemOn) (sym fresh.outbox) tt;
}

fresh_sound : (nodes : List Node) (sent : List Message) (new : Node) → Sound nodes sent → node_at new.number nodes ≡ None → IsFresh new → Each SegmentOn new.held
    → ((x : ℕ) → x < 2 ^ 128 → (nodes ≡ []) × (count (has x) new.held ≡ 1) ⊎ (nodes ≢ []) × (count (has x) new.held ≡ 0))
    → Sound (nodes ++ new ∷ []) sent
fresh_sound nodes sent new sound none fresh on counts = record {
  distinct = DistinctNodes_push nodes new none sound.distinct;
  channels = fresh_channels nodes sent new sound.channels none fresh;
  locals = λ number other e. at_push (λ number old new. ((node : Node) → old ≡ Some node → Local node) → (node : Node) → new ≡ Some node → Local node) new nodes none
      (λ part_before other e. let same : new ≡ other = cc in subst Local same (fresh_local new fresh on)) (λ number other h. h) number (sound.locals number) other e;
  one = λ x x_in some. fresh_total nodes new x none fresh ∙ ⊎_elim
      (λ first. let t = ap (λ ns. total x (taken_in nodes) ns) first.0 in let c = first.1 in omega arith)
      (λ later. let o = sound.one x x_in later.0 in let c = later.1 in omega arith) (counts x x_in);
  buffered = λ number other e. at_push (λ number old new. ((node : Node) → old ≡ Some node → (part : Part) → Has node.buffered part → Contains sent (PartMessage part))
      → (node : Node) → new ≡ Some node → (part : Part) → Has node.buffered part → Contains sent (PartMessage part)) new nodes none
      (λ part_before other e part h. let same : new ≡ other = cc in absurd (subst (λ ps. Has ps part) fresh.buffered (subst (λ (n : Node). Has n.buffered part) (sym same) h)))
      (λ number other h. h) number (sound.buffered number) other e;
}

-- a caller sends only asks and notes
caller_says : (nodes : List Node) (caller : Caller) (taken : Option Letter) (after : Caller) (out : Option Letter) → CallerStep caller taken after out
    → (message : Message) → letter_sent out ≡ Some message → MessageOk nodes message
caller_says nodes caller taken after out (Submits request ask room sends) = saying nodes _ tt
caller_says nodes caller taken after out (Repeats number submission ask found pending sends) = saying nodes _ tt
caller_says nodes caller taken after out (Hears told request fresh) = silent nodes
caller_says nodes caller taken after out (Gives_up number submission found pending) = silent nodes
caller_says nodes caller taken after out (Ignores told stale) = silent nodes
caller_says nodes caller taken after out (Hears_full of number) = silent nodes
caller_says nodes caller taken after out Shows = saying nodes _ tt
caller_says nodes caller taken after out (Meets note) = silent nodes

pub none_at : (number : ℕ) → node_at number [] ≡ None
unfolding node_at
none_at number = refl

-- every step of a world keeps all
pub sound_step : (old new : World) → Sound old.nodes old.sent → WorldStep old new → Sound new.nodes new.sent
sound_step old new sound (Creates links limit circle none) =
    subst (λ nodes. Sound (nodes ++ founder links limit ∷ []) old.sent) none
    (fresh_sound old.nodes old.sent (founder links limit) sound (ap (node_at links.me.number) none ∙ none_at links.me.number)
    (record { stays = refl; given = refl; taken = refl; outbox = refl; buffered = refl }) ((circle, circle), tt)
    (λ x x_in. inl (none, ap (λ b. one_if b + 0) (whole_circle links.me.id x circle x_in))))
sound_step old new sound (Arrives links limit circle some new_number) =
    fresh_sound old.nodes old.sent (newborn links limit) sound new_number
    (record { stays = refl; given = refl; taken = refl; outbox = refl; buffered = refl }) tt (λ x x_in. inr (some, refl))
sound_step old new sound (Opens number window low high new_number) = sound
sound_step old new sound (Calls number caller after taken out at was step) =
    record {
      distinct = sound.distinct;
      channels = Channels_with old.nodes old.sent (letter_sent out) sound.channels (caller_says old.nodes caller taken after out step);
      locals = sound.locals;
      one = sound.one;
      buffered = λ number node e part h. contained_more old.sent (letter_sent out) (PartMessage part) (sound.buffered number node e part h);
    }
sound_step old new sound (Acts number node after taken out did at was step) =
    let at' : node_at node.number old.nodes ≡ Some node = ap (λ n. node_at n old.nodes) (nodes_by.number number old.nodes node at) ∙ at in
    act_sound old.nodes old.sent node after out sound at'
    (buffered_step node taken after out did step old.sent was (sound.buffered node.number node at')) (event old.nodes old.sent node taken after out did sound at' was step)

sound_empty : Sound [] []
sound_empty = record {
  distinct = tt;
  channels = record {
    behind = λ to from. let t = ap (λ o. taken_by o from) (none_at to) in omega arith;
    numbered = λ from to number item e. let i : None ≡ Some item = sym (ap (λ o. item_by o to number) (none_at from)) ∙ e in cc;
    messages = λ message was. absurd (let short = was.1 in omega arith);
  };
  locals = λ number node e. let i : None ≡ Some node = sym (none_at number) ∙ e in cc;
  one = λ x x_in some. absurd (some refl);
  buffered = λ number node e. let i : None ≡ Some node = sym (none_at number) ∙ e in cc;
}

pub sound_reached : (world : World) → Reached world → Sound world.nodes world.sent
sound_reached world Stays = sound_empty
sound_reached world (Goes_on {middle} run step) = sound_step middle world (sound_reached middle run) step
