-- Events of nodes and of callers as events of actors.
use Rattle.std.proofs.Common.{◌≡◌, ◌⊎◌, Bool, true, false, Option, Some, None, inl, inr, ⊎_elim, refl, sym, ap, ◌∙◌, subst}
use Rattle.std.proofs.lemmas.Option.{none-some}
use Rattle.chord_map.specs.declared.done.Done.{Done}
use Rattle.chord_model.specs.declared.phase.Phase.{Phase}
use Rattle.chord_caller.specs.Caller.{Caller, CallerStep, Letter}
use Rattle.chord_model.specs.declared.message.Message.{Message}
use Rattle.chord_model.specs.Letters.{message_of, letter_sent}
use Rattle.chord_model.specs.Node.{Node, NodeStep}
use Rattle.chord_model.specs.World.{WasSent}
use Rattle.chord_table.specs.Actors.{Event}
use Rattle.chord_table.specs.Scenes.{links_in, place_of}
use Rattle.chord_table.specs.Seen.{Actor, OfNode, OfCaller}
use Rattle.chord_table.specs.Views.{Sight, NodeSight, CallerSight, node_in, crashed_in, caller_in, as_node, MayBecome, MayAct, MayCall, MayRelink, MayRelinkTo}

-- a step of a node that did not crash leaves its place in the ring, if it takes in or sends a message
keeps_or_silent : (old new : Node) (taken sent : Option Message) (call : Option Done) → NodeStep old taken new sent call
    → (place_of false new ≡ place_of false old) ⊎ ((taken ≡ None) × (sent ≡ None))
keeps_or_silent old new taken sent call (NodeStep.Tells_again ask segment done found past) = inl refl
keeps_or_silent old new taken sent call (NodeStep.Drops_seen ask segment found past) = inl refl
keeps_or_silent old new taken sent call (NodeStep.Executes ask segment found past) = inl refl
keeps_or_silent old new taken sent call (NodeStep.Answers_full ask segment found past adds full) = inl refl
keeps_or_silent old new taken sent call (NodeStep.Forwards ask hops none fewer) = inl refl
keeps_or_silent old new taken sent call (NodeStep.Drops ask none) = inl refl
keeps_or_silent old new taken sent call (NodeStep.Got_again part to low) = inl refl
keeps_or_silent old new taken sent call (NodeStep.Declines part to high phase) = inl refl
keeps_or_silent old new taken sent call (NodeStep.Buffers part to next phase) = inl refl
keeps_or_silent old new taken sent call (NodeStep.Takes part handover to next phase whole) = inl refl
keeps_or_silent old new taken sent call (NodeStep.Waits part to high phase) = inl refl
keeps_or_silent old new taken sent call (NodeStep.Frees ticket from) = inl refl
keeps_or_silent old new taken sent call (NodeStep.Takes_back ticket item from found) = inl refl
keeps_or_silent old new taken sent call (NodeStep.Keeps ticket from) = inl refl
keeps_or_silent old new taken sent call (NodeStep.Cuts place segment at got within cut) = inl refl
keeps_or_silent old new taken sent call (NodeStep.Joins place first place_behind second got_first got_second apart meet cut) = inl refl
keeps_or_silent old new taken sent call (NodeStep.Gives place segment to got) = inl refl
keeps_or_silent old new taken sent call (NodeStep.Gives_again to number part item found from within) = inl refl
keeps_or_silent old new taken sent call (NodeStep.Links_change links same) = inr (refl, refl)
keeps_or_silent old new taken sent call (NodeStep.Leaves phase) = inl (sym (ap (λ (p : Phase). links_in false p old.links) phase))
keeps_or_silent old new taken sent call (NodeStep.Retires phase nothing empty) = inr (refl, refl)

-- so does each such step, since the place of a node that crashed is empty before and after
pub sending_keeps : (crashed : Bool) (old new : Node) (taken : Option Message) (message : Message) (call : Option Done) → NodeStep old taken new (Some message) call → place_of crashed new ≡ place_of crashed old
sending_keeps true old new taken message call step = refl
sending_keeps false old new taken message call step =
    ⊎_elim (λ (e : place_of false new ≡ place_of false old). e) (λ (e : (taken ≡ None) × (Some message ≡ None)). absurd (none-some message (sym e.1))) (keeps_or_silent old new taken (Some message) call step)

pub taking_keeps : (crashed : Bool) (old new : Node) (message : Message) (sent : Option Message) (call : Option Done) → NodeStep old (Some message) new sent call → place_of crashed new ≡ place_of crashed old
taking_keeps true old new message sent call step = refl
taking_keeps false old new message sent call step =
    ⊎_elim (λ (e : place_of false new ≡ place_of false old). e) (λ (e : (Some message ≡ None) × (sent ≡ None)). absurd (none-some message (sym e.0))) (keeps_or_silent old new (Some message) sent call step)

-- a step that a node may make is one that its seat allows
pub node_may : (s : Sight) (v : NodeSight) (after : Node) (sent : Option Message) → s.actor ≡ OfNode (node_in s.actor) (crashed_in s.actor)
    → as_node s ≡ v → MayAct v.node v.messages after sent → place_of v.crashed after ≡ place_of v.crashed v.node
    → MayBecome s.actor s.messages (OfNode after (crashed_in s.actor)) sent
node_may s v after sent is shows may keeps =
    let (taken, call, known, step) = subst (λ (n : NodeSight). MayAct n.node n.messages after sent) (sym shows) may in
    let place : place_of (crashed_in s.actor) after ≡ place_of (crashed_in s.actor) (node_in s.actor) = subst (λ (n : NodeSight). place_of n.crashed after ≡ place_of n.crashed n.node) (sym shows) keeps in
    subst (λ (a : Actor). MayBecome a s.messages (OfNode after (crashed_in s.actor)) sent) (sym is) (taken, call, known, Event.Acts step, place)

pub node_may_send : (s : Sight) (v : NodeSight) (after : Node) (message : Message) → s.actor ≡ OfNode (node_in s.actor) (crashed_in s.actor)
    → as_node s ≡ v → MayAct v.node v.messages after (Some message)
    → MayBecome s.actor s.messages (OfNode after (crashed_in s.actor)) (Some message)
node_may_send s v after message is shows may =
    let (taken, call, known, step) = may in
    node_may s v after (Some message) is shows may (sending_keeps v.crashed v.node after taken message call step)

-- a step that a caller may make is one that its seat allows
pub caller_may : (s : Sight) (v : CallerSight) (after : Caller) (sent : Option Letter) → s.actor ≡ OfCaller (caller_in s.actor)
    → record { caller = caller_in s.actor; messages = s.messages } ≡ v → MayCall v.caller v.messages after sent
    → MayBecome s.actor s.messages (OfCaller after) (letter_sent sent)
caller_may s v after sent is shows may =
    let (taken, known, step) = subst (λ (n : CallerSight). MayCall n.caller n.messages after sent) (sym shows) may in
    subst (λ (a : Actor). MayBecome a s.messages (OfCaller after) (letter_sent sent)) (sym is) (letter_sent taken, None, known, Event.Calls step, tt)

-- the same step, if the message is its letter
pub caller_may_send : (s : Sight) (v : CallerSight) (after : Caller) (sent : Letter) (message : Message) → s.actor ≡ OfCaller (caller_in s.actor)
    → record { caller = caller_in s.actor; messages = s.messages } ≡ v → message ≡ message_of sent
    → MayCall v.caller v.messages after (Some sent) → MayBecome s.actor s.messages (OfCaller after) (Some message)
caller_may_send s v after sent message is shows same may =
    subst (λ (m : Message). MayBecome s.actor s.messages (OfCaller after) (Some m)) (sym same) (caller_may s v after (Some sent) is shows may)

-- a step to the state that a function gives of the caller is one that its seat allows
pub caller_follows : (s : Sight) (v : CallerSight) (next : Caller → Caller) (taken sent : Option Letter) → s.actor ≡ OfCaller (caller_in s.actor)
    → record { caller = caller_in s.actor; messages = s.messages } ≡ v → WasSent v.messages (letter_sent taken) → CallerStep v.caller taken (next v.caller) sent
    → MayBecome s.actor s.messages (OfCaller (next (caller_in s.actor))) (letter_sent sent)
caller_follows s v next taken sent is shows known step =
    let same : caller_in s.actor ≡ v.caller = ap (λ (c : CallerSight). c.caller) shows in
    subst (λ (c : Caller). MayBecome s.actor s.messages (OfCaller (next c)) (letter_sent sent)) (sym same) (caller_may s v (next v.caller) sent is shows (taken, known, step))

-- a step of the ring that two nodes may make is one that their seats allow
pub nodes_may_relink : (s t : Sight) (v w : NodeSight) (after : Node) → s.actor ≡ OfNode (node_in s.actor) (crashed_in s.actor) → t.actor ≡ OfNode (node_in t.actor) (crashed_in t.actor)
    → as_node s ≡ v → as_node t ≡ w → v.crashed ≡ false → MayRelink v.node w.node w.crashed after
    → MayRelinkTo s.actor t.actor (OfNode after (crashed_in s.actor))
nodes_may_relink s t v w after is has shows tells live may =
    let out : crashed_in s.actor ≡ false = ap (λ (n : NodeSight). n.crashed) shows ∙ live in
    let first : MayRelink (node_in s.actor) w.node w.crashed after = subst (λ (n : NodeSight). MayRelink n.node w.node w.crashed after) (sym shows) may in
    let both : MayRelink (node_in s.actor) (node_in t.actor) (crashed_in t.actor) after = subst (λ (n : NodeSight). MayRelink (node_in s.actor) n.node n.crashed after) (sym tells) first in
    subst (λ (a : Actor). MayRelinkTo a t.actor (OfNode after (crashed_in s.actor))) (sym is)
    (subst (λ (b : Actor). MayRelinkTo (OfNode (node_in s.actor) (crashed_in s.actor)) b (OfNode after (crashed_in s.actor))) (sym has) (out, out, both))

-- a node that did not crash, as its seat shows it
pub live_actor : (s : Sight) (v : NodeSight) → s.actor ≡ OfNode (node_in s.actor) (crashed_in s.actor) → as_node s ≡ v → v.crashed ≡ false
    → s.actor ≡ OfNode (node_in s.actor) false
live_actor s v is shows live = is ∙ ap (λ (c : Bool). OfNode (node_in s.actor) c) (ap (λ (n : NodeSight). n.crashed) shows ∙ live)
