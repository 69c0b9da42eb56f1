-- A message that came is among those that a seat shows.
use Rattle.std.proofs.Common.{◌≡◌, [], ◌∷◌, ◌++◌, Bool, Option, Some, sym, subst, Contains}
use Rattle.std.proofs.lemmas.List.Elements.{Contains-push}
use Rattle.chord_live_ring.specs.Seats.{IsSeatOf}
use Rattle.chord_live_steps.specs.Dealt.{message_in}
use Rattle.chord_live_steps.specs.declared.target.Target.{Target}
use Rattle.chord_model.specs.Node.{Node, NodeStep}
use Rattle.chord_model.specs.declared.message.Message.{Message}
use Rattle.chord_map.specs.declared.done.Done.{Done}
use Rattle.chord_table.specs.Views.{NodeSight, MayAct}

pub came : (old new : NodeSight) (envelope message : Message) → new ≡ record old { messages = old.messages ++ envelope ∷ [] } → message ≡ envelope → Contains new.messages message
came old new envelope message is same =
    subst (λ (m : Message). Contains new.messages m) (sym same) (subst (λ (s : NodeSight). Contains s.messages envelope) (sym is) (Contains-push old.messages envelope))

-- a node's step with a message that its seat just took in is one that the seat allows
pub acted : (old new : NodeSight) (envelope message : Message) (node after : Node) (out : Option (Target × Message)) (sent : Option Message)
    → new ≡ record old { messages = old.messages ++ envelope ∷ [] } → message ≡ envelope → node ≡ new.node → message_in out ≡ sent
    → ((done : Option Done) × NodeStep node (Some message) after (message_in out) done) → MayAct new.node new.messages after sent
acted old new envelope message node after out sent is same mine goes (done, step) = (
  Some message,
  done,
  came old new envelope message is same,
  subst (λ (n : Node). NodeStep n (Some message) after sent done) mine (subst (λ (m : Option Message). NodeStep node (Some message) after m done) goes step),
)

-- the node that a seat shows which is not lent
pub shown_by : (node : Node) (crashed : Bool) (seat : Option NodeSight) (sight : NodeSight) → seat ≡ Some sight → IsSeatOf node crashed seat
    → (node ≡ sight.node) × (crashed ≡ sight.crashed)
shown_by node crashed seat sight is shows = subst (λ (s : Option NodeSight). IsSeatOf node crashed s) is shows
