-- What the calls of a node with its seat tell, and what they leave of it. Source: our own.
use Rattle.std.specs.Prelude.{◌≡◌, ◌⊎◌, ℕ, Bool, Option, None, Some, Ok, Err}
use Rattle.std.specs.declared.alloc.AllocError.{AllocError}
use Rattle.chord_handover.specs.Handover.{Item, Part}
use Rattle.chord_ident.specs.declared.id.Id.{Id}
use Rattle.chord_ident.specs.declared.span.Span.{Span}
use Rattle.chord_links.specs.NodeLinks.{NodeLinks}
use Rattle.chord_live_ring.specs.Sights.{Seated}
use Rattle.chord_live_steps.specs.Dealt.{DealIs, IsFor}
use Rattle.chord_live_steps.specs.Pieces.{TrimIs}
use Rattle.chord_model.specs.Node.{Node}
use Rattle.chord_model.specs.declared.message.Message.{Message}
use Rattle.chord_model.specs.declared.message.Message.TheVariants.{Part as PartMessage}
use Rattle.chord_model.specs.declared.phase.Phase.{Phase}
use Rattle.chord_model.specs.declared.phase.Phase.TheVariants as phase
use Rattle.chord_node.specs.Moves.{GiveIs}
use Rattle.chord_node.specs.declared.fault.GiveFault.{GiveFault}
use Rattle.chord_node.specs.declared.fault.GiveFault.TheVariants as give

-- the node with other links; what came to it and what it did stay
abbrev pub with_links : NodeLinks → Seated → Seated
with_links links seated = record seated { node = record seated.node { links = links } }

-- a message is lost at a node: it is not for the node, or there was no memory to deal with it
abbrev pub IsLost : Message → Node → Node → Type 0
IsLost message old new =
    (new ≡ old) × ((IsFor message old.number → ⊥) ⊎ ((fault : AllocError) × IsFor message old.number × DealIs message old (Err fault) new))

-- a node sends nothing for a message: none is due, or the message is lost
abbrev pub SendsNone : Message → Node → Node → Type 0
SendsNone message old new = (IsFor message old.number × DealIs message old (Ok None) new) ⊎ IsLost message old new

-- the held segment at this index goes into the outbox, and its first part is sent, with the number
-- of the item
abbrev pub Gives : ℕ → ℕ → Node → ℕ → Message → Node → Type 0
Gives place to old number sent new = (part : Part) × GiveIs place to old (Ok part) new × (number ≡ part.number) × (sent ≡ PartMessage part)

-- the segment is cut first, if that is to be done
abbrev pub GivesPiece : ℕ → ℕ → ℕ → Node → ℕ → Message → Node → Type 0
GivesPiece place to most old number sent new = (cut : Bool) × (trimmed : Node) × TrimIs place most old (Ok cut) trimmed × Gives place to trimmed number sent new

-- nothing is given: there was no memory for a cut, or what is held after it is not given
abbrev pub GivesNone : ℕ → ℕ → ℕ → Node → GiveFault → Node → Type 0
GivesNone place to most old fault new =
    ((fault ≡ give.Memory) × ((refused : AllocError) × TrimIs place most old (Err refused) new))
    ⊎ ((cut : Bool) × TrimIs place most old (Ok cut) new × GiveIs place to new (Err fault) new)

-- the end of a span, if there is one
abbrev pub end_of : Option Span → Option Id
end_of None = None
end_of (Some span) = Some span.upto

-- the receiver and the number of an item of the outbox, if there is one
abbrev pub address_of : Option Item → Option (ℕ × ℕ)
address_of None = None
address_of (Some item) = Some (item.to, item.number)

-- the phase of a node that begins to leave, unless it does so already or is gone
abbrev pub begun : Phase → Phase
begun phase.Staying = phase.Leaving
begun phase.Leaving = phase.Leaving
begun phase.Gone = phase.Gone

-- the node while it is rescued: it hands over what it holds, as one that leaves
abbrev pub rescued : Seated → Seated
rescued seated = record seated { node = record seated.node { phase = begun seated.node.phase } }
