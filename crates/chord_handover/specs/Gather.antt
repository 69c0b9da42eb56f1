-- What the parts that arrived make together.
use Rattle.std.specs.Prelude.{◌≡◌, ◌≤◌, ℕ, zero, suc, ◌==◌, ◌++◌, ◌⊎◌, Option, None, Some, List, [], find, All, Any}
use Rattle.chord_map.specs.declared.pair.Pair.{Pair}
use Rattle.chord_segment.specs.Segment.{Segment}
use Rattle.chord_handover.specs.declared.gather.Gather.{Gather}
use Rattle.chord_handover.specs.declared.gather.Gather.TheVariants.{More, Unfit, Whole}
use Rattle.chord_handover.specs.declared.ticket.Ticket.{Ticket}
use Rattle.chord_handover.specs.Handover.{Part, IsFilled, IsWhole, gathered_parts, ticket_of_part}
use Rattle.chord_handover.specs.Payload.{Payload, IsPayload, handover_of_payload}

-- all the parts say that the handover has `of` parts
abbrev pub AreOf : ℕ → List Part → Type 0
AreOf of parts = All (λ part. part.of ≡ of) parts

-- each of the part numbers 1 to `of` has a part
abbrev pub AreAllThere : ℕ → List Part → Type 0
AreAllThere of parts = (place : ℕ) → 1 ≤ place → place ≤ of → Any (λ part. part.place ≡ place) parts

-- no payload is sent in exactly these parts
abbrev pub MakeNone : Ticket → List Part → Type 0
MakeNone ticket parts = (payload : Payload) → IsPayload payload → ¬ IsWhole parts (handover_of_payload ticket payload)

-- More: a part is missing. Unfit: the parts say different counts, or are all there and make no
-- payload. Whole: the payload that they are the parts of
abbrev pub Make : Ticket → ℕ → List Part → Gather → Type 0
Make ticket of parts More = AreOf of parts × ¬ AreAllThere of parts
Make ticket of parts Unfit = (¬ AreOf of parts) ⊎ (AreAllThere of parts × MakeNone ticket parts)
Make ticket of parts (Whole payload) = IsWhole parts (handover_of_payload ticket payload)

-- gathers the buffered parts of a part's handover, with that part
abbrev pub GatherIs : Part → List Part → Gather → Type 0
GatherIs part buffered gather = Make (ticket_of_part part) part.of (gathered_parts part buffered) gather

-- a payload that is answered keeps the rules of one
abbrev pub TellsPayload : Gather → Type 0
TellsPayload (Whole payload) = IsPayload payload
TellsPayload gather = Unit {0}

-- the parts make a payload
abbrev pub AreWhole : Part → List Part → Type 0
AreWhole part buffered = (payload : Payload) × IsPayload payload × GatherIs part buffered (Whole payload)

-- the part of this number
abbrev pub part_in : ℕ → List Part → Option Part
part_in place parts = find (λ (part : Part). part.place == place) parts

abbrev pub segment_of : Option Part → Option Segment
segment_of None = None
segment_of (Some part) = part.segment

abbrev pub pairs_of : Option Part → List Pair
pairs_of None = []
pairs_of (Some part) = part.pairs

-- the pairs of the parts 1 to `place`, in order
unfoldable pub pairs_upto : ℕ → List Part → List Pair
pairs_upto zero parts = []
pairs_upto (suc place) parts = pairs_upto place parts ++ pairs_of (part_in (suc place) parts)

-- another part: for the same receiver, filled as its number asks, and found under that number
pub record IsFitting (part : Part) (parts : List Part) (other : Part) : Type 0 where
  pub receiver : other.to ≡ part.to
  pub filled : IsFilled other
  pub found : part_in other.place parts ≡ Some other
