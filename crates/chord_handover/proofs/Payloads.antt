-- What holds of payloads.
use Rattle.std.proofs.Common.{◌≡◌, List, [], sym, subst, arith}
use Rattle.chord_map.specs.declared.pair.Pair.{Pair}
use Rattle.std.specs.List.Sorted.{IsStrictlySortedBy}
use Rattle.chord_segment.specs.Segment.{Segment}
use Rattle.chord_handover.specs.Payload.{IsPayload}

-- a segment without pairs is a payload
pub no_pairs : (segment : Segment) (pairs : List Pair) → pairs ≡ [] → IsPayload (record { segment = segment; pairs = pairs })
unfolding IsStrictlySortedBy
no_pairs segment pairs e =
    subst (λ (all : List Pair). IsPayload (record { segment = segment; pairs = all })) (sym e)
    (record { rising = tt; inside = λ k d low. absurd (omega arith); few = λ key. omega arith })
