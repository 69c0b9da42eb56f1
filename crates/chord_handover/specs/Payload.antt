-- A payload: a segment with its pairs.
use Rattle.std.specs.Prelude.{◌≡◌, ◌≤◌, ℕ, true, List, length, All}
use Rattle.chord_ident.specs.Circle.{in_span, key_id}
use Rattle.chord_map.specs.declared.pair.Pair.{Pair}
use Rattle.chord_map.specs.Map.{values_at}
use Rattle.chord_map.specs.Pairs.{IsRising}
use Rattle.chord_segment.specs.Segment.{Segment}
use Rattle.chord_handover.specs.declared.ticket.Ticket.{Ticket}
use Rattle.chord_handover.specs.Handover.{Handover}

pub record Payload : Type 0 where
  pub segment : Segment
  pub pairs : List Pair

-- the pairs are sorted, lie in the segment's span, and are at most 1,000 for each key
pub record IsPayload (payload : Payload) : Type 0 where
  pub rising : IsRising payload.pairs
  pub inside : All (λ pair. in_span payload.segment.span (key_id pair.key) ≡ true) payload.pairs
  pub few : (key : List ℕ) → length (values_at key payload.pairs) ≤ 1000

-- the handover with this payload and this name
abbrev pub handover_of_payload : Ticket → Payload → Handover
handover_of_payload ticket payload =
    record { from = ticket.from; to = ticket.to; number = ticket.number; segment = payload.segment; pairs = payload.pairs }
