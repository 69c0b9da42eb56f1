-- What a scan over pairs has checked so far.
use Rattle.std.specs.Prelude.{◌≡◌, ℕ, ◌-◌, Option, None, Some, List, length, slice_get}
use Rattle.std.specs.Option.{option_copied}
use Rattle.chord_map.specs.declared.pair.Pair.{Pair}
use Rattle.chord_map.specs.Map.{values_at}
use Rattle.chord_segment.specs.Segment.{Segment}
use Rattle.chord_handover.specs.declared.pair_scan.PairScan.{PairScan}
use Rattle.chord_handover.specs.Payload.{IsPayload}

abbrev pub last_of : List Pair → Option Pair
last_of pairs = slice_get pairs (length pairs - 1)

-- how many of the pairs have this pair's key
abbrev pub count_like : Option Pair → List Pair → ℕ
count_like None pairs = 0
count_like (Some pair) pairs = length (values_at pair.key pairs)

-- the pairs passed make a payload with the segment;
-- the scan knows the last and how many share its key
pub record HasPassed (segment : Segment) (passed : List Pair) (run : PairScan) : Type 0 where
  pub rules : IsPayload (record { segment = segment; pairs = passed })
  pub last : option_copied run.last ≡ last_of passed
  pub count : run.count ≡ count_like (last_of passed) passed

-- the scan has passed the pairs, or they make no payload
abbrev pub Goes : Segment → List Pair → Option PairScan → Type 0
Goes segment pairs None = ¬ IsPayload (record { segment = segment; pairs = pairs })
Goes segment pairs (Some run) = HasPassed segment pairs run
