-- How a connection begins. Source: docs/protocol.md.
use Rattle.std.specs.Prelude.{◌≡◌, ◌⊎◌, ℕ, List, false, Option, Some, None, Result, Ok, Err}
use Rattle.chord_wire.specs.declared.fault.WireFault.{WireFault}
use Rattle.chord_wire.specs.declared.session_frame.Opening.{Opening}
use Rattle.chord_wire.specs.declared.session_frame.SessionFrame.TheVariants.{Open}
use Rattle.chord_wire.specs.SessionReading.{next_session, begins_with_open}
use Rattle.chord_serve.specs.declared.served.Served.{Served}
use Rattle.chord_serve.specs.declared.served.Served.TheVariants as served

-- the bytes begin with another frame, or with one that has a fault
abbrev pub BeginsOtherwise : List ℕ → Type 0
BeginsOtherwise bytes = (begins_with_open bytes ≡ Some false) ⊎ ((f : WireFault) × (next_session bytes ≡ Err f))

-- a look at the first frame: an Open is taken, else nothing is; None where more bytes must come
abbrev pub LooksAt : Result (Option (Option Opening)) Served → List ℕ → List ℕ → Type 0
LooksAt (Ok (Some (Some o))) old new = next_session old ≡ Ok (Some (Open o, new))
LooksAt (Ok (Some None)) old new = BeginsOtherwise old × (new ≡ old)
LooksAt (Ok None) old new = (next_session old ≡ Ok None) × (new ≡ old)
LooksAt (Err served.Memory) old new = new ≡ old
LooksAt (Err end) old new = ⊥
