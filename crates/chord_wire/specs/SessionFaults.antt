-- The table of faults in a session, a line a case: the first fault of a client's, or of a server's
-- frames. Source: docs/protocol.md.
use Rattle.std.specs.Prelude.{◌≡◌, ◌≢◌, ◌++◌, ◌⊎◌, ℕ, List, []}
use Rattle.std.specs.Int.{w64, to_be_bytes}
use Rattle.chord_wire.specs.declared.fault.FaultCode.TheVariants.{BadFloor, BadValue, Trailing}
use Rattle.chord_wire.specs.declared.fault.WireFault.{WireFault}
use Rattle.chord_wire.specs.declared.session_frame.SessionFrame.{SessionFrame}
use Rattle.chord_wire.specs.declared.session_frame.SessionFrame.TheVariants as frames
use Rattle.chord_wire.specs.declared.session_answer.SessionAnswer.{SessionAnswer}
use Rattle.chord_wire.specs.declared.session_answer.SessionAnswer.TheVariants as answers
use Rattle.chord_wire.specs.Fault.{fault}
use Rattle.chord_wire.specs.FaultTable.{RequestHead, AnswerHead, FaultOf, AnswerFaultFrom}
use Rattle.chord_wire.specs.SessionSpelling.{opening_field, IsSessionFrame, IsSessionAnswer}

-- ---- what a client sends

-- an Open or a Close
abbrev pub IsControl : {bytes : List ℕ} → RequestHead bytes → Type 0
IsControl head = (head.version ≡ 2) × ((head.op ≡ 4) ⊎ (head.op ≡ 5))

-- number and floor are 0, and `rest` comes after them
abbrev pub BeginsWithZeros : {bytes : List ℕ} → RequestHead bytes → List ℕ → Type 0
BeginsWithZeros head rest = (head.number ≡ 0) × (head.fields ≡ to_be_bytes w64 0 ++ rest)

-- the bytes are the fields of such a frame, and then more
abbrev pub BeginsWithControl : ℕ → List ℕ → SessionFrame → List ℕ → Type 0
BeginsWithControl op bytes (frames.Request r) more = ⊥
BeginsWithControl op bytes (frames.Open o) more = (op ≡ 4) × (bytes ≡ opening_field o ++ more) × IsSessionFrame (frames.Open o)
BeginsWithControl op bytes frames.Close more = (op ≡ 5) × (bytes ≡ more)

pub data SessionFaultOf (bytes : List ℕ) : WireFault → Type 0 where
  Of_request : (f : WireFault) → ((head : RequestHead bytes) → ¬ IsControl head) → FaultOf bytes f → SessionFaultOf bytes f
  Bad_floor : (head : RequestHead bytes) → IsControl head → ((rest : List ℕ) → ¬ BeginsWithZeros head rest) → SessionFaultOf bytes (fault BadFloor head.number)
  Bad_value : (head : RequestHead bytes) (rest : List ℕ) → IsControl head → BeginsWithZeros head rest
      → ((x : SessionFrame) (more : List ℕ) → ¬ BeginsWithControl head.op rest x more) → SessionFaultOf bytes (fault BadValue 0)
  Trails : (head : RequestHead bytes) (rest : List ℕ) (x : SessionFrame) (more : List ℕ) → IsControl head → BeginsWithZeros head rest
      → BeginsWithControl head.op rest x more → more ≢ [] → SessionFaultOf bytes (fault Trailing 0)

-- ---- what a server sends

-- an Opened or a Closed
abbrev pub IsTold : {bytes : List ℕ} → AnswerHead 10 bytes → Type 0
IsTold head = (head.version ≡ 1) × ((head.op ≡ 132) ⊎ (head.op ≡ 133))

-- the bytes are the fields of such a frame, and then more
abbrev pub BeginsWithTold : ℕ → List ℕ → SessionAnswer → List ℕ → Type 0
BeginsWithTold kind bytes (answers.Answer a) more = ⊥
BeginsWithTold kind bytes (answers.Opened floor last) more = (kind ≡ 132) × (bytes ≡ to_be_bytes w64 floor ++ (to_be_bytes w64 last ++ more)) × IsSessionAnswer (answers.Opened floor last)
BeginsWithTold kind bytes answers.Closed more = (kind ≡ 133) × (bytes ≡ more)

pub data SessionAnswerFaultOf (bytes : List ℕ) : WireFault → Type 0 where
  Of_answer : (f : WireFault) → ((head : AnswerHead 10 bytes) → ¬ IsTold head) → AnswerFaultFrom 10 bytes f → SessionAnswerFaultOf bytes f
  Bad_number : (head : AnswerHead 10 bytes) → IsTold head → head.number ≢ 0 → SessionAnswerFaultOf bytes (fault BadValue head.number)
  Bad_value : (head : AnswerHead 10 bytes) → IsTold head → head.number ≡ 0
      → ((x : SessionAnswer) (more : List ℕ) → ¬ BeginsWithTold head.op head.fields x more) → SessionAnswerFaultOf bytes (fault BadValue 0)
  Trails : (head : AnswerHead 10 bytes) (x : SessionAnswer) (more : List ℕ) → IsTold head → head.number ≡ 0
      → BeginsWithTold head.op head.fields x more → more ≢ [] → SessionAnswerFaultOf bytes (fault Trailing 0)
