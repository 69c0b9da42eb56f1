-- The table of faults, a line a case: the first fault of a stream of requests, or of answers.
-- Source: our own.
use Rattle.std.specs.Prelude.{◌≡◌, ◌≢◌, ◌++◌, ℕ, ◌+◌, ◌<◌, ◌≤◌, ◌^◌, List, [], ◌∷◌, length, ◌⊎◌}
use Rattle.std.specs.Int.{w32, w64, to_be_bytes}
use Rattle.chord_map.specs.declared.request.Request.{Request}
use Rattle.chord_map.specs.Checked.{IsKey, IsValue, IsRequest}
use Rattle.chord_wire.specs.declared.answer.Answer.{Answer}
use Rattle.chord_wire.specs.declared.fault.FaultCode.TheVariants.{BadLength, BadVersion, BadOperation, BadFloor, BadKey, BadValue, Trailing}
use Rattle.chord_wire.specs.declared.fault.WireFault.{WireFault}
use Rattle.chord_wire.specs.Fault.{fault}
use Rattle.chord_wire.specs.Spelling.{operation, key_field, value_field, operands, floor_field, frame, HasFloor}
use Rattle.chord_wire.specs.Replies.{kind_of, number_of, fields_of, IsAnswer}

-- the first frame, with a body of `least` to `most` bytes: its version, operation and number, the
-- bytes after the number, and the bytes after the frame
pub record Head (least most : ℕ) (bytes : List ℕ) : Type 0 where
  pub version : ℕ
  pub op : ℕ
  pub number : ℕ
  pub fields : List ℕ
  pub behind : List ℕ
  pub number_fits : number < 2 ^ 64
  pub low : least ≤ 10 + length fields
  pub high : 10 + length fields ≤ most
  pub front : bytes ≡ frame (version ∷ op ∷ to_be_bytes w64 number ++ fields) ++ behind

-- ---- requests

abbrev pub RequestHead : List ℕ → Type 0
RequestHead bytes = Head 12 4372 bytes

-- the versions and the operations that exist
abbrev pub IsVersion : ℕ → Type 0
IsVersion version = (version ≡ 1) ⊎ (version ≡ 2)

abbrev pub IsKnown : {bytes : List ℕ} → RequestHead bytes → Type 0
IsKnown head = IsVersion head.version × (1 ≤ head.op) × (head.op ≤ 3)

-- the bytes are a valid floor (a key, a value) and then the rest
abbrev pub BeginsWithFloor : ℕ → ℕ → List ℕ → ℕ → List ℕ → Type 0
BeginsWithFloor version number bytes floor rest = (bytes ≡ floor_field version floor ++ rest) × HasFloor version number floor

abbrev pub BeginsWithKey : List ℕ → List ℕ → List ℕ → Type 0
BeginsWithKey bytes key rest = (bytes ≡ key_field key ++ rest) × IsKey key

abbrev pub BeginsWithValue : List ℕ → List ℕ → List ℕ → Type 0
BeginsWithValue bytes value rest = (bytes ≡ value_field value ++ rest) × IsValue value

-- the head and the floor are valid, and `rest` comes after them
pub record Floored {bytes : List ℕ} (head : RequestHead bytes) (rest : List ℕ) : Type 0 where
  pub known : IsKnown head
  pub floor : ℕ
  pub begins : BeginsWithFloor head.version head.number head.fields floor rest

pub data FaultOf (bytes : List ℕ) : WireFault → Type 0 where
  Bad_length : (count : ℕ) (rest : List ℕ) → bytes ≡ to_be_bytes w32 count ++ rest → count < 2 ^ 32 → (count < 12) ⊎ (4372 < count)
      → FaultOf bytes (fault BadLength 0)
  Bad_version : (head : RequestHead bytes) → ¬ IsVersion head.version → FaultOf bytes (fault BadVersion 0)
  Bad_operation : (head : RequestHead bytes) → IsVersion head.version → ¬ IsKnown head → FaultOf bytes (fault BadOperation 0)
  Bad_floor : (head : RequestHead bytes) → IsKnown head → ((rest : List ℕ) → ¬ Floored head rest) → FaultOf bytes (fault BadFloor head.number)
  Bad_key : (head : RequestHead bytes) (rest : List ℕ) → Floored head rest → ((key more : List ℕ) → ¬ BeginsWithKey rest key more)
      → FaultOf bytes (fault BadKey head.number)
  Bad_value : (head : RequestHead bytes) (rest key more : List ℕ) → Floored head rest → BeginsWithKey rest key more → head.op ≢ 2
      → ((value end : List ℕ) → ¬ BeginsWithValue more value end) → FaultOf bytes (fault BadValue head.number)
  Trails : (head : RequestHead bytes) (rest : List ℕ) (request : Request) (more : List ℕ) → Floored head rest
      → rest ≡ operands request ++ more → IsRequest request → operation request ≡ head.op → more ≢ []
      → FaultOf bytes (fault Trailing head.number)

-- ---- answers

-- the first frame of answers whose bodies have `least` bytes or more
abbrev pub AnswerHead : ℕ → List ℕ → Type 0
AnswerHead least bytes = Head least 4098014 bytes

-- the kinds of answers: to an insert or a remove, to a retrieve, or a fault
abbrev pub IsKind : ℕ → Type 0
IsKind kind = ((kind ≡ 129) ⊎ (kind ≡ 131)) ⊎ ((kind ≡ 130) ⊎ (kind ≡ 255))

-- the frame's fields begin with those of this answer, and the rest comes after them
pub record BeginsWithAnswer {least : ℕ} {bytes : List ℕ} (head : AnswerHead least bytes) (answer : Answer) (rest : List ℕ) : Type 0 where
  pub kind : kind_of answer ≡ head.op
  pub number : number_of answer ≡ head.number
  pub parts : head.fields ≡ fields_of answer ++ rest
  pub is_answer : IsAnswer answer

-- the fault of answers whose bodies have `least` bytes or more
pub data AnswerFaultFrom (least : ℕ) (bytes : List ℕ) : WireFault → Type 0 where
  Bad_length : (count : ℕ) (rest : List ℕ) → bytes ≡ to_be_bytes w32 count ++ rest → count < 2 ^ 32 → (count < least) ⊎ (4098014 < count)
      → AnswerFaultFrom least bytes (fault BadLength 0)
  Bad_version : (head : AnswerHead least bytes) → head.version ≢ 1 → AnswerFaultFrom least bytes (fault BadVersion 0)
  Bad_operation : (head : AnswerHead least bytes) → head.version ≡ 1 → ¬ IsKind head.op → AnswerFaultFrom least bytes (fault BadOperation 0)
  Bad_value : (head : AnswerHead least bytes) → head.version ≡ 1 → IsKind head.op → ((answer : Answer) (rest : List ℕ) → ¬ BeginsWithAnswer head answer rest)
      → AnswerFaultFrom least bytes (fault BadValue head.number)
  Trails : (head : AnswerHead least bytes) (answer : Answer) (rest : List ℕ) → head.version ≡ 1 → BeginsWithAnswer head answer rest → rest ≢ []
      → AnswerFaultFrom least bytes (fault Trailing head.number)

abbrev pub AnswerFaultOf : List ℕ → WireFault → Type 0
AnswerFaultOf bytes f = AnswerFaultFrom 11 bytes f
