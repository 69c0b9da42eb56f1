-- The one spelling of each request. Source: our own.
use Rattle.std.specs.Prelude.{◌≡◌, ℕ, ◌+◌, ◌-◌, ◌<◌, ◌≤◌, ◌^◌, ◌⊎◌, List, [], ◌∷◌, ◌++◌, length, slice_index, if◌then◌else◌, ◌==◌}
use Rattle.std.specs.Int.{w16, w32, w64, to_be_bytes}
use Rattle.chord_map.specs.declared.request.Request.{Request}
use Rattle.chord_map.specs.declared.request.Request.TheVariants.{Insert, Retrieve, Remove}
use Rattle.chord_map.specs.Checked.{IsRequest}
use Rattle.chord_wire.specs.declared.request.WireRequest.{WireRequest}

-- the number of the operation
abbrev pub operation : Request → ℕ
operation (Insert key value) = 1
operation (Retrieve key) = 2
operation (Remove key value) = 3

-- a key: its length in one byte, then its bytes
abbrev pub key_field : List ℕ → List ℕ
key_field key = length key ∷ key

-- a value: its length in two bytes, then its bytes
abbrev pub value_field : List ℕ → List ℕ
value_field value = to_be_bytes w16 (length value) ++ value

-- the fields of the operation
abbrev pub operands : Request → List ℕ
operands (Insert key value) = key_field key ++ value_field value
operands (Retrieve key) = key_field key
operands (Remove key value) = key_field key ++ value_field value

-- the floor, which only version 2 writes
abbrev pub floor_field : ℕ → ℕ → List ℕ
floor_field version floor = if version == 1 then [] else to_be_bytes w64 floor

-- version, operation, number, floor, key and value
abbrev pub request_body : WireRequest → List ℕ
request_body r = r.version ∷ operation r.request ∷ to_be_bytes w64 r.number ++ (floor_field r.version r.floor ++ operands r.request)

-- a frame: the length of its body in four bytes, then the body
abbrev pub frame : List ℕ → List ℕ
frame body = to_be_bytes w32 (length body) ++ body

-- each element is a byte
abbrev pub IsBytes : List ℕ → Type 0
IsBytes bytes = (i : ℕ) → slice_index bytes i < 256

-- Version 1: the floor is number - 1, at least 0. Version 2: the number is 1 to 16 above the floor.
abbrev pub HasFloor : ℕ → ℕ → ℕ → Type 0
HasFloor version number floor = ((version ≡ 1) × (floor ≡ number - 1)) ⊎ ((version ≡ 2) × (floor < number) × (number ≤ floor + 16))

-- requests that have a spelling
pub record IsWireRequest (r : WireRequest) : Type 0 where
  pub number : r.number < 2 ^ 64
  pub floor : HasFloor r.version r.number r.floor
  pub request : IsRequest r.request

-- the request with this number in version 1
abbrev pub version_1 : ℕ → Request → WireRequest
version_1 number request = record { version = 1; number = number; floor = number - 1; request = request }

-- the request with this number and floor in version 2
abbrev pub version_2 : ℕ → ℕ → Request → WireRequest
version_2 number floor request = record { version = 2; number = number; floor = floor; request = request }
