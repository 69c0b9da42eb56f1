-- Which requests keep the limits, the faults of the others, and what a map answers.
use Rattle.std.specs.Prelude.{◌≡◌, ℕ, Bool, true, false, ◌<◌, ◌≤◌, nat_lt, List, [], ◌∷◌, length, Result, Ok, Err}
use Rattle.chord_map.specs.declared.pair.Pair.{Pair}
use Rattle.chord_map.specs.declared.request.Request.{Request}
use Rattle.chord_map.specs.declared.request.Request.TheVariants.{Insert, Retrieve, Remove}
use Rattle.chord_map.specs.declared.request.RequestFault.{RequestFault}
use Rattle.chord_map.specs.declared.request.RequestFault.TheVariants.{KeyEmpty, KeyLong, ValueLong}
use Rattle.chord_map.specs.declared.reply.Reply.{Reply}
use Rattle.chord_map.specs.declared.reply.Reply.TheVariants.{Added, Values}
use Rattle.chord_map.specs.Map.{key_of, reply_to, pairs_after}

-- a key has 1 to 255 bytes
abbrev pub IsKey : List ℕ → Type 0
IsKey key = (1 ≤ length key) × (length key ≤ 255)

-- a value has at most 4,096 bytes
abbrev pub IsValue : List ℕ → Type 0
IsValue value = length value ≤ 4096

-- the value that a request names; empty for a Retrieve
abbrev pub value_of : Request → List ℕ
value_of (Insert key value) = value
value_of (Retrieve key) = []
value_of (Remove key value) = value

-- the request keeps the limits
abbrev pub IsRequest : Request → Type 0
IsRequest request = IsKey (key_of request) × IsValue (value_of request)

-- the first fault of the request: of its key's length, then of its value's
abbrev pub HasFault : Request → RequestFault → Type 0
HasFault request KeyEmpty = length (key_of request) ≡ 0
HasFault request KeyLong = 255 < length (key_of request)
HasFault request ValueLong = IsKey (key_of request) × (4096 < length (value_of request))

-- a check passes a request that keeps the limits, and answers the fault of any other
abbrev pub CheckIs : {A : Type 0} → Request → Result A RequestFault → Type 0
CheckIs request (Ok passed) = IsRequest request
CheckIs request (Err fault) = HasFault request fault

-- whether giving this reply needs memory: it adds a value, or returns values other than a single
-- one of up to 24 bytes
abbrev pub takes_memory : Reply → Bool
takes_memory Added = true
takes_memory (Values []) = false
takes_memory (Values (value ∷ [])) = nat_lt 24 (length value)
takes_memory (Values (value ∷ other ∷ values)) = true
takes_memory reply = false

-- The map gives its reply and changes as the request says;
-- or the reply needs memory, none is left, and nothing changes.
abbrev pub ApplyIs : {E : Type 0} → Request → List Pair → Result Reply E → List Pair → Type 0
ApplyIs request pairs (Ok reply) pairs' = (reply ≡ reply_to request pairs) × (pairs' ≡ pairs_after request pairs)
ApplyIs request pairs (Err fault) pairs' = (takes_memory (reply_to request pairs) ≡ true) × (pairs' ≡ pairs)
