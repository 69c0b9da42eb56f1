-- What is copied without allocating: values of up to 24 bytes, stored inline. Source: our own.
use Rattle.std.specs.Prelude.{ℕ, ◌≤◌, List, [], ◌∷◌, length}
use Rattle.chord_map.specs.Checked.{value_of}
use Rattle.chord_map.specs.Map.{key_of}
use Rattle.chord_map.specs.declared.reply.Reply.{Reply}
use Rattle.chord_map.specs.declared.reply.Reply.TheVariants.{Values}
use Rattle.chord_map.specs.declared.request.Request.{Request}

-- a key or a value of up to 24 bytes
abbrev pub IsShort : List ℕ → Type 0
IsShort bytes = length bytes ≤ 24

-- no value, or a single short one
abbrev pub AreFew : List (List ℕ) → Type 0
AreFew [] = Unit {0}
AreFew (value ∷ []) = IsShort value
AreFew (value ∷ other ∷ values) = ⊥

-- the request's key and value are short
abbrev pub IsShortRequest : Request → Type 0
IsShortRequest request = IsShort (key_of request) × IsShort (value_of request)

-- the reply has no value, or a single short one
abbrev pub IsShortReply : Reply → Type 0
IsShortReply (Values values) = AreFew values
IsShortReply reply = Unit {0}
