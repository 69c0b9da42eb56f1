-- The tokens of sessions: SipHash of their numbers, under keys that are drawn at random. Source:
-- our own.
use Rattle.std.specs.Prelude.{ℕ, ◌+◌, ◌*◌, ◌^◌, List, fold}
use Rattle.std.specs.Hash as fed
use Rattle.std.specs.Hash.DefaultHasher as sip
use Rattle.std.specs.Int.{to_be_bytes, w128}
use Rattle.std.specs.RandomState.{initial_hasher}
use Rattle.std.specs.declared.hash.DefaultHasher.{DefaultHasher}
use Rattle.std.specs.declared.hash.RandomState.{RandomState}

-- the hasher that the keys make, behind these two numbers
abbrev pub hasher_behind : RandomState → ℕ → ℕ → DefaultHasher
hasher_behind keys number place =
    fold sip.write (fold sip.write (initial_hasher keys) (fed.u64 number)) (fed.u64 place)

-- eight bytes, as a number: what the keys make of two numbers, one behind the other
abbrev pub word_of : RandomState → ℕ → ℕ → ℕ
word_of keys number place = sip.finish (hasher_behind keys number place)

-- two words of eight bytes as one number, the first one in front
abbrev pub joined : ℕ → ℕ → ℕ
joined first second = first * 2 ^ 64 + second

-- the bytes of the token of a number: its word 0, and then its word 1
abbrev pub token_of : RandomState → ℕ → List ℕ
token_of keys number = to_be_bytes w128 (joined (word_of keys number 0) (word_of keys number 1))
