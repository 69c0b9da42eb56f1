-- Which node a client asks first: a guess for each first byte of identifiers.
use Rattle.std.specs.Prelude.{ℕ, ◌/◌, ◌^◌, nat_lt, if◌then◌else◌, Option, None, Some, slice_index_or, slice_set, replicate}
use Rattle.chord_live.specs.declared.guesses.Guesses.{Guesses}

-- no node is known for any first byte
unfoldable pub no_guesses : Guesses
no_guesses = record { nodes = replicate 256 None }

-- the node that is known for the first byte of this identifier
abbrev pub guess_at : Guesses → ℕ → Option ℕ
guess_at guesses id = slice_index_or guesses.nodes (id / 2 ^ 120) None

-- the guesses with this node, or none, for the first byte of this identifier
abbrev pub with_guess : Guesses → ℕ → Option ℕ → Guesses
with_guess guesses id node = record guesses { nodes = slice_set guesses.nodes (id / 2 ^ 120) node }

-- the number, if it fits into 16 bits
abbrev pub kept_number : ℕ → Option ℕ
kept_number number = if nat_lt number 65536 then Some number else None
