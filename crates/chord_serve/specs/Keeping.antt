-- Which of the sessions without a connection is meant. Source: docs/protocol.md.
use Rattle.std.specs.Prelude.{◌≡◌, ℕ, nat_le, ◌+◌, ◌-◌, ◌^◌, min, fold, List, [], ◌∷◌, Option, Some, None, slice_get}
use Rattle.std.specs.List.{position, remove}
use Rattle.std.specs.Str.{bytes_eq}
use Rattle.chord_wire.specs.declared.token.Token.{Token}
use Rattle.chord_session.specs.Session.{bytes_held}
use Rattle.chord_serve.specs.declared.client_session.ClientSession.{ClientSession}
use Rattle.chord_serve.specs.declared.kept_sessions.KeptSession.{KeptSession}

-- the index of the session of this token, compared whole
abbrev pub place_of : {A : Type 0} → Token → List (KeptSession A) → Option ℕ
place_of {A} token kept = position (λ (k : KeptSession A). bytes_eq k.token.bytes token.bytes) kept

-- the index of the first session that lost its connection by then
abbrev pub oldest_of : {A : Type 0} → ℕ → List (KeptSession A) → Option ℕ
oldest_of {A} until kept = position (λ (k : KeptSession A). nat_le k.since until) kept

-- how many bytes the kept answers of the sessions have together, or the greatest count
abbrev pub bytes_kept : {A : Type 0} → List (KeptSession A) → ℕ
bytes_kept {A} kept = fold (λ (sum : ℕ) (k : KeptSession A). min (sum + bytes_held k.client.numbers) (2 ^ 64 - 1)) 0 kept

-- the session at this index is taken out; without an index nothing is
abbrev pub TakesAt : {A : Type 0} → Option ℕ → Option (ClientSession A) → (old new : List (KeptSession A)) → Type 0
TakesAt {A} (Some place) (Some client) old new = (k : KeptSession A) × (slice_get old place ≡ Some k) × (client ≡ k.client) × (new ≡ remove old place)
TakesAt (Some place) None old new = ⊥
TakesAt None (Some client) old new = ⊥
TakesAt None None old new = new ≡ old
