-- How sessions begin, lose their connections and are resumed. Source: docs/protocol.md.
use Rattle.std.specs.Prelude.{◌≡◌, ℕ, ◌==◌, Bool, ◌||◌, true, false, List, [], ◌∷◌, ◌++◌, Option, Some, None, is_some, Result, Ok, Err, slice_get, option_and_then, option_map}
use Rattle.std.specs.List.{find, position, remove}
use Rattle.std.specs.Str.{bytes_eq}
use Rattle.chord_wire.specs.declared.token.Token.{Token}
use Rattle.chord_serve.specs.declared.client_session.ClientSession.{ClientSession}
use Rattle.chord_serve.specs.declared.session_table.HeldSession.{HeldSession}
use Rattle.chord_serve.specs.declared.session_table.BeginRefusal.{BeginRefusal}
use Rattle.chord_serve.specs.declared.session_table.BeginRefusal.TheVariants as begins
use Rattle.chord_serve.specs.declared.session_table.Resumed.{Resumed}
use Rattle.chord_serve.specs.declared.session_table.Resumed.TheVariants as resumed
use Rattle.chord_serve.specs.Keeping.{place_of, TakesAt}
use Rattle.chord_serve.specs.TableState.{TableState}

-- the index of the session of this token that a connection has; the token is compared whole
abbrev pub held_at : Token → List HeldSession → Option ℕ
held_at token held = position (λ (h : HeldSession). bytes_eq h.token.bytes token.bytes) held

-- the connection that has the session of this token
abbrev pub connection_of : Token → List HeldSession → Option ℕ
connection_of token held = option_and_then (λ place. option_map (λ (h : HeldSession). h.connection) (slice_get held place)) (held_at token held)

-- the token of the first session that this connection has
abbrev pub token_of : ℕ → List HeldSession → Option Token
token_of connection held = option_map (λ (h : HeldSession). h.token) (find (λ (h : HeldSession). h.connection == connection) held)

-- whether a session has this token
abbrev pub is_known : {A : Type 0} → Token → TableState A → Bool
is_known {A} token t = is_some (held_at token t.held) || is_some (place_of token t.kept)

-- the sessions once this connection has one more of this token
abbrev pub with_held : Token → ℕ → List HeldSession → List HeldSession
with_held token connection held = held ++ record { token = token; connection = connection } ∷ []

-- the sessions that connections have but for the one at this index
abbrev pub without_held : Option ℕ → List HeldSession → List HeldSession
without_held None held = held
without_held (Some place) held = remove held place

-- A session begins where its token is not known.
abbrev pub BeginsAs : {A : Type 0} → Result (Unit {0}) BeginRefusal → Token → ℕ → (old new : TableState A) → Type 0
BeginsAs {A} (Ok u) token connection old new =
    (is_known token old ≡ false) × (new ≡ record { held = with_held token connection old.held; kept = old.kept })
BeginsAs (Err begins.Known) token connection old new = (is_known token old ≡ true) × (new ≡ old)
BeginsAs (Err begins.Memory) token connection old new = (is_known token old ≡ false) × (new ≡ old)

-- A session is resumed where it is kept, and no connection has it.
abbrev pub ResumesAs : {A : Type 0} → Resumed A → Token → ℕ → (old new : TableState A) → Type 0
ResumesAs {A} (resumed.Here client) token connection old new =
    (connection_of token old.held ≡ None) × TakesAt (place_of token old.kept) (Some client) old.kept new.kept
    × (new.held ≡ with_held token connection old.held)
ResumesAs (resumed.Elsewhere older) token connection old new = (connection_of token old.held ≡ Some older) × (new ≡ old)
ResumesAs resumed.Unknown token connection old new = (is_known token old ≡ false) × (new ≡ old)
ResumesAs resumed.Memory token connection old new =
    (connection_of token old.held ≡ None) × (is_some (place_of token old.kept) ≡ true) × (new ≡ old)

-- No connection has the session of this token any more.
abbrev pub EndsAs : {A : Type 0} → Token → (old new : TableState A) → Type 0
EndsAs {A} token old new = new ≡ record { held = without_held (held_at token old.held) old.held; kept = old.kept }

-- A session that lost its connection is kept behind the others.
abbrev pub PartsAs : {A : Type 0} → Result (Unit {0}) (ClientSession A) → Token → ℕ → ClientSession A → (old new : TableState A) → Type 0
PartsAs {A} (Ok u) token since client old new =
    new ≡ record { held = without_held (held_at token old.held) old.held; kept = old.kept ++ record { token = token; since = since; client = client } ∷ [] }
PartsAs (Err back) token since client old new = (back ≡ client) × (new ≡ old)

-- The kept session at this index is dropped, and its asker is given; without an index nothing is.
abbrev pub DropsAs : {A : Type 0} → Option ℕ → Option A → (old new : TableState A) → Type 0
DropsAs {A} place asker old new =
    (client : Option (ClientSession A)) × TakesAt place client old.kept new.kept × (asker ≡ option_map (λ (c : ClientSession A). c.asker) client) × (new.held ≡ old.held)
