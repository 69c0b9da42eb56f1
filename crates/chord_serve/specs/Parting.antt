-- What is left of a session behind a connection. Source: our own.
use Rattle.std.specs.Prelude.{ℕ, Bool, true, false, Option}
use Rattle.chord_session.specs.SessionState.{SessionState}
use Rattle.chord_serve.specs.declared.client_session.ClientSession.{ClientSession}
use Rattle.chord_serve.specs.declared.parted.Parted.{Parted}
use Rattle.chord_serve.specs.declared.parted.Parted.TheVariants as parted

-- a session with this version, these numbers and this asker
abbrev pub client : {A : Type 0} → Option ℕ → SessionState → A → ClientSession A
client v s a = record { version = v; numbers = s; asker = a }

-- the asker of what is left
abbrev pub asker_of : {A : Type 0} → Parted A → A
asker_of (parted.Kept c) = c.asker
asker_of (parted.Over a) = a

-- the whole session, or its asker alone if it is over
abbrev pub parted_as : {A : Type 0} → Bool → ClientSession A → Parted A
parted_as false c = parted.Kept c
parted_as true c = parted.Over c.asker

-- the session can go on, and this holds of it
abbrev pub KeptAs : {A : Type 0} → Parted A → (ClientSession A → Type 0) → Type 0
KeptAs (parted.Kept c) Holds = Holds c
KeptAs (parted.Over a) Holds = ⊥

-- the session is over, and this holds of its asker
abbrev pub OverAs : {A : Type 0} → Parted A → (A → Type 0) → Type 0
OverAs (parted.Kept c) Holds = ⊥
OverAs (parted.Over a) Holds = Holds a
