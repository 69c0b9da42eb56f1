-- The sessions of a server. Source: docs/protocol.md.
use Rattle.std.specs.Prelude.{List}
use Rattle.chord_serve.specs.declared.kept_sessions.KeptSession.{KeptSession}
use Rattle.chord_serve.specs.declared.session_table.HeldSession.{HeldSession}

-- the sessions that connections have, and those that are kept without one
pub record TableState (A : Type 0) : Type 0 where
  pub held : List HeldSession
  pub kept : List (KeptSession A)
