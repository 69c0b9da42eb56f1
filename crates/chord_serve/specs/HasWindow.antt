-- Which windows a client may have. Source: our own.
use Rattle.std.specs.Prelude.{◌≡◌, ◌⊎◌, ℕ, ◌≤◌}
use Rattle.std.specs.List.{All}
use Rattle.chord_wire.specs.Spelling.{IsWireRequest}
use Rattle.chord_serve.specs.ClientState.{ClientState}

-- one request at a time in version 1, 1 to 16 in version 2
abbrev pub HasWindow : ℕ → ℕ → Type 0
HasWindow version window = ((version ≡ 1) × (window ≡ 1)) ⊎ ((version ≡ 2) × (1 ≤ window) × (window ≤ 16))

-- the version allows the window, and each open request has a frame
pub record IsClient (c : ClientState) : Type 0 where
  pub window : HasWindow c.version c.window
  pub awaited : All IsWireRequest c.awaited
  pub refused : All IsWireRequest c.refused
