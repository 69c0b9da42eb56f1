-- What a client with several requests in flight knows. Source: our own.
use Rattle.std.specs.Prelude.{ℕ, List}
use Rattle.chord_wire.specs.declared.request.WireRequest.{WireRequest}

-- The version and the window; the last number; the requests that wait for answers, in order; the
-- requests that got a fault and may be sent again; the bytes read and not yet looked at.
pub record ClientState : Type 0 where
  pub version : ℕ
  pub window : ℕ
  pub last : ℕ
  pub awaited : List WireRequest
  pub refused : List WireRequest
  pub bytes : List ℕ
