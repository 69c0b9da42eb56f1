-- Reserved room.
use Rattle.std.proofs.Common.{◌≡◌, false, Result, Ok, Err}
use Rattle.std.specs.Prelude.{OnOk, is_err}

-- what an Ok promises
pub of_ok : {A E P : Type 0} (result : Result A E) → is_err result ≡ false → OnOk result P → P
of_ok (Ok x) e h = h
of_ok (Err x) e h = cc
