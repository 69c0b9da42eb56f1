-- One step after another, up to the first that fails. Source: our own.
use Rattle.std.specs.Prelude.{Result, Ok, Err}

-- the next step, if the one before did not fail
abbrev pub and_then : {X Y E : Type 0} → (X → Result Y E) → Result X E → Result Y E
and_then next (Err e) = Err e
and_then next (Ok x) = next x
