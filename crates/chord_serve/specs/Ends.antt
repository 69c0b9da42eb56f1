-- How a dialogue ends. Source: our own.
use Rattle.std.specs.Prelude.{ℕ, List, Option}
use Rattle.std.specs.Io.KnownBytes.{IsAtEnd}
use Rattle.chord_serve.specs.declared.served.Served.{Served}
use Rattle.chord_serve.specs.declared.served.Served.TheVariants as served

-- ends that a request can cause, or the writing of its answer
abbrev pub IsStop : Served → Type 0
IsStop (served.Malformed code) = Unit {0}
IsStop served.Protocol = Unit {0}
IsStop served.Foreign = Unit {0}
IsStop served.Quit = Unit {0}
IsStop served.Write = Unit {0}
IsStop served.Memory = Unit {0}
IsStop served.Ended = ⊥
IsStop served.Truncated = ⊥
IsStop served.Read = ⊥
IsStop served.TurnsSpent = ⊥

-- at these two ends no input is left
abbrev pub EndsInput : Served → Option (List ℕ) → Type 0
EndsInput served.Ended left = IsAtEnd left
EndsInput served.Truncated left = IsAtEnd left
EndsInput end left = Unit {0}
