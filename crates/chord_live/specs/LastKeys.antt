-- The key that a client asked last.
use Rattle.std.specs.Prelude.{ℕ, List, length, nat_le, if◌then◌else◌}

-- the key that is remembered after this one was asked: it, if it has at most 64 bytes
abbrev pub remembered : List ℕ → List ℕ → List ℕ
remembered last key = if nat_le (length key) 64 then key else last
