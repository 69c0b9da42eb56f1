-- Which sessions without a connection are kept. Source: our own.
use Rattle.std.specs.Prelude.{ℕ, ◌-◌, ◌*◌, Bool, nat_lt, Option, Some, None, if◌then◌else◌}

-- The moment, in milliseconds, since which a session may have been without a connection at most
-- that is kept no longer, where one is kept for these seconds and its caller is needed.
abbrev pub kept_until : (now seconds : ℕ) → Option ℕ
kept_until now seconds =
    if nat_lt now (seconds * 1000) then None else Some (now - seconds * 1000)

-- Whether the kept answers of all sessions without a connection have too many bytes: above 64 MiB.
abbrev pub is_surplus : ℕ → Bool
is_surplus bytes = nat_lt 67108864 bytes
