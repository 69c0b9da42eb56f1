-- Two readings of one document have the same counts.
use Rattle.std.proofs.Common.{◌≡◌, ℕ, ℤ, pos, Option, Some}

abbrev given : ℕ → Option ℤ
given count = Some (pos count)

pub same_count : (a b : ℕ) → given a ≡ given b → a ≡ b
same_count a b e = cc
