-- Two texts are the same but for their case.
use Rattle.std.proofs.Common.{◌≡◌, ℕ, Bool, List, map, rules}
use Rattle.std.specs.Prelude.{◌↔◌, IsTrue}
use Rattle.std.specs.Char.{to_ascii_lowercase}
use Rattle.std.specs.Str.{str_eq_ignore_ascii_case}
use Rattle.std.proofs.lemmas.Slice.Eq.{bytes_eq-Decides}

pub same_test : (r : Bool) (a b : List ℕ) → (IsTrue r ↔ (map to_ascii_lowercase a ≡ map to_ascii_lowercase b)) → r ≡ str_eq_ignore_ascii_case a b
same_test r a b h = search (rules, bytes_eq-Decides)
