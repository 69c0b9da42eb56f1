-- Members one after another.
use Rattle.std.proofs.Common.{◌≡◌, ℕ, ◌<◌, ◌+◌, List, ◌∷◌, length, drop, get_or, map, sym, ap, ◌∙◌, arith}
use Rattle.std.proofs.lemmas.Grind.{common_steps}
use Rattle.serde_json.specs.Data.{Data, Members, put}
use Rattle.chord_app_operator.specs.Json.{with_members}

-- the item at a place begins what is left there
left_at : {X : Type 0} (xs : List X) (place : ℕ) (d : X) → place < length xs → drop place xs ≡ get_or xs place d ∷ drop (place + 1) xs
left_at xs place d within = grind (arith, common_steps)

-- the members so far and those that are left are all members, also after one more
pub one_more_member : {X : Type 0} (member_of : X → List ℕ × Data) (xs : List X) (place : ℕ) (d : X) (value : Data) (old new all : Members) → place < length xs
    → value ≡ (member_of (get_or xs place d)).1 → new ≡ put (member_of (get_or xs place d)).0 value old
    → with_members old (map member_of (drop place xs)) ≡ all → with_members new (map member_of (drop (place + 1) xs)) ≡ all
one_more_member member_of xs place d value old new all within is added so_far =
    let begins = ap (λ rest. with_members old (map member_of rest)) (left_at xs place d within) in
    rw (added, is) (sym begins ∙ so_far)
