-- Lines one after another.
use Rattle.std.proofs.Common.{◌≡◌, ℕ, ◌<◌, ◌+◌, List, [], ◌∷◌, ◌++◌, length, drop, get_or, Result, Ok, Err, OnOk, sym, ap, ◌∙◌, append_assoc, arith}
use Rattle.std.specs.Prelude.{⊤, if◌then◌else◌}
use Rattle.std.specs.Result.{is_ok}
use Rattle.std.specs.declared.alloc.AllocError.{AllocError}
use Rattle.std.proofs.lemmas.Grind.{common_steps}
use Rattle.std.specs.List.{flat_map}

-- the item at a place begins what is left there
left_at : {X : Type 0} (xs : List X) (place : ℕ) (x : X) → place < length xs → x ≡ get_or xs place x → drop place xs ≡ x ∷ drop (place + 1) xs
left_at xs place x within is = grind (arith, common_steps, is)

-- the lines so far and those that are left are all lines, also after one more
pub one_more_line : {X : Type 0} (line : X → List ℕ) (xs : List X) (place : ℕ) (x : X) (old new all : List ℕ) → place < length xs → x ≡ get_or xs place x
    → new ≡ old ++ line x → old ++ flat_map line (drop place xs) ≡ all → new ++ flat_map line (drop (place + 1) xs) ≡ all
one_more_line line xs place x old new all within is added so_far =
    let begins = ap (flat_map line) (left_at xs place x within is) in
    rw (added, append_assoc old (line x) (flat_map line (drop (place + 1) xs))) (ap (λ rest. old ++ rest) (sym begins) ∙ so_far)

-- three texts one after another
pub three_texts : (a b c t0 t1 t2 t3 : List ℕ) → t0 ≡ [] → t1 ≡ t0 ++ a → t2 ≡ t1 ++ b → t3 ≡ t2 ++ c → t3 ≡ a ++ (b ++ c)
three_texts a b c t0 t1 t2 t3 e0 e1 e2 e3 = e3 ∙ (ap (λ t. t ++ c) (e2 ∙ ap (λ t. t ++ b) (e1 ∙ ap (λ t. t ++ a) e0)) ∙ append_assoc a b c)

-- a text after nothing, and one behind another
pub from_nothing : (a t0 t1 : List ℕ) → t0 ≡ [] → t1 ≡ t0 ++ a → t1 ≡ a
from_nothing a t0 t1 e0 e1 = e1 ∙ ap (λ t. t ++ a) e0

-- a text that was pushed
pub pushed : (a : List ℕ) (outcome : Result ⊤ AllocError) (t0 t1 : List ℕ) → t1 ≡ (if is_ok outcome then t0 ++ a else t0) → OnOk outcome (t1 ≡ t0 ++ a)
pushed a (Ok done) t0 t1 e = e
pushed a (Err refused) t0 t1 e = tt

pub two_behind : (a b : List ℕ) (outcome : Result ⊤ AllocError) (t0 t1 t2 : List ℕ) → t1 ≡ t0 ++ a → OnOk outcome (t2 ≡ t1 ++ b) → OnOk outcome (t2 ≡ t0 ++ (a ++ b))
two_behind a b (Ok done) t0 t1 t2 e1 e2 = e2 ∙ (ap (λ t. t ++ b) e1 ∙ append_assoc t0 a b)
two_behind a b (Err refused) t0 t1 t2 e1 e2 = e2
