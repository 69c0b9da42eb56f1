-- Whether a call is in two lists.
use Rattle.std.proofs.Common.{◌≡◌, ℕ, suc, ◌+◌, ◌<◌, Bool, true, false, ◌||◌, refl, sym, ◌∙◌, ap, ap₂, List, [], ◌∷◌, ◌++◌, None, length, get_or, take, drop, append-nil}
use Rattle.std.specs.Prelude.{is_some}
use Rattle.std.proofs.lemmas.List.Folds.{list_any-append}
use Rattle.chord_map.proofs.Each.{Each}
use Rattle.chord_map.specs.declared.done.Done.{Done}
use Rattle.chord_map.specs.History.{done_at}
use Rattle.chord_segment.specs.Segment.{stands_twice}
use Rattle.chord_segment.specs.Callers.{OfCaller, calls_in}
use Rattle.chord_segment.proofs.Grouped.{calls-append, split_at}
use Rattle.chord_segment.proofs.Bare.{take_next}

-- a caller's call is in the whole exactly if it is in the caller's entry
pub twice_own : (caller : ℕ) (all own dones : List Done) → ((number : ℕ) → done_at caller number all ≡ done_at caller number own)
    → Each (λ (d : Done). d.caller ≡ caller) dones → stands_twice own dones ≡ stands_twice all dones
unfolding stands_twice
twice_own caller all own [] same o = refl
twice_own caller all own (d ∷ dones) same o =
    ap₂ (λ (a b : Bool). a || b)
    (ap (λ c. is_some (done_at c d.number own)) o.0 ∙ ap is_some (sym (same d.number)) ∙ ap (λ c. is_some (done_at c d.number all)) (sym o.0))
    (twice_own caller all own dones same o.1)

pub twice_none : (caller : ℕ) (all dones : List Done) → ((number : ℕ) → done_at caller number all ≡ None)
    → Each (λ (d : Done). d.caller ≡ caller) dones → false ≡ stands_twice all dones
unfolding stands_twice
twice_none caller all [] none o = refl
twice_none caller all (d ∷ dones) none o =
    ap₂ (λ (a b : Bool). a || b) (sym (ap (λ c. is_some (done_at c d.number all)) o.0 ∙ ap is_some (none d.number))) (twice_none caller all dones none o.1)

twice-append : (all xs ys : List Done) → stands_twice all (xs ++ ys) ≡ (stands_twice all xs || stands_twice all ys)
unfolding stands_twice
twice-append all xs ys = list_any-append _ xs ys

none_first : (all : List Done) → stands_twice all [] ≡ false
unfolding stands_twice
none_first all = refl

either : (a b : Bool) → a ≡ false → b ≡ false → (a || b) ≡ false
either a b e f = rw e f

or_true : (a b : Bool) → b ≡ true → (a || b) ≡ true
or_true true b f = refl
or_true false b f = f

left_true : (a b : Bool) → a ≡ true → (a || b) ≡ true
left_true a b e = rw e refl

pub twice_init : (all : List Done) (xs : List OfCaller) → stands_twice all (calls_in (take 0 xs)) ≡ false
twice_init all xs = none_first all

pub twice_next : (all : List Done) (xs : List OfCaller) (i : ℕ) (d : OfCaller) → i < length xs → stands_twice all (calls_in (take i xs)) ≡ false
    → stands_twice all (get_or xs i d).kept ≡ false → stands_twice all (calls_in (take (i + 1) xs)) ≡ false
twice_next all xs i d s before here =
    let own = get_or xs i d in
    ap (λ (ys : List OfCaller). stands_twice all (calls_in ys)) (take_next xs i d s) ∙ ap (stands_twice all) (calls-append (take i xs) (own ∷ []))
    ∙ twice-append all (calls_in (take i xs)) (calls_in (own ∷ []))
    ∙ either _ _ before (ap (stands_twice all) (append-nil own.kept) ∙ here)

pub twice_found : (all : List Done) (xs : List OfCaller) (i : ℕ) (d : OfCaller) → i < length xs → stands_twice all (get_or xs i d).kept ≡ true → true ≡ stands_twice all (calls_in xs)
twice_found all xs i d s here =
    let own = get_or xs i d in
    let rest = drop (suc i) xs in
    sym (ap (λ (ys : List OfCaller). stands_twice all (calls_in ys)) (split_at xs i d s) ∙ ap (stands_twice all) (calls-append (take i xs) (own ∷ rest))
    ∙ twice-append all (calls_in (take i xs)) (calls_in (own ∷ rest))
    ∙ or_true (stands_twice all (calls_in (take i xs))) (stands_twice all (calls_in (own ∷ rest)))
    (twice-append all own.kept (calls_in rest) ∙ left_true (stands_twice all own.kept) (stands_twice all (calls_in rest)) here))
