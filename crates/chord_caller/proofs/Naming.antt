-- Sets of names of calls, one name more or less.
use Rattle.std.proofs.Common.{◌≡◌, ℕ, ◌+◌, ◌<◌, Bool, true, false, cond, not, ◌&&◌, ◌||◌, eqb, None, Some, is_some, List, [], ◌∷◌, ◌++◌, length, take, drop, get_or, take-append-drop, refl, sym, ◌∙◌, ap, ap₂, arith}
use Rattle.std.specs.Ordering.{is_eq, nat_cmp, ordering_then}
use Rattle.std.specs.List.{list_any}
use Rattle.std.specs.BTreeMap.{is_at}
use Rattle.std.specs.BTreeSet.{BTreeSet, IsEmpty, Updates}
use Rattle.std.proofs.lemmas.Bool.Decides.{nat_tests}
use Rattle.std.proofs.lemmas.List.{take_more}
use Rattle.chord_map.specs.declared.done.Done.{Done}
use Rattle.chord_map.specs.History.{done_at}
use Rattle.chord_map.proofs.Equal.{eqb_same}
use Rattle.chord_caller.specs.Names.{name_cmp, has_name}
use Rattle.chord_caller.specs.Unknown.{not_in}
use Rattle.chord_caller.proofs.Places.{either_is, filter_more_yes, filter_more_no}

same_name : (a b c d : ℕ) → is_eq (ordering_then (nat_cmp a b) (nat_cmp c d)) ≡ (eqb a b && eqb c d)
same_name a b c d = grind (arith, nat_tests)

some_if : (b : Bool) (done : Done) → is_some (cond b (Some done) None) ≡ b
some_if true done = refl
some_if false done = refl

-- one more call
more_named : (dones : List Done) (i : ℕ) (d : Done) (caller number : ℕ) → i < length dones → d ≡ get_or dones i d
    → is_some (done_at caller number (take (i + 1) dones)) ≡ (is_some (done_at caller number (take i dones)) || (eqb d.caller caller && eqb d.number number))
unfolding done_at
more_named dones i d caller number low at =
    ap (λ (ds : List Done). is_some (done_at caller number ds)) (take_more dones i d low ∙ ap (λ (x : Done). take i dones ++ x ∷ []) (sym at))
    ∙ either_is caller number (take i dones) (d ∷ [])
    ∙ ap (λ b. is_some (done_at caller number (take i dones)) || b) (some_if (eqb d.caller caller && eqb d.number number) d)

or_turned : (a b : Bool) → cond a true b ≡ (b || a)
or_turned true true = refl
or_turned true false = refl
or_turned false true = refl
or_turned false false = refl

-- one more name
pub name_added : (dones : List Done) (i : ℕ) (d : Done) (old new : BTreeSet (ℕ × ℕ)) → i < length dones → d ≡ get_or dones i d → Updates name_cmp old new (d.caller, d.number) true
    → ((caller number : ℕ) → has_name caller number old ≡ is_some (done_at caller number (take i dones)))
    → (caller number : ℕ) → has_name caller number new ≡ is_some (done_at caller number (take (i + 1) dones))
name_added dones i d old new low at added before caller number =
    added.0 (caller, number)
    ∙ ap₂ (λ a b. cond a true b) (same_name d.caller caller d.number number) (before caller number)
    ∙ or_turned (eqb d.caller caller && eqb d.number number) (is_some (done_at caller number (take i dones)))
    ∙ sym (more_named dones i d caller number low at)

and_not : (a b old : Bool) → cond a false (old && not b) ≡ (old && not (b || a))
and_not true true true = refl
and_not true true false = refl
and_not true false true = refl
and_not true false false = refl
and_not false true true = refl
and_not false true false = refl
and_not false false true = refl
and_not false false false = refl

-- one name removed
pub name_struck : (dones : List Done) (i : ℕ) (d : Done) (first old new : BTreeSet (ℕ × ℕ)) → i < length dones → d ≡ get_or dones i d → Updates name_cmp old new (d.caller, d.number) false
    → ((caller number : ℕ) → has_name caller number old ≡ (has_name caller number first && not (is_some (done_at caller number (take i dones)))))
    → (caller number : ℕ) → has_name caller number new ≡ (has_name caller number first && not (is_some (done_at caller number (take (i + 1) dones))))
name_struck dones i d first old new low at struck before caller number =
    struck.0 (caller, number)
    ∙ ap₂ (λ a b. cond a false b) (same_name d.caller caller d.number number) (before caller number)
    ∙ and_not (eqb d.caller caller && eqb d.number number) (is_some (done_at caller number (take i dones))) (has_name caller number first)
    ∙ ap (λ b. has_name caller number first && not b) (sym (more_named dones i d caller number low at))

or_true : (a b : Bool) → b ≡ true → (a || b) ≡ true
or_true true b e = refl
or_true false b e = e

-- each element of a list is found in it
stands : (dones : List Done) (i : ℕ) (d : Done) → i < length dones → d ≡ get_or dones i d → is_some (done_at d.caller d.number dones) ≡ true
stands dones i d low at =
    let itself : (eqb d.caller d.caller && eqb d.number d.number) ≡ true = ap₂ ◌&&◌ (eqb_same d.caller d.caller refl) (eqb_same d.number d.number refl) in
    let upto : is_some (done_at d.caller d.number (take (i + 1) dones)) ≡ true =
    more_named dones i d d.caller d.number low at ∙ or_true (is_some (done_at d.caller d.number (take i dones))) (eqb d.caller d.caller && eqb d.number d.number) itself in
    ap (λ (ds : List Done). is_some (done_at d.caller d.number ds)) (sym (take-append-drop (i + 1) dones))
    ∙ either_is d.caller d.number (take (i + 1) dones) (drop (i + 1) dones)
    ∙ ap (λ b. b || is_some (done_at d.caller d.number (drop (i + 1) dones))) upto

not_either : (mine told : Bool) → (true && not mine && not told) ≡ not (mine || told)
not_either true told = refl
not_either false told = refl

-- a name that is left is of a call in neither list
pub name_left : (dones mine told : List Done) (i : ℕ) (d : Done) (names : BTreeSet (ℕ × ℕ)) → i < length dones → d ≡ get_or dones i d
    → has_name d.caller d.number names ≡ (is_some (done_at d.caller d.number dones) && not (is_some (done_at d.caller d.number mine)) && not (is_some (done_at d.caller d.number told)))
    → has_name d.caller d.number names ≡ not (is_some (done_at d.caller d.number (mine ++ told)))
name_left dones mine told i d names low at left =
    left
    ∙ ap (λ b. b && not (is_some (done_at d.caller d.number mine)) && not (is_some (done_at d.caller d.number told))) (stands dones i d low at)
    ∙ not_either (is_some (done_at d.caller d.number mine)) (is_some (done_at d.caller d.number told))
    ∙ ap not (sym (either_is d.caller d.number mine told))

-- no names
pub none_named : (names : BTreeSet (ℕ × ℕ)) → IsEmpty names → (caller number : ℕ) → has_name caller number names ≡ is_some (done_at caller number [])
unfolding done_at
none_named names empty caller number = ap (list_any (is_at (name_cmp (caller, number)))) empty

and_true : (b : Bool) → b ≡ (b && true)
and_true true = refl
and_true false = refl

pub none_struck : (names : BTreeSet (ℕ × ℕ)) (caller number : ℕ) → has_name caller number names ≡ (has_name caller number names && not (is_some (done_at caller number [])))
unfolding done_at
none_struck names caller number = and_true (has_name caller number names)

-- one more call: it is in the list, or it is not
pub more_unknown : (listed dones : List Done) (i : ℕ) (d : Done) (left : Bool) → i < length dones → d ≡ get_or dones i d
    → left ≡ not (is_some (done_at d.caller d.number listed)) → left ≡ true → not_in listed (take (i + 1) dones) ≡ not_in listed (take i dones) ++ d ∷ []
more_unknown listed dones i d left low at is there =
    let unknown : Done → Bool = λ (done : Done). not (is_some (done_at done.caller done.number listed)) in
    filter_more_yes unknown dones i d low (ap unknown (sym at) ∙ sym is ∙ there) ∙ ap (λ (x : Done). not_in listed (take i dones) ++ x ∷ []) (sym at)

pub no_more_unknown : (listed dones : List Done) (i : ℕ) (d : Done) (left : Bool) → i < length dones → d ≡ get_or dones i d
    → left ≡ not (is_some (done_at d.caller d.number listed)) → left ≡ false → not_in listed (take (i + 1) dones) ≡ not_in listed (take i dones)
no_more_unknown listed dones i d left low at is none =
    let unknown : Done → Bool = λ (done : Done). not (is_some (done_at done.caller done.number listed)) in
    filter_more_no unknown dones i d low (ap unknown (sym at) ∙ sym is ∙ none)
