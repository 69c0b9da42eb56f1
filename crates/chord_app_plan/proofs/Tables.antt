-- Lists of values that are tables.
use Rattle.std.proofs.Common.{◌≡◌, ℕ, zero, suc, ◌+◌, ◌<◌, List, [], ◌∷◌, ◌++◌, length, take, get_or, Option, Some, refl, sym, ap, subst, ◌∙◌, arith}
use Rattle.std.proofs.lemmas.List.{take_more}
use Rattle.toml.specs.declared.value.Value.{Value}
use Rattle.toml.specs.Data.{Data, Items, no_items, item, Members, as_table, push_item}
use Rattle.toml.specs.View.{view, items_view}
use Rattle.toml.proofs.Views.{items_view-push}
use Rattle.chord_app_plan.specs.Plan.{AreTablesOf, AreListed, list_at}

tables_push : {X : Type 0} (Is : Members → X → Type 0) (items : Items) (value : Data) (members : Members) (xs : List X) (x : X)
    → as_table value ≡ Some members → Is members x → AreTablesOf Is items xs → AreTablesOf Is (push_item items value) (xs ++ x ∷ [])
tables_push Is no_items value members [] x e one all = (members, e, one, tt)
tables_push Is no_items value members (y ∷ ys) x e one all = absurd all
tables_push Is (item first items) value members [] x e one all = absurd all
tables_push Is (item first items) value members (y ∷ ys) x e one all = (all.0, all.1, all.2, tables_push Is items value members ys x e one all.3)

-- a list of such values with one more
pub tables_more : {X : Type 0} (Is : Members → X → Type 0) (values : List Value) (i : ℕ) (value : Value) (members : Members) (xs : List X) (x : X)
    → i < length values → value ≡ get_or values i value → as_table (view value) ≡ Some members → Is members x
    → AreTablesOf Is (items_view (take i values)) xs → AreTablesOf Is (items_view (take (i + 1) values)) (xs ++ x ∷ [])
tables_more Is values i value members xs x lt at e one all =
    let more : items_view (take (i + 1) values) ≡ push_item (items_view (take i values)) (view value) =
    ap items_view (take_more values i value lt) ∙ items_view-push (take i values) (get_or values i value) ∙ ap (λ (v : Value). push_item (items_view (take i values)) (view v)) (sym at) in
    subst (λ (items : Items). AreTablesOf Is items (xs ++ x ∷ [])) (sym more) (tables_push Is (items_view (take i values)) (view value) members xs x e one all)

-- the value is a table that describes the thing at this index
pub record HasTable {X : Type 0} (Is : Members → X → Type 0) (value : Value) (xs : List X) (i : ℕ) : Type 0 where
  pub members : Members
  pub one : X
  pub table : as_table (view value) ≡ Some members
  pub is_one : Is members one
  pub at : (d : X) → get_or xs i d ≡ one
  pub within : i < length xs

tables_at : {X : Type 0} (Is : Members → X → Type 0) (values : List Value) (xs : List X) (i : ℕ) (d : Value) → i < length values → AreTablesOf Is (items_view values) xs → HasTable Is (get_or values i d) xs i
tables_at Is [] xs i d lt all = absurd (omega arith)
tables_at Is (v ∷ values) [] i d lt all = absurd all
tables_at Is (v ∷ values) (x ∷ xs) zero d lt all = record { members = all.0; one = x; table = all.1; is_one = all.2; at = λ _. refl; within = omega arith }
tables_at Is (v ∷ values) (x ∷ xs) (suc i) d lt all =
    let h = tables_at Is values xs i d (omega arith) all.3 in
    record { members = h.members; one = h.one; table = h.table; is_one = h.is_one; at = λ e. h.at e; within = let within = h.within in omega arith }

tables_length : {X : Type 0} (Is : Members → X → Type 0) (values : List Value) (xs : List X) → AreTablesOf Is (items_view values) xs → length xs ≡ length values
tables_length Is [] [] all = refl
tables_length Is [] (x ∷ xs) all = absurd all
tables_length Is (v ∷ values) [] all = absurd all
tables_length Is (v ∷ values) (x ∷ xs) all = let same = tables_length Is values xs all.3 in omega arith

abbrev given : Items → Option Items
given items = Some items

some_items : (x y : Items) → given x ≡ given y → x ≡ y
some_items x y e = cc

-- a document lists these things, once its values are known to describe them
pub listed : {X : Type 0} (Is : Members → X → Type 0) (key : List ℕ) (members : Members) (values : List Value) (xs : List X)
    → list_at key members ≡ Some (items_view values) → AreListed Is key members xs → AreTablesOf Is (items_view values) xs
listed Is key members values xs e all = subst (λ (items : Items). AreTablesOf Is items xs) (some_items all.items (items_view values) (sym all.there ∙ e)) all.each

pub listed_length : {X : Type 0} (Is : Members → X → Type 0) (key : List ℕ) (members : Members) (values : List Value) (xs : List X)
    → list_at key members ≡ Some (items_view values) → AreListed Is key members xs → length xs ≡ length values
listed_length Is key members values xs e all = tables_length Is values xs (listed Is key members values xs e all)

pub listed_at : {X : Type 0} (Is : Members → X → Type 0) (key : List ℕ) (members : Members) (values : List Value) (xs : List X) (i : ℕ) (value : Value)
    → list_at key members ≡ Some (items_view values) → AreListed Is key members xs → i < length values → value ≡ get_or values i value → HasTable Is value xs i
listed_at Is key members values xs i value e all lt at =
    subst (λ (v : Value). HasTable Is v xs i) (sym at) (tables_at Is values xs i value lt (listed Is key members values xs e all))

abbrev given_members : Members → Option Members
given_members members = Some members

pub same_members : (x y : Members) → given_members x ≡ given_members y → x ≡ y
same_members x y e = cc

-- the thing at this index is what the value's table describes
pub one_of : {X : Type 0} (Is : Members → X → Type 0) (value : Value) (xs : List X) (i : ℕ) (members : Members) (h : HasTable Is value xs i) → as_table (view value) ≡ Some members → Is members h.one
one_of Is value xs i members h e = subst (λ (m : Members). Is m h.one) (same_members h.members members (sym h.table ∙ e)) h.is_one

tables_same : {X : Type 0} (Is : Members → X → Type 0) (items : Items) (xs ys : List X) → AreTablesOf Is items xs → AreTablesOf Is items ys → length xs ≡ length ys
tables_same Is no_items [] [] p q = refl
tables_same Is no_items [] (y ∷ ys) p q = absurd q
tables_same Is no_items (x ∷ xs) ys p q = absurd p
tables_same Is (item first items) [] ys p q = absurd p
tables_same Is (item first items) (x ∷ xs) [] p q = absurd q
tables_same Is (item first items) (x ∷ xs) (y ∷ ys) p q = let same = tables_same Is items xs ys p.3 q.3 in omega arith

-- two readings of a document list equally many things
pub listed_same : {X : Type 0} (Is : Members → X → Type 0) (key : List ℕ) (members : Members) (xs ys : List X) → AreListed Is key members xs → AreListed Is key members ys → length xs ≡ length ys
listed_same Is key members xs ys p q =
    tables_same Is q.items xs ys (subst (λ (items : Items). AreTablesOf Is items xs) (some_items p.items q.items (sym p.there ∙ q.there)) p.each) q.each
