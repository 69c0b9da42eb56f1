-- Lists that are looked at item by item.
use Rattle.std.proofs.Common.{◌≡◌, ℕ, ◌+◌, ◌<◌, ◌∙◌, Option, Some, None, List, [], ◌∷◌, ◌++◌, length, map, take, get_or, refl, ap, add-one, arith}
use Rattle.std.proofs.Math.Seq.{take-suc}
use Rattle.std.proofs.lemmas.Option.{slice_get-map, slice_get_within, get_or_from_slice_get}
use Rattle.std.specs.Option.{option_map}
use Rattle.std.specs.Prelude.{slice_get}
use Rattle.chord_handover.specs.Handover.{Item}
use Rattle.chord_ident.specs.declared.span.Span.{Span}
use Rattle.chord_live_ring.specs.Sights.{outbox_sight}
use Rattle.chord_node.specs.View.{item_view, pairs_of_item}

-- the items before this index, and the one at it
pub taken_on : {A : Type 0} → (xs : List A) (i : ℕ) (x : A) → slice_get xs i ≡ Some x → take (i + 1) xs ≡ take i xs ++ x ∷ []
taken_on xs i x is =
    let within : i < length xs = slice_get_within xs i x is in
    let found : get_or xs i x ≡ x = get_or_from_slice_get xs i x x is in
    ap (λ n. take n xs) (add-one i) ∙ (take-suc xs i x within ∙ ap (λ y. take i xs ++ y ∷ []) found)

-- the item at an index, as it is seen
pub some_seen : {A B : Type 0} → (f : A → B) (xs : List A) (i : ℕ) (x : A) → slice_get xs i ≡ Some x → slice_get (map f xs) i ≡ Some (f x)
some_seen f xs i x is = slice_get-map f xs i ∙ ap (option_map f) is

pub none_seen : {A B : Type 0} → (f : A → B) (xs : List A) (i : ℕ) → slice_get xs i ≡ None → slice_get (map f xs) i ≡ None
none_seen f xs i is = slice_get-map f xs i ∙ ap (option_map f) is

-- the outbox item of this view and this many pairs
item_shown : (o : Option Item) (to number pairs : ℕ) (span : Span) → item_view o ≡ Some (to, number, span) → pairs_of_item o ≡ Some pairs
    → option_map outbox_sight o ≡ Some (record { to = to; number = number; span = span; pairs = pairs })
item_shown None to number pairs span is counted = cc
item_shown (Some item) to number pairs span is counted = grind arith

pub some_item : (items : List Item) (i to number pairs : ℕ) (span : Span) → item_view (slice_get items i) ≡ Some (to, number, span) → pairs_of_item (slice_get items i) ≡ Some pairs
    → slice_get (map outbox_sight items) i ≡ Some (record { to = to; number = number; span = span; pairs = pairs })
some_item items i to number pairs span is counted = slice_get-map outbox_sight items i ∙ item_shown (slice_get items i) to number pairs span is counted

item_missing : (o : Option Item) → item_view o ≡ None → option_map outbox_sight o ≡ None
item_missing None is = refl
item_missing (Some item) is = cc

pub none_item : (items : List Item) (i : ℕ) → item_view (slice_get items i) ≡ None → slice_get (map outbox_sight items) i ≡ None
none_item items i is = slice_get-map outbox_sight items i ∙ item_missing (slice_get items i) is
