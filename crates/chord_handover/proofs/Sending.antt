-- The outbox after a give and after a removal.
use Rattle.std.proofs.Common.{◌≡◌, ℕ, suc, ◌+◌, ◌<◌, ◌≤◌, Bool, true, false, cond, not, nat_lt, ltb, None, Some, List, [], ◌∷◌, ◌++◌, length, slice_get, remove, ⊎_elim, refl, sym, ◌∙◌, ap, subst, arith}
use Rattle.std.specs.Prelude.{position}
use Rattle.std.specs.List.{position_or_len}
use Rattle.std.proofs.lemmas.Bool.{ltb-true}
use Rattle.std.proofs.lemmas.Bool.Decides.{nat_tests}
use Rattle.std.proofs.lemmas.Option.{slice_get_past}
use Rattle.std.proofs.lemmas.List.Folds.{find_at}
use Rattle.chord_map.proofs.Lists.{by_option, Has, has_pushed, has_filter, found, each_all, all_each}
use Rattle.chord_segment.specs.declared.mark.Mark.{Mark}
use Rattle.chord_segment.specs.Marks.{mark_of, raise}
use Rattle.chord_segment.proofs.MarkLemmas.{mark_of-raise_same}
use Rattle.chord_segment.proofs.SegmentLemmas.{mark_grows}
use Rattle.chord_handover.specs.Handover.{Item, is_item, item_at, outbox_without}
use Rattle.chord_handover.specs.Outbox.{AreApart, IsOutbox}
use Rattle.chord_handover.proofs.OutboxLemmas.{is_item_parts, item_at_is, without_none, DistinctItems_push, DistinctItems-without}

remove_step : (b : Bool) (x : Item) (rest left : List Item) (n : ℕ) → (b ≡ true → left ≡ rest) → (b ≡ false → n < length rest → remove rest n ≡ left)
    → cond (not b) (1 + n) 0 < length (x ∷ rest) → remove (x ∷ rest) (cond (not b) (1 + n) 0) ≡ cond (not b) (x ∷ left) left
remove_step true x rest left n here further low = sym (here refl)
remove_step false x rest left n here further low =
    let next : 1 + n ≡ suc n = omega arith in
    ap (remove (x ∷ rest)) next ∙ ap (λ items. x ∷ items) (further refl (omega arith))

-- removing the first such item leaves the outbox without it
remove_first : (to number : ℕ) (items : List Item) → AreApart items → position_or_len (is_item to number) items < length items
    → remove items (position_or_len (is_item to number) items) ≡ outbox_without to number items
unfolding outbox_without
remove_first to number [] apart low = absurd (omega arith)
remove_first to number (item ∷ rest) apart low =
    remove_step (is_item to number item) item rest (outbox_without to number rest) (position_or_len (is_item to number) rest)
    (λ yes.
    let same = is_item_parts to number item yes in
    without_none to number rest (rw (same.0, same.1) at apart.0))
    (λ other below. remove_first to number rest apart.1 below)
    low

some_place : (b : Bool) (n k : ℕ) → cond b (Some n) None ≡ Some k → (b ≡ true) × (n ≡ k)
some_place true n k e = (refl, cc)
some_place false n k e = cc

no_place : (b : Bool) (n : ℕ) → cond b (Some n) None ≡ None → b ≡ false
no_place true n e = cc
no_place false n e = refl

past_end : (m n : ℕ) → ltb m n ≡ false → n ≤ m
past_end m n h = grind (arith, nat_tests)

-- the item at an index has its receiver and number; removing it leaves the outbox without that item
pub removed_is : (to number : ℕ) (items : List Item) (place : ℕ) → Some place ≡ position (is_item to number) items → AreApart items
    → (place < length items) × (item_at to number items ≡ slice_get items place) × (remove items place ≡ outbox_without to number items)
unfolding item_at
removed_is to number items place e apart =
    let at = some_place (nat_lt (position_or_len (is_item to number) items) (length items)) (position_or_len (is_item to number) items) place (sym e) in
    let low : position_or_len (is_item to number) items < length items = ltb-true (position_or_len (is_item to number) items) (length items) at.0 in (
      subst (λ n. n < length items) at.1 low,
      find_at (is_item to number) items ∙ ap (slice_get items) at.1,
      ap (remove items) (sym at.1) ∙ remove_first to number items apart low,
    )

not_at : (to number : ℕ) (items : List Item) → length items ≤ position_or_len (is_item to number) items → item_at to number items ≡ None
unfolding item_at
not_at to number items high = find_at (is_item to number) items ∙ slice_get_past items (position_or_len (is_item to number) items) high

-- an item without an index is not in the outbox
pub absent_is : (to number : ℕ) (items : List Item) → None ≡ position (is_item to number) items → (item_at to number items ≡ None) × (outbox_without to number items ≡ items)
absent_is to number items e =
    let high : length items ≤ position_or_len (is_item to number) items =
    past_end (position_or_len (is_item to number) items) (length items) (no_place (nat_lt (position_or_len (is_item to number) items) (length items)) (position_or_len (is_item to number) items) (sym e)) in
    let none : item_at to number items ≡ None = not_at to number items high in
    (none, without_none to number items none)

item_has : (to number : ℕ) (items : List Item) (item : Item) → item_at to number items ≡ Some item → Has items item
unfolding item_at
item_has to number items item e = (found (is_item to number) items item e).1

-- the next number to a receiver is that of no item
next_free : (given : List Mark) (items : List Item) (to number : ℕ) → IsOutbox given items → number ≡ mark_of to given + 1 → item_at to number items ≡ None
next_free given items to number h e =
    by_option (item_at to number items) (λ none. none)
    (λ item there.
    let parts = item_at_is to number items item there in
    let low = each_all (λ (i : Item). i.number ≤ mark_of i.to given) items h.numbered item (item_has to number items item there) in
    let same = ap (λ n. mark_of n given) parts.0 in
    let number_is = parts.1 in
    absurd (omega arith))

-- an outbox keeps its rules when a payload is given
pub gave_keeps : (given : List Mark) (items : List Item) (item : Item) → IsOutbox given items → item.number ≡ mark_of item.to given + 1
    → IsOutbox (raise item.to item.number given) (items ++ item ∷ [])
gave_keeps given items item h e = record {
  numbered = all_each (λ (i : Item). i.number ≤ mark_of i.to (raise item.to item.number given)) (items ++ item ∷ []) (λ other there.
      ⊎_elim
      (λ old.
      let low = each_all (λ (i : Item). i.number ≤ mark_of i.to given) items h.numbered other old in
      let grown = mark_grows other.to item.to item.number given in
      omega arith)
      (λ (new : item ≡ other).
      subst (λ (i : Item). i.number ≤ mark_of i.to (raise item.to item.number given)) new
      (let raised = mark_of-raise_same item.to item.number given in omega arith))
      (has_pushed items item other there));
  apart = DistinctItems_push items item (next_free given items item.to item.number h e) h.apart;
}

left_has : (to number : ℕ) (items : List Item) (other : Item) → Has (outbox_without to number items) other → Has items other
unfolding outbox_without
left_has to number items other there = (has_filter (λ (i : Item). not (is_item to number i)) items other there).0

-- an outbox keeps its rules when an item leaves
pub left_keeps : (given : List Mark) (items : List Item) (to number : ℕ) → IsOutbox given items → IsOutbox given (outbox_without to number items)
left_keeps given items to number h = record {
  numbered = all_each (λ (i : Item). i.number ≤ mark_of i.to given) (outbox_without to number items) (λ other there. each_all (λ (i : Item). i.number ≤ mark_of i.to given) items h.numbered other (left_has to number items other there));
  apart = DistinctItems-without to number items h.apart;
}
