use Rattle.std.proofs.Common.{◌≡◌, [], ◌∷◌, List, ℕ, None, Some, Option, length, ap, sym, refl, ◌∙◌, arith}
use Rattle.std.specs.FinMap.{FinMap, entries, empty, get, get-empty, len, len-entries, len-empty}
use Rattle.std.specs.Ordering.{nat_cmp}
use Rattle.chord_map.specs.declared.pair.Pair.{Pair}
use Rattle.chord_map.specs.Map.{put_all}
use Rattle.chord_tree_store.specs.declared.slot.Slot.{Slot}
use Rattle.chord_tree_store.specs.Slots.{pairs_in, pairs_of_slots}
use Rattle.chord_tree_store.proofs.slots.Slots.new.Goals as goal

no_entries : (es : List (ℕ × Slot)) → length es ≡ 0 → es ≡ []
no_entries [] none = refl
no_entries (e ∷ es) none = absurd (omega (arith, none))

vacant : (m : FinMap nat_cmp Slot) → m ≡ empty → pairs_in m ≡ []
unfolding put_all
vacant m is = ap (λ (es : List (ℕ × Slot)). put_all (pairs_of_slots es) []) (no_entries (entries m) (sym (len-entries m) ∙ ap (λ (n : FinMap nat_cmp Slot). len n) is ∙ len-empty nat_cmp Slot))

pub invariant_of-result : goal.invariant_of-result
invariant_of-result c = (
  (λ id slot held. absurd (let none : ◌≡◌ {A = Option Slot} None (Some slot) = sym (ap (λ (n : FinMap nat_cmp Slot). get n id) c.new.ensures ∙ get-empty nat_cmp id) ∙ held in cc)),
  sym (ap (λ (ps : List Pair). length ps) (vacant c.new.result c.new.ensures)),
)

pub returns : goal.returns
returns c = vacant c.new.result c.new.ensures
