use Rattle.std.proofs.Common.{sym, ap, ◌∙◌, ◌≡◌, List, ℕ, Ordering, Less, Equal, Greater, refl, nat_cmp}
use Rattle.std.specs.Ordering.{ordering_then}
use Rattle.std.specs.Cmp.Lexicographic.{slice_cmp}
use Rattle.chord_map.proofs.pair_list.compare.Goals as goal

first_decides : (r s : Ordering) → (r ≡ Equal → ⊥) → r ≡ ordering_then r s
first_decides Less s unequal = refl
first_decides Equal s unequal = absurd (unequal refl)
first_decides Greater s unequal = refl

pub returns-in-Equal : goal.returns-in-Equal
returns-in-Equal c =
    let keys = ap (λ (k : List ℕ). slice_cmp nat_cmp k c.args.key.now) (sym c.as_slice.ensures) ∙ sym c.cmp.ensures ∙ c.in-Equal.is in
    let values = c.cmp-in-Equal.ensures ∙ ap (λ (v : List ℕ). slice_cmp nat_cmp v c.args.value.now) c.as_slice-in-Equal.ensures in
    values ∙ sym (ap (λ (r : Ordering). ordering_then r (slice_cmp nat_cmp c.args.pair.now.value c.args.value.now)) keys)

pub returns-in_default : goal.returns-in_default
returns-in_default c =
    let keys = c.cmp.ensures ∙ ap (λ (k : List ℕ). slice_cmp nat_cmp k c.args.key.now) c.as_slice.ensures in
    first_decides c.cmp.result (slice_cmp nat_cmp c.args.pair.now.value c.args.value.now) c.in_default.not-Equal
    ∙ ap (λ (r : Ordering). ordering_then r (slice_cmp nat_cmp c.args.pair.now.value c.args.value.now)) keys
