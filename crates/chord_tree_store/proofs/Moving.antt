-- Slots that move from one map into another, an identifier at a time.
use Rattle.std.proofs.Common.{◌≡◌, ℕ, suc, zero, length, arith, ◌<◌, Bool, true, false, cond, leb, eqb, ◌||◌, List, [], ◌∷◌, ◌++◌, slice_index_or, Option, None, Some, IsSome, refl, sym, ap, ◌∙◌, subst}
use Rattle.std.specs.List.{filter, list_any}
use Rattle.std.specs.Map.{lookup, keys_of}
use Rattle.std.proofs.lemmas.Bool.{true≢false}
use Rattle.std.proofs.lemmas.List.Folds.{list_any-append}
use Rattle.chord_map.proofs.Lists.{by_test}
use Rattle.chord_map.proofs.Equal.{eqb_same}
use Rattle.chord_tree_store.specs.declared.slot.Slot.{Slot}
use Rattle.chord_tree_store.specs.Shelf.{or_find}

-- each slot is in one of the two, the upper map has those from the number on alone, and what is
-- done has left the lower
pub record IsMoved (old low up : ℕ → Option Slot) (half : ℕ) (done : List ℕ) : Type 0 where
  pub both : (q : ℕ) → or_find (low q) (up q) ≡ old q
  pub above : (q : ℕ) → leb half q ≡ false → up q ≡ None
  pub gone : (q : ℕ) → list_any (eqb q) done ≡ true → low q ≡ None

pub moved_start : (old up : ℕ → Option Slot) (half : ℕ) → ((q : ℕ) → up q ≡ None) → IsMoved old old up half []
moved_start old up half empty = record {
  both = λ q. ap (or_find (old q)) (empty q) ∙ right (old q);
  above = λ q e. empty q;
  gone = λ q e. absurd (true≢false (sym e));
}
  where
    right : (o : Option Slot) → or_find o None ≡ o
    right (Some x) = refl
    right None = refl

same_is : (a b : ℕ) → eqb a b ≡ true → a ≡ b
same_is a b t = grind (arith, t)

turn : (a b : ℕ) → eqb a b ≡ false → eqb b a ≡ false
turn a b f = by_test (eqb b a) (λ t. absurd (true≢false (sym (eqb_same a b (sym (same_is b a t))) ∙ f))) (λ g. g)

or_false : (b : Bool) → (b || false) ≡ b
or_false true = refl
or_false false = refl

-- the last of what is done has left, if the others have
gone_more : (low low' : ℕ → Option Slot) (done : List ℕ) (id : ℕ) → low' id ≡ None → ((q : ℕ) → eqb id q ≡ false → low' q ≡ low q) → ((q : ℕ) → list_any (eqb q) done ≡ true → low q ≡ None)
    → (q : ℕ) → list_any (eqb q) (done ++ id ∷ []) ≡ true → low' q ≡ None
gone_more low low' done id here others gone q e =
    by_test (eqb id q)
    (λ t. ap low' (sym (same_is id q t)) ∙ here)
    (λ f. others q f ∙ gone q (sym (list_any-append (eqb q) done (id ∷ []) ∙ ap (λ b. list_any (eqb q) done || (b || false)) (turn id q f) ∙ or_false (list_any (eqb q) done)) ∙ e))

pub moved_one : (old low up low' up' : ℕ → Option Slot) (half : ℕ) (done : List ℕ) (id : ℕ) → leb half id ≡ true
    → low' id ≡ None → ((q : ℕ) → eqb id q ≡ false → low' q ≡ low q) → up' id ≡ or_find (low id) (up id) → ((q : ℕ) → eqb id q ≡ false → up' q ≡ up q)
    → IsMoved old low up half done → IsMoved old low' up' half (done ++ id ∷ [])
moved_one old low up low' up' half done id high out low_others came up_others is = record {
  both = λ q.
      by_test (eqb id q)
      (λ t. subst (λ (n : ℕ). or_find (low' n) (up' n) ≡ old n) (same_is id q t) (ap (λ o. or_find o (up' id)) out ∙ came ∙ is.both id))
      (λ f. (λ i. or_find (low_others q f i) (up_others q f i)) ∙ is.both q);
  above = λ q e.
      by_test (eqb id q)
      (λ t. absurd (true≢false (sym high ∙ ap (leb half) (same_is id q t) ∙ e)))
      (λ f. up_others q f ∙ is.above q e);
  gone = gone_more low low' done id out low_others is.gone;
}

-- the keys from the number on

passes_front : (p : ℕ → Bool) (x d : ℕ) (ys : List ℕ) → p x ≡ true → ((i : ℕ) → i < length ys → p (slice_index_or ys i d) ≡ true) → (i : ℕ) → i < length (x ∷ ys) → p (slice_index_or (x ∷ ys) i d) ≡ true
passes_front p x d ys t rest zero w = t
passes_front p x d ys t rest (suc i) w = rest i (omega (arith, w))

pub filter_passes : (p : ℕ → Bool) (xs : List ℕ) (d i : ℕ) → i < length (filter p xs) → p (slice_index_or (filter p xs) i d) ≡ true
filter_passes p [] d i within = absurd (omega (arith, within))
filter_passes p (x ∷ xs) d i within =
    by_test (p x)
    (λ t. subst (λ (ys : List ℕ). i < length ys → p (slice_index_or ys i d) ≡ true) (ap (λ b. cond b (x ∷ filter p xs) (filter p xs)) (sym t)) (passes_front p x d (filter p xs) t (filter_passes p xs d) i) within)
    (λ f. subst (λ (ys : List ℕ). i < length ys → p (slice_index_or ys i d) ≡ true) (ap (λ b. cond b (x ∷ filter p xs) (filter p xs)) (sym f)) (filter_passes p xs d i) within)

key_kept : (half q : ℕ) → leb half q ≡ true → (es : List (ℕ × Slot)) → IsSome (lookup (eqb q) es) → list_any (eqb q) (filter (leb half) (keys_of es)) ≡ true
key_kept half q high [] has = absurd (true≢false (sym has))
key_kept half q high (e ∷ es) has =
    by_test (eqb q e.0)
    (λ t.
    let k = ap (leb half) (sym (same_is q e.0 t)) ∙ high in
    ap (λ b. list_any (eqb q) (cond b (e.0 ∷ filter (leb half) (keys_of es)) (filter (leb half) (keys_of es)))) k
    ∙ ap (λ b. b || list_any (eqb q) (filter (leb half) (keys_of es))) t)
    (λ f.
    let rest = key_kept half q high es (subst (λ b. IsSome (cond b (Some e.1) (lookup (eqb q) es))) f has) in
    by_test (leb half e.0)
    (λ t. ap (λ b. list_any (eqb q) (cond b (e.0 ∷ filter (leb half) (keys_of es)) (filter (leb half) (keys_of es)))) t ∙ ap (λ b. b || list_any (eqb q) (filter (leb half) (keys_of es))) f ∙ rest)
    (λ g. ap (λ b. list_any (eqb q) (cond b (e.0 ∷ filter (leb half) (keys_of es)) (filter (leb half) (keys_of es)))) g ∙ rest))

-- after all the keys from the number on

by_option : {X : Type 0} {P : Type 0} (o : Option X) → (o ≡ None → P) → (IsSome o → P) → P
by_option None n s = n refl
by_option (Some x) n s = s refl

first_none : (a b : Option Slot) → or_find a b ≡ None → a ≡ None
first_none None b e = refl
first_none (Some x) b e = e

pub lower_is : (es : List (ℕ × Slot)) (low up : ℕ → Option Slot) (half : ℕ) → IsMoved (λ q. lookup (eqb q) es) low up half (filter (leb half) (keys_of es)) → (q : ℕ) → low q ≡ cond (leb half q) None (lookup (eqb q) es)
lower_is es low up half is q =
    by_test (leb half q)
    (λ t.
    by_option (lookup (eqb q) es)
    (λ n. first_none (low q) (up q) (is.both q ∙ n))
    (λ s. is.gone q (key_kept half q t es s))
    ∙ ap (λ b. cond b None (lookup (eqb q) es)) (sym t))
    (λ f.
    sym (only (low q)) ∙ ap (or_find (low q)) (sym (is.above q f)) ∙ is.both q ∙ ap (λ b. cond b None (lookup (eqb q) es)) (sym f))
  where
    only : (o : Option Slot) → or_find o None ≡ o
    only (Some x) = refl
    only None = refl

pub upper_is : (es : List (ℕ × Slot)) (low up : ℕ → Option Slot) (half : ℕ) → IsMoved (λ q. lookup (eqb q) es) low up half (filter (leb half) (keys_of es)) → (q : ℕ) → up q ≡ cond (leb half q) (lookup (eqb q) es) None
upper_is es low up half is q =
    by_test (leb half q)
    (λ t.
    ap (λ o. or_find o (up q)) (sym (lower_is es low up half is q ∙ ap (λ b. cond b None (lookup (eqb q) es)) t)) ∙ is.both q
    ∙ ap (λ b. cond b (lookup (eqb q) es) None) (sym t))
    (λ f. is.above q f ∙ ap (λ b. cond b (lookup (eqb q) es) None) (sym f))
