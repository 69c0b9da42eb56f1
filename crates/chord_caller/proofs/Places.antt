-- Elements by index, in lists that grow at the end or change at one index.
use Rattle.std.proofs.Common.{◌≡◌, ◌≢◌, ℕ, zero, suc, ◌+◌, ◌<◌, Bool, true, false, ◌||◌, append-nil, take, get_or, Some, is_some, List, [], ◌∷◌, ◌++◌, map, length, slice_get, slice_set, ◌⊎◌, inl, inr, ⊎_elim, refl, sym, ◌∙◌, ap, ap₂}
use Rattle.std.specs.Prelude.{filter}
use Rattle.std.proofs.lemmas.Bool.{cond-true, cond-false}
use Rattle.std.proofs.lemmas.List.{take_more}
use Rattle.std.proofs.lemmas.List.Elements.{filter-append}
use Rattle.chord_map.proofs.Lists.{by_option}
use Rattle.chord_map.specs.declared.done.Done.{Done}
use Rattle.chord_map.specs.History.{done_at}
use Rattle.chord_map.proofs.HistoryLemmas.{done_left, done_right}
use Rattle.std.proofs.lemmas.Option.{none-some, same_Some}

pub got_left : {A : Type 0} (xs more : List A) (place : ℕ) (x : A) → slice_get xs place ≡ Some x → slice_get (xs ++ more) place ≡ Some x
got_left [] more place x e = absurd (none-some x e)
got_left (y ∷ xs) more zero x e = e
got_left (y ∷ xs) more (suc place) x e = got_left xs more place x e

pub got_last : {A : Type 0} (xs : List A) (x : A) → slice_get (xs ++ x ∷ []) (length xs) ≡ Some x
got_last [] x = refl
got_last (y ∷ xs) x = got_last xs x

-- of a list with one more element, an element is an old one or the last
pub got_pushed : {A : Type 0} (xs : List A) (last : A) (place : ℕ) (x : A) → slice_get (xs ++ last ∷ []) place ≡ Some x
    → (slice_get xs place ≡ Some x) ⊎ ((place ≡ length xs) × (last ≡ x))
got_pushed [] last zero x e = inr (refl, same_Some last x e)
got_pushed [] last (suc place) x e = absurd (none-some x e)
got_pushed (y ∷ xs) last zero x e = inl e
got_pushed (y ∷ xs) last (suc place) x e =
    ⊎_elim (λ old. inl old) (λ new. inr (ap suc new.0, new.1)) (got_pushed xs last place x e)

pub got_set_same : {A : Type 0} (xs : List A) (place : ℕ) (x y : A) → slice_get xs place ≡ Some x → slice_get (slice_set xs place y) place ≡ Some y
got_set_same [] place x y e = absurd (none-some x e)
got_set_same (z ∷ xs) zero x y e = refl
got_set_same (z ∷ xs) (suc place) x y e = got_set_same xs place x y e

pub got_set_other : {A : Type 0} (xs : List A) (place other : ℕ) (y : A) → other ≢ place → slice_get (slice_set xs place y) other ≡ slice_get xs other
got_set_other [] zero other y apart = refl
got_set_other [] (suc place) other y apart = refl
got_set_other (x ∷ xs) zero zero y apart = absurd (apart refl)
got_set_other (x ∷ xs) zero (suc other) y apart = refl
got_set_other (x ∷ xs) (suc place) zero y apart = refl
got_set_other (x ∷ xs) (suc place) (suc other) y apart = got_set_other xs place other y (λ e. apart (ap suc e))

-- two functions that agree on the elements of a list give equal lists
pub map_agree : {A B : Type 0} (f g : A → B) (xs : List A) → ((place : ℕ) (x : A) → slice_get xs place ≡ Some x → f x ≡ g x) → map f xs ≡ map g xs
map_agree f g [] same = refl
map_agree f g (x ∷ xs) same = ap₂ ◌∷◌ (same zero x refl) (map_agree f g xs (λ place y e. same (suc place) y e))

-- replacing an element by one with an equal image leaves the mapped list unchanged
pub map-set_same : {A B : Type 0} (f : A → B) (xs : List A) (place : ℕ) (x y : A) → slice_get xs place ≡ Some x → f y ≡ f x → map f (slice_set xs place y) ≡ map f xs
map-set_same f [] place x y e same = absurd (none-some x e)
map-set_same f (z ∷ xs) zero x y e same = ap (λ v. v ∷ map f xs) (same ∙ ap f (sym (same_Some z x e)))
map-set_same f (z ∷ xs) (suc place) x y e same = ap (λ vs. f z ∷ vs) (map-set_same f xs place x y e same)

-- one more element of a list that is filtered
pub filter_more_yes : {A : Type 0} (p : A → Bool) (xs : List A) (i : ℕ) (d : A) → i < length xs → p (get_or xs i d) ≡ true → filter p (take (i + 1) xs) ≡ filter p (take i xs) ++ get_or xs i d ∷ []
filter_more_yes p xs i d low h = ap (filter p) (take_more xs i d low) ∙ filter-append p (take i xs) (get_or xs i d ∷ []) ∙ ap (λ ys. filter p (take i xs) ++ ys) (cond-true (p (get_or xs i d)) (get_or xs i d ∷ []) [] h)

pub filter_more_no : {A : Type 0} (p : A → Bool) (xs : List A) (i : ℕ) (d : A) → i < length xs → p (get_or xs i d) ≡ false → filter p (take (i + 1) xs) ≡ filter p (take i xs)
filter_more_no p xs i d low h = ap (filter p) (take_more xs i d low) ∙ filter-append p (take i xs) (get_or xs i d ∷ []) ∙ ap (λ ys. filter p (take i xs) ++ ys) (cond-false (p (get_or xs i d)) (get_or xs i d ∷ []) [] h) ∙ append-nil (filter p (take i xs))

-- a call is in two joined lists if it is in one of them
pub either_is : (caller number : ℕ) (first second : List Done) → is_some (done_at caller number (first ++ second)) ≡ (is_some (done_at caller number first) || is_some (done_at caller number second))
either_is caller number first second =
    by_option (done_at caller number first)
    (λ none. ap is_some (done_right caller number first second none) ∙ ap (λ o. is_some o || is_some (done_at caller number second)) (sym none))
    (λ done found. ap is_some (done_left caller number first second done found) ∙ ap (λ o. is_some o || is_some (done_at caller number second)) (sym found))
