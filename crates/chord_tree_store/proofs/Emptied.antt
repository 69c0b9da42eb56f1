-- What slots by identifier have after slots were dropped.
use Rattle.std.proofs.Common.{◌≡◌, ◌+◌, ◌<◌, ℕ, Bool, true, false, cond, not, eqb, ◌||◌, ◌&&◌, List, [], ◌∷◌, length, take, get_or, Option, None, Some, refl, sym, ap, ◌∙◌, subst, inl, inr, ⊎_elim}
use Rattle.std.specs.FinMap.{FinMap, get}
use Rattle.std.specs.Ordering.{nat_cmp}
use Rattle.std.proofs.lemmas.Bool.{true≢false, or_cases}
use Rattle.std.proofs.lemmas.List.{take_more}
use Rattle.std.proofs.lemmas.List.Folds.{list_any-append}
use Rattle.chord_ident.specs.Circle.{in_span, key_id}
use Rattle.chord_ident.specs.declared.span.Span.{Span}
use Rattle.chord_map.specs.declared.pair.Pair.{Pair}
use Rattle.chord_map.specs.Map.{has_pair}
use Rattle.chord_map.proofs.Equal.{eqb_is, eqb_same}
use Rattle.chord_map.proofs.Lists.{Has, by_test, has_filter}
use Rattle.chord_map.proofs.MapLemmas.{has_filtered, has_of}
use Rattle.chord_map.proofs.Placed.{same_pairs}
use Rattle.chord_tree_store.specs.declared.slot.Slot.{Slot}
use Rattle.chord_store.specs.Inside.{pairs_inside, pairs_outside}
use Rattle.chord_tree_store.specs.Shelf.{has_id}
use Rattle.chord_tree_store.specs.Slot.{pairs_at}
use Rattle.chord_tree_store.specs.Slots.{ArePlaced, pairs_in}
use Rattle.chord_store.proofs.Inside.{rises_outside}
use Rattle.chord_tree_store.proofs.Gathered.{has-in, rises-in}
use Rattle.chord_store.proofs.Puts.{lies_in}

kept_some : (b : Bool) (o : Option Slot) (s : Slot) → cond b None o ≡ Some s → o ≡ Some s
kept_some true o s held = cc
kept_some false o s held = held

has_left : (b : Bool) (q : Pair) (o : Option Slot) → has_pair q (pairs_at (cond b None o)) ≡ (not b && has_pair q (pairs_at o))
has_left true q o = refl
has_left false q o = refl

module _ (m n : FinMap nat_cmp Slot) (placed : ArePlaced m) (drops : ℕ → Bool) (change : (id : ℕ) → get n id ≡ cond (drops id) None (get m id)) where
  pub dropped_placed : ArePlaced n
  dropped_placed id s held = placed id s (kept_some (drops id) (get m id) s (sym (change id) ∙ held))

  pub dropped_pairs : (span : Span) → ((q : Pair) → has_pair q (pairs_in m) ≡ true → drops (key_id q.key) ≡ in_span span (key_id q.key))
      → pairs_in n ≡ pairs_outside span (pairs_in m)
  unfolding pairs_outside
  dropped_pairs span same =
      let old = pairs_in m in
      same_pairs (pairs_in n) (pairs_outside span old) (rises-in n) (rises_outside span old (rises-in m)) (λ q.
      let id = key_id q.key in
      has-in n dropped_placed q
      ∙ ap (λ o. has_pair q (pairs_at o)) (change id)
      ∙ has_left (drops id) q (get m id)
      ∙ ap (λ b. not (drops id) && b) (sym (has-in m placed q))
      ∙ by_test (has_pair q old)
      (λ t. ap (λ b. not b && has_pair q old) (same q t))
      (λ f.
      ap (λ b. not (drops id) && b) f
      ∙ elim (drops id) as (λ b. (not b && false) ≡ (not (in_span span id) && false)) [
        | true ↦ elim (in_span span id) as (λ b. false ≡ (not b && false)) [ true ↦ refl | false ↦ refl ]
        | false ↦ elim (in_span span id) as (λ b. false ≡ (not b && false)) [ true ↦ refl | false ↦ refl ]
      ]
      ∙ ap (λ b. not (in_span span id) && b) (sym f))
      ∙ sym (has_filtered (λ (p : Pair). not (lies_in span p)) q old))

-- the identifiers of copies

has_id_of : (pairs : List Pair) (q : Pair) → Has pairs q → has_id (key_id q.key) pairs ≡ true
has_id_of [] q h = absurd h
has_id_of (p ∷ pairs) q (inl same) = ap (λ b. b || has_id (key_id q.key) pairs) (eqb_same (key_id p.key) (key_id q.key) (ap (λ (x : Pair). key_id x.key) same))
has_id_of (p ∷ pairs) q (inr more) = elim (eqb (key_id p.key) (key_id q.key)) as (λ b. (b || has_id (key_id q.key) pairs) ≡ true) [ true ↦ refl | false ↦ has_id_of pairs q more ]

id_of : (id : ℕ) (pairs : List Pair) → has_id id pairs ≡ true → (p : Pair) × Has pairs p × (key_id p.key ≡ id)
id_of id [] e = absurd (true≢false (sym e))
id_of id (p ∷ pairs) e =
    ⊎_elim (λ here. (p, inl refl, eqb_is (key_id p.key) id here)) (λ more. let r = id_of id pairs more in (r.0, inr r.1, r.2))
    (or_cases (eqb (key_id p.key) id) (has_id id pairs) e)

-- the copies of all pairs in the span have the identifiers of the pairs there alone
pub ids_inside : (span : Span) (old copies : List Pair) → pairs_inside span old ≡ copies → (q : Pair) → has_pair q old ≡ true → has_id (key_id q.key) copies ≡ in_span span (key_id q.key)
unfolding pairs_inside
ids_inside span old copies all q there =
    by_test (in_span span (key_id q.key))
    (λ t. has_id_of copies q (has_of q copies (ap (has_pair q) (sym all) ∙ has_filtered (lies_in span) q old ∙ (λ i. t i && there i))) ∙ sym t)
    (λ f.
    by_test (has_id (key_id q.key) copies)
    (λ h.
    let r = id_of (key_id q.key) copies h in
    let lies = (has_filter (lies_in span) old r.0 (subst (λ (ps : List Pair). Has ps r.0) (sym all) r.1)).1 in
    absurd (true≢false (sym (ap (in_span span) (sym r.2) ∙ lies) ∙ f)))
    (λ h. h ∙ sym f))

two_ids : (a b : Bool) (o : Option Slot) → cond b None (cond a None o) ≡ cond (a || (b || false)) None o
two_ids true true o = refl
two_ids true false o = refl
two_ids false true o = refl
two_ids false false o = refl

-- one identifier more
pub ids_more : (pairs : List Pair) (i : ℕ) (d : Pair) (now then start : ℕ → Option Slot) (id : ℕ) → i < length pairs → id ≡ key_id (get_or pairs i d).key
    → then id ≡ None → ((q : ℕ) → eqb id q ≡ false → then q ≡ now q) → ((q : ℕ) → now q ≡ cond (has_id q (take i pairs)) None (start q))
    → (q : ℕ) → then q ≡ cond (has_id q (take (i + 1) pairs)) None (start q)
ids_more pairs i d now then start id within is here others before q =
    let o = start q in
    let step : then q ≡ cond (eqb id q) None (now q) = by_test (eqb id q)
    (λ t. ap then (sym (eqb_is id q t)) ∙ here ∙ ap (λ b. cond b None (now q)) (sym t))
    (λ f. others q f ∙ ap (λ b. cond b None (now q)) (sym f)) in
    step ∙ ap (cond (eqb id q) None) (before q)
    ∙ two_ids (has_id q (take i pairs)) (eqb id q) o
    ∙ ap (λ (k : ℕ). cond (has_id q (take i pairs) || (eqb k q || false)) None o) is
    ∙ ap (λ b. cond b None o) (sym (list_any-append (λ (p : Pair). eqb (key_id p.key) q) (take i pairs) (get_or pairs i d ∷ [])))
    ∙ ap (λ (ps : List Pair). cond (has_id q ps) None o) (sym (take_more pairs i d within))
