-- The pairs of one key, before and after a change of its set.
use Rattle.std.proofs.Common.{◌≡◌, ℕ, ◌+◌, ◌<◌, length, arith, Bool, true, false, cond, not, ◌||◌, ◌&&◌, List, [], ◌∷◌, ◌++◌, map, filter, take, get_or, Ordering, Less, Result, Ok, Err, refl, sym, ap, ◌∙◌, subst, inl, inr, nat_cmp, bytes_eq}
use Rattle.std.specs.Ordering.{ordering_then}
use Rattle.std.specs.Cmp.Lexicographic.{slice_cmp}
use Rattle.std.proofs.lemmas.Bool.{true≢false}
use Rattle.std.proofs.lemmas.Cmp.{tied_itself}
use Rattle.std.proofs.lemmas.List.{take_more}
use Rattle.chord_map.specs.declared.pair.Pair.{Pair}
use Rattle.chord_map.specs.declared.reply.Reply.TheVariants as reply
use Rattle.chord_map.specs.declared.request.Request.TheVariants.{Insert, Remove}
use Rattle.chord_map.specs.Map.{pair_cmp, same_pair, has_pair, values_at, insert_pair, remove_pair, put_all, reply_to}
use Rattle.chord_map.proofs.Lists.{Has, Rises, by_test}
use Rattle.chord_map.proofs.MapLemmas.{RisingPairs, pair_of, values_total, bytes_same, bytes_itself, has_put, has_inserted_pair, has_filtered, same_turned, rises_by, rises_inserted, rises_put}
use Rattle.chord_map.proofs.Ordered.{rises_from_rising}
use Rattle.chord_map.proofs.Placed.{same_pairs, remove_absent}
use Rattle.chord_map.proofs.Replies.{after_reply, due_present, due_full, due_added}
use Rattle.chord_store.specs.declared.outcome.Inserted.{Inserted}
use Rattle.chord_store.specs.declared.outcome.Inserted.TheVariants.{Added, Present, SetFull}
use Rattle.chord_store.specs.Store.{AddIs}
use Rattle.chord_tree_store.specs.declared.value_set.ValueSet.{ValueSet}
use Rattle.chord_store.proofs.Puts.{put_all-push}
use Rattle.chord_tree_store.specs.declared.slot.Slot.{Slot}
use Rattle.chord_tree_store.specs.declared.slot.Slot.TheVariants.{One}
use Rattle.chord_tree_store.specs.Slot.{pairs_under, pairs_of}
use Rattle.chord_tree_store.specs.ValueSet.{has_value, Loses, SetInsertIs}

-- a pair of one key
has-under : (q : Pair) (key : List ℕ) (vs : List (List ℕ)) → has_pair q (pairs_under key vs) ≡ (bytes_eq q.key key && has_value q.value vs)
has-under q key [] = elim (bytes_eq q.key key) as (λ b. false ≡ (b && false)) [ true ↦ refl | false ↦ refl ]
has-under q key (v ∷ vs) =
    ap (λ b. (bytes_eq q.key key && bytes_eq q.value v) || b) (has-under q key vs)
    ∙ elim (bytes_eq q.key key) as (λ b. ((b && bytes_eq q.value v) || (b && has_value q.value vs)) ≡ (b && (bytes_eq q.value v || has_value q.value vs))) [ true ↦ refl | false ↦ refl ]

in_under : (key : List ℕ) (vs : List (List ℕ)) (p : Pair) → Has (pairs_under key vs) p → (p.key ≡ key) × Has vs p.value
in_under key [] p h = absurd h
in_under key (v ∷ vs) p (inl e) = (ap (λ (x : Pair). x.key) (sym e), inl (ap (λ (x : Pair). x.value) e))
in_under key (v ∷ vs) p (inr h) = let r = in_under key vs p h in (r.0, inr r.1)

same_key_less : (p q : Pair) → p.key ≡ q.key → slice_cmp nat_cmp p.value q.value ≡ Less → pair_cmp p q ≡ Less
same_key_less p q same less =
    ap (λ (r : Ordering). ordering_then r (slice_cmp nat_cmp p.value q.value)) (ap (λ (k : List ℕ). slice_cmp nat_cmp p.key k) (sym same) ∙ tied_itself values_total p.key) ∙ less

rises-under : (key : List ℕ) (vs : List (List ℕ)) → Rises (slice_cmp nat_cmp) vs → RisingPairs (pairs_under key vs)
rises-under key [] r = tt
rises-under key (v ∷ vs) r =
    (λ q h. let at = in_under key vs q h in same_key_less (pair_of key v) q (sym at.0) (r.0 q.value at.1), rises-under key vs r.1)

set_rises : (key : List ℕ) (set : ValueSet) → RisingPairs (pairs_under key set.values)
set_rises key set = rises-under key set.values (rises_from_rising (slice_cmp nat_cmp) set.values set.rises)

values-under : (key : List ℕ) (vs : List (List ℕ)) → values_at key (pairs_under key vs) ≡ vs
values-under key [] = refl
values-under key (v ∷ vs) =
    ap (λ b. map (λ (p : Pair). p.value) (cond b (pair_of key v ∷ filter (λ (p : Pair). bytes_eq p.key key) (pairs_under key vs)) (filter (λ (p : Pair). bytes_eq p.key key) (pairs_under key vs)))) (bytes_itself key key refl)
    ∙ ap (λ l. v ∷ l) (values-under key vs)

-- a key has no values under another
values-other : (own key : List ℕ) (vs : List (List ℕ)) → bytes_eq key own ≡ false → values_at key (pairs_under own vs) ≡ []
values-other own key [] f = refl
values-other own key (v ∷ vs) f =
    let turned : bytes_eq own key ≡ false = by_test (bytes_eq own key) (λ t. absurd (true≢false (sym (bytes_itself key own (sym (bytes_same own key t))) ∙ f))) (λ g. g) in
    let rest = filter (λ (p : Pair). bytes_eq p.key key) (pairs_under own vs) in
    ap (λ b. map (λ (p : Pair). p.value) (cond b (pair_of own v ∷ rest) rest)) turned ∙ values-other own key vs f

-- a sorted set's pairs, put in one by one
pub put_under : (key : List ℕ) (set : ValueSet) → put_all (pairs_under key set.values) [] ≡ pairs_under key set.values
put_under key set =
    let pairs = pairs_under key set.values in
    same_pairs (put_all pairs []) pairs (rises_put pairs [] tt) (set_rises key set) (λ q. has_put q pairs [] ∙ elim (has_pair q pairs) as (λ b. (b || false) ≡ b) [ true ↦ refl | false ↦ refl ])

under-push : (key : List ℕ) (vs : List (List ℕ)) (v : List ℕ) → pairs_under key (vs ++ v ∷ []) ≡ pairs_under key vs ++ pair_of key v ∷ []
under-push key [] v = refl
under-push key (x ∷ vs) v = ap (λ (ps : List Pair). pair_of key x ∷ ps) (under-push key vs v)

pub put_under-more : (key : List ℕ) (vs : List (List ℕ)) (i : ℕ) (d : List ℕ) → i < length vs → put_all (pairs_under key (take (i + 1) vs)) [] ≡ insert_pair (pair_of key (get_or vs i d)) (put_all (pairs_under key (take i vs)) [])
put_under-more key vs i d within =
    ap (λ (xs : List (List ℕ)). put_all (pairs_under key xs) []) (take_more vs i d within)
    ∙ ap (λ (ps : List Pair). put_all ps []) (under-push key (take i vs) (get_or vs i d))
    ∙ put_all-push (pairs_under key (take i vs)) (pair_of key (get_or vs i d)) []

has_own : (key value : List ℕ) (vs : List (List ℕ)) → has_pair (pair_of key value) (pairs_under key vs) ≡ has_value value vs
has_own key value vs = has-under (pair_of key value) key vs ∙ ap (λ b. b && has_value value vs) (bytes_itself key key refl)

and_or : (t a b : Bool) → (t && (a || b)) ≡ ((t && a) || (t && b))
and_or true a b = refl
and_or false a b = refl

not_and : (t a b : Bool) → (t && (not a && b)) ≡ (not (t && a) && (t && b))
not_and true a b = refl
not_and false a b = refl

-- what an insert into the set answers, the map replies
set_adds : (key value : List ℕ) (old new : ValueSet) {E : Type 0} (r : Result Inserted E) → SetInsertIs value old.values r new.values → AddIs (pair_of key value) (pairs_under key old.values) r (pairs_under key new.values)
set_adds key value old new (Ok Added) a =
    let pairs = pairs_under key old.values in
    let pair = pair_of key value in
    let due = due_added key value pairs (has_own key value old.values ∙ a.0) (rw (values-under key old.values) a.1) in (
      due,
      same_pairs (pairs_under key new.values) (insert_pair pair pairs) (set_rises key new) (rises_inserted pair pairs (set_rises key old)) (λ q.
          has-under q key new.values
          ∙ ap (λ b. bytes_eq q.key key && b) (a.2.each q.value)
          ∙ and_or (bytes_eq q.key key) (bytes_eq q.value value) (has_value q.value old.values)
          ∙ ap (λ b. same_pair q pair || b) (sym (has-under q key old.values))
          ∙ sym (has_inserted_pair q pair pairs))
          ∙ sym (after_reply (Insert key value) reply.Added pairs due),
    )
set_adds key value old new (Ok Present) a =
    let pairs = pairs_under key old.values in
    let due = due_present key value pairs (has_own key value old.values ∙ a.0) in
    (due, ap (pairs_under key) a.1 ∙ sym (after_reply (Insert key value) reply.Present pairs due))
set_adds key value old new (Ok SetFull) a =
    let pairs = pairs_under key old.values in
    let due = due_full key value pairs (has_own key value old.values ∙ a.0) (rw (values-under key old.values) a.1) in
    (due, ap (pairs_under key) a.2 ∙ sym (after_reply (Insert key value) reply.SetFull pairs due))
set_adds key value old new (Err e) a =
    (due_added key value (pairs_under key old.values) (has_own key value old.values ∙ a.0) (rw (values-under key old.values) a.1), ap (pairs_under key) a.2)

set_loses : (key value : List ℕ) (old new : ValueSet) → Loses value old.values new.values → pairs_under key new.values ≡ remove_pair (pair_of key value) (pairs_under key old.values)
unfolding remove_pair
set_loses key value old new loss =
    let pairs = pairs_under key old.values in
    let pair = pair_of key value in
    same_pairs (pairs_under key new.values) (remove_pair pair pairs) (set_rises key new) (rises_by (Remove key value) reply.Removed pairs (set_rises key old)) (λ q.
    has-under q key new.values
    ∙ ap (λ b. bytes_eq q.key key && b) (loss.each q.value)
    ∙ not_and (bytes_eq q.key key) (bytes_eq q.value value) (has_value q.value old.values)
    ∙ (λ i. not (same_turned q pair i) && sym (has-under q key old.values) i)
    ∙ sym (has_filtered (λ (other : Pair). not (same_pair pair other)) q pairs))

-- a slot of one key

module _ (slot : Slot) (own : List ℕ) (set : ValueSet) (is : slot ≡ One own set) where
  pub one_has : (q : Pair) → has_pair q (pairs_of slot) ≡ (bytes_eq q.key own && has_value q.value set.values)
  one_has q = ap (λ s. has_pair q (pairs_of s)) is ∙ has-under q own set.values

  module _ (key value : List ℕ) where
    pub own_values : bytes_eq key own ≡ true → values_at key (pairs_of slot) ≡ set.values
    own_values t = ap (λ s. values_at key (pairs_of s)) is ∙ ap (λ (k : List ℕ). values_at k (pairs_under own set.values)) (bytes_same key own t) ∙ values-under own set.values

    pub no_values : bytes_eq key own ≡ false → values_at key (pairs_of slot) ≡ []
    no_values f = ap (λ s. values_at key (pairs_of s)) is ∙ values-other own key set.values f

    pub has_not : bytes_eq key own ≡ false → has_pair (pair_of key value) (pairs_of slot) ≡ false
    has_not f = one_has (pair_of key value) ∙ ap (λ b. b && has_value value set.values) f

    pub has_if : bytes_eq key own ≡ true → has_pair (pair_of key value) (pairs_of slot) ≡ has_value value set.values
    has_if t = one_has (pair_of key value) ∙ ap (λ b. b && has_value value set.values) t

    -- a second key has room
    pub second_adds : bytes_eq key own ≡ false → reply_to (Insert key value) (pairs_of slot) ≡ reply.Added
    second_adds f = let none = ap (λ (vs : List (List ℕ)). length vs) (no_values f) in due_added key value (pairs_of slot) (has_not f) (omega (arith, none))

    pub own_adds : bytes_eq key own ≡ true → (new : ValueSet) {E : Type 0} (r : Result Inserted E) → SetInsertIs value set.values r new.values → AddIs (pair_of key value) (pairs_of slot) r (pairs_under own new.values)
    own_adds t new r a =
        subst (λ s. AddIs (pair_of key value) (pairs_of s) r (pairs_under own new.values)) (sym is)
        (subst (λ (k : List ℕ). AddIs (pair_of k value) (pairs_under own set.values) r (pairs_under own new.values)) (sym (bytes_same key own t)) (set_adds own value set new r a))

    pub own_loses : bytes_eq key own ≡ true → (new : ValueSet) → Loses value set.values new.values → pairs_under own new.values ≡ remove_pair (pair_of key value) (pairs_of slot)
    own_loses t new loss =
        set_loses own value set new loss
        ∙ ap (λ (k : List ℕ). remove_pair (pair_of k value) (pairs_under own set.values)) (sym (bytes_same key own t))
        ∙ ap (λ s. remove_pair (pair_of key value) (pairs_of s)) (sym is)

    pub none_lost : bytes_eq key own ≡ false → pairs_under own set.values ≡ remove_pair (pair_of key value) (pairs_of slot)
    none_lost f = ap pairs_of (sym is) ∙ sym (remove_absent (pair_of key value) (pairs_of slot) (has_not f))
