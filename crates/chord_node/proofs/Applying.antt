-- The calls of a store, as a table of requests.
use Rattle.std.proofs.Common.{Ordering, Less, Equal, Greater, ◌≡◌, ℕ, Bool, true, false, cond, ◌<◌, Ok, Err, List, [], ◌∷◌, ◌||◌, not, filter, ap, ◌∙◌, length, refl, sym, subst, leb}
use Rattle.std.proofs.lemmas.Bool.{lt-leb, le-leb}
use Rattle.chord_map.specs.declared.pair.Pair.{Pair}
use Rattle.chord_map.specs.declared.request.Request.TheVariants as request
use Rattle.chord_map.specs.declared.reply.Reply.{Reply}
use Rattle.chord_map.specs.declared.reply.Reply.TheVariants as reply
use Rattle.chord_map.specs.Map.{has_pair, same_pair, values_at, reply_to, pairs_after, pairs_by, remove_pair}
use Rattle.chord_store.specs.declared.outcome.Inserted.{Inserted}
use Rattle.chord_store.specs.declared.outcome.Inserted.TheVariants.{Added, Present, SetFull}
use Rattle.chord_store.specs.declared.outcome.StoreFault.{StoreFault}
use Rattle.chord_store.specs.declared.outcome.StoreFault.TheVariants.{Full, Memory}
use Rattle.chord_store.specs.Store.{reply_for, InsertIs}
use Rattle.chord_map.specs.declared.request.Request.{Request}
use Rattle.chord_map.specs.Map.{insert_pair, by_order, pair_cmp}
use Rattle.chord_map.proofs.MapLemmas.{is_same}
use Rattle.chord_map.proofs.Replies.{after_reply}
use Rattle.chord_map.specs.Map.{IsValues}
use Rattle.chord_node.specs.Asked.{adds_pair, is_full_for, Applied}

has_room : (did : Inserted) (pairs : List Pair) (limit : ℕ) → (did ≡ Added → length pairs < limit)
    → cond (adds_pair (reply_for did)) (leb limit (length pairs)) false ≡ false
has_room Added pairs limit room = lt-leb limit (length pairs) (room refl)
has_room Present pairs limit room = refl
has_room SetFull pairs limit room = refl

-- an insert with this answer
inserted_is : (pairs new : List Pair) (limit : ℕ) (key value : List ℕ) (did : Inserted) (told : Reply)
    → InsertIs (record { key = key; value = value }) pairs limit (Ok did) new → told ≡ reply_for did → Applied (request.Insert key value) pairs limit (Ok told) new
unfolding is_full_for
inserted_is pairs new limit key value did told did_so is = (
  is ∙ sym did_so.0,
  ap (λ (r : Reply). cond (adds_pair r) (leb limit (length pairs)) false) did_so.0 ∙ has_room did pairs limit did_so.1,
  did_so.2,
)

-- an insert that was refused
refused_is : (pairs new : List Pair) (limit : ℕ) (key value : List ℕ) (fault : StoreFault)
    → InsertIs (record { key = key; value = value }) pairs limit (Err fault) new → Applied (request.Insert key value) pairs limit (Err fault) new
unfolding is_full_for
refused_is pairs new limit key value Full refused =
    (ap (λ (r : Reply). cond (adds_pair r) (leb limit (length pairs)) false) refused.0 ∙ le-leb limit (length pairs) refused.1, refused.2)
refused_is pairs new limit key value Memory refused =
    (ap (λ (r : Reply). cond (adds_pair r) (leb limit (length pairs)) false) refused.0 ∙ lt-leb limit (length pairs) refused.1, refused.2)

pub same_pairs : {key value key' value' : List ℕ} → key' ≡ key → value' ≡ value → ◌≡◌ {A = Pair} (record { key = key'; value = value' }) (record { key = key; value = value })
same_pairs e f = cc

-- a refusal, for bytes equal to the key and the value
pub refused_for : (pairs new : List Pair) (limit : ℕ) (key value key' value' : List ℕ) (fault : StoreFault) → key' ≡ key → value' ≡ value
    → InsertIs (record { key = key'; value = value' }) pairs limit (Err fault) new → Applied (request.Insert key value) pairs limit (Err fault) new
refused_for pairs new limit key value key' value' fault e f refused =
    let at : Pair → Type 0 = λ pair. InsertIs pair pairs limit (Err fault) new in
    refused_is pairs new limit key value fault (subst at (same_pairs e f) refused)

pub inserted_for : (pairs new : List Pair) (limit : ℕ) (key value key' value' : List ℕ) (did : Inserted) (told : Reply) → key' ≡ key → value' ≡ value
    → InsertIs (record { key = key'; value = value' }) pairs limit (Ok did) new → told ≡ reply_for did → Applied (request.Insert key value) pairs limit (Ok told) new
inserted_for pairs new limit key value key' value' did told e f did_so is =
    let at : Pair → Type 0 = λ pair. InsertIs pair pairs limit (Ok did) new in
    inserted_is pairs new limit key value did told (subst at (same_pairs e f) did_so) is

-- removing a pair that is not there leaves the map unchanged
none_step : (b : Bool) (other : Pair) (found : Bool) (xs ys : List Pair) → (b || found) ≡ false → (found ≡ false → xs ≡ ys) → cond (not b) (other ∷ xs) xs ≡ other ∷ ys
none_step true other found xs ys e next = cc
none_step false other found xs ys e next = ap (λ (zs : List Pair). other ∷ zs) (next e)

none_removed : (pair : Pair) (pairs : List Pair) → has_pair pair pairs ≡ false → remove_pair pair pairs ≡ pairs
unfolding remove_pair
none_removed pair [] e = refl
none_removed pair (other ∷ pairs) e = none_step (same_pair pair other) other (has_pair pair pairs) (filter (λ (x : Pair). not (same_pair pair x)) pairs) pairs e (λ f. none_removed pair pairs f)

-- ---- whether the store is full for a request

full_by : (request : Request) (reply : Reply) (pairs : List Pair) (limit : ℕ) (b : Bool) → reply_to request pairs ≡ reply
    → cond (adds_pair reply) (leb limit (length pairs)) false ≡ b → is_full_for request pairs limit ≡ b
unfolding is_full_for
full_by request reply pairs limit b e f = ap (λ (r : Reply). cond (adds_pair r) (leb limit (length pairs)) false) e ∙ f

pub not_full_retrieve : (key : List ℕ) (pairs : List Pair) (limit : ℕ) → is_full_for (request.Retrieve key) pairs limit ≡ false
unfolding is_full_for reply_to
not_full_retrieve key pairs limit = refl

pub not_full_remove : (key value : List ℕ) (pairs : List Pair) (limit : ℕ) → is_full_for (request.Remove key value) pairs limit ≡ false
unfolding is_full_for reply_to
not_full_remove key value pairs limit = none_added (has_pair (record { key = key; value = value }) pairs)
  where
    none_added : (b : Bool) → cond (adds_pair (cond b reply.Removed reply.Absent)) (leb limit (length pairs)) false ≡ false
    none_added true = refl
    none_added false = refl

module _ (pairs new : List Pair) (limit : ℕ) (key value key' value' : List ℕ) (e : key' ≡ key) (f : value' ≡ value) where
  -- what an insert was answered tells it
  pub full_by_did : (did : Inserted) → InsertIs (record { key = key'; value = value' }) pairs limit (Ok did) new → is_full_for (request.Insert key value) pairs limit ≡ false
  full_by_did did h =
      let at : Pair → Type 0 = λ pair. InsertIs pair pairs limit (Ok did) new in
      let told = subst at (same_pairs e f) h in
      full_by (request.Insert key value) (reply_for did) pairs limit false told.0 (has_room did pairs limit told.1)

  pub full_by_full : InsertIs (record { key = key'; value = value' }) pairs limit (Err Full) new → is_full_for (request.Insert key value) pairs limit ≡ true
  full_by_full h =
      let at : Pair → Type 0 = λ pair. InsertIs pair pairs limit (Err Full) new in
      let told = subst at (same_pairs e f) h in
      full_by (request.Insert key value) reply.Added pairs limit true told.0 (le-leb limit (length pairs) told.1)

  pub full_by_memory : InsertIs (record { key = key'; value = value' }) pairs limit (Err Memory) new → is_full_for (request.Insert key value) pairs limit ≡ false
  full_by_memory h =
      let at : Pair → Type 0 = λ pair. InsertIs pair pairs limit (Err Memory) new in
      let told = subst at (same_pairs e f) h in
      full_by (request.Insert key value) reply.Added pairs limit false told.0 (lt-leb limit (length pairs) told.1)

-- an insert that adds nothing leaves the map unchanged
pub unadded_stays : (pair : Pair) (pairs new : List Pair) (limit : ℕ) (did : Inserted) → (did ≡ Added → ⊥) → InsertIs pair pairs limit (Ok did) new → new ≡ pairs
unadded_stays pair pairs new limit Added other h = absurd (other refl)
unadded_stays pair pairs new limit Present other h = h.2 ∙ after_reply (request.Insert pair.key pair.value) reply.Present pairs h.0
unadded_stays pair pairs new limit SetFull other h = h.2 ∙ after_reply (request.Insert pair.key pair.value) reply.SetFull pairs h.0

-- a pair that was added is taken out again
was_absent : (b c : Bool) → cond b reply.Present (cond c reply.SetFull reply.Added) ≡ reply.Added → b ≡ false
was_absent true c e = cc
was_absent false c e = refl

absent : (key value : List ℕ) (pairs : List Pair) → reply_to (request.Insert key value) pairs ≡ reply.Added → has_pair (record { key = key; value = value }) pairs ≡ false
unfolding reply_to
absent key value pairs e = was_absent (has_pair (record { key = key; value = value }) pairs) (leb 1000 (length (values_at key pairs))) e

drops_same : (pair : Pair) (rest : List Pair) → remove_pair pair (pair ∷ rest) ≡ remove_pair pair rest
unfolding remove_pair
drops_same pair rest = ap (λ (b : Bool). cond (not b) (pair ∷ filter (λ (x : Pair). not (same_pair pair x)) rest) (filter (λ (x : Pair). not (same_pair pair x)) rest)) (is_same pair pair refl)

keeps_other : (pair first : Pair) (rest : List Pair) → same_pair pair first ≡ false → remove_pair pair (first ∷ rest) ≡ first ∷ remove_pair pair rest
unfolding remove_pair
keeps_other pair first rest e = ap (λ (b : Bool). cond (not b) (first ∷ filter (λ (x : Pair). not (same_pair pair x)) rest) (filter (λ (x : Pair). not (same_pair pair x)) rest)) e

or_left : (b c : Bool) → (b || c) ≡ false → b ≡ false
or_left true c e = cc
or_left false c e = refl

or_right : (b c : Bool) → (b || c) ≡ false → c ≡ false
or_right true c e = cc
or_right false c e = e

by_place : (pair first : Pair) (rest : List Pair) → has_pair pair (first ∷ rest) ≡ false → remove_pair pair (insert_pair pair rest) ≡ rest
    → (o : Ordering) → remove_pair pair (by_order o (pair ∷ (first ∷ rest)) (first ∷ rest) (first ∷ insert_pair pair rest)) ≡ first ∷ rest
by_place pair first rest e next Less = drops_same pair (first ∷ rest) ∙ none_removed pair (first ∷ rest) e
by_place pair first rest e next Equal = none_removed pair (first ∷ rest) e
by_place pair first rest e next Greater =
    keeps_other pair first (insert_pair pair rest) (or_left (same_pair pair first) (has_pair pair rest) e) ∙ ap (λ (xs : List Pair). first ∷ xs) next

pub remove-insert : (pair : Pair) (pairs : List Pair) → has_pair pair pairs ≡ false → remove_pair pair (insert_pair pair pairs) ≡ pairs
unfolding insert_pair
remove-insert pair [] e = drops_same pair [] ∙ none_removed pair [] refl
remove-insert pair (first ∷ rest) e =
    by_place pair first rest e (remove-insert pair rest (or_right (same_pair pair first) (has_pair pair rest) e)) (pair_cmp pair first)

pub added_undone : (pair pair' : Pair) (pairs new newer : List Pair) (limit : ℕ) (did : Inserted) → pair ≡ pair' → did ≡ Added → InsertIs pair pairs limit (Ok did) new
    → newer ≡ remove_pair pair' new → newer ≡ pairs
added_undone pair pair' pairs new newer limit did same added did_so r =
    let h = subst (λ d. InsertIs pair pairs limit (Ok d) new) added did_so in
    let grown : new ≡ insert_pair pair pairs = h.2 ∙ after_reply (request.Insert pair.key pair.value) reply.Added pairs h.0 in
    r ∙ ap (λ (p : Pair). remove_pair p new) (sym same) ∙ ap (remove_pair pair) grown ∙ remove-insert pair pairs (absent pair.key pair.value pairs h.0)

-- a remove that found its value, or did not
removed_is : (found : Bool) (pairs new : List Pair) (limit : ℕ) (key value : List ℕ) (told : Reply)
    → found ≡ has_pair (record { key = key; value = value }) pairs → new ≡ remove_pair (record { key = key; value = value }) pairs
    → told ≡ cond found reply.Removed reply.Absent → Applied (request.Remove key value) pairs limit (Ok told) new
unfolding is_full_for reply_to pairs_after
removed_is true pairs new limit key value told was change is = rw (sym was) (is, refl, change)
removed_is false pairs new limit key value told was change is =
    rw (sym was) (is, refl, change ∙ none_removed (record { key = key; value = value }) pairs (sym was))

pub removed_for : (found : Bool) (pairs new : List Pair) (limit : ℕ) (key value key' value' : List ℕ) (told : Reply) → key' ≡ key → value' ≡ value
    → found ≡ has_pair (record { key = key'; value = value' }) pairs → new ≡ remove_pair (record { key = key'; value = value' }) pairs
    → told ≡ cond found reply.Removed reply.Absent → Applied (request.Remove key value) pairs limit (Ok told) new
removed_for found pairs new limit key value key' value' told e f was change is =
    removed_is found pairs new limit key value told
    (was ∙ ap (λ (pair : Pair). has_pair pair pairs) (same_pairs e f)) (change ∙ ap (λ (pair : Pair). remove_pair pair pairs) (same_pairs e f)) is

-- a retrieve leaves the map unchanged
pub retrieved_for : (pairs : List Pair) (limit : ℕ) (key key' : List ℕ) (values : List (List ℕ)) → key' ≡ key → values ≡ values_at key' pairs
    → Applied (request.Retrieve key) pairs limit (Ok (reply.Values values)) pairs
unfolding is_full_for reply_to pairs_after
retrieved_for pairs limit key key' values e is = (ap (λ (vs : List (List ℕ)). reply.Values vs) (is ∙ ap (λ (k : List ℕ). values_at k pairs) e), refl, refl)

-- a request answered with values has changed nothing
pub values_stay : (asked : Request) (told : Reply) (pairs new : List Pair) → IsValues told → told ≡ reply_to asked pairs → new ≡ pairs_after asked pairs → new ≡ pairs
values_stay asked (reply.Values values) pairs new is same change = change ∙ after_reply asked (reply.Values values) pairs (sym same) ∙ kept asked
  where
    kept : (asked : Request) → pairs_by asked (reply.Values values) pairs ≡ pairs
    kept (request.Insert key value) = refl
    kept (request.Retrieve key) = refl
    kept (request.Remove key value) = refl
values_stay asked reply.Added pairs new is same change = absurd is
values_stay asked reply.Present pairs new is same change = absurd is
values_stay asked reply.SetFull pairs new is same change = absurd is
values_stay asked reply.Removed pairs new is same change = absurd is
values_stay asked reply.Absent pairs new is same change = absurd is
