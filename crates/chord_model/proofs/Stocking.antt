-- A node's stock after each change of its held segments and its entries.
use Rattle.std.proofs.Common.{◌≡◌, ℕ, ◌+◌, ◌^◌, ◌<◌, ◌≤◌, Bool, true, false, not, cond, nat_le, ◌||◌, inl, inr, Some, List, [], ◌∷◌, ◌++◌, map, length, refl, sym, ◌∙◌, ap, subst, arith, bytes_eq}
use Rattle.std.proofs.lemmas.Bool.{true≢false}
use Rattle.std.proofs.lemmas.Bool.Decides.{nat_tests}
use Rattle.std.specs.Prelude.{filter, slice_get, remove}
use Rattle.std.specs.declared.cmp.Ordering.TheVariants.{Less, Equal, Greater}
use Rattle.chord_handover.proofs.Counting.{count}
use Rattle.chord_handover.specs.Payload.{Payload, IsPayload}
use Rattle.chord_ident.proofs.Digest.{key_id-below}
use Rattle.chord_ident.proofs.Spans.{one_if}
use Rattle.chord_ident.specs.declared.span.Span.{Span}
use Rattle.chord_ident.specs.Circle.{in_span, key_id}
use Rattle.chord_map.proofs.Each.{Each, Each-map}
use Rattle.chord_map.proofs.Lists.{Has, by_test, not_both, has_filter, all_each, each_all}
use Rattle.chord_map.proofs.MapLemmas.{bytes_same, rises_by, rises_put}
use Rattle.chord_map.proofs.Ordered.{rises_from_rising, rising_from_rises}
use Rattle.chord_map.specs.declared.pair.Pair.{Pair}
use Rattle.chord_map.specs.declared.reply.Reply.{Reply}
use Rattle.chord_map.specs.declared.reply.Reply.TheVariants.{Added, Present, SetFull, Values, Removed, Absent}
use Rattle.chord_map.specs.declared.request.Request.{Request}
use Rattle.chord_map.specs.declared.request.Request.TheVariants.{Insert, Retrieve, Remove}
use Rattle.chord_map.specs.Map.{pair_cmp, by_order, same_pair, has_pair, values_at, insert_pair, remove_pair, put_all, key_of, reply_to, pairs_by, pairs_after}
use Rattle.chord_model.proofs.Placed.{InHeld, Each-pairs_after, entries_more, entries_less}
use Rattle.chord_model.proofs.Totals.{has}
use Rattle.chord_model.specs.Stock.{holds, IsHeld, IsClear, IsStocked}
use Rattle.chord_segment.specs.Segment.{Segment}
use Rattle.chord_store.proofs.Inside.{rises_inside, rises_outside}
use Rattle.chord_store.specs.Inside.{pairs_inside, pairs_outside}

-- ---- few values for each key

one_more : (b : Bool) (pair : Pair) (pairs : List Pair)
    → length (map (λ (p : Pair). p.value) (cond b (pair ∷ pairs) pairs)) ≡ one_if b + length (map (λ (p : Pair). p.value) pairs)
one_more true pair pairs = omega arith
one_more false pair pairs = omega arith

values_first : (key : List ℕ) (pair : Pair) (pairs : List Pair) → length (values_at key (pair ∷ pairs)) ≡ one_if (bytes_eq pair.key key) + length (values_at key pairs)
values_first key pair pairs = one_more (bytes_eq pair.key key) pair (filter (λ (p : Pair). bytes_eq p.key key) pairs)

filter_step : (key : List ℕ) (b : Bool) (pair : Pair) (kept pairs : List Pair) → length (values_at key kept) ≤ length (values_at key pairs)
    → length (values_at key (cond b (pair ∷ kept) kept)) ≤ length (values_at key (pair ∷ pairs))
filter_step key true pair kept pairs h = omega (arith, values_first key pair kept, values_first key pair pairs)
filter_step key false pair kept pairs h = omega (arith, values_first key pair pairs)

-- no more elements pass a test than before
few_filtered : (test : Pair → Bool) (key : List ℕ) (pairs : List Pair) → length (values_at key (filter test pairs)) ≤ length (values_at key pairs)
few_filtered test key [] = omega arith
few_filtered test key (pair ∷ pairs) = filter_step key (test pair) pair (filter test pairs) pairs (few_filtered test key pairs)

-- at most one more with one more pair
few_inserted : (key : List ℕ) (pair : Pair) (pairs : List Pair) → length (values_at key (insert_pair pair pairs)) ≤ one_if (bytes_eq pair.key key) + length (values_at key pairs)
unfolding insert_pair
few_inserted key pair [] = omega (arith, values_first key pair [])
few_inserted key pair (first ∷ rest) =
    let more = few_inserted key pair rest in
    elim (pair_cmp pair first) as (λ o. length (values_at key (by_order o (pair ∷ (first ∷ rest)) (first ∷ rest) (first ∷ insert_pair pair rest))) ≤ one_if (bytes_eq pair.key key) + length (values_at key (first ∷ rest))) [
      | Less ↦ omega (arith, values_first key pair (first ∷ rest))
      | Equal ↦ omega arith
      | Greater ↦ omega (arith, more, values_first key first rest, values_first key first (insert_pair pair rest))
    ]

few_put : (key : List ℕ) (more pairs : List Pair) → length (values_at key (put_all more pairs)) ≤ length (values_at key pairs) + length (values_at key more)
unfolding put_all
few_put key [] pairs = omega arith
few_put key (pair ∷ more) pairs = omega (arith, few_put key more (insert_pair pair pairs), few_inserted key pair pairs, values_first key pair more)

-- a key in the span has no more values than there are pairs inside
few_inside : (span : Span) (key : List ℕ) (pairs : List Pair) → in_span span (key_id key) ≡ true → length (values_at key pairs) ≤ length (pairs_inside span pairs)
unfolding pairs_inside
few_inside span key [] here = omega arith
few_inside span key (pair ∷ pairs) here =
    let more = few_inside span key pairs here in
    let first = values_first key pair pairs in
    by_test (bytes_eq pair.key key)
    (λ same.
    let one : one_if (bytes_eq pair.key key) ≡ 1 = ap one_if same in
    let inside : in_span span (key_id pair.key) ≡ true = ap (λ k. in_span span (key_id k)) (bytes_same pair.key key same) ∙ here in
    let longer : length (pairs_inside span (pair ∷ pairs)) ≡ length (pair ∷ pairs_inside span pairs) =
    ap (λ b. length (cond b (pair ∷ pairs_inside span pairs) (pairs_inside span pairs))) inside in
    omega arith)
    (λ other.
    let none : one_if (bytes_eq pair.key key) ≡ 0 = ap one_if other in
    let longer : length (pairs_inside span pairs) ≤ length (pairs_inside span (pair ∷ pairs)) =
    elim (in_span span (key_id pair.key)) as (λ b. length (pairs_inside span pairs) ≤ length (cond b (pair ∷ pairs_inside span pairs) (pairs_inside span pairs))) [ true ↦ omega arith | false ↦ omega arith ] in
    omega arith)

-- a key outside the span has no values if all pairs lie inside
none_outside : (span : Span) (key : List ℕ) (pairs : List Pair) → in_span span (key_id key) ≡ false → Each (λ (pair : Pair). in_span span (key_id pair.key) ≡ true) pairs
    → length (values_at key pairs) ≡ 0
none_outside span key [] other all = omega arith
none_outside span key (pair ∷ pairs) other all =
    let more = none_outside span key pairs other all.1 in
    let first = values_first key pair pairs in
    by_test (bytes_eq pair.key key)
    (λ same. not_both (in_span span (key_id key)) (ap (λ k. in_span span (key_id k)) (sym (bytes_same pair.key key same)) ∙ all.0) other)
    (λ apart. let none : one_if (bytes_eq pair.key key) ≡ 0 = ap one_if apart in omega arith)

-- pairs that come into a vacant span
few_more : (span : Span) (more pairs : List Pair) → pairs_inside span pairs ≡ [] → Each (λ (pair : Pair). in_span span (key_id pair.key) ≡ true) more
    → ((key : List ℕ) → length (values_at key more) ≤ 1000) → ((key : List ℕ) → length (values_at key pairs) ≤ 1000)
    → (key : List ℕ) → length (values_at key (put_all more pairs)) ≤ 1000
few_more span more pairs vacant inside few few' key =
    let all = few_put key more pairs in
    let one = few key in
    let other = few' key in
    by_test (in_span span (key_id key))
    (λ here. let none = few_inside span key pairs here in let empty : length (pairs_inside span pairs) ≡ 0 = ap length vacant in omega arith)
    (λ away. let none = none_outside span key more away inside in omega arith)

-- a set that takes one more value had room
room_by : (there full : Bool) → cond there Present (cond full SetFull Added) ≡ Added → full ≡ false
room_by true full e = cc
room_by false true e = cc
room_by false false e = refl

added_room : (key value : List ℕ) (pairs : List Pair) → reply_to (Insert key value) pairs ≡ Added → length (values_at key pairs) < 1000
unfolding reply_to
added_room key value pairs e =
    let room = room_by (has_pair (record { key = key; value = value }) pairs) (nat_le 1000 (length (values_at key pairs))) e in
    grind (arith, nat_tests)

few_by : (request : Request) (reply : Reply) (pairs : List Pair) → reply_to request pairs ≡ reply → ((key : List ℕ) → length (values_at key pairs) ≤ 1000)
    → (key : List ℕ) → length (values_at key (pairs_by request reply pairs)) ≤ 1000
unfolding remove_pair
few_by (Insert key value) Added pairs e few other =
    let room = added_room key value pairs e in
    let more = few_inserted other (record { key = key; value = value }) pairs in
    let all = few other in
    by_test (bytes_eq key other)
    (λ same.
    let one : one_if (bytes_eq key other) ≡ 1 = ap one_if same in
    let here : length (values_at other pairs) ≡ length (values_at key pairs) = ap (λ k. length (values_at k pairs)) (sym (bytes_same key other same)) in
    omega arith)
    (λ apart. let none : one_if (bytes_eq key other) ≡ 0 = ap one_if apart in omega arith)
few_by (Remove key value) Removed pairs e few other =
    omega (arith, few other, few_filtered (λ (p : Pair). not (same_pair (record { key = key; value = value }) p)) other pairs)
few_by (Insert key value) Present pairs e few other = few other
few_by (Insert key value) SetFull pairs e few other = few other
few_by (Insert key value) (Values values) pairs e few other = few other
few_by (Insert key value) Removed pairs e few other = few other
few_by (Insert key value) Absent pairs e few other = few other
few_by (Remove key value) Added pairs e few other = few other
few_by (Remove key value) Present pairs e few other = few other
few_by (Remove key value) SetFull pairs e few other = few other
few_by (Remove key value) (Values values) pairs e few other = few other
few_by (Remove key value) Absent pairs e few other = few other
few_by (Retrieve key) reply pairs e few other = few other

-- ---- what the held segments have

counted_step : (b rest : Bool) (n : ℕ) → (b || rest) ≡ true → (rest ≡ true → 0 < n) → 0 < one_if b + n
counted_step true rest n e next = omega arith
counted_step false rest n e next = omega (arith, next e)

counted_held : (x : ℕ) (held : List Segment) → holds x held ≡ true → 0 < count (has x) held
counted_held x [] e = absurd (true≢false (sym e))
counted_held x (segment ∷ held) e = counted_step (has x segment) (holds x held) (count (has x) held) e (counted_held x held)

held_step : (b rest : Bool) (n : ℕ) → 0 < one_if b + n → (0 < n → rest ≡ true) → (b || rest) ≡ true
held_step true rest n h next = refl
held_step false rest n h next = next (omega arith)

held_counted : (x : ℕ) (held : List Segment) → 0 < count (has x) held → holds x held ≡ true
held_counted x [] h = absurd (omega arith)
held_counted x (segment ∷ held) h = held_step (has x segment) (holds x held) (count (has x) held) h (held_counted x held)

-- if as many segments contain x as before, x is held exactly if it was
pub holds_same : (x : ℕ) (held held' : List Segment) → count (has x) held' ≡ count (has x) held → holds x held' ≡ holds x held
holds_same x held held' same =
    by_test (holds x held)
    (λ here. let n = counted_held x held here in held_counted x held' (omega arith) ∙ sym here)
    (λ away. by_test (holds x held')
    (λ here'. let n = counted_held x held' here' in not_both (holds x held) (held_counted x held (omega arith)) away)
    (λ away'. away' ∙ sym away))

counted_each : (held : List Segment) (pairs : List Pair) → Each (IsHeld held) pairs → Each (InHeld held) pairs
counted_each held pairs all = Each-map (IsHeld held) (InHeld held) (λ pair h. counted_held (key_id pair.key) held h) pairs all

held_each : (held : List Segment) (pairs : List Pair) → Each (InHeld held) pairs → Each (IsHeld held) pairs
held_each held pairs all = Each-map (InHeld held) (IsHeld held) (λ pair h. held_counted (key_id pair.key) held h) pairs all

-- ---- a node's stock

pub stocked_none : (held : List Segment) → IsStocked held []
stocked_none held = record { rising = rising_from_rises pair_cmp [] tt; few = λ key. omega arith; placed = tt }

pub stocked_vacant : (held : List Segment) (pairs : List Pair) → pairs ≡ [] → IsStocked held pairs
stocked_vacant held pairs none = subst (IsStocked held) (sym none) (stocked_none held)

-- a node stays stocked if it holds the same identifiers
pub stocked_same : (held held' : List Segment) (pairs : List Pair) → ((x : ℕ) → x < 2 ^ 128 → holds x held' ≡ holds x held) → IsStocked held pairs → IsStocked held' pairs
stocked_same held held' pairs same stock = record {
  rising = stock.rising;
  few = stock.few;
  placed = Each-map (IsHeld held) (IsHeld held') (λ pair h. same (key_id pair.key) (key_id-below pair.key) ∙ h) pairs stock.placed;
}

-- if nothing is held there is no entry
pub nothing_stocked : (pairs : List Pair) → IsStocked [] pairs → pairs ≡ []
nothing_stocked [] stock = refl
nothing_stocked (pair ∷ pairs) stock = absurd (true≢false (sym stock.placed.0))

-- a call is executed
pub stocked_after : (held held' : List Segment) (request : Request) (pairs : List Pair) → ((x : ℕ) → x < 2 ^ 128 → holds x held' ≡ holds x held)
    → holds (key_id (key_of request)) held ≡ true → IsStocked held pairs → IsStocked held' (pairs_after request pairs)
unfolding pairs_after
stocked_after held held' request pairs same here stock =
    let kept = stocked_same held held' pairs same stock in
    record {
      rising = rising_from_rises pair_cmp _ (rises_by request (reply_to request pairs) pairs (rises_from_rising pair_cmp pairs stock.rising));
      few = few_by request (reply_to request pairs) pairs refl stock.few;
      placed = Each-pairs_after (IsHeld held') request pairs (λ value. same (key_id (key_of request)) (key_id-below (key_of request)) ∙ here) kept.placed;
    }

-- a segment leaves with its pairs
pub stocked_less : (held : List Segment) (place : ℕ) (segment : Segment) (pairs : List Pair) → slice_get held place ≡ Some segment → IsStocked held pairs
    → IsStocked (remove held place) (pairs_outside segment.span pairs)
unfolding pairs_outside
stocked_less held place segment pairs found stock = record {
  rising = rising_from_rises pair_cmp _ (rises_outside segment.span pairs (rises_from_rising pair_cmp pairs stock.rising));
  few = λ key. omega (arith, stock.few key, few_filtered (λ (pair : Pair). not (in_span segment.span (key_id pair.key))) key pairs);
  placed = held_each (remove held place) _ (entries_less held place segment pairs found (counted_each held pairs stock.placed));
}

-- the segment that leaves makes a payload with its pairs
pub payload_taken : (held : List Segment) (segment : Segment) (pairs : List Pair) → IsStocked held pairs
    → IsPayload (record { segment = segment; pairs = pairs_inside segment.span pairs })
unfolding pairs_inside
payload_taken held segment pairs stock = record {
  rising = rising_from_rises pair_cmp _ (rises_inside segment.span pairs (rises_from_rising pair_cmp pairs stock.rising));
  inside = all_each (λ pair. in_span segment.span (key_id pair.key) ≡ true) (pairs_inside segment.span pairs) (λ pair h. (has_filter (λ (p : Pair). in_span segment.span (key_id p.key)) pairs pair h).1);
  few = λ key. omega (arith, stock.few key, few_filtered (λ (pair : Pair). in_span segment.span (key_id pair.key)) key pairs);
}

each_of : {A : Type 0} (P : A → Type 0) (xs : List A) → ((x : A) → Has xs x → P x) → Each P xs
each_of P [] all = tt
each_of P (x ∷ xs) all = (all x (inl refl), each_of P xs (λ y h. all y (inr h)))

pub payload_inside : (payload : Payload) → IsPayload payload → Each (λ (pair : Pair). in_span payload.segment.span (key_id pair.key) ≡ true) payload.pairs
payload_inside payload rules = each_of (λ (pair : Pair). in_span payload.segment.span (key_id pair.key) ≡ true) payload.pairs (each_all (λ pair. in_span payload.segment.span (key_id pair.key) ≡ true) payload.pairs rules.inside)

-- all of them lie in the span
pub all_inside : (span : Span) (pairs : List Pair) → Each (λ (pair : Pair). in_span span (key_id pair.key) ≡ true) pairs → pairs_inside span pairs ≡ pairs
unfolding pairs_inside
all_inside span [] all = refl
all_inside span (pair ∷ pairs) all = ap (λ b. cond b (pair ∷ pairs_inside span pairs) (pairs_inside span pairs)) all.0 ∙ ap (λ (ps : List Pair). pair ∷ ps) (all_inside span pairs all.1)

-- no entry lies in a span that overlaps no held one
vacant_by : (span : Span) (held : List Segment) (pairs : List Pair) → IsClear span held → Each (IsHeld held) pairs → pairs_inside span pairs ≡ []
unfolding pairs_inside
vacant_by span held [] clear all = refl
vacant_by span held (pair ∷ pairs) clear all =
    by_test (in_span span (key_id pair.key))
    (λ here. not_both (holds (key_id pair.key) held) all.0 (clear (key_id pair.key) (key_id-below pair.key) here))
    (λ away. ap (λ b. cond b (pair ∷ pairs_inside span pairs) (pairs_inside span pairs)) away ∙ vacant_by span held pairs clear all.1)

pub vacant : (span : Span) (held : List Segment) (pairs : List Pair) → IsClear span held → IsStocked held pairs → pairs_inside span pairs ≡ []
vacant span held pairs clear stock = vacant_by span held pairs clear stock.placed

-- a segment comes with its pairs
pub stocked_more : (held : List Segment) (payload : Payload) (pairs : List Pair) → IsPayload payload → IsClear payload.segment.span held → IsStocked held pairs
    → IsStocked (held ++ payload.segment ∷ []) (put_all payload.pairs pairs)
stocked_more held payload pairs rules clear stock =
    let inside = payload_inside payload rules in
    let none = vacant payload.segment.span held pairs clear stock in
    record {
      rising = rising_from_rises pair_cmp _ (rises_put payload.pairs pairs (rises_from_rising pair_cmp pairs stock.rising));
      few = few_more payload.segment.span payload.pairs pairs none inside rules.few stock.few;
      placed = held_each (held ++ payload.segment ∷ []) _ (entries_more held payload.segment payload.pairs pairs inside (counted_each held pairs stock.placed));
    }

-- ---- a call
