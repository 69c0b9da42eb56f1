-- What the parts of a handover make together.
use Rattle.std.proofs.Common.{◌≡◌, ℕ, zero, suc, ◌+◌, ◌-◌, ◌*◌, ◌<◌, ◌≤◌, Bool, true, false, cond, not, ◌&&◌, eqb, leb, Option, Some, None, List, [], ◌∷◌, ◌++◌, length, take, drop, get_or, Bor, is_some, append-nil, inl, inr, ⊎_elim, refl, sym, ◌∙◌, ap, ap₂, subst, arith, All, length-append, filter, find}
use Rattle.std.specs.Prelude.{Any, Result, Ok, Err, OnErr}
use Rattle.std.specs.List.{list_any}
use Rattle.std.specs.Option.{option_or, option_copied}
use Rattle.std.proofs.lemmas.Bool.{true≢false, and_parts, and_from, or_cases, cond-true, cond-false}
use Rattle.std.proofs.lemmas.Bool.Decides.{nat_tests}
use Rattle.std.proofs.lemmas.List.{take_all, take_more}
use Rattle.std.proofs.lemmas.List.Folds.{find-append}
use Rattle.std.proofs.lemmas.Option.{same_Some, none-some}
use Rattle.std.proofs.Math.Seq.{take-add}
use Rattle.chord_ident.proofs.Spans.{one_if}
use Rattle.chord_map.proofs.Lists.{by_test, Has, has_left, has_last, has_pushed, has_filter, has_filter_back, has_contained, contains_has, all_each, each_all, found, finds}
use Rattle.chord_map.specs.declared.pair.Pair.{Pair}
use Rattle.chord_map.proofs.Equal.{eqb_same, eqb_is}
use Rattle.chord_segment.specs.Segment.{Segment}
use Rattle.chord_handover.specs.Gather.{AreOf, AreAllThere, AreWhole, MakeNone, part_in, segment_of, pairs_of, pairs_upto}
use Rattle.chord_handover.specs.declared.ticket.Ticket.{Ticket}
use Rattle.chord_handover.specs.Handover.{Handover, Part, parts_in, part_at, IsWhole, gathered_parts, ticket_of_part}
use Rattle.chord_handover.specs.Payload.{Payload, IsPayload, handover_of_payload}
use Rattle.chord_handover.proofs.Counting.{count}

-- whether another part is of the same handover
abbrev pub is_like : Part → Part → Bool
is_like part other = eqb other.from part.from && eqb other.number part.number

pub has_itself : (part : Part) (buffered : List Part) → Has (gathered_parts part buffered) part
has_itself part buffered = has_last (filter (is_like part) buffered) part

pub has_buffered : (part : Part) (buffered : List Part) (other : Part) → Has buffered other → is_like part other ≡ true → Has (gathered_parts part buffered) other
has_buffered part buffered other there like = has_left (filter (is_like part) buffered) (part ∷ []) other (has_filter_back (is_like part) buffered other there like)

-- a property of the part and of each buffered part of its handover holds of all gathered parts
pub all_gathered : (P : Part → Type 0) (part : Part) (buffered : List Part) → ((other : Part) → Has buffered other → is_like part other ≡ true → P other) → P part → All P (gathered_parts part buffered)
all_gathered P part buffered each here =
    all_each P (gathered_parts part buffered) (λ other there.
    ⊎_elim (λ old. let h = has_filter (is_like part) buffered other old in each other h.0 h.1) (λ same. subst P same here)
    (has_pushed (filter (is_like part) buffered) part other there))

-- tests of a list

any_has : {A : Type 0} (p : A → Bool) (xs : List A) → list_any p xs ≡ true → (x : A) × Has xs x × (p x ≡ true)
any_has p [] h = absurd (true≢false (sym h))
any_has p (y ∷ xs) h =
    ⊎_elim (λ here. (y, inl refl, here)) (λ more. let r = any_has p xs more in (r.0, inr r.1, r.2)) (or_cases (p y) (list_any p xs) h)

has_any : {A : Type 0} (p : A → Bool) (xs : List A) (x : A) → Has xs x → p x ≡ true → list_any p xs ≡ true
has_any p [] x h e = absurd h
has_any p (y ∷ xs) x (inl same) e = rw (subst (λ z. p z ≡ true) (sym same) e) refl
has_any p (y ∷ xs) x (inr more) e = by_test (p y) (λ t. rw t refl) (λ f. rw f (has_any p xs x more e))

not_false : (b : Bool) → not b ≡ true → b ≡ false
not_false true h = absurd (true≢false (sym h))
not_false false h = refl

from_false : (b : Bool) → b ≡ false → not b ≡ true
from_false true h = absurd (true≢false h)
from_false false h = refl

-- whether a buffered part of the handover says another number of parts
abbrev pub tells_other : Part → Part → Bool
tells_other part other = is_like part other && not (eqb other.of part.of)

pub they_differ : (part : Part) (buffered : List Part) → list_any (tells_other part) buffered ≡ true → ¬ AreOf part.of (gathered_parts part buffered)
they_differ part buffered h all =
    let r = any_has (tells_other part) buffered h in
    let other = r.0 in
    let tells = and_parts (is_like part other) (not (eqb other.of part.of)) r.2 in
    let there = has_buffered part buffered other r.1 tells.0 in
    let same = eqb_same other.of part.of (each_all (λ (p : Part). p.of ≡ part.of) (gathered_parts part buffered) all other there) in
    true≢false (sym same ∙ not_false (eqb other.of part.of) tells.1)

pub they_agree : (part : Part) (buffered : List Part) → list_any (tells_other part) buffered ≡ false → AreOf part.of (gathered_parts part buffered)
they_agree part buffered h =
    all_gathered (λ (p : Part). p.of ≡ part.of) part buffered (λ other there like.
    by_test (eqb other.of part.of) (λ t. eqb_is other.of part.of t)
    (λ f.
    let tells = and_from (is_like part other) (not (eqb other.of part.of)) like (from_false (eqb other.of part.of) f) in
    absurd (true≢false (sym (has_any (tells_other part) buffered other there tells) ∙ h))))
    refl

-- ---- the part of a number

find_step : {A : Type 0} (a b : Bool) (x : A) (xs ys : Option A) → xs ≡ ys → cond a (cond b (Some x) xs) xs ≡ cond (a && b) (Some x) ys
find_step true b x xs ys e = ap (cond b (Some x)) e
find_step false b x xs ys e = e

filter_step : {A : Type 0} (p : A → Bool) (a : Bool) (x : A) (xs : List A) → find p (cond a (x ∷ xs) xs) ≡ cond a (cond (p x) (Some x) (find p xs)) (find p xs)
filter_step p true x xs = refl
filter_step p false x xs = refl

find_filter : {A : Type 0} (p q : A → Bool) (xs : List A) → find p (filter q xs) ≡ find (λ x. q x && p x) xs
find_filter p q [] = refl
find_filter p q (x ∷ xs) = filter_step p (q x) x (filter q xs) ∙ find_step (q x) (p x) x (find p (filter q xs)) (find (λ x. q x && p x) xs) (find_filter p q xs)

-- whether a buffered part of the handover has this number
abbrev pub is_buffered_at : Part → ℕ → Part → Bool
is_buffered_at part place other = is_like part other && eqb other.place place

-- the part of a number is a buffered one, or this one
pub part_in_is : (part : Part) (buffered : List Part) (place : ℕ) → part_in place (gathered_parts part buffered) ≡ option_or (find (is_buffered_at part place) buffered) (cond (eqb part.place place) (Some part) None)
part_in_is part buffered place =
    find-append (λ (p : Part). eqb p.place place) (filter (is_like part) buffered) (part ∷ [])
    ∙ ap (λ o. option_or o (cond (eqb part.place place) (Some part) None))
    (find_filter (λ (p : Part). eqb p.place place) (is_like part) buffered)

-- ---- part numbers

pub at_place : (of place : ℕ) (parts : List Part) → AreAllThere of parts → 1 ≤ place → place ≤ of → (x : Part) × (part_in place parts ≡ Some x) × (x.place ≡ place) × Has parts x
at_place of place parts there from upto =
    let a = there place from upto in
    let r = finds (λ (p : Part). eqb p.place place) parts a.1 (has_contained parts a.1 (a.0, a.2, a.3)) (eqb_same (a.1).place place a.4) in
    let f = found (λ (p : Part). eqb p.place place) parts r.0 r.1 in
    (r.0, r.1, eqb_is (r.0).place place f.0, f.1)

pub place_there : (place : ℕ) (parts : List Part) (x : Part) → part_in place parts ≡ Some x → Any (λ (p : Part). p.place ≡ place) parts
place_there place parts x e =
    let f = found (λ (p : Part). eqb p.place place) parts x e in
    let c = contains_has parts x f.1 in
    (c.0, x, c.1, c.2, eqb_is x.place place f.0)

-- ---- if every part number has a part, there are at least that many parts

within : ℕ → ℕ → Bool
within n k = leb 1 k && leb k n

one_place : (n k : ℕ) → one_if (leb 1 k && leb k (suc n)) ≡ one_if (leb 1 k && leb k n) + one_if (eqb k (suc n))
one_place n k = grind (arith, nat_tests)

count_places : (n : ℕ) (xs : List Part) → count (λ (p : Part). leb 1 p.place && leb p.place (suc n)) xs ≡ count (λ (p : Part). leb 1 p.place && leb p.place n) xs + count (λ (p : Part). eqb p.place (suc n)) xs
count_places n [] = refl
count_places n (x ∷ xs) = omega (arith, one_place n x.place, count_places n xs)

has_count : {A : Type 0} (p : A → Bool) (xs : List A) (x : A) → Has xs x → p x ≡ true → 1 ≤ count p xs
has_count p [] x h e = absurd h
has_count p (y ∷ xs) x (inl same) e = let one : one_if (p y) ≡ 1 = ap one_if (subst (λ z. p z ≡ true) (sym same) e) in omega arith
has_count p (y ∷ xs) x (inr more) e = omega (arith, has_count p xs x more e)

one_upto : (b : Bool) → one_if b ≤ 1
one_upto true = omega arith
one_upto false = omega arith

count_upto : {A : Type 0} (p : A → Bool) (xs : List A) → count p xs ≤ length xs
count_upto p [] = omega arith
count_upto p (x ∷ xs) = omega (arith, one_upto (p x), count_upto p xs)

enough_places : (n of : ℕ) (parts : List Part) → AreAllThere of parts → n ≤ of → n ≤ count (λ (p : Part). leb 1 p.place && leb p.place n) parts
enough_places zero of parts there low = omega arith
enough_places (suc n) of parts there low =
    let a = at_place of (suc n) parts there (omega arith) low in
    let here = has_count (λ (p : Part). eqb p.place (suc n)) parts a.0 a.3 (eqb_same (a.0).place (suc n) a.2) in
    omega (arith, count_places n parts, enough_places n of parts there (omega arith))

pub enough_parts : (part : Part) (buffered : List Part) → AreAllThere part.of (gathered_parts part buffered) → part.of ≤ length (filter (is_like part) buffered) + 1
enough_parts part buffered there =
    let all = gathered_parts part buffered in
    let low = enough_places part.of part.of all there (omega arith) in
    omega (arith, count_upto (λ (p : Part). leb 1 p.place && leb p.place part.of) all, length-append (filter (is_like part) buffered) (part ∷ []))

-- ---- the parts of a handover are those of one payload only

found_part : (of : ℕ) (parts : List Part) (handover : Handover) (place : ℕ) → AreAllThere of parts → IsWhole parts handover → 1 ≤ place → place ≤ of
    → part_in place parts ≡ Some (part_at handover place)
found_part of parts handover place there whole from upto =
    let a = at_place of place parts there from upto in
    let is = each_all (λ (p : Part). p ≡ part_at handover p.place) parts whole.each a.0 a.3 in
    a.1 ∙ ap Some (is ∙ ap (part_at handover) a.2)

pairs_are : (of : ℕ) (parts : List Part) (handover : Handover) (place : ℕ) → AreAllThere of parts → IsWhole parts handover → place ≤ of
    → pairs_upto place parts ≡ take (64 * place) handover.pairs
unfolding pairs_upto
pairs_are of parts handover zero there whole upto = refl
pairs_are of parts handover (suc place) there whole upto =
    let start : 64 * (suc place - 1) ≡ 64 * place = omega arith in
    let size : 64 * place + 64 ≡ 64 * suc place = omega arith in
    ap₂ ◌++◌ (pairs_are of parts handover place there whole (omega arith))
    (ap pairs_of (found_part of parts handover (suc place) there whole (omega arith) upto) ∙ ap (λ k. take 64 (drop k handover.pairs)) start)
    ∙ sym (take-add (64 * place) 64 handover.pairs) ∙ ap (λ k. take k handover.pairs) size

pub whole_is : (part : Part) (buffered : List Part) (payload : Payload) → AreAllThere part.of (gathered_parts part buffered) → IsWhole (gathered_parts part buffered) (handover_of_payload (ticket_of_part part) payload)
    → (segment_of (part_in 1 (gathered_parts part buffered)) ≡ Some payload.segment) × (pairs_upto part.of (gathered_parts part buffered) ≡ payload.pairs)
whole_is part buffered payload there whole =
    let all = gathered_parts part buffered in
    let handover = handover_of_payload (ticket_of_part part) payload in
    let own : part ≡ part_at handover part.place = each_all (λ (p : Part). p ≡ part_at handover p.place) all whole.each part (has_itself part buffered) in
    let count : part.of ≡ parts_in payload.pairs = ap (λ (p : Part). p.of) own in (
      ap segment_of (found_part part.of all handover 1 there whole (omega arith) (omega arith)),
      pairs_are part.of all handover part.of there whole (omega arith) ∙ take_all (64 * part.of) payload.pairs (omega arith),
    )

-- if each part is of this segment with these pairs, they are the parts of that payload
pub whole_from : (part : Part) (buffered : List Part) (payload : Payload) → AreAllThere part.of (gathered_parts part buffered)
    → All (λ (other : Part). other ≡ part_at (handover_of_payload (ticket_of_part part) payload) other.place) (gathered_parts part buffered) → IsWhole (gathered_parts part buffered) (handover_of_payload (ticket_of_part part) payload)
whole_from part buffered payload there each =
    let all = gathered_parts part buffered in
    let handover = handover_of_payload (ticket_of_part part) payload in
    let own : part ≡ part_at handover part.place = each_all (λ (p : Part). p ≡ part_at handover p.place) all each part (has_itself part buffered) in
    let count : part.of ≡ parts_in payload.pairs = ap (λ (p : Part). p.of) own in
    record {
      each = each;
      all = λ place from upto.
          let a = at_place part.of place all there from (omega arith) in
          contains_has all (part_at handover place)
          (subst (Has all) (each_all (λ (p : Part). p ≡ part_at handover p.place) all each a.0 a.3 ∙ ap (part_at handover) a.2) a.3);
    }

-- they make a payload if the segment with the pairs is one
pub are_whole : (part : Part) (buffered : List Part) (segment : Segment) → AreAllThere part.of (gathered_parts part buffered)
    → IsPayload (record { segment = segment; pairs = pairs_upto part.of (gathered_parts part buffered) })
    → All (λ (other : Part). other ≡ part_at (handover_of_payload (ticket_of_part part) (record { segment = segment; pairs = pairs_upto part.of (gathered_parts part buffered) })) other.place) (gathered_parts part buffered) → AreWhole part buffered
are_whole part buffered segment there rules each =
    let payload : Payload = record { segment = segment; pairs = pairs_upto part.of (gathered_parts part buffered) } in
    (payload, rules, whole_from part buffered payload there each)

-- no other payload is sent in these parts
pub makes_none : (part : Part) (buffered : List Part) (segment : Segment) (pairs : List Pair) → AreAllThere part.of (gathered_parts part buffered)
    → segment_of (part_in 1 (gathered_parts part buffered)) ≡ Some segment → pairs_upto part.of (gathered_parts part buffered) ≡ pairs
    → ¬ (IsPayload (record { segment = segment; pairs = pairs }) × All (λ (other : Part). other ≡ part_at (handover_of_payload (ticket_of_part part) (record { segment = segment; pairs = pairs })) other.place) (gathered_parts part buffered))
    → MakeNone (ticket_of_part part) (gathered_parts part buffered)
makes_none part buffered segment pairs there first all unfit payload rules whole =
    let is = whole_is part buffered payload there whole in
    let same_segment : payload.segment ≡ segment = same_Some payload.segment segment (sym is.0 ∙ first) in
    let same_pairs : payload.pairs ≡ pairs = sym is.1 ∙ all in
    let same : payload ≡ record { segment = segment; pairs = pairs } = λ i. record { segment = same_segment i; pairs = same_pairs i } in
    unfit (
      subst IsPayload same rules,
      subst (λ (p : Payload). All (λ (other : Part). other ≡ part_at (handover_of_payload (ticket_of_part part) p) other.place) (gathered_parts part buffered)) same whole.each,
    )

-- no payload is, if the first part has no segment
pub makes_none_without : (part : Part) (buffered : List Part) → AreAllThere part.of (gathered_parts part buffered) → segment_of (part_in 1 (gathered_parts part buffered)) ≡ None
    → MakeNone (ticket_of_part part) (gathered_parts part buffered)
makes_none_without part buffered there none payload rules whole =
    let is = whole_is part buffered payload there whole in
    absurd (none-some payload.segment (sym none ∙ is.0))

-- ---- what a search for the buffered part of a number finds

pub buffered_at : (part : Part) (buffered : List Part) (place : ℕ) (found : Part) → Some found ≡ find (is_buffered_at part place) buffered → Some found ≡ part_in place (gathered_parts part buffered)
buffered_at part buffered place found e =
    sym (part_in_is part buffered place ∙ ap (λ o. option_or o (cond (eqb part.place place) (Some part) None)) (sym e))

pub itself_at : (part : Part) (buffered : List Part) (place : ℕ) → None ≡ find (is_buffered_at part place) buffered → part.place ≡ place → Some part ≡ part_in place (gathered_parts part buffered)
itself_at part buffered place e here =
    sym (part_in_is part buffered place ∙ ap (λ o. option_or o (cond (eqb part.place place) (Some part) None)) (sym e)
    ∙ cond-true (eqb part.place place) (Some part) None (eqb_same part.place place here))

pub none_at : (part : Part) (buffered : List Part) (place : ℕ) → None ≡ find (is_buffered_at part place) buffered → (part.place ≡ place → ⊥) → None ≡ part_in place (gathered_parts part buffered)
none_at part buffered place e apart =
    sym (part_in_is part buffered place ∙ ap (λ o. option_or o (cond (eqb part.place place) (Some part) None)) (sym e)
    ∙ cond-false (eqb part.place place) (Some part) None (by_test (eqb part.place place) (λ t. absurd (apart (eqb_is part.place place t))) (λ f. f)))

-- the value behind an optional reference
pub none_there : {A : Type 0} (o : Option (Bor A)) (p : Option A) → option_copied o ≡ p → is_some o ≡ false → p ≡ None
none_there None p e h = sym e
none_there (Some x) p e h = absurd (true≢false h)

pub some_there : {A : Type 0} (o : Option (Bor A)) (p : Option A) → option_copied o ≡ p → is_some o ≡ true → (x : A) × (p ≡ Some x)
some_there None p e h = absurd (true≢false (sym h))
some_there (Some x) p e h = (x.now, sym e)

-- the pairs of one more part
pub more_pairs : (parts : List Part) (place : ℕ) (found : Option Part) (more : List Pair) → found ≡ part_in (place + 1) parts → more ≡ pairs_of found → pairs_upto place parts ++ more ≡ pairs_upto (place + 1) parts
unfolding pairs_upto
more_pairs parts place found more at is =
    let next : place + 1 ≡ suc place = omega arith in
    ap (λ ps. pairs_upto place parts ++ ps) (is ∙ ap pairs_of at) ∙ ap (λ n. pairs_upto place parts ++ pairs_of (part_in n parts)) next ∙ ap (λ n. pairs_upto n parts) (sym next)

pub no_more_pairs : (parts : List Part) (place : ℕ) → None ≡ part_in (place + 1) parts → pairs_upto place parts ≡ pairs_upto (place + 1) parts
no_more_pairs parts place none = sym (append-nil (pairs_upto place parts)) ∙ more_pairs parts place None [] none refl

pub no_pairs_yet : (parts : List Part) → [] ≡ pairs_upto 0 parts
unfolding pairs_upto
no_pairs_yet parts = refl

-- the part is one of those of this segment with these pairs
abbrev pub IsPartOf : Ticket → Segment → List Pair → Part → Type 0
IsPartOf ticket segment pairs other = other ≡ part_at (handover_of_payload ticket (record { segment = segment; pairs = pairs })) other.place

-- a property of each element passed, and of one more
pub one_further : {A : Type 0} (P : A → Type 0) (xs : List A) (i : ℕ) (x : A) → i < length xs → x ≡ get_or xs i x → ((y : A) → Has (take i xs) y → P y) → P x → (y : A) → Has (take (i + 1) xs) y → P y
one_further P xs i x within is before here y there =
    ⊎_elim (λ old. before y old) (λ same. subst P (is ∙ same) here)
    (has_pushed (take i xs) (get_or xs i x) y (subst (λ ys. Has ys y) (take_more xs i x within) there))

-- what holds anyway also holds where a call failed
pub on_err : {A E : Type 0} (result : Result A E) (P : Type 0) → P → OnErr result P
on_err (Ok x) P h = tt
on_err (Err e) P h = h
