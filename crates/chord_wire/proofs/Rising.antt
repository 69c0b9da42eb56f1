-- Values that are each above the one before are strictly sorted, and the reverse.
use Rattle.std.proofs.Common.{◌≡◌, ℕ, ◌≤◌, Bool, true, false, not, cond, ltb, leb, ◌||◌, ◌&&◌, List, [], ◌∷◌, length, Option, Some, None, Ordering, Less, Equal, Greater, refl, sym, ap, subst, ◌∙◌, inl, inr}
use Rattle.std.specs.Prelude.{IsTrue}
use Rattle.chord_map.specs.declared.reply.Reply.{Reply}
use Rattle.chord_map.specs.declared.reply.Reply.TheVariants.{Values}
use Rattle.std.proofs.lemmas.Bool.{cases_Bool, true≢false, or_parts, and_parts, and_from, not-false, ltb-false, le-ltb, le-leb, leb-true}
use Rattle.chord_map.specs.Checked.{IsValue}
use Rattle.chord_wire.specs.Replies.{AreValues, IsReply}
use Rattle.std.specs.List.{AllByRecursion}
use Rattle.std.specs.List.Sorted.{IsStrictlySortedBy}
use Rattle.std.specs.Ordering.{nat_cmp, is_lt}
use Rattle.std.specs.Cmp.Lexicographic.{slice_cmp}
use Rattle.chord_map.proofs.MapLemmas.{values_total}
use Rattle.chord_wire.specs.ReadingReplies.{is_above, rise_from}

-- each value is above the one before, as a reader from left to right sees it
abbrev pub AreRising : Option (List ℕ) → List (List ℕ) → Type 0
AreRising before [] = Unit {0}
AreRising before (value ∷ values) = (is_above before value ≡ true) × AreRising (Some value) values

less_from : (o : Ordering) → is_lt o ≡ true → o ≡ Less
less_from Less e = refl
less_from Equal e = absurd cc
less_from Greater e = absurd cc

all_above : (a b : List ℕ) (values : List (List ℕ)) → slice_cmp nat_cmp a b ≡ Less → AllByRecursion (λ y. slice_cmp nat_cmp b y ≡ Less) values → AllByRecursion (λ y. slice_cmp nat_cmp a y ≡ Less) values
all_above a b [] lt all = tt
all_above a b (value ∷ values) lt all = (values_total.trans a b value lt all.0, all_above a b values lt all.1)

above_first : (value : List ℕ) (values : List (List ℕ)) → AreRising (Some value) values → AllByRecursion (λ y. slice_cmp nat_cmp value y ≡ Less) values
above_first value [] rising = tt
above_first value (next ∷ values) rising =
    let lt = less_from (slice_cmp nat_cmp value next) rising.0 in
    (lt, all_above value next values lt (above_first next values rising.1))

sorted_behind : (values : List (List ℕ)) (before : Option (List ℕ)) → AreRising before values → IsStrictlySortedBy (slice_cmp nat_cmp) values
unfolding IsStrictlySortedBy
sorted_behind [] before rising = tt
sorted_behind (value ∷ values) before rising = (above_first value values rising.1, sorted_behind values (Some value) rising.1)

pub is_sorted : (values : List (List ℕ)) → AreRising None values → IsStrictlySortedBy (slice_cmp nat_cmp) values
is_sorted values rising = sorted_behind values None rising

rising_behind : (value : List ℕ) (values : List (List ℕ)) → AllByRecursion (λ y. slice_cmp nat_cmp value y ≡ Less) values → IsStrictlySortedBy (slice_cmp nat_cmp) values → AreRising (Some value) values
unfolding IsStrictlySortedBy
rising_behind value [] all sorted = tt
rising_behind value (next ∷ values) all sorted = (ap is_lt all.0, rising_behind next values sorted.0 sorted.1)

pub are_rising : (values : List (List ℕ)) → IsStrictlySortedBy (slice_cmp nat_cmp) values → AreRising None values
unfolding IsStrictlySortedBy
are_rising [] sorted = tt
are_rising (value ∷ values) sorted = (refl, rising_behind value values sorted.0 sorted.1)

-- ---- the test of values

parts_of : (value : List ℕ) (before : Option (List ℕ)) (rest : Bool) → cond (ltb 4096 (length value) || not (is_above before value)) false rest ≡ true → (length value ≤ 4096) × (is_above before value ≡ true) × (rest ≡ true)
parts_of value before rest e =
    let long = ltb 4096 (length value) in
    elim (cases_Bool (long || not (is_above before value))) [
      | inl refused ↦ absurd (true≢false (sym e ∙ ap (λ (b : Bool). cond b false rest) refused))
      | inr passed ↦ let tests = or_parts long (not (is_above before value)) passed in
          (ltb-false _ _ tests.0, not-false (is_above before value) tests.1, sym (ap (λ (b : Bool). cond b false rest) passed) ∙ e)
    ]

pub risen : (before : Option (List ℕ)) (values : List (List ℕ)) → rise_from before values ≡ true → AllByRecursion IsValue values × AreRising before values
risen before [] e = (tt, tt)
risen before (value ∷ values) e =
    let p = parts_of value before (rise_from (Some value) values) e in
    let more = risen (Some value) values p.2 in
    ((p.0, more.0), (p.1, more.1))

pub rise_again : (before : Option (List ℕ)) (values : List (List ℕ)) → AllByRecursion IsValue values → AreRising before values → rise_from before values ≡ true
rise_again before [] each rising = refl
rise_again before (value ∷ values) each rising =
    let short : ltb 4096 (length value) ≡ false = le-ltb _ _ each.0 in
    rw (short, rising.0) (rise_again (Some value) values each.1 rising.1)

pub values_pass : (values : List (List ℕ)) → AreValues values → (leb (length values) 1000 && rise_from None values) ≡ true
values_pass values fits = and_from _ _ (le-leb _ _ fits.count) (rise_again None values fits.each (are_rising values fits.rising))

pub passed_values : (values : List (List ℕ)) → (leb (length values) 1000 && rise_from None values) ≡ true → AreValues values
passed_values values e =
    let p = and_parts (leb (length values) 1000) (rise_from None values) e in
    let r = risen None values p.1 in
    record { count = leb-true _ _ p.0; each = r.0; rising = is_sorted values r.1 }

pub tells : (test : Bool) (reply : Reply) (values seen : List (List ℕ)) → reply ≡ Values values → seen ≡ values → test ≡ (leb (length seen) 1000 && rise_from None seen) → (IsTrue test → IsReply reply) × (IsReply reply → IsTrue test)
tells test reply values seen is same e =
    let known : test ≡ (leb (length values) 1000 && rise_from None values) = e ∙ ap (λ (vs : List (List ℕ)). leb (length vs) 1000 && rise_from None vs) same in (
      λ t. subst IsReply (sym is) (passed_values values (sym known ∙ t)),
      λ fits. known ∙ values_pass values (subst IsReply is fits),
    )
