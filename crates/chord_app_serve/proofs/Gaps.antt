-- Gaps between identifiers: how wide they are, and what follows if none has any width.
use Rattle.std.proofs.Common.{◌≡◌, ◌≢◌, ℕ, zero, suc, ◌+◌, ◌-◌, ◌%◌, ◌^◌, ◌<◌, ◌≤◌, ◌⊎◌, inl, inr, List, [], ◌∷◌, All, take, get_or, length, min, Option, None, Some, IfSome, arith, refl, sym, ◌∙◌, subst}
use Rattle.std.specs.List.{Any, Contains}
use Rattle.std.proofs.lemmas.Bool.{cases_lt}
use Rattle.std.proofs.lemmas.List.{take_all, take_more, get_or_default}
use Rattle.std.proofs.lemmas.List.Elements.{All-nil, All-cons, All-weaker, All-contains, All-more, All-pop}
use Rattle.chord_app_serve.specs.Gaps.{IsFree, IsInGap, IsBound, IsWidest, IsByMiddle, AreAll, place_in}
use Rattle.chord_app_serve.specs.declared.gap.Gap.{Gap}
use Rattle.chord_ident.specs.Circle.{distance}
use Rattle.chord_ident.specs.declared.id.Id.{Id}

-- the gap of this width behind the identifier
abbrev pub gap_of : Id → ℕ → Gap
gap_of after width = record { after = after; width = width }

-- how many identifiers lie before the one that is this far away
abbrev before : ℕ → ℕ
before far = (far + (2 ^ 128 - 1)) % 2 ^ 128

-- a gap that ends before the next identifier too is free of it
pub free_more : (ids : List Id) (after : Id) (width far i : ℕ) (d : Id) → i < length ids → far ≡ distance after.number (get_or ids i d).number → far < 2 ^ 128 → IsFree (take i ids) (gap_of after width) → IsFree (take (i + 1) ids) (gap_of after (min width (before far)))
free_more ids after width far i d within is small free =
    All-more (λ (id : Id). ¬ IsInGap (gap_of after (min width (before far))) id.number) ids i d within
    (All-weaker (λ (id : Id). ¬ IsInGap (gap_of after width) id.number) (λ (id : Id). ¬ IsInGap (gap_of after (min width (before far))) id.number)
    (λ id not_in inside. not_in (inside.0, omega (arith, inside.1))) (take i ids) free)
    (λ inside. absurd (omega (arith, is, small, inside.0, inside.1)))

-- and no wider one is
pub bound_more : (ids : List Id) (after : Id) (width far i : ℕ) (d : Id) → i < length ids → far ≡ distance after.number (get_or ids i d).number → far < 2 ^ 128 → IsBound (take i ids) width after → IsBound (take (i + 1) ids) (min width (before far)) after
bound_more ids after width far i d within is small bound wide fits free =
    let parts = All-pop (λ (id : Id). ¬ IsInGap (gap_of after wide) id.number) (take (i + 1) ids) (take i ids) (Some (get_or ids i d)) (take_more ids i d within) free in
    let first : wide ≤ width = bound wide fits parts.0 in
    let last : wide ≤ before far = elim (cases_lt (before far) wide) [
      | inl over ↦ absurd (parts.1 (omega (arith, is, small, over, fits), omega (arith, is, small, over, fits)))
      | inr under ↦ under
    ] in
    omega (arith, first, last)

-- the gap is free and begins at one of these, and no gap behind the first of them is wider
abbrev pub IsWidestOf : List Id → ℕ → Gap → Type 0
IsWidestOf ids i gap = IsFree ids gap × Contains ids gap.after × All (IsBound ids gap.width) (take i ids)

-- what bounds the gaps is a bound if it is raised
raised : (ids : List Id) (low high i : ℕ) → low ≤ high → All (IsBound ids low) (take i ids) → All (IsBound ids high) (take i ids)
raised ids low high i less = All-weaker (IsBound ids low) (IsBound ids high) (λ id bound width fits free. let held : width ≤ low = bound width fits free in omega (arith, held, less)) (take i ids)

-- the gap so far, if the one behind the next identifier is not wider
pub widest_stays : (ids : List Id) (i width : ℕ) (d : Id) (gap : Gap) → i < length ids → width ≤ gap.width → IsBound ids width (get_or ids i d) → IsWidestOf ids i gap → IsWidestOf ids (i + 1) gap
widest_stays ids i width d gap within less bound h =
    (h.0, h.1, All-more (IsBound ids gap.width) ids i d within h.2 (λ wide fits free. let held : wide ≤ width = bound wide fits free in omega (arith, held, less)))

-- the one behind the next identifier, if it is wider than that
pub widest_next : (ids : List Id) (i low : ℕ) (d : Id) (gap : Gap) → i < length ids → low ≤ gap.width → All (IsBound ids low) (take i ids) → gap.after ≡ get_or ids i d → IsFree ids gap → IsBound ids gap.width (get_or ids i d) → IsWidestOf ids (i + 1) gap
widest_next ids i low d gap within less tight at free bound =
    (free, (i, within, get_or_default ids i gap.after d within ∙ sym at), All-more (IsBound ids gap.width) ids i d within (raised ids low gap.width i less tight) bound)

-- the widest gap so far, if there is one
pub there_is : (ids : List Id) (i : ℕ) (widest : Option Gap) (gap : Gap) → widest ≡ Some gap → IsWidestOf ids i gap → IfSome widest (IsWidestOf ids i) × (widest ≡ None → i ≡ 0)
there_is ids i widest gap is h = (subst (λ (o : Option Gap). IfSome o (IsWidestOf ids i)) (sym is) h, λ none. absurd cc)

-- once all were seen, it is the widest
pub widest_of_all : (ids : List Id) (i : ℕ) (widest : Option Gap) → length ids ≤ i → IfSome widest (IsWidestOf ids i) → IfSome widest (IsWidest ids)
widest_of_all ids i None all h = tt
widest_of_all ids i (Some gap) all h = (h.0, h.1, subst (All (IsBound ids gap.width)) (take_all i ids all) h.2)

-- what was picked of it
pub picked : (ids : List Id) (draw : ℕ) (gap : Gap) (id : Option Id) → IsWidest ids gap → IfSome id (λ (id : Id). distance gap.after.number id.number ≡ place_in gap draw) → IfSome id (IsByMiddle ids draw)
picked ids draw gap None is h = tt
picked ids draw gap (Some id) is h = (gap, is, h)

-- one of these has this number
abbrev Has : List Id → ℕ → Type 0
Has ids x = Any (λ (id : Id). id.number ≡ x) ids

in_rest : (id : Id) (ids : List Id) (x : ℕ) → Has ids x → Has (id ∷ ids) x
in_rest id ids x h = (suc h.0, h.1, omega (arith, h.2), h.3, h.4)

-- one of these has the number, or none has
has_or_not : (x : ℕ) (ids : List Id) → Has ids x ⊎ All (λ (id : Id). id.number ≢ x) ids
has_or_not x [] = inr (All-nil (λ (id : Id). id.number ≢ x))
has_or_not x (id ∷ ids) = elim (has_or_not x ids) [
  | inl found ↦ inl (in_rest id ids x found)
  | inr none ↦ elim (cases_lt id.number x) [
    | inl less ↦ inr (All-cons (λ (id : Id). id.number ≢ x) id ids (λ e. absurd (omega (arith, less, e))) none)
    | inr more ↦ elim (cases_lt x id.number) [
      | inl less ↦ inr (All-cons (λ (id : Id). id.number ≢ x) id ids (λ e. absurd (omega (arith, less, e))) none)
      | inr same ↦ inl (zero, id, omega arith, refl, omega (arith, more, same))
    ]
  ]
]

-- behind each of these no gap has any width
abbrev pub NoneIsWide : List Id → Type 0
NoneIsWide ids = All (IsBound ids 0) ids

-- what is one step behind a number is the next one
next_number : (x from to : ℕ) → x < 2 ^ 128 → to < 2 ^ 128 → from ≡ x → 1 ≤ distance from to → distance from to ≤ 1 → to ≡ (x + 1) % 2 ^ 128
unfolding distance
next_number x from to small short is low high = omega (arith, small, short, is, low, high)

-- then the next identifier is one of these too
next_is_there : (ids : List Id) (x : ℕ) → x < 2 ^ 128 → All (λ (id : Id). id.number < 2 ^ 128) ids → NoneIsWide ids → Has ids x → Has ids ((x + 1) % 2 ^ 128)
next_is_there ids x within small tight has = elim (has_or_not ((x + 1) % 2 ^ 128) ids) [
  | inl there ↦ there
  | inr none ↦
      let tight_here : IsBound ids 0 has.1 = All-contains (IsBound ids 0) ids has.1 tight (has.0, has.2, has.3) in
      let free : IsFree ids (gap_of has.1 1) = λ k d lt inside. none k d lt (next_number x has.1.number (get_or ids k d).number within (small k d lt) has.4 inside.0 inside.1) in
      absurd (omega (arith, tight_here 1 (omega arith) free))
]

-- and so are all identifiers, which lie some way behind the first
steps : (ids : List Id) (first : Id) → Contains ids first → All (λ (id : Id). id.number < 2 ^ 128) ids → NoneIsWide ids → (n : ℕ) → Has ids ((first.number + n) % 2 ^ 128)
steps ids first at small tight zero =
    let below : first.number < 2 ^ 128 = All-contains (λ (id : Id). id.number < 2 ^ 128) ids first small at in
    (at.0, first, at.1, at.2, omega (arith, below))
steps ids first at small tight (suc n) =
    let here = steps ids first at small tight n in
    let next = next_is_there ids ((first.number + n) % 2 ^ 128) (omega arith) small tight here in
    let same : ((first.number + n) % 2 ^ 128 + 1) % 2 ^ 128 ≡ (first.number + suc n) % 2 ^ 128 = omega arith in
    subst (Has ids) same next

pub whole_circle : (ids : List Id) (first : Id) → Contains ids first → NoneIsWide ids → AreAll ids
whole_circle ids first at tight small x within =
    let below : first.number < 2 ^ 128 = All-contains (λ (id : Id). id.number < 2 ^ 128) ids first small at in
    let same : (first.number + (x + (2 ^ 128 - first.number))) % 2 ^ 128 ≡ x = omega (arith, below, within) in
    subst (Has ids) same (steps ids first at small tight (x + (2 ^ 128 - first.number)))
