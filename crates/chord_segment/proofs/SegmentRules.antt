-- What holds of a segment after each change.
use Rattle.std.proofs.Common.{◌≡◌, ℕ, ◌+◌, ◌<◌, ◌≤◌, Bool, true, false, cond, eqb, ltb, ◌&&◌, ⊎_elim, Option, None, Some, List, [], ◌∷◌, refl, sym, ◌∙◌, arith}
use Rattle.std.proofs.lemmas.Bool.{true≢false, ltb-true}
use Rattle.std.proofs.lemmas.Bool.Decides.{leb_tells, nat_tests}
use Rattle.std.specs.Prelude.{filter, find, nat_le}
use Rattle.chord_ident.specs.Circle.{in_span}
use Rattle.chord_segment.specs.Segment.{id_of}
use Rattle.chord_map.proofs.Each.{Each}
use Rattle.chord_map.proofs.Each.{Each-filter, Each_filter_with, Each-map}
use Rattle.chord_map.specs.declared.done.Done.{Done}
use Rattle.chord_segment.specs.declared.mark.Mark.{Mark}
use Rattle.chord_map.specs.History.{done_at, EachOnce}
use Rattle.chord_segment.specs.Marks.{mark_of, lift}
use Rattle.chord_segment.specs.Segment.{Segment, past_of, past_at, calls_above, insert_call, append}
use Rattle.chord_segment.specs.Segment.Past.{New, Seen}
use Rattle.chord_segment.specs.Rules.{IsNear, IsSegment}
use Rattle.chord_segment.proofs.Lifting.{mark_lifted, lift_grows}

-- a call that is New is above the floor and not kept
new_floor : (b : Bool) (o : Option Done) → cond b Seen (past_of o) ≡ New → (b ≡ false) × (o ≡ None)
new_floor true o e = cc
new_floor false None e = (refl, refl)
new_floor false (Some done) e = cc

pub new_is : (caller number : ℕ) (segment : Segment) → past_at caller number segment ≡ New
    → (mark_of caller segment.floors < number) × (done_at caller number segment.kept ≡ None)
unfolding past_at
new_is caller number segment e =
    let parts = new_floor (nat_le number (mark_of caller segment.floors)) (done_at caller number segment.kept) e in
    (⊎_elim (λ yes. absurd (true≢false (sym yes.0 ∙ parts.0))) (λ no. no.1) (leb_tells number (mark_of caller segment.floors)), parts.1)

-- a filter keeps each call once
find_filter_step : (p q : Done → Bool) (b : Bool) (y : Done) (ys : List Done) → find p (y ∷ ys) ≡ None → find p (filter q ys) ≡ None → find p (cond b (y ∷ filter q ys) (filter q ys)) ≡ None
find_filter_step p q true y ys whole rest = first (p y) whole
  where
    first : (b : Bool) → cond b (Some y) (find p ys) ≡ None → cond b (Some y) (find p (filter q ys)) ≡ None
    first true e = cc
    first false e = rest
find_filter_step p q false y ys whole rest = rest

rest_none : (b : Bool) (y : Done) (o : Option Done) → cond b (Some y) o ≡ None → o ≡ None
rest_none true y o e = cc
rest_none false y o e = e

pub find-filter_none : (p q : Done → Bool) (ys : List Done) → find p ys ≡ None → find p (filter q ys) ≡ None
find-filter_none p q [] e = refl
find-filter_none p q (y ∷ ys) e = find_filter_step p q (q y) y ys e (find-filter_none p q ys (rest_none (p y) y (find p ys) e))

once_step : (b : Bool) (x : Done) (xs : List Done) → done_at x.caller x.number xs ≡ None → EachOnce xs → EachOnce (cond b (x ∷ xs) xs)
once_step true x xs none rest = (none, rest)
once_step false x xs none rest = rest

pub EachOnce-filter : (q : Done → Bool) (xs : List Done) → EachOnce xs → EachOnce (filter q xs)
unfolding done_at
EachOnce-filter q [] h = tt
EachOnce-filter q (x ∷ xs) h = once_step (q x) x (filter q xs) (find-filter_none _ q xs h.0) (EachOnce-filter q xs h.1)

none_step : (b : Bool) (x : Done) (o o' : Option Done) → cond b (Some x) o ≡ None → (o ≡ None → o' ≡ None) → cond b (Some x) o' ≡ None
none_step true x o o' e next = cc
none_step false x o o' e next = next e

placed_step : (p : Done → Bool) (b : Bool) (y x : Done) (xs rest : List Done) → cond (p x) (Some x) (find p xs) ≡ None → p y ≡ false → (find p xs ≡ None → find p rest ≡ None)
    → find p (cond b (y ∷ x ∷ xs) (x ∷ rest)) ≡ None
placed_step p true y x xs rest e h next = rw h e
placed_step p false y x xs rest e h next = none_step (p x) x (find p xs) (find p rest) e next

pub find-placed_none : (p : Done → Bool) (xs : List Done) (y : Done) → find p xs ≡ None → p y ≡ false → find p (insert_call y xs) ≡ None
unfolding insert_call
find-placed_none p [] y e h = rw h refl
find-placed_none p (x ∷ xs) y e h = placed_step p (ltb y.caller x.caller) y x xs (insert_call y xs) e h (λ none. find-placed_none p xs y none h)

each_step : (P : Done → Type 0) (b : Bool) (y x : Done) (xs rest : List Done) → P y → P x → Each P xs → Each P rest → Each P (cond b (y ∷ x ∷ xs) (x ∷ rest))
each_step P true y x xs rest hy hx hs hr = (hy, (hx, hs))
each_step P false y x xs rest hy hx hs hr = (hx, hr)

pub Each_placed : (P : Done → Type 0) (xs : List Done) (y : Done) → Each P xs → P y → Each P (insert_call y xs)
unfolding insert_call
Each_placed P [] y hs hy = (hy, tt)
Each_placed P (x ∷ xs) y hs hy = each_step P (ltb y.caller x.caller) y x xs (insert_call y xs) hy hs.0 hs.1 (Each_placed P xs y hs.1 hy)

-- no call of the list is of that caller and number
apart_step : (b : Bool) (x : Done) (o : Option Done) → cond b (Some x) o ≡ None → b ≡ false
apart_step true x o e = cc
apart_step false x o e = refl

once_placed_step : (b : Bool) (y x : Done) (xs rest : List Done) → done_at y.caller y.number (x ∷ xs) ≡ None → done_at x.caller x.number xs ≡ None → EachOnce xs
    → done_at x.caller x.number rest ≡ None → EachOnce rest → EachOnce (cond b (y ∷ x ∷ xs) (x ∷ rest))
once_placed_step true y x xs rest none first more first_rest more_rest = (none, (first, more))
once_placed_step false y x xs rest none first more first_rest more_rest = (first_rest, more_rest)

pub other_way : (a b m n : ℕ) → (eqb a b && eqb m n) ≡ false → (eqb b a && eqb n m) ≡ false
other_way a b m n h = grind (arith, nat_tests)

pub EachOnce_placed : (xs : List Done) (y : Done) → EachOnce xs → done_at y.caller y.number xs ≡ None → EachOnce (insert_call y xs)
unfolding done_at insert_call
EachOnce_placed [] y h none = (refl, tt)
EachOnce_placed (x ∷ xs) y h none =
    let here = apart_step (eqb x.caller y.caller && eqb x.number y.number) x _ none in
    once_placed_step (ltb y.caller x.caller) y x xs (insert_call y xs) none h.0 h.1
    (find-placed_none _ xs y h.0 (other_way x.caller y.caller x.number y.number here))
    (EachOnce_placed xs y h.1 (rest_none (eqb x.caller y.caller && eqb x.number y.number) x _ none))

-- the call is at most 16 above its caller's floor
abbrev pub IsClose : List Mark → Done → Type 0
IsClose floors done = done.number ≤ mark_of done.caller floors + 16

-- the calls left above the floors are near them
pub near_above : (floors : List Mark) (dones : List Done) → Each (IsClose floors) dones → Each (IsNear floors) (calls_above floors dones)
unfolding calls_above
near_above floors dones h =
    Each_filter_with (IsClose floors) (IsNear floors) _ (λ done close test. record { above = ltb-true _ _ test; near = close }) dones h

-- what holds after `append`
pub append-rules : (done : Done) (floor : ℕ) (segment : Segment) → IsSegment segment → in_span segment.span (id_of done.request) ≡ true
    → past_at done.caller done.number segment ≡ New → done.number ≤ floor + 16 → IsSegment (append done floor segment)
unfolding append calls_above
append-rules done floor segment h key new near =
    let floors = lift done.caller floor segment.floors in
    let news = new_is done.caller done.number segment new in
    let grown : (other : ℕ) → mark_of other segment.floors ≤ mark_of other floors = λ other. lift_grows other done.caller floor segment.floors in
    let close : IsClose floors done = rw (mark_lifted done.caller floor segment.floors) (omega arith) in
    record {
      inside = Each-filter _ _ (insert_call done segment.kept) (Each_placed _ segment.kept done h.inside key);
      near = near_above floors (insert_call done segment.kept) (Each_placed _ segment.kept done (Each-map (IsNear segment.floors) (IsClose floors) (λ (d : Done) n. let g = grown d.caller in let k = n.near in omega arith) segment.kept h.near) close);
      once = EachOnce-filter _ (insert_call done segment.kept) (EachOnce_placed segment.kept done h.once news.1);
    }

-- two tests that agree on a list filter it alike
filter_agree_step : (b c : Bool) (x : Done) (xs ys : List Done) → b ≡ c → xs ≡ ys → cond b (x ∷ xs) xs ≡ cond c (x ∷ ys) ys
filter_agree_step b c x xs ys e f = cc

pub filter_agree : (p q : Done → Bool) (xs : List Done) → Each (λ (x : Done). p x ≡ q x) xs → filter p xs ≡ filter q xs
filter_agree p q [] h = refl
filter_agree p q (x ∷ xs) h = filter_agree_step (p x) (q x) x (filter p xs) (filter q xs) h.0 (filter_agree p q xs h.1)
