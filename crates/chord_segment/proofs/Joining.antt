-- What holds after a join.
use Rattle.std.proofs.Common.{◌≡◌, ℕ, ◌^◌, ◌<◌, Bool, true, false, cond, eqb, ◌&&◌, ◌||◌, Option, None, Some, List, [], ◌∷◌, refl, ◌∙◌, ap, subst, arith, inl, inr, Result}
use Rattle.std.specs.Prelude.{find, is_some}
use Rattle.chord_ident.specs.declared.id.Id.{Id}
use Rattle.chord_ident.specs.Circle.{Splits, in_span}
use Rattle.chord_map.specs.Map.{key_of}
use Rattle.chord_map.proofs.Each.{Each}
use Rattle.chord_ident.proofs.Digest.{key_id-below}
use Rattle.chord_ident.proofs.Spans.{in_span_is}
use Rattle.chord_map.proofs.Each.{Each-filter, Each-map}
use Rattle.chord_map.specs.declared.done.Done.{Done}
use Rattle.chord_map.specs.History.{done_at, EachOnce}
use Rattle.chord_segment.specs.Marks.{lift_all}
use Rattle.chord_segment.specs.Segment.{Segment, id_of, calls_above, insert_call, insert_calls, span_joined, joined_segment, stands_twice}
use Rattle.chord_segment.specs.declared.fault.SegmentJoinFault.{SegmentJoinFault}
use Rattle.chord_segment.specs.Join.{JoinIs}
use Rattle.chord_segment.specs.Rules.{IsNear, IsSegment}
use Rattle.chord_segment.proofs.Lifting.{lift_all_grows, lift_all_reaches}
use Rattle.chord_segment.proofs.SegmentRules.{find-placed_none, Each_placed, EachOnce-filter, EachOnce_placed, other_way, IsClose, near_above}

-- ---- no call twice

none_each_step : (p : Done → Bool) (b : Bool) (y : Done) (o : Option Done) → cond b (Some y) o ≡ None → (b ≡ false) × (o ≡ None)
none_each_step p true y o e = cc
none_each_step p false y o e = (refl, e)

find_none_each : (p : Done → Bool) (ys : List Done) → find p ys ≡ None → Each (λ (y : Done). p y ≡ false) ys
find_none_each p [] e = tt
find_none_each p (y ∷ ys) e = let h = none_each_step p (p y) y (find p ys) e in (h.0, find_none_each p ys h.1)

-- none of these calls is in the list
abbrev NoneIn : List Done → List Done → Type 0
NoneIn first second = Each (λ (d : Done). done_at d.caller d.number first ≡ None) second

none_placed : (xs : List Done) (y : Done) (ys : List Done) → NoneIn xs ys → Each (λ (d : Done). (eqb d.caller y.caller && eqb d.number y.number) ≡ false) ys → NoneIn (insert_call y xs) ys
unfolding done_at
none_placed xs y [] h k = tt
none_placed xs y (d ∷ ys) h k = (find-placed_none _ xs y h.0 (other_way d.caller y.caller d.number y.number k.0), none_placed xs y ys h.1 k.1)

pub EachOnce_placed_all : (more xs : List Done) → EachOnce xs → EachOnce more → NoneIn xs more → EachOnce (insert_calls more xs)
unfolding done_at insert_calls
EachOnce_placed_all [] xs hx hy h = hx
EachOnce_placed_all (y ∷ more) xs hx hy h =
    EachOnce_placed_all more (insert_call y xs) (EachOnce_placed xs y hx h.0) hy.1 (none_placed xs y more h.1 (find_none_each _ more hy.0))

pub Each_placed_all : (P : Done → Type 0) (more xs : List Done) → Each P xs → Each P more → Each P (insert_calls more xs)
unfolding insert_calls
Each_placed_all P [] xs hx hy = hx
Each_placed_all P (y ∷ more) xs hx hy = Each_placed_all P more (insert_call y xs) (Each_placed P xs y hx hy.0) hy.1

twice_step : (o : Option Done) (b : Bool) → (is_some o || b) ≡ false → (o ≡ None) × (b ≡ false)
twice_step None b e = (refl, e)
twice_step (Some x) b e = cc

pub none_twice : (first second : List Done) → stands_twice first second ≡ false → NoneIn first second
unfolding stands_twice
none_twice first [] e = tt
none_twice first (d ∷ second) e = let h = twice_step (done_at d.caller d.number first) _ e in (h.0, none_twice first second h.1)

-- ---- the span

-- a call in a part is in the whole
in_whole_first : (after at upto : Id) (x : ℕ) → x < 2 ^ 128 → Splits after.number at.number upto.number → in_span (record { after = after; upto = at }) x ≡ true
    → in_span (record { after = after; upto = upto }) x ≡ true
in_whole_first after at upto x below splits h =
    (in_span_is (record { after = after; upto = upto }) x).1 ((splits.together x below).1 (inl ((in_span_is (record { after = after; upto = at }) x).0 h)))

in_whole_second : (after at upto : Id) (x : ℕ) → x < 2 ^ 128 → Splits after.number at.number upto.number → in_span (record { after = at; upto = upto }) x ≡ true
    → in_span (record { after = after; upto = upto }) x ≡ true
in_whole_second after at upto x below splits h =
    (in_span_is (record { after = after; upto = upto }) x).1 ((splits.together x below).1 (inr ((in_span_is (record { after = at; upto = upto }) x).0 h)))

-- what holds of `joined_segment`
pub joined-rules : (first second : Segment) → IsSegment first → IsSegment second → Splits first.span.after.number first.span.upto.number second.span.upto.number
    → first.span.upto ≡ second.span.after → stands_twice first.kept second.kept ≡ false → IsSegment (joined_segment first second)
unfolding joined_segment calls_above
joined-rules first second h k splits e once =
    let floors = lift_all second.floors first.floors in
    let whole = span_joined first.span second.span in
    let Inside : Done → Type 0 = λ d. in_span whole (id_of d.request) ≡ true in
    let below = λ (d : Done). key_id-below (key_of d.request) in
    record {
      inside = Each-filter Inside _ (insert_calls second.kept first.kept) (Each_placed_all Inside second.kept first.kept
          (Each-map (λ (d : Done). in_span first.span (id_of d.request) ≡ true) Inside (λ d t. in_whole_first first.span.after first.span.upto second.span.upto (id_of d.request) (below d) splits t) first.kept h.inside)
          (Each-map (λ (d : Done). in_span second.span (id_of d.request) ≡ true) Inside (λ d t. in_whole_second first.span.after first.span.upto second.span.upto (id_of d.request) (below d) splits (ap (λ (n : Id). in_span (record { after = n; upto = second.span.upto }) (id_of d.request)) e ∙ t)) second.kept k.inside));
      near = near_above floors (insert_calls second.kept first.kept) (Each_placed_all (IsClose floors) second.kept first.kept
          (Each-map (IsNear first.floors) (IsClose floors) (λ (d : Done) n. let g = lift_all_grows d.caller second.floors first.floors in let m = n.near in omega arith) first.kept h.near)
          (Each-map (IsNear second.floors) (IsClose floors) (λ (d : Done) n. let g = lift_all_reaches d.caller second.floors first.floors in let m = n.near in omega arith) second.kept k.near));
      once = EachOnce-filter _ (insert_calls second.kept first.kept) (EachOnce_placed_all second.kept first.kept h.once k.once (none_twice first.kept second.kept once));
    }

-- `join_is` up to equal segments
pub join_is : (first second first' second' : Segment) → first ≡ first' → second ≡ second' → (result : Result (Unit {0}) SegmentJoinFault) (new : Segment)
    → JoinIs first second result new → JoinIs first' second' result new
join_is first second first' second' e f result new h =
    let P : Segment → Type 0 = λ s. JoinIs s second' result new in
    let Q : Segment → Type 0 = λ s. JoinIs first s result new in
    subst P e (subst Q f h)
