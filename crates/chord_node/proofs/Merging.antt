-- A merge of two held segments: one is taken out and joined to the other, and its index is removed.
use Rattle.std.proofs.Common.{◌≡◌, ◌≢◌, ℕ, zero, suc, ◌<◌, None, Some, Result, Ok, Err, List, [], ◌∷◌, length, get_or, set, refl, sym, ◌∙◌, ap, subst}
use Rattle.std.specs.Prelude.{slice_get, remove}
use Rattle.chord_segment.specs.declared.fault.SegmentJoinFault.{SegmentJoinFault}
use Rattle.chord_segment.specs.declared.fault.SegmentJoinFault.TheVariants as join
use Rattle.chord_segment.specs.Segment.{Segment, RoomySegment}
use Rattle.chord_segment.specs.Join.{JoinRefused, JoinIs}
use Rattle.chord_node.specs.declared.fault.MergeFault.{MergeFault}
use Rattle.chord_node.specs.declared.fault.MergeFault.TheVariants as merge
use Rattle.chord_model.specs.Node.{Node, NodeStep, joined_held}
use Rattle.chord_model.specs.Node.NodeStep.{Joins}
use Rattle.chord_node.specs.View.{segments_of}
use Rattle.chord_node.specs.Moves.{MoveSteps, merge_fault_of, MergeHeld, MergeIs, with_held}
use Rattle.chord_node.proofs.Moving.{no_place, segments_get, segments_set, segments_remove}

set_same : (ks : List Segment) (i : ℕ) (k : Segment) → slice_get ks i ≡ Some k → set ks i k ≡ ks
set_same [] i k e = cc
set_same (x ∷ ks) zero k e = let same : x ≡ k = cc in ap (λ (y : Segment). y ∷ ks) (sym same)
set_same (x ∷ ks) (suc i) k e = ap (λ (ys : List Segment). x ∷ ys) (set_same ks i k e)

set_back : (ks : List Segment) (i : ℕ) (k other : Segment) → slice_get ks i ≡ Some k → set (set ks i other) i k ≡ ks
set_back [] i k other e = cc
set_back (x ∷ ks) zero k other e = let same : x ≡ k = cc in ap (λ (y : Segment). y ∷ ks) (sym same)
set_back (x ∷ ks) (suc i) k other e = ap (λ (ys : List Segment). x ∷ ys) (set_back ks i k other e)

both_back : (ks : List Segment) (p o : ℕ) (a n other : Segment) → p ≢ o → slice_get ks p ≡ Some a → slice_get ks o ≡ Some n → set (set (set ks o other) p a) o n ≡ ks
both_back [] p o a n other ne e f = cc
both_back (x ∷ ks) zero zero a n other ne e f = absurd (ne refl)
both_back (x ∷ ks) zero (suc o) a n other ne e f = let same : x ≡ a = cc in ap (λ (y : Segment). y ∷ set (set ks o other) o n) (sym same) ∙ ap (λ (ys : List Segment). x ∷ ys) (set_back ks o n other f)
both_back (x ∷ ks) (suc p) zero a n other ne e f = let same : x ≡ n = cc in ap (λ (y : Segment). y ∷ set ks p a) (sym same) ∙ ap (λ (ys : List Segment). x ∷ ys) (set_same ks p a e)
both_back (x ∷ ks) (suc p) (suc o) a n other ne e f = ap (λ (ys : List Segment). x ∷ ys) (both_back ks p o a n other (λ same. ne (ap suc same)) e f)

removed_same : (ks : List Segment) (o : ℕ) (other : Segment) → remove (set ks o other) o ≡ remove ks o
removed_same [] zero other = refl
removed_same [] (suc o) other = refl
removed_same (x ∷ ks) zero other = refl
removed_same (x ∷ ks) (suc o) other = ap (λ (ys : List Segment). x ∷ ys) (removed_same ks o other)

both_removed : (ks : List Segment) (p o : ℕ) (j other : Segment) → p ≢ o → remove (set (set ks o other) p j) o ≡ remove (set ks p j) o
both_removed [] zero zero j other ne = refl
both_removed [] zero (suc o) j other ne = refl
both_removed [] (suc p) zero j other ne = refl
both_removed [] (suc p) (suc o) j other ne = refl
both_removed (x ∷ ks) zero zero j other ne = absurd (ne refl)
both_removed (x ∷ ks) zero (suc o) j other ne = ap (λ (ys : List Segment). j ∷ ys) (removed_same ks o other)
both_removed (x ∷ ks) (suc p) zero j other ne = refl
both_removed (x ∷ ks) (suc p) (suc o) j other ne = ap (λ (ys : List Segment). x ∷ ys) (both_removed ks p o j other (λ same. ne (ap suc same)))

get_past : (ks : List Segment) (p o : ℕ) (other : Segment) → p ≢ o → slice_get (set ks o other) p ≡ slice_get ks p
get_past [] zero zero other ne = refl
get_past [] zero (suc o) other ne = refl
get_past [] (suc p) zero other ne = refl
get_past [] (suc p) (suc o) other ne = refl
get_past (x ∷ ks) zero zero other ne = absurd (ne refl)
get_past (x ∷ ks) zero (suc o) other ne = refl
get_past (x ∷ ks) (suc p) zero other ne = refl
get_past (x ∷ ks) (suc p) (suc o) other ne = get_past ks p o other (λ same. ne (ap suc same))

-- what the code reads at the two indices
pub record Read (held : List RoomySegment) (p o : ℕ) (empty first second : RoomySegment) : Type 0 where
  pub apart : p ≢ o
  pub first_in : p < length (set held o empty)
  pub second_in : o < length held
  pub first_is : first ≡ get_or (set held o empty) p first
  pub second_is : second ≡ get_or held o second

read_first : (held : List RoomySegment) (p o : ℕ) (empty first second : RoomySegment) → Read held p o empty first second → slice_get (segments_of held) p ≡ Some first.segment
read_first held p o empty first second r =
    sym (get_past (segments_of held) p o empty.segment r.apart) ∙ ap (λ (ks : List Segment). slice_get ks p) (sym (segments_set held o empty))
    ∙ segments_get (set held o empty) p first r.first_in r.first_is

pub unmerged : (held : List RoomySegment) (p o : ℕ) (empty first second a n : RoomySegment) (fault : SegmentJoinFault) → Read held p o empty first second
    → JoinIs first.segment second.segment (Err fault) a.segment → n.segment ≡ second.segment
    → segments_of (set (set (set held o empty) p a) o n) ≡ segments_of held
unmerged held p o empty first second a n fault r h same =
    segments_set (set (set held o empty) p a) o n
    ∙ ap (λ (ks : List Segment). set ks o n.segment) (segments_set (set held o empty) p a ∙ ap (λ (ks : List Segment). set ks p a.segment) (segments_set held o empty))
    ∙ both_back (segments_of held) p o a.segment n.segment empty.segment r.apart
    (read_first held p o empty first second r ∙ ap (λ (k : Segment). Some k) (sym h.1))
    (segments_get held o second r.second_in r.second_is ∙ ap (λ (k : Segment). Some k) (sym same))

pub merged : (held new : List RoomySegment) (p o : ℕ) (empty first second a : RoomySegment) → Read held p o empty first second
    → JoinIs first.segment second.segment (Ok tt) a.segment → new ≡ remove (set (set held o empty) p a) o
    → MergeHeld p o (segments_of held) (Ok tt) (segments_of new)
merged held new p o empty first second a r h e = (
  first.segment,
  second.segment,
  read_first held p o empty first second r,
  segments_get held o second r.second_in r.second_is,
  r.apart,
  h.0,
  h.1,
  h.2,
  ap segments_of e ∙ segments_remove (set (set held o empty) p a) o
      ∙ ap (λ (ks : List Segment). remove ks o) (segments_set (set held o empty) p a ∙ ap (λ (ks : List Segment). set ks p a.segment) (segments_set held o empty))
      ∙ both_removed (segments_of held) p o a.segment empty.segment r.apart
      ∙ ap (λ (k : Segment). remove (set (segments_of held) p k) o) h.3,
)

pub merge_at_is : (p o : ℕ) (view old : Node) → view ≡ old → (result : Result (Unit {0}) MergeFault) (held : List Segment)
    → MergeHeld p o view.held result held → MergeIs p o old result (with_held held view)
merge_at_is p o view old e result held h =
    let P : Node → Type 0 = λ node. MergeIs p o node result (with_held held view) in
    subst P e (h, refl)

pub merge_steps : (p o : ℕ) (old : Node) (result : Result (Unit {0}) MergeFault) (new : Node) → MergeIs p o old result new → MoveSteps old result new
merge_steps p o old (Ok done) new h =
    let m = h.0 in
    let e : new ≡ with_held (joined_held p m.0 o m.1 old.held) old = h.1 ∙ ap (λ (held : List Segment). with_held held old) m.8 in
    subst (λ (node : Node). NodeStep old None node None None) (sym e) (Joins p m.0 o m.1 m.2 m.3 m.4 m.5 m.6)
merge_steps p o old (Err fault) new h = tt

-- a merge whose join is refused with this
refused_is : (old new : List Segment) (p o : ℕ) (first second : Segment) (fault : SegmentJoinFault) → slice_get old p ≡ Some first → slice_get old o ≡ Some second → p ≢ o
    → JoinRefused first second fault → new ≡ old → MergeHeld p o old (Err (merge_fault_of fault)) new
refused_is old new p o first second join.NotAdjacent e f ne h same = ((first, second, e, f, ne, h), same)
refused_is old new p o first second join.Overlap e f ne h same = ((first, second, e, f, ne, h), same)
refused_is old new p o first second join.Twice e f ne h same = ((first, second, e, f, ne, h), same)
refused_is old new p o first second join.Memory e f ne h same = ((first, second, e, f, ne, h), same)

pub refused : (held new : List RoomySegment) (p o : ℕ) (empty first second : RoomySegment) (a : Segment) (fault : SegmentJoinFault) (answer : MergeFault) → Read held p o empty first second
    → JoinIs first.segment second.segment (Err fault) a → segments_of new ≡ segments_of held → answer ≡ merge_fault_of fault
    → MergeHeld p o (segments_of held) (Err answer) (segments_of new)
refused held new p o empty first second a fault answer r h same e =
    let Q : MergeFault → Type 0 = λ m. MergeHeld p o (segments_of held) (Err m) (segments_of new) in
    subst Q (sym e)
    (refused_is (segments_of held) (segments_of new) p o first.segment second.segment fault (read_first held p o empty first second r) (segments_get held o second r.second_in r.second_is) r.apart h.0 same)

pub merge_none : (p o : ℕ) (old new : List Segment) (result : Result (Unit {0}) MergeFault) → MergeHeld p o old result new → old ≡ [] → new ≡ []
merge_none p o old new (Ok done) h none = absurd (no_place old p h.0 none h.2)
merge_none p o old new (Err merge.NoSegment) h none = h.1 ∙ none
merge_none p o old new (Err merge.NotAdjacent) h none = h.1 ∙ none
merge_none p o old new (Err merge.Overlap) h none = h.1 ∙ none
merge_none p o old new (Err merge.Twice) h none = h.1 ∙ none
merge_none p o old new (Err merge.Memory) h none = h.1 ∙ none
