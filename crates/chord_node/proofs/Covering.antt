-- What is held after a cut and a merge.
use Rattle.std.proofs.Common.{◌≡◌, ℕ, ◌<◌, ◌^◌, Some, Result, Ok, Err, List, ◌∙◌, ap, subst}
use Rattle.std.specs.Prelude.{slice_get}
use Rattle.chord_ident.specs.declared.id.Id.{Id}
use Rattle.chord_model.proofs.Events.{count-cut, count-join}
use Rattle.chord_model.proofs.Stocking.{holds_same}
use Rattle.chord_node.specs.declared.fault.CutAtFault.{CutAtFault}
use Rattle.chord_node.specs.declared.fault.CutAtFault.TheVariants as cut
use Rattle.chord_node.specs.declared.fault.MergeFault.{MergeFault}
use Rattle.chord_node.specs.declared.fault.MergeFault.TheVariants as merge
use Rattle.chord_node.specs.Moves.{CutHeld, MergeHeld}
use Rattle.chord_model.specs.Stock.{IsOnCircle, holds}
use Rattle.chord_segment.specs.Segment.{Segment}

-- the ends of the segment at this index are on the circle
abbrev pub IsOnAt : ℕ → List Segment → Type 0
IsOnAt place held = (segment : Segment) → slice_get held place ≡ Some segment → IsOnCircle segment.span

pub on_at : (held : List Segment) (place : ℕ) (segment : Segment) → slice_get held place ≡ Some segment → IsOnCircle segment.span → IsOnAt place held
on_at held place segment found on other e =
    let same : segment ≡ other = cc in
    subst (λ (s : Segment). IsOnCircle s.span) same on

pub cut_covers : (place : ℕ) (at : Id) (held new : List Segment) (result : Result (Unit {0}) CutAtFault) → IsOnAt place held → at.number < 2 ^ 128 → CutHeld place at held result new
    → (x : ℕ) → x < 2 ^ 128 → holds x new ≡ holds x held
cut_covers place at held new (Ok done) on at_in (segment, found, inside, is) x x_in =
    ap (holds x) is ∙ holds_same x held _ (count-cut x place segment at held x_in (on segment found) at_in found inside)
cut_covers place at held new (Err cut.NoSegment) on at_in h x x_in = ap (holds x) h.1
cut_covers place at held new (Err cut.NotInside) on at_in h x x_in = ap (holds x) h.3
cut_covers place at held new (Err cut.Memory) on at_in h x x_in = ap (holds x) h.3

pub merge_covers : (place other : ℕ) (held new : List Segment) (result : Result (Unit {0}) MergeFault) → IsOnAt place held → IsOnAt other held → MergeHeld place other held result new
    → (x : ℕ) → x < 2 ^ 128 → holds x new ≡ holds x held
merge_covers place other held new (Ok done) on on' (first, second, found, found', apart, next, inside, once, is) x x_in =
    ap (holds x) is ∙ holds_same x held _ (count-join x place first other second held x_in (on first found) (on' second found') found found' apart next inside)
merge_covers place other held new (Err merge.NoSegment) on on' h x x_in = ap (holds x) h.1
merge_covers place other held new (Err merge.NotAdjacent) on on' h x x_in = ap (holds x) h.1
merge_covers place other held new (Err merge.Overlap) on on' h x x_in = ap (holds x) h.1
merge_covers place other held new (Err merge.Twice) on on' h x x_in = ap (holds x) h.1
merge_covers place other held new (Err merge.Memory) on on' h x x_in = ap (holds x) h.1
