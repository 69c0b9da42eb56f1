-- Room reserved for a caller's next call stays reserved.
use Rattle.std.proofs.Common.{◌≡◌, ℕ, ◌<◌, Option, None, Some, List, refl, sym, subst}
use Rattle.chord_ident.specs.declared.span.Span.{Span}
use Rattle.chord_map.specs.declared.done.Done.{Done}
use Rattle.chord_map.proofs.Each.{Each-map}
use Rattle.chord_segment.specs.Marks.{mark_of}
use Rattle.chord_segment.specs.Rules.{IsSegment, IsNear}
use Rattle.chord_segment.specs.Callers.{OfCaller, HasRoom, IsReadied, AreAbove, marks_in, calls_in}
use Rattle.chord_segment.proofs.Parting.{segment_is}

pub readied_keeps : (o : Option ℕ) (old new : List OfCaller) → ((other room : ℕ) → HasRoom other room old → HasRoom other room new) → IsReadied o old → IsReadied o new
readied_keeps None old new keeps h = tt
readied_keeps (Some caller) old new keeps h = keeps caller 1 h

-- in a segment each call is above its caller's floor
pub rules_above : (span : Span) (callers : List OfCaller) → IsSegment (record { span = span; floors = marks_in callers; kept = calls_in callers }) → AreAbove callers
rules_above span callers h =
    Each-map (IsNear (marks_in callers)) (λ (done : Done). mark_of done.caller (marks_in callers) < done.number) (λ done n. n.above) (calls_in callers) h.near

-- a segment with the same floors and calls
pub rules_same : (span : Span) (old new : List OfCaller) → marks_in new ≡ marks_in old → calls_in new ≡ calls_in old
    → IsSegment (record { span = span; floors = marks_in old; kept = calls_in old }) → IsSegment (record { span = span; floors = marks_in new; kept = calls_in new })
rules_same span old new e f h = subst IsSegment (segment_is span span (marks_in old) (marks_in new) (calls_in old) (calls_in new) refl (sym e) (sym f)) h

-- what a segment keeps, if its floors and calls are the same and it has at least the room
pub record StillRuled (span : Span) (o : Option ℕ) (new : List OfCaller) : Type 0 where
  pub rules : IsSegment (record { span = span; floors = marks_in new; kept = calls_in new })
  pub readied : IsReadied o new

pub still_ruled : (span : Span) (o : Option ℕ) (old new : List OfCaller) → marks_in new ≡ marks_in old → calls_in new ≡ calls_in old → ((other room : ℕ) → HasRoom other room old → HasRoom other room new)
    → IsSegment (record { span = span; floors = marks_in old; kept = calls_in old }) → IsReadied o old → StillRuled span o new
still_ruled span o old new floors calls keeps rules readied = record { rules = rules_same span old new floors calls rules; readied = readied_keeps o old new keeps readied }
