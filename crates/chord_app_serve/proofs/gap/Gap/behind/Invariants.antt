use Rattle.std.proofs.Common.{take}
use Rattle.chord_app_serve.specs.Gaps.{IsFree, IsBound}
use Rattle.chord_app_serve.proofs.gap.Gap.behind.Given as goal

-- none of the identifiers so far lies in the gap, and no wider gap has none of them
abbrev pub invariant-loop-id : goal.invariant-loop-id
invariant-loop-id l = IsFree (take l.id-index l.ids) (record { after = l.after; width = l.width }) × IsBound (take l.id-index l.ids) l.width l.after
