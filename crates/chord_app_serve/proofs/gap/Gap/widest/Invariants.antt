use Rattle.std.specs.Prelude.{◌≡◌, IfSome, None}
use Rattle.chord_app_serve.proofs.Gaps.{IsWidestOf}
use Rattle.chord_app_serve.proofs.gap.Gap.widest.Given as goal

-- there is a gap as soon as an identifier was seen, the widest behind those so far
abbrev pub invariant-loop-id : goal.invariant-loop-id
invariant-loop-id l = IfSome l.widest (IsWidestOf l.ids l.id-index) × (l.widest ≡ None → l.id-index ≡ 0)
