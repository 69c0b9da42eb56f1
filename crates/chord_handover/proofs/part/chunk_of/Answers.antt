use Rattle.std.proofs.Common.{◌-◌, ◌*◌, ◌∙◌, ap, take, drop, arith}
use Rattle.chord_handover.proofs.PayloadRules.{chunk_at, none_behind}
use Rattle.chord_handover.proofs.part.chunk_of.Goals as goal

pub returns-then-before-count_parts : goal.returns-then-before-count_parts
returns-then-before-count_parts c = none_behind (64 * (c.args.part - 1)) c.args.pairs.now (omega (arith, c.count_parts.ensures, c.saturating_sub-before.ensures))

pub returns : goal.returns
returns c =
    chunk_at (64 * c.saturating_sub-before.result) c.min.result c.args.pairs.now c.min.ensures
    ∙ ap (λ k. take 64 (drop (64 * k) c.args.pairs.now)) c.saturating_sub-before.ensures
