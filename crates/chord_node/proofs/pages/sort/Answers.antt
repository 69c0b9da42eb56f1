use Rattle.std.proofs.Common.{rules}
use Rattle.std.specs.Cmp.{IsTotalOrder}
use Rattle.std.specs.Ordering.{is_lt}
use Rattle.std.proofs.lemmas.Cmp.{nat_cmp_total, on_total, then_total}
use Rattle.std.proofs.lemmas.Fn.{always_returns_same}
use Rattle.std.proofs.lemmas.List.MinMax.{ranks_by}
use Rattle.chord_map.proofs.MapLemmas.{pairs_total}
use Rattle.chord_node.specs.declared.pages.PlacedPair.{PlacedPair}
use Rattle.chord_node.specs.Pages.{placed_cmp}
use Rattle.chord_node.proofs.pages.sort.Goals as goal

placed_total : IsTotalOrder placed_cmp
placed_total = then_total (on_total (λ (p : PlacedPair). p.id.number) nat_cmp_total) (on_total (λ (p : PlacedPair). p.pair) pairs_total)

pub returns-clause-rises : goal.returns-clause-rises
returns-clause-rises c =
    c.sort_unstable_by.ensures.sorted (λ (x y : PlacedPair). is_lt (placed_cmp x y)) (ranks_by placed_total (λ (p : PlacedPair). p))
    (always_returns_same _ _ _ (λ a r g called. (search rules, search rules)))
