use Rattle.std.proofs.Common.{◌≡◌, ◌∙◌, ◌<◌, ◌^◌, ap, length, List, arith}
use Rattle.chord_ident.specs.declared.span.Span.{Span}
use Rattle.chord_map.specs.declared.pair.Pair.{Pair}
use Rattle.chord_store.specs.Inside.{pairs_inside}
use Rattle.chord_store.proofs.Puts.{inside_whole, length-values_le}
use Rattle.chord_state_tests.proofs.store.put_list.Goals as goal

pub put_all-requires-clause-vacant : goal.put_all-requires-clause-vacant
unfolding pairs_inside
put_all-requires-clause-vacant g c = ap (λ (ps : List Pair). pairs_inside c.new-circle.result ps) c.requires

pub put_all-requires-clause-within : goal.put_all-requires-clause-within
put_all-requires-clause-within g c =
    let pairs = c.as_slice.result.now in
    let small : c.new-id.result.number < 2 ^ 128 = omega arith in
    ap (λ (span : Span). pairs_inside span pairs) c.new-circle.ensures ∙ inside_whole c.new-id.result pairs small

pub put_all-requires-clause-few : goal.put_all-requires-clause-few
put_all-requires-clause-few g c = λ key.
    let pairs = c.as_slice.result.now in
    let count : c.len.result ≡ length pairs = omega (arith, ap length c.as_slice.ensures.pairs, c.len.ensures.count) in
    omega (arith, length-values_le key pairs, count, c.if-len-gt1000.false)
