use Rattle.std.proofs.Common.{rules, arith, inr}
use Rattle.chord_ident.proofs.Digest.{key_id-below}
use Rattle.chord_store.proofs.Cutting.{steps_some, within_le, within_none}
use Rattle.chord_store.proofs.cut.steps_to.Goals as goal

pub count_within-requires : goal.count_within-requires
count_within-requires g c = steps_some c.args.after.number c.args.most c.args.n (g.C.CountSpan.pairs c.args.counted.now) (search rules) c.requires.some c.requires.enough

pub returns-then-count_within-limit-clause-some : goal.returns-then-count_within-limit-clause-some
returns-then-count_within-limit-clause-some g c = steps_some c.args.after.number c.args.most c.args.n (g.C.CountSpan.pairs c.args.counted.now) (search rules) c.requires.some c.requires.enough

pub loop-high-init : goal.loop-high-init
loop-high-init g c =
    let none = within_none c.args.after.number (g.C.CountSpan.pairs c.args.counted.now) (search rules) (λ p. key_id-below p.key) in
    record {
      apart = steps_some c.args.after.number c.args.most c.args.n (g.C.CountSpan.pairs c.args.counted.now) (search rules) c.requires.some c.requires.enough;
      most = omega arith;
      few = omega (arith, none, c.requires.some);
      enough = c.requires.enough;
    }

pub returns-clause-short : goal.returns-clause-short
returns-clause-short g c = inr (λ fewer less.
    let inv = c.loop-high.invariant in
    let le = within_le c.args.after.number fewer c.loop-high.low (g.C.CountSpan.pairs c.args.counted.now) (omega (arith, less, inv.apart, c.loop-high-test.false)) in
    omega (arith, le, inv.few))
