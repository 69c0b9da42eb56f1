use Rattle.std.proofs.Common.{length, refl, sym, ◌∙◌, arith}
use Rattle.std.specs.Prelude.{IsSome}
use Rattle.std.proofs.lemmas.Bool.{eqb-true}
use Rattle.std.proofs.lemmas.Result.{err_from_is_err_and}
use Rattle.toml.specs.Data.{as_table}
use Rattle.toml.specs.View.{view}
use Rattle.chord_app_plan.specs.Plan.{NodeIs, members_of}
use Rattle.chord_app_plan.proofs.Tables.{tables_more, listed_at, listed_length, one_of}
use Rattle.chord_app_plan.proofs.plan.read_nodes.Goals as goal
use Rattle.chord_app_plan.proofs.plan.read_nodes.Goals.{then-is_empty-via-then-is_empty, then-is_empty-via-else-is_empty+then-slots-tables}

pub loop-number-preserved : goal.loop-number-preserved
loop-number-preserved c = record {
  count = omega (arith, c.in_ok-push.ensures.len, c.loop-number.invariant.count);
  each = rw c.in_ok-push.ensures.items (tables_more NodeIs c.in_ok-tables.tables.now c.loop-number.number c.index-tables-number.result (members_of c.in-Some.table) c.loop-number.nodes.items c.in_ok-read.field-0 c.loop-number-test.true c.index-tables-number.is c.in-Some.ensures.table c.in_ok-read.ensures.value c.loop-number.invariant.each);
}

pub returns-then-is_empty-clause-accepts : goal.returns-then-is_empty-clause-accepts
returns-then-is_empty-clause-accepts c = λ nodes all some few.
    let same = listed_length NodeIs _ (members_of c.args.top.now) c.in_ok-tables.tables.now nodes c.in_ok-tables.ensures.value all in
    elim c.then-is_empty.branch [
      | then-is_empty-via-then-is_empty w ↦ let none = eqb-true (length c.in_ok-tables.tables.now) 0 (sym c.is_empty.ensures ∙ w.if-is_empty.true) in absurd (omega (arith, same, some, none))
      | then-is_empty-via-else-is_empty+then-slots-tables w ↦ absurd (omega (arith, same, few, w.if-slots-tables.true))
    ]

pub returns-in_default-clause-accepts : goal.returns-in_default-clause-accepts
returns-in_default-clause-accepts c = λ nodes all some few.
    let h = listed_at NodeIs _ (members_of c.args.top.now) c.in_ok-tables.tables.now nodes c.loop-number.number c.index-tables-number.result c.in_ok-tables.ensures.value all c.loop-number-test.true c.index-tables-number.is in
    let table : IsSome (as_table (view c.index-tables-number.result)) = rw h.table refl in
    let wrong = c.in_default.ensures.accepts table in
    absurd cc

pub returns-in_err-read-clause-accepts : goal.returns-in_err-read-clause-accepts
returns-in_err-read-clause-accepts c = λ nodes all some few.
    let h = listed_at NodeIs _ (members_of c.args.top.now) c.in_ok-tables.tables.now nodes c.loop-number.number c.index-tables-number.result c.in_ok-tables.ensures.value all c.loop-number-test.true c.index-tables-number.is in
    let p = err_from_is_err_and c.from_residual-in_err-read.result c.from_residual-in_err-read.ensures.1 in
    rw (p.1, p.2) (c.in_err-read.ensures.accepts h.one (one_of NodeIs c.index-tables-number.result nodes c.loop-number.number (members_of c.in-Some.table) h c.in-Some.ensures.table))
