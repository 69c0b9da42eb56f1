use Rattle.std.proofs.Common.{refl, subst}
use Rattle.std.specs.Prelude.{IsSome}
use Rattle.std.proofs.lemmas.List.Elements.{All-push}
use Rattle.std.proofs.lemmas.Result.{err_from_is_err_and}
use Rattle.toml.specs.Data.{as_table}
use Rattle.toml.specs.View.{view}
use Rattle.chord_app_plan.specs.Plan.{AskIs, IsAskOf, members_of}
use Rattle.chord_app_plan.proofs.Tables.{tables_more, listed_at, one_of}
use Rattle.chord_app_plan.proofs.plan.read_asks.Goals as goal

pub loop-number-preserved : goal.loop-number-preserved
loop-number-preserved c = record {
  within = rw c.in_ok-push.ensures.items (All-push (IsAskOf c.args.callers c.args.nodes) c.loop-number.asks.items c.in_ok-read.field-0 c.loop-number.invariant.within c.in_ok-read.ensures.limits);
  each = rw c.in_ok-push.ensures.items (tables_more AskIs c.in_ok-tables.tables.now c.loop-number.number c.index-tables-number.result (members_of c.in-Some.table) c.loop-number.asks.items c.in_ok-read.field-0 c.loop-number-test.true c.index-tables-number.is c.in-Some.ensures.table c.in_ok-read.ensures.value c.loop-number.invariant.each);
}

pub returns-in_default-clause-accepts : goal.returns-in_default-clause-accepts
returns-in_default-clause-accepts c = λ asks all limits.
    let h = listed_at AskIs _ (members_of c.args.top.now) c.in_ok-tables.tables.now asks c.loop-number.number c.index-tables-number.result c.in_ok-tables.ensures.value all c.loop-number-test.true c.index-tables-number.is in
    let table : IsSome (as_table (view c.index-tables-number.result)) = rw h.table refl in
    let wrong = c.in_default.ensures.accepts table in
    absurd cc

pub returns-in_err-read-clause-accepts : goal.returns-in_err-read-clause-accepts
returns-in_err-read-clause-accepts c = λ asks all limits.
    let h = listed_at AskIs _ (members_of c.args.top.now) c.in_ok-tables.tables.now asks c.loop-number.number c.index-tables-number.result c.in_ok-tables.ensures.value all c.loop-number-test.true c.index-tables-number.is in
    let within : IsAskOf c.args.callers c.args.nodes h.one = subst (IsAskOf c.args.callers c.args.nodes) (h.at h.one) (limits c.loop-number.number h.one h.within) in
    let p = err_from_is_err_and c.from_residual-in_err-read.result c.from_residual-in_err-read.ensures.1 in
    rw (p.1, p.2) (c.in_err-read.ensures.accepts h.one (one_of AskIs c.index-tables-number.result asks c.loop-number.number (members_of c.in-Some.table) h c.in-Some.ensures.table) within)
