use Rattle.std.proofs.Common.{◌≡◌, ℕ, length, codes, Some, sym, ap, subst, ◌∙◌, arith}
use Rattle.std.specs.List.{All}
use Rattle.std.proofs.lemmas.Result.{err_from_is_err_and}
use Rattle.toml.specs.Data.{Members}
use Rattle.chord_app_plan.specs.Plan.{AreListed, AskIs, IsAskOf, NodeIs, SettingsAre, SpareIs, members_of}
use Rattle.chord_app_plan.proofs.Counts.{same_count}
use Rattle.chord_app_plan.proofs.Tables.{listed_same, same_members}
use Rattle.chord_app_plan.proofs.plan.Plan.parse.Goals as goal

pub returns-in_err-asks-clause-accepts : goal.returns-in_err-asks-clause-accepts
returns-in_err-asks-clause-accepts c = λ plan is keeps short.
    let top = members_of c.new-top.result in
    let same : is.members ≡ top = same_members is.members top (sym is.parsed ∙ c.in-Ok.ensures.ok.1 ∙ ap (λ (m : Members). Some m) (sym c.new-top.ensures)) in
    let settings : SettingsAre top plan.settings = subst (λ (m : Members). SettingsAre m plan.settings) same is.settings in
    let callers : plan.settings.callers ≡ c.in_ok-settings.settings.callers = same_count plan.settings.callers c.in_ok-settings.settings.callers (sym settings.callers ∙ c.in_ok-settings.ensures.value.callers) in
    let count : length c.in_ok-nodes.nodes.items ≡ c.len.result = omega (arith, c.in_ok-nodes.nodes.ok, c.len.ensures) in
    let nodes : length plan.nodes.items ≡ c.len.result =
    listed_same NodeIs (codes "node") top plan.nodes.items c.in_ok-nodes.nodes.items (subst (λ (m : Members). AreListed NodeIs (codes "node") m plan.nodes.items) same is.nodes) c.in_ok-nodes.ensures.value ∙ count in
    let asks = subst (λ (m : Members). AreListed AskIs (codes "ask") m plan.asks.items) same is.asks in
    let limits : All (IsAskOf c.in_ok-settings.settings.callers c.len.result) plan.asks.items =
    subst (λ (n : ℕ). All (IsAskOf c.in_ok-settings.settings.callers n) plan.asks.items) nodes (subst (λ (n : ℕ). All (IsAskOf n (length plan.nodes.items)) plan.asks.items) callers keeps.asks) in
    let p = err_from_is_err_and c.from_residual-in_err-asks.result c.from_residual-in_err-asks.ensures.1 in
    rw (p.1, p.2) (c.in_err-asks.ensures.accepts plan.asks.items asks limits)

pub returns-in_err-spare-clause-accepts : goal.returns-in_err-spare-clause-accepts
returns-in_err-spare-clause-accepts c = λ plan is keeps short.
    let top = members_of c.new-top.result in
    let same : is.members ≡ top = same_members is.members top (sym is.parsed ∙ c.in-Ok.ensures.ok.1 ∙ ap (λ (m : Members). Some m) (sym c.new-top.ensures)) in
    let spare : SpareIs top plan.spare = subst (λ (m : Members). SpareIs m plan.spare) same is.spare in
    let p = err_from_is_err_and c.from_residual-in_err-spare.result c.from_residual-in_err-spare.ensures.1 in
    rw (p.1, p.2) (c.in_err-spare.ensures.accepts plan.spare spare)
