use Rattle.std.proofs.Common.{◌≡◌, ◌∙◌, ap, sym, subst, refl, List, ℕ}
use Rattle.std.proofs.lemmas.Bool.{true≢false}
use Rattle.chord_map.specs.declared.request.Request.TheVariants.{Retrieve}
use Rattle.chord_map.specs.declared.reply.Reply.TheVariants.{Values}
use Rattle.std.proofs.lemmas.Result.{err_from_is_err_and}
use Rattle.chord_map.specs.Checked.{takes_memory}
use Rattle.chord_map.specs.Map.{values_at}
use Rattle.chord_map.specs.Copies.{AreFew}
use Rattle.chord_map.proofs.Replies.{applied, due_values, many_take}
use Rattle.chord_map.proofs.plain_map.retrieve.Goals as goal

pub returns : goal.returns
returns c =
    let key = c.args.key.now in
    let ps = c.args.pairs.now in
    let found : c.in_ok-share.field-0 ≡ values_at key ps = c.in_ok-share.ensures.same ∙ c.in_ok-values.ensures.copy ∙ ap (λ (k : List ℕ). values_at k ps) c.as_slice.ensures in
    let same : Values (values_at key ps) ≡ Values c.in_ok-share.field-0 = ap Values (sym found) in
    applied (Retrieve key) (Values c.in_ok-share.field-0) ps ps (due_values key ps ∙ same) refl

pub returns-in_err-values : goal.returns-in_err-values
returns-in_err-values c =
    let key = c.args.key.now in
    let ps = c.args.pairs.now in
    let p = err_from_is_err_and c.from_residual.result c.from_residual.ensures.1 in
    let here = ap (λ (k : List ℕ). values_at k ps) c.as_slice.ensures in
    let many : ¬ AreFew (values_at key ps) = λ few. true≢false (sym (c.in_err-values.ensures.few (subst AreFew (sym here) few))) in
    rw p.1 (ap takes_memory (due_values key ps) ∙ many_take (values_at key ps) many, refl)

pub returns-in_err-share : goal.returns-in_err-share
returns-in_err-share c =
    let key = c.args.key.now in
    let ps = c.args.pairs.now in
    let p = err_from_is_err_and c.from_residual-in_err-share.result c.from_residual-in_err-share.ensures.1 in
    let found : c.in_ok-values.values ≡ values_at key ps = c.in_ok-values.ensures.copy ∙ ap (λ (k : List ℕ). values_at k ps) c.as_slice.ensures in
    let many : ¬ AreFew (values_at key ps) = λ few. true≢false (sym (c.in_err-share.ensures.few (subst AreFew (sym found) few))) in
    rw p.1 (ap takes_memory (due_values key ps) ∙ many_take (values_at key ps) many, refl)
