use Rattle.std.proofs.Common.{ℕ, Option, subst}
use Rattle.std.specs.Prelude.{IfSome}
use Rattle.chord_ident.specs.declared.id.Id.{Id}
use Rattle.chord_live_ring.specs.Sights.{IsPageShown}
use Rattle.chord_node.specs.declared.pages.PairsPage.{PairsPage as NodePage}
use Rattle.chord_app_serve.specs.ReadPairs.{first_of, IsReadAt}
use Rattle.chord_app_serve.proofs.serving.operator.RingOperator.held_page.Goals as goal

pub returns-in-Some-2 : goal.returns-in-Some-2
returns-in-Some-2 g c =
    let read : IsReadAt c.first_of-first.result c.max-limit.result c.in_ok-shown.shown = record {
      number = c.in-Some.number;
      page = c.in-Some-2.page;
      told = subst (λ (found : Option NodePage). IfSome found (IsPageShown c.in-Some.number c.first_of-first.result c.max-limit.result)) c.in-Some-2.is c.in_ok-page.ensures.shown;
      shows = c.in_ok-shown.ensures;
    } in
    let at : IsReadAt (first_of c.args.request) c.max-limit.result c.in_ok-shown.shown = subst (λ (first : Id). IsReadAt first c.max-limit.result c.in_ok-shown.shown) c.first_of-first.ensures read in
    subst (λ (limit : ℕ). IsReadAt (first_of c.args.request) limit c.in_ok-shown.shown) c.max-limit.ensures at
