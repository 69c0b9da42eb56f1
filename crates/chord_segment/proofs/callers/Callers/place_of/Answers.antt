use Rattle.std.proofs.Common.{◌≡◌, List, IfOk, IfErr, rules, subst, sym, ◌∙◌}
use Rattle.std.proofs.lemmas.Fn.{always_returns_same}
use Rattle.chord_segment.specs.Callers.{OfCaller, IsGrouped, IsOwnAt, IsGapAt}
use Rattle.chord_segment.proofs.Placing.{searched}
use Rattle.chord_segment.proofs.callers.Callers.place_of.Goals as goal

pub returns : goal.returns
returns c =
    let facts = c.binary_search_by_key.ensures in
    let e : c.deref.result.now ≡ c.args.self.now = c.deref.ensures.value ∙ c.self.view_is in
    let grouped : IsGrouped c.deref.result.now = subst IsGrouped (sym c.deref.ensures.value) c.self.invariant in
    let place = searched c.deref.result.now grouped c.args.caller c.binary_search_by_key.result facts.bound
    (facts.position (λ (own : OfCaller). own.caller) (always_returns_same _ _ _ (λ a r g called. (search rules, search rules)))) in
    record {
      found = subst (λ (xs : List OfCaller). IfOk c.binary_search_by_key.result (λ at. IsOwnAt c.args.caller xs at)) e place.found;
      absent = subst (λ (xs : List OfCaller). IfErr c.binary_search_by_key.result (λ at. IsGapAt c.args.caller xs at)) e place.absent;
    }
