use Rattle.std.proofs.Common.{◌≡◌, Some, refl, sym, ap, ◌∙◌, subst}
use Rattle.std.specs.Prelude.{position}
use Rattle.std.specs.Option.{option_copied}
use Rattle.chord_node.specs.View.{entries_in}
use Rattle.chord_node.proofs.Asking.{has, place_from}
use Rattle.chord_node.proofs.Paging.{held_elsewhere, held_here, some_none, told_here}
use Rattle.chord_node.proofs.node.Node.pairs_from.Goals as goal

pub returns-in_default-clause-page : goal.returns-in_default-clause-page
returns-in_default-clause-page g c =
    let at = c.place_with.ensures ∙ ap (position (has c.args.first.number)) c.deref.ensures.value in
    held_elsewhere c.args.first.number _ _ c.self.view_is c.self.inside.held.items refl (sym at ∙ c.in_default.is)

pub returns-in_err-page-clause-other : goal.returns-in_err-page-clause-other
returns-in_err-page-clause-other g c = λ none.
    let held = c.self.inside.held.items in
    let at = c.place_with.ensures ∙ ap (position (has c.args.first.number)) c.deref.ensures.value in
    let place = place_from c.args.first.number held c.in-Some.place c.index.result.now (sym c.in-Some.is ∙ at) in
    some_none c.index.result.now.segment _ (held_here c.args.first.number _ _ c.self.view_is held _ _ refl place c.index.ensures) none

pub returns-clause-page : goal.returns-clause-page
returns-clause-page g c =
    let held = c.self.inside.held.items in
    let at = c.place_with.ensures ∙ ap (position (has c.args.first.number)) c.deref.ensures.value in
    let place = place_from c.args.first.number held c.in-Some.place c.index.result.now (sym c.in-Some.is ∙ at) in
    let store : Some c.unwrap-store.result.now ≡ c.self.inside.store = subst (λ o. option_copied o ≡ c.self.inside.store) c.unwrap-store.ensures c.as_ref.ensures.value in
    told_here c.args.first c.args.limit _ _ c.self.view_is held c.in-Some.place c.index.result.now c.span.result c.rest_from-span.result (g.S.EntryStore.content c.unwrap-store.result.now) c.in_ok-page.page
    refl place c.index.ensures c.span.ensures.value c.rest_from-span.ensures (ap (entries_in g.S.EntryStore.content) store) c.in_ok-page.ensures

pub returns-clause-other : goal.returns-clause-other
returns-clause-other g c = λ none.
    let held = c.self.inside.held.items in
    let at = c.place_with.ensures ∙ ap (position (has c.args.first.number)) c.deref.ensures.value in
    let place = place_from c.args.first.number held c.in-Some.place c.index.result.now (sym c.in-Some.is ∙ at) in
    some_none c.index.result.now.segment _ (held_here c.args.first.number _ _ c.self.view_is held _ _ refl place c.index.ensures) none
