use Rattle.std.proofs.Common.{◌≡◌, Some, List, sym, ap, ◌∙◌, subst}
use Rattle.std.specs.Prelude.{position}
use Rattle.std.proofs.lemmas.Option.{slice_get-get_or}
use Rattle.chord_handover.specs.Handover.{Item, is_item, item_at}
use Rattle.chord_handover.specs.Outbox.{IsOutbox, Outbox, RoomyOutbox, with_none, payload_of}
use Rattle.chord_handover.proofs.Sending.{removed_is, absent_is, left_keeps}
use Rattle.chord_handover.proofs.outbox.Outbox.got.Goals as goal

pub returns-in_err-place-clause-item : goal.returns-in_err-place-clause-item
returns-in_err-place-clause-item c =
    let known = ap (λ (outbox : RoomyOutbox). outbox.outbox) c.self.view_is in
    let absent = absent_is c.args.to c.args.number c.self.inside.items.items (c.in_err-place.ensures ∙ ap (position (is_item c.args.to c.args.number)) c.deref.ensures.value) in
    c.from_residual.ensures ∙ sym (ap payload_of (ap (λ (outbox : Outbox). item_at c.args.to c.args.number outbox.items) (sym known) ∙ absent.0))

pub returns-in_err-place-clause-left : goal.returns-in_err-place-clause-left
returns-in_err-place-clause-left c =
    let known = ap (λ (outbox : RoomyOutbox). outbox.outbox) c.self.view_is in
    let absent = absent_is c.args.to c.args.number c.self.inside.items.items (c.in_err-place.ensures ∙ ap (position (is_item c.args.to c.args.number)) c.deref.ensures.value) in
    subst (λ (outbox : Outbox). outbox ≡ with_none c.args.to c.args.number outbox) known
    (ap (λ (items : List Item). record { owner = c.self.inside.owner; given = c.self.inside.given.items; items = items }) (sym absent.1))

pub invariant_of-self : goal.invariant_of-self
invariant_of-self c =
    let removed = removed_is c.args.to c.args.number c.self.inside.items.items c.in_ok-place.place (c.in_ok-place.ensures ∙ ap (position (is_item c.args.to c.args.number)) c.deref.ensures.value) c.self.invariant.apart in
    subst (λ (items : List Item). IsOutbox c.self.inside.given.items items) (sym (c.remove-item.ensures.items ∙ removed.2))
    (left_keeps c.self.inside.given.items c.self.inside.items.items c.args.to c.args.number c.self.invariant)

pub returns-clause-item : goal.returns-clause-item
returns-clause-item c =
    let known = ap (λ (outbox : RoomyOutbox). outbox.outbox) c.self.view_is in
    let items = c.self.inside.items.items in
    let removed = removed_is c.args.to c.args.number items c.in_ok-place.place (c.in_ok-place.ensures ∙ ap (position (is_item c.args.to c.args.number)) c.deref.ensures.value) c.self.invariant.apart in
    let there = removed.1 ∙ slice_get-get_or items c.in_ok-place.place c.remove-item.result removed.0 ∙ ap Some (sym c.remove-item.ensures.value) in
    ap (λ (item : Item). payload_of (Some item)) c.item.view_is
    ∙ sym (ap payload_of (ap (λ (outbox : Outbox). item_at c.args.to c.args.number outbox.items) (sym known) ∙ there))

pub returns-clause-left : goal.returns-clause-left
returns-clause-left c =
    let known = ap (λ (outbox : RoomyOutbox). outbox.outbox) c.self.view_is in
    let removed = removed_is c.args.to c.args.number c.self.inside.items.items c.in_ok-place.place (c.in_ok-place.ensures ∙ ap (position (is_item c.args.to c.args.number)) c.deref.ensures.value) c.self.invariant.apart in
    ap (λ (items : List Item). record { owner = c.self.inside.owner; given = c.self.inside.given.items; items = items }) (c.remove-item.ensures.items ∙ removed.2)
    ∙ ap (with_none c.args.to c.args.number) known
