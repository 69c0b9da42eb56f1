use Rattle.std.proofs.Common.{◌≡◌, ◌+◌, ◌^◌, ◌<◌, false, ap, ◌∙◌, sym, subst}
use Rattle.chord_serve.specs.ClientState.{ClientState}
use Rattle.chord_serve.specs.InFlight.{floor_of, is_full}
use Rattle.chord_serve.proofs.Windows.{next_has_frame, with_floor, state}
use Rattle.chord_serve.proofs.wire_client.WireClient.next.Goals as goal

pub returns-clause-frame : goal.returns-clause-frame
returns-clause-frame c =
    let i = c.self.inside in
    let s : ClientState = state i.version i.window i.last i.awaited.items i.refused.items i.answers in
    let view : s ≡ c.args.self.now = c.self.view_is in
    let room = subst (λ (d : ClientState). is_full d ≡ false) (sym view) c.requires.room in
    let small = subst (λ (d : ClientState). d.last + 1 < 2 ^ 64) (sym view) c.requires.number in
    let floor : c.floor.result ≡ floor_of s = c.floor.ensures ∙ ap floor_of (sym view) in
    with_floor _ _ _ _ _ (sym floor) (next_has_frame s c.args.request c.self.invariant c.requires.limits room small)
