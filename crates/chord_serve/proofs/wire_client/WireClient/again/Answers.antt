use Rattle.std.proofs.Common.{◌≡◌, ◌<◌, List, [], ◌∷◌, ◌++◌, length, ap, subst, ◌∙◌, sym, arith}
use Rattle.std.proofs.lemmas.List.{get_or_read}
use Rattle.std.proofs.lemmas.List.Elements.{All-same, All-push, All-get_or}
use Rattle.chord_wire.specs.declared.request.WireRequest.{WireRequest}
use Rattle.chord_wire.specs.Spelling.{IsWireRequest}
use Rattle.chord_wire.specs.Streams.{request_frame}
use Rattle.std.specs.Io.KnownBytes.{Appends}
use Rattle.chord_serve.specs.Writes.{WritesPrefix}
use Rattle.chord_serve.specs.InFlight.{place_of}
use Rattle.chord_serve.proofs.Windows.{All-remove, again_state}
use Rattle.chord_serve.proofs.wire_client.WireClient.again.Goals as goal

pub invariant_of-self-2 : goal.invariant_of-self-2
invariant_of-self-2 g c =
    let i = c.self.inside in
    let wire = c.remove-wire.result in
    let low : c.in-Some.place < length i.refused.items = omega (arith, c.in-Some.ensures.bound, ap length c.deref.ensures.value) in
    let there : IsWireRequest wire = subst IsWireRequest (sym c.remove-wire.ensures.value) (All-get_or IsWireRequest i.refused.items c.in-Some.place wire low c.self.invariant.refused) in
    record {
      window = c.self.invariant.window;
      awaited = All-same IsWireRequest _ _ c.push_reserved.ensures.items (All-push IsWireRequest _ _ (All-same IsWireRequest _ _ c.reserve.ensures.items c.self.invariant.awaited) there);
      refused = All-same IsWireRequest _ _ c.remove-wire.ensures.items (All-remove i.refused.items c.in-Some.place c.self.invariant.refused);
    }

pub returns : goal.returns
returns g c =
    let i = c.self.inside in
    let wire = c.remove-wire.result in
    let place = c.in-Some.place in
    let xs : List WireRequest = i.refused.items in
    let low : place < length xs = omega (arith, c.in-Some.ensures.bound, ap length c.deref.ensures.value) in
    let same : c.index.result.now ≡ wire = get_or_read xs place c.index.result.now low c.index.ensures wire ∙ sym c.remove-wire.ensures.value in
    let bytes = c.deref-2.ensures.value ∙ c.in-Ok.ensures ∙ ap request_frame same in (
      wire,
      again_state i.version i.window i.last i.awaited.items xs i.answers c.args.self.now c.args.number place wire _ _ c.self.view_is
          (c.in-Some.ensures.place ∙ ap (place_of c.args.number) c.deref.ensures.value) low c.remove-wire.ensures.value
          (c.push_reserved.ensures.items ∙ ap (λ (zs : List WireRequest). zs ++ wire ∷ []) c.reserve.ensures.items) c.remove-wire.ensures.items,
      subst (WritesPrefix (g.W.Write.contents c.args.writer.now) (g.W.Write.contents c.write_bytes.new.writer)) bytes c.in-Err.ensures,
    )

pub invariant_of-self-in-Ok-write_bytes : goal.invariant_of-self-in-Ok-write_bytes
invariant_of-self-in-Ok-write_bytes g c =
    let i = c.self.inside in
    let wire = c.remove-wire.result in
    let low : c.in-Some.place < length i.refused.items = omega (arith, c.in-Some.ensures.bound, ap length c.deref.ensures.value) in
    let there : IsWireRequest wire = subst IsWireRequest (sym c.remove-wire.ensures.value) (All-get_or IsWireRequest i.refused.items c.in-Some.place wire low c.self.invariant.refused) in
    record {
      window = c.self.invariant.window;
      awaited = All-same IsWireRequest _ _ c.push_reserved.ensures.items (All-push IsWireRequest _ _ (All-same IsWireRequest _ _ c.reserve.ensures.items c.self.invariant.awaited) there);
      refused = All-same IsWireRequest _ _ c.remove-wire.ensures.items (All-remove i.refused.items c.in-Some.place c.self.invariant.refused);
    }

pub returns-in-Ok-write_bytes : goal.returns-in-Ok-write_bytes
returns-in-Ok-write_bytes g c =
    let i = c.self.inside in
    let wire = c.remove-wire.result in
    let place = c.in-Some.place in
    let xs : List WireRequest = i.refused.items in
    let low : place < length xs = omega (arith, c.in-Some.ensures.bound, ap length c.deref.ensures.value) in
    let same : c.index.result.now ≡ wire = get_or_read xs place c.index.result.now low c.index.ensures wire ∙ sym c.remove-wire.ensures.value in
    let bytes = c.deref-2.ensures.value ∙ c.in-Ok.ensures ∙ ap request_frame same in (
      wire,
      again_state i.version i.window i.last i.awaited.items xs i.answers c.args.self.now c.args.number place wire _ _ c.self.view_is
          (c.in-Some.ensures.place ∙ ap (place_of c.args.number) c.deref.ensures.value) low c.remove-wire.ensures.value
          (c.push_reserved.ensures.items ∙ ap (λ (zs : List WireRequest). zs ++ wire ∷ []) c.reserve.ensures.items) c.remove-wire.ensures.items,
      subst (Appends (g.W.Write.contents c.args.writer.now) (g.W.Write.contents c.write_bytes.new.writer)) bytes c.in-Ok-write_bytes.ensures,
    )
