use Rattle.std.proofs.Common.{List, ap, length, sym, ◌∙◌}
use Rattle.std.proofs.lemmas.List.{length-map}
use Rattle.chord_caller.specs.Caller.{Caller}
use Rattle.chord_table.specs.Views.{CallerSight}
use Rattle.chord_app_serve.proofs.serving.server.conclude.Goals as goal

-- the callers that were taken in are those that came back
pub returns-then-closed : goal.returns-then-closed
returns-then-closed g c =
    let closed = c.close_with-closed in
    let back = c.args.callers in
    let as_many = length-map back.items (λ (sight : CallerSight). sight.caller) in (
      closed.result.seats,
      closed.ensures.whole c.if-closed.true,
      closed.ensures.counted c.if-closed.true,
      ap (λ (callers : List Caller). length callers) closed.ensures.callers
          ∙ (as_many ∙ (sym back.ok.0 ∙ sym c.len-count.ensures)),
    )
