-- Payloads that are put into a store.
use Rattle.std.proofs.Common.{◌≡◌, ℕ, ◌+◌, ◌<◌, ◌≤◌, Ok, Err, List, length, ◌∙◌, ap, subst}
use Rattle.chord_handover.specs.Payload.{Payload}
use Rattle.chord_ident.specs.declared.span.Span.{Span}
use Rattle.chord_map.specs.declared.pair.Pair.{Pair}
use Rattle.chord_map.specs.Map.{put_all}
use Rattle.chord_node.specs.declared.handovers.hold.PutFault.TheVariants as put
use Rattle.chord_model.specs.Stock.{IsClear}
use Rattle.chord_node.specs.Received.{PutIs}
use Rattle.chord_segment.specs.Segment.{Segment}
use Rattle.chord_store.specs.declared.outcome.StoreFault.TheVariants.{Full, Memory}
use Rattle.chord_store.specs.Store.{PutAllIs}

module _ (payload : Payload) (span : Span) (pairs : List Pair) (held : List Segment) (old new : List Pair) (limit : ℕ) (at : span ≡ payload.segment.span) (is : pairs ≡ payload.pairs) (clear : IsClear span held) where
  pub put_ok : PutAllIs {A = Unit {0}} pairs old limit (Ok (tt {0})) new → PutIs payload held old limit (Ok (tt {0})) new
  put_ok h = (
    subst (λ (s : Span). IsClear s held) at clear,
    subst (λ (ps : List Pair). length old + length ps ≤ limit) is h.0,
    h.1 ∙ ap (λ (ps : List Pair). put_all ps old) is,
  )

  pub put_full : PutAllIs {A = Unit {0}} pairs old limit (Err Full) new → PutIs payload held old limit (Err put.Full) new
  put_full h = (subst (λ (s : Span). IsClear s held) at clear, subst (λ (ps : List Pair). limit < length old + length ps) is h.0, h.1)

  pub put_memory : PutAllIs {A = Unit {0}} pairs old limit (Err Memory) new → PutIs payload held old limit (Err put.Memory) new
  put_memory h = (subst (λ (s : Span). IsClear s held) at clear, subst (λ (ps : List Pair). length old + length ps ≤ limit) is h.0, h.1)
