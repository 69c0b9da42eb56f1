use Rattle.std.proofs.Common.{◌≡◌, ℕ, false, List, refl}
use Rattle.chord_map.specs.declared.pair.Pair.{Pair}
use Rattle.chord_caller.specs.declared.ask.Ask.{Ask}
use Rattle.chord_segment.specs.Segment.{Past}
use Rattle.chord_segment.specs.Segment.Past.{New}
use Rattle.chord_node.specs.Asked.{TakesMemory, is_full_for, past_answer}
use Rattle.chord_node.proofs.Applying.{values_stay}
use Rattle.chord_node.proofs.asks.execute.execute_ready.Goals as goal

-- a new call that the store has room for gets a reply
told_new : (past : Past) (ask : Ask) (pairs : List Pair) (limit : ℕ) → past ≡ New → is_full_for ask.request pairs limit ≡ false → TakesMemory (past_answer past ask pairs limit)
told_new past ask pairs limit e f = rw (e, f) tt

pub returns-in_default-clause-answers : goal.returns-in_default-clause-answers
returns-in_default-clause-answers g c =
    let applied = c.in-Ok.ensures.applied in (
      told_new _ c.args.ask (g.S.EntryStore.content c.args.store.now) (g.S.EntryStore.limit c.args.store.now) c.requires.new applied.1,
      refl,
      values_stay c.args.ask.request c.in-Ok.reply _ _ c.in_default.ensures.memory applied.0 applied.2,
    )
