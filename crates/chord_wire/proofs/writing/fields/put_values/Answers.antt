use Rattle.std.proofs.lemmas.List.Elements.{All-from_recursion}
use Rattle.chord_map.specs.Checked.{IsValue}
use Rattle.chord_wire.proofs.writing.fields.put_values.Goals as goal

pub put_value-requires : goal.put_value-requires
put_value-requires c = rw c.value-item.is (All-from_recursion IsValue c.args.values.now c.requires.each c.loop-value.value-index _ c.loop-value-test.true)
