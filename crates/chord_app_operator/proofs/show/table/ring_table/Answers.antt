use Rattle.std.proofs.Common.{◌++◌, string_bytes, ap, ◌∙◌}
use Rattle.std.specs.List.{flat_map}
use Rattle.chord_app_operator.specs.Lines.{server_lines, columns, node_row, ring_table}
use Rattle.chord_app_operator.proofs.Lines.{three_texts}
use Rattle.chord_app_operator.proofs.show.table.ring_table.Goals as goal

pub returns : goal.returns
unfolding ring_table
returns c =
    let nodes = c.args.ring.now.nodes.items in
    three_texts (server_lines c.args.ring.now) columns (flat_map node_row nodes)
    (string_bytes c.new-text.result) (string_bytes c.add_head.new.text) (string_bytes c.push_str.new.self) (string_bytes c.add_rows.new.text)
    c.new-text.ensures.bytes
    c.in_ok-add_head.ensures
    c.in_ok-push_str.ensures.bytes
    (c.in_ok-add_rows.ensures ∙ ap (λ ns. string_bytes c.push_str.new.self ++ flat_map node_row ns) c.deref.ensures.value)
