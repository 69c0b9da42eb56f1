use Rattle.std.proofs.Common.{string_bytes, codes}
use Rattle.chord_app_operator.specs.Lines.{server_line}
use Rattle.chord_app_operator.proofs.Lines.{two_behind}
use Rattle.chord_app_operator.proofs.show.table.add_server.Goals as goal

pub returns : goal.returns
unfolding server_line
returns c =
    two_behind (codes "up ") _ c.add_all_told.result (string_bytes c.args.text.now) (string_bytes c.push_str.new.self) (string_bytes c.add_all_told.new.text)
    c.in_ok-push_str.ensures.bytes (rw (c.nodes_of.ensures, c.gone.ensures) at c.add_all_told.ensures)
