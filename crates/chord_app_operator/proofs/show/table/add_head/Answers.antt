use Rattle.std.proofs.Common.{string_bytes}
use Rattle.chord_app_operator.specs.Lines.{server_line, premise_line}
use Rattle.chord_app_operator.proofs.Lines.{two_behind}
use Rattle.chord_app_operator.proofs.show.table.add_head.Goals as goal

pub returns : goal.returns
returns c =
    two_behind (server_line c.args.ring.now) (premise_line c.args.ring.now.premise) c.add_premise.result
    (string_bytes c.args.text.now) (string_bytes c.add_server.new.text) (string_bytes c.add_premise.new.text)
    c.in_ok-add_server.ensures c.add_premise.ensures
