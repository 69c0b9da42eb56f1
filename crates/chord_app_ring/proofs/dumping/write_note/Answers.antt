use Rattle.chord_app_ring.specs.Pages.{first_behind}
use Rattle.chord_app_ring.specs.Dumping.{lost_line, last_of}
use Rattle.chord_app_ring.proofs.Written.{line_on_ok}
use Rattle.chord_app_ring.proofs.dumping.write_note.Goals as goal

pub returns-in-Lost-clause-written : goal.returns-in-Lost-clause-written
returns-in-Lost-clause-written g c =
    rw (c.in-Lost.is) (line_on_ok c.write_line.result c.lost_line-line.result (g.E.Write.contents c.args.errors.now) (g.E.Write.contents c.write_line.new.writer)
    (lost_line (first_behind c.args.after) (last_of c.args.page.now.next)) c.write_line.ensures.written
    (rw (c.first_behind.ensures, c.last_of.ensures) at c.lost_line-line.ensures))
