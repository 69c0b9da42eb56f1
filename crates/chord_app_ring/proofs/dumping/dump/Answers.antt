use Rattle.std.proofs.Common.{[], ◌++◌, ◌||◌, refl, subst, ap, ◌∙◌}
use Rattle.std.proofs.KnownBytes.{Appends-nil, Appends-trans}
use Rattle.chord_app_ring.specs.Dumping.{Turns, Starts, GoesOn, nothing_yet, with_page, notes_of, is_lost_in, count_line, counted_lines}
use Rattle.chord_app_ring.proofs.Counts.{counted_more}
use Rattle.chord_app_ring.proofs.Written.{line_written, unwritten_ends}
use Rattle.chord_app_ring.proofs.dumping.dump.Goals as goal

pub loop-page-init : goal.loop-page-init
loop-page-init g c =
    (nothing_yet, Starts, (Appends-nil (g.W.Write.contents c.args.writer.now), Appends-nil (g.E.Write.contents c.args.errors.now)), refl, refl)

pub returns-in_err-written : goal.returns-in_err-written
returns-in_err-written g c =
    let so_far = c.loop-page.invariant in
    unwritten_ends g.T.PageTeller.tells c.args.teller.now c.next_page.new.teller _ _ _ _ c.from_residual-in_err-written.result c.in_err-written.field-0.0
    c.in_err-written.ensures.fault c.from_residual-in_err-written.ensures.1 (record {
      after = c.loop-page.after;
      copy = so_far.0;
      before = c.loop-page.teller;
      followed = so_far.1;
      ended = (c.in_ok-page.page, c.in_ok-page.ensures.0);
    })

pub returns-in_err-write_line-in-None : goal.returns-in_err-write_line-in-None
returns-in_err-write_line-in-None g c =
    let so_far = c.loop-page.invariant in
    unwritten_ends g.T.PageTeller.tells c.args.teller.now c.next_page.new.teller _ _ _ _ c.from_residual-in_err-write_line-in-None.result c.in_err-write_line-in-None.field-0.0
    c.in_err-write_line-in-None.ensures.fault c.from_residual-in_err-write_line-in-None.ensures.1 (record {
      after = c.loop-page.after;
      copy = so_far.0;
      before = c.loop-page.teller;
      followed = so_far.1;
      ended = (c.in_ok-page.page, c.in_ok-page.ensures.0);
    })

pub loop-page-preserved : goal.loop-page-preserved
loop-page-preserved g c =
    let so_far = c.loop-page.invariant in
    let told = c.in_ok-page.ensures in
    let page = c.in_ok-page.page in
    let on = subst (Turns g.T.PageTeller.tells c.loop-page.after page) c.in-Some.is told.1 in (
      with_page c.loop-page.after page so_far.0,
      GoesOn c.loop-page.after so_far.0 page c.in-Some.next c.loop-page.teller c.next_page.new.teller so_far.1 told.0 on,
      (
        Appends-trans (g.W.Write.contents c.args.writer.now) (g.W.Write.contents c.loop-page.writer) (g.W.Write.contents c.write_page-written.new.writer) so_far.0.lines page.lines.items so_far.2.0 c.in_ok-written.ensures.written,
        Appends-trans (g.E.Write.contents c.args.errors.now) (g.E.Write.contents c.loop-page.errors) (g.E.Write.contents c.write_page-written.new.errors) so_far.0.notes (notes_of c.loop-page.after page) so_far.2.1 c.in_ok-written.ensures.noted,
      ),
      counted_more so_far.0.lines page.lines.items c.loop-page.pairs c.with_lines-pairs.result so_far.3 c.with_lines-pairs.ensures,
      c.with_state-is_lost.ensures ∙ ap (λ lost. lost || is_lost_in page.state) so_far.4,
    )

pub returns-in-None : goal.returns-in-None
returns-in-None g c =
    let so_far = c.loop-page.invariant in
    let told = c.in_ok-page.ensures in
    let page = c.in_ok-page.page in
    let copy = with_page c.loop-page.after page so_far.0 in
    let lines = Appends-trans (g.W.Write.contents c.args.writer.now) (g.W.Write.contents c.loop-page.writer) (g.W.Write.contents c.write_page-written.new.writer) so_far.0.lines page.lines.items so_far.2.0 c.in_ok-written.ensures.written in
    let counted = counted_more so_far.0.lines page.lines.items c.loop-page.pairs c.with_lines-pairs.result so_far.3 c.with_lines-pairs.ensures in
    let last = line_written c.count_line.result (g.W.Write.contents c.write_page-written.new.writer) (g.W.Write.contents c.write_line.new.writer) (count_line (counted_lines copy.lines))
    c.in_ok-write_line-in-None.ensures.written (rw (counted) at c.count_line.ensures) in
    record {
      after = c.loop-page.after;
      copy = so_far.0;
      before = c.loop-page.teller;
      followed = so_far.1;
      ended = record {
        page = page;
        shown = told.0;
        end = subst (Turns g.T.PageTeller.tells c.loop-page.after page) c.in-None.is told.1;
        lost = c.with_state-is_lost.ensures ∙ ap (λ lost. lost || is_lost_in page.state) so_far.4;
        written = Appends-trans (g.W.Write.contents c.args.writer.now) (g.W.Write.contents c.write_page-written.new.writer) (g.W.Write.contents c.write_line.new.writer) copy.lines (count_line (counted_lines copy.lines)) lines last;
        noted = Appends-trans (g.E.Write.contents c.args.errors.now) (g.E.Write.contents c.loop-page.errors) (g.E.Write.contents c.write_page-written.new.errors) so_far.0.notes (notes_of c.loop-page.after page) so_far.2.1 c.in_ok-written.ensures.noted;
      };
    }
