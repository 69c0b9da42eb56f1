use Rattle.std.proofs.Common.{◌≡◌, ◌&&◌, ◌∷◌, ◌++◌, [], List, not, is_some, sym, ◌∙◌, ap}
use Rattle.chord_map.specs.declared.done.Done.{Done}
use Rattle.chord_map.specs.History.{done_at}
use Rattle.chord_caller.proofs.Naming.{name_left, more_unknown, no_more_unknown}
use Rattle.chord_caller.proofs.note.copy_unknown.Goals as goal
use Rattle.chord_caller.proofs.note.copy_unknown.Goals.{then-contains+in_ok-try_copy+in_ok-push, else-contains}

pub loop-done-preserved : goal.loop-done-preserved
loop-done-preserved c =
    let listed = c.args.mine.now ++ c.args.told.now in
    let d = c.done-item.result in
    let mine = not (is_some (done_at d.caller d.number c.args.mine.now)) in
    let told = not (is_some (done_at d.caller d.number c.args.told.now)) in
    let left : c.contains.result ≡ not (is_some (done_at d.caller d.number listed)) =
    c.contains.ensures
    ∙ name_left c.args.dones.now c.args.mine.now c.args.told.now c.loop-done.done-index d c.strike_out-2.new.names c.loop-done-test.true c.done-item.is
    (c.strike_out-2.ensures d.caller d.number ∙ ap (λ b. b && told) (c.strike_out.ensures d.caller d.number ∙ ap (λ b. b && mine) (c.in_ok-unknown.ensures d.caller d.number))) in
    elim c.if-contains.branch [
      | then-contains+in_ok-try_copy+in_ok-push w ↦
          ap (λ news. news.items) w.news-is ∙ w.in_ok-push.ensures.items ∙ ap (λ (done : Done). c.loop-done.news.items ++ done ∷ []) w.in_ok-try_copy.ensures.copy
          ∙ ap (λ (dones : List Done). dones ++ d ∷ []) c.loop-done.invariant
          ∙ sym (more_unknown listed c.args.dones.now c.loop-done.done-index d c.contains.result c.loop-done-test.true c.done-item.is left w.if-contains.true)
      | else-contains w ↦
          ap (λ news. news.items) w.news-is ∙ c.loop-done.invariant
          ∙ sym (no_more_unknown listed c.args.dones.now c.loop-done.done-index d c.contains.result c.loop-done-test.true c.done-item.is left w.if-contains.false)
    ]
