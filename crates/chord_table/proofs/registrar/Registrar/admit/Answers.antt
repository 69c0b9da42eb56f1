use Rattle.std.proofs.Common.{◌<◌, sym, ◌∙◌, ap, subst, []}
use Rattle.chord_table.proofs.Keeping.{some_words, admit_as}
use Rattle.chord_table.specs.Views.{TableId, view_of_assembled}
use Rattle.chord_table.proofs.registrar.Registrar.admit.Goals as goal

pub split_seat-seat-requires : goal.split_seat-seat-requires
split_seat-seat-requires g c =
    let i = c.self.invariant in
    let named = c.args.table.now.named in (
      i.0 ∙ sym named,
      subst (λ (t : TableId). 0 < t.words) (sym named) (some_words c.requires.word),
      admit_as _ _ _ c.args.self.now (i.1 ∙ ap (λ a. (view_of_assembled a, [])) c.self.view_is) c.requires.may,
    )
