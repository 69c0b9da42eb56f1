use Rattle.std.proofs.Common.{◌<◌, sym, subst}
use Rattle.chord_table.proofs.Keeping.{attend_as}
use Rattle.chord_table.specs.Views.{TableId}
use Rattle.chord_table.proofs.witness.Witness.open.Goals as goal

pub load_new_seat-seat-requires : goal.load_new_seat-seat-requires
load_new_seat-seat-requires g c =
    let named = c.args.table.now.named in (
      subst (λ (t : TableId). 0 < t.words) (sym named) c.args.table.now.some,
      attend_as _ _,
    )
