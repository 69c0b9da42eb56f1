use Rattle.std.proofs.Common.{◌≢◌, sym, ◌∙◌, arith}
use Rattle.chord_ident.specs.Circle.{distance}
use Rattle.chord_app_operator.proofs.Circles.{walk_all, walk_some}
use Rattle.chord_app_operator.proofs.show.share.Stretch.with.Goals.{in_default-via-in-Some+else-distance-ne0, in_default-via-in_default}
use Rattle.chord_app_operator.proofs.show.share.Stretch.with.Goals as goal

pub returns-in-Some-clause-length : goal.returns-in-Some-clause-length
returns-in-Some-clause-length c =
    let is = c.distance-distance.ensures in
    let long = walk_some c.args.span.after.number c.args.span.upto.number (λ none. c.if-distance-ne0.true (is ∙ none)) in
    omega (arith, is, long, c.in-Some.ensures)

pub returns-in_default-clause-length : goal.returns-in_default-clause-length
returns-in_default-clause-length c = elim c.in_default.branch [
  | in_default-via-in-Some+else-distance-ne0 w ↦
      let is = c.distance-distance.ensures in
      let none = w.if-distance-ne0.false in
      let long = walk_all c.args.span.after.number c.args.span.upto.number (sym is ∙ none) in
      grind (arith, is, none, long, w.in-Some.ensures, w.in-Some.is, c.checked_add.ensures)
  | in_default-via-in_default w ↦
      let is = c.distance-distance.ensures in
      let over = w.in_default.ensures in
      let some : distance c.args.span.after.number c.args.span.upto.number ≢ 0 = omega (arith, is, over, c.well_formed) in
      let long = walk_some c.args.span.after.number c.args.span.upto.number some in
      omega (arith, is, long, over, c.distance-distance.type_inv, c.well_formed)
]
