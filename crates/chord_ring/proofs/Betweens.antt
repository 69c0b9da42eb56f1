-- The test of IsBetween, by which links are put.
use Rattle.std.proofs.Common.{◌≡◌, sym, Bool}
use Rattle.std.specs.Prelude.{◌↔◌, IsTrue}
use Rattle.chord_ident.specs.declared.id.Id.{Id}
use Rattle.chord_ident.specs.Circle.{IsBetween}
use Rattle.chord_ident.proofs.Spans.{cuts_is}
use Rattle.chord_ring.specs.Steps.{is_between}

pub cuts_by_between : (after x upto : Id) (b : Bool) → (IsTrue b ↔ IsBetween after.number x.number upto.number) → is_between after x upto ≡ b
cuts_by_between after x upto b h = sym (cuts_is (record { after = after; upto = upto }) x b h)
