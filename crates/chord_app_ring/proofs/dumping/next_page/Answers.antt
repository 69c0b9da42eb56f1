use Rattle.std.proofs.Common.{◌≡◌, Some, refl, sym, ◌∙◌, ap, inr}
use Rattle.chord_app_ring.specs.declared.page.PageTurn.TheVariants as turn
use Rattle.chord_app_ring.specs.Pages.{turn_of}
use Rattle.chord_app_ring.specs.Dumping.{Begins, Again}
use Rattle.chord_app_ring.proofs.dumping.next_page.Goals as goal

pub loop-tries-init : goal.loop-tries-init
loop-tries-init g c = Begins

pub returns-in-None : goal.returns-in-None
returns-in-None g c =
    let told = rw c.request_behind.ensures at c.in-Ok.ensures in
    record {
      tries = c.loop-tries.tries;
      before = c.loop-tries.teller;
      waited = c.loop-tries.invariant;
      few = c.loop-tries-test.true;
      failed = inr (c.in-Ok.page, told, sym c.in-None.ensures, refl);
    }

pub loop-tries-preserved : goal.loop-tries-preserved
loop-tries-preserved g c =
    let told = rw c.request_behind.ensures at c.in-Ok.ensures in
    let under_way : turn_of c.args.after c.in-Ok.page ≡ Some turn.UnderWay = sym c.in-Some-UnderWay.ensures ∙ ap (λ t. Some t) c.in-Some-UnderWay.field-0-is in
    Again c.loop-tries.tries c.in-Ok.page c.loop-tries.teller c.page.new.self c.loop-tries.invariant told under_way
