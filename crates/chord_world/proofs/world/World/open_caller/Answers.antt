use Rattle.std.proofs.Common.{◌≡◌, length, arith, refl, sym, ◌∙◌}
use Rattle.chord_world.specs.View.{state_of}
use Rattle.chord_world.specs.State.{WorldState}
use Rattle.chord_world.proofs.Keeping.{opened_items, opened_at, opened_step}
use Rattle.chord_world.proofs.Acting.{keeps_same}
use Rattle.chord_world.proofs.Rooms.{of_ok}
use Rattle.chord_world.proofs.world.World.open_caller.Goals as goal

pub invariant_of-self-2 : goal.invariant_of-self-2
invariant_of-self-2 g c =
    let view : WorldState = state_of c.self.inside in
    let number : c.len-number.result ≡ length c.self.inside.callers.items = omega arith in
    opened_at c.args.window view _ (omega arith, omega arith) c.self.invariant (opened_items c.args.window c.len-number.result view _ _ c.new.result c.push_reserved.ensures.items c.reserve.ensures.items c.new.ensures number)

pub returns-clause-step : goal.returns-clause-step
returns-clause-step g c =
    let view : WorldState = state_of c.self.inside in
    let number : c.len-number.result ≡ length c.self.inside.callers.items = omega arith in
    opened_step c.args.window view _ _ c.self.view_is (omega arith, omega arith) c.self.invariant (opened_items c.args.window c.len-number.result view _ _ c.new.result c.push_reserved.ensures.items c.reserve.ensures.items c.new.ensures number)

pub returns-clause-ring : goal.returns-clause-ring
returns-clause-ring g c = keeps_same _ c.args.self.now _ c.self.view_is refl refl

pub push_reserved-requires : goal.push_reserved-requires
push_reserved-requires g c = let room = of_ok c.reserve.result (sym c.is_err.ensures.value ∙ c.if-is_err.false) c.reserve.ensures.ok in omega arith

pub returns-then-is_err-clause-ring : goal.returns-then-is_err-clause-ring
returns-then-is_err-clause-ring g c = keeps_same (state_of c.self.inside) c.args.self.now _ c.self.view_is refl refl
