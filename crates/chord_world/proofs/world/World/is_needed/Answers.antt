use Rattle.std.proofs.Common.{◌≡◌, true, false, inl, inr, sym, ◌∙◌, rules}
use Rattle.std.proofs.lemmas.Bool.{true≢false}
use Rattle.chord_ring.specs.Ring.{is_member}
use Rattle.chord_world.specs.State.{ring_of}
use Rattle.chord_world.proofs.world.World.is_needed.Goals as goal

pub returns-then-is_none : goal.returns-then-is_none
returns-then-is_none g c = let none : is_member (ring_of c.args.self.now).members c.args.node ≡ false = search rules in inl none

pub returns-then-can_depart_in : goal.returns-then-can_depart_in
returns-then-can_depart_in g c = inr (c.can_depart_in.ensures.0 c.if-can_depart_in.true)

pub returns : goal.returns
returns g c =
    let member : is_member (ring_of c.args.self.now).members c.args.node ≡ true = search rules in
    (member, λ can. true≢false (sym (c.can_depart_in.ensures.1 can) ∙ c.if-can_depart_in.false))
