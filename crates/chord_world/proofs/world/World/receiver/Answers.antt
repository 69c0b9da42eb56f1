use Rattle.std.proofs.Common.{refl, arith}
use Rattle.chord_world.specs.View.{state_of}
use Rattle.chord_world.specs.State.{WorldState}
use Rattle.chord_world.proofs.Posting.{slice_get_there}
use Rattle.chord_world.proofs.RingLemmas.{fate_old}
use Rattle.chord_world.proofs.Answering.{place_within, read_target, has_target, sent_here, astray, for_crashed, is_receiver}
use Rattle.chord_world.proofs.world.World.receiver.Goals as goal

pub index-requires : goal.index-requires
index-requires g c =
    let within = place_within c.self.inside.sent.items c.self.inside.sent.items c.args.place _ refl (sent_here (state_of c.self.inside) c.args.self.now c.args.place _ c.self.view_is c.requires.1) in
    omega arith

pub unreachable-requires : goal.unreachable-requires
unreachable-requires g c =
    let here = sent_here (state_of c.self.inside) c.args.self.now c.args.place _ c.self.view_is c.requires.1 in
    let within = place_within c.self.inside.sent.items c.self.inside.sent.items c.args.place _ refl here in
    let has = has_target c.self.inside.sent.items c.args.place c.index.result.now c.requires.0 c.self.invariant.targets within c.index.ensures here in
    c.in_default.not-Some has.0 has.1

pub returns-then-to-len : goal.returns-then-to-len
returns-then-to-len g c =
    let view : WorldState = state_of c.self.inside in
    let sent = sent_here view c.args.self.now c.args.place _ c.self.view_is c.requires.1 in
    let target = read_target c.self.inside.sent.items c.args.place c.index.result.now c.in-Some.to (place_within c.self.inside.sent.items c.self.inside.sent.items c.args.place _ refl sent) c.index.ensures c.in-Some.is in
    astray c.args.place c.in-Some.to c.requires.0 view c.args.self.now c.self.view_is c.self.invariant sent target (omega arith)

pub returns-then-is_out : goal.returns-then-is_out
returns-then-is_out g c =
    let view : WorldState = state_of c.self.inside in
    let sent = sent_here view c.args.self.now c.args.place _ c.self.view_is c.requires.1 in
    let target = read_target c.self.inside.sent.items c.args.place c.index.result.now c.in-Some.to (place_within c.self.inside.sent.items c.self.inside.sent.items c.args.place _ refl sent) c.index.ensures c.in-Some.is in
    let there = slice_get_there view.world.nodes c.in-Some.to (omega arith) in
    for_crashed c.args.place c.in-Some.to c.requires.0 there.0 view c.args.self.now c.self.view_is c.self.invariant sent target there.1
    (fate_old c.in-Some.to view c.args.self.now _ _ c.self.view_is c.deref.ensures.value c.is_out.ensures c.if-is_out.true)

pub returns : goal.returns
returns g c =
    let view : WorldState = state_of c.self.inside in
    let sent = sent_here view c.args.self.now c.args.place _ c.self.view_is c.requires.1 in
    is_receiver c.args.place c.in-Some.to view c.args.self.now c.self.view_is
    (read_target c.self.inside.sent.items c.args.place c.index.result.now c.in-Some.to (place_within c.self.inside.sent.items c.self.inside.sent.items c.args.place _ refl sent) c.index.ensures c.in-Some.is)
    (omega arith) (fate_old c.in-Some.to view c.args.self.now _ _ c.self.view_is c.deref.ensures.value c.is_out.ensures c.if-is_out.false)
