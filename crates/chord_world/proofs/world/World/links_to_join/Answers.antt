use Rattle.std.proofs.Common.{◌<◌, length, map, refl, sym, ap, arith, rules}
use Rattle.std.specs.Prelude.{is_some}
use Rattle.chord_ident.specs.Circle.{IsBetween}
use Rattle.chord_links.specs.NodeLinks.{first_entry}
use Rattle.chord_world.specs.View.{state_of}
use Rattle.chord_world.specs.State.{WorldState}
use Rattle.chord_world.proofs.Handing.{is_zero, uncreated}
use Rattle.chord_world.proofs.Keeping.{map_some, none_in}
use Rattle.chord_world.proofs.Posting.{not_zero}
use Rattle.chord_world.proofs.Upkeeping.{unused_is, used_is, can_join}
use Rattle.chord_world.proofs.world.World.links_to_join.Goals as goal

pub returns-then-is_empty : goal.returns-then-is_empty
returns-then-is_empty g c = uncreated _ c.args.self.now c.self.view_is (let none = is_zero _ c.if-is_empty.ensures in omega arith)

pub returns-then-is_used : goal.returns-then-is_used
returns-then-is_used g c =
    let view : WorldState = state_of c.self.inside in
    (ap is_some (sym c.in-Some.ensures), used_is c.args.id.number view c.args.self.now _ c.self.view_is c.deref.ensures.value (c.is_used.ensures.yes c.if-is_used.true))

pub returns-then-is_empty-2 : goal.returns-then-is_empty-2
returns-then-is_empty-2 g c =
    let view : WorldState = state_of c.self.inside in
    let empty = none_in c.args.stores.now.items (let zero = is_zero _ c.if-is_empty-2.ensures in omega arith) in
    (ap is_some (sym c.in-Some.ensures), unused_is c.args.id.number view c.args.self.now _ _ c.self.view_is c.deref.ensures.value c.is_used.ensures.number c.if-is_used.false, ap (map g.S.EntryStore.limit) empty)

pub returns-in_default-join_behind : goal.returns-in_default-join_behind
returns-in_default-join_behind g c =
    let view : WorldState = state_of c.self.inside in
    let some : 0 < length c.args.stores.now.items = (let many = not_zero _ c.if-is_empty-2.ensures in omega arith) in
    let apart : ¬ (IsBetween c.in-Some.pred.me.id.number c.args.id.number (first_entry c.in-Some.pred).id.number) = search rules in
    ((c.in-Some.pred, sym c.in-Some.ensures, unused_is c.args.id.number view c.args.self.now _ _ c.self.view_is c.deref.ensures.value c.is_used.ensures.number c.if-is_used.false, apart), map_some g.S.EntryStore.limit c.args.stores.now.items some)

pub returns : goal.returns
returns g c =
    let view : WorldState = state_of c.self.inside in
    let some : 0 < length c.args.stores.now.items = (let many = not_zero _ c.if-is_empty-2.ensures in omega arith) in
    can_join c.args.id c.args.behind (map g.S.EntryStore.limit c.args.stores.now.items) c.len-number.result c.in-Some.pred c.in-Ok.links view c.args.self.now c.self.view_is
    (record {
      is_its = sym c.in-Some.ensures;
      is_id = omega arith;
      is_unused = unused_is c.args.id.number view c.args.self.now _ _ c.self.view_is c.deref.ensures.value c.is_used.ensures.number c.if-is_used.false;
      is_between = c.in-Ok.ensures.variant.0 refl;
    })
    (omega arith) c.in-Ok.ensures.ok (map_some g.S.EntryStore.limit c.args.stores.now.items some)
