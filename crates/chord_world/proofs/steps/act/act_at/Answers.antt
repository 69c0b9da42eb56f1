use Rattle.std.proofs.Common.{refl}
use Rattle.chord_world.proofs.Posting.{got}
use Rattle.chord_world.proofs.steps.act.act_at.Goals as goal

pub act-requires : goal.act-requires
act-requires g c =
    c.requires.fits _ (got c.args.nodes.now.items c.args.place _ c.requires.place c.index_mut-node.ensures.value)

pub returns : goal.returns
returns g c = record {
  node = _;
  after = c.act.new.node;
  here = got c.args.nodes.now.items c.args.place _ c.requires.place c.index_mut-node.ensures.value;
  is = c.act.ensures;
  new_is = refl;
}
