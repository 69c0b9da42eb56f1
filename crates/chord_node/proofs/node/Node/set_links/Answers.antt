use Rattle.std.proofs.Common.{refl}
use Rattle.chord_node.proofs.Linking.{links_set, links_change}
use Rattle.chord_node.proofs.node.Node.set_links.Goals as goal

pub returns-clause-step : goal.returns-clause-step
returns-clause-step g c = links_change c.args.self.now _ c.args.links c.requires.me (links_set _ c.args.self.now c.args.links c.self.view_is refl c.requires.me)
