use Rattle.std.proofs.Common.{List, ap, ◌∙◌, [], ◌∷◌, ◌++◌}
use Rattle.chord_state_tests.proofs.Standings.{all_nodes, is_principal, some_node}
use Rattle.chord_table.specs.Seen.{Sight}
use Rattle.chord_table.specs.Views.{Assembled, as_actor}
use Rattle.chord_state_tests.proofs.table.standings.stands.Goals as goal

pub look_ring-requires : goal.look_ring-requires
look_ring-requires g c =
    let taken = ap (λ (a : Assembled). a.taken) c.take_node.ensures ∙ ap (λ (t : List Sight). t ++ as_actor c.args.node ∷ []) c.requires.taken in
    record {
      whole = all_nodes c.take_node.new.self c.args.node c.requires.founder.0 taken c.requires.founder.1 (ap (λ (a : Assembled). a.register.nodes) c.take_node.ensures ∙ c.requires.nodes);
      some = some_node c.take_node.new.self c.args.node c.requires.founder.0 taken c.requires.founder.1;
    }

pub stand-first-requires-clause-principal : goal.stand-first-requires-clause-principal
stand-first-requires-clause-principal g c =
    let same = c.look_ring.ensures.same ∙ c.take_node.ensures in
    let taken = ap (λ (a : Assembled). a.taken) same ∙ ap (λ (t : List Sight). t ++ as_actor c.args.node ∷ []) c.requires.taken in
    is_principal c.look_ring.new.self c.args.node c.requires.founder.0 taken c.requires.founder.1 (ap (λ (a : Assembled). a.register.ids) same ∙ c.requires.ids)
