use Rattle.std.proofs.Common.{rules, ◌≡◌, [], refl, sym, ap, subst, deque_capacity, arith}
use Rattle.chord_caller.specs.Answers.{new_caller}
use Rattle.chord_caller.specs.Client.{Client, client_of, IsClient, IsCoreOf}
use Rattle.chord_caller.proofs.Clients.{new_core}
use Rattle.chord_caller.proofs.client_core.ClientCore.new.Goals as goal

pub returns : goal.returns
returns c =
    subst (λ (client : Client). IsCoreOf client (new_caller c.args.number c.args.window)) (sym (ap (client_of c.args.number c.args.window 0) c.in_ok-with_capacity.ensures.items))
    (new_core c.args.number c.args.window)

pub invariant_of-result : goal.invariant_of-result
invariant_of-result c =
    let items : c.in_ok-with_capacity.field-0.items ≡ [] = c.in_ok-with_capacity.ensures.items in
    let room : deque_capacity c.in_ok-with_capacity.field-0 ≡ c.args.window = search rules in
    subst (λ states. IsClient (deque_capacity c.in_ok-with_capacity.field-0) (client_of c.args.number c.args.window 0 states)) (sym items) (record {
      some_window = c.requires.some;
      small_window = c.requires.small;
      near = omega arith;
      room_is = room;
      numbered = omega arith;
      next = refl;
      caller = new_caller c.args.number c.args.window;
      core = new_core c.args.number c.args.window;
    })
