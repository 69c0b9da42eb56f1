use Rattle.std.proofs.Common.{◌≡◌, [], List, true, ap, length, rules, sym, subst}
use Rattle.chord_ident.specs.declared.id.Id.{Id}
use Rattle.chord_live_steps.proofs.Counting.{none_registered}
use Rattle.chord_live_steps.specs.Registered.{IsRegister}
use Rattle.chord_table.specs.Views.{Assembled, Register, nodes_among}
use Rattle.chord_live_steps.proofs.numbers.Numbers.new.Goals as goal

pub invariant_of-result : goal.invariant_of-result
invariant_of-result g c =
    let empty : c.new.result.items ≡ [] = search rules in
    let registered = subst (λ (r : Register). IsRegister 0 [] true r) (sym (ap (λ (a : Assembled). a.register) c.requires.nobody)) none_registered in
    (ap (λ (a : Assembled). length (nodes_among a.taken)) (sym c.requires.nobody), c.requires.places, subst (λ (ids : List Id). IsRegister 0 ids true c.args.registrar.register) (sym empty) registered)
