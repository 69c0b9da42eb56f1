use Rattle.std.proofs.Common.{None, Some, [], ◌∷◌, ◌++◌, sym, subst, Contains}
use Rattle.std.proofs.lemmas.List.Elements.{Contains-push}
use Rattle.chord_caller.specs.Caller.{Caller, CallerStep}
use Rattle.chord_caller.specs.Caller.Letter.{ToldLetter}
use Rattle.chord_model.specs.declared.message.Message.{Message}
use Rattle.chord_table.specs.Views.{CallerSight, MayCall}
use Rattle.chord_state_tests.proofs.table.take.Goals as goal

pub local-requires : goal.local-requires
local-requires g c =
    let letter = ToldLetter c.in-Told.told in
    let new = c.take.new.self in
    let messages = c.args.seat.now.messages in
    let came = subst (λ (m : Message). Contains (messages ++ c.args.envelope ∷ []) m) (sym c.in-Told.ensures.message) (Contains-push messages c.args.envelope) in
    let step = subst (λ (caller : Caller). CallerStep caller (Some letter) new None) (sym c.requires) c.in_ok-heard.ensures.step in
    record { event = (None, subst (λ (s : CallerSight). MayCall s.caller s.messages new None) (sym c.receive.ensures.seat) (Some letter, came, step)) }
