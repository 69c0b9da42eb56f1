use Rattle.std.proofs.Common.{◌≡◌, ◌∙◌, Option, Some, [], ◌∷◌, ◌++◌, sym, subst, Contains}
use Rattle.std.proofs.lemmas.List.Elements.{Contains-push}
use Rattle.chord_caller.specs.declared.ask.Ask.{Ask}
use Rattle.chord_node.specs.Asked.{ask_done}
use Rattle.chord_model.specs.declared.message.Message.{Message}
use Rattle.chord_model.specs.declared.message.Message.TheVariants.{Ask as AskMessage, Told as ToldMessage}
use Rattle.chord_model.specs.Node.{Node, NodeStep}
use Rattle.chord_map.specs.declared.done.Done.{Done}
use Rattle.chord_table.specs.Views.{NodeSight, MayAct}
use Rattle.chord_state_tests.proofs.table.reply.Goals as goal

-- a node may do a call that its seat just took in
does_what_came : (seat came : NodeSight) (envelope told : Message) (old new : Node) (call : Ask) (done : Option Done)
    → came ≡ record seat { messages = seat.messages ++ envelope ∷ [] } → seat.node ≡ old → envelope ≡ AskMessage call
    → NodeStep old (Some (AskMessage call)) new (Some told) done → MayAct came.node came.messages new (Some told)
does_what_came seat came envelope told old new call done shows is same step =
    subst (λ (s : NodeSight). MayAct s.node s.messages new (Some told)) (sym shows) (
      Some (AskMessage call),
      done,
      subst (λ (m : Message). Contains (seat.messages ++ envelope ∷ []) m) same (Contains-push seat.messages envelope),
      subst (λ (n : Node). NodeStep n (Some (AskMessage call)) new (Some told) done) (sym is) step,
    )

pub send-requires : goal.send-requires
send-requires g c =
    let call = c.in_ok-call.call in
    let old = c.args.node.now in
    let new = c.told_by.new.node in
    record { event = does_what_came c.args.seat.now c.receive.new.self c.args.envelope (ToldMessage c.in_ok-told.told) old new call (ask_done call old) c.receive.ensures.seat c.requires (sym c.receive.ensures.message ∙ c.in_ok-call.ensures) c.in_ok-told.ensures }
