-- A message that came is among those that a seat shows.
use Rattle.std.proofs.Common.{◌≡◌, [], ◌∷◌, ◌++◌, Some, None, sym, subst, Contains}
use Rattle.std.proofs.lemmas.List.Elements.{Contains-push}
use Rattle.chord_caller.specs.Caller.{Caller, CallerStep, Letter}
use Rattle.chord_model.specs.Letters.{message_of}
use Rattle.chord_model.specs.declared.message.Message.{Message}
use Rattle.chord_table.specs.Views.{CallerSight, MayCall}

-- a caller's step with a message that its seat just took in is one that the seat allows
pub took : (old new : CallerSight) (envelope : Message) (letter : Letter) (core after : Caller) → new ≡ record old { messages = old.messages ++ envelope ∷ [] }
    → message_of letter ≡ envelope → core ≡ new.caller → CallerStep core (Some letter) after None → MayCall new.caller new.messages after None
took old new envelope letter core after is same mine step = (
  Some letter,
  subst (λ (m : Message). Contains new.messages m) (sym same) (subst (λ (s : CallerSight). Contains s.messages envelope) (sym is) (Contains-push old.messages envelope)),
  subst (λ (c : Caller). CallerStep c (Some letter) after None) mine step,
)
