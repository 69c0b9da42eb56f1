-- Callers only grow: what one submitted, took or learned by notes stays.
use Rattle.std.proofs.Common.{◌≡◌, Option, Some, List, ◌∷◌, [], ◌++◌, ⊎_elim, refl, sym, ap, ◌∙◌, subst}
use Rattle.std.proofs.lemmas.Bool.{cases_eq}
use Rattle.std.proofs.lemmas.List.{append_assoc}
use Rattle.std.proofs.lemmas.Option.{same_Some}
use Rattle.chord_caller.specs.Caller.{Caller, CallerStep, Letter}
use Rattle.chord_map.specs.declared.done.Done.{Done}
use Rattle.chord_model.proofs.CallerLemmas.{caller_left, nothing_more}
use Rattle.chord_model.specs.declared.message.Message.{Message}
use Rattle.chord_model.specs.World.{World, caller_at, put_caller}
use Rattle.chord_table.specs.Actors.{IsThere, AreOne, Event, world_after, world_with}
use Rattle.chord_table.specs.Later.{IsLater, WasThere}
use Rattle.chord_table.specs.Seen.{Actor, OfNode, OfCaller}
use Rattle.chord_model.proofs.Numbered.{callers_by}

pub later_itself : (caller : Caller) → IsLater caller caller
later_itself caller = record { number = refl; submitted = nothing_more caller.submitted; mine = nothing_more caller.mine; told = nothing_more caller.told }

-- a prefix of a prefix is a prefix
more_then : {A : Type 0} (xs ys zs : List A) → (more : List A) × (ys ≡ xs ++ more) → (more : List A) × (zs ≡ ys ++ more) → (more : List A) × (zs ≡ xs ++ more)
more_then xs ys zs (first, is) (second, then) = (first ++ second, then ∙ ap (λ l. l ++ second) is ∙ append_assoc xs first second)

pub later_then : (old middle new : Caller) → IsLater old middle → IsLater middle new → IsLater old new
later_then old middle new first second = record {
  number = second.number ∙ first.number;
  submitted = more_then old.submitted middle.submitted new.submitted first.submitted second.submitted;
  mine = more_then old.mine middle.mine new.mine first.mine second.mine;
  told = more_then old.told middle.told new.told first.told second.told;
}

step_later : (old new : Caller) (taken sent : Option Letter) → CallerStep old taken new sent → IsLater old new
step_later old new taken sent (CallerStep.Submits request ask low now) =
    record { number = refl; submitted = (_, refl); mine = nothing_more old.mine; told = nothing_more old.told }
step_later old new taken sent (CallerStep.Repeats number submission ask at waits now) = later_itself old
step_later old new taken sent (CallerStep.Takes told request fresh) =
    record { number = refl; submitted = nothing_more old.submitted; mine = (_, refl); told = nothing_more old.told }
step_later old new taken sent (CallerStep.Gives_up given submission at waits) =
    record { number = refl; submitted = nothing_more old.submitted; mine = nothing_more old.mine; told = nothing_more old.told }
step_later old new taken sent (CallerStep.Ignores told none) = later_itself old
step_later old new taken sent (CallerStep.Hears_full caller number) = later_itself old
step_later old new taken sent CallerStep.Shows = later_itself old
step_later old new taken sent (CallerStep.Meets note) =
    record { number = refl; submitted = nothing_more old.submitted; mine = nothing_more old.mine; told = (_, refl) }

-- both are nodes, or the new caller is a later state of the old one
abbrev pub GoesOn : Actor → Actor → Type 0
GoesOn (OfNode old crashed) (OfNode new out) = Unit {0}
GoesOn (OfCaller old) (OfCaller new) = IsLater old new
GoesOn _ _ = ⊥

pub event_goes_on : (old new : Actor) (taken sent : Option Message) (call : Option Done) → Event old taken new sent call → GoesOn old new
event_goes_on _ _ _ _ _ (Event.Acts step) = tt
event_goes_on _ _ _ _ _ (Event.Calls {old = old} {new = new} {taken = taken} {sent = sent} step) = step_later old new taken sent step

-- a caller that was there is there after an event, then or later
pub was_there_after : (world : World) (old new : Actor) (sent : Option Message) (call : Option Done) → AreOne old new → GoesOn old new → IsThere world old
    → (caller : Caller) → WasThere world caller → WasThere (world_after world new sent call) caller
was_there_after world (OfNode old crashed) (OfNode new out) sent call same on here caller was = was
was_there_after world (OfCaller old) (OfCaller new) sent call same on here caller (now, at, later) =
    let here_too : caller_at new.number world.callers ≡ Some old = subst (λ n. caller_at n world.callers ≡ Some old) same here in
    ⊎_elim
    (λ (one : caller.number ≡ new.number).
    let is : old ≡ now = same_Some old now (sym here_too ∙ subst (λ n. caller_at n world.callers ≡ Some now) one at) in (
      new,
      subst (λ n. caller_at n (put_caller new world.callers) ≡ Some new) (sym one) (callers_by.put_same new world.callers old here_too),
      later_then caller now new later (subst (λ (c : Caller). IsLater c new) is on),
    ))
    (λ apart. (now, callers_by.put_apart new world.callers caller.number apart ∙ at, later))
    (cases_eq caller.number new.number)
was_there_after world (OfNode old crashed) (OfCaller new) sent call same on here caller was = absurd same
was_there_after world (OfCaller old) (OfNode new out) sent call same on here caller was = absurd same

-- a caller that was there is there after an actor was admitted
pub was_there_entered : (world : World) (new : Actor) (caller : Caller) → WasThere world caller → WasThere (world_with world new) caller
was_there_entered world (OfNode new crashed) caller was = was
was_there_entered world (OfCaller new) caller (now, at, later) = (now, caller_left caller.number world.callers (new ∷ []) now at, later)
