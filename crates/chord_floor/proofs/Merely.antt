-- It is enough that some run exists: each law has at most one proof.
use Rattle.std.proofs.Common.{◌≡◌, ◌≢◌, ℕ, ◌^◌, ◌<◌, ◌≤◌, [], ◌++◌, Some}
use Rattle.std.proofs.Props.{props}
use mathlib.Core.Logic.{∥∥₁_elim}
use Rattle.chord_caller.specs.declared.ask.Ask.{Ask}
use Rattle.chord_floor.proofs.Settled.{settled_first}
use Rattle.chord_floor.proofs.Final as final
use Rattle.chord_floor.proofs.Raised.{OneHolder, execution}
use Rattle.chord_floor.proofs.Rising.{has_floor}
use Rattle.chord_floor.proofs.Since.{history_grows, none_below, rises}
use Rattle.chord_floor.specs.Floors.{HasFloor, AreAbove, SettledFirst, executed_since, ask_executed_in}
use Rattle.chord_ident.proofs.Digest.{key_id-below}
use Rattle.chord_map.specs.declared.done.Done.{Done}
use Rattle.chord_map.specs.declared.reply.Reply.{Reply}
use Rattle.chord_map.specs.declared.request.Request.{Request}
use Rattle.chord_map.specs.History.{StandsIn}
use Rattle.chord_map.specs.Map.{key_of}
use Rattle.chord_model.specs.World.{World, WorldStep, Run, Reached, HasOneHolder}
use Rattle.chord_segment.specs.Segment.{id_of}

reply_set : IsSet Reply
reply_set = hlevel props

request_set : IsSet Request
request_set = hlevel props

done_set : IsSet Done
done_set = hlevel (props, reply_set, request_set)

pub grows_merely : (earlier later : World) → ∥ Run earlier later ∥₁ → later.history ≡ earlier.history ++ executed_since earlier later
grows_merely earlier later run = ∥∥₁_elim run (hlevel (props, done_set)) (λ r. history_grows earlier later r)

module _ (earlier later : World) (x caller floor : ℕ) (reached : ∥ Reached earlier ∥₁) (run : ∥ Run earlier later ∥₁) (some : earlier.nodes ≢ []) (x_in : x < 2 ^ 128) (has : HasFloor earlier x caller floor) where
  pub rises_merely : HasFloor later x caller floor
  rises_merely = ∥∥₁_elim reached (hlevel props) (λ r. ∥∥₁_elim run (hlevel props) (λ s. rises x x_in caller floor earlier later r s some has))

  pub none_below_merely : AreAbove x caller floor (executed_since earlier later)
  none_below_merely = ∥∥₁_elim reached (hlevel props) (λ r. ∥∥₁_elim run (hlevel props) (λ s. none_below x x_in caller floor earlier later r s some has))

-- the law that each identifier has one holder
abbrev pub OneHolderLaw : Type 0
OneHolderLaw = (world : World) (x : ℕ) → ∥ Reached world ∥₁ → world.nodes ≢ [] → x < 2 ^ 128 → HasOneHolder x world.nodes

one_of : OneHolderLaw → (world : World) → Reached world → OneHolder world
one_of law world reached some x x_in = law world x ∣ reached ∣₁ some x_in

module _ (law : OneHolderLaw) (old new : World) (step : WorldStep old new) (ask : Ask) (reached : ∥ Reached old ∥₁) (is : ask_executed_in step ≡ Some ask) where
  pub raised_merely : HasFloor new (id_of ask.request) ask.caller ask.floor
  raised_merely = ∥∥₁_elim reached (hlevel props)
      (λ r. has_floor (id_of ask.request) (key_id-below (key_of ask.request)) ask.caller ask.floor new (execution old new r (one_of law old r) step ask is).low)

  module _ (later : World) (run : ∥ Run new later ∥₁) where
    pub behind_merely : AreAbove (id_of ask.request) ask.caller ask.floor (executed_since new later)
    behind_merely = ∥∥₁_elim reached (hlevel props) (λ r. ∥∥₁_elim run (hlevel props) (λ s. final.none_behind old new later r (one_of law old r) step ask is s))

    pub before_merely : (done : Done) → StandsIn later.history done → done.caller ≡ ask.caller → id_of done.request ≡ id_of ask.request → done.number ≤ ask.floor → StandsIn old.history done
    before_merely done stands of_caller of_id low =
        ∥∥₁_elim reached (hlevel (props, done_set))
        (λ r. ∥∥₁_elim run (hlevel (props, done_set)) (λ s. final.only_before old new later r (one_of law old r) step ask is s done stands of_caller of_id low))

pub settled_merely : OneHolderLaw → (earlier later : World) → ∥ Reached earlier ∥₁ → ∥ Run earlier later ∥₁ → SettledFirst earlier later
settled_merely law earlier later reached run = ∥∥₁_elim reached (hlevel props) (λ r. ∥∥₁_elim run (hlevel props) (λ s. settled_first (one_of law) earlier later r s))
