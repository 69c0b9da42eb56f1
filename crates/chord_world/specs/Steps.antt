-- What a World answers to a step, and the world afterwards.
use Rattle.std.specs.Prelude.{◌≡◌, ◌≢◌, ℕ, ◌≤◌, Some, Result, Ok, Err, List, [], ◌∷◌, ◌++◌, length, slice_get, drop}
use Rattle.chord_ident.specs.declared.id.Id.{Id}
use Rattle.chord_links.specs.NodeLinks.{alone}
use Rattle.chord_ring.specs.declared.ring_step.RingStep.TheVariants as ring
use Rattle.chord_map.specs.declared.request.Request.{Request}
use Rattle.chord_caller.specs.declared.ask.Ask.{Ask}
use Rattle.chord_caller.specs.declared.fault.SubmitFault.{SubmitFault}
use Rattle.chord_caller.specs.Caller.{Caller}
use Rattle.chord_caller.specs.Answers.{new_caller, SubmitIs}
use Rattle.chord_model.specs.declared.message.Message.TheVariants.{Ask as AskMessage}
use Rattle.chord_model.specs.Node.{founder}
use Rattle.chord_model.specs.World.{WorldStep, put_caller}
use Rattle.chord_world.specs.declared.outcome.Outcome.{Outcome}
use Rattle.chord_world.specs.declared.outcome.Outcome.TheVariants as did
use Rattle.chord_world.specs.declared.refusal.Refusal.{Refusal}
use Rattle.chord_world.specs.declared.refusal.Refusal.TheVariants as refused
use Rattle.chord_world.specs.declared.refusal.StepFault.TheVariants as step_fault
use Rattle.chord_world.specs.declared.fate.Fate.TheVariants.{Well}
use Rattle.chord_world.specs.declared.step.Step.{Step}
use Rattle.chord_world.specs.declared.step.Step.TheVariants.{Create, Join, OpenCaller, Submit, Resend, GiveUp, Deliver, Show, Meet, Cut, Merge, Give, SendPart, Leave, Retire, Stabilise, Candidate, DropDead, Rectify, Crash, Rescue, Finger}
use Rattle.chord_world.specs.Refusals.{refusal_of, DoneOrRefused}
use Rattle.chord_world.specs.State.{WorldState, IsThere}
use Rattle.chord_world.specs.Calling.{AreThere, DoesResend, RefusesResend, DoesGiveUp, RefusesGiveUp, DoesShow, RefusesShow, DoesMeet, RefusesMeet}
use Rattle.chord_world.specs.Joining.{DoesJoin, RefusesJoin}
use Rattle.chord_world.specs.Upkeep.{DoesUpkeep, RefusesUpkeep, DoesCrash, RefusesCrash, DoesRescue, RefusesRescue}
use Rattle.chord_world.specs.declared.deed.NodeDeed.TheVariants as deed
use Rattle.chord_world.specs.Deeds.{DoesFinger, RefusesFinger, DoesDeed, RefusesDeed, DoesGive, RefusesGive, DoesSendPart, RefusesSendPart, DoesRetire, RefusesRetire}
use Rattle.chord_world.specs.Delivered.{Delivers, RefusesDeliver}

-- a step that is done is a step of the definitions; one that is refused changes nothing
abbrev pub Advances : WorldState → Result Outcome Refusal → WorldState → Type 0
Advances old (Ok outcome) new = WorldStep old.world new.world
Advances old (Err refusal) new = new ≡ old

-- `Advances`, except for a crash, which changes nothing in the world of the definitions
abbrev pub AdvancesBy : Step → WorldState → Result Outcome Refusal → WorldState → Type 0
AdvancesBy (Crash node) old result new = new.world ≡ old.world
AdvancesBy step old result new = Advances old result new

-- ---- a first node

-- the world with its first node, whose store has this limit
abbrev pub with_founder : Id → ℕ → WorldState → WorldState
with_founder id limit old =
    record old { world = record old.world { nodes = founder (alone (record { number = 0; id = id }) old.r) limit ∷ [] }; fates = Well ∷ [] }

-- the limits are those of the stores that are left
abbrev pub DoesCreate : Id → List ℕ → WorldState → Outcome → WorldState → Type 0
DoesCreate id limits old (did.Node number) new =
    (old.world.nodes ≡ []) × (number ≡ 0) × ((limit : ℕ) × (slice_get limits 0 ≡ Some limit) × (new ≡ with_founder id limit old))
DoesCreate id limits old outcome new = ⊥

abbrev pub RefusesCreate : List ℕ → WorldState → Refusal → Type 0
RefusesCreate limits old refused.AlreadyCreated = old.world.nodes ≢ []
RefusesCreate limits old refused.NoStore = (old.world.nodes ≡ []) × (limits ≡ [])
RefusesCreate limits old refused.Memory = (old.world.nodes ≡ []) × (limits ≢ [])
RefusesCreate limits old refusal = ⊥

abbrev pub CreateIs : Id → List ℕ → WorldState → Result Outcome Refusal → WorldState → Type 0
CreateIs id limits = DoneOrRefused (DoesCreate id limits) (RefusesCreate limits)

-- a node that is created takes the first store
abbrev pub CreateLeaves : {S : Type 0} → Result Outcome Refusal → List S → List S → Type 0
CreateLeaves (Ok outcome) stores left = left ≡ drop 1 stores
CreateLeaves (Err refusal) stores left = left ≡ stores

-- ---- a caller

-- a window is 1 to 16
abbrev pub IsWindow : ℕ → Type 0
IsWindow window = (1 ≤ window) × (window ≤ 16)

abbrev pub with_caller : ℕ → WorldState → WorldState
with_caller window old =
    record old { world = record old.world { callers = old.world.callers ++ new_caller (length old.world.callers) window ∷ [] } }

abbrev pub DoesOpen : ℕ → WorldState → Outcome → WorldState → Type 0
DoesOpen window old (did.Caller number) new = IsWindow window × (number ≡ length old.world.callers) × (new ≡ with_caller window old)
DoesOpen window old outcome new = ⊥

abbrev pub RefusesOpen : ℕ → WorldState → Refusal → Type 0
RefusesOpen window old (refused.Step step_fault.BadWindow) = ¬ IsWindow window
RefusesOpen window old refused.Memory = IsWindow window
RefusesOpen window old refusal = ⊥

abbrev pub OpenIs : ℕ → WorldState → Result Outcome Refusal → WorldState → Type 0
OpenIs window = DoneOrRefused (DoesOpen window) (RefusesOpen window)

-- ---- a call

-- the world after this caller sent a call to this node
abbrev pub with_ask : Caller → Ask → ℕ → WorldState → WorldState
with_ask after ask via old =
    record old {
      world = record old.world { callers = put_caller after old.world.callers; sent = old.world.sent ++ AskMessage ask ∷ [] };
      targets = old.targets ++ Some via ∷ [];
    }

-- the call was submitted and sent in this message
pub record Sends (caller via : ℕ) (request : Request) (old : WorldState) (number : ℕ) (new : WorldState) : Type 0 where
  pub core : Caller
  pub after : Caller
  pub ask : Ask
  pub there : IsThere caller via old core
  pub submits : SubmitIs request core (Ok ask) after
  pub numbered : number ≡ length old.world.sent
  pub new_is : new ≡ with_ask after ask via old

-- the caller refused the call with this fault
pub record RefusesCall (caller via : ℕ) (request : Request) (old : WorldState) (fault : SubmitFault) : Type 0 where
  pub core : Caller
  pub there : IsThere caller via old core
  pub refuses : SubmitIs request core (Err fault) core

-- RefusesCall as the refusal of the step
abbrev pub RefusesCallAs : ℕ → ℕ → Request → WorldState → Refusal → Type 0
RefusesCallAs caller via request old refusal = (fault : SubmitFault) × (refusal ≡ refusal_of fault) × RefusesCall caller via request old fault

abbrev pub DoesSubmit : ℕ → ℕ → Request → WorldState → Outcome → WorldState → Type 0
DoesSubmit caller via request old (did.Message number) new = Sends caller via request old number new
DoesSubmit caller via request old outcome new = ⊥

abbrev pub RefusesSubmit : ℕ → ℕ → Request → WorldState → Refusal → Type 0
RefusesSubmit caller via request old (refused.Step fault) = RefusesCallAs caller via request old (refused.Step fault)
RefusesSubmit caller via request old refused.Memory = RefusesCallAs caller via request old refused.Memory
RefusesSubmit caller via request old refusal = AreThere caller via old (Err refusal)

abbrev pub SubmitStepIs : ℕ → ℕ → Request → WorldState → Result Outcome Refusal → WorldState → Type 0
SubmitStepIs caller via request = DoneOrRefused (DoesSubmit caller via request) (RefusesSubmit caller via request)

-- ---- all steps

-- what a step does; the stores that are left have these limits
abbrev pub Does : Step → List ℕ → WorldState → Outcome → WorldState → Type 0
Does (Create id) limits old outcome new = DoesCreate id limits old outcome new
Does (Join id behind) limits old outcome new = DoesJoin id behind limits old outcome new
Does (OpenCaller window) limits old outcome new = DoesOpen window old outcome new
Does (Submit caller via request) limits old outcome new = DoesSubmit caller via request old outcome new
Does (Resend caller via number) limits old outcome new = DoesResend caller via number old outcome new
Does (GiveUp caller number) limits old outcome new = DoesGiveUp caller number old outcome new
Does (Deliver message) limits old outcome new = Delivers message old outcome new
Does (Show caller) limits old outcome new = DoesShow caller old outcome new
Does (Meet caller message) limits old outcome new = DoesMeet caller message old outcome new
Does (Cut node place at) limits old outcome new = DoesDeed (deed.Cut place at) node old outcome new
Does (Merge node place behind) limits old outcome new = DoesDeed (deed.Merge place behind) node old outcome new
Does (Give node place to) limits old outcome new = DoesGive node place to old outcome new
Does (SendPart node to number part) limits old outcome new = DoesSendPart node to number part old outcome new
Does (Leave node) limits old outcome new = DoesDeed deed.Leave node old outcome new
Does (Retire node) limits old outcome new = DoesRetire node old outcome new
Does (Stabilise node head) limits old outcome new = DoesUpkeep (ring.Stabilise node head) node old outcome new
Does (Candidate node peer) limits old outcome new = DoesUpkeep (ring.Candidate node peer) node old outcome new
Does (DropDead node) limits old outcome new = DoesUpkeep (ring.DropDead node) node old outcome new
Does (Rectify node notifier) limits old outcome new = DoesUpkeep (ring.Rectify node notifier) node old outcome new
Does (Crash node) limits old outcome new = DoesCrash node old outcome new
Does (Rescue node) limits old outcome new = DoesRescue node old outcome new
Does (Finger node finger to) limits old outcome new = DoesFinger node finger to old outcome new

-- why a step is refused
abbrev pub Refuses : Step → List ℕ → WorldState → Refusal → Type 0
Refuses (Create id) limits old refusal = RefusesCreate limits old refusal
Refuses (Join id behind) limits old refusal = RefusesJoin id behind limits old refusal
Refuses (OpenCaller window) limits old refusal = RefusesOpen window old refusal
Refuses (Submit caller via request) limits old refusal = RefusesSubmit caller via request old refusal
Refuses (Resend caller via number) limits old refusal = RefusesResend caller via number old refusal
Refuses (GiveUp caller number) limits old refusal = RefusesGiveUp caller number old refusal
Refuses (Deliver message) limits old refusal = RefusesDeliver message old refusal
Refuses (Show caller) limits old refusal = RefusesShow caller old refusal
Refuses (Meet caller message) limits old refusal = RefusesMeet caller message old refusal
Refuses (Cut node place at) limits old refusal = RefusesDeed (deed.Cut place at) node old refusal
Refuses (Merge node place behind) limits old refusal = RefusesDeed (deed.Merge place behind) node old refusal
Refuses (Give node place to) limits old refusal = RefusesGive node place to old refusal
Refuses (SendPart node to number part) limits old refusal = RefusesSendPart node to number part old refusal
Refuses (Leave node) limits old refusal = RefusesDeed deed.Leave node old refusal
Refuses (Retire node) limits old refusal = RefusesRetire node old refusal
Refuses (Stabilise node head) limits old refusal = RefusesUpkeep (ring.Stabilise node head) old refusal
Refuses (Candidate node peer) limits old refusal = RefusesUpkeep (ring.Candidate node peer) old refusal
Refuses (DropDead node) limits old refusal = RefusesUpkeep (ring.DropDead node) old refusal
Refuses (Rectify node notifier) limits old refusal = RefusesUpkeep (ring.Rectify node notifier) old refusal
Refuses (Crash node) limits old refusal = RefusesCrash node old refusal
Refuses (Rescue node) limits old refusal = RefusesRescue node old refusal
Refuses (Finger node finger to) limits old refusal = RefusesFinger node finger to old refusal

-- what a step is answered
abbrev pub StepIs : Step → List ℕ → WorldState → Result Outcome Refusal → WorldState → Type 0
StepIs step limits = DoneOrRefused (Does step limits) (Refuses step limits)

-- the stores that are left after a step
abbrev pub StoresLeft : {S : Type 0} → Step → Result Outcome Refusal → List S → List S → Type 0
StoresLeft (Create id) result stores left = CreateLeaves result stores left
StoresLeft (Join id behind) result stores left = CreateLeaves result stores left
StoresLeft step result stores left = left ≡ stores
