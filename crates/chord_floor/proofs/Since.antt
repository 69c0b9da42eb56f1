-- Floors, and the calls that are executed, over runs of steps.
use Rattle.std.proofs.Common.{◌≡◌, ◌≢◌, ℕ, ◌^◌, ◌<◌, ⊎_elim, refl, sym, ◌∙◌, ap, subst, List, [], ◌∷◌, ◌++◌, length, drop, Option, Some, None, append_assoc}
use Rattle.std.proofs.Math.Seq.{drop-append_seam}
use Rattle.chord_floor.proofs.Carried.{has_one}
use Rattle.chord_floor.proofs.Rising.{Floored, Step, floored, has_floor, step}
use Rattle.chord_floor.proofs.Steps.{carried_reached}
use Rattle.chord_floor.specs.Floors.{HasFloor, AreAbove, executed_since}
use Rattle.chord_map.proofs.Lists.{Has, all_each}
use Rattle.chord_map.specs.declared.done.Done.{Done}
use Rattle.chord_model.specs.World.{World, WorldStep, Run, Reached, empty_world, with_one}
use Rattle.chord_model.specs.World.Run.{Stays, Goes_on}
use Rattle.chord_segment.specs.Segment.{id_of}

pub runs_on : (first middle last : World) → Run first middle → Run middle last → Run first last
runs_on first middle last run Stays = run
runs_on first middle last run (Goes_on {middle = between} more step) = Goes_on (runs_on first middle between run more) step

-- the history only grows

none_behind : {A : Type 0} (xs : List A) → xs ≡ xs ++ []
none_behind [] = refl
none_behind (x ∷ xs) = ap (λ ys. x ∷ ys) (none_behind xs)

one_behind : {A : Type 0} (xs more : List A) (o : Option A) → with_one (xs ++ more) o ≡ xs ++ with_one more o
one_behind xs more None = refl
one_behind xs more (Some x) = append_assoc xs more (x ∷ [])

step_adds : (old new : World) → WorldStep old new → (call : Option Done) × (new.history ≡ with_one old.history call)
step_adds old new (WorldStep.Creates links limit id_in none) = (None, refl)
step_adds old new (WorldStep.Joins links limit id_in some is_new) = (None, refl)
step_adds old new (WorldStep.Opens number window low high is_new) = (None, refl)
step_adds old new (WorldStep.Calls number caller after taken sent here was step) = (None, refl)
step_adds old new (WorldStep.Acts number node after taken sent call here was step) = (call, refl)

run_adds : (earlier later : World) → Run earlier later → (more : List Done) × (later.history ≡ earlier.history ++ more)
run_adds earlier later Stays = ([], none_behind earlier.history)
run_adds earlier later (Goes_on {middle = middle} run step) =
    let r = run_adds earlier middle run in
    let s = step_adds middle later step in
    (with_one r.0 s.0, s.1 ∙ ap (λ ds. with_one ds s.0) r.1 ∙ one_behind earlier.history r.0 s.0)

pub since_is : (earlier later : World) (more : List Done) → later.history ≡ earlier.history ++ more → executed_since earlier later ≡ more
since_is earlier later more e = ap (drop (length earlier.history)) e ∙ drop-append_seam earlier.history more

pub history_grows : (earlier later : World) → Run earlier later → later.history ≡ earlier.history ++ executed_since earlier later
history_grows earlier later run =
    let r = run_adds earlier later run in
    r.1 ∙ ap (λ ds. earlier.history ++ ds) (sym (since_is earlier later r.0 r.1))

-- what a floor does

module _ (x : ℕ) (x_in : x < 2 ^ 128) (caller floor : ℕ) where
  record Since (earlier later : World) : Type 0 where
    low : Floored x x_in caller floor later.nodes
    some : later.nodes ≢ []
    more : List Done
    history : later.history ≡ earlier.history ++ more
    above : (done : Done) → Has more done → done.caller ≡ caller → id_of done.request ≡ x → floor < done.number

  since : (earlier later : World) → Reached earlier → HasFloor earlier x caller floor → earlier.nodes ≢ [] → Run earlier later → Since earlier later
  since earlier later reached has some Stays = record {
    low = floored x x_in caller floor earlier has;
    some = some;
    more = [];
    history = none_behind earlier.history;
    above = λ done h of_caller of_x. absurd h;
  }
  since earlier later reached has some (Goes_on {middle = middle} run did) =
      let before : Since earlier middle = since earlier middle reached has some run in
      let next : Step x x_in caller floor middle later =
      step x x_in caller floor middle later (carried_reached middle (runs_on empty_world earlier middle reached run)) before.low before.some did in
      record {
        low = next.low;
        some = next.some;
        more = with_one before.more next.call;
        history = next.history ∙ ap (λ ds. with_one ds next.call) before.history ∙ one_behind earlier.history before.more next.call;
        above = λ done h. ⊎_elim (λ there. before.above done there) (λ e. next.above done e) (has_one before.more next.call done h);
      }

  pub rises : (earlier later : World) → Reached earlier → Run earlier later → earlier.nodes ≢ [] → HasFloor earlier x caller floor → HasFloor later x caller floor
  rises earlier later reached run some has = has_floor x x_in caller floor later (since earlier later reached has some run).low

  pub stays : (earlier later : World) → Reached earlier → Run earlier later → earlier.nodes ≢ [] → HasFloor earlier x caller floor → later.nodes ≢ []
  stays earlier later reached run some has = (since earlier later reached has some run).some

  pub none_below : (earlier later : World) → Reached earlier → Run earlier later → earlier.nodes ≢ [] → HasFloor earlier x caller floor
      → AreAbove x caller floor (executed_since earlier later)
  none_below earlier later reached run some has =
      let s : Since earlier later = since earlier later reached has some run in
      subst (AreAbove x caller floor) (sym (since_is earlier later s.more s.history))
      (all_each (λ (done : Done). done.caller ≡ caller → id_of done.request ≡ x → floor < done.number) s.more s.above)
