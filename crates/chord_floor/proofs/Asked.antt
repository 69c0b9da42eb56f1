-- What was asked and executed was submitted, and an Ask has the floor of its caller when it was
-- sent.
use Rattle.std.proofs.Common.{◌≡◌, ℕ, zero, suc, ◌≤◌, true, ltb, eqb, ⊎_elim, refl, sym, ◌∙◌, ap, subst, arith, List, [], ◌∷◌, ◌++◌, length, Option, Some, length-append}
use Rattle.std.proofs.lemmas.Bool.{cond-true, cond-false, or_cases, or_left, or_right}
use Rattle.std.proofs.lemmas.Option.{same_Some, none-some, slice_get_within}
use Rattle.chord_caller.specs.Caller.{Caller, CallerStep, Letter, Submission, submission_at, floor_of, is_among, with_number}
use Rattle.chord_caller.specs.declared.ask.Ask.{Ask}
use Rattle.chord_floor.proofs.Carried.{has_one}
use Rattle.chord_map.proofs.Lists.{Has, by_test, has_contained}
use Rattle.chord_map.specs.declared.done.Done.{Done}
use Rattle.chord_model.proofs.CallerLemmas.{Grown, AllGrown, nothing_more, grown_itself, all_grown_put, all_grown_pushed}
use Rattle.chord_model.proofs.Numbered.{callers_by}
use Rattle.chord_model.specs.declared.message.Message.{Message}
use Rattle.chord_model.specs.declared.message.Message.TheVariants.{Ask as AskMessage}
use Rattle.chord_model.specs.Letters.{letter_sent}
use Rattle.chord_model.specs.Node.{Node, NodeStep}
use Rattle.chord_model.specs.World.{World, WorldStep, Reached, WasSent, caller_at, put_caller}
use Rattle.chord_model.specs.World.Run.{Stays, Goes_on}

-- a caller's step

among_with : (asked number : ℕ) (numbers : List ℕ) → is_among asked numbers ≡ true → is_among asked (with_number number numbers) ≡ true
among_with asked number [] e = absurd (cc)
among_with asked number (first ∷ rest) e =
    by_test (ltb number first)
    (λ t. ap (is_among asked) (cond-true (ltb number first) (number ∷ first ∷ rest) (first ∷ with_number number rest) t)
    ∙ or_right (eqb number asked) (is_among asked (first ∷ rest)) e)
    (λ f. ap (is_among asked) (cond-false (ltb number first) (number ∷ first ∷ rest) (first ∷ with_number number rest) f)
    ∙ ⊎_elim
    (λ here. or_left (eqb first asked) (is_among asked (with_number number rest)) here)
    (λ there. or_right (eqb first asked) (is_among asked (with_number number rest)) (among_with asked number rest there))
    (or_cases (eqb first asked) (is_among asked rest) e))

pub grows : (old new : Caller) (taken sent : Option Letter) → CallerStep old taken new sent → Grown old new
grows old new taken sent (CallerStep.Submits request ask bound sends) =
    record { number = refl; window = refl; submitted = (_, refl); mine = nothing_more old.mine; told = nothing_more old.told; given_up = λ place given. given }
grows old new taken sent (CallerStep.Takes told request fresh) =
    record { number = refl; window = refl; submitted = nothing_more old.submitted; mine = (_, refl); told = nothing_more old.told; given_up = λ place given. given }
grows old new taken sent (CallerStep.Gives_up given submission is pending) = record {
  number = refl;
  window = refl;
  submitted = nothing_more old.submitted;
  mine = nothing_more old.mine;
  told = nothing_more old.told;
  given_up = λ place e. among_with place given old.given_up e;
}
grows old new taken sent (CallerStep.Meets note) =
    record { number = refl; window = refl; submitted = nothing_more old.submitted; mine = nothing_more old.mine; told = (_, refl); given_up = λ place given. given }
grows old new taken sent step = grown_itself old

within : (submitted : List Submission) (place : ℕ) (submission : Submission) → submission_at place submitted ≡ Some submission → place ≤ length submitted
within submitted zero submission is = omega arith
within submitted (suc place) submission is = omega (arith, slice_get_within submitted place submission is)

-- an Ask that a caller sends has its floor, and a number that it submitted
pub record Sends (caller after : Caller) (ask : Ask) : Type 0 where
  pub own : ask.caller ≡ caller.number
  pub floor : ask.floor ≡ floor_of caller
  pub within : ask.number ≤ length after.submitted

pub sends_ask : (caller after : Caller) (taken sent : Option Letter) → CallerStep caller taken after sent → (ask : Ask) → letter_sent sent ≡ Some (AskMessage ask) → Sends caller after ask
sends_ask caller after taken sent (CallerStep.Submits request other bound sends) ask e =
    let is : other ≡ ask = let m = same_Some (AskMessage other) (AskMessage ask) e in cc in
    subst (Sends caller after) is (record {
      own = sends.caller;
      floor = sends.floor;
      within = omega (arith, sends.number, length-append caller.submitted (record { request = request; mine_seen = length caller.mine; told_seen = length caller.told } ∷ []));
    })
sends_ask caller after taken sent (CallerStep.Repeats number submission other is_at pending sends) ask e =
    let is : other ≡ ask = let m = same_Some (AskMessage other) (AskMessage ask) e in cc in
    subst (Sends caller after) is
    (record { own = sends.caller; floor = sends.floor; within = omega (arith, sends.number, within caller.submitted number submission is_at) })
sends_ask caller after taken sent step ask e = absurd (cc)

-- a node's step

-- the same call, of an Ask that was sent
pub record Passed (sent : List Message) (caller number floor : ℕ) : Type 0 where
  pub ask : Ask
  pub was : Has sent (AskMessage ask)
  pub same_caller : ask.caller ≡ caller
  pub same_number : ask.number ≡ number
  pub same_floor : ask.floor ≡ floor

pub passes : (sent : List Message) (node after : Node) (taken out : Option Message) (call : Option Done) → WasSent sent taken → NodeStep node taken after out call
    → (ask : Ask) → out ≡ Some (AskMessage ask) → Passed sent ask.caller ask.number ask.floor
passes sent node after taken out call was (NodeStep.Forwards other hops none fewer) ask e =
    let is : record other { hops = hops } ≡ ask = let m = same_Some (AskMessage (record other { hops = hops })) (AskMessage ask) e in cc in
    subst (λ (a : Ask). Passed sent a.caller a.number a.floor) is
    (record { ask = other; was = has_contained sent (AskMessage other) was; same_caller = refl; same_number = refl; same_floor = refl })
passes sent node after taken out call was step ask e = absurd (cc)

pub executes : (sent : List Message) (node after : Node) (taken out : Option Message) (call : Option Done) → WasSent sent taken → NodeStep node taken after out call
    → (done : Done) → call ≡ Some done → (floor : ℕ) × Passed sent done.caller done.number floor
executes sent node after taken out call was (NodeStep.Executes other segment found past) done e = (
  other.floor,
  subst (λ (d : Done). Passed sent d.caller d.number other.floor) (same_Some _ done e)
      (record { ask = other; was = has_contained sent (AskMessage other) was; same_caller = refl; same_number = refl; same_floor = refl }),
)
executes sent node after taken out call was step done e = absurd (none-some done e)

-- all that was asked and executed

-- the caller submitted at least this number of calls
pub record Submitted (callers : List Caller) (number place : ℕ) : Type 0 where
  pub caller : Caller
  pub is_caller : caller_at number callers ≡ Some caller
  pub within : place ≤ length caller.submitted

pub record Asked (callers : List Caller) (sent : List Message) (history : List Done) : Type 0 where
  pub asks : (ask : Ask) → Has sent (AskMessage ask) → Submitted callers ask.caller ask.number
  pub dones : (done : Done) → Has history done → Submitted callers done.caller done.number

submitted_grown : (old new : List Caller) → AllGrown old new → (number place : ℕ) → Submitted old number place → Submitted new number place
submitted_grown old new grown number place s =
    let r = grown number s.caller s.is_caller in
    record {
      caller = r.0;
      is_caller = r.1;
      within = omega (arith, s.within, ap length (r.2).submitted.1 ∙ length-append s.caller.submitted (r.2).submitted.0);
    }

asked_step : (old new : World) → Asked old.callers old.sent old.history → WorldStep old new → Asked new.callers new.sent new.history
asked_step old new asked (WorldStep.Creates links limit id_in none) = asked
asked_step old new asked (WorldStep.Joins links limit id_in some is_new) = asked
asked_step old new asked (WorldStep.Opens number window low high is_new) =
    let blank : Caller = record { number = number; window = window; submitted = []; mine = []; told = []; given_up = [] } in
    record {
      asks = λ ask h. submitted_grown old.callers (old.callers ++ blank ∷ []) (all_grown_pushed old.callers blank) ask.caller ask.number (asked.asks ask h);
      dones = λ done h. submitted_grown old.callers (old.callers ++ blank ∷ []) (all_grown_pushed old.callers blank) done.caller done.number (asked.dones done h);
    }
asked_step old new asked (WorldStep.Calls number caller after taken sent here was step) =
    let grown : Grown caller after = grows caller after taken sent step in
    let is_number : after.number ≡ number = grown.number ∙ callers_by.number number old.callers caller here in
    let at : caller_at after.number old.callers ≡ Some caller = ap (λ n. caller_at n old.callers) is_number ∙ here in
    let all : AllGrown old.callers (put_caller after old.callers) = all_grown_put after old.callers caller at grown in
    record {
      asks = λ ask h. ⊎_elim
          (λ there. submitted_grown old.callers (put_caller after old.callers) all ask.caller ask.number (asked.asks ask there))
          (λ e.
          let s : Sends caller after ask = sends_ask caller after taken sent step ask e in
          record {
            caller = after;
            is_caller = ap (λ n. caller_at n (put_caller after old.callers)) (s.own ∙ sym grown.number) ∙ callers_by.put_same after old.callers caller at;
            within = s.within;
          })
          (has_one old.sent (letter_sent sent) (AskMessage ask) h);
      dones = λ done h. submitted_grown old.callers (put_caller after old.callers) all done.caller done.number (asked.dones done h);
    }
asked_step old new asked (WorldStep.Acts number node after taken sent call here was step) =
    let of_passed : (caller place floor : ℕ) → Passed old.sent caller place floor → Submitted old.callers caller place =
    λ caller place floor p. subst (λ n. Submitted old.callers caller n) p.same_number (subst (λ c. Submitted old.callers c p.ask.number) p.same_caller (asked.asks p.ask p.was)) in
    record {
      asks = λ ask h. ⊎_elim
          (λ there. asked.asks ask there)
          (λ e. of_passed ask.caller ask.number ask.floor (passes old.sent node after taken sent call was step ask e))
          (has_one old.sent sent (AskMessage ask) h);
      dones = λ done h. ⊎_elim
          (λ there. asked.dones done there)
          (λ e. let r = executes old.sent node after taken sent call was step done e in of_passed done.caller done.number r.0 r.1)
          (has_one old.history call done h);
    }

-- in every reachable world
pub asked_reached : (world : World) → Reached world → Asked world.callers world.sent world.history
asked_reached world Stays = record { asks = λ ask h. absurd h; dones = λ done h. absurd h }
asked_reached world (Goes_on {middle = middle} run step) = asked_step middle world (asked_reached middle run) step
