-- Calls that are submitted.
use Rattle.std.proofs.Common.{◌≡◌, ◌≢◌, ℕ, zero, suc, false, ◌<◌, ◌≤◌, Option, None, Some, Ok, Err, List, [], ◌∷◌, ◌++◌, length, map, set, get_or, refl, sym, ◌∙◌, ap, subst, arith}
use Rattle.std.proofs.lemmas.Option.{slice_get_within}
use Rattle.std.proofs.lemmas.List.{length-set}
use Rattle.std.specs.Prelude.{◌==◌, slice_get}
use Rattle.chord_map.specs.declared.request.Request.{Request}
use Rattle.chord_map.specs.declared.request.RequestFault.TheVariants.{KeyEmpty, KeyLong, ValueLong}
use Rattle.chord_caller.specs.declared.ask.Ask.{Ask}
use Rattle.chord_caller.specs.declared.fault.SubmitFault.{SubmitFault}
use Rattle.chord_caller.specs.declared.fault.SubmitFault.TheVariants.{Bad, WindowFull, NumbersSpent, Memory}
use Rattle.chord_caller.specs.Caller.{Caller}
use Rattle.chord_caller.specs.Caller.Letter.{AskLetter}
use Rattle.chord_caller.specs.Answers.{SubmitIs}
use Rattle.chord_caller.proofs.Steps.{submit_steps}
use Rattle.chord_model.specs.declared.message.Message.{Message}
use Rattle.chord_model.specs.declared.message.Message.TheVariants.{Ask as AskMessage}
use Rattle.chord_model.specs.Node.{Node}
use Rattle.chord_model.specs.World.{WorldStep, caller_at, put_caller}
use Rattle.chord_model.specs.World.WorldStep.{Calls}
use Rattle.chord_world.specs.State.{WorldState, IsThere, CallersFrom, AreKnown, IsWorld}
use Rattle.chord_world.specs.declared.refusal.Refusal.{Refusal}
use Rattle.chord_world.specs.Refusals.{refusal_of}
use Rattle.chord_world.specs.Steps.{with_ask, Sends, RefusesCall, RefusesSubmit}
use Rattle.chord_world.specs.Sending.{CanSubmit, SubmitsAt}
use Rattle.chord_world.proofs.Placing.{callers_by, stands_at, missing_at, calls_pushed, aimed_pushed}
use Rattle.chord_world.proofs.Keeping.{further}

-- the submission can fail for memory only
pub submit_memory : (request : Request) (core after : Caller) (fault : SubmitFault) → SubmitIs request core (Err Memory) core → SubmitIs request core (Err fault) after → after ≡ core
submit_memory request core after (Bad KeyEmpty) can refused = absurd (let a = can.0.0.0 in let b = refused.0 in omega arith)
submit_memory request core after (Bad KeyLong) can refused = absurd (let a = can.0.0.1 in let b = refused.0 in omega arith)
submit_memory request core after (Bad ValueLong) can refused = absurd (let a = can.0.1 in let b = refused.0.1 in omega arith)
submit_memory request core after WindowFull can refused = absurd (let a = can.1 in let b = refused.1 in omega arith)
submit_memory request core after NumbersSpent can refused = absurd (let a = can.2 in let b = refused.2 in omega arith)
submit_memory request core after Memory can refused = refused.3

-- what is read at an index
pub got : {A : Type 0} (xs : List A) (place : ℕ) (x : A) → place < length xs → x ≡ get_or xs place x → slice_get xs place ≡ Some x
got [] place x within e = absurd (omega arith)
got (y ∷ xs) zero x within e = ap (λ z. Some z) (sym e)
got (y ∷ xs) (suc place) x within e = got xs place x (omega arith) e

pub slice_get_there : {A : Type 0} (xs : List A) (place : ℕ) → place < length xs → (x : A) × (slice_get xs place ≡ Some x)
slice_get_there [] place within = absurd (omega arith)
slice_get_there (y ∷ xs) zero within = (y, refl)
slice_get_there (y ∷ xs) (suc place) within = slice_get_there xs place (omega arith)

-- and what another list has of it
pub got_of : {A B : Type 0} (f : A → B) (xs : List A) (place : ℕ) (x : A) → place < length xs → x ≡ get_or xs place x → slice_get (map f xs) place ≡ Some (f x)
got_of f [] place x within e = absurd (omega arith)
got_of f (y ∷ xs) zero x within e = ap (λ z. Some (f z)) (sym e)
got_of f (y ∷ xs) (suc place) x within e = got_of f xs place x (omega arith) e

-- writing the element that is there changes nothing
pub set_same : {A : Type 0} (xs : List A) (place : ℕ) (x : A) → slice_get xs place ≡ Some x → set xs place x ≡ xs
set_same [] place x e = cc
set_same (y ∷ xs) zero x e = let same : y ≡ x = cc in ap (λ z. z ∷ xs) (sym same)
set_same (y ∷ xs) (suc place) x e = ap (λ zs. y ∷ zs) (set_same xs place x e)

-- the caller of a number is at its index
pub caller_stands : (caller : ℕ) (view old : WorldState) (core : Caller) → view ≡ old → IsWorld view → slice_get view.world.callers caller ≡ Some core → caller_at caller old.world.callers ≡ Some core
caller_stands caller view old core same kept here = stands_at callers_by (λ (w : WorldState). w.world.callers) caller view old core same kept.callers here

pub caller_missing : (caller : ℕ) (view old : WorldState) → view ≡ old → IsWorld view → length view.world.callers ≤ caller → caller_at caller old.world.callers ≡ None
caller_missing caller view old same kept past = missing_at callers_by (λ (w : WorldState). w.world.callers) caller view old same kept.callers past

-- the caller that was read at an index has that number
pub caller_found : (caller : ℕ) (view old : WorldState) (core : Caller) → view ≡ old → IsWorld view → caller < length view.world.callers → core ≡ get_or view.world.callers caller core
    → caller_at caller old.world.callers ≡ Some core
caller_found caller view old core same kept within is = caller_stands caller view old core same kept (got view.world.callers caller core within is)

pub caller_within : (caller : ℕ) (view old : WorldState) → view ≡ old → IsWorld view → caller < length view.world.callers → (core : Caller) × (caller_at caller old.world.callers ≡ Some core)
caller_within caller view old same kept within =
    let found = slice_get_there view.world.callers caller within in
    (found.0, caller_stands caller view old found.0 same kept found.1)

pub not_zero : (n : ℕ) → false ≡ (n == 0) → 0 < n
not_zero zero e = cc
not_zero (suc n) e = omega arith

-- if a node exists, one was created
pub created : (view old : WorldState) → view ≡ old → 0 < length view.world.nodes → old.world.nodes ≢ []
created view old same some none = let count = ap (λ (w : WorldState). length w.world.nodes) same in let empty = ap (λ (ns : List Node). length ns) none in omega arith

-- from the world to its callers
pub can_submit : (caller via : ℕ) (request : Request) (view old : WorldState) → view ≡ old → IsWorld view → RefusesCall caller via request old Memory → CanSubmit caller request view.world.callers
can_submit caller via request view old same kept may = record {
  core = may.core;
  here = sym (callers_by.found 0 caller caller view.world.callers kept.callers (omega arith)) ∙ ap (λ (w : WorldState). caller_at caller w.world.callers) same ∙ may.there.1;
  can = may.refuses;
}

-- ---- the world after it

pub sent_number : (request : Request) (core after : Caller) (ask : Ask) → SubmitIs request core (Ok ask) after → after.number ≡ core.number
sent_number request core after ask submits = ap (λ (c : Caller). c.number) submits.4

pub sends_step : (caller via : ℕ) (request : Request) (old : WorldState) (core after : Caller) (ask : Ask) → IsThere caller via old core → SubmitIs request core (Ok ask) after
    → WorldStep old.world (with_ask after ask via old).world
sends_step caller via request old core after ask there submits = Calls caller core after None (Some (AskLetter ask)) there.1 tt (submit_steps request core ask after submits)

pub sent_is_world : (caller via : ℕ) (request : Request) (old : WorldState) (core after : Caller) (ask : Ask) → IsThere caller via old core → SubmitIs request core (Ok ask) after
    → IsWorld old → IsWorld (with_ask after ask via old)
sent_is_world caller via request old core after ask there submits kept =
    let here : slice_get old.world.callers caller ≡ Some core = sym (callers_by.found 0 caller caller old.world.callers kept.callers (omega arith)) ∙ there.1 in
    let at = callers_by.number 0 caller core old.world.callers kept.callers here in
    let number : core.number ≡ caller = omega arith in
    let number' : after.number ≡ caller = sent_number request core after ask submits ∙ number in
    let within : caller < length old.world.callers = slice_get_within old.world.callers caller core here in
    let put : put_caller after old.world.callers ≡ set old.world.callers caller after = callers_by.put_is 0 caller after old.world.callers kept.callers (omega arith) in
    let own : ask.caller ≡ caller = submits.3.caller ∙ number in
    let count : length (put_caller after old.world.callers) ≡ length old.world.callers = ap (λ (cs : List Caller). length cs) put ∙ length-set old.world.callers caller after in
    record {
      reached = further old.world (with_ask after ask via old).world kept.reached (sends_step caller via request old core after ask there submits);
      nodes = kept.nodes;
      callers = subst (CallersFrom 0) (sym put) (callers_by.numbered_set 0 caller after old.world.callers kept.callers (omega arith));
      targets = aimed_pushed old.world.sent old.targets (AskMessage ask) (Some via) kept.targets tt;
      calls = subst (λ n. AreKnown (length old.world.nodes) n (old.world.sent ++ AskMessage ask ∷ [])) (sym count) (calls_pushed (length old.world.nodes) (length old.world.callers) old.world.sent (AskMessage ask) kept.calls (omega arith));
      fates = kept.fates;
      crashed = kept.crashed;
      ring = kept.ring;
      low = kept.low;
      high = kept.high;
    }

-- restated in the terms of the code: the callers, the messages and the targets afterwards
abbrev pub posted : List Caller → List Message → List (Option ℕ) → WorldState → WorldState
posted callers sent targets view = record view { world = record view.world { callers = callers; sent = sent }; targets = targets }

pub posted_is : (caller via : ℕ) (request : Request) (view : WorldState) (callers : List Caller) (sent before : List Message) (targets earlier : List (Option ℕ)) (ask : Ask) → IsWorld view
    → (did : SubmitsAt caller request view.world.callers (Ok ask) callers) → sent ≡ before ++ AskMessage ask ∷ [] → before ≡ view.world.sent → targets ≡ earlier ++ Some via ∷ [] → earlier ≡ view.targets
    → posted callers sent targets view ≡ with_ask did.after ask via view
posted_is caller via request view callers sent before targets earlier ask kept did s s' t t' =
    let at = sent_number request did.core did.after ask did.does ∙ callers_by.number 0 caller did.core view.world.callers kept.callers did.here in
    let number : did.after.number ≡ caller = omega arith in
    let put : callers ≡ put_caller did.after view.world.callers = did.new_is ∙ sym (callers_by.put_is 0 caller did.after view.world.callers kept.callers (omega arith)) in
    let messages : sent ≡ view.world.sent ++ AskMessage ask ∷ [] = s ∙ ap (λ (xs : List Message). xs ++ AskMessage ask ∷ []) s' in
    let nodes : targets ≡ view.targets ++ Some via ∷ [] = t ∙ ap (λ (xs : List (Option ℕ)). xs ++ Some via ∷ []) t' in
    λ i. posted (put i) (messages i) (nodes i) view

pub there_of : (caller via : ℕ) (request : Request) (view : WorldState) (ask : Ask) (callers : List Caller) → IsWorld view → via < length view.world.nodes
    → (did : SubmitsAt caller request view.world.callers (Ok ask) callers) → IsThere caller via view did.core
there_of caller via request view ask callers kept node did = (node, callers_by.found 0 caller caller view.world.callers kept.callers (omega arith) ∙ did.here)

pub posted_sends : (caller via number : ℕ) (request : Request) (view old : WorldState) (callers : List Caller) (ask : Ask) (new : WorldState) → view ≡ old → IsWorld view → via < length view.world.nodes
    → (did : SubmitsAt caller request view.world.callers (Ok ask) callers) → number ≡ length view.world.sent → new ≡ with_ask did.after ask via view → Sends caller via request old number new
posted_sends caller via number request view old callers ask new same kept node did at is =
    subst (λ w. Sends caller via request w number new) same
    (record { core = did.core; after = did.after; ask = ask; there = there_of caller via request view ask callers kept node did; submits = did.does; numbered = at; new_is = is })

-- the caller's refusal is that of the step
refused_by : (caller via : ℕ) (request : Request) (old : WorldState) (fault : SubmitFault) → RefusesCall caller via request old fault → RefusesSubmit caller via request old (refusal_of fault)
refused_by caller via request old (Bad fault) h = (Bad fault, refl, h)
refused_by caller via request old WindowFull h = (WindowFull, refl, h)
refused_by caller via request old NumbersSpent h = (NumbersSpent, refl, h)
refused_by caller via request old Memory h = (Memory, refl, h)

pub submit_refused : (caller via : ℕ) (request : Request) (old : WorldState) (fault : SubmitFault) (refusal : Refusal) → refusal ≡ refusal_of fault → RefusesCall caller via request old fault
    → RefusesSubmit caller via request old refusal
submit_refused caller via request old fault refusal e h = subst (RefusesSubmit caller via request old) (sym e) (refused_by caller via request old fault h)

-- all of it, stated over the view of the fields
pub node_there : (caller via : ℕ) (request : Request) (view old : WorldState) → view ≡ old → RefusesCall caller via request old Memory → via < length view.world.nodes
node_there caller via request view old same may = subst (λ (w : WorldState). via < length w.world.nodes) (sym same) may.there.0

pub posted_is_world : (caller via : ℕ) (request : Request) (view : WorldState) (callers : List Caller) (ask : Ask) (new : WorldState) → IsWorld view → via < length view.world.nodes
    → (did : SubmitsAt caller request view.world.callers (Ok ask) callers) → new ≡ with_ask did.after ask via view → IsWorld new
posted_is_world caller via request view callers ask new kept node did is =
    subst IsWorld (sym is) (sent_is_world caller via request view did.core did.after ask (there_of caller via request view ask callers kept node did) did.does kept)

pub posted_step : (caller via : ℕ) (request : Request) (view old : WorldState) (callers : List Caller) (ask : Ask) (new : WorldState) → view ≡ old → IsWorld view → via < length view.world.nodes
    → (did : SubmitsAt caller request view.world.callers (Ok ask) callers) → new ≡ with_ask did.after ask via view → WorldStep old.world new.world
posted_step caller via request view old callers ask new same kept node did is =
    subst (λ (w : WorldState). WorldStep w.world new.world) same
    (subst (λ (w : WorldState). WorldStep view.world w.world) (sym is) (sends_step caller via request view did.core did.after ask (there_of caller via request view ask callers kept node did) did.does))
