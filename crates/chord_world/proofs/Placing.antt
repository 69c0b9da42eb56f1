-- The numbers of nodes and callers are their indices:
-- a look-up reads an index, and a put writes it.
use Rattle.std.proofs.Common.{◌≡◌, ◌≢◌, ℕ, zero, suc, ◌+◌, ◌≤◌, Option, None, Some, List, [], ◌∷◌, ◌++◌, length, set, find, eqb, refl, ◌∙◌, ap, subst, arith}
use Rattle.std.specs.Prelude.{slice_get}
use Rattle.std.proofs.lemmas.Option.{slice_get_past}
use Rattle.chord_map.proofs.Equal.{eqb_same, eqb_other}
use Rattle.chord_caller.specs.declared.ask.Ask.{Ask}
use Rattle.chord_caller.specs.Caller.{Caller}
use Rattle.chord_model.specs.declared.message.Message.{Message}
use Rattle.chord_model.specs.declared.message.Message.TheVariants.{Ask as AskMessage, Told as ToldMessage, Full as FullMessage, Part as PartMessage, Got as GotMessage, Declined as DeclinedMessage, Note as NoteMessage}
use Rattle.chord_model.specs.Node.{Node}
use Rattle.chord_model.specs.World.{put_in_place, node_at, put_node, caller_at, put_caller}
use Rattle.chord_world.specs.State.{WorldState, NumberedFrom, IsKnown, AreKnown, IsAimed, AreAimed}

-- ---- elements whose numbers are their indices

module _ {A : Type 0} (number_of : A → ℕ) where
  found_at : (start place number : ℕ) (xs : List A) → NumberedFrom number_of start xs → number ≡ start + place → find (λ (x : A). eqb (number_of x) number) xs ≡ slice_get xs place
  found_at start place number [] numbered e = refl
  found_at start zero number (x ∷ rest) numbered e =
      let here : number_of x ≡ number = numbered.0 ∙ omega arith in
      rw (eqb_same (number_of x) number here) refl
  found_at start (suc place) number (x ∷ rest) numbered e =
      let first = numbered.0 in
      let apart : number_of x ≢ number = omega arith in
      rw (eqb_other (number_of x) number apart) (found_at (start + 1) place number rest numbered.1 (omega arith))

  put_at : (start place : ℕ) (x : A) (xs : List A) → NumberedFrom number_of start xs → number_of x ≡ start + place → put_in_place number_of x xs ≡ set xs place x
  put_at start zero x [] numbered e = refl
  put_at start (suc place) x [] numbered e = refl
  put_at start zero x (other ∷ rest) numbered e =
      let here : number_of other ≡ number_of x = numbered.0 ∙ omega arith in
      rw (eqb_same (number_of other) (number_of x) here) refl
  put_at start (suc place) x (other ∷ rest) numbered e =
      let first = numbered.0 in
      let apart : number_of other ≢ number_of x = omega arith in
      rw (eqb_other (number_of other) (number_of x) apart) (ap (λ (xs : List A). other ∷ xs) (put_at (start + 1) place x rest numbered.1 (omega arith)))

  set_at : (start place : ℕ) (x : A) (xs : List A) → NumberedFrom number_of start xs → number_of x ≡ start + place → NumberedFrom number_of start (set xs place x)
  set_at start zero x [] numbered e = tt
  set_at start (suc place) x [] numbered e = tt
  set_at start zero x (other ∷ rest) numbered e = (omega arith, numbered.1)
  set_at start (suc place) x (other ∷ rest) numbered e = (numbered.0, set_at (start + 1) place x rest numbered.1 (omega arith))

  pushed_at : (start : ℕ) (x : A) (xs : List A) → NumberedFrom number_of start xs → number_of x ≡ start + length xs → NumberedFrom number_of start (xs ++ x ∷ [])
  pushed_at start x [] numbered e = (omega arith, tt)
  pushed_at start x (other ∷ rest) numbered e = (numbered.0, pushed_at (start + 1) x rest numbered.1 (omega arith))

  number_at : (start place : ℕ) (x : A) (xs : List A) → NumberedFrom number_of start xs → slice_get xs place ≡ Some x → number_of x ≡ start + place
  number_at start place x [] numbered e = cc
  number_at start zero x (other ∷ rest) numbered e = let same : other ≡ x = cc in subst (λ (y : A). number_of y ≡ start + 0) same (omega (arith, numbered.0))
  number_at start (suc place) x (other ∷ rest) numbered e = let number = number_at (start + 1) place x rest numbered.1 e in omega arith

-- a look-up reads an index, and a put writes it
pub record ByIndex {A : Type 0} (number_of : A → ℕ) (at : ℕ → List A → Option A) (put : A → List A → List A) : Type 0 where
  pub found : (start place number : ℕ) (xs : List A) → NumberedFrom number_of start xs → number ≡ start + place → at number xs ≡ slice_get xs place
  pub put_is : (start place : ℕ) (x : A) (xs : List A) → NumberedFrom number_of start xs → number_of x ≡ start + place → put x xs ≡ set xs place x
  pub numbered_set : (start place : ℕ) (x : A) (xs : List A) → NumberedFrom number_of start xs → number_of x ≡ start + place → NumberedFrom number_of start (set xs place x)
  pub numbered_push : (start : ℕ) (x : A) (xs : List A) → NumberedFrom number_of start xs → number_of x ≡ start + length xs → NumberedFrom number_of start (xs ++ x ∷ [])
  pub number : (start place : ℕ) (x : A) (xs : List A) → NumberedFrom number_of start xs → slice_get xs place ≡ Some x → number_of x ≡ start + place

by_index : {A : Type 0} (number_of : A → ℕ) → ByIndex number_of (λ number xs. find (λ (x : A). eqb (number_of x) number) xs) (put_in_place number_of)
by_index number_of = record {
  found = found_at number_of;
  put_is = put_at number_of;
  numbered_set = set_at number_of;
  numbered_push = pushed_at number_of;
  number = number_at number_of;
}

pub nodes_by : ByIndex (λ (n : Node). n.number) node_at put_node
unfolding node_at put_node
nodes_by = by_index (λ (n : Node). n.number)

pub callers_by : ByIndex (λ (c : Caller). c.number) caller_at put_caller
unfolding caller_at put_caller
callers_by = by_index (λ (c : Caller). c.number)

-- ---- in a world whose fields these are

pub stands_at : {A : Type 0} {number_of : A → ℕ} {at : ℕ → List A → Option A} {put : A → List A → List A} → ByIndex number_of at put → (of : WorldState → List A) (place : ℕ) (view old : WorldState) (x : A)
    → view ≡ old → NumberedFrom number_of 0 (of view) → slice_get (of view) place ≡ Some x → at place (of old) ≡ Some x
stands_at {at = at} numbers of place view old x same numbered here =
    subst (λ (w : WorldState). at place (of w) ≡ Some x) same (numbers.found 0 place place (of view) numbered (omega arith) ∙ here)

pub missing_at : {A : Type 0} {number_of : A → ℕ} {at : ℕ → List A → Option A} {put : A → List A → List A} → ByIndex number_of at put → (of : WorldState → List A) (place : ℕ) (view old : WorldState)
    → view ≡ old → NumberedFrom number_of 0 (of view) → length (of view) ≤ place → at place (of old) ≡ None
missing_at {at = at} numbers of place view old same numbered past =
    subst (λ (w : WorldState). at place (of w) ≡ None) same (numbers.found 0 place place (of view) numbered (omega arith) ∙ slice_get_past (of view) place past)

-- ---- messages

-- with more nodes and callers
pub call_of_more : (nodes more_nodes count more : ℕ) (message : Message) → nodes ≤ more_nodes → count ≤ more → IsKnown nodes count message → IsKnown more_nodes more message
call_of_more nodes more_nodes count more (AskMessage ask) ln le h = omega arith
call_of_more nodes more_nodes count more (ToldMessage told) ln le h = omega arith
call_of_more nodes more_nodes count more (FullMessage caller number) ln le h = omega arith
call_of_more nodes more_nodes count more (PartMessage part) ln le (f, t) = (omega arith, omega arith)
call_of_more nodes more_nodes count more (GotMessage ticket) ln le (f, t) = (omega arith, omega arith)
call_of_more nodes more_nodes count more (DeclinedMessage ticket) ln le (f, t) = (omega arith, omega arith)
call_of_more nodes more_nodes count more (NoteMessage note) ln le h = omega arith

pub calls_of_more : (nodes more_nodes count more : ℕ) (sent : List Message) → nodes ≤ more_nodes → count ≤ more → AreKnown nodes count sent → AreKnown more_nodes more sent
calls_of_more nodes more_nodes count more [] ln le h = tt
calls_of_more nodes more_nodes count more (message ∷ sent) ln le h =
    (call_of_more nodes more_nodes count more message ln le h.0, calls_of_more nodes more_nodes count more sent ln le h.1)

pub calls_pushed : (nodes count : ℕ) (sent : List Message) (message : Message) → AreKnown nodes count sent → IsKnown nodes count message → AreKnown nodes count (sent ++ message ∷ [])
calls_pushed nodes count [] message all here = (here, tt)
calls_pushed nodes count (other ∷ sent) message all here = (all.0, calls_pushed nodes count sent message all.1 here)

pub call_at : (nodes count : ℕ) (sent : List Message) (place : ℕ) (message : Message) → AreKnown nodes count sent → slice_get sent place ≡ Some message → IsKnown nodes count message
call_at nodes count [] place message all e = cc
call_at nodes count (other ∷ sent) zero message all e = let same : other ≡ message = cc in subst (IsKnown nodes count) same all.0
call_at nodes count (other ∷ sent) (suc place) message all e = call_at nodes count sent place message all.1 e

-- ---- where messages go

pub aimed_pushed : (sent : List Message) (targets : List (Option ℕ)) (message : Message) (to : Option ℕ) → AreAimed sent targets → IsAimed message to → AreAimed (sent ++ message ∷ []) (targets ++ to ∷ [])
aimed_pushed [] [] message to all here = (here, tt)
aimed_pushed [] (other ∷ targets) message to all here = absurd all
aimed_pushed (other ∷ sent) [] message to all here = absurd all
aimed_pushed (other ∷ sent) (past ∷ targets) message to all here = (all.0, aimed_pushed sent targets message to all.1 here)

-- an Ask that was sent goes to a node
ask_aimed : (ask : Ask) (to : Option ℕ) → IsAimed (AskMessage ask) to → (node : ℕ) × (to ≡ Some node)
ask_aimed ask None here = absurd here
ask_aimed ask (Some node) here = (node, refl)

pub aimed_at : (sent : List Message) (targets : List (Option ℕ)) (place : ℕ) (ask : Ask) (to : Option ℕ) → AreAimed sent targets → slice_get sent place ≡ Some (AskMessage ask) → slice_get targets place ≡ Some to
    → (node : ℕ) × (to ≡ Some node)
aimed_at [] targets place ask to all e t = cc
aimed_at (message ∷ sent) [] place ask to all e t = absurd all
aimed_at (message ∷ sent) (target ∷ targets) zero ask to all e t =
    let called : message ≡ AskMessage ask = cc in
    let aim : target ≡ to = cc in
    ask_aimed ask to (subst (IsAimed (AskMessage ask)) aim (subst (λ m. IsAimed m target) called all.0))
aimed_at (message ∷ sent) (target ∷ targets) (suc place) ask to all e t = aimed_at sent targets place ask to all.1 e t
