-- The numbers of actors, which no event changes.
use Rattle.std.proofs.Common.{◌≡◌, ◌≢◌, ℕ, ◌+◌, eqb, Option, None, List, [], ◌∷◌, find, map, Contains, ⊎_elim, inl, inr, refl, sym, ap}
use Rattle.chord_caller.specs.Caller.{Caller, CallerStep, Letter}
use Rattle.chord_map.proofs.Lists.{has_contained, contains_has}
use Rattle.chord_model.specs.declared.message.Message.{Message}
use Rattle.chord_model.specs.Node.{Node, NodeStep}
use Rattle.chord_model.specs.World.{put_in_place, put_node, put_caller}
use Rattle.chord_map.proofs.Equal.{same_or_not, eqb_same, eqb_other}
use Rattle.chord_map.specs.declared.done.Done.{Done}
use Rattle.chord_table.specs.Actors.{AreOne, Event}
use Rattle.chord_table.specs.Seen.{Actor}

same_node : (old new : Node) (taken sent : Option Message) (call : Option Done) → NodeStep old taken new sent call → old.number ≡ new.number
same_node old new taken sent call (NodeStep.Tells_again ask segment done found past) = refl
same_node old new taken sent call (NodeStep.Drops_seen ask segment found past) = refl
same_node old new taken sent call (NodeStep.Executes ask segment found past) = refl
same_node old new taken sent call (NodeStep.Answers_full ask segment found past adds full) = refl
same_node old new taken sent call (NodeStep.Forwards ask hops none fewer) = refl
same_node old new taken sent call (NodeStep.Drops ask none) = refl
same_node old new taken sent call (NodeStep.Got_again part to low) = refl
same_node old new taken sent call (NodeStep.Declines part to high phase) = refl
same_node old new taken sent call (NodeStep.Buffers part to next phase) = refl
same_node old new taken sent call (NodeStep.Takes part handover to next phase whole) = refl
same_node old new taken sent call (NodeStep.Waits part to high phase) = refl
same_node old new taken sent call (NodeStep.Frees ticket from) = refl
same_node old new taken sent call (NodeStep.Takes_back ticket item from found) = refl
same_node old new taken sent call (NodeStep.Keeps ticket from) = refl
same_node old new taken sent call (NodeStep.Cuts place segment at got within cut) = refl
same_node old new taken sent call (NodeStep.Joins place first place_behind second got_first got_second apart meet cut) = refl
same_node old new taken sent call (NodeStep.Gives place segment to got) = refl
same_node old new taken sent call (NodeStep.Gives_again to number part item found from within) = refl
same_node old new taken sent call (NodeStep.Links_change links same) = refl
same_node old new taken sent call (NodeStep.Leaves phase) = refl
same_node old new taken sent call (NodeStep.Retires phase nothing empty) = refl

same_caller : (old new : Caller) (taken sent : Option Letter) → CallerStep old taken new sent → old.number ≡ new.number
same_caller old new taken sent (CallerStep.Submits request ask low now) = refl
same_caller old new taken sent (CallerStep.Repeats number submission ask at waits now) = refl
same_caller old new taken sent (CallerStep.Takes told request fresh) = refl
same_caller old new taken sent (CallerStep.Gives_up given submission at waits) = refl
same_caller old new taken sent (CallerStep.Ignores told none) = refl
same_caller old new taken sent (CallerStep.Hears_full caller number) = refl
same_caller old new taken sent CallerStep.Shows = refl
same_caller old new taken sent (CallerStep.Meets note) = refl

-- an event keeps its actor's number
pub one_actor : (old new : Actor) (taken sent : Option Message) (call : Option Done) → Event old taken new sent call → AreOne old new
one_actor _ _ _ _ _ (Event.Acts {old = old} {new = new} {taken = taken} {sent = sent} {done = call} step) = same_node old new taken sent call step
one_actor _ _ _ _ _ (Event.Calls {old = old} {new = new} {taken = taken} {sent = sent} step) = same_caller old new taken sent step

-- a number that no element has is not found
pub absent : {A : Type 0} (number_of : A → ℕ) (xs : List A) (number : ℕ) → (Contains (map number_of xs) number → ⊥) → find (λ x. eqb (number_of x) number) xs ≡ None
absent number_of [] number none = refl
absent number_of (x ∷ xs) number none =
    rw (eqb_other (number_of x) number (λ same. none (contains_has (map number_of (x ∷ xs)) number (inl same))))
    (absent number_of xs number (λ there. none (contains_has (map number_of (x ∷ xs)) number (inr (has_contained (map number_of xs) number there)))))

-- a put leaves the numbers as they were
same_numbers : {A : Type 0} (number_of : A → ℕ) (x : A) (xs : List A) → map number_of (put_in_place number_of x xs) ≡ map number_of xs
same_numbers number_of x [] = refl
same_numbers number_of x (other ∷ xs) =
    ⊎_elim
    (λ (same : number_of other ≡ number_of x). rw (eqb_same (number_of other) (number_of x) same) (ap (λ n. n ∷ map number_of xs) (sym same)))
    (λ (apart : number_of other ≢ number_of x). rw (eqb_other (number_of other) (number_of x) apart) (ap (λ ns. number_of other ∷ ns) (same_numbers number_of x xs)))
    (same_or_not (number_of other) (number_of x))

pub node_put : (node : Node) (nodes : List Node) → map (λ (n : Node). n.number) (put_node node nodes) ≡ map (λ (n : Node). n.number) nodes
unfolding put_node
node_put = same_numbers (λ (n : Node). n.number)

pub caller_put : (caller : Caller) (callers : List Caller) → map (λ (c : Caller). c.number) (put_caller caller callers) ≡ map (λ (c : Caller). c.number) callers
unfolding put_caller
caller_put = same_numbers (λ (c : Caller). c.number)
