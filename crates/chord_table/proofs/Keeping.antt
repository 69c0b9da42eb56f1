-- Each step of the table keeps its rule.
use Rattle.std.proofs.Common.{◌≡◌, ◌≢◌, ℕ, true, false, ◌<◌, arith, List, [], ◌∷◌, ◌++◌, set, zero, suc, Option, None, Some, refl, sym, ap, ◌∙◌, subst, inl, inr, ⊎_elim, Contains, All}
use Rattle.std.proofs.lemmas.List.Elements.{All-append, All-contains, All-weaker, All-cons, All-push, All-nil, All-head, All-tail, Contains-push}
use Rattle.std.proofs.lemmas.List.{get_or_past}
use mathlib.Core.Option.{some, some-ne-none, some-injective}
use lib.ListN.{get_elem?}
use Rattle.atomic_table.specs.Table.{Me, opening, Allows, Enters, Splits, Joins}
use Rattle.chord_caller.specs.Caller.{Caller}
use Rattle.atomic_table.proofs.Lists.{at_set, set_again}
use Rattle.chord_model.specs.declared.message.Message.{Message}
use Rattle.atomic_table.specs.Table.{keeps as keeps_slots}
use Rattle.chord_model.specs.World.{World, node_at}
use Rattle.chord_ring.specs.Steps.{Ring}
use Rattle.chord_table.proofs.Events.{scene_after, scene_with, event_shown, true_entered, all_seen_entered, register_entered, callers_entered}
use Rattle.chord_table.proofs.Later.{later_itself}
use Rattle.chord_table.proofs.Owning.{itself, turned, shown_heir, registrar_heir}
use Rattle.chord_table.proofs.Stays.{Stays, effect_stays, knows_on}
use Rattle.chord_table.proofs.Showing.{IsHeir, shows_changed, shows_added}
use Rattle.chord_table.proofs.Worlds.{IsNew, Comes, ids_with, new_apart, there_entered, may_enter, may_join}
use Rattle.chord_table.specs.Actors.{world_after}
use Rattle.chord_table.specs.Later.{WasThere}
use Rattle.chord_table.specs.Scenes.{Scene, Lived, Agrees, empty_scene, no_ring}
use Rattle.chord_table.specs.Seen.{Actor, OfNode, OfCaller, Sight, View, Admitted, Shown, Together, Witnessed, Sent, Standing, Spent}
use Rattle.chord_table.specs.Views.{TableId, sight_of, OneIs, IsSeenIn, IsTrueOf, HaveOneOwner, Shows, IsKept, IsTrueOfSome, view_of, Register, Assembled, view_of_assembled, with_actor, with_admitted, with_message, testimony, joined_witnesses, MayBecome, MayEnter, MayJoinBehind, known_as, known_in, Stands}

-- a table with a word has more than 0 words
pub some_words : {word words : ℕ} → word < words → 0 < words
some_words at = omega arith

-- two seats of a table, and the table
pub in_table : {mine other table name : TableId} → table ≡ name → mine ≡ name → other ≡ name → 0 < name.words → (mine ≡ table) × (other ≡ table) × (0 < table.words)
in_table named here there many = (here ∙ sym named, there ∙ sym named, subst (λ (t : TableId). 0 < t.words) (sym named) many)

-- what is true of what a seat shows
pub shown_true : {v w : View} {me : Me ℕ View} → me ≡ (v, []) → v ≡ w → IsTrueOfSome me.0 → IsTrueOfSome w
shown_true is same true_of = subst (λ (u : View). IsTrueOfSome u) (ap (λ (m : Me ℕ View). m.0) is ∙ same) true_of

-- a seat that shows this sight is an actor's
pub seated_as : (me : Me ℕ View) (s : Sight) → me ≡ (view_of s, [])
    → me ≡ (view_of (sight_of me.0), [])
seated_as me s is =
    subst (λ (m : Me ℕ View). m ≡ (view_of (sight_of m.0), [])) (sym is) refl

-- after an event the seat shows the actor's new state
pub seated_after : (old next : Me ℕ View) (s : Sight) (new : Actor) → old ≡ (view_of s, [])
    → next ≡ (with_actor new old.0, old.1) → next ≡ (view_of (sight_of next.0), [])
seated_after old next s new is becomes =
    seated_as next (record { actor = new; messages = s.messages })
    (becomes ∙ ap (λ (m : Me ℕ View). (with_actor new m.0, m.1)) is)

no_nodes : Agrees empty_scene
unfolding node_at
no_nodes = record { members = λ number. get_or_past [] number None (omega arith); counted = refl; named = refl; known = λ number none. refl }

-- the registrar's seat alone shows the empty scene
pub begins : (words : List ℕ) → IsKept (opening words [] (Admitted [] [] (known_as [] true []) []))
begins words = (empty_scene, Lived.Begins, no_nodes, record { agrees = agrees; apart = apart })
  where
    agrees : (seat : ℕ) (v : View) → get_elem? (Admitted [] [] (known_as [] true []) [] ∷ []) seat ≡ some v → IsTrueOf empty_scene v
    agrees zero v e = subst (IsTrueOf empty_scene) (some-injective (Admitted [] [] (known_as [] true []) []) v e) (refl, refl, record { ids = refl; premise = refl; principals = All-nil (Stands true no_ring) }, tt, All-nil (IsSeenIn empty_scene))
    agrees (suc seat) v e = absurd (some-ne-none v (sym e))

    apart : (seat other : ℕ) (v u : View) → get_elem? (Admitted [] [] (known_as [] true []) [] ∷ []) seat ≡ some v → get_elem? (Admitted [] [] (known_as [] true []) [] ∷ []) other ≡ some u → HaveOneOwner v u → seat ≡ other
    apart zero zero v u e f one = refl
    apart zero (suc other) v u e f one = absurd (some-ne-none u (sym f))
    apart (suc seat) other v u e f one = absurd (some-ne-none v (sym e))

nobodys : (message : Message) (u : View) → HaveOneOwner u (Sent message) → ⊥
nobodys message (Admitted _ _ _ _) h = h
nobodys message (Shown _ _) h = h
nobodys message (Together _) h = h
nobodys message (Witnessed _) h = h
nobodys message (Sent _) h = h
nobodys message (Standing _) h = h
nobodys message Spent h = h

pub spent_has_none : (u : View) → HaveOneOwner u Spent → ⊥
spent_has_none (Admitted _ _ _ _) h = h
spent_has_none (Shown _ _) h = h
spent_has_none (Together _) h = h
spent_has_none (Witnessed _) h = h
spent_has_none (Sent _) h = h
spent_has_none (Standing _) h = h
spent_has_none Spent h = h

witness_has_none : (callers : List Caller) (u : View) → HaveOneOwner u (Witnessed callers) → ⊥
witness_has_none callers (Admitted _ _ _ _) h = h
witness_has_none callers (Shown _ _) h = h
witness_has_none callers (Together _) h = h
witness_has_none callers (Witnessed _) h = h
witness_has_none callers (Sent _) h = h
witness_has_none callers (Standing _) h = h
witness_has_none callers Spent h = h

-- an event that sends nothing, or whose message is lost, at any word
pub local_as : (slots id word : ℕ) (me : Me ℕ View) (s : Sight) (new : Actor) (f : ℕ → ℕ) → me ≡ (view_of s, []) → (sent : Option Message) × MayBecome s.actor s.messages new sent
    → Allows IsKept slots id me word f (λ found m. m ≡ (with_actor new me.0, me.1))
local_as slots id word me s new f is (sent, (taken, call, known, event, keeps)) =
    subst (λ (m : Me ℕ View). Allows IsKept slots id m word f (λ found w. w ≡ (with_actor new m.0, m.1))) (sym is) allowed
  where
    allowed : Allows IsKept slots id (view_of s, []) word f (λ found w. w ≡ (Shown new s.messages, []))
    allowed t (scene, lived, agrees, shows) len at fits =
        let next = event_shown scene t.views id s.actor new s.messages taken sent call lived agrees shows at known event keeps in
        (Shown new s.messages, keeps_slots, tt, (scene_after scene new sent call scene.ring, next.0, next.1, next.2), refl)

-- an event whose message gets a new seat
pub send_as : (id : ℕ) (me : Me ℕ View) (s : Sight) (new : Actor) (message : Message) → me ≡ (view_of s, []) → MayBecome s.actor s.messages new (Some message)
    → Splits IsKept id me.0 (with_actor new me.0) (Sent message)
send_as id me s new message is (taken, call, known, event, keeps) =
    subst (λ (m : Me ℕ View). Splits IsKept id m.0 (with_actor new m.0) (Sent message)) (sym is) allowed
  where
    was_sent : (world : World) (actor : Actor) → Contains (world_after world actor (Some message) call).sent message
    was_sent world (OfNode node out) = Contains-push world.sent message
    was_sent world (OfCaller caller) = Contains-push world.sent message

    allowed : Splits IsKept id (view_of s) (Shown new s.messages) (Sent message)
    allowed t (scene, lived, agrees, shows) at =
        let next = event_shown scene t.views id s.actor new s.messages taken (Some message) call lived agrees shows at known event keeps in (
          scene_after scene new (Some message) call scene.ring,
          next.0,
          next.1,
          shows_added (scene_after scene new (Some message) call scene.ring) (set t.views id (Shown new s.messages)) (Sent message) next.2 (was_sent scene.world new) (λ seat u e. (nobodys message u, λ h. h)),
        )

-- the world has no actor with the number of a new one
none_is_new : (scene : Scene) (new : Actor) → IsNew scene.world new → (taken : List Sight) → All (IsSeenIn scene) taken → OneIs taken new → ⊥
none_is_new scene new none [] all h = h
none_is_new scene new none (sight ∷ rest) all (inl h) = new_apart scene.world new sight.actor none (All-head (IsSeenIn scene) sight rest all).0.0 h
none_is_new scene new none (sight ∷ rest) all (inr h) = none_is_new scene new none rest (All-tail (IsSeenIn scene) sight rest all) h

-- a view that is true has no owner with the number of a new actor
pub not_there : (scene : Scene) (new : Actor) (messages : List Message) → IsNew scene.world new → (u : View) → IsTrueOf scene u
    → (HaveOneOwner u (Shown new messages) → ⊥) × (HaveOneOwner (Shown new messages) u → ⊥)
not_there scene new messages none (Admitted _ _ _ taken) (nodes, callers, named, differ, all) = (none_is_new scene new none taken all, none_is_new scene new none taken all)
not_there scene new messages none (Shown other _) h = (new_apart scene.world new other none h.0.0, (λ one. new_apart scene.world new other none h.0.0 (turned new other one)))
not_there scene new messages none (Together sights) (differ, all) = (none_is_new scene new none sights all, none_is_new scene new none sights all)
not_there scene new messages none (Witnessed _) h = ((λ x. x), (λ x. x))
not_there scene new messages none (Sent _) h = ((λ x. x), (λ x. x))
not_there scene new messages none (Standing _) h = ((λ x. x), (λ x. x))
not_there scene new messages none Spent h = ((λ x. x), (λ x. x))

-- an actor that enters gets a new seat
enter_as : (id : ℕ) (new : Actor) (me : Me ℕ View) (a : Assembled) → me ≡ (view_of_assembled a, []) → ((scene : Scene) → Agrees scene → IsTrueOf scene (view_of_assembled a) → Comes scene new)
    → Splits IsKept id me.0 (with_admitted new me.0) (Shown new [])
enter_as id new me a is may =
    subst (λ (m : Me ℕ View). Splits IsKept id m.0 (with_admitted new m.0) (Shown new [])) (sym is) allowed
  where
    register : Register
    register = a.register

    old_view : View
    old_view = view_of_assembled a

    listed : (scene : Scene) (actor : Actor) (ring : Ring) → IsNew scene.world actor → ring.ids ≡ ids_with actor scene.ring.ids → Stays scene.premise scene.ring ring → IsTrueOf scene old_view
        → IsTrueOf (scene_with scene actor ring) (with_admitted actor old_view)
    listed scene (OfNode node out) ring none names stays (nodes, callers, named, differ, others) =
        (register_entered scene.world register.nodes node nodes, callers, record { ids = names ∙ ap (λ ids. ids ++ node.links.me.id.number ∷ []) named.ids; premise = named.premise; principals = All-weaker (Stands scene.premise scene.ring) (Stands scene.premise ring) stays register.principals named.principals }, differ, all_seen_entered scene (OfNode node out) ring a.taken none others)
    listed scene (OfCaller caller) ring none names stays (nodes, callers, named, differ, others) =
        (nodes, callers_entered scene.world register.callers caller callers, knows_on scene (scene_with scene (OfCaller caller) ring) (known_in register) names refl stays named, differ, all_seen_entered scene (OfCaller caller) ring a.taken none others)

    no_actors : (actor : Actor) → (OneIs a.taken new → ⊥) → (HaveOneOwner (with_admitted actor old_view) (Shown new []) → ⊥) × (HaveOneOwner (Shown new []) (with_admitted actor old_view) → ⊥)
    no_actors (OfNode node out) none = (none, none)
    no_actors (OfCaller caller) none = (none, none)

    alone : (views : List View) (scene : Scene) → IsNew scene.world new → Shows scene views → (OneIs a.taken new → ⊥) → (seat : ℕ) (u : View) → get_elem? (set views id (with_admitted new old_view)) seat ≡ some u
        → (HaveOneOwner u (Shown new []) → ⊥) × (HaveOneOwner (Shown new []) u → ⊥)
    alone views scene none shows untaken seat u e = ⊎_elim
        (λ (x : (seat ≡ id) × (with_admitted new old_view ≡ u)). subst (λ (v : View). (HaveOneOwner v (Shown new []) → ⊥) × (HaveOneOwner (Shown new []) v → ⊥)) x.1 (no_actors new untaken))
        (λ (x : (seat ≢ id) × (get_elem? views seat ≡ some u)). not_there scene new [] none u (shows.agrees seat u x.1))
        (at_set views id seat (with_admitted new old_view) u e)

    heir : (actor : Actor) → IsHeir old_view (with_admitted actor old_view)
    heir (OfNode node out) = registrar_heir register.nodes register.callers (known_in register) a.taken
        (register.nodes ++ node.number ∷ []) register.callers
        (known_as (register.ids ++ node.links.me.id.number ∷ []) register.premise register.principals)
        a.taken (λ actor one. one)
    heir (OfCaller caller) = registrar_heir register.nodes register.callers (known_in register) a.taken
        register.nodes (register.callers ++ caller.number ∷ []) (known_in register) a.taken (λ actor one. one)

    allowed : Splits IsKept id old_view (with_admitted new old_view) (Shown new [])
    allowed s (scene, lived, agrees, shows) at =
        let true = shows.agrees id old_view at in
        let enters = may scene agrees true in
        let ring = enters.ring in
        let stays = effect_stays scene ring lived enters.effect in
        let next : Scene = scene_with scene new ring in
        let (nodes, callers, named, differ, taken) = true in
        let untaken = none_is_new scene new enters.none a.taken taken in
        let all = shows_changed scene next s.views id old_view (with_admitted new old_view) shows at (heir new) (listed scene new ring enters.none enters.named stays true)
        (λ seat u apart e. true_entered scene new ring register.nodes register.callers (known_in register) a.taken enters.none stays u (λ one. apart (shows.apart seat id u old_view e at one)) (shows.agrees seat u e)) in (
          next,
          Lived.Goes_on lived enters.step refl refl enters.effect enters.agrees,
          enters.agrees,
          shows_added next (set s.views id (with_admitted new old_view)) (Shown new []) all
              ((there_entered scene.world new enters.none, All-nil (Contains next.world.sent)), enters.standing) (alone s.views scene enters.none shows untaken),
        )

-- a new actor gets a new seat
pub admit_as : (id : ℕ) (new : Actor) (me : Me ℕ View) (a : Assembled) → me ≡ (view_of_assembled a, [])
    → MayEnter a.register new → Splits IsKept id me.0 (with_admitted new me.0) (Shown new [])
admit_as id new me a is may =
    enter_as id new me a is (λ scene agrees true. may_enter scene a new agrees true may)

-- a node that joins behind the member whose seat was taken in gets a new seat
pub join_as : (id : ℕ) (new : Actor) (me : Me ℕ View) (a : Assembled) → me ≡ (view_of_assembled a, []) → MayJoinBehind a new
    → Splits IsKept id me.0 (with_admitted new me.0) (Shown new [])
join_as id (OfCaller caller) me a is may = absurd may
join_as id (OfNode node out) me a is (others, pred, messages, last, stands, may) =
    enter_as id (OfNode node out) me a is (λ scene agrees true. enters scene agrees true)
  where
    enters : (scene : Scene) → Agrees scene → IsTrueOf scene (view_of_assembled a) → Comes scene (OfNode node out)
    enters scene agrees (nodes, callers, named, differ, all) =
        let sight : Sight = record { actor = OfNode pred false; messages = messages } in
        let seen : IsSeenIn scene sight = All-contains (IsSeenIn scene) a.taken sight all
        (subst (λ (l : List Sight). Contains l sight) (sym last) (Contains-push others sight)) in
        subst (λ gone. Comes scene (OfNode node gone)) (sym stands) (may_join scene a.register pred node messages agrees nodes named.ids seen may)

pub spends : (other : ℕ) (w : Scene) (views : List View) → Shows w views → Shows w (set views other Spent)
spends other w views shows = record {
  agrees = λ seat u e. ⊎_elim
      (λ (x : (seat ≡ other) × (Spent ≡ u)). subst (IsTrueOf w) x.1 tt)
      (λ (x : (seat ≢ other) × (get_elem? views seat ≡ some u)). shows.agrees seat u x.1)
      (at_set views other seat Spent u e);
  apart = λ seat next u t e f one. ⊎_elim
      (λ (x : (seat ≡ other) × (Spent ≡ u)). absurd (subst (λ (v : View). HaveOneOwner v t → ⊥) x.1 (λ h. h) one))
      (λ (x : (seat ≢ other) × (get_elem? views seat ≡ some u)). ⊎_elim
      (λ (y : (next ≡ other) × (Spent ≡ t)). absurd (subst (λ (v : View). HaveOneOwner u v → ⊥) y.1 (spent_has_none u) one))
      (λ (y : (next ≢ other) × (get_elem? views next ≡ some t)). shows.apart seat next u t x.1 y.1 one)
      (at_set views other next Spent t f))
      (at_set views other seat Spent u e);
}

-- what is allowed of the views that two seats show is allowed of the seats
pub joins_as : (id other : ℕ) (me you : Me ℕ View) (v u : View) (both : View → View → View) → me ≡ (v, []) → you ≡ (u, []) → Joins IsKept id v other u (both v u) Spent
    → Joins IsKept id me.0 other you.0 (both me.0 you.0) Spent
joins_as id other me you v u both is came allowed =
    subst (λ (m : Me ℕ View). Joins IsKept id m.0 other you.0 (both m.0 you.0) Spent) (sym is)
    (subst (λ (y : Me ℕ View). Joins IsKept id v other y.0 (both v y.0) Spent) (sym came) allowed)

-- an actor takes in a message that was sent
pub receive_as : (id other : ℕ) (me you : Me ℕ View) (s : Sight) (message : Message) → me ≡ (view_of s, []) → you ≡ (Sent message, [])
    → Joins IsKept id me.0 other you.0 (with_message me.0 you.0) Spent
receive_as id other me you s message is came = joins_as id other me you (view_of s) (Sent message) with_message is came allowed
  where
    allowed : Joins IsKept id (view_of s) other (Sent message) (Shown s.actor (s.messages ++ message ∷ [])) Spent
    allowed t (w, lived, agrees, shows) at apart there =
        let both : View = Shown s.actor (s.messages ++ message ∷ []) in
        let mine = shows.agrees id (view_of s) at in
        let was_sent : IsTrueOf w (Sent message) = ⊎_elim
        (λ (x : (other ≡ id) × (both ≡ Sent message)). absurd (apart x.0))
        (λ (x : (other ≢ id) × (get_elem? t.views other ≡ some (Sent message))). shows.agrees other (Sent message) x.1)
        (at_set t.views id other both (Sent message) there) in
        let first = shows_changed w w t.views id (view_of s) both shows at (shown_heir s.actor s.actor s.messages (s.messages ++ message ∷ []) (itself s.actor))
        ((mine.0.0, All-push (Contains w.world.sent) s.messages message mine.0.1 was_sent), mine.1)
        (λ seat u _ e. shows.agrees seat u e) in
        (w, lived, agrees, spends other w (set t.views id both) first)

-- a look at any word
pub look_at : (slots id word : ℕ) (me : Me ℕ View) (v : View) (f : ℕ → ℕ) → me ≡ (v, [])
    → Allows IsKept slots id me word f (λ found m. (m ≡ me) × IsTrueOfSome me.0)
look_at slots id word me v f is =
    subst (λ (m : Me ℕ View). Allows IsKept slots id m word f (λ found w. (w ≡ m) × IsTrueOfSome m.0)) (sym is) allowed
  where
    allowed : Allows IsKept slots id (v, []) word f (λ found w. (w ≡ (v, [])) × IsTrueOfSome v)
    allowed s (w, lived, agrees, shows) len at fits =
        (v, keeps_slots, tt, (w, lived, agrees, subst (Shows w) (sym (set_again s.views id v at)) shows), (refl, (w, lived, agrees, shows.agrees id v at)))

-- a new witness of no caller gets a new seat
pub attend_as : (slots word : ℕ) → Enters IsKept slots word (λ found w. ◌≡◌ {A = Me ℕ View} (w, []) (Witnessed [], []))
attend_as slots word t (scene, lived, agrees, shows) len fits = (
  Witnessed [],
  (scene, lived, agrees, shows_added scene t.views (Witnessed []) shows (All-nil (WasThere scene.world)) (λ seat u e. (witness_has_none [] u, λ h. h))),
  refl,
)

-- a caller's seat gives a witness of what it shows
-- a seat of a table may look
pub may_look : {mine table name : TableId} {slots id word : ℕ} {me : Me ℕ View} {v : View} (f : ℕ → ℕ) → table ≡ name → mine ≡ name → 0 < name.words → me ≡ (v, [])
    → (mine ≡ table) × (0 < table.words) × Allows IsKept slots id me word f (λ found m. (m ≡ me) × IsTrueOfSome me.0)
may_look {slots = slots} {id = id} {word = word} {me = me} {v = v} f named here many is =
    let at = in_table named here here many in (at.0, at.2, look_at slots id word me v f is)

pub testify_as : (id : ℕ) (me : Me ℕ View) (s : Sight) (caller : Caller) → me ≡ (view_of s, []) → s.actor ≡ OfCaller caller → Splits IsKept id me.0 me.0 (testimony me.0)
testify_as id me s caller is calls =
    subst (λ (m : Me ℕ View). Splits IsKept id m.0 m.0 (testimony m.0)) (sym (is ∙ ap (λ actor. (Shown actor s.messages, [])) calls)) allowed
  where
    allowed : Splits IsKept id (Shown (OfCaller caller) s.messages) (Shown (OfCaller caller) s.messages) (Witnessed (caller ∷ []))
    allowed t (scene, lived, agrees, shows) at =
        let view : View = Shown (OfCaller caller) s.messages in
        let mine = shows.agrees id view at in (
          scene,
          lived,
          agrees,
          shows_added scene (set t.views id view) (Witnessed (caller ∷ [])) (subst (Shows scene) (sym (set_again t.views id view at)) shows)
              (All-cons (WasThere scene.world) caller [] (caller, mine.0.0, later_itself caller) (All-nil (WasThere scene.world)))
              (λ seat u e. (witness_has_none (caller ∷ []) u, λ h. h)),
        )

-- one witness takes in another
pub gather_as : (id other : ℕ) (me you : Me ℕ View) (callers more : List Caller) → me ≡ (Witnessed callers, []) → you ≡ (Witnessed more, [])
    → Joins IsKept id me.0 other you.0 (joined_witnesses me.0 you.0) Spent
gather_as id other me you callers more is came = joins_as id other me you (Witnessed callers) (Witnessed more) joined_witnesses is came allowed
  where
    heir : IsHeir (Witnessed callers) (Witnessed (callers ++ more))
    heir = record { left = λ u h. h; right = λ u h. absurd (witness_has_none (callers ++ more) u h) }

    allowed : Joins IsKept id (Witnessed callers) other (Witnessed more) (Witnessed (callers ++ more)) Spent
    allowed t (w, lived, agrees, shows) at apart there =
        let both : View = Witnessed (callers ++ more) in
        let others : All (WasThere w.world) more = ⊎_elim
        (λ (x : (other ≡ id) × (both ≡ Witnessed more)). absurd (apart x.0))
        (λ (x : (other ≢ id) × (get_elem? t.views other ≡ some (Witnessed more))). shows.agrees other (Witnessed more) x.1)
        (at_set t.views id other both (Witnessed more) there) in
        let first = shows_changed w w t.views id (Witnessed callers) both shows at heir
        (All-append (WasThere w.world) callers more (shows.agrees id (Witnessed callers) at) others)
        (λ seat u _ e. shows.agrees seat u e) in
        (w, lived, agrees, spends other w (set t.views id both) first)
