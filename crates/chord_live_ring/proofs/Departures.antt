-- Seats that were taken in for a departure, and are given back.
use Rattle.std.proofs.Common.{◌≡◌, ◌≢◌, ⊎_elim, ℕ, ◌+◌, ◌≤◌, Contains, Bool, true, false, Option, Some, None, Result, Ok, Err, OnOk, OnErr, List, [], ◌∷◌, ◌++◌, map, refl, sym, ap, ◌∙◌, subst, arith, length, length-append, append-nil, append_assoc}
use Rattle.std.specs.Prelude.{◌==◌, ◌||◌, if◌then◌else◌, IsTrue, is_some}
use Rattle.std.proofs.lemmas.Bool.{true≢false}
use Rattle.std.proofs.lemmas.List.{map-append}
use Rattle.std.proofs.lemmas.List.Elements.{Contains-append_left, Contains-push}
use Rattle.chord_caller.specs.Caller.{Caller}
use Rattle.chord_links.specs.NodeLinks.{NodeLinks}
use Rattle.chord_live_ring.proofs.Gathering.{callers_without}
use Rattle.chord_live_ring.specs.Departures.{IsLeaving, LeavesEmpty, RetireFaultIs, crashed_after, node_after, seated_after}
use Rattle.chord_live_ring.specs.Seats.{IsSeatOf, messages_in}
use Rattle.chord_live_ring.specs.declared.fault.DepartFault.{DepartFault}
use Rattle.chord_live_ring.specs.Sights.{Seated}
use Rattle.chord_sight.specs.declared.counts.NodeCounts.{NodeCounts}
use Rattle.chord_live_steps.specs.Counts.{Counts}
use Rattle.chord_live_steps.specs.Departures.{AreOut, MayDepart, departed, number_of, row_of, rows_among, with_row}
use Rattle.chord_live_steps.specs.declared.departure.Departure.{Departure}
use Rattle.chord_live_steps.specs.declared.departure.Departure.TheVariants.{Crash, Retire}
use Rattle.chord_map.proofs.Equal.{eqb_other, same_or_not}
use Rattle.chord_model.specs.declared.message.Message.{Message}
use Rattle.chord_model.specs.declared.phase.Phase.TheVariants.{Gone, Leaving}
use Rattle.chord_model.specs.Node.{Node}
use Rattle.chord_ring.specs.declared.member_row.MemberRow.{MemberRow}
use Rattle.chord_ring.specs.Rows.{row_at}
use Rattle.chord_table.proofs.Giving.{last_of_push, all_but_push}
use Rattle.chord_table.specs.Scenes.{links_in, place_of}
use Rattle.chord_table.specs.Seen.{Actor, OfNode, OfCaller, Sight}
use Rattle.chord_table.specs.Views.{MayRetire, NodeSight, all_but_last, as_actor, as_node, callers_among, crashed_in, gone_if, last_of, node_in, with_caller}

-- ---- the last seat

-- the last seat, once each was changed
pub last_changed : (f : Sight → Sight) (taken : List Sight) (s : Sight) → last_of (map f (taken ++ s ∷ [])) ≡ f s
last_changed f taken s = ap last_of (map-append f taken (s ∷ [])) ∙ last_of_push (map f taken) (f s)

-- those before it
pub others_changed : (f : Sight → Sight) (taken : List Sight) (s : Sight) → all_but_last (map f (taken ++ s ∷ [])) ≡ map f taken
others_changed f taken s = ap all_but_last (map-append f taken (s ∷ [])) ∙ all_but_push (map f taken) (f s)

-- there are some
pub some_behind : (taken : List Sight) (s : Sight) → taken ++ s ∷ [] ≢ []
some_behind [] s = λ e. cc
some_behind (first ∷ rest) s = λ e. cc

pub some_changed : (f : Sight → Sight) (taken : List Sight) (s : Sight) → map f (taken ++ s ∷ []) ≢ []
some_changed f [] s = λ e. cc
some_changed f (first ∷ rest) s = λ e. cc

-- ---- what departs

-- what the seat of a node shows, once a node departed
abbrev pub shown_after : Departure → NodeSight → NodeSight
shown_after departure seat = record seat {
  node = node_after departure seat.node;
  crashed = crashed_after departure seat.node.number seat.crashed;
}

pub departs_so : (departure : Departure) (seat : NodeSight) → departed departure (as_actor seat) ≡ as_actor (shown_after departure seat)
departs_so (Crash number) seat = refl
departs_so (Retire number) seat = refl

-- a node that is not the one that departs stays as it is
pub stays_node : (departure : Departure) (node : Node) → number_of departure ≢ node.number → node ≡ node_after departure node
stays_node (Crash number) node apart = refl
stays_node (Retire number) node apart = rw (eqb_other number node.number apart) refl

pub stays_crashed : (departure : Departure) (own : ℕ) (crashed : Bool) → number_of departure ≢ own → crashed ≡ crashed_after departure own crashed
stays_crashed (Crash number) own crashed apart = rw (eqb_other number own apart) refl
stays_crashed (Retire number) own crashed apart = refl

-- ---- who may depart

-- the node is a leaving member that is empty, if it is the one that is to retire
abbrev pub CanGo : Departure → Seated → Type 0
CanGo (Crash number) seated = Unit {0}
CanGo (Retire number) seated = number ≡ seated.node.number → IsLeaving seated × (seated.node.held ≡ []) × (seated.node.outbox ≡ [])

pub can_go : (departure : Departure) (seated : Seated) (found : Option DepartFault) → (departure ≡ Retire seated.node.number → RetireFaultIs seated found)
    → ((fault : DepartFault) → found ≡ Some fault → ⊥) → CanGo departure seated
can_go (Crash number) seated found tells none = tt
can_go (Retire number) seated None tells none = λ same. tells (ap Retire same)
can_go (Retire number) seated (Some fault) tells none = absurd (none fault refl)

pub leaves_empty : (departure : Departure) (seated : Seated) (node : Node) → seated.node ≡ node → CanGo departure seated → LeavesEmpty departure node
leaves_empty departure seated node is can = subst (λ (n : Node). LeavesEmpty departure n) is (by_kind departure can)
  where
    by_kind : (d : Departure) → CanGo d seated → LeavesEmpty d seated.node
    by_kind (Crash number) can = tt
    by_kind (Retire number) can = λ same. ((can same).0.1, (can same).1, (can same).2)

-- ---- rows

-- a node that is no member has no row
pub no_row : (rows : List MemberRow) (number : ℕ) (place : Option NodeLinks) → None ≡ place → rows ≡ rows ++ row_of number place
no_row rows number None none = sym (append-nil rows)
no_row rows number (Some links) none = cc

-- with one row more, or none
pub few_next : (board posted : List MemberRow) (number at : ℕ) (place : Option NodeLinks) → length board ≤ at → posted ≡ board ++ row_of number place → length posted ≤ at + 1
few_next board posted number at None few is = let e = ap length is ∙ length-append board [] in omega (arith, few, e)
few_next board posted number at (Some links) few is =
    let e = ap length is ∙ length-append board (record { number = number; links = links } ∷ []) in omega (arith, few, e)

-- another number has the row that it had
row_elsewhere : (rows : List MemberRow) (number own : ℕ) (place : Option NodeLinks) → own ≢ number → row_at number (rows ++ row_of own place) ≡ row_at number rows
row_elsewhere [] number own None apart = refl
row_elsewhere [] number own (Some links) apart = rw (eqb_other own number apart) refl
row_elsewhere (row ∷ rows) number own place apart =
    ap (λ (found : Option NodeLinks). if row.number == number then Some row.links else found) (row_elsewhere rows number own place apart)

-- what is put in front of the first part is in front of both
row_in_front : (actor : Actor) (xs ys : List MemberRow) → with_row actor (xs ++ ys) ≡ with_row actor xs ++ ys
row_in_front (OfNode node crashed) xs ys = sym (append_assoc (row_of node.number (place_of crashed node)) xs ys)
row_in_front (OfCaller caller) xs ys = refl

-- the rows with one more seat
pub rows_pushed : (taken : List Sight) (seat : NodeSight) → rows_among (taken ++ as_actor seat ∷ []) ≡ rows_among taken ++ row_of seat.node.number (place_of seat.crashed seat.node)
rows_pushed [] seat = append-nil (row_of seat.node.number (place_of seat.crashed seat.node))
rows_pushed (sight ∷ rest) seat =
    ap (λ (rows : List MemberRow). with_row sight.actor rows) (rows_pushed rest seat)
    ∙ row_in_front sight.actor (rows_among rest) (row_of seat.node.number (place_of seat.crashed seat.node))

-- so the board has them once the node is posted
pub rows_next : (numbers took : Counts) (board posted : List MemberRow) (node : Node) (crashed : Bool) (seat : NodeSight)
    → took ≡ record numbers { taken = numbers.taken ++ as_actor seat ∷ [] } → board ≡ rows_among numbers.taken → node ≡ seat.node → crashed ≡ seat.crashed
    → posted ≡ board ++ row_of node.number (place_of crashed node) → posted ≡ rows_among took.taken
rows_next numbers took board posted node crashed seat takes are mine out posts =
    posts
    ∙ ap (λ (rows : List MemberRow). rows ++ row_of node.number (place_of crashed node)) are
    ∙ ap (λ (n : Node). rows_among numbers.taken ++ row_of n.number (place_of crashed n)) mine
    ∙ ap (λ (c : Bool). rows_among numbers.taken ++ row_of seat.node.number (place_of c seat.node)) out
    ∙ sym (ap (λ (c : Counts). rows_among c.taken) takes ∙ rows_pushed numbers.taken seat)

-- ---- who may retire, with one more seat

module _ (number : ℕ) (taken : List Sight) (seat : NodeSight) (other : ℕ) (is : Retire number ≡ Retire other) where
  -- which is not that of the node
  may_before : number ≢ seat.node.number → MayDepart (Retire number) taken → IsTrue (is_some (row_at other (rows_among (taken ++ as_actor seat ∷ [])))) → MayRetire (taken ++ as_actor seat ∷ []) other
  may_before apart may some =
      let away : seat.node.number ≢ other = λ e. apart (ap number_of is ∙ sym e) in
      let same = ap (row_at other) (rows_pushed taken seat) ∙ row_elsewhere (rows_among taken) other seat.node.number (place_of seat.crashed seat.node) away in
      let was : MayRetire taken other = may other is (ap is_some (sym same) ∙ some) in
      record {
        node = was.node;
        messages = was.messages;
        numbered = was.numbered;
        there = Contains-append_left taken (as_actor seat ∷ []) (record { actor = OfNode was.node false; messages = was.messages }) was.there;
        leaving = was.leaving;
        nothing = was.nothing;
        empty = was.empty;
      }

  -- which is its own
  may_itself : number ≡ seat.node.number → (seat.crashed ≡ false) × (seat.node.phase ≡ Leaving) × (seat.node.held ≡ []) × (seat.node.outbox ≡ []) → MayRetire (taken ++ as_actor seat ∷ []) other
  may_itself same (live, leaving, nothing, empty) = record {
    node = seat.node;
    messages = seat.messages;
    numbered = sym (ap number_of is) ∙ same;
    there = subst (λ (c : Bool). Contains (taken ++ as_actor seat ∷ []) (record { actor = OfNode seat.node c; messages = seat.messages })) live (Contains-push taken (as_actor seat));
    leaving = leaving;
    nothing = nothing;
    empty = empty;
  }

pub may_next : (departure : Departure) (taken : List Sight) (seated : Seated) (seat : NodeSight) → seated.node ≡ seat.node → seated.crashed ≡ seat.crashed → CanGo departure seated
    → MayDepart departure taken → MayDepart departure (taken ++ as_actor seat ∷ [])
may_next (Crash number) taken seated seat is out can may other e some = cc
may_next (Retire number) taken seated seat is out can may other e some = ⊎_elim
    (λ (same : number ≡ seat.node.number). may_itself number taken seat other e same (goes (can (same ∙ sym (ap (λ (n : Node). n.number) is)))))
    (λ (apart : number ≢ seat.node.number). may_before number taken seat other e apart may some)
    (same_or_not number seat.node.number)
  where
    goes : IsLeaving seated × (seated.node.held ≡ []) × (seated.node.outbox ≡ []) → (seat.crashed ≡ false) × (seat.node.phase ≡ Leaving) × (seat.node.held ≡ []) × (seat.node.outbox ≡ [])
    goes ((live, leaving), nothing, empty) =
        subst (λ (n : Node). (seat.crashed ≡ false) × (n.phase ≡ Leaving) × (n.held ≡ []) × (n.outbox ≡ [])) is (sym out ∙ live, leaving, nothing, empty)

pub may_after : (departure : Departure) (numbers took : Counts) (s : Sight) → took ≡ record numbers { taken = numbers.taken ++ s ∷ [] } → MayDepart departure (numbers.taken ++ s ∷ [])
    → MayDepart departure took.taken
may_after departure numbers took s takes may = subst (λ (c : Counts). MayDepart departure c.taken) (sym takes) may

-- ---- seats of nodes that are gone

-- where no member's seat is there, whoever is to retire may
pub none_may : (departure : Departure) (taken : List Sight) → AreOut taken → MayDepart departure taken
none_may departure taken out = λ number is some.
    let none : is_some (row_at number (rows_among taken)) ≡ false = ap (λ (rows : List MemberRow). is_some (row_at number rows)) out.members in
    absurd (true≢false (sym some ∙ none))

-- no seats are none of a member
pub none_out : (taken : List Sight) → taken ≡ [] → AreOut taken
none_out taken none = record {
  members = ap (λ (l : List Sight). rows_among l) none;
  callers = ap (λ (l : List Sight). callers_among l) none;
}

-- nor those that are no others
pub out_same : (old new : List Sight) → AreOut old → new ≡ old → AreOut new
out_same old new out same = subst (λ (l : List Sight). AreOut l) (sym same) out

-- one with a row in front is not without
no_row_first : (number : ℕ) (place : Option NodeLinks) (rows : List MemberRow) → row_of number place ++ rows ≡ [] → (place ≡ None) × (rows ≡ [])
no_row_first number None rows none = (refl, none)
no_row_first number (Some links) rows none = cc

-- who is no member stays none when a node departs
place_departed : (departure : Departure) (node : Node) (crashed : Bool) → place_of crashed node ≡ None
    → place_of (crashed_after departure node.number crashed) (node_after departure node) ≡ None
place_departed (Crash number) node crashed none = by_turn (number == node.number)
  where
    by_turn : (b : Bool) → place_of (b || crashed) node ≡ None
    by_turn true = refl
    by_turn false = none
place_departed (Retire number) node crashed none = by_turn (number == node.number) crashed none
  where
    by_turn : (b c : Bool) → place_of c node ≡ None → place_of c (gone_if b node) ≡ None
    by_turn true true none = refl
    by_turn true false none = refl
    by_turn false c none = none

rows_departed : (departure : Departure) (taken : List Sight) → rows_among taken ≡ [] → rows_among (map (departed departure) taken) ≡ []
rows_departed departure [] none = refl
rows_departed departure (sight ∷ rest) none = by_kind sight.actor none (rows_departed departure rest)
  where
    by_departure : (d : Departure) (node : Node) (crashed : Bool) → place_of (crashed_after d node.number crashed) (node_after d node) ≡ None → rows_among (map (departed departure) rest) ≡ []
        → with_row (departed d (record { actor = OfNode node crashed; messages = sight.messages })).actor (rows_among (map (departed departure) rest)) ≡ []
    by_departure (Crash number) node crashed none more = ap (λ (place : Option NodeLinks). row_of node.number place ++ rows_among (map (departed departure) rest)) none ∙ more
    by_departure (Retire number) node crashed none more =
        ap (λ (place : Option NodeLinks). row_of (gone_if (number == node.number) node).number place ++ rows_among (map (departed departure) rest)) none ∙ more

    by_caller : (d : Departure) (caller : Caller) → rows_among (map (departed departure) rest) ≡ []
        → with_row (departed d (record { actor = OfCaller caller; messages = sight.messages })).actor (rows_among (map (departed departure) rest)) ≡ []
    by_caller (Crash number) caller more = more
    by_caller (Retire number) caller more = more

    by_kind : (actor : Actor) → with_row actor (rows_among rest) ≡ [] → (rows_among rest ≡ [] → rows_among (map (departed departure) rest) ≡ [])
        → with_row (departed departure (record { actor = actor; messages = sight.messages })).actor (rows_among (map (departed departure) rest)) ≡ []
    by_kind (OfNode node crashed) none more =
        let (gone, others) = no_row_first node.number (place_of crashed node) (rows_among rest) none in
        let still = place_departed departure node crashed gone in
        by_departure departure node crashed still (more others)
    by_kind (OfCaller caller) none more = by_caller departure caller (more none)

callers_departed : (departure : Departure) (taken : List Sight) → callers_among (map (departed departure) taken) ≡ callers_among taken
callers_departed departure [] = refl
callers_departed departure (sight ∷ rest) = by_kind departure sight.actor (callers_departed departure rest)
  where
    by_kind : (d : Departure) (actor : Actor) → callers_among (map (departed departure) rest) ≡ callers_among rest
        → with_caller (departed d (record { actor = actor; messages = sight.messages })).actor (callers_among (map (departed departure) rest)) ≡ with_caller actor (callers_among rest)
    by_kind (Crash number) (OfNode node crashed) more = more
    by_kind (Crash number) (OfCaller caller) more = ap (λ (callers : List Caller). caller ∷ callers) more
    by_kind (Retire number) (OfNode node crashed) more = more
    by_kind (Retire number) (OfCaller caller) more = ap (λ (callers : List Caller). caller ∷ callers) more

-- nor is one whose seat the register has
pub out_after : (departure : Departure) (numbers gone : Counts) → AreOut numbers.taken → gone ≡ record numbers { taken = map (departed departure) numbers.taken } → AreOut gone.taken
out_after departure numbers gone out is =
    subst (λ (c : Counts). AreOut c.taken) (sym is)
    (record {
      members = rows_departed departure numbers.taken out.members;
      callers = callers_departed departure numbers.taken ∙ out.callers;
    })

-- nor where the departure may be refused
pub out_then : (departure : Departure) (numbers gone : Counts) (result : Result (Unit {0}) DepartFault) → AreOut numbers.taken
    → OnOk result (gone ≡ record numbers { taken = map (departed departure) numbers.taken }) → OnErr result (gone ≡ numbers) → AreOut gone.taken
out_then departure numbers gone (Ok done) out did kept = out_after departure numbers gone out did
out_then departure numbers gone (Err fault) out did kept = subst (λ (c : Counts). AreOut c.taken) (sym kept) out

-- a node that is gone has no place
gone_place : (crashed : Bool) (node : Node) → node.phase ≡ Gone → place_of crashed node ≡ None
gone_place true node gone = refl
gone_place false node gone = ap (λ p. links_in false p node.links) gone

-- so its seat may stay
pub gone_stays : (numbers took : Counts) (seat : NodeSight) → AreOut numbers.taken → seat.node.phase ≡ Gone → took ≡ record numbers { taken = numbers.taken ++ as_actor seat ∷ [] } → AreOut took.taken
gone_stays numbers took seat out gone takes =
    subst (λ (c : Counts). AreOut c.taken) (sym takes)
    (record {
      members = rows_pushed numbers.taken seat ∙ ap (λ (rows : List MemberRow). rows ++ row_of seat.node.number (place_of seat.crashed seat.node)) out.members
          ∙ ap (λ (place : Option NodeLinks). row_of seat.node.number place) (gone_place seat.crashed seat.node gone);
      callers = callers_without numbers.taken seat.node seat.crashed seat.messages ∙ out.callers;
    })

-- ---- seats that come back

-- the last seat taken in is that of this node
module _ (taken : List Sight) (seat : NodeSight) (is : last_of taken ≡ as_actor seat) where
  pub last_node : (last_of taken).actor ≡ OfNode (node_in (last_of taken).actor) (crashed_in (last_of taken).actor)
  last_node =
      let e : (last_of taken).actor ≡ OfNode seat.node seat.crashed = ap (λ (s : Sight). s.actor) is in
      e ∙ ap (λ (a : Actor). OfNode (node_in a) (crashed_in a)) (sym e)

  pub back_shows : (back : NodeSight) (node : Node) (crashed : Bool) → back ≡ as_node (last_of taken) → node ≡ seat.node → crashed ≡ seat.crashed → IsSeatOf node crashed (Some back)
  back_shows back node crashed gives mine out = (
    mine ∙ ap (λ (s : Sight). node_in s.actor) (sym is) ∙ sym (ap (λ (b : NodeSight). b.node) gives),
    out ∙ ap (λ (s : Sight). crashed_in s.actor) (sym is) ∙ sym (ap (λ (b : NodeSight). b.crashed) gives),
  )

  pub back_messages : (back : NodeSight) → back ≡ as_node (last_of taken) → back.messages ≡ seat.messages
  back_messages back gives = ap (λ (b : NodeSight). b.messages) gives ∙ ap (λ (s : Sight). s.messages) is

module _ (f : Sight → Sight) (numbers took gone back : Counts) (s : Sight) (takes : took ≡ record numbers { taken = numbers.taken ++ s ∷ [] }) where
  -- what was taken in, once a node departed
  pub taken_ok : gone ≡ record took { taken = map f took.taken } → gone.taken ≡ map f (numbers.taken ++ s ∷ [])
  taken_ok done = ap (λ (c : Counts). c.taken) done ∙ ap (λ (c : Counts). map f c.taken) takes

  -- or none did
  pub taken_err : gone ≡ took → gone.taken ≡ numbers.taken ++ s ∷ []
  taken_err kept = ap (λ (c : Counts). c.taken) kept ∙ ap (λ (c : Counts). c.taken) takes

  pub last_ok : gone ≡ record took { taken = map f took.taken } → (left : Sight) → f s ≡ left → last_of gone.taken ≡ left
  last_ok done left is = ap last_of (taken_ok done) ∙ last_changed f numbers.taken s ∙ is

  pub last_err : gone ≡ took → last_of gone.taken ≡ s
  last_err kept = ap last_of (taken_err kept) ∙ last_of_push numbers.taken s

  pub some_ok : gone ≡ record took { taken = map f took.taken } → gone.taken ≢ []
  some_ok done none = some_changed f numbers.taken s (sym (taken_ok done) ∙ none)

  pub some_err : gone ≡ took → gone.taken ≢ []
  some_err kept none = some_behind numbers.taken s (sym (taken_err kept) ∙ none)

  pub given_ok : gone ≡ record took { taken = map f took.taken } → back ≡ record gone { taken = all_but_last gone.taken } → back ≡ record numbers { taken = map f numbers.taken }
  given_ok done gives =
      gives ∙ ap (λ (c : Counts). record c { taken = all_but_last c.taken }) done
      ∙ ap (λ (c : Counts). record c { taken = all_but_last (map f c.taken) }) takes
      ∙ ap (λ (l : List Sight). record numbers { taken = l }) (others_changed f numbers.taken s)

  pub given_err : gone ≡ took → back ≡ record gone { taken = all_but_last gone.taken } → back ≡ numbers
  given_err kept gives =
      gives ∙ ap (λ (c : Counts). record c { taken = all_but_last c.taken }) kept
      ∙ ap (λ (c : Counts). record c { taken = all_but_last c.taken }) takes
      ∙ ap (λ (l : List Sight). record numbers { taken = l }) (all_but_push numbers.taken s)

-- the last seat once a node departed, or none did
module _ (departure : Departure) (numbers took gone : Counts) (seat : NodeSight) (takes : took ≡ record numbers { taken = numbers.taken ++ as_actor seat ∷ [] }) where
  pub last_left : gone ≡ record took { taken = map (departed departure) took.taken } → last_of gone.taken ≡ as_actor (shown_after departure seat)
  last_left done = last_ok (departed departure) numbers took gone numbers (as_actor seat) takes done (as_actor (shown_after departure seat)) (departs_so departure seat)

  pub last_kept : gone ≡ took → last_of gone.taken ≡ as_actor seat
  last_kept kept = last_err (departed departure) numbers took gone numbers (as_actor seat) takes kept

-- a node with its seat back is what it was
pub seated_back : (node : Node) (crashed : Bool) (seat : Option NodeSight) (sight back : NodeSight) (counts : NodeCounts) (was : Seated)
    → record { node = node; crashed = crashed; messages = messages_in seat; counts = counts } ≡ was
    → seat ≡ Some sight → back.messages ≡ sight.messages → record { node = node; crashed = crashed; messages = back.messages; counts = counts } ≡ was
seated_back node crashed seat sight back counts was is there same =
    ap (λ (m : List Message). record { node = node; crashed = crashed; messages = m; counts = counts }) (same ∙ ap messages_in (sym there)) ∙ is

-- or what the departure leaves of it
pub seated_left : (departure : Departure) (node left : Node) (crashed out : Bool) (seat : Option NodeSight) (sight back : NodeSight) (counts : NodeCounts) (was : Seated)
    → record { node = node; crashed = crashed; messages = messages_in seat; counts = counts } ≡ was
    → seat ≡ Some sight → back.messages ≡ sight.messages → left ≡ node_after departure node → out ≡ crashed_after departure node.number crashed
    → record { node = left; crashed = out; messages = back.messages; counts = counts } ≡ seated_after departure was
seated_left departure node left crashed out seat sight back counts was is there same mine gone =
    ap (λ (n : Node). record { node = n; crashed = out; messages = back.messages; counts = counts }) mine
    ∙ ap (λ (c : Bool). record { node = node_after departure node; crashed = c; messages = back.messages; counts = counts }) gone
    ∙ ap (λ (s : Seated). seated_after departure s) (seated_back node crashed seat sight back counts was is there same)
