-- Departures, judged by rows of the members among the seats that were taken in.
use Rattle.std.proofs.Common.{◌≡◌, ◌≢◌, ℕ, ◌+◌, ◌<◌, ◌≤◌, ◌⊎◌, inl, inr, ⊎_elim, Bool, Option, Some, None, List, [], ◌∷◌, ◌++◌, map, refl, sym, ap, ◌∙◌, subst, arith, length}
use Rattle.std.specs.Prelude.{IsTrue, is_some}
use Rattle.std.proofs.lemmas.Bool.{cases_lt}
use Rattle.std.proofs.lemmas.List.{get_or_past, length-map, length_push}
use Rattle.chord_ident.specs.declared.id.Id.{Id}
use Rattle.chord_links.specs.NodeLinks.{NodeLinks}
use Rattle.chord_live_steps.specs.Departures.{IsAllowed, MayDepart, departed, number_of, row_of, with_row, rows_among}
use Rattle.chord_live_steps.specs.declared.departure.Departure.{Departure}
use Rattle.chord_live_steps.specs.declared.departure.Departure.TheVariants.{Crash, Retire}
use Rattle.chord_live_steps.specs.Registered.{IsRegister}
use Rattle.chord_live_steps.proofs.Counting.{count_below}
use Rattle.chord_map.proofs.Equal.{same_or_not, eqb_same, eqb_other}
use Rattle.chord_model.specs.Node.{Node}
use Rattle.chord_ring.proofs.Lookups.{member_within}
use Rattle.chord_ring.proofs.Rows.{count_among, links_among, none_among}
use Rattle.chord_ring.specs.declared.member_row.MemberRow.{MemberRow}
use Rattle.chord_ring.specs.Ring.{CanDepart, Members, links_of}
use Rattle.chord_ring.specs.Rows.{row_at, members_among}
use Rattle.chord_table.proofs.Giving.{split_last}
use Rattle.chord_table.proofs.Places.{nodes_pushed}
use Rattle.chord_table.proofs.WholeRing.{members_are}
use Rattle.chord_table.specs.Actors.{AreOne}
use Rattle.chord_table.specs.Rings.{AreMembers, place_at, place_among}
use Rattle.chord_table.specs.Scenes.{place_of}
use Rattle.chord_table.specs.Seen.{Actor, OfNode, OfCaller, Sight}
use Rattle.chord_table.specs.Shown.{AssemblyShown}
use Rattle.chord_table.specs.Views.{AllDiffer, Assembled, HasAllNodes, MayRetire, OneIs, all_but_last, as_actor, crashed_in, last_of, node_in, nodes_among, with_node}

-- ---- how many seats of nodes there are

-- with one more seat of a node there is one more
pub one_more_node : (taken : List Sight) (sight : Sight) → sight.actor ≡ OfNode (node_in sight.actor) (crashed_in sight.actor)
    → length (nodes_among (taken ++ sight ∷ [])) ≡ length (nodes_among taken) + 1
one_more_node taken sight is =
    ap (λ (a : Actor). length (nodes_among (taken ++ record { actor = a; messages = sight.messages } ∷ []))) is
    ∙ ap length (nodes_pushed (node_in sight.actor) (crashed_in sight.actor) sight.messages taken)
    ∙ length_push (nodes_among taken) (node_in sight.actor)

-- without the last one there is one fewer
pub one_node_fewer : (taken : List Sight) → taken ≢ [] → (last_of taken).actor ≡ OfNode (node_in (last_of taken).actor) (crashed_in (last_of taken).actor)
    → length (nodes_among taken) ≡ length (nodes_among (all_but_last taken)) + 1
one_node_fewer taken some is =
    ap (λ (l : List Sight). length (nodes_among l)) (split_last taken some) ∙ one_more_node (all_but_last taken) (last_of taken) is

-- once a node departed there are as many
pub departed_count : (departure : Departure) (taken : List Sight) → length (nodes_among (map (departed departure) taken)) ≡ length (nodes_among taken)
departed_count departure [] = refl
departed_count departure (sight ∷ rest) = by_kind departure sight.actor (departed_count departure rest)
  where
    by_kind : (d : Departure) (actor : Actor) → length (nodes_among (map (departed departure) rest)) ≡ length (nodes_among rest)
        → length (with_node (departed d (record { actor = actor; messages = sight.messages })).actor (nodes_among (map (departed departure) rest))) ≡ length (with_node actor (nodes_among rest))
    by_kind (Crash number) (OfNode node crashed) same = omega (arith, same)
    by_kind (Crash number) (OfCaller caller) same = same
    by_kind (Retire number) (OfNode node crashed) same = omega (arith, same)
    by_kind (Retire number) (OfCaller caller) same = same

-- ---- rows and seats

-- the row of a node in front, where no other row has its number
row_front : (number : ℕ) (place : Option NodeLinks) (rows : List MemberRow) → row_at number rows ≡ None → row_at number (row_of number place ++ rows) ≡ place
row_front number None rows none = none
row_front number (Some links) rows none = rw (eqb_same number number refl) refl

-- the rows behind that of another node
row_behind : (own number : ℕ) (place : Option NodeLinks) (rows : List MemberRow) → own ≢ number → row_at number (row_of own place ++ rows) ≡ row_at number rows
row_behind own number None rows apart = refl
row_behind own number (Some links) rows apart = rw (eqb_other own number apart) refl

-- a node that has a row is one of those whose seats were taken in
row_one : (taken : List Sight) (node : Node) (crashed : Bool) → IsTrue (is_some (row_at node.number (rows_among taken))) → OneIs taken (OfNode node crashed)
row_one [] node crashed some = cc
row_one (sight ∷ rest) node crashed some = by_kind sight.actor some (row_one rest node crashed)
  where
    by_kind : (actor : Actor) → IsTrue (is_some (row_at node.number (with_row actor (rows_among rest))))
        → (IsTrue (is_some (row_at node.number (rows_among rest))) → OneIs rest (OfNode node crashed))
        → AreOne actor (OfNode node crashed) ⊎ OneIs rest (OfNode node crashed)
    by_kind (OfNode other out) some more = ⊎_elim
        (λ (same : other.number ≡ node.number). inl same)
        (λ (apart : other.number ≢ node.number).
        inr (more (ap is_some (sym (row_behind other.number node.number (place_of out other) (rows_among rest) apart)) ∙ some)))
        (same_or_not other.number node.number)
    by_kind (OfCaller caller) some more = inr (more some)

none_of : (place : Option NodeLinks) → (IsTrue (is_some place) → ⊥) → place ≡ None
none_of None absent = refl
none_of (Some links) absent = absurd (absent refl)

-- the rows have of each number what the seats show
pub rows_are : (taken : List Sight) → AllDiffer taken → (number : ℕ) → row_at number (rows_among taken) ≡ place_among number taken
rows_are [] differ number = refl
rows_are (sight ∷ rest) (new, differ) number = by_kind sight.actor new (rows_are rest differ number)
  where
    by_kind : (actor : Actor) → (OneIs rest actor → ⊥) → row_at number (rows_among rest) ≡ place_among number rest
        → row_at number (with_row actor (rows_among rest)) ≡ place_at number actor (place_among number rest)
    by_kind (OfNode node crashed) new more = ⊎_elim
        (λ (same : node.number ≡ number).
        rw (eqb_same node.number number same)
        (subst (λ n. row_at n (row_of node.number (place_of crashed node) ++ rows_among rest) ≡ place_of crashed node) same
        (row_front node.number (place_of crashed node) (rows_among rest)
        (none_of (row_at node.number (rows_among rest)) (λ some. new (row_one rest node crashed some))))))
        (λ (apart : node.number ≢ number).
        rw (eqb_other node.number number apart)
        (row_behind node.number number (place_of crashed node) (rows_among rest) apart ∙ more))
        (same_or_not node.number number)
    by_kind (OfCaller caller) new more = more

-- ---- who can depart

abbrev number_in : Id → ℕ
number_in id = id.number

module _ (a : Assembled) (callers : ℕ) (ids : List Id) (premise : Bool) (registered : IsRegister callers ids premise a.register) where
  -- as many seats as there are numbers are those of all nodes
  pub all_held : (held : ℕ) → held ≡ length (nodes_among a.taken) → held ≡ length ids → HasAllNodes a
  all_held held counted all = record { nodes = sym counted ∙ all ∙ sym (ap length registered.nodes_are ∙ count_below (length ids)) }

  -- then the members by the rows are those by the seats
  pub by_rows : AssemblyShown a → HasAllNodes a → AreMembers a (members_among (length ids) (rows_among a.taken))
  by_rows shown whole = record {
    counted = count_among (length ids) (rows_among a.taken) ∙ sym (ap length registered.ids_are ∙ length-map ids number_in);
    links = λ number. ⊎_elim
        (λ (within : number < length ids).
        links_among (length ids) (rows_among a.taken) number within ∙ rows_are a.taken shown.differ number)
        (λ (past : length ids ≤ number).
        let as_many = were.counted ∙ ap length registered.ids_are ∙ length-map ids number_in in
        none_among (length ids) (rows_among a.taken) number past
        ∙ sym (get_or_past shown.scene.ring.members number None (omega (arith, past, as_many)))
        ∙ were.links number)
        (cases_lt number (length ids));
  }
    where
      were : AreMembers a shown.scene.ring.members
      were = members_are shown.scene a shown.holds.agrees shown.nodes shown.knows shown.differ shown.there whole

  -- so one that can depart by the rows can by the seats
  pub can_now : AssemblyShown a → HasAllNodes a → (nodes departing number : ℕ) (board : List MemberRow) → nodes ≡ length ids → board ≡ rows_among a.taken → departing ≡ number
      → CanDepart (members_among nodes board) departing → (members : Members) × AreMembers a members × CanDepart members number
  can_now shown whole nodes departing number board counted are same can = (
    members_among (length ids) (rows_among a.taken),
    by_rows shown whole,
    subst (λ n. CanDepart (members_among (length ids) (rows_among a.taken)) n) same
        (subst (λ (rows : List MemberRow). CanDepart (members_among (length ids) rows) departing) are
        (subst (λ n. CanDepart (members_among n board) departing) counted can)),
  )

some_of : (o : Option NodeLinks) → IsTrue (is_some o) → (links : NodeLinks) × (o ≡ Some links)
some_of (Some links) some = (links, refl)
some_of None some = cc

-- a node that can depart and may retire
pub retires_now : (departure : Departure) (nodes departing number : ℕ) (taken : List Sight) (board : List MemberRow) → board ≡ rows_among taken → departing ≡ number → MayDepart departure taken
    → departure ≡ Retire number → CanDepart (members_among nodes board) departing → MayRetire taken number
retires_now departure nodes departing number taken board are same may is can =
    let links = some_of (links_of (members_among nodes board) departing) can.0 in
    let within = member_within (members_among nodes board) departing links.0 links.1 in
    let low : departing < nodes = omega (arith, within, count_among nodes board) in
    may number is
    (subst (λ n. IsTrue (is_some (row_at n (rows_among taken)))) same
    (subst (λ (rows : List MemberRow). IsTrue (is_some (row_at departing rows))) are
    (ap is_some (sym (links_among nodes board departing low)) ∙ can.0)))

-- what a departure is judged by that is allowed
pub can_by : (departure : Departure) (counted nodes departing : ℕ) (taken : List Sight) (board : List MemberRow) → counted ≡ nodes → board ≡ rows_among taken → departing ≡ number_of departure
    → IsAllowed departure nodes taken → CanDepart (members_among counted board) departing
can_by departure counted nodes departing taken board is are same can =
    subst (λ n. CanDepart (members_among counted board) n) (sym same)
    (subst (λ (rows : List MemberRow). CanDepart (members_among counted rows) (number_of departure)) (sym are)
    (subst (λ n. CanDepart (members_among n (rows_among taken)) (number_of departure)) (sym is) can.1))

-- what the departure was judged by
pub allowed : (departure : Departure) (held counted nodes departing : ℕ) (taken : List Sight) (board : List MemberRow) → held ≡ length (nodes_among taken) → held ≡ counted → counted ≡ nodes
    → board ≡ rows_among taken → departing ≡ number_of departure → CanDepart (members_among counted board) departing → IsAllowed departure nodes taken
allowed departure held counted nodes departing taken board seats all is are same can = (
  sym seats ∙ all ∙ is,
  subst (λ n. CanDepart (members_among n (rows_among taken)) (number_of departure)) is
      (subst (λ (rows : List MemberRow). CanDepart (members_among counted rows) (number_of departure)) are
      (subst (λ n. CanDepart (members_among counted board) n) same can)),
)
