-- Segments that are current: their parts, two as one, and pairs that come and go.
use Rattle.std.proofs.Common.{◌≡◌, ◌≢◌, ℕ, ◌+◌, ◌^◌, ◌<◌, Bool, true, false, not, ◌&&◌, ◌||◌, ◌⊎◌, inl, inr, ⊎_elim, refl, sym, ◌∙◌, ap, subst, arith, List, [], ◌∷◌, ◌++◌, le_trans, None, max, ◌≤◌}
use Rattle.chord_ident.proofs.Digest.{key_id-below}
use Rattle.chord_caller.specs.Caller.{Caller}
use Rattle.chord_ident.proofs.Spans.{one_if, in_parts}
use Rattle.chord_ident.specs.declared.id.Id.{Id}
use Rattle.chord_ident.specs.declared.span.Span.{Span}
use Rattle.chord_ident.specs.Circle.{in_span, cuts, key_id}
use Rattle.chord_map.proofs.Lists.{by_test, Has}
use Rattle.chord_map.proofs.MapLemmas.{has_filtered, has_put, by_same, by_other}
use Rattle.chord_map.specs.declared.pair.Pair.{Pair}
use Rattle.chord_map.specs.Map.{has_pair, key_of, put_all, reply_to, pairs_by, pairs_after}
use Rattle.chord_model.proofs.Invariant.{SettledUpto, SegmentGood, Current}
use Rattle.chord_map.proofs.HistoryLemmas.{replay_pushed, stands_pushed, stands_left, stands_last}
use Rattle.chord_segment.proofs.SegmentLemmas.{above_has, above_is, above_or_below, inside_has, inside_back}
use Rattle.chord_segment.proofs.Lifting.{mark_lifted, lift_grows, lift_all_grows, lift_all_reaches, lift_each, lift_all_each, placed_has, has_placed, placed_itself, placed_all_has, has_placed_all, placed_all_itself}
use Rattle.chord_map.specs.declared.done.Done.{Done}
use Rattle.chord_map.specs.History.{replay, done_at, StandsIn}
use Rattle.chord_segment.specs.declared.mark.Mark.{Mark}
use Rattle.chord_segment.specs.Marks.{lift, lift_all, mark_of}
use Rattle.chord_segment.specs.Segment.{id_of, Segment, insert_call, insert_calls, append, span_before, span_behind, part_of, span_joined, joined_segment}
use Rattle.chord_store.specs.Inside.{pairs_inside, pairs_outside}

-- a span within another
abbrev pub Within : Span → Span → Type 0
Within part whole = (x : ℕ) → x < 2 ^ 128 → in_span part x ≡ true → in_span whole x ≡ true

whole_of_first : (w a b : Bool) → one_if w ≡ one_if a + one_if b → a ≡ true → w ≡ true
whole_of_first true a b e t = refl
whole_of_first false a b e t = let one : one_if a ≡ 1 = ap one_if t in absurd (omega arith)

whole_of_second : (w a b : Bool) → one_if w ≡ one_if a + one_if b → b ≡ true → w ≡ true
whole_of_second true a b e t = refl
whole_of_second false a b e t = let one : one_if b ≡ 1 = ap one_if t in absurd (omega arith)

one_of_parts : (w a b : Bool) → one_if w ≡ one_if a + one_if b → w ≡ true → (a ≡ true) ⊎ (b ≡ true)
one_of_parts w true b e t = inl refl
one_of_parts w false true e t = inr refl
one_of_parts w false false e t = let one : one_if w ≡ 1 = ap one_if t in absurd (omega arith)

pub before_within : (span : Span) (at : Id) → span.after.number < 2 ^ 128 → span.upto.number < 2 ^ 128 → at.number < 2 ^ 128 → cuts span at ≡ true → Within (span_before at span) span
before_within span at after_in upto_in at_in cut x x_in h =
    whole_of_first (in_span span x) (in_span (span_before at span) x) (in_span (span_behind at span) x)
    (in_parts span.after at span.upto x after_in at_in upto_in x_in cut) h

pub behind_within : (span : Span) (at : Id) → span.after.number < 2 ^ 128 → span.upto.number < 2 ^ 128 → at.number < 2 ^ 128 → cuts span at ≡ true → Within (span_behind at span) span
behind_within span at after_in upto_in at_in cut x x_in h =
    whole_of_second (in_span span x) (in_span (span_before at span) x) (in_span (span_behind at span) x)
    (in_parts span.after at span.upto x after_in at_in upto_in x_in cut) h

pub joined_cases : (first second : Span) → first.after.number < 2 ^ 128 → first.upto.number < 2 ^ 128 → second.upto.number < 2 ^ 128
    → first.upto ≡ second.after → cuts (span_joined first second) first.upto ≡ true
    → (x : ℕ) → x < 2 ^ 128 → in_span (span_joined first second) x ≡ true → (in_span first x ≡ true) ⊎ (in_span second x ≡ true)
joined_cases first second after_in upto_in end_in meet cut x x_in h =
    let e : one_if (in_span (span_joined first second) x)
    ≡ one_if (in_span first x) + one_if (in_span (record { after = first.upto; upto = second.upto }) x) =
    in_parts first.after first.upto second.upto x after_in upto_in end_in x_in cut in
    one_of_parts (in_span (span_joined first second) x) (in_span first x) (in_span second x)
    (subst (λ a. one_if (in_span (span_joined first second) x) ≡ one_if (in_span first x) + one_if (in_span (record { after = a; upto = second.upto }) x)) meet e) h

-- a part

pub part_good : (callers : List Caller) (history : List Done) (span : Span) (segment : Segment) → SegmentGood callers history segment → SegmentGood callers history (part_of span segment)
part_good callers history span segment good = record {
  floors = good.floors;
  kept = λ done h. good.kept done (inside_has span segment.kept done h);
  near = λ done h. good.near done (inside_has span segment.kept done h);
}

pub part_current : (history : List Done) (span : Span) (segment : Segment) (pairs : List Pair) → Within span segment.span
    → Current history segment pairs → Current history (part_of span segment) pairs
part_current history span segment pairs within current = record {
  content = λ pair inside. current.content pair (within (key_id pair.key) (key_id-below pair.key) inside);
  covered = λ done stands inside.
      ⊎_elim (λ low. inl low) (λ kept. inr (inside_back span segment.kept done kept inside))
      (current.covered done stands (within (id_of done.request) (key_id-below (key_of done.request)) inside));
}

-- two as one

pub joined_good : (callers : List Caller) (history : List Done) (first second : Segment) → SegmentGood callers history first → SegmentGood callers history second
    → SegmentGood callers history (joined_segment first second)
unfolding joined_segment
joined_good callers history first second one other =
    let floors : List Mark = lift_all second.floors first.floors in
    let all : List Done = insert_calls second.kept first.kept in
    record {
      floors = lift_all_each (SettledUpto callers) second.floors first.floors other.floors one.floors;
      kept = λ done h. ⊎_elim (λ a. one.kept done a) (λ b. other.kept done b) (placed_all_has second.kept first.kept done (above_has floors all done h));
      near = λ done h. record {
        above = above_is floors all done h;
        near =
            ⊎_elim (λ a. omega (arith, (one.near done a).near, lift_all_grows done.caller second.floors first.floors))
            (λ b. omega (arith, (other.near done b).near, lift_all_reaches done.caller second.floors first.floors))
            (placed_all_has second.kept first.kept done (above_has floors all done h));
      };
    }

pub joined_current : (history : List Done) (first second : Segment) (pairs : List Pair)
    → ((x : ℕ) → x < 2 ^ 128 → in_span (span_joined first.span second.span) x ≡ true → (in_span first.span x ≡ true) ⊎ (in_span second.span x ≡ true))
    → Current history first pairs → Current history second pairs → Current history (joined_segment first second) pairs
unfolding joined_segment
joined_current history first second pairs parts one other = record {
  content = λ pair inside. ⊎_elim (λ a. one.content pair a) (λ b. other.content pair b) (parts (key_id pair.key) (key_id-below pair.key) inside);
  covered = λ done stands inside.
      let floors : List Mark = lift_all second.floors first.floors in
      ⊎_elim
      (λ a. ⊎_elim (λ low. inl (le_trans low (lift_all_grows done.caller second.floors first.floors)))
      (λ kept. above_or_below floors (insert_calls second.kept first.kept) done (has_placed_all second.kept first.kept done kept)) (one.covered done stands a))
      (λ b. ⊎_elim (λ low. inl (le_trans low (lift_all_reaches done.caller second.floors first.floors)))
      (λ kept. above_or_below floors (insert_calls second.kept first.kept) done (placed_all_itself second.kept first.kept done kept)) (other.covered done stands b))
      (parts (id_of done.request) (key_id-below (key_of done.request)) inside);
}

-- pairs that come

or_false : (a b : Bool) → b ≡ false → (a || b) ≡ a
or_false true b e = refl
or_false false b e = e

-- none of these pairs is in the segment
abbrev Outside : Segment → List Pair → Type 0
Outside segment pairs = (pair : Pair) → has_pair pair pairs ≡ true → in_span segment.span (key_id pair.key) ≡ true → ⊥

none_inside : (segment : Segment) (pairs : List Pair) → Outside segment pairs → (pair : Pair) → in_span segment.span (key_id pair.key) ≡ true → has_pair pair pairs ≡ false
none_inside segment pairs apart pair inside = by_test (has_pair pair pairs) (λ t. absurd (apart pair t inside)) (λ f. f)

-- what is current of some pairs is current of others that are the same in the segment
same_current : (history : List Done) (segment : Segment) (pairs others : List Pair) → ((pair : Pair) → in_span segment.span (key_id pair.key) ≡ true → has_pair pair others ≡ has_pair pair pairs)
    → Current history segment pairs → Current history segment others
same_current history segment pairs others same current = record { content = λ pair inside. same pair inside ∙ current.content pair inside; covered = current.covered }

-- the values of a segment stay unchanged if the pairs that come lie elsewhere
pub stays_current : (history : List Done) (segment : Segment) (more pairs : List Pair) → Outside segment more → Current history segment pairs → Current history segment (put_all more pairs)
stays_current history segment more pairs apart current =
    same_current history segment pairs (put_all more pairs)
    (λ pair inside. has_put pair more pairs ∙ ap (λ b. b || has_pair pair pairs) (none_inside segment more apart pair inside)) current

-- the values that come stay unchanged if no pair was in their segment before
pub comes_current : (history : List Done) (segment : Segment) (more pairs : List Pair) → Outside segment pairs → Current history segment more → Current history segment (put_all more pairs)
comes_current history segment more pairs apart current =
    same_current history segment more (put_all more pairs)
    (λ pair inside. has_put pair more pairs ∙ or_false (has_pair pair more) (has_pair pair pairs) (none_inside segment pairs apart pair inside)) current

-- pairs that go

pub inside_current : (history : List Done) (segment : Segment) (pairs : List Pair) → Current history segment pairs → Current history segment (pairs_inside segment.span pairs)
unfolding pairs_inside
inside_current history segment pairs current = record {
  content = λ pair inside. has_filtered (λ (p : Pair). in_span segment.span (key_id p.key)) pair pairs ∙ ap (λ b. b && has_pair pair pairs) inside ∙ current.content pair inside;
  covered = current.covered;
}

pub outside_current : (history : List Done) (span : Span) (segment : Segment) (pairs : List Pair)
    → ((x : ℕ) → x < 2 ^ 128 → in_span span x ≡ true → in_span segment.span x ≡ true → ⊥)
    → Current history segment pairs → Current history segment (pairs_outside span pairs)
unfolding pairs_outside
outside_current history span segment pairs apart current = record {
  content = λ pair inside.
      let other : in_span span (key_id pair.key) ≡ false = by_test (in_span span (key_id pair.key)) (λ t. absurd (apart (key_id pair.key) (key_id-below pair.key) t inside)) (λ f. f) in
      has_filtered (λ (p : Pair). not (in_span span (key_id p.key))) pair pairs ∙ ap (λ b. not b && has_pair pair pairs) other ∙ current.content pair inside;
  covered = current.covered;
}

-- a call that is executed

-- elsewhere: a segment that does not contain the call's identifier
pub elsewhere_current : (history : List Done) (done : Done) (segment : Segment) (pairs : List Pair) → (in_span segment.span (id_of done.request) ≡ true → ⊥)
    → Current history segment pairs → Current (history ++ done ∷ []) segment pairs
unfolding pairs_after
elsewhere_current history done segment pairs apart current = record {
  content = λ pair inside.
      let other : pair.key ≢ key_of done.request = λ e. apart (subst (λ key. in_span segment.span (key_id key) ≡ true) e inside) in
      current.content pair inside
      ∙ sym (ap (has_pair pair) (replay_pushed [] history done) ∙ by_other done.request (reply_to done.request (replay [] history)) pair (replay [] history) other);
  covered = λ past stands inside.
      ⊎_elim (λ there. current.covered past there inside) (λ e. absurd (apart (subst (λ (d : Done). in_span segment.span (id_of d.request) ≡ true) (sym e) inside)))
      (stands_pushed history done past stands);
}

-- the pairs of a segment of the node that executes it
executed_content : (history : List Done) (done : Done) (segment : Segment) (pairs : List Pair) → reply_to done.request pairs ≡ reply_to done.request (replay [] history)
    → Current history segment pairs
    → (pair : Pair) → in_span segment.span (key_id pair.key) ≡ true → has_pair pair (pairs_after done.request pairs) ≡ has_pair pair (replay [] (history ++ done ∷ []))
unfolding pairs_after
executed_content history done segment pairs same current pair inside =
    ap (λ reply. has_pair pair (pairs_by done.request reply pairs)) same
    ∙ by_same done.request (reply_to done.request (replay [] history)) pair pairs (replay [] history) (current.content pair inside)
    ∙ sym (ap (has_pair pair) (replay_pushed [] history done))

-- a segment of that node that does not contain the call's identifier
pub beside_current : (history : List Done) (done : Done) (segment : Segment) (pairs : List Pair) → reply_to done.request pairs ≡ reply_to done.request (replay [] history)
    → (in_span segment.span (id_of done.request) ≡ true → ⊥) → Current history segment pairs
    → Current (history ++ done ∷ []) segment (pairs_after done.request pairs)
beside_current history done segment pairs same apart current = record {
  content = executed_content history done segment pairs same current;
  covered = (elsewhere_current history done segment pairs apart current).covered;
}

-- the segment that keeps it
pub appended_current : (history : List Done) (done : Done) (floor : ℕ) (segment : Segment) (pairs : List Pair) → reply_to done.request pairs ≡ reply_to done.request (replay [] history)
    → Current history segment pairs → Current (history ++ done ∷ []) (append done floor segment) (pairs_after done.request pairs)
unfolding append
appended_current history done floor segment pairs same current = record {
  content = executed_content history done segment pairs same current;
  covered = λ past stands inside.
      let floors : List Mark = lift done.caller floor segment.floors in
      let all : List Done = insert_call done segment.kept in
      ⊎_elim
      (λ there. ⊎_elim (λ low. inl (le_trans low (lift_grows past.caller done.caller floor segment.floors)))
      (λ kept. above_or_below floors all past (has_placed done segment.kept past kept)) (current.covered past there inside))
      (λ e. above_or_below floors all past (subst (Has all) e (placed_itself done segment.kept)))
      (stands_pushed history done past stands);
}

pub appended_good : (callers : List Caller) (history : List Done) (done : Done) (floor : ℕ) (segment : Segment) → SettledUpto callers done.caller floor
    → done.number ≤ floor + 16 → done_at done.caller done.number history ≡ None → SegmentGood callers history segment
    → SegmentGood callers (history ++ done ∷ []) (append done floor segment)
unfolding append
appended_good callers history done floor segment taken near fresh good =
    let floors : List Mark = lift done.caller floor segment.floors in
    let all : List Done = insert_call done segment.kept in
    let raised : mark_of done.caller floors ≡ max (mark_of done.caller segment.floors) floor = mark_lifted done.caller floor segment.floors in
    let is_near : done.number ≤ mark_of done.caller floors + 16 = omega arith in
    record {
      floors = lift_each (SettledUpto callers) done.caller floor segment.floors taken good.floors;
      kept = λ past h.
          ⊎_elim (λ there. stands_left history (done ∷ []) past (good.kept past there)) (λ e. subst (StandsIn (history ++ done ∷ [])) e (stands_last history done fresh))
          (placed_has done segment.kept past (above_has floors all past h));
      near = λ past h. record {
        above = above_is floors all past h;
        near =
            ⊎_elim (λ there. omega (arith, (good.near past there).near, lift_grows past.caller done.caller floor segment.floors))
            (λ e. subst (λ (d : Done). d.number ≤ mark_of d.caller floors + 16) e is_near)
            (placed_has done segment.kept past (above_has floors all past h));
      };
    }
