-- A node after an Ask, from its segment and its store after it.
use Rattle.std.proofs.Common.{◌≡◌, ◌≢◌, ◌-◌, ◌||◌, ◌==◌, ℕ, zero, suc, ◌<◌, Bool, true, false, cond, Option, None, Some, Result, Ok, Err, List, [], ◌∷◌, length, get_or, set, refl, sym, ◌∙◌, ap, ap₂, subst, arith, leb}
use Rattle.std.proofs.lemmas.List.{append-nil}
use Rattle.chord_journal.specs.Journal.{Buffered, JournalIs}
use Rattle.std.proofs.lemmas.Bool.{ltb-false, leb-true}
use Rattle.std.specs.Prelude.{find, position, is_some, OnErr}
use Rattle.std.specs.List.{position_or_len}
use Rattle.std.proofs.lemmas.List.Quantifiers.{position-Some}
use Rattle.std.proofs.lemmas.Option.{slice_get_past}
use Rattle.std.proofs.lemmas.List.Folds.{find_at}
use Rattle.std.specs.declared.alloc.AllocError.{AllocError}
use Rattle.chord_ident.specs.Circle.{in_span}
use Rattle.chord_map.specs.declared.pair.Pair.{Pair}
use Rattle.chord_map.specs.declared.reply.Reply.{Reply}
use Rattle.chord_map.specs.declared.reply.Reply.TheVariants as reply
use Rattle.chord_map.specs.Map.{reply_to}
use Rattle.chord_map.specs.declared.done.Done.{Done}
use Rattle.chord_segment.specs.Segment.{Segment, RoomySegment, Past, id_of, past_at, append}
use Rattle.chord_segment.specs.Segment.Past.{New, Kept, Seen}
use Rattle.chord_caller.specs.declared.ask.Ask.{Ask}
use Rattle.chord_node.specs.declared.asks.answered.Answered.{Answered}
use Rattle.chord_node.specs.declared.asks.answered.Answered.TheVariants as answer
use Rattle.chord_model.specs.declared.message.Message.TheVariants.{Ask as AskMessage}
use Rattle.chord_model.specs.Node.{Node, NodeStep, segment_with, append_at, done_of, told_of}
use Rattle.chord_model.specs.Node.NodeStep.{Tells_again, Drops_seen, Executes, Answers_full, Forwards, Drops}
use Rattle.chord_node.specs.View.{segments_of}
use Rattle.chord_map.proofs.Equal.{eqb_same}
use Rattle.chord_node.specs.Passed.{peer_of, PassesOn}
use Rattle.chord_node.specs.Asked.{adds_pair, is_full_for, past_answer, past_done, segment_after, entries_after, AnswersIn, done_in, ask_done, after_done, sent_by, note_of, AnswersBy, TakesMemory, AsksMemory, AskIs, AskRecords, AskSteps, AskStepsRecording}

-- ---- the segment at an index

-- whether the segment's span contains x
abbrev pub has : ℕ → RoomySegment → Bool
has x segment = in_span segment.segment.span x

find_none : (x : ℕ) (held : List RoomySegment) → find (has x) held ≡ None → segment_with x (segments_of held) ≡ None
unfolding segment_with
find_none x [] e = refl
find_none x (s ∷ held) e = step (has x s) s.segment (find (has x) held) e (λ rest. find_none x held rest)
  where
    step : (b : Bool) (k : Segment) (o : Option RoomySegment) {q : Option Segment} → cond b (Some s) o ≡ None → (o ≡ None → q ≡ None) → cond b (Some k) q ≡ None
    step true k o e next = cc
    step false k o e next = next e

-- the segment at this index is the first whose span contains x
pub record IsPlace (x : ℕ) (held : List RoomySegment) (i : ℕ) (s : RoomySegment) : Type 0 where
  pub in_range : i < length held
  pub here : has x (get_or held i s) ≡ true
  pub before : (k : ℕ) → k < i → has x (get_or held k s) ≡ false

pub with_here : (x : ℕ) (held : List RoomySegment) (i : ℕ) (s : RoomySegment) → IsPlace x held i s → segment_with x (segments_of held) ≡ Some (get_or held i s).segment
unfolding segment_with
with_here x [] i s p = absurd (let h = p.in_range in omega arith)
with_here x (y ∷ held) zero s p = rw p.here refl
with_here x (y ∷ held) (suc i) s p =
    rw (p.before zero (omega arith)) (with_here x held i s (record { in_range = let h = p.in_range in omega arith; here = p.here; before = λ k h. p.before (suc k) (omega arith) }))

pub put_here : (x : ℕ) (held : List RoomySegment) (i : ℕ) (s s' : RoomySegment) (done : Done) (floor : ℕ) → IsPlace x held i s
    → s'.segment ≡ append done floor (get_or held i s).segment → segments_of (set held i s') ≡ append_at x done floor (segments_of held)
unfolding append_at
put_here x [] i s s' done floor p e = absurd (let h = p.in_range in omega arith)
put_here x (y ∷ held) zero s s' done floor p e = rw p.here (ap (λ (k : Segment). k ∷ segments_of held) e)
put_here x (y ∷ held) (suc i) s s' done floor p e =
    rw (p.before zero (omega arith))
    (ap (λ (ks : List Segment). y.segment ∷ ks)
    (put_here x held i s s' done floor (record { in_range = let h = p.in_range in omega arith; here = p.here; before = λ k h. p.before (suc k) (omega arith) }) e))

pub put_same : (held : List RoomySegment) (i : ℕ) (s s' : RoomySegment) → i < length held → s'.segment ≡ (get_or held i s).segment → segments_of (set held i s') ≡ segments_of held
put_same [] i s s' h e = absurd (omega arith)
put_same (y ∷ held) zero s s' h e = ap (λ (k : Segment). k ∷ segments_of held) e
put_same (y ∷ held) (suc i) s s' h e = ap (λ (ks : List Segment). y.segment ∷ ks) (put_same held i s s' (omega arith) e)

-- ---- the call that is executed

executed_by : (b : Bool) (d done : Done) → cond b None (Some d) ≡ Some done → d ≡ done
executed_by true d done e = cc
executed_by false d done e = cc

past_done_is : (past : Past) (ask : Ask) (pairs : List Pair) (limit : ℕ) (done : Done) → past_done past ask pairs limit ≡ Some done → done_of ask (reply_to ask.request pairs) ≡ done
past_done_is New ask pairs limit done e = executed_by (is_full_for ask.request pairs limit) _ done e
past_done_is Seen ask pairs limit done e = cc
past_done_is (Kept d) ask pairs limit done e = cc

-- ---- the node
same_node : (old : Node) (held : List Segment) (pairs : List Pair) (limit : ℕ) → held ≡ old.held → pairs ≡ old.entries → limit ≡ old.limit
    → ◌≡◌ {A = Node} (record old { held = held; entries = pairs; limit = limit }) old
same_node old held pairs limit e f g = rw (e, f, g) refl

-- the node after the call, if one was executed
after_is : (did : Option Done) (ask : Ask) (old : Node) (held : List RoomySegment) (i : ℕ) (s s' : RoomySegment) (pairs : List Pair) (limit : ℕ)
    → old.held ≡ segments_of held → IsPlace (id_of ask.request) held i s → limit ≡ old.limit
    → ((done : Done) → did ≡ Some done → done_of ask (reply_to ask.request old.entries) ≡ done)
    → s'.segment ≡ segment_after did ask (get_or held i s).segment → pairs ≡ entries_after did ask old.entries
    → ◌≡◌ {A = Node} (record old { held = segments_of (set held i s'); entries = pairs; limit = limit }) (after_done did ask old)
after_is None ask old held i s s' pairs limit e place same is seg ent =
    same_node old _ pairs limit (put_same held i s s' place.in_range seg ∙ sym e) ent same
after_is (Some done) ask old held i s s' pairs limit e place same is seg ent =
    let d = is done refl in
    let put = put_here (id_of ask.request) held i s s' (done_of ask (reply_to ask.request old.entries)) ask.floor place (seg ∙ ap (λ (x : Done). append x ask.floor (get_or held i s).segment) (sym d)) in
    rw (put, ent, same, e) refl

-- what the node answers if the segment with the key answered this
pub asked_here : (ask : Ask) (recording : Bool) (old : Node) (held : List RoomySegment) (i : ℕ) (s s' : RoomySegment) (result : Result (Answered × Option Done) AllocError) (pairs : List Pair) (limit : ℕ)
    → old.held ≡ segments_of held → IsPlace (id_of ask.request) held i s → limit ≡ old.limit
    → AnswersIn ask recording (get_or held i s).segment old.entries old.limit result s'.segment pairs
    → AskRecords ask recording old result (record old { held = segments_of (set held i s'); entries = pairs; limit = limit })
unfolding ask_done
asked_here ask recording old held i s s' (Ok both) pairs limit e place same h =
    let found : segment_with (id_of ask.request) old.held ≡ Some (get_or held i s).segment = ap (segment_with (id_of ask.request)) e ∙ with_here (id_of ask.request) held i s place in
    let done : Option Done = past_done (past_at ask.caller ask.number (get_or held i s).segment) ask old.entries old.limit in
    let did : done_in (segment_with (id_of ask.request) old.held) ask old ≡ done = ap (λ o. done_in o ask old) found in (
      (
        subst (λ o. AnswersBy o ask old both.0) (sym found) h.0,
        after_is done ask old held i s s' pairs limit e place same
            (λ d is. past_done_is (past_at ask.caller ask.number (get_or held i s).segment) ask old.entries old.limit d is) h.2 h.3
            ∙ ap (λ d. after_done d ask old) (sym did),
      ),
      h.1 ∙ ap (note_of recording) (sym did),
    )
asked_here ask recording old held i s s' (Err fault) pairs limit e place same h =
    let found : segment_with (id_of ask.request) old.held ≡ Some (get_or held i s).segment = ap (segment_with (id_of ask.request)) e ∙ with_here (id_of ask.request) held i s place in
    let answered : Answered = past_answer (past_at ask.caller ask.number (get_or held i s).segment) ask old.entries old.limit in (
      (answered, subst (λ o. AnswersBy o ask old answered) (sym found) refl, h.0),
      same_node old _ pairs limit (put_same held i s s' place.in_range h.1 ∙ sym e) h.2 same,
    )

note_none : (recording : Bool) → None ≡ note_of recording None
note_none true = refl
note_none false = refl

-- what the node answers if no segment has the key
pub asked_elsewhere : (ask : Ask) (recording : Bool) (old : Node) (held : List RoomySegment) (answered : Answered) → old.held ≡ segments_of held → find (has (id_of ask.request)) held ≡ None
    → PassesOn old.links ask answered → AskRecords ask recording old (Ok (answered, None)) old
unfolding ask_done
asked_elsewhere ask recording old held answered e none passed =
    let missed : segment_with (id_of ask.request) old.held ≡ None = ap (segment_with (id_of ask.request)) e ∙ find_none (id_of ask.request) held none in (
      (subst (λ o. AnswersBy o ask old answered) (sym missed) passed, ap (λ o. after_done (done_in o ask old) ask old) (sym missed)),
      note_none recording ∙ ap (λ o. note_of recording (done_in o ask old)) (sym missed),
    )

-- memory ran out for a call that would be sent on
pub asked_no_further : (ask : Ask) (view old : Node) → view ≡ old → (held : List RoomySegment) → view.held ≡ segments_of held → find (has (id_of ask.request)) held ≡ None
    → ((answered : Answered) × PassesOn view.links ask answered × TakesMemory answered) → AsksMemory ask old
asked_no_further ask view old e held v none (answered, passed, takes) =
    let missed : segment_with (id_of ask.request) view.held ≡ None = ap (segment_with (id_of ask.request)) v ∙ find_none (id_of ask.request) held none in
    subst (AsksMemory ask) e (answered, subst (λ o. AnswersBy o ask view answered) (sym missed) passed, takes)

-- ---- the step

is_added : (r : Reply) (b : Bool) → cond (adds_pair r) b false ≡ true → (r ≡ reply.Added) × (b ≡ true)
is_added reply.Added b e = (refl, e)
is_added reply.Present b e = cc
is_added reply.SetFull b e = cc
is_added (reply.Values values) b e = cc
is_added reply.Removed b e = cc
is_added reply.Absent b e = cc

full_step : (ask : Ask) (old : Node) (segment : Segment) → segment_with (id_of ask.request) old.held ≡ Some segment → past_at ask.caller ask.number segment ≡ New
    → (b : Bool) → is_full_for ask.request old.entries old.limit ≡ b
    → NodeStep old (Some (AskMessage ask)) (after_done (cond b None (Some (done_of ask (reply_to ask.request old.entries)))) ask old)
    (sent_by ask (cond b answer.Full (answer.Told (told_of ask (reply_to ask.request old.entries)))))
    (cond b None (Some (done_of ask (reply_to ask.request old.entries))))
unfolding is_full_for
full_step ask old segment e p true full =
    let parts = is_added (reply_to ask.request old.entries) (leb old.limit (length old.entries)) full in
    Answers_full ask segment e p parts.0 (leb-true _ _ parts.1)
full_step ask old segment e p false full = Executes ask segment e p

past_step : (ask : Ask) (old : Node) (segment : Segment) → segment_with (id_of ask.request) old.held ≡ Some segment
    → (past : Past) → past_at ask.caller ask.number segment ≡ past
    → NodeStep old (Some (AskMessage ask)) (after_done (past_done past ask old.entries old.limit) ask old)
    (sent_by ask (past_answer past ask old.entries old.limit)) (past_done past ask old.entries old.limit)
past_step ask old segment e Seen p = Drops_seen ask segment e p
past_step ask old segment e (Kept done) p = Tells_again ask segment done e p
past_step ask old segment e New p = full_step ask old segment e p (is_full_for ask.request old.entries old.limit) refl

-- a call that is passed on has fewer hops
passed_by : (ask : Ask) (old : Node) → segment_with (id_of ask.request) old.held ≡ None → (to : ℕ) (spent : Bool) → (spent ≡ false → ask.hops ≢ 0)
    → NodeStep old (Some (AskMessage ask)) old (sent_by ask (cond spent answer.Dropped (answer.Forward to (record ask { hops = ask.hops - 1 })))) None
passed_by ask old e to true some = Drops ask e
passed_by ask old e to false some = let there : ask.hops ≢ 0 = some refl in Forwards ask (ask.hops - 1) e (omega arith)

passed_step : (ask : Ask) (old : Node) → segment_with (id_of ask.request) old.held ≡ None → (to : ℕ)
    → NodeStep old (Some (AskMessage ask)) old (sent_by ask (cond ((ask.hops == 0) || (to == old.links.me.number)) answer.Dropped (answer.Forward to (record ask { hops = ask.hops - 1 })))) None
passed_step ask old e to =
    passed_by ask old e to ((ask.hops == 0) || (to == old.links.me.number))
    (λ none zero_hops. let yes : ((ask.hops == 0) || (to == old.links.me.number)) ≡ true = ap (λ b. b || (to == old.links.me.number)) (eqb_same ask.hops 0 zero_hops) in cc)

ask_step : (ask : Ask) (old : Node) (answered : Answered) (o : Option Segment) → segment_with (id_of ask.request) old.held ≡ o → AnswersBy o ask old answered
    → NodeStep old (Some (AskMessage ask)) (after_done (done_in o ask old) ask old) (sent_by ask answered) (done_in o ask old)
ask_step ask old answered None e (hop, next, is) = subst (λ a. NodeStep old (Some (AskMessage ask)) old (sent_by ask a) None) (sym is) (passed_step ask old e (peer_of hop).number)
ask_step ask old answered (Some segment) e h = rw h (past_step ask old segment e (past_at ask.caller ask.number segment) refl)

-- the answer is one step of the node
pub asked_steps : (ask : Ask) (old : Node) (result : Result Answered AllocError) (new : Node) → AskIs ask old result new → AskSteps ask old result new
unfolding ask_done
asked_steps ask old (Err fault) new h = tt
asked_steps ask old (Ok answered) new h =
    subst (λ n. NodeStep old (Some (AskMessage ask)) n (sent_by ask answered) (done_in (segment_with (id_of ask.request) old.held) ask old)) (sym h.1)
    (ask_step ask old answered (segment_with (id_of ask.request) old.held) refl h.0)

pub asked_steps_recording : (ask : Ask) (recording : Bool) (old : Node) (result : Result (Answered × Option Done) AllocError) (new : Node)
    → AskRecords ask recording old result new → AskStepsRecording ask old result new
asked_steps_recording ask recording old (Err fault) new h = tt
asked_steps_recording ask recording old (Ok both) new h = asked_steps ask old (Ok both.0) new h.0

-- ---- in the words of the code

pub place_from : (x : ℕ) (held : List RoomySegment) (i : ℕ) (s : RoomySegment) → Some i ≡ position (has x) held → IsPlace x held i s
place_from x held i s e = let p = position-Some (has x) held i s (sym e) in record { in_range = p.0; here = p.1; before = λ k h. p.2 k h }

none_step : (b : Bool) (i : ℕ) → cond b (Some i) None ≡ None → b ≡ false
none_step true i e = cc
none_step false i e = refl

pub find_from : (x : ℕ) (held : List RoomySegment) → position (has x) held ≡ None → find (has x) held ≡ None
find_from x held e =
    find_at (has x) held ∙ slice_get_past held (position_or_len (has x) held) (ltb-false _ _ (none_step _ _ e))

-- an index is found exactly if a segment is
holds_by : (x : ℕ) (held : List RoomySegment) (o : Option ℕ) → o ≡ position (has x) held → is_some o ≡ is_some (segment_with x (segments_of held))
holds_by x held None e = sym (ap is_some (find_none x held (find_from x held (sym e))))
holds_by x [] (Some i) e = cc
holds_by x (s ∷ held) (Some i) e = sym (ap is_some (with_here x (s ∷ held) i (get_or (s ∷ held) i s) (place_from x (s ∷ held) i (get_or (s ∷ held) i s) e)))

pub holds_at : (x : ℕ) (held : List RoomySegment) → is_some (position (has x) held) ≡ is_some (segment_with x (segments_of held))
holds_at x held = holds_by x held (position (has x) held) refl

-- `asked_here` over the view of the fields, which is the old value, and what the store held
pub asked_at : (ask : Ask) (recording : Bool) (view old : Node) → view ≡ old → (held : List RoomySegment) (i : ℕ) (s s' : RoomySegment) (result : Result (Answered × Option Done) AllocError)
    (pairs pairs' : List Pair) (limit limit' : ℕ)
    → view.held ≡ segments_of held → IsPlace (id_of ask.request) held i s → s ≡ get_or held i s → pairs ≡ view.entries → limit ≡ view.limit → limit' ≡ limit
    → AnswersIn ask recording s.segment pairs limit result s'.segment pairs'
    → AskRecords ask recording old result (record view { held = segments_of (set held i s'); entries = pairs'; limit = limit' })
asked_at ask recording view old e held i s s' result pairs pairs' limit limit' v place at same_pairs same_limit same h =
    let P : Node → Type 0 = λ old. AskRecords ask recording old result (record view { held = segments_of (set held i s'); entries = pairs'; limit = limit' }) in
    let Q : RoomySegment → Type 0 = λ r. AnswersIn ask recording r.segment view.entries view.limit result s'.segment pairs' in
    let R : List Pair → Type 0 = λ ps. AnswersIn ask recording s.segment ps limit result s'.segment pairs' in
    let T : ℕ → Type 0 = λ n. AnswersIn ask recording s.segment view.entries n result s'.segment pairs' in
    subst P e (asked_here ask recording view held i s s' result pairs' limit' v place (same ∙ same_limit) (subst Q at (subst T same_limit (subst R same_pairs h))))

pub asked_past : (ask : Ask) (recording : Bool) (view old : Node) → view ≡ old → (held : List RoomySegment) (answered : Answered) → view.held ≡ segments_of held
    → find (has (id_of ask.request)) held ≡ None → PassesOn view.links ask answered → AskRecords ask recording old (Ok (answered, None)) old
asked_past ask recording view old e held answered v none passed =
    let P : Node → Type 0 = λ old. AskRecords ask recording old (Ok (answered, None)) old in
    subst P e (asked_elsewhere ask recording view held answered v none passed)

on_err : {A E : Type 0} (result : Result A E) (P : Type 0) → P → OnErr result P
on_err (Ok a) P p = tt
on_err (Err e) P p = p

-- if a segment is found for the key, the node holds it, whatever the call answered
pub holds_here : {A : Type 0} (result : Result A AllocError) (x : ℕ) (view old : Node) → view ≡ old → (held : List RoomySegment) (i : ℕ) (s : RoomySegment) → view.held ≡ segments_of held
    → IsPlace x held i s → OnErr result (is_some (segment_with x old.held) ≡ true)
holds_here result x view old e held i s v place =
    on_err result _ (ap (λ (n : Node). is_some (segment_with x n.held)) (sym e) ∙ ap (λ ks. is_some (segment_with x ks)) v ∙ ap is_some (with_here x held i s place))

-- ---- the journal

-- the call that the node executes is the one that the segment with the key executes
pub done_here : (ask : Ask) (view old : Node) → view ≡ old → (held : List RoomySegment) (i : ℕ) (s : RoomySegment) (pairs : List Pair) (limit : ℕ)
    → view.held ≡ segments_of held → IsPlace (id_of ask.request) held i s → s ≡ get_or held i s → pairs ≡ view.entries → limit ≡ view.limit
    → past_done (past_at ask.caller ask.number s.segment) ask pairs limit ≡ ask_done ask old
unfolding ask_done
done_here ask view old e held i s pairs limit v place at same_pairs same_limit =
    let found : segment_with (id_of ask.request) view.held ≡ Some (get_or held i s).segment = ap (segment_with (id_of ask.request)) v ∙ with_here (id_of ask.request) held i s place in
    ap (λ (r : RoomySegment). past_done (past_at ask.caller ask.number r.segment) ask pairs limit) at
    ∙ ap₂ (λ ps n. past_done (past_at ask.caller ask.number (get_or held i s).segment) ask ps n) same_pairs same_limit
    ∙ sym (ap (λ o. done_in o ask view) found)
    ∙ ap (ask_done ask) e

pub done_elsewhere : (ask : Ask) (view old : Node) → view ≡ old → (held : List RoomySegment) → view.held ≡ segments_of held → find (has (id_of ask.request)) held ≡ None → None ≡ ask_done ask old
unfolding ask_done
done_elsewhere ask view old e held v none =
    sym (ap (λ o. done_in o ask view) (ap (segment_with (id_of ask.request)) v ∙ find_none (id_of ask.request) held none)) ∙ ap (ask_done ask) e

pub journal_same : (journal : Buffered) → JournalIs journal None journal
journal_same journal = record { on = refl; taken = refl; bytes = sym (append-nil journal.bytes) }
