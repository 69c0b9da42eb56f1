-- Changes of the held segments, with their room and
-- without it, and a node's steps without a message.
use Rattle.std.proofs.Common.{◌≡◌, ◌≢◌, ℕ, zero, suc, ◌+◌, ◌<◌, ◌&&◌, ◌^◌, nat_le, Bool, true, false, cond, Option, None, Some, Result, Ok, Err, List, [], ◌∷◌, ◌++◌, length, get_or, set, refl, sym, ◌∙◌, ap, subst, arith, rules}
use Rattle.std.proofs.lemmas.Bool.{and_parts, leb-true}
use Rattle.std.specs.Prelude.{slice_get, insert, remove}
use Rattle.std.specs.Option.{IsSome}
use Rattle.chord_handover.proofs.OutboxLemmas.{item_at_is}
use Rattle.chord_handover.specs.Handover.{Item, Part, item_at, part_at, parts_in, outbox_without, handover_of}
use Rattle.chord_handover.specs.Outbox.{payload_of, part_of_item}
use Rattle.chord_handover.specs.Payload.{handover_of_payload}
use Rattle.chord_handover.specs.Taken.{Taken}
use Rattle.chord_handover.specs.declared.ticket.Ticket.{Ticket}
use Rattle.chord_ident.specs.declared.id.Id.{Id}
use Rattle.chord_map.specs.declared.pair.Pair.{Pair}
use Rattle.chord_node.specs.declared.fault.CutAtFault.{CutAtFault}
use Rattle.chord_node.specs.declared.fault.CutAtFault.TheVariants as cut
use Rattle.chord_node.specs.declared.fault.NotStaying.{NotStaying}
use Rattle.chord_node.specs.declared.fault.ResendPartFault.{ResendPartFault}
use Rattle.chord_node.specs.declared.fault.RetireFault.{RetireFault}
use Rattle.chord_model.specs.declared.message.Message.TheVariants.{Part as PartMessage, Got as GotMessage}
use Rattle.chord_model.specs.declared.phase.Phase.{Phase}
use Rattle.chord_model.specs.declared.phase.Phase.TheVariants.{Leaving, Gone}
use Rattle.chord_node.specs.Moves.{MoveSteps, SendSteps, ResendIs, LeaveIs, RetireIs, CutHeld, with_held, CutAtIs}
use Rattle.chord_model.specs.Node.{Node, NodeStep, cut_held}
use Rattle.chord_model.specs.Node.NodeStep.{Cuts, Gives_again, Frees, Leaves, Retires}
use Rattle.chord_node.specs.Rules.{HasStoreFor}
use Rattle.chord_node.specs.Received.{GotIs}
use Rattle.chord_node.specs.View.{segments_of}
use Rattle.chord_segment.specs.Segment.{Segment, RoomySegment, part_before, part_behind}

-- ---- the held segments without their room

pub segments_get : (held : List RoomySegment) (i : ℕ) (s : RoomySegment) → i < length held → s ≡ get_or held i s → slice_get (segments_of held) i ≡ Some s.segment
segments_get [] i s h e = absurd (omega arith)
segments_get (y ∷ held) zero s h e = ap (λ (r : RoomySegment). Some r.segment) (sym e)
segments_get (y ∷ held) (suc i) s h e = segments_get held i s (omega arith) e

pub segments_set : (held : List RoomySegment) (i : ℕ) (s : RoomySegment) → segments_of (set held i s) ≡ set (segments_of held) i s.segment
segments_set [] zero s = refl
segments_set [] (suc i) s = refl
segments_set (y ∷ held) zero s = refl
segments_set (y ∷ held) (suc i) s = ap (λ (ks : List Segment). y.segment ∷ ks) (segments_set held i s)

pub segments_insert : (held : List RoomySegment) (i : ℕ) (s : RoomySegment) → segments_of (insert held i s) ≡ insert (segments_of held) i s.segment
segments_insert [] zero s = refl
segments_insert [] (suc i) s = refl
segments_insert (y ∷ held) zero s = refl
segments_insert (y ∷ held) (suc i) s = ap (λ (ks : List Segment). y.segment ∷ ks) (segments_insert held i s)

pub segments_remove : (held : List RoomySegment) (i : ℕ) → segments_of (remove held i) ≡ remove (segments_of held) i
segments_remove [] zero = refl
segments_remove [] (suc i) = refl
segments_remove (y ∷ held) zero = refl
segments_remove (y ∷ held) (suc i) = ap (λ (ks : List Segment). y.segment ∷ ks) (segments_remove held i)

pub segments_length : (held : List RoomySegment) → length (segments_of held) ≡ length held
segments_length [] = refl
segments_length (y ∷ held) = omega (arith, segments_length held)

-- a segment that is held from now on
pub segments_push : (held : List RoomySegment) (s : RoomySegment) → segments_of (held ++ s ∷ []) ≡ segments_of held ++ s.segment ∷ []
segments_push [] s = refl
segments_push (y ∷ held) s = ap (λ (ks : List Segment). y.segment ∷ ks) (segments_push held s)

pub held_more : (held made new : List RoomySegment) (s : RoomySegment) (segment : Segment) → new ≡ made ++ s ∷ [] → made ≡ held → s.segment ≡ segment
    → segments_of new ≡ segments_of held ++ segment ∷ []
held_more held made new s segment e f g =
    ap segments_of e ∙ segments_push made s ∙ ap (λ (hs : List RoomySegment). segments_of hs ++ s.segment ∷ []) f ∙ ap (λ (k : Segment). segments_of held ++ k ∷ []) g

-- the held segments after the cut
pub cut_knowns : (held new : List RoomySegment) (i : ℕ) (s first second : RoomySegment) (at : Id) → new ≡ insert (set held i first) (i + 1) second
    → first.segment ≡ part_before at s.segment → second.segment ≡ part_behind at s.segment → segments_of new ≡ cut_held i s.segment at (segments_of held)
cut_knowns held new i s first second at e f g =
    ap segments_of e ∙ segments_insert (set held i first) (i + 1) second
    ∙ ap (λ (ks : List Segment). insert ks (i + 1) second.segment) (segments_set held i first)
    ∙ ap (λ (k : Segment). insert (set (segments_of held) i k) (i + 1) second.segment) f
    ∙ ap (λ (k : Segment). insert (set (segments_of held) i (part_before at s.segment)) (i + 1) k) g

-- two reads at one index give equal segments
pub same_at : (held held' : List RoomySegment) (i : ℕ) (a b : RoomySegment) → i < length held → held' ≡ held → a ≡ get_or held i a → b ≡ get_or held' i b → a.segment ≡ b.segment
same_at held held' i a b h e f g =
    let first = segments_get held i a h f in
    let h' : i < length held' = let l = ap (λ (hs : List RoomySegment). length hs) e in omega arith in
    let second = ap (λ (hs : List RoomySegment). slice_get (segments_of hs) i) (sym e) ∙ segments_get held' i b h' g in
    let both : Some a.segment ≡ Some b.segment = sym first ∙ second in
    cc

-- ---- a cut

pub no_place : (held : List Segment) (place : ℕ) (segment : Segment) → held ≡ [] → slice_get held place ≡ Some segment → ⊥
no_place [] place segment none e = cc
no_place (first ∷ held) place segment none e = cc

unchanged : (old new : Node) → new.held ≡ old.held → new ≡ with_held new.held old → new ≡ old
unchanged old new e f = f ∙ ap (λ (held : List Segment). with_held held old) e

pub cut_steps : (place : ℕ) (at : Id) (old : Node) (result : Result (Unit {0}) CutAtFault) (new : Node) → at.number < 2 ^ 128 → CutAtIs place at old result new → MoveSteps old result new
cut_steps place at old (Ok done) new circle h =
    let cut = h.0 in
    let e : new ≡ with_held (cut_held place cut.0 at old.held) old = h.1 ∙ ap (λ (held : List Segment). with_held held old) cut.3 in
    subst (λ (node : Node). NodeStep old None node None None) (sym e) (Cuts place cut.0 at cut.1 circle cut.2)
cut_steps place at old (Err fault) new circle h = tt

-- stated over the view of the fields, which equals the old value
pub cut_at_is : (place : ℕ) (at : Id) (view old : Node) → view ≡ old → (result : Result (Unit {0}) CutAtFault) (held : List Segment)
    → CutHeld place at view.held result held → CutAtIs place at old result (with_held held view)
cut_at_is place at view old e result held h =
    let P : Node → Type 0 = λ node. CutAtIs place at node result (with_held held view) in
    subst P e (h, refl)

pub cut_none : (place : ℕ) (at : Id) (old new : List Segment) (result : Result (Unit {0}) CutAtFault) → CutHeld place at old result new → old ≡ [] → new ≡ []
cut_none place at old new (Ok done) h none = absurd (no_place old place h.0 none h.1)
cut_none place at old new (Err cut.NoSegment) h none = h.1 ∙ none
cut_none place at old new (Err cut.NotInside) h none = h.3 ∙ none
cut_none place at old new (Err cut.Memory) h none = h.3 ∙ none

-- ---- leaving

pub nil_by : {A : Type 0} (xs : List A) → length xs ≡ 0 → xs ≡ []
nil_by [] e = refl
nil_by (x ∷ xs) e = absurd (omega arith)

pub leave_steps : (old : Node) (result : Result (Unit {0}) NotStaying) (new : Node) → LeaveIs old result new → MoveSteps old result new
leave_steps old (Ok done) new h = subst (λ (node : Node). NodeStep old None node None None) (sym h.1) (Leaves h.0)
leave_steps old (Err fault) new h = tt

pub retire_steps : (old : Node) (result : Result (Unit {0}) RetireFault) (new : Node) → RetireIs old result new → MoveSteps old result new
retire_steps old (Ok done) new h = subst (λ (node : Node). NodeStep old None node None None) (sym h.4) (Retires h.0 h.1 h.2)
retire_steps old (Err fault) new h = tt

module _ {S : Type 0} where
  -- a node that is not gone keeps its store through other phases
  pub stored_there : (phase phase' : Phase) (held held' : List Segment) (items items' : List Item) (store : Option S) → phase ≢ Gone
      → HasStoreFor phase held items store → HasStoreFor phase' held' items' store
  stored_there phase phase' held held' items items' None there h = absurd (there h.0)
  stored_there phase phase' held held' items items' (Some store) there h = tt

same_gone : (view : Node) (entries : List Pair) (taken : Taken) → entries ≡ view.entries → taken ≡ record { last = view.taken; buffered = [] }
    → ◌≡◌ {A = Node} (record view { phase = Gone; entries = entries; limit = 0; taken = taken.last; buffered = taken.buffered }) (record view { phase = Gone; limit = 0; buffered = [] })
same_gone view entries taken e f = rw (e, f) refl

pub retired : (view old : Node) → view ≡ old → (taken : Taken) → view.phase ≡ Leaving → view.held ≡ [] → view.outbox ≡ [] → view.entries ≡ [] → taken ≡ record { last = view.taken; buffered = [] }
    → RetireIs old (Ok tt) (record view { phase = Gone; entries = []; limit = 0; taken = taken.last; buffered = taken.buffered })
retired view old same taken leaving held outbox entries is =
    subst (λ (node : Node). RetireIs node (Ok tt) (record view { phase = Gone; entries = []; limit = 0; taken = taken.last; buffered = taken.buffered })) same
    (leaving, held, outbox, entries, same_gone view [] taken (sym entries) is)

-- ---- what is sent again

given_again : (to number part : ℕ) (node : Node) (item : Item) (found : Part) → item_at to number node.outbox ≡ Some item
    → (b : Bool) → (nat_le 1 part && nat_le part (parts_in item.pairs)) ≡ b
    → cond b (Some (part_at (handover_of_payload (record { from = node.number; to = to; number = number }) (record { segment = item.segment; pairs = item.pairs })) part)) None ≡ Some found
    → NodeStep node None node (Some (PartMessage found)) None
given_again to number part node item found e true inside same =
    let bounds = and_parts (nat_le 1 part) (nat_le part (parts_in item.pairs)) inside in
    let name = item_at_is to number node.outbox item e in
    let is : part_at (handover_of node.number item) part ≡ found =
    ap (λ n. part_at (record { from = node.number; to = n; number = item.number; segment = item.segment; pairs = item.pairs }) part) name.0
    ∙ ap (λ n. part_at (record { from = node.number; to = to; number = n; segment = item.segment; pairs = item.pairs }) part) name.1 ∙ cc in
    subst (λ (p : Part). NodeStep node None node (Some (PartMessage p)) None) is
    (Gives_again to number part item e (leb-true _ _ bounds.0) (leb-true _ _ bounds.1))
given_again to number part node item found e false inside same = cc

resend_by : (to number part : ℕ) (node : Node) (found : Part) (o : Option Item) → item_at to number node.outbox ≡ o
    → part_of_item node.number to number part (payload_of o) ≡ Some found → NodeStep node None node (Some (PartMessage found)) None
resend_by to number part node found None e same = cc
resend_by to number part node found (Some item) e same =
    given_again to number part node item found e (nat_le 1 part && nat_le part (parts_in item.pairs)) refl same

pub resend_steps : (to number part : ℕ) (node : Node) (result : Result Part ResendPartFault) → ResendIs to number part node result → SendSteps node result node
resend_steps to number part node (Ok found) h = resend_by to number part node found (item_at to number node.outbox) refl h
resend_steps to number part node (Err fault) h = tt

-- ---- what its receiver has

pub got_steps : (ticket : Ticket) (old : Node) (found : Bool) (new : Node) → ticket.from ≡ old.number → GotIs ticket old found new
    → NodeStep old (Some (GotMessage ticket)) new None None
got_steps ticket old found new from h = subst (λ (node : Node). NodeStep old (Some (GotMessage ticket)) node None None) (sym h.1) (Frees ticket from)

module _ {S : Type 0} where
  -- if the outbox has an item there is a store
  pub has_store : (phase : Phase) (held : List Segment) (items : List Item) (store : Option S) → HasStoreFor phase held items store → (items ≡ [] → ⊥) → IsSome store
  has_store phase held items None h some = absurd (some h.2)
  has_store phase held items (Some store) h some = search rules

  -- if nothing was held nothing is held
  pub stored_held : (phase : Phase) (held held' : List Segment) (items : List Item) (store : Option S) → (held ≡ [] → held' ≡ [])
      → HasStoreFor phase held items store → HasStoreFor phase held' items store
  stored_held phase held held' items None none h = (h.0, none h.1, h.2)
  stored_held phase held held' items (Some store) none h = tt

  pub stored_without : (to number : ℕ) (phase : Phase) (held : List Segment) (items : List Item) (store : Option S)
      → HasStoreFor phase held items store → HasStoreFor phase held (outbox_without to number items) store
  unfolding outbox_without
  stored_without to number phase held items None h = (h.0, h.1, ap (outbox_without to number) h.2)
  stored_without to number phase held items (Some store) h = tt
