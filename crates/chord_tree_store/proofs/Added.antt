-- Inserts, by what they answer.
use Rattle.std.proofs.Common.{◌≡◌, ◌<◌, ℕ, Bool, List, [], length, leb, Option, None, arith, Result, Ok, Err, IsErrAnd, ◌+◌, true, false, refl, sym, ap, ◌∙◌, subst}
use Rattle.chord_map.specs.declared.pair.Pair.{Pair}
use Rattle.chord_map.specs.declared.reply.Reply.TheVariants as reply
use Rattle.chord_map.specs.declared.request.Request.TheVariants.{Insert}
use Rattle.chord_map.specs.Map.{has_pair, values_at, reply_to, pairs_after, insert_pair}
use Rattle.chord_map.specs.Pairs.{IsRising}
use Rattle.chord_map.proofs.Lists.{by_test}
use Rattle.chord_map.proofs.Placed.{insert_there, length-insert_new}
use Rattle.chord_map.proofs.Replies.{after_reply, due_present, due_full, due_added}
use Rattle.chord_store.specs.declared.outcome.Inserted.{Inserted}
use Rattle.chord_store.specs.declared.outcome.Inserted.TheVariants.{Added, Present, SetFull}
use Rattle.chord_store.specs.Store.{AddIs, HasFew, insertion, reply_for}
use Rattle.chord_store.proofs.Few.{few-insert}
use Rattle.chord_tree_store.specs.declared.slot.Slot.{Slot}
use Rattle.chord_tree_store.specs.Slot.{pairs_at}
use Rattle.chord_tree_store.specs.ValueSet.{has_value, SetInsertIs}
use Rattle.chord_tree_store.proofs.Shelving.{leb_false, leb_true}

-- an identifier with no slot has room for a pair
pub vacant_adds : (key value : List ℕ) (o : Option Slot) → o ≡ None → reply_to (Insert key value) (pairs_at o) ≡ reply.Added
vacant_adds key value o absent = ap (λ x. reply_to (Insert key value) (pairs_at x)) absent ∙ due_added key value [] refl (omega arith)

-- an insert that was refused, with nothing changed
pub refused_add : (pair : Pair) (old new : List Pair) {E : Type 0} (P : E → Type 0) (r : Result Inserted E) → IsErrAnd r P → reply_to (insertion pair) old ≡ reply.Added → new ≡ old → AddIs pair old r new
refused_add pair old new P (Ok did) is due same = absurd is
refused_add pair old new P (Err e) is due same = (due, same)

pub refused_set : (value : List ℕ) (old new : List (List ℕ)) {E : Type 0} (P : E → Type 0) (r : Result Inserted E) → IsErrAnd r P → has_value value old ≡ false → length old < 1000 → new ≡ old → SetInsertIs value old r new
refused_set value old new P (Ok did) is absent room same = absurd is
refused_set value old new P (Err e) is absent room same = (absent, room, same)

-- after an insert there is one pair more, or nothing changed
pub count_added : (pair : Pair) (old new : List Pair) → reply_to (insertion pair) old ≡ reply.Added → new ≡ pairs_after (insertion pair) old → length new ≡ length old + 1
count_added pair old new due same =
    ap (λ (ps : List Pair). length ps) (same ∙ after_reply (insertion pair) reply.Added old due) ∙ length-insert_new pair old (absent (has_pair pair old) refl)
  where
    present≢added : reply.Present ≡ reply.Added → ⊥
    present≢added e = cc

    absent : (b : Bool) → has_pair pair old ≡ b → has_pair pair old ≡ false
    absent false e = e
    absent true e = absurd (present≢added (sym (due_present pair.key pair.value old e) ∙ due))

pub stays : (pair : Pair) (old new : List Pair) (did : Inserted) → (did ≡ Added → ⊥) → reply_to (insertion pair) old ≡ reply_for did → new ≡ pairs_after (insertion pair) old → new ≡ old
stays pair old new Added other due same = absurd (other refl)
stays pair old new Present other due same = same ∙ after_reply (insertion pair) reply.Present old due
stays pair old new SetFull other due same = same ∙ after_reply (insertion pair) reply.SetFull old due

-- if the key has room, an insert adds the pair
pub put_adds : (pair : Pair) (old new : List Pair) → IsRising old → length (values_at pair.key old) < 1000 → new ≡ pairs_after (insertion pair) old → new ≡ insert_pair pair old
put_adds pair old new rises room same = put_by (has_pair pair old) refl
  where
    put_by : (b : Bool) → has_pair pair old ≡ b → new ≡ insert_pair pair old
    put_by true e = same ∙ after_reply (insertion pair) reply.Present old (due_present pair.key pair.value old e) ∙ sym (insert_there pair old rises e)
    put_by false e = same ∙ after_reply (insertion pair) reply.Added old (due_added pair.key pair.value old e room)

-- no key gets more than 1,000 values

added_room : (pair : Pair) (pairs : List Pair) → reply_to (insertion pair) pairs ≡ reply.Added → length (values_at pair.key pairs) < 1000
added_room pair pairs due =
    by_test (has_pair pair pairs)
    (λ t. absurd (present≢added (sym (due_present pair.key pair.value pairs t) ∙ due)))
    (λ f.
    by_test (leb 1000 (length (values_at pair.key pairs)))
    (λ l. absurd (full≢added (sym (due_full pair.key pair.value pairs f (leb_true 1000 (length (values_at pair.key pairs)) l)) ∙ due)))
    (λ g. leb_false 1000 (length (values_at pair.key pairs)) g))
  where
    present≢added : reply.Present ≡ reply.Added → ⊥
    present≢added e = cc

    full≢added : reply.SetFull ≡ reply.Added → ⊥
    full≢added e = cc

pub few_added : (pair : Pair) (old new : List Pair) {E : Type 0} (r : Result Inserted E) → AddIs pair old r new → HasFew old → HasFew new
few_added pair old new (Ok Added) a few = subst HasFew (sym (a.1 ∙ after_reply (insertion pair) reply.Added old a.0)) (few-insert pair old few (added_room pair old a.0))
few_added pair old new (Ok Present) a few = subst HasFew (sym (a.1 ∙ after_reply (insertion pair) reply.Present old a.0)) few
few_added pair old new (Ok SetFull) a few = subst HasFew (sym (a.1 ∙ after_reply (insertion pair) reply.SetFull old a.0)) few
few_added pair old new (Err e) a few = subst HasFew (sym a.1) few
