-- The pairs of slots by identifier, before and after a change at one identifier.
use Rattle.std.proofs.Common.{◌≡◌, ℕ, ◌<◌, ◌^◌, false, eqb, List, [], Result, Ok, Err, refl, sym, ap, ◌∙◌, subst, arith, nat_cmp, bytes_eq}
use Rattle.std.specs.FinMap.{FinMap, get}
use Rattle.std.proofs.lemmas.Bool.{true≢false}
use Rattle.chord_ident.specs.Circle.{key_id}
use Rattle.chord_ident.proofs.Digest.{key_id-below}
use Rattle.chord_map.specs.declared.pair.Pair.{Pair}
use Rattle.chord_map.specs.declared.request.Request.{Request}
use Rattle.chord_map.specs.declared.request.Request.TheVariants.{Remove}
use Rattle.chord_map.specs.declared.reply.Reply.{Reply}
use Rattle.chord_map.specs.declared.reply.Reply.TheVariants as reply
use Rattle.chord_map.specs.Map.{pair_cmp, has_pair, values_at, remove_pair, key_of, pairs_by, reply_to}
use Rattle.chord_map.specs.Pairs.{IsRising}
use Rattle.chord_map.proofs.Equal.{eqb_same, eqb_is}
use Rattle.chord_map.proofs.Lists.{by_test, by_option}
use Rattle.chord_map.proofs.MapLemmas.{RisingPairs, pair_of, bytes_same, bytes_itself, by_same, by_other, rises_by, values_same, reply_same}
use Rattle.chord_map.proofs.Ordered.{rises_from_rising, rising_from_rises}
use Rattle.chord_map.proofs.Placed.{same_pairs}
use Rattle.chord_map.proofs.Replies.{after_reply}
use Rattle.chord_store.specs.declared.outcome.Inserted.{Inserted}
use Rattle.chord_store.specs.Store.{AddIs, HasFew, insertion, reply_for}
use Rattle.chord_store.proofs.Few.{few-remove}
use Rattle.chord_tree_store.specs.declared.slot.Slot.{Slot}
use Rattle.chord_tree_store.specs.Slot.{pairs_at}
use Rattle.chord_tree_store.specs.Slots.{IsSlot, ArePlaced, pairs_in}
use Rattle.chord_tree_store.proofs.Added.{few_added}
use Rattle.chord_tree_store.proofs.Gathered.{has-in, rises-in}

-- what an identifier's slot has, or would have
pub slot_of : (m : FinMap nat_cmp Slot) → ArePlaced m → (key : List ℕ) (id : ℕ) → id ≡ key_id key → IsSlot id (pairs_at (get m id))
slot_of m placed key id is =
    by_option (get m id)
    (λ none. subst (λ o. IsSlot id (pairs_at o)) (sym none) (record {
      small = subst (λ (n : ℕ). n < 2 ^ 128) (sym is) (key_id-below key);
      rises = rising_from_rises pair_cmp [] tt;
      few = λ k. omega arith;
      keyed = λ q there. absurd (true≢false (sym there));
    }))
    (λ slot held. subst (λ o. IsSlot id (pairs_at o)) (sym held) (placed id slot held))

pub had : (m : FinMap nat_cmp Slot) → ArePlaced m → (key value : List ℕ) (id : ℕ) → id ≡ key_id key → has_pair (pair_of key value) (pairs_in m) ≡ has_pair (pair_of key value) (pairs_at (get m id))
had m placed key value id is = has-in m placed (pair_of key value) ∙ ap (λ (n : ℕ). has_pair (pair_of key value) (pairs_at (get m n))) (sym is)

rises_at : (m : FinMap nat_cmp Slot) → ArePlaced m → (key : List ℕ) (id : ℕ) → id ≡ key_id key → RisingPairs (pairs_at (get m id))
rises_at m placed key id is = rises_from_rising pair_cmp (pairs_at (get m id)) (slot_of m placed key id is).rises

pub values-in : (m : FinMap nat_cmp Slot) → ArePlaced m → (key : List ℕ) (id : ℕ) → id ≡ key_id key → values_at key (pairs_in m) ≡ values_at key (pairs_at (get m id))
values-in m placed key id is = values_same key (pairs_in m) (pairs_at (get m id)) (rises-in m) (rises_at m placed key id is) (λ v. had m placed key v id is)

pub few-in : (m : FinMap nat_cmp Slot) → ArePlaced m → HasFew (pairs_in m)
few-in m placed key = rw (values-in m placed key (key_id key) refl) ((slot_of m placed key (key_id key) refl).few key)

-- a slot after a request
slot_by : (request : Request) (answer : Reply) (id : ℕ) (old new : List Pair) → id ≡ key_id (key_of request) → IsSlot id old → new ≡ pairs_by request answer old → HasFew new → IsSlot id new
slot_by request answer id old new is slot change few = record {
  small = slot.small;
  rises = subst (λ (ps : List Pair). IsRising ps) (sym change) (rising_from_rises pair_cmp (pairs_by request answer old) (rises_by request answer old (rises_from_rising pair_cmp old slot.rises)));
  few = few;
  keyed = λ q there.
      by_test (bytes_eq q.key (key_of request))
      (λ t. ap key_id (bytes_same q.key (key_of request) t) ∙ sym is)
      (λ f. slot.keyed q (sym (ap (has_pair q) change ∙ by_other request answer q old (λ e. true≢false (sym (bytes_itself q.key (key_of request) e) ∙ f))) ∙ there));
}

module _ (m n : FinMap nat_cmp Slot) (placed : ArePlaced m) (id : ℕ) (others : (q : ℕ) → eqb id q ≡ false → get n q ≡ get m q) where
  placed_after : IsSlot id (pairs_at (get n id)) → ArePlaced n
  placed_after slot q s held =
      by_test (eqb id q)
      (λ t. subst (λ o. IsSlot q (pairs_at o)) held (subst (λ (k : ℕ). IsSlot k (pairs_at (get n k))) (eqb_is id q t) slot))
      (λ f. placed q s (sym (others q f) ∙ held))

  -- what a request does to the slot of its key, it does to the map
  pairs_after_by : (request : Request) (answer : Reply) → id ≡ key_id (key_of request) → ArePlaced n → pairs_at (get n id) ≡ pairs_by request answer (pairs_at (get m id)) → pairs_in n ≡ pairs_by request answer (pairs_in m)
  pairs_after_by request answer is after change =
      same_pairs (pairs_in n) (pairs_by request answer (pairs_in m)) (rises-in n) (rises_by request answer (pairs_in m) (rises-in m)) (λ q.
      has-in n after q
      ∙ by_test (eqb id (key_id q.key))
      (λ t.
      let at = eqb_is id (key_id q.key) t in
      ap (λ (k : ℕ). has_pair q (pairs_at (get n k))) (sym at)
      ∙ ap (has_pair q) change
      ∙ by_same request answer q (pairs_at (get m id)) (pairs_in m) (ap (λ (k : ℕ). has_pair q (pairs_at (get m k))) at ∙ sym (has-in m placed q)))
      (λ f.
      ap (λ o. has_pair q (pairs_at o)) (others (key_id q.key) f)
      ∙ sym (has-in m placed q)
      ∙ sym (by_other request answer q (pairs_in m) (λ e. true≢false (sym (eqb_same id (key_id q.key) (is ∙ ap key_id (sym e))) ∙ f)))))

  module _ (key value : List ℕ) (is : id ≡ key_id key) where
    abbrev pair : Pair
    pair = pair_of key value

    few_at : HasFew (pairs_at (get m id))
    few_at = (slot_of m placed key id is).few

    pub adds_placed : {E : Type 0} (r : Result Inserted E) → AddIs (pair_of key value) (pairs_at (get m id)) r (pairs_at (get n id)) → ArePlaced n
    adds_placed (Ok did) a =
        placed_after (slot_by (insertion pair) (reply_for did) id (pairs_at (get m id)) (pairs_at (get n id)) is (slot_of m placed key id is)
        (a.1 ∙ after_reply (insertion pair) (reply_for did) (pairs_at (get m id)) a.0) (few_added pair (pairs_at (get m id)) (pairs_at (get n id)) {E = ℕ} (Ok did) a few_at))
    adds_placed (Err e) a = placed_after (subst (IsSlot id) (sym a.1) (slot_of m placed key id is))

    due : reply_to (insertion pair) (pairs_in m) ≡ reply_to (insertion pair) (pairs_at (get m id))
    due = reply_same (insertion pair) (pairs_in m) (pairs_at (get m id)) (rises-in m) (rises_at m placed key id is) (λ v. had m placed key v id is)

    -- an insert into the slot is one into the map
    pub adds : {E : Type 0} (r : Result Inserted E) → ArePlaced n → AddIs (pair_of key value) (pairs_at (get m id)) r (pairs_at (get n id)) → AddIs (pair_of key value) (pairs_in m) r (pairs_in n)
    adds (Ok did) after a = (
      due ∙ a.0,
      pairs_after_by (insertion pair) (reply_for did) is after (a.1 ∙ after_reply (insertion pair) (reply_for did) (pairs_at (get m id)) a.0)
          ∙ sym (after_reply (insertion pair) (reply_for did) (pairs_in m) (due ∙ a.0)),
    )
    adds (Err e) after a = (due ∙ a.0, pairs_after_by (insertion pair) reply.Present is after a.1)

    pub removes_placed : pairs_at (get n id) ≡ remove_pair (pair_of key value) (pairs_at (get m id)) → ArePlaced n
    removes_placed change =
        placed_after (slot_by (Remove key value) reply.Removed id (pairs_at (get m id)) (pairs_at (get n id)) is (slot_of m placed key id is) change
        (subst HasFew (sym change) (few-remove pair (pairs_at (get m id)) few_at)))

    pub removes : pairs_at (get n id) ≡ remove_pair (pair_of key value) (pairs_at (get m id)) → pairs_in n ≡ remove_pair (pair_of key value) (pairs_in m)
    removes change = pairs_after_by (Remove key value) reply.Removed is (removes_placed change) change
