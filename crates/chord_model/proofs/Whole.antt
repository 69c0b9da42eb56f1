-- A handover whose parts are all there is the item in its giver's outbox.
use Rattle.std.proofs.Common.{◌≡◌, ℕ, zero, suc, ◌+◌, ◌-◌, ◌*◌, ◌<◌, ◌≤◌, false, ⊎_elim, sym, ◌∙◌, ap, ap₂, subst, arith, List, [], ◌∷◌, ◌++◌, length, take, drop, Some, take-append-drop, length-drop, drop-drop, Contains}
use Rattle.std.proofs.lemmas.Option.{same_Some}
use Rattle.std.proofs.lemmas.List.{nil_from_length}
use Rattle.chord_handover.proofs.OutboxLemmas.{item_at_is}
use Rattle.chord_handover.specs.Handover.{Handover, Part, parts_in, chunk, part_at, IsWhole, gathered_parts, Item, handover_of}
use Rattle.chord_map.proofs.Lists.{Has, has_cases, has_filter, has_contained}
use Rattle.chord_map.specs.declared.pair.Pair.{Pair}
use Rattle.chord_model.proofs.Channels.{taken_in, gone_in, item_from, GiveOk, PartOk, MessageOk}
use Rattle.chord_model.proofs.Events.{sender_of}
use Rattle.chord_model.specs.declared.message.Message.{Message}
use Rattle.chord_model.specs.declared.message.Message.TheVariants.{Part as PartMessage}
use Rattle.chord_model.specs.Node.{Node}
use Rattle.chord_model.specs.World.{node_at}

-- two lists with equal chunks of 64 are equal
chunks_same : (n : ℕ) (xs ys : List Pair) → length xs ≤ n * 64 → length ys ≤ n * 64 → ((place : ℕ) → place < n → take 64 (drop (place * 64) xs) ≡ take 64 (drop (place * 64) ys)) → xs ≡ ys
chunks_same zero xs ys low also same = nil_from_length xs (omega arith) ∙ sym (nil_from_length ys (omega arith))
chunks_same (suc n) xs ys low also same =
    let first : take 64 xs ≡ take 64 ys = same 0 (omega arith) in
    let rest : drop 64 xs ≡ drop 64 ys =
    chunks_same n (drop 64 xs) (drop 64 ys) (omega (arith, length-drop 64 xs)) (omega (arith, length-drop 64 ys))
    (λ place below.
    let e : 64 + place * 64 ≡ suc place * 64 = omega arith in
    ap (take 64) (drop-drop (place * 64) 64 xs ∙ ap (λ k. drop k xs) e)
    ∙ same (suc place) (omega arith)
    ∙ sym (ap (take 64) (drop-drop (place * 64) 64 ys ∙ ap (λ k. drop k ys) e))) in
    sym (take-append-drop 64 xs) ∙ ap₂ ◌++◌ first rest ∙ take-append-drop 64 ys

chunk_is : (place : ℕ) (pairs : List Pair) → chunk (suc place) pairs ≡ take 64 (drop (place * 64) pairs)
chunk_is place pairs = let e : 64 * (suc place - 1) ≡ place * 64 = omega arith in ap (λ k. take 64 (drop k pairs)) e

enough : (pairs : List Pair) → length pairs ≤ parts_in pairs * 64
enough pairs = omega arith

-- if each part of a handover is that of another, both have equal segments and pairs
same_parts : (one other : Handover) → ((part : ℕ) → 1 ≤ part → part ≤ parts_in one.pairs → part_at one part ≡ part_at other part) → (one.segment ≡ other.segment) × (one.pairs ≡ other.pairs)
same_parts one other is =
    let count : ℕ = parts_in one.pairs in
    let head : part_at one 1 ≡ part_at other 1 = is 1 (omega arith) (omega arith) in
    let same_count : count ≡ parts_in other.pairs = ap (λ (p : Part). p.of) head in (
      same_Some one.segment other.segment (ap (λ (p : Part). p.segment) head),
      chunks_same count one.pairs other.pairs (enough one.pairs) (subst (λ n. length other.pairs ≤ n * 64) (sym same_count) (enough other.pairs))
          (λ place below. sym (chunk_is place one.pairs) ∙ ap (λ (p : Part). p.pairs) (is (suc place) (omega arith) (omega arith)) ∙ chunk_is place other.pairs),
    )

-- the parts that were gathered were sent
gathered_sent : (sent : List Message) (part : Part) (buffered : List Part) → Contains sent (PartMessage part) → ((other : Part) → Has buffered other → Contains sent (PartMessage other))
    → (other : Part) → Has (gathered_parts part buffered) other → Contains sent (PartMessage other)
gathered_sent sent part buffered was all other h =
    ⊎_elim (λ a. all other (has_filter _ buffered other a).0)
    (λ b. ⊎_elim (λ e. subst (λ (p : Part). Contains sent (PartMessage p)) e was) (λ n. absurd n) b)
    (has_cases _ (part ∷ []) other h)

pub whole_ok : (nodes : List Node) (sent : List Message) → ((message : Message) → Contains sent message → MessageOk nodes message)
    → (part : Part) (buffered : List Part) (handover : Handover) → Contains sent (PartMessage part) → ((other : Part) → Has buffered other → Contains sent (PartMessage other))
    → IsWhole (gathered_parts part buffered) handover → gone_in nodes handover.to ≡ false → taken_in nodes handover.to handover.from < handover.number → GiveOk nodes handover
whole_ok nodes sent messages part buffered handover was all whole here above =
    let ok : (place : ℕ) → 1 ≤ place → place ≤ parts_in handover.pairs → PartOk nodes (part_at handover place) =
    λ place from below. messages (PartMessage (part_at handover place))
    (gathered_sent sent part buffered was all (part_at handover place) (has_contained (gathered_parts part buffered) (part_at handover place) (whole.all place from below))) in
    let first = (ok 1 (omega arith) (omega arith)).kept here above in
    let item : Item = first.0 in
    let sender = sender_of (node_at handover.from nodes) handover.to handover.number item first.1 in
    let is = item_at_is handover.to handover.number (sender.0).outbox item sender.2 in
    let each : (place : ℕ) → 1 ≤ place → place ≤ parts_in handover.pairs → part_at handover place ≡ part_at (handover_of handover.from item) place =
    λ place from below.
    let kept = (ok place from below).kept here above in
    let same : kept.0 ≡ item = same_Some kept.0 item (sym kept.1 ∙ first.1) in
    kept.2 ∙ ap (λ (i : Item). part_at (handover_of handover.from i) place) same in
    let parts = same_parts handover (handover_of handover.from item) each in
    let whole_item : item ≡ item_from handover = all_same item handover is.0 is.1 (sym parts.0) (sym parts.1) in
    record {
      given = (ok 1 (omega arith) (omega arith)).given;
      kept = λ at late. first.1 ∙ ap Some whole_item;
    }
  where
    all_same : (item : Item) (handover : Handover) → item.to ≡ handover.to → item.number ≡ handover.number → item.segment ≡ handover.segment → item.pairs ≡ handover.pairs → item ≡ item_from handover
    all_same item handover a b c d = λ i. record { to = a i; number = b i; segment = c i; pairs = d i }
