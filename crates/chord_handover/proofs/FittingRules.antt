-- Parts with one of each number, each filled as its number asks, are the parts of all their pairs.
use Rattle.std.proofs.Common.{◌≡◌, ℕ, zero, suc, ◌+◌, ◌-◌, ◌*◌, ◌<◌, ◌≤◌, true, false, cond, eqb, Option, Some, None, List, [], ◌++◌, length, take, drop, is_some, append-nil, append_assoc, inl, inr, ⊎_elim, refl, sym, ◌∙◌, ap, ap₂, subst, arith, All, length-append, filter}
use Rattle.std.proofs.lemmas.Bool.{cond-true, cond-false, cases_lt, and_parts}
use Rattle.std.proofs.lemmas.List.{take_all, length-drop, length-take}
use Rattle.std.proofs.Math.Seq.{take-append_seam, drop-append_seam}
use Rattle.chord_map.proofs.Lists.{by_test, Has, has_pushed, has_filter, each_all, all_each, finds, found}
use Rattle.chord_map.specs.declared.pair.Pair.{Pair}
use Rattle.chord_map.proofs.Equal.{eqb_same, eqb_is}
use Rattle.chord_segment.specs.Segment.{Segment}
use Rattle.chord_handover.specs.Gather.{AreOf, AreAllThere, IsFitting, part_in, segment_of, pairs_of, pairs_upto}
use Rattle.chord_handover.specs.Handover.{Part, IsPart, IsFilled, parts_in, chunk, part_at, gathered_parts, ticket_of_part}
use Rattle.chord_handover.specs.Payload.{IsPayload, handover_of_payload}
use Rattle.chord_handover.proofs.GatherRules.{is_like, at_place, all_gathered, IsPartOf}
use Rattle.chord_handover.proofs.PassRules.{front}

-- the parts say that they are `of`, and each is filled as its number asks
abbrev pub AreFilled : ℕ → List Part → Type 0
AreFilled of parts = (x : Part) → Has parts x → (x.of ≡ of) × IsFilled x

-- the parts before this one are full: 64 pairs each
upto_length : (of place : ℕ) (parts : List Part) → AreAllThere of parts → AreFilled of parts → place < of → length (pairs_upto place parts) ≡ 64 * place
unfolding pairs_upto
upto_length of zero parts there filled low = omega arith
upto_length of (suc place) parts there filled low =
    let a = at_place of (suc place) parts there (omega arith) (omega arith) in
    let f = filled a.0 a.3 in
    let at : (a.0).place ≡ suc place = a.2 in
    let count : (a.0).of ≡ of = f.0 in
    let full : length (a.0).pairs ≡ 64 = (f.1).full (omega arith) in
    let before = upto_length of place parts there filled (omega arith) in
    let pairs : length (pairs_of (part_in (suc place) parts)) ≡ length (a.0).pairs = ap (λ o. length (pairs_of o)) a.1 in
    omega (arith, length-append (pairs_upto place parts) (pairs_of (part_in (suc place) parts)))

-- the pairs of further parts come behind
pub further : (place more : ℕ) (parts : List Part) → (rest : List Pair) × (pairs_upto (place + more) parts ≡ pairs_upto place parts ++ rest)
unfolding pairs_upto
further place zero parts =
    let same : place + 0 ≡ place = omega arith in
    ([], ap (λ n. pairs_upto n parts) same ∙ sym (append-nil (pairs_upto place parts)))
further place (suc more) parts =
    let r = further place more parts in
    let next = pairs_of (part_in (suc (place + more)) parts) in
    let at : place + suc more ≡ suc (place + more) = omega arith in
    (r.0 ++ next, ap (λ n. pairs_upto n parts) at ∙ ap (λ ps. ps ++ next) r.1 ∙ append_assoc (pairs_upto place parts) r.0 next)

-- if the pairs of the first parts make no payload, neither do all pairs
pub none_further : (segment : Segment) (place of : ℕ) (parts : List Part) → place ≤ of → ¬ IsPayload (record { segment = segment; pairs = pairs_upto place parts })
    → ¬ IsPayload (record { segment = segment; pairs = pairs_upto of parts })
none_further segment place of parts upto none rules =
    let r = further place (of - place) parts in
    let at : of ≡ place + (of - place) = omega arith in
    let whole : pairs_upto of parts ≡ pairs_upto place parts ++ r.0 = ap (λ n. pairs_upto n parts) at ∙ r.1 in
    none (front segment (pairs_upto place parts) r.0 (subst (λ (pairs : List Pair). IsPayload (record { segment = segment; pairs = pairs })) whole rules))

last_split : (k : ℕ) (parts : List Part) → pairs_upto (suc k) parts ≡ pairs_upto k parts ++ pairs_of (part_in (suc k) parts)
unfolding pairs_upto
last_split k parts = refl

-- the 64 pairs from this part's start are the pairs of the part
chunk_is : (of k : ℕ) (parts : List Part) → AreAllThere of parts → AreFilled of parts → k < of → take 64 (drop (64 * k) (pairs_upto of parts)) ≡ pairs_of (part_in (suc k) parts)
chunk_is of k parts there filled low =
    let a = at_place of (suc k) parts there (omega arith) (omega arith) in
    let f = filled a.0 a.3 in
    let at : (a.0).place ≡ suc k = a.2 in
    let count : (a.0).of ≡ of = f.0 in
    let here = pairs_of (part_in (suc k) parts) in
    let same : length here ≡ length (a.0).pairs = ap (λ o. length (pairs_of o)) a.1 in
    let start : 64 * k ≡ length (pairs_upto k parts) = sym (upto_length of k parts there filled low) in
    elim (cases_lt (suc k) of) [
      | inl earlier ↦
          let r = further (suc k) (of - suc k) parts in
          let ends : of ≡ suc k + (of - suc k) = omega arith in
          let whole : pairs_upto of parts ≡ pairs_upto k parts ++ (here ++ r.0) =
          ap (λ n. pairs_upto n parts) ends ∙ r.1 ∙ ap (λ ps. ps ++ r.0) (last_split k parts) ∙ append_assoc (pairs_upto k parts) here r.0 in
          let full : length (a.0).pairs ≡ 64 = (f.1).full (omega arith) in
          let size : 64 ≡ length here = omega arith in
          ap₂ (λ n ps. take 64 (drop n ps)) start whole ∙ ap (take 64) (drop-append_seam (pairs_upto k parts) (here ++ r.0))
          ∙ ap (λ n. take n (here ++ r.0)) size ∙ take-append_seam here r.0
      | inr last ↦
          let ends : of ≡ suc k = omega arith in
          let whole : pairs_upto of parts ≡ pairs_upto k parts ++ here = ap (λ n. pairs_upto n parts) ends ∙ last_split k parts in
          let most : length (a.0).pairs ≤ 64 = (f.1).most (omega arith) in
          ap₂ (λ n ps. take 64 (drop n ps)) start whole ∙ ap (take 64) (drop-append_seam (pairs_upto k parts) here) ∙ take_all 64 here (omega arith)
    ]

-- all pairs make just this many parts
count_is : (of k : ℕ) (parts : List Part) → AreAllThere of parts → AreFilled of parts → of ≡ suc k → of ≡ parts_in (pairs_upto of parts)
count_is of k parts there filled e =
    let a = at_place of of parts there (omega arith) (omega arith) in
    let f = filled a.0 a.3 in
    let at : (a.0).place ≡ of = a.2 in
    let count : (a.0).of ≡ of = f.0 in
    let here = pairs_of (part_in (suc k) parts) in
    let same : length (pairs_of (part_in of parts)) ≡ length (a.0).pairs = ap (λ o. length (pairs_of o)) a.1 in
    let place : length here ≡ length (pairs_of (part_in of parts)) = ap (λ n. length (pairs_of (part_in n parts))) (sym e) in
    let before = upto_length of k parts there filled (omega arith) in
    let whole : length (pairs_upto of parts) ≡ length (pairs_upto k parts) + length here =
    ap (λ n. length (pairs_upto n parts)) e ∙ ap length (last_split k parts) ∙ length-append (pairs_upto k parts) here in
    let most : length (a.0).pairs ≤ 64 = (f.1).most (omega arith) in
    elim (cases_lt 1 of) [
      | inl more ↦ let some : 1 ≤ length (a.0).pairs = (f.1).some (omega arith) (omega arith) in omega arith
      | inr alone ↦ omega arith
    ]

-- what the parts of one handover have in common
like_part : (part : Part) (buffered : List Part) (x : Part) → Has (gathered_parts part buffered) x → (x.from ≡ part.from) × (x.number ≡ part.number)
like_part part buffered x there =
    ⊎_elim
    (λ old.
    let h = has_filter (is_like part) buffered x old in
    let parts = and_parts (eqb x.from part.from) (eqb x.number part.number) h.1 in
    (eqb_is x.from part.from parts.0, eqb_is x.number part.number parts.1))
    (λ same. (ap (λ (p : Part). p.from) (sym same), ap (λ (p : Part). p.number) (sym same)))
    (has_pushed (filter (is_like part) buffered) part x there)

part_is : (x : Part) (from to number of : ℕ) (segment : Option Segment) (pairs : List Pair) → x.from ≡ from → x.to ≡ to → x.number ≡ number → x.of ≡ of → x.segment ≡ segment → x.pairs ≡ pairs
    → x ≡ record { from = from; to = to; number = number; place = x.place; of = of; segment = segment; pairs = pairs }
part_is x from to number of segment pairs e1 e2 e3 e4 e5 e6 =
    λ i. record { from = e1 i; to = e2 i; number = e3 i; place = x.place; of = e4 i; segment = e5 i; pairs = e6 i }

not_some : (o : Option Segment) → is_some o ≡ false → o ≡ None
not_some None h = refl
not_some (Some segment) h = absurd (cc)

segment_is : (part : Part) (buffered : List Part) (segment : Segment) (x : Part) → segment_of (part_in 1 (gathered_parts part buffered)) ≡ Some segment → part_in x.place (gathered_parts part buffered) ≡ Some x
    → is_some x.segment ≡ eqb x.place 1 → x.segment ≡ cond (eqb x.place 1) (Some segment) None
segment_is part buffered segment x first here rule =
    by_test (eqb x.place 1)
    (λ t.
    let at : part_in 1 (gathered_parts part buffered) ≡ Some x = ap (λ n. part_in n (gathered_parts part buffered)) (sym (eqb_is x.place 1 t)) ∙ here in
    sym (ap segment_of at) ∙ first ∙ sym (cond-true (eqb x.place 1) (Some segment) None t))
    (λ f. not_some x.segment (rule ∙ f) ∙ sym (cond-false (eqb x.place 1) (Some segment) None f))

-- parts that fit are those of the first one's segment with the pairs of all
pub fitting_are : (part : Part) (buffered : List Part) (segment : Segment) → AreOf part.of (gathered_parts part buffered) → AreAllThere part.of (gathered_parts part buffered)
    → segment_of (part_in 1 (gathered_parts part buffered)) ≡ Some segment → ((x : Part) → Has (gathered_parts part buffered) x → IsPart x × IsFitting part (gathered_parts part buffered) x)
    → All (IsPartOf (ticket_of_part part) segment (pairs_upto part.of (gathered_parts part buffered))) (gathered_parts part buffered)
fitting_are part buffered segment agree there first fitting =
    let all = gathered_parts part buffered in
    let filled : AreFilled part.of all = λ x h. (each_all (λ (p : Part). p.of ≡ part.of) all agree x h, ((fitting x h).1).filled) in
    all_each (IsPartOf (ticket_of_part part) segment (pairs_upto part.of all)) all (λ x h.
    let rules = (fitting x h).0 in
    let fits = (fitting x h).1 in
    let like = like_part part buffered x h in
    let of : x.of ≡ part.of = (filled x h).0 in
    let some = rules.some in
    let within = rules.within in
    let k : suc (x.place - 1) ≡ x.place = omega arith in
    let last : part.of ≡ suc (part.of - 1) = omega arith in
    let pairs : x.pairs ≡ chunk x.place (pairs_upto part.of all) =
    sym (ap pairs_of fits.found) ∙ sym (chunk_is part.of (x.place - 1) all there filled (omega arith) ∙ ap (λ n. pairs_of (part_in n all)) k) in
    part_is x part.from part.to part.number (parts_in (pairs_upto part.of all)) (cond (eqb x.place 1) (Some segment) None) (chunk x.place (pairs_upto part.of all))
    like.0 fits.receiver like.1 (of ∙ count_is part.of (part.of - 1) all there filled last) (segment_is part buffered segment x first fits.found rules.first) pairs)

-- a part of a handover is filled as its number asks
part_filled : (x : Part) (pairs : List Pair) → IsPart x → x.of ≡ parts_in pairs → x.pairs ≡ chunk x.place pairs → IsFilled x
part_filled x pairs rules of is =
    let some = rules.some in
    let within = rules.within in
    let rest = length-drop (64 * (x.place - 1)) pairs in
    let size : length x.pairs ≡ length (take 64 (drop (64 * (x.place - 1)) pairs)) = ap length is in
    let taken = length-take 64 (drop (64 * (x.place - 1)) pairs) in
    record { full = λ low. omega arith; most = λ high. omega arith; some = λ high more. omega arith }

-- if each part is one of a segment with some pairs, each fits
pub are_fitting : (part : Part) (buffered : List Part) (segment : Segment) (pairs : List Pair) → All (IsPartOf (ticket_of_part part) segment pairs) (gathered_parts part buffered)
    → (x : Part) → Has (gathered_parts part buffered) x → IsPart x → IsFitting part (gathered_parts part buffered) x
are_fitting part buffered segment pairs each x h rules =
    let all = gathered_parts part buffered in
    let P = IsPartOf (ticket_of_part part) segment pairs in
    let own : P x = each_all P all each x h in
    let r = finds (λ (p : Part). eqb p.place x.place) all x h (eqb_same x.place x.place refl) in
    let f = found (λ (p : Part). eqb p.place x.place) all r.0 r.1 in
    let other : P r.0 = each_all P all each r.0 f.1 in
    let handover = handover_of_payload (ticket_of_part part) (record { segment = segment; pairs = pairs }) in
    let same : r.0 ≡ x = other ∙ ap (part_at handover) (eqb_is (r.0).place x.place f.0) ∙ sym own in
    record {
      receiver = ap (λ (p : Part). p.to) own;
      filled = part_filled x pairs rules (ap (λ (p : Part). p.of) own) (ap (λ (p : Part). p.pairs) own);
      found = r.1 ∙ ap Some same;
    }

-- a property of the part and of each buffered part of its handover holds of all gathered parts
pub each_gathered : (P : Part → Type 0) (part : Part) (buffered : List Part) → ((other : Part) → Has buffered other → is_like part other ≡ true → P other) → P part → (x : Part) → Has (gathered_parts part buffered) x → P x
each_gathered P part buffered each here x there = each_all P (gathered_parts part buffered) (all_gathered P part buffered each here) x there
