-- The history: looking a call up, replaying, and one more call at its end.
use Rattle.std.proofs.Common.{◌≡◌, ℕ, Bool, true, false, ◌&&◌, eqb, ◌⊎◌, inl, inr, ⊎_elim, refl, sym, ◌∙◌, ap₂, List, [], ◌∷◌, ◌++◌, Some, None}
use Rattle.std.proofs.lemmas.Bool.{and_parts, and_from, eqb-true, eq-eqb, cond-true, cond-false}
use Rattle.std.proofs.lemmas.Option.{none-some}
use Rattle.chord_map.proofs.Lists.{by_test, not_both, by_option, Has, Each, found, not_found, find_left, find_right}
use Rattle.chord_map.proofs.MapLemmas.{RisingPairs, rises_by}
use Rattle.chord_map.specs.declared.pair.Pair.{Pair}
use Rattle.chord_map.specs.declared.request.Request.{Request}
use Rattle.chord_map.specs.Map.{reply_to, pairs_after}
use Rattle.chord_map.specs.declared.done.Done.{Done}
use Rattle.chord_map.specs.History.{replay, Replies, done_at, EachOnce, IsLegal, StandsIn}

-- a call with this number by this caller
abbrev pub is_call : ℕ → ℕ → Done → Bool
is_call caller number done = eqb done.caller caller && eqb done.number number

-- the call found is the one looked up
pub done_is : (caller number : ℕ) (dones : List Done) (done : Done) → done_at caller number dones ≡ Some done
    → (done.caller ≡ caller) × (done.number ≡ number) × Has dones done
unfolding done_at
done_is caller number dones done e =
    let r = found (is_call caller number) dones done e in
    let tests = and_parts (eqb done.caller caller) (eqb done.number number) r.0 in
    (eqb-true done.caller caller tests.0, eqb-true done.number number tests.1, r.1)

pub done_left : (caller number : ℕ) (dones more : List Done) (done : Done) → done_at caller number dones ≡ Some done
    → done_at caller number (dones ++ more) ≡ Some done
unfolding done_at
done_left caller number dones more done e = find_left (is_call caller number) dones more done e

pub done_right : (caller number : ℕ) (dones more : List Done) → done_at caller number dones ≡ None
    → done_at caller number (dones ++ more) ≡ done_at caller number more
unfolding done_at
done_right caller number dones more e = find_right (is_call caller number) dones more e

-- a call is found in the list if the list has it
pub done_absent : (caller number : ℕ) (dones : List Done) (done : Done) → done_at caller number dones ≡ None → Has dones done
    → done.caller ≡ caller → done.number ≡ number → ⊥
unfolding done_at
done_absent caller number dones done none h c n =
    not_both (is_call caller number done)
    (and_from (eqb done.caller caller) (eqb done.number number) (eq-eqb done.caller caller c) (eq-eqb done.number number n))
    (not_found (is_call caller number) dones done none h)

pub is_itself : (done : Done) → is_call done.caller done.number done ≡ true
is_itself done = and_from (eqb done.caller done.caller) (eqb done.number done.number) (eq-eqb done.caller done.caller refl) (eq-eqb done.number done.number refl)

pub done_alone : (done : Done) → done_at done.caller done.number (done ∷ []) ≡ Some done
unfolding done_at
done_alone done = cond-true (is_call done.caller done.number done) (Some done) None (is_itself done)

pub stands_left : (dones more : List Done) (done : Done) → StandsIn dones done → StandsIn (dones ++ more) done
stands_left dones more done e = done_left done.caller done.number dones more done e

pub stands_last : (dones : List Done) (done : Done) → done_at done.caller done.number dones ≡ None → StandsIn (dones ++ done ∷ []) done
stands_last dones done none = done_right done.caller done.number dones (done ∷ []) none ∙ done_alone done

pub stands_has : (dones : List Done) (done : Done) → StandsIn dones done → Has dones done
stands_has dones done e = (done_is done.caller done.number dones done e).2

pub stands_found : (caller number : ℕ) (dones : List Done) (done : Done) → done_at caller number dones ≡ Some done → StandsIn dones done
stands_found caller number dones done e =
    let r = done_is caller number dones done e in
    ap₂ (λ c n. done_at c n dones) r.0 r.1 ∙ e

-- a call in a list with one more at the end is that one, or was in the list
pub stands_pushed : (dones : List Done) (last done : Done) → StandsIn (dones ++ last ∷ []) done → StandsIn dones done ⊎ (last ≡ done)
stands_pushed dones last done e =
    by_option (done_at done.caller done.number dones)
    (λ none. let alone : done_at done.caller done.number (last ∷ []) ≡ Some done = sym (done_right done.caller done.number dones (last ∷ []) none) ∙ e in
    inr (⊎_elim (λ same. same) (λ n. absurd n) (done_is done.caller done.number (last ∷ []) done alone).2))
    (λ other some. inl (some ∙ sym (done_left done.caller done.number dones (last ∷ []) other some) ∙ e))

-- if all kept calls are in the history, a call that is in both is found in both alike
pub kept_found : (history kept : List Done) (done : Done) → Each (StandsIn history) kept → StandsIn history done → Has kept done
    → done_at done.caller done.number kept ≡ Some done
kept_found history kept done all stands h =
    by_option (done_at done.caller done.number kept)
    (λ none. absurd (done_absent done.caller done.number kept done none h refl refl))
    (λ other some.
    let r = done_is done.caller done.number kept other some in
    let there : StandsIn history other = all other r.2 in
    some ∙ (sym there ∙ ap₂ (λ c n. done_at c n history) r.0 r.1 ∙ stands))

pub replay_pushed : (pairs : List Pair) (dones : List Done) (done : Done) → replay pairs (dones ++ done ∷ []) ≡ pairs_after done.request (replay pairs dones)
replay_pushed pairs [] done = refl
replay_pushed pairs (first ∷ dones) done = replay_pushed (pairs_after first.request pairs) dones done

pub replies_pushed : (pairs : List Pair) (dones : List Done) (done : Done) → Replies pairs dones → done.reply ≡ reply_to done.request (replay pairs dones)
    → Replies pairs (dones ++ done ∷ [])
replies_pushed pairs [] done r e = (e, tt)
replies_pushed pairs (first ∷ dones) done r e = (r.0, replies_pushed (pairs_after first.request pairs) dones done r.1 e)

pub once_pushed : (dones : List Done) (done : Done) → EachOnce dones → done_at done.caller done.number dones ≡ None → EachOnce (dones ++ done ∷ [])
unfolding done_at
once_pushed [] done r none = (refl, tt)
once_pushed (first ∷ dones) done r none =
    by_test (is_call done.caller done.number first)
    (λ t. absurd (none-some first (sym none ∙ cond-true (is_call done.caller done.number first) (Some first) (done_at done.caller done.number dones) t)))
    (λ f.
    let rest : done_at done.caller done.number dones ≡ None = sym (cond-false (is_call done.caller done.number first) (Some first) (done_at done.caller done.number dones) f) ∙ none in
    let turned : is_call first.caller first.number done ≡ false =
    by_test (is_call first.caller first.number done)
    (λ t.
    let tests = and_parts (eqb done.caller first.caller) (eqb done.number first.number) t in
    not_both (is_call done.caller done.number first)
    (and_from (eqb first.caller done.caller) (eqb first.number done.number)
    (eq-eqb first.caller done.caller (sym (eqb-true done.caller first.caller tests.0)))
    (eq-eqb first.number done.number (sym (eqb-true done.number first.number tests.1)))) f)
    (λ g. g) in (
      find_right (is_call first.caller first.number) dones (done ∷ []) r.0 ∙ cond-false (is_call first.caller first.number done) (Some done) None turned,
      once_pushed dones done r.1 rest,
    ))

pub legal_pushed : (dones : List Done) (done : Done) → IsLegal dones → done.reply ≡ reply_to done.request (replay [] dones) → done_at done.caller done.number dones ≡ None
    → IsLegal (dones ++ done ∷ [])
legal_pushed dones done legal e none =
    record { replies = replies_pushed [] dones done legal.replies e; once = once_pushed dones done legal.once none }

pub rises_after : (request : Request) (pairs : List Pair) → RisingPairs pairs → RisingPairs (pairs_after request pairs)
unfolding pairs_after
rises_after request pairs r = rises_by request (reply_to request pairs) pairs r

pub rises_replay : (pairs : List Pair) (dones : List Done) → RisingPairs pairs → RisingPairs (replay pairs dones)
rises_replay pairs [] r = r
rises_replay pairs (first ∷ dones) r = rises_replay (pairs_after first.request pairs) dones (rises_after first.request pairs r)
