-- Each reply is of the kind of its request.
use Rattle.std.proofs.Common.{◌≡◌, ◌≢◌, ℕ, zero, suc, ◌+◌, ◌-◌, ◌<◌, ◌≤◌, max, Bool, true, false, cond, ◌||◌, eqb, ltb, leb, List, [], ◌∷◌, ◌++◌, length, take, drop, map, Option, Some, None, refl, sym, ap, subst, ◌∙◌, append_assoc, arith, inl, inr}
use Rattle.std.specs.Prelude.{slice_get, is_some}
use Rattle.std.specs.List.{AllByRecursion}
use Rattle.std.proofs.lemmas.Bool.{cases_Bool, or_parts, leb-false, eqb-false}
use Rattle.std.proofs.lemmas.List.{length-append, length-map, length-take, take-append-drop, map-append}
use Rattle.chord_map.specs.declared.request.Request.{Request}
use Rattle.chord_map.specs.Same.{same_request, same_request-Decides}
use Rattle.chord_wire.specs.declared.request.WireRequest.{WireRequest}
use Rattle.chord_wire.specs.declared.fault.FaultCode.TheVariants.{BadNumber, NumberReused}
use Rattle.chord_wire.specs.Spelling.{IsWireRequest}
use Rattle.chord_session.specs.declared.asked_request.AskedRequest.{AskedRequest}
use Rattle.chord_session.specs.declared.session.Move.{Move}
use Rattle.chord_session.specs.declared.session.Move.TheVariants.{Refuse, Again, Ask, Retry}
use Rattle.chord_session.specs.SessionState.{SessionState}
use Rattle.chord_session.specs.Session.{with_accepted, with_open_request, answered_at, frame_at, is_out, last_number, move_at, move_of, place_of, raised, first_state}
use Rattle.chord_serve.specs.declared.asker.Asked.{Asked}
use Rattle.chord_serve.specs.declared.asker.Asked.TheVariants as asked
use Rattle.chord_serve.specs.Question.{Question, IsReplyTo, asked_with, request_at, request_asked}
use Rattle.chord_serve.specs.Question as question
use Rattle.chord_serve.specs.Output.{reaction, react, after_answer, question_of, and_then, and_pair, answered_requests, questions, AreAnswers, IsPaired}
use Rattle.chord_serve.proofs.AskedOnce.{floor_low}

abbrev request_in : AskedRequest → Request
request_in k = k.request

-- the requests asked so far are those at or below the floor, and those in the session
pub record IsNoted (s : SessionState) (requests : List Request) : Type 0 where
  pub prefix : List Request
  pub long : length prefix ≡ s.floor
  pub same : requests ≡ prefix ++ map request_in s.kept

requests_stay : (kept : List AskedRequest) (place : ℕ) (frame : List ℕ) → map request_in (frame_at kept place frame) ≡ map request_in kept
requests_stay [] place frame = refl
requests_stay (k ∷ kept) zero frame = refl
requests_stay (k ∷ kept) (suc place) frame = ap (λ (xs : List Request). k.request ∷ xs) (requests_stay kept place frame)

abbrev more_prefix : SessionState → ℕ → List Request
more_prefix s floor = map request_in (take (floor - s.floor) s.kept)

noted_raised : (s : SessionState) (floor : ℕ) (requests : List Request) → floor ≤ last_number s → IsNoted s requests → IsNoted (raised s floor) requests
noted_raised s floor requests le n =
    let long : length (n.prefix ++ more_prefix s floor) ≡ max s.floor floor =
    omega (arith, length-append n.prefix (more_prefix s floor), length-map (take (floor - s.floor) s.kept) request_in, length-take (floor - s.floor) s.kept, n.long, le) in
    let split : map request_in s.kept ≡ more_prefix s floor ++ map request_in (drop (floor - s.floor) s.kept) =
    ap (map request_in) (sym (take-append-drop (floor - s.floor) s.kept)) ∙ map-append request_in (take (floor - s.floor) s.kept) (drop (floor - s.floor) s.kept) in
    record {
      prefix = n.prefix ++ more_prefix s floor;
      long = long;
      same = n.same ∙ ap (λ (xs : List Request). n.prefix ++ xs) split ∙ sym (append_assoc n.prefix (more_prefix s floor) (map request_in (drop (floor - s.floor) s.kept)));
    }

noted_accepted : (s : SessionState) (r : WireRequest) (requests : List Request) → IsWireRequest r → IsNoted s requests → IsNoted (with_accepted s r) requests
noted_accepted s r requests fits n = elim (cases_Bool (is_out s r)) [
  | inl out ↦ subst (λ (b : Bool). IsNoted (cond b s (raised s r.floor)) requests) (sym out) n
  | inr goes ↦ subst (λ (b : Bool). IsNoted (cond b s (raised s r.floor)) requests) (sym goes) (noted_raised s r.floor requests (floor_low s r fits goes) n)
]

noted_added : (s : SessionState) (request : Request) (requests : List Request) → IsNoted s requests → IsNoted (with_open_request s request) (requests ++ request ∷ [])
noted_added s request requests n = record {
  prefix = n.prefix;
  long = n.long;
  same = ap (λ (xs : List Request). xs ++ request ∷ []) n.same ∙ append_assoc n.prefix (map request_in s.kept) (request ∷ [])
      ∙ ap (λ (xs : List Request). n.prefix ++ xs) (sym (map-append request_in s.kept (record { request = request; frame = None } ∷ [])));
}

noted_framed : (s : SessionState) (number : ℕ) (frame : List ℕ) (requests : List Request) → IsNoted s requests → IsNoted (answered_at s number frame) requests
noted_framed s number frame requests n = record {
  prefix = n.prefix;
  long = n.long;
  same = n.same ∙ ap (λ (xs : List Request). n.prefix ++ xs) (sym (requests_stay s.kept (place_of s number) frame));
}

noted_told : (s : SessionState) (number : ℕ) (answer : Asked) (requests : List Request) → IsNoted s requests → IsNoted (after_answer s number answer) requests
noted_told s number (asked.Reply reply) requests n = noted_framed s number _ requests n
noted_told s number asked.Full requests n = n
noted_told s number asked.NoAnswer requests n = n
noted_told s number asked.Memory requests n = n

-- ---- the request of a number that is asked again

slice_behind : {X : Type 0} (prefix xs : List X) (i : ℕ) → slice_get (prefix ++ xs) (length prefix + i) ≡ slice_get xs i
slice_behind {X = X} [] xs i = let none : length {A = X} [] + i ≡ i = omega arith in rw none refl
slice_behind (y ∷ prefix) xs i =
    let one : length (y ∷ prefix) + i ≡ suc (length prefix + i) = omega arith in
    rw one (slice_behind prefix xs i)

slice_kept : (kept : List AskedRequest) (place : ℕ) (k : AskedRequest) → slice_get kept place ≡ Some k → slice_get (map request_in kept) place ≡ Some k.request
slice_kept [] place k e = absurd cc
slice_kept (x ∷ kept) zero k e = cc
slice_kept (x ∷ kept) (suc place) k e = slice_kept kept place k e

record Found (o : Option AskedRequest) (request : Request) : Type 0 where
  one : AskedRequest
  there : o ≡ Some one
  same : one.request ≡ request

tested : (k : AskedRequest) (request : Request) → (a b : Bool) → same_request k.request request ≡ a → is_some k.frame ≡ b → cond a (cond b Again Retry) (Refuse NumberReused) ≡ Retry → Found (Some k) request
tested k request true b e f h = record { one = k; there = refl; same = (same_request-Decides k.request request).0 e }
tested k request false b e f h = absurd cc

found : (o : Option AskedRequest) (request : Request) → move_at o request ≡ Retry → Found o request
found None request e = absurd cc
found (Some k) request e = tested k request (same_request k.request request) (is_some k.frame) refl refl e

not_refused : (s : SessionState) (r : WireRequest) → move_of s r ≡ Retry → (is_out s r ≡ false) × (move_at (slice_get (raised s r.floor).kept (place_of (raised s r.floor) r.number)) r.request ≡ Retry)
not_refused s r e =
    let inner = move_at (slice_get (raised s r.floor).kept (place_of (raised s r.floor) r.number)) r.request in
    let go : (b : Bool) → cond b (Refuse BadNumber) inner ≡ Retry → (b ≡ false) × (inner ≡ Retry) = λ b. elim b as (λ v. cond v (Refuse BadNumber) inner ≡ Retry → (v ≡ false) × (inner ≡ Retry)) [
      | true ↦ λ h. absurd cc
      | false ↦ λ h. (refl, h)
    ] in
    go (is_out s r) e

-- the number is above the floor
above : (s : SessionState) (r : WireRequest) → IsWireRequest r → is_out s r ≡ false → (raised s r.floor).floor < r.number
above s r fits e =
    let all = or_parts (eqb r.number 0 || leb r.number s.floor) (ltb (last_number s + 1) r.number) e in
    let two = or_parts (eqb r.number 0) (leb r.number s.floor) all.0 in
    let some : r.number ≡ 0 → ⊥ = eqb-false _ _ two.0 in
    let over : s.floor < r.number = leb-false _ _ two.1 in
    let own : r.floor < r.number = elim fits.floor [
      | inl one ↦ omega (arith, one.1, some)
      | inr two ↦ two.1
    ] in
    omega (arith, over, own)

retried_is : (s : SessionState) (r : WireRequest) (requests : List Request) → IsWireRequest r → IsNoted (with_accepted s r) requests → move_of s r ≡ Retry → request_at r.number requests ≡ Some r.request
retried_is s r requests fits n e =
    let moved = not_refused s r e in
    let t = raised s r.floor in
    let noted : IsNoted t requests = subst (λ (b : Bool). IsNoted (cond b s t) requests) moved.0 n in
    let it = found (slice_get t.kept (place_of t r.number)) r.request moved.1 in
    let number : r.number ≡ suc (length noted.prefix + place_of t r.number) = omega (arith, above s r fits moved.0, noted.long) in
    ap (λ (k : ℕ). request_at k requests) number
    ∙ ap (λ (xs : List Request). slice_get xs (length noted.prefix + place_of t r.number)) noted.same
    ∙ slice_behind noted.prefix (map request_in t.kept) (place_of t r.number)
    ∙ slice_kept t.kept (place_of t r.number) it.one it.there
    ∙ ap (λ (x : Request). Some x) it.same

-- ---- all replies

module _ {A : Type 0} (answers : A → Question → Asked → A → Type 0) (asked_of : A → List Request)
    (notes : (a b : A) (q : Question) (x : Asked) → answers a q x b → x ≢ asked.Memory → asked_of b ≡ asked_with q (asked_of a))
    (kind : (a b : A) (q : Question) (x : Asked) → answers a q x b → IsReplyTo x (request_asked q (asked_of a))) where
  record Goes (m : Move) (t : SessionState) (a : A) (r : WireRequest) (given : List Asked) (qs : List Question) (c : A) : Type 0 where
    after : A
    noted : IsNoted (react m t r given).state (asked_of after)
    rest : AreAnswers answers after qs (react m t r given).unused c
    fits : (pairs : List (Request × Asked)) → AllByRecursion IsPaired pairs → AllByRecursion IsPaired (and_pair (question_of m t r) r given pairs)

  goes : (m : Move) (s : SessionState) (a : A) (r : WireRequest) (given : List Asked) (qs : List Question) (c : A) → move_of s r ≡ m → IsWireRequest r → IsNoted (with_accepted s r) (asked_of a) → AreAnswers answers a (and_then (question_of m (with_accepted s r) r) qs) given c → Goes m (with_accepted s r) a r given qs c
  goes (Refuse code) s a r given qs c e whole n h = record { after = a; noted = n; rest = h; fits = λ pairs all. all }
  goes Again s a r given qs c e whole n h = record { after = a; noted = n; rest = h; fits = λ pairs all. all }
  goes Ask s a r [] qs c e whole n h = absurd h
  goes Ask s a r (x ∷ given) qs c e whole n h =
      let next : asked_of h.0 ≡ asked_of a ++ r.request ∷ [] = notes a h.0 (question.Ask r.request (with_accepted s r).floor) x h.1 h.2 in
      record {
        after = h.0;
        noted = noted_told (with_open_request (with_accepted s r) r.request) r.number x (asked_of h.0) (subst (IsNoted (with_open_request (with_accepted s r) r.request)) (sym next) (noted_added (with_accepted s r) r.request (asked_of a) n));
        rest = h.3;
        fits = λ pairs all. (kind a h.0 (question.Ask r.request (with_accepted s r).floor) x h.1, all);
      }
  goes Retry s a r [] qs c e whole n h = absurd h
  goes Retry s a r (x ∷ given) qs c e whole n h =
      let next : asked_of h.0 ≡ asked_of a = notes a h.0 (question.Retry r.number (with_accepted s r).floor) x h.1 h.2 in
      record {
        after = h.0;
        noted = noted_told (with_accepted s r) r.number x (asked_of h.0) (subst (IsNoted (with_accepted s r)) (sym next) n);
        rest = h.3;
        fits = λ pairs all. (subst (IsReplyTo x) (retried_is s r (asked_of a) whole n e) (kind a h.0 (question.Retry r.number (with_accepted s r).floor) x h.1), all);
      }

  all_fit : (s : SessionState) (a : A) (rs : List WireRequest) (given : List Asked) (b : A) → AllByRecursion IsWireRequest rs → IsNoted s (asked_of a) → AreAnswers answers a (questions s rs given) given b → AllByRecursion IsPaired (answered_requests s rs given)
  unfolding questions answered_requests
  all_fit s a [] given b whole n h = tt
  all_fit s a (r ∷ rs) given b whole n h =
      let x = reaction s r given in
      let g = goes (move_of s r) s a r given (questions x.state rs x.unused) b refl whole.0 (noted_accepted s r (asked_of a) whole.0 n) h in
      g.fits (answered_requests x.state rs x.unused) (all_fit x.state g.after rs x.unused b whole.1 g.noted g.rest)

  pub replies_fit : (a : A) (rs : List WireRequest) (given : List Asked) (b : A) → asked_of a ≡ [] → AllByRecursion IsWireRequest rs → AreAnswers answers a (questions first_state rs given) given b → AllByRecursion IsPaired (answered_requests first_state rs given)
  replies_fit a rs given b none whole h = all_fit first_state a rs given b whole (record { prefix = []; long = refl; same = none }) h
