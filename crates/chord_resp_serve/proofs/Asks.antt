-- The requests of a command, of which some were asked before the others.
use Rattle.std.proofs.Common.{◌≡◌, ℕ, ◌+◌, ◌-◌, ◌≤◌, List, [], ◌∷◌, ◌++◌, length, get_or, take, drop, length-append, Some, None, Result, Ok, Err, refl, sym, ap, subst, ◌∙◌, append_assoc, arith}
use Rattle.std.specs.List.{slice_get}
use Rattle.std.proofs.lemmas.Grind.{common_steps}
use Rattle.std.proofs.Math.Seq.{drop-append-add}
use Rattle.chord_map.specs.declared.request.Request.{Request}
use Rattle.chord_serve.specs.declared.asker.Asked.{Asked}
use Rattle.chord_serve.specs.declared.asker.Asked.TheVariants as asked
use Rattle.chord_serve.specs.Question.{Question, Ask}
use Rattle.chord_resp_serve.specs.declared.hearing.Course.{Course}
use Rattle.chord_resp_serve.specs.declared.hearing.Course.TheVariants.{Ended, Waits}
use Rattle.chord_resp_serve.specs.declared.standing.Standing.{Standing}
use Rattle.chord_resp_serve.specs.declared.tally.Tally.{Tally}
use Rattle.chord_resp_serve.specs.declared.tally.Stopped.{Stopped}
use Rattle.chord_resp_serve.specs.declared.tally.Stopped.TheVariants as stopped
use Rattle.chord_resp_serve.specs.Asking.{AsksFrom, AsksOn, asked_one, empty_tally, heard, next_number, outcome_of}
use Rattle.chord_resp_serve.specs.Waiting.{AsksUpTo, AsksSome}

-- one more number is asked
pub one_more : (k : ℕ) (n : Standing) → k ≡ next_number n.asked → (let m : Standing = record n { asked = k } in m) ≡ asked_one n
one_more k n e = ap (λ (x : ℕ). let m : Standing = record n { asked = x } in m) e

-- a list that has an item is that and the others
pub head_and_rest : (xs : List Request) (x : Request) → 1 ≤ length xs → x ≡ get_or xs 0 x → x ∷ take (length xs - 1) (drop 1 xs) ≡ xs
head_and_rest [] x some is = absurd (omega arith)
head_and_rest (y ∷ ys) x some is = grind (arith, common_steps)

-- the same of the first item, and where there is none
pub first_and_rest : (xs : List Request) (x : Request) → Some x ≡ slice_get xs 0 → xs ≡ x ∷ drop 1 xs
first_and_rest [] x is = absurd cc
first_and_rest (y ∷ ys) x is = let e : x ≡ y = cc in ap (λ (z : Request). z ∷ ys) (sym e)

pub no_first : (xs : List Request) → None ≡ slice_get xs 0 → xs ≡ []
no_first [] is = refl
no_first (y ∷ ys) is = absurd cc

module _ {A : Type 0} (answers : A → Question → Asked → A → Type 0) where
  -- a request that is done is not the end
  on_then : (h : Result Tally Stopped) (u : Tally) (n m n' : Standing) (a b a' : A) (result : Result Tally Stopped) (P Q : Tally → Type 0)
      → AsksOn answers P h n a (Ok u) m b → ((v : Tally) → P v → Q v) → AsksOn answers Q h n a result n' a'
  on_then (Ok v) u n m n' a b a' result P Q p on = on v p
  on_then (Err s) u n m n' a b a' result P Q p on = let e : Ok u ≡ Err s = p.0 in absurd cc

  -- requests that were all done, and then the rest, are all of them
  pub asks_then : (first rest : List Request) (t u : Tally) (n m n' : Standing) (a b a' : A) (result : Result Tally Stopped)
      → AsksFrom answers n a t first (Ok u) m b → AsksFrom answers m b u rest result n' a' → AsksFrom answers n a t (first ++ rest) result n' a'
  asks_then [] rest t u n m n' a b a' result p q =
      let e : u ≡ t = cc (p.0) in
      subst (λ (x : Tally). AsksFrom answers n a x rest result n' a') e
      (subst (λ (x : Standing). AsksFrom answers x a u rest result n' a') p.1 (subst (λ (x : A). AsksFrom answers m x u rest result n' a') p.2 q))
  asks_then (r ∷ first) rest t u n m n' a b a' result p q = (
    p.0,
    p.1,
    p.2,
    on_then (heard t p.0) u (asked_one n) m n' p.1 b a' result
        (λ v. AsksFrom answers (asked_one n) p.1 v first (Ok u) m b) (λ v. AsksFrom answers (asked_one n) p.1 v (first ++ rest) result n' a')
        p.3 (λ v on. asks_then first rest v u (asked_one n) m n' p.1 b a' result on q),
  )

  -- the same, if one of the rest waits
  some_then : (course : Course) (first rest : List Request) (t u v : Tally) (n m n' : Standing) (a b a' : A) → u.done ≡ t.done + length first
      → AsksFrom answers n a t first (Ok u) m b → AsksSome answers course m b u rest v n' a' → AsksSome answers course n a t (first ++ rest) v n' a'
  some_then (Ended outcome) first rest t u v n m n' a b a' count p q = asks_then first rest t u n m n' a b a' (outcome_of outcome v) p q
  some_then Waits first rest t u v n m n' a b a' count p q = record {
    first = first ++ q.first;
    next = q.next;
    rest = q.rest;
    parts = ap (λ (x : List Request). first ++ x) q.parts ∙ sym (append_assoc first q.first (q.next ∷ q.rest));
    count = let e = q.count in omega (arith, e, count, length-append first q.first);
    between = q.between;
    asker = q.asker;
    done = asks_then first q.first t u n m q.between a b q.asker (Ok v) p q.done;
    asked = q.asked;
    standing = q.standing;
  }

  all_behind : (xs : List Request) (k : ℕ) → take (length xs - k) (drop k xs) ≡ drop k xs
  all_behind xs k = grind (arith, common_steps)

  behind_first : (first : List Request) (next : Request) (rest : List Request) (k : ℕ) → k ≡ length first → drop (k + 1) (first ++ next ∷ rest) ≡ rest
  behind_first first next rest k e = ap (λ (x : ℕ). drop (x + 1) (first ++ next ∷ rest)) e ∙ drop-append-add first (next ∷ rest) 1

  -- the answer to the next request is heard, and those behind it are asked
  pub heard_on : (course : Course) (n : Standing) (a : A) (requests xs : List Request) (answer : Asked) (u v : Tally) (m n' : Standing) (b a' : A) → xs ≡ requests
      → AsksUpTo answers n a empty_tally requests answer u m b
      → ((before : Standing) (first : A) (request : Request) → answers first (Ask request before.asked) answer b → m ≡ asked_one before
      → AsksSome answers course before first u (request ∷ take (length xs - (u.done + 1)) (drop (u.done + 1) xs)) v n' a')
      → AsksSome answers course n a empty_tally requests v n' a'
  heard_on course n a requests xs given u v m n' b a' same p on =
      let k : u.done ≡ length p.first = let e = p.count in omega (arith, e) in
      let parts : xs ≡ p.first ++ p.next ∷ p.rest = same ∙ p.parts in
      let rest_is : take (length xs - (u.done + 1)) (drop (u.done + 1) xs) ≡ p.rest = all_behind xs (u.done + 1) ∙ ap (drop (u.done + 1)) parts ∙ behind_first p.first p.next p.rest u.done k in
      let more = subst (λ (x : List Request). AsksSome answers course p.between p.asker u (p.next ∷ x) v n' a') rest_is (on p.between p.asker p.next p.asked p.standing) in
      subst (λ (x : List Request). AsksSome answers course n a empty_tally x v n' a') (sym p.parts)
      (some_then course p.first (p.next ∷ p.rest) empty_tally u v n p.between n' a p.asker a' p.count p.done more)

  -- ---- one request

  -- the first one is asked, from these standing
  pub first_asked : (requests : List Request) (x : Request) (answer : Asked) (n m n' : Standing) (a b c : A) (t : Tally) → n ≡ m → a ≡ b → t ≡ empty_tally → requests ≡ x ∷ drop 1 requests
      → answers b (Ask x m.asked) answer c → n' ≡ asked_one m → AsksUpTo answers n a empty_tally requests answer t n' c
  first_asked requests x given n m n' a b c t standing asker empty parts asked one = record {
    first = [];
    next = x;
    rest = drop 1 requests;
    parts = parts;
    count = let e = ap (λ (u : Tally). u.done) empty in omega (arith, e);
    between = m;
    asker = b;
    done = (ap (λ (u : Tally). let r : Result Tally Stopped = Ok u in r) empty, sym standing, sym asker);
    asked = asked;
    standing = one;
  }

  -- it is done, and so are the others
  pub done_then : (course : Course) (r : Request) (rest : List Request) (answer : Asked) (t u v : Tally) (n n' : Standing) (a b a' : A)
      → answers a (Ask r n.asked) answer b → Ok u ≡ heard t answer → u.done ≡ t.done + 1 → AsksSome answers course (asked_one n) b u rest v n' a' → AsksSome answers course n a t (r ∷ rest) v n' a'
  done_then course r rest answer t u v n n' a b a' given is count q =
      some_then course (r ∷ []) rest t u v n (asked_one n) n' a b a' (count ∙ refl)
      (answer, b, given, subst (λ (h : Result Tally Stopped). AsksOn answers (λ x. AsksFrom answers (asked_one n) b x [] (Ok u) (asked_one n) b) h (asked_one n) b (Ok u) (asked_one n) b) is (refl, refl, refl)) q

  -- the next one has no answer
  pub has_no_answer : (requests : List Request) (t u : Tally) (n n' : Standing) (a a' : A) → AsksUpTo answers n a t requests asked.NoAnswer u n' a' → AsksFrom answers n a t requests (Err (stopped.NoAnswer u.done)) n' a'
  has_no_answer requests t u n n' a a' p =
      subst (λ (x : List Request). AsksFrom answers n a t x (Err (stopped.NoAnswer u.done)) n' a') (sym p.parts)
      (asks_then p.first (p.next ∷ p.rest) t u n p.between n' a p.asker a' (Err (stopped.NoAnswer u.done)) p.done (asked.NoAnswer, a', p.asked, (refl, p.standing, refl)))
