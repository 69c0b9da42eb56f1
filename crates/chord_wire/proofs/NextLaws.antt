-- The next frame: its body is found again, and what is read from the body is taken.
use Rattle.std.proofs.Common.{◌≡◌, ℕ, ◌+◌, ◌-◌, ◌^◌, ◌<◌, ◌≤◌, ◌||◌, Bool, true, false, cond, ltb, List, ◌++◌, length, take, drop, Option, Some, None, Result, Ok, Err, refl, sym, ap, subst, ◌∙◌, append_assoc, arith, ◌⊎◌, inl, inr}
use Rattle.std.specs.Prelude.{IfOk, IfSome}
use Rattle.std.specs.Int.{w32, to_be_bytes, from_be_bytes}
use Rattle.std.proofs.lemmas.Bool.{ltb-false, le-ltb, or_parts, or_from, cond-false, cases_Bool}
use Rattle.std.proofs.lemmas.List.{take-append-drop, length-take, length-append, take_at, drop_at, take-append-le, drop-append-le}
use Rattle.std.proofs.lemmas.Nat.{from_be_bytes-to_be_bytes_4}
use Rattle.chord_wire.specs.declared.fault.WireFault.{WireFault}
use Rattle.chord_wire.specs.declared.fault.FaultCode.TheVariants.{BadLength}
use Rattle.chord_wire.specs.Fault.{fault, out_of_memory}
use Rattle.chord_wire.specs.Spelling.{IsBytes, frame}
use Rattle.chord_wire.specs.Reading.{◌>>=◌, number_at, body_of_length, body_at, of_body, next_of, FindsNext, TakesNext, IsDecided, with_more}
use Rattle.chord_wire.proofs.Steps.{IsBytes-drop, IsBytes-front, IsBytes-back, bind_ok, guard_on, Takes, Takes-then, wide32, number_takes}

-- ---- a frame

pub record BodyFound (least most : ℕ) (bytes body rest : List ℕ) : Type 0 where
  pub parts : Takes bytes (frame body) rest
  pub low : least ≤ length body
  pub high : length body ≤ most

abbrev found : {A : Type 0} → A → Result (Option A) WireFault
found x = Ok (Some x)

pub some_is : {A : Type 0} (x y : A) → found x ≡ found y → x ≡ y
some_is x y e = cc

-- a reading that gives something
some_next : {A : Type 0} (b : Bool) (r : Result (Option A) WireFault) (y : A) → cond b (Ok None) r ≡ Ok (Some y) → (b ≡ false) × (r ≡ Ok (Some y))
some_next true r y e = absurd cc
some_next false r y e = (refl, e)

pub body_takes : (least most : ℕ) (bytes : List ℕ) (x : List ℕ × List ℕ) → IsBytes bytes → body_at least most bytes ≡ Ok (Some x) → BodyFound least most bytes x.0 x.1
unfolding body_at
body_takes least most bytes x fits e =
    let n = from_be_bytes w32 (take 4 bytes) in
    let behind = drop 4 bytes in
    let a = some_next (ltb (length bytes) 4) (body_of_length least most n behind) x e in
    let b = guard_on (ltb n least || ltb most n) (fault BadLength 0) (cond (ltb (length behind) n) (Ok None) (Ok (Some (take n behind, drop n behind)))) (Some x) a.1 in
    let c = some_next (ltb (length behind) n) (Ok (Some (take n behind, drop n behind))) x b.1 in
    let range = or_parts (ltb n least) (ltb most n) b.0 in
    let there : number_at w32 (fault BadLength 0) bytes ≡ Ok (n, behind) = rw a.0 refl in
    let t = number_takes w32 (2 ^ 32) wide32 (fault BadLength 0) bytes n behind fits there in
    let long : n ≤ length behind = ltb-false _ _ c.0 in
    let len : length (take n behind) ≡ n = omega (arith, length-take n behind) in
    let second : Takes behind (take n behind) (drop n behind) = record { parts = sym (take-append-drop n behind); rest_fits = IsBytes-drop n behind t.0.rest_fits } in
    let both = Takes-then bytes (to_be_bytes w32 n) behind (take n behind) (drop n behind) t.0 second in
    let whole : Takes bytes (frame (take n behind)) (drop n behind) = subst (λ (k : ℕ). Takes bytes (to_be_bytes w32 k ++ take n behind) (drop n behind)) (sym len) both in
    let low : least ≤ n = ltb-false _ _ range.0 in
    let high : n ≤ most = ltb-false _ _ range.1 in
    let made : BodyFound least most bytes (take n behind) (drop n behind) = record { parts = whole; low = omega (arith, len, low); high = omega (arith, len, high) } in
    subst (λ (y : List ℕ × List ℕ). BodyFound least most bytes y.0 y.1) (some_is _ _ c.1) made

-- the bytes after the body are the end of the bytes
pub rest_is_end : (least most : ℕ) (bytes : List ℕ) (x : List ℕ × List ℕ) → IsBytes bytes → body_at least most bytes ≡ Ok (Some x) → (length x.1 ≤ length bytes) × (drop (length bytes - length x.1) bytes ≡ x.1)
rest_is_end least most bytes x fits e =
    let parts = (body_takes least most bytes x fits e).parts.parts in
    let len : length bytes ≡ length (frame x.0) + length x.1 = ap length parts ∙ length-append (frame x.0) x.1 in
    (omega (arith, len), ap (drop (length bytes - length x.1)) parts ∙ drop_at (frame x.0) x.1 (length bytes - length x.1) (omega (arith, len)))

-- what is read from a body is found up to the end of its frame
pub found_next : {X : Type 0} (least most : ℕ) (read : List ℕ → Result X WireFault) (bytes : List ℕ) (x : X) (body : List ℕ × List ℕ) → body_at least most bytes ≡ Ok (Some body) → read body.0 ≡ Ok x → IsBytes bytes
    → FindsNext (next_of least most read) bytes (Ok (Some (x, length bytes - length body.1)))
found_next least most read bytes x body there is fits = (rw (there, is, (rest_is_end least most bytes body fits there).1) refl, omega arith)

pub body_again : (least most : ℕ) (body rest : List ℕ) → most < 2 ^ 32 → least ≤ length body → length body ≤ most → body_at least most (frame body ++ rest) ≡ Ok (Some (body, rest))
unfolding body_at
body_again least most body rest small low high =
    let regrouped : frame body ++ rest ≡ to_be_bytes w32 (length body) ++ (body ++ rest) = append_assoc (to_be_bytes w32 (length body)) body rest in
    let behind = body ++ rest in
    let bytes = to_be_bytes w32 (length body) ++ behind in
    let four : ltb (length bytes) 4 ≡ false = le-ltb _ _ (omega (arith, length-append (to_be_bytes w32 (length body)) behind)) in
    let n : from_be_bytes w32 (take 4 bytes) ≡ length body = ap (from_be_bytes w32) (take_at (to_be_bytes w32 (length body)) behind 4 refl) ∙ from_be_bytes-to_be_bytes_4 (length body) (omega (arith, high, small)) in
    let after : drop 4 bytes ≡ behind = drop_at (to_be_bytes w32 (length body)) behind 4 refl in
    let range : (ltb (length body) least || ltb most (length body)) ≡ false = or_from _ _ (le-ltb _ _ low) (le-ltb _ _ high) in
    let long : ltb (length behind) (length body) ≡ false = le-ltb _ _ (omega (arith, length-append body rest)) in
    let inner : body_of_length least most (length body) behind ≡ Ok (Some (body, rest)) = rw (range, long, take_at body rest (length body) refl, drop_at body rest (length body) refl) refl in
    ap (body_at least most) regrouped ∙ cond-false (ltb (length bytes) 4) (Ok None) (body_of_length least most (from_be_bytes w32 (take 4 bytes)) (drop 4 bytes)) four
    ∙ ap (λ (k : ℕ). body_of_length least most k (drop 4 bytes)) n ∙ ap (body_of_length least most (length body)) after ∙ inner

-- the body of a frame of bytes consists of bytes
pub body_fits : (bytes body rest : List ℕ) → bytes ≡ frame body ++ rest → IsBytes bytes → IsBytes body
body_fits bytes body rest front fits =
    IsBytes-front body rest (IsBytes-back (to_be_bytes w32 (length body)) (body ++ rest) (subst IsBytes (front ∙ append_assoc (to_be_bytes w32 (length body)) body rest) fits))

-- ---- values that are read from a body

-- `next` reads the next frame; from its body a value that fits is read, and from no other body
pub record IsRead {X : Type 0} (next : List ℕ → Result (Option (X × List ℕ)) WireFault) (least most : ℕ) (read : List ℕ → Result X WireFault) (Fits : X → Type 0) (text : X → List ℕ) : Type 0 where
  pub is : (bytes : List ℕ) → next bytes ≡ next_of least most read bytes
  pub takes : (body : List ℕ) (x : X) → IsBytes body → read body ≡ Ok x → Fits x × (body ≡ text x)
  pub again : (x : X) → Fits x → read (text x) ≡ Ok x
  pub long : (x : X) → Fits x → (least ≤ length (text x)) × (length (text x) ≤ most)
  pub small : most < 2 ^ 32

module _ {X : Type 0} {next : List ℕ → Result (Option (X × List ℕ)) WireFault} {least most : ℕ} {read : List ℕ → Result X WireFault} {Fits : X → Type 0} {text : X → List ℕ}
    (reads : IsRead next least most read Fits text) where
  abbrev Taken : List ℕ → (X × List ℕ) → Type 0
  Taken bytes x = Fits x.0 × (bytes ≡ frame (text x.0) ++ x.1)

  after_body : (bytes : List ℕ) (o : Option (List ℕ × List ℕ)) (x : X × List ℕ) → IsBytes bytes → body_at least most bytes ≡ Ok o → of_body read o ≡ Ok (Some x) → Taken bytes x
  after_body bytes None x fits e h = absurd cc
  after_body bytes (Some body) x fits e h =
      let t = body_takes least most bytes body fits e in
      let b = bind_ok (read body.0) (λ y. Ok (Some (y, body.1))) (Some x) h in
      let r = reads.takes body.0 b.0 (body_fits bytes body.0 body.1 t.parts.parts fits) b.1 in
      let same : bytes ≡ frame (text b.0) ++ body.1 = t.parts.parts ∙ ap (λ (w : List ℕ). frame w ++ body.1) r.1 in
      subst (Taken bytes) (some_is (b.0, body.1) x b.2) (r.0, same)

  next_takes : (bytes : List ℕ) (x : X × List ℕ) → IsBytes bytes → next bytes ≡ Ok (Some x) → Taken bytes x
  next_takes bytes x fits e =
      let a = bind_ok (body_at least most bytes) (of_body read) (Some x) (sym (reads.is bytes) ∙ e) in
      after_body bytes a.0 x fits a.1 a.2

  pub next_again : (x : X) (rest : List ℕ) → Fits x → next (frame (text x) ++ rest) ≡ Ok (Some (x, rest))
  next_again x rest fits =
      let len = reads.long x fits in
      reads.is (frame (text x) ++ rest)
      ∙ ap (λ (r : Result (Option (List ℕ × List ℕ)) WireFault). r >>= of_body read) (body_again least most (text x) rest reads.small len.0 len.1)
      ∙ ap (λ (r : Result X WireFault). r >>= λ y. Ok (Some (y, rest))) (reads.again x fits)

  -- a call takes a value that fits
  pub taken_is_found : (result : Result (Option X) WireFault) (old new : List ℕ) → IsBytes old → TakesNext next old result new
      → IfOk result (λ found_next. IfSome found_next (λ x. Fits x × (old ≡ frame (text x) ++ new)))
  taken_is_found (Ok (Some x)) old new fits taken = next_takes old (x, new) fits taken
  taken_is_found (Ok None) old new fits taken = tt
  taken_is_found (Err e) old new fits taken = tt

  abbrev read_as : Option (X × List ℕ) → Result (Option (X × List ℕ)) WireFault
  read_as o = Ok o

  -- a call takes the value whose frame is next, unless memory runs out
  pub spelled_is_taken : (result : Result (Option X) WireFault) (old new : List ℕ) → TakesNext next old result new
      → (x : X) (rest : List ℕ) → Fits x → old ≡ frame (text x) ++ rest → (result ≡ Ok (Some x)) ⊎ (result ≡ Err out_of_memory)
  spelled_is_taken (Ok (Some y)) old new taken x rest fits e =
      let again = ap next e ∙ next_again x rest fits in
      let same : y ≡ x = ap (λ (p : X × List ℕ). p.0) (some_is (y, new) (x, rest) (sym taken ∙ again)) in
      inl (ap (λ (z : X). Ok (Some z)) same)
  spelled_is_taken (Ok None) old new taken x rest fits e =
      let again = ap next e ∙ next_again x rest fits in
      let none : read_as None ≡ read_as (Some (x, rest)) = sym taken.0 ∙ again in
      absurd cc
  spelled_is_taken (Err f) old new taken x rest fits e =
      let again = ap next e ∙ next_again x rest fits in
      elim taken.0 [
        | inl bad ↦ let two : Err f ≡ read_as (Some (x, rest)) = sym bad ∙ again in absurd cc
        | inr out ↦ inr (ap (λ (g : WireFault). Err g) out.0)
      ]

-- ---- what is decided does not change

longer : (n : ℕ) (xs ys : List ℕ) → ltb (length xs) n ≡ false → ltb (length (xs ++ ys)) n ≡ false
longer n xs ys h = le-ltb _ _ (omega (arith, ltb-false _ _ h, length-append xs ys))

stays_of_length : (least most count : ℕ) (bytes more : List ℕ) → IsDecided (body_of_length least most count bytes) → body_of_length least most count (bytes ++ more) ≡ with_more more (body_of_length least most count bytes)
stays_of_length least most count bytes more =
    elim (cases_Bool (ltb count least || ltb most count)) [
      | inl out ↦ rw out (λ _. refl)
      | inr in_range ↦ elim (cases_Bool (ltb (length bytes) count)) [
        | inl short ↦ rw (in_range, short) (λ h. absurd h)
        | inr long ↦ let more_long = longer count bytes more long in
            let le : count ≤ length bytes = ltb-false _ _ long in
            rw (in_range, long, more_long) (λ _. ap (λ (p : List ℕ × List ℕ). found p) (rw (take-append-le count bytes more le, drop-append-le count bytes more le) refl))
      ]
    ]

pub body_stays : (least most : ℕ) (bytes more : List ℕ) → IsDecided (body_at least most bytes) → body_at least most (bytes ++ more) ≡ with_more more (body_at least most bytes)
unfolding body_at
body_stays least most bytes more =
    elim (cases_Bool (ltb (length bytes) 4)) [
      | inl short ↦ rw short (λ h. absurd h)
      | inr long ↦ let more_long = longer 4 bytes more long in
          let le : 4 ≤ length bytes = ltb-false _ _ long in
          rw (long, more_long, take-append-le 4 bytes more le, drop-append-le 4 bytes more le) (stays_of_length least most (from_be_bytes w32 (take 4 bytes)) (drop 4 bytes) more)
    ]

module _ {X : Type 0} (least most : ℕ) (read : List ℕ → Result X WireFault) where
  same_value : (r : Result X WireFault) (rest more : List ℕ) → (r >>= λ x. Ok (Some (x, rest ++ more))) ≡ with_more more (r >>= λ x. Ok (Some (x, rest)))
  same_value (Ok x) rest more = refl
  same_value (Err e) rest more = refl

  read_stays : (more : List ℕ) (r : Result (Option (List ℕ × List ℕ)) WireFault) → IsDecided (r >>= of_body read) → (with_more more r >>= of_body read) ≡ with_more more (r >>= of_body read)
  read_stays more (Ok (Some body)) h = same_value (read body.0) body.1 more
  read_stays more (Ok None) h = absurd h
  read_stays more (Err e) h = refl

  decided_before : (r : Result (Option (List ℕ × List ℕ)) WireFault) → IsDecided (r >>= of_body read) → IsDecided r
  decided_before (Ok (Some body)) h = tt
  decided_before (Ok None) h = absurd h
  decided_before (Err e) h = tt

  next_stays : (bytes more : List ℕ) → IsDecided (next_of least most read bytes) → next_of least most read (bytes ++ more) ≡ with_more more (next_of least most read bytes)
  next_stays bytes more h =
      ap (λ (r : Result (Option (List ℕ × List ℕ)) WireFault). r >>= of_body read) (body_stays least most bytes more (decided_before (body_at least most bytes) h)) ∙ read_stays more (body_at least most bytes) h

-- more bytes do not change what is decided
pub stays : {X : Type 0} {next : List ℕ → Result (Option (X × List ℕ)) WireFault} {least most : ℕ} {read : List ℕ → Result X WireFault} {Fits : X → Type 0} {text : X → List ℕ} → IsRead next least most read Fits text
    → (bytes more : List ℕ) → IsDecided (next bytes) → next (bytes ++ more) ≡ with_more more (next bytes)
stays {least = least} {most = most} {read = read} reads bytes more h =
    reads.is (bytes ++ more) ∙ next_stays least most read bytes more (subst IsDecided (reads.is bytes) h) ∙ ap (with_more more) (sym (reads.is bytes))
