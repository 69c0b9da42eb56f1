-- How many bytes one read after another takes.
use Rattle.std.proofs.Common.{◌≢◌, false, ℕ, ◌+◌, ◌*◌, ◌≤◌, ◌<◌, ◌≡◌, refl, true, ◌==◌, List, [], ◌∷◌, length, length-append, Option, Some, None, ap, sym, subst, arith}
use Rattle.std.proofs.lemmas.Bool.{eqb-true, false≢true}
use Rattle.std.proofs.lemmas.List.{nil_from_length}
use Rattle.std.specs.Io.KnownBytes.{Consumes, Keeps}
use Rattle.chord_serve.specs.BytesRead.{ReadsBetween, most_bytes}
use Rattle.chord_serve.specs.declared.read_size.ReadSize.{ReadSize}
use Rattle.chord_serve.specs.declared.read_size.ReadSize.TheVariants.{Small, Large}

pub reads_kept : (most : ℕ) (a b : Option (List ℕ)) → Keeps a b → ReadsBetween 0 most a b
reads_kept most None b kept = tt
reads_kept most (Some xs) None kept = kept
reads_kept most (Some xs) (Some ys) kept = let e = ap length kept in (omega (arith, e), omega (arith, e))

pub reads_none : (most : ℕ) (a : Option (List ℕ)) → ReadsBetween 0 most a a
reads_none most None = tt
reads_none most (Some xs) = (omega arith, omega arith)

pub reads_taken : (least most : ℕ) (a b : Option (List ℕ)) (bytes : List ℕ) → Consumes a b bytes → least ≤ length bytes → length bytes ≤ most → ReadsBetween least most a b
reads_taken least most None b bytes taken low high = tt
reads_taken least most (Some xs) None bytes taken low high = taken
reads_taken least most (Some xs) (Some ys) bytes taken low high =
    let e = ap length taken in let sum = length-append bytes ys in (omega (arith, e, sum, low), omega (arith, e, sum, high))

pub reads_then : (l m l' m' : ℕ) (a b c : Option (List ℕ)) → ReadsBetween l m a b → ReadsBetween l' m' b c → ReadsBetween (l + l') (m + m') a c
reads_then l m l' m' None b c p q = tt
reads_then l m l' m' (Some xs) None c p q = absurd p
reads_then l m l' m' (Some xs) (Some ys) None p q = q
reads_then l m l' m' (Some xs) (Some ys) (Some zs) p q = (omega (arith, p.0, q.0), omega (arith, p.1, q.1))

pub reads_within : (l m l' m' : ℕ) (a b : Option (List ℕ)) → l' ≤ l → m ≤ m' → ReadsBetween l m a b → ReadsBetween l' m' a b
reads_within l m l' m' None b low high p = tt
reads_within l m l' m' (Some xs) None low high p = p
reads_within l m l' m' (Some xs) (Some ys) low high p = (omega (arith, p.0, low), omega (arith, p.1, high))

-- ---- reads of one size

-- one more
pub reads_more : (size : ReadSize) (n : ℕ) (a b c : Option (List ℕ)) → ReadsBetween n (most_bytes size * n) a b → ReadsBetween 1 (most_bytes size) b c → ReadsBetween (n + 1) (most_bytes size * (n + 1)) a c
reads_more Small n a b c p q = reads_within (n + 1) (4096 * n + 4096) (n + 1) (4096 * (n + 1)) a c (omega arith) (omega arith) (reads_then n (4096 * n) 1 4096 a b c p q)
reads_more Large n a b c p q = reads_within (n + 1) (65536 * n + 65536) (n + 1) (65536 * (n + 1)) a c (omega arith) (omega arith) (reads_then n (65536 * n) 1 65536 a b c p q)

-- one more, which may take nothing
pub reads_last : (size : ReadSize) (n turns : ℕ) (a b c : Option (List ℕ)) → n < turns → ReadsBetween n (most_bytes size * n) a b → ReadsBetween 0 (most_bytes size) b c → ReadsBetween 0 (most_bytes size * turns) a c
reads_last Small n turns a b c below p q = reads_within (n + 0) (4096 * n + 4096) 0 (4096 * turns) a c (omega arith) (omega (arith, below)) (reads_then n (4096 * n) 0 4096 a b c p q)
reads_last Large n turns a b c below p q = reads_within (n + 0) (65536 * n + 65536) 0 (65536 * turns) a c (omega arith) (omega (arith, below)) (reads_then n (65536 * n) 0 65536 a b c p q)

-- no more
pub reads_done : (size : ReadSize) (n least turns : ℕ) (a b : Option (List ℕ)) → least ≤ n → n ≤ turns → ReadsBetween n (most_bytes size * n) a b → ReadsBetween least (most_bytes size * turns) a b
reads_done Small n least turns a b low high p = reads_within n (4096 * n) least (4096 * turns) a b low (omega (arith, high)) p
reads_done Large n least turns a b low high p = reads_within n (65536 * n) least (65536 * turns) a b low (omega (arith, high)) p

-- a buffer begins within each size
pub first_fits : (size : ReadSize) → 4096 ≤ most_bytes size
first_fits Small = omega arith
first_fits Large = omega arith

-- no byte
pub empty_if : (xs : List ℕ) → (length xs == 0) ≡ true → xs ≡ []
empty_if xs e = nil_from_length xs (eqb-true (length xs) 0 e)

-- a read that took no byte
pub took_none : (a b : Option (List ℕ)) (piece : List ℕ) → true ≡ (length piece == 0) → Consumes a b piece → Consumes a b []
took_none a b piece none taken = subst (λ bytes. Consumes a b bytes) (empty_if piece (sym none)) taken

-- a read of at least one byte
pub reads_some : (most : ℕ) (a b : Option (List ℕ)) (bytes : List ℕ) → Consumes a b bytes → (bytes ≡ [] → ⊥) → length bytes ≤ most → ReadsBetween 1 most a b
reads_some most a b [] taken some high = absurd (some refl)
reads_some most a b (x ∷ bytes) taken some high = reads_taken 1 most a b (x ∷ bytes) taken (omega arith) high

-- a read that took some bytes
pub took_some : (piece : List ℕ) → false ≡ (length piece == 0) → piece ≢ []
took_some piece some none = let e : false ≡ true = subst (λ (bytes : List ℕ). false ≡ (length bytes == 0)) none some in false≢true e
