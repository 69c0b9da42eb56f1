-- A member at which a number is least.
use Rattle.std.proofs.Common.{◌≡◌, ℕ, zero, suc, ◌<◌, ◌≤◌, List, length, get_or, arith, inl, inr}
use Rattle.std.specs.List.{Contains}
use Rattle.std.proofs.lemmas.Bool.{cases_lt}
use Rattle.std.proofs.lemmas.List.{get_or_default}
use Rattle.std.proofs.lemmas.List.Elements.{Contains-get_or}
use Rattle.chord_ident.specs.Circle.{walk}
use Rattle.chord_links.specs.declared.peer.Peer.{Peer}
use Rattle.chord_route.specs.IdealRing.{IsPredecessor}

-- at most n elements were looked at
least_upto : (g : Peer → ℕ) (ring : List Peer) (some : Peer) → Contains ring some → (n : ℕ) → n ≤ length ring →
    (least : Peer) × Contains ring least × ((k : ℕ) → k < n → g least ≤ g (get_or ring k some))
least_upto g ring some m zero h = (some, m, λ k below. absurd (omega arith))
least_upto g ring some m (suc n) h =
    let before = least_upto g ring some m n (omega arith) in
    let here = get_or ring n some in
    elim (cases_lt (g here) (g before.0)) [
      | inl lt ↦ (
        here,
        Contains-get_or ring n some (omega arith),
        λ k below. elim (cases_lt k n) [
          | inl earlier ↦ omega (arith, before.2 k earlier)
          | inr now ↦ let e : k ≡ n = omega arith in rw e (omega arith)
        ],
      )
      | inr ge ↦ (
        before.0,
        before.1,
        λ k below. elim (cases_lt k n) [
          | inl earlier ↦ before.2 k earlier
          | inr now ↦ let e : k ≡ n = omega arith in rw e ge
        ],
      )
    ]

-- A ring with a member has a last node before any key.
pub predecessor_exists : (ring : List Peer) (some : Peer) (key : ℕ) → Contains ring some → (last : Peer) × IsPredecessor ring key last
predecessor_exists ring some key m =
    let g : Peer → ℕ = λ (q : Peer). walk q.id.number key in
    let least = least_upto g ring some m (length ring) (omega arith) in (
      least.0,
      record {
        member = least.1;
        last = λ k d h. let e = get_or_default ring k d some h in rw e (least.2 k h);
      },
    )
