-- A dialogue in frames is what a session served.
use Rattle.std.proofs.Common.{◌≡◌, ◌⊎◌, ◌<◌, ℕ, List, [], ◌∷◌, ◌++◌, length, Bool, false, ◌==◌, Ok, None, refl, sym, ap, subst, ◌∙◌, append_assoc, inl, inr, arith}
use Rattle.std.proofs.lemmas.List.{append-nil}
use Rattle.chord_wire.specs.Reading.{next_request}
use Rattle.chord_serve.specs.declared.asker.Asked.{Asked}
use Rattle.chord_serve.specs.declared.served.Served.{Served}
use Rattle.chord_serve.specs.declared.served.Served.TheVariants as served
use Rattle.chord_serve.specs.Question.{Question}
use Rattle.chord_serve.specs.declared.client_session.ClientSession.{ClientSession}
use Rattle.chord_serve.specs.declared.parted.Parted.{Parted}
use Rattle.chord_serve.specs.Parting.{parted_as, KeptAs}
use Rattle.chord_serve.specs.Served.{Dealt, DealsWithAll, StopsAfter, IsParted}
use Rattle.chord_serve.specs.Conversing.{Talks, IsStopped, Waits, LosesPiece, LacksBuffer, Conversed, Converses}
use Rattle.chord_serve.specs.Conversing.Talks.{Begins, Hears, Says}
use Rattle.chord_serve.proofs.BytesRead.{empty_if}
use Rattle.chord_serve.proofs.BatchLaws.{nothing, Dealt-then, Dealt-fed, served_after, prefix_served}

some_left : (xs : List ℕ) → (length xs == 0) ≡ false → 0 < length xs
some_left [] e = cc
some_left (x ∷ xs) e = omega arith

module _ {A D : Type 0} (answers : A → Question → Asked → A → Type 0) (frames : D → List ℕ) (held : D → ClientSession A) (opened over : D → Bool) where
  abbrev Fed : D → List ℕ → D → Type 0
  Fed c piece d = (frames d ≡ frames c ++ piece) × (held d ≡ held c) × (opened d ≡ opened c) × (over d ≡ over c)

  -- the session answered this from these bytes
  abbrev Gave : D → List ℕ → List ℕ → List ℕ → ClientSession A → Type 0
  Gave c bytes output rest e = Dealt answers (held c).version (held c).numbers (held c).asker bytes output rest e.version e.numbers e.asker

  abbrev One : D → List ℕ → D → Type 0
  One c bytes d = Gave c (frames c) bytes (frames d) (held d) × (opened d ≡ opened c) × (over d ≡ over c)

  abbrev Ends : Served → D → List ℕ → List ℕ → Parted A → Type 0
  Ends end c bytes output left = IsParted answers (opened c) end (held c).version (held c).numbers (held c).asker bytes output left

  abbrev left_of : D → Parted A
  left_of d = parted_as (over d) (held d)

  abbrev Stop : Served → D → List ℕ → D → Type 0
  Stop end c bytes d = over c ≡ false → Ends end c (frames c) bytes (left_of d)

  abbrev Quiet : D → Type 0
  Quiet c = next_request (frames c) ≡ Ok None

  abbrev Between : D → Bool
  Between c = length (frames c) == 0

  abbrev All : D → List ℕ → List ℕ → D → Type 0
  All c i o d = Gave c (frames c ++ i) o (frames d) (held d) × (opened d ≡ opened c) × (over d ≡ over c)

  fed_on : (c m d : D) (i o piece : List ℕ) → All c i o m → Fed m piece d → All c (i ++ piece) o d
  fed_on c m d i o piece p hear =
      let more = Dealt-fed answers (held c).version (held m).version (held c).numbers (held m).numbers (held c).asker (held m).asker (frames c ++ i) o (frames m) piece p.0 in (
        subst (λ (x : List ℕ). Gave c x o (frames d) (held d)) (append_assoc (frames c) i piece)
            (subst (λ (x : List ℕ). Gave c ((frames c ++ i) ++ piece) o x (held d)) (sym hear.0)
            (subst (λ (e : ClientSession A). Gave c ((frames c ++ i) ++ piece) o (frames m ++ piece) e) (sym hear.1) more)),
        hear.2 ∙ p.1,
        hear.3 ∙ p.2,
      )

  pub dealt_all : (c d : D) (i o : List ℕ) → Talks Fed One c i o d → All c i o d
  dealt_all c d i o Begins = (subst (λ (x : List ℕ). Gave c x [] (frames c) (held c)) (sym (append-nil (frames c))) (nothing answers (held c).version (held c).numbers (held c).asker (frames c)), refl, refl)
  dealt_all c d i o (Hears input output piece m after p hear) = fed_on c m d input output piece (dealt_all c m input output p) hear
  dealt_all c d i o (Says input output bytes m after p say) =
      let before = dealt_all c m input output p in
      (Dealt-then answers (held c).version (held m).version (held d).version (held c).numbers (held m).numbers (held d).numbers (held c).asker (held m).asker (held d).asker (frames c ++ input) output (frames m) bytes (frames d) before.0 say.0, say.1 ∙ before.1, say.2 ∙ before.2)

  stopped_serves : (end : Served) (c d : D) (i o : List ℕ) → over c ≡ false → IsStopped Fed One Stop Quiet end c i o d → Ends end c (frames c ++ i) o (left_of d)
  stopped_serves end c d i o going p =
      let m = p.before in
      let before = dealt_all c m i p.said p.talked in
      let stopped = subst (λ (x : Bool). IsParted answers x end (held m).version (held m).numbers (held m).asker (frames m) p.bytes (left_of d)) before.1 (p.stopped (before.2 ∙ going)) in
      subst (λ (x : List ℕ). Ends end c (frames c ++ i) x (left_of d)) (sym p.output_is)
      (served_after answers end (opened c) (held c).version (held m).version (held c).numbers (held m).numbers (held c).asker (held m).asker (left_of d) (frames c ++ i) p.said (frames m) p.bytes before.0 stopped)

  -- a session that is not over is left as it is
  left_kept : (c d : D) (P : ClientSession A → Type 0) → over c ≡ false → over d ≡ over c → P (held d) → KeptAs (left_of d) P
  left_kept c d P going same p = subst (λ (b : Bool). KeptAs (parted_as b (held d)) P) (sym (same ∙ going)) p

  waits_all : (c d : D) (i o : List ℕ) → over c ≡ false → Waits Fed One Stop Quiet c i o d → KeptAs (left_of d) (DealsWithAll answers (held c).version (held c).numbers (held c).asker (frames c ++ i) o (frames d))
  waits_all c d i o going p =
      let all = dealt_all c d i o p.talked in
      left_kept c d (DealsWithAll answers (held c).version (held c).numbers (held c).asker (frames c ++ i) o (frames d)) going all.2 (record { dealt = all.0; undecided = p.quiet })

  -- the session answered some requests, and is left as it was then
  some_done : (c d : D) (i o rest : List ℕ) → over c ≡ false → over d ≡ over c → Gave c (frames c ++ i) o rest (held d) → StopsAfter answers (opened c) (held c).version (held c).numbers (held c).asker (frames c ++ i) o (left_of d)
  some_done c d i o rest going same gave =
      subst (λ (b : Bool). StopsAfter answers (opened c) (held c).version (held c).numbers (held c).asker (frames c ++ i) o (parted_as b (held d))) (sym (same ∙ going))
      (record { rest = rest; version = (held d).version; state = (held d).numbers; asker = (held d).asker; dealt = gave; last = refl })

  pub written_serves : (c d : D) (i o whole rest : List ℕ) → over c ≡ false → whole ≡ o ++ rest → Talks Fed One c i whole d ⊎ ((end : Served) × IsStopped Fed One Stop Quiet end c i whole d)
      → Ends served.Write c (frames c ++ i) o (left_of d)
  written_serves c d i o whole rest going e (inl talked) = let all = dealt_all c d i whole talked in (whole, rest, e, inl (some_done c d i whole (frames d) going all.2 all.0))
  written_serves c d i o whole rest going e (inr stopped) = prefix_served answers stopped.0 (opened c) (held c).version (held c).numbers (held c).asker (left_of d) (frames c ++ i) whole o rest e (stopped_serves stopped.0 c d i whole going stopped.1)

  lost_serves : (c d : D) (i o : List ℕ) → over c ≡ false → LosesPiece Fed One Stop Quiet c i o d → StopsAfter answers (opened c) (held c).version (held c).numbers (held c).asker (frames c ++ i) o (left_of d)
  lost_serves c d i o going p =
      let all = dealt_all c d p.heard o p.talked in
      let more = Dealt-fed answers (held c).version (held d).version (held c).numbers (held d).numbers (held c).asker (held d).asker (frames c ++ p.heard) o (frames d) p.piece all.0 in
      let bytes : (frames c ++ p.heard) ++ p.piece ≡ frames c ++ i = append_assoc (frames c) p.heard p.piece ∙ ap (λ (x : List ℕ). frames c ++ x) (sym p.input_is) in
      some_done c d i o (frames d ++ p.piece) going all.2 (subst (λ (x : List ℕ). Gave c x o (frames d ++ p.piece) (held d)) bytes more)

  pub conversed_serves : (end : Served) (c d : D) (i o : List ℕ) → over c ≡ false → Conversed Fed One Stop Quiet Between end c i o d → Ends end c (frames c ++ i) o (left_of d)
  conversed_serves served.Ended c d i o going p = subst (λ (x : List ℕ). KeptAs (left_of d) (DealsWithAll answers (held c).version (held c).numbers (held c).asker (frames c ++ i) o x)) (empty_if (frames d) p.1) (waits_all c d i o going p.0)
  conversed_serves served.Truncated c d i o going p = (frames d, some_left (frames d) p.1, waits_all c d i o going p.0)
  conversed_serves served.Read c d i o going p = (frames d, waits_all c d i o going p)
  conversed_serves served.TurnsSpent c d i o going p = (frames d, waits_all c d i o going p)
  conversed_serves served.Write c d i o going p = written_serves c d i o p.whole p.rest going p.parts p.done
  conversed_serves served.Memory c d i o going (inl stopped) = stopped_serves served.Memory c d i o going stopped
  conversed_serves served.Memory c d i o going (inr lost) = lost_serves c d i o going lost
  conversed_serves (served.Malformed code) c d i o going p = stopped_serves (served.Malformed code) c d i o going p
  conversed_serves served.Protocol c d i o going p = stopped_serves served.Protocol c d i o going p
  conversed_serves served.Foreign c d i o going p = stopped_serves served.Foreign c d i o going p
  conversed_serves served.Quit c d i o going p = stopped_serves served.Quit c d i o going p

  -- nothing was read, and the requests that had come before are answered
  unread_serves : (c d : D) (i o : List ℕ) → over c ≡ false → LacksBuffer Fed One Stop Quiet c i o d → StopsAfter answers (opened c) (held c).version (held c).numbers (held c).asker (frames c ++ i) o (left_of d)
  unread_serves c d i o going p = let all = dealt_all c d i o p.answered.talked in some_done c d i o (frames d) going all.2 all.0

  pub converses_serves : (end : Served) (c d : D) (i o : List ℕ) → over c ≡ false → Converses Fed One Stop Quiet Between end c i o d → Ends end c (frames c ++ i) o (left_of d)
  converses_serves end c d i o going (inl p) = conversed_serves end c d i o going p
  converses_serves end c d i o going (inr (e, p)) = subst (λ (x : Served). Ends x c (frames c ++ i) o (left_of d)) (sym e) (unread_serves c d i o going p)
