-- Connections in a row are one session.
use Rattle.std.proofs.Common.{◌≡◌, ℕ, List, [], ◌++◌, true, refl, sym, ap, ◌∙◌, append_assoc, inl, inr}
use Rattle.std.proofs.lemmas.List.{append-nil}
use Rattle.chord_wire.specs.declared.request.WireRequest.{WireRequest}
use Rattle.chord_wire.specs.declared.fault.WireFault.{WireFault}
use Rattle.chord_serve.specs.declared.asker.Asked.{Asked}
use Rattle.chord_serve.specs.declared.client_session.ClientSession.{ClientSession}
use Rattle.chord_serve.specs.declared.parted.Parted.TheVariants.{Kept}
use Rattle.chord_serve.specs.declared.served.Served.{Served}
use Rattle.chord_serve.specs.declared.served.Served.TheVariants as served
use Rattle.chord_serve.specs.Question.{Question}
use Rattle.chord_serve.specs.Output.{bytes_written, state_after, questions}
use Rattle.chord_serve.specs.Served.{fault_frame, Dealt, DealsWithAll, Refuses, StopsAfter, IsParted}
use Rattle.chord_serve.specs.Lasting.{InARow, Answered, IsWritten, AreOneSession}
use Rattle.chord_serve.specs.Lasting.InARow.{Begins, Then}
use Rattle.chord_serve.specs.Lasting.SpellInARow.{Nothing, Spell}
use Rattle.chord_serve.specs.Lasting.WrittenInARow.{Nothing_due, Written}
use Rattle.chord_serve.proofs.Serving.{Serves-append, as_function, serves}
use Rattle.chord_serve.proofs.BatchLaws.{AreOfVersion-append}

all_written : (due : List ℕ) → IsWritten due due
all_written due = record { fault = []; lost = []; is_fault = inl refl; parts = refl }

fault_written : (due output : List ℕ) (f : WireFault) → output ≡ due ++ fault_frame f → IsWritten due output
fault_written due output f e = record { fault = fault_frame f; lost = []; is_fault = inr (f, refl); parts = sym e ∙ sym (append-nil output) }

part_written : (due whole output lost : List ℕ) → IsWritten due whole → whole ≡ output ++ lost → IsWritten due output
part_written due whole output lost p e = record {
  fault = p.fault;
  lost = lost ++ p.lost;
  is_fault = p.is_fault;
  parts = p.parts ∙ ap (λ (x : List ℕ). x ++ p.lost) e ∙ append_assoc output lost p.lost;
}

module _ {A : Type 0} (answers : A → Question → Asked → A → Type 0) where
  nothing_answered : (first : ClientSession A) → Answered answers first [] [] first
  unfolding bytes_written state_after questions
  nothing_answered first = record { given = []; versions = refl; due_is = refl; state_is = refl; answered = refl }

  -- the requests of one connection after those of others
  answered_then : (first middle last : ClientSession A) (requests more : List WireRequest) (due second : List ℕ) → Answered answers first requests due middle → Answered answers middle more second last → Answered answers first (requests ++ more) (due ++ second) last
  answered_then first middle last requests more due second p q =
      let one = serves answers first.numbers first.asker requests due middle.numbers middle.asker (record { given = p.given; output_is = p.due_is; state_is = p.state_is; answered = p.answered }) in
      let other = serves answers middle.numbers middle.asker more second last.numbers last.asker (record { given = q.given; output_is = q.due_is; state_is = q.state_is; answered = q.answered }) in
      let f = as_function answers first.numbers first.asker (requests ++ more) (due ++ second) last.numbers last.asker
      (Serves-append answers first.numbers first.asker requests more due second middle.numbers last.numbers middle.asker last.asker one other) in
      record { given = f.given; versions = AreOfVersion-append first.version middle.version last.version requests more p.versions q.versions; due_is = f.output_is; state_is = f.state_is; answered = f.answered }

  -- what a connection answered, if the session can go on
  record Visit (before after : ClientSession A) (input output : List ℕ) : Type 0 where
    pub due : List ℕ
    pub rest : List ℕ
    pub dealt : Dealt answers before.version before.numbers before.asker input due rest after.version after.numbers after.asker
    pub written : IsWritten due output

  abbrev Sessions : Served → ClientSession A → ClientSession A → List ℕ → List ℕ → Type 0
  Sessions end before after input output = IsParted answers true end before.version before.numbers before.asker input output (Kept after)

  all_visit : (before after : ClientSession A) (input output rest : List ℕ) → DealsWithAll answers before.version before.numbers before.asker input output rest after → Visit before after input output
  all_visit before after input output rest p = record { due = output; rest = rest; dealt = p.dealt; written = all_written output }

  refused_visit : (before after : ClientSession A) (input output : List ℕ) (f : WireFault) → Refuses answers true before.version before.numbers before.asker input output f after → Visit before after input output
  refused_visit before after input output f p = record { due = p.before; rest = p.rest; dealt = p.dealt; written = fault_written p.before output f p.output_is }

  stopped_visit : (before after : ClientSession A) (input output : List ℕ) → StopsAfter answers true before.version before.numbers before.asker input output (Kept after) → Visit before after input output
  stopped_visit before after input output p = record { due = output; rest = p.rest; dealt = rw p.last p.dealt; written = all_written output }

  written_visit : (before after : ClientSession A) (input whole output lost : List ℕ) → whole ≡ output ++ lost → Visit before after input whole → Visit before after input output
  written_visit before after input whole output lost e p = record { due = p.due; rest = p.rest; dealt = p.dealt; written = part_written p.due whole output lost p.written e }

  visit : (end : Served) (before after : ClientSession A) (input output : List ℕ) → Sessions end before after input output → Visit before after input output
  visit served.Ended before after input output p = all_visit before after input output [] p
  visit served.Truncated before after input output p = all_visit before after input output p.0 p.2
  visit served.Read before after input output p = all_visit before after input output p.0 p.1
  visit served.TurnsSpent before after input output p = all_visit before after input output p.0 p.1
  visit (served.Malformed code) before after input output p = refused_visit before after input output p.0 p.2
  visit served.Write before after input output p = written_visit before after input p.0 output p.1 p.2 (elim p.3 [
    | inl some ↦ stopped_visit before after input p.0 some
    | inr (inl refused) ↦ refused_visit before after input p.0 refused.0 refused.1
    | inr (inr closed) ↦ absurd closed
  ])
  visit served.Memory before after input output p = stopped_visit before after input output p
  visit served.Protocol before after input output p = absurd p
  visit served.Foreign before after input output p = absurd p
  visit served.Quit before after input output p = absurd p

  pub one_session : (first : ClientSession A) (inputs outputs : List (List ℕ)) (last : ClientSession A) → InARow answers first inputs outputs last → AreOneSession answers first inputs outputs last
  one_session first _ _ _ Begins = record { requests = []; due = []; spelled = Nothing; answered = nothing_answered first; written = Nothing_due }
  one_session first _ _ last (Then inputs outputs before after end input output row parted) =
      let p = one_session first inputs outputs before row in
      let q = visit end before after input output parted in
      let d = q.dealt in
      record {
        requests = p.requests ++ d.requests;
        due = p.due ++ q.due;
        spelled = Spell inputs p.requests d.requests input q.rest p.spelled d.spelled;
        answered = answered_then first before after p.requests d.requests p.due q.due p.answered (record { given = d.given; versions = d.versions; due_is = d.output_is; state_is = d.state_is; answered = d.answered });
        written = Written p.due q.due outputs output p.written q.written;
      }
