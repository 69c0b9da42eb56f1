-- An answer is added behind what was due before.
use Rattle.std.proofs.Common.{◌≡◌, ℕ, List, [], ◌++◌, Option, Some, None, Result, Ok, Err, sym, ◌∙◌, inl, inr}
use Rattle.std.specs.Prelude.{length}
use Rattle.std.proofs.lemmas.List.{append-nil}
use Rattle.std.specs.declared.alloc.AllocError.{AllocError}
use Rattle.chord_serve.specs.declared.asker.Asked.{Asked}
use Rattle.chord_serve.specs.Question.{Question}
use Rattle.chord_resp.specs.declared.reading.word.Word.{Word}
use Rattle.chord_resp.specs.declared.table.command.Command.{Command}
use Rattle.chord_resp.specs.declared.table.refusal.Refusal.{Refusal}
use Rattle.chord_resp.specs.Answers.{Joins}
use Rattle.chord_resp.specs.Table.{command_of}
use Rattle.chord_resp_serve.specs.declared.about.About.{About}
use Rattle.chord_resp_serve.specs.declared.flow.Flow.{Flow}
use Rattle.chord_resp_serve.specs.declared.standing.Standing.{Standing}
use Rattle.chord_resp_serve.specs.declared.tally.Tally.{Tally}
use Rattle.chord_resp_serve.specs.declared.tally.Stopped.{Stopped}
use Rattle.chord_resp_serve.specs.Asking.{requests_of}
use Rattle.chord_resp_serve.specs.Answering.{TellsOf, Tells, refusal_of, AnswersCommand}
use Rattle.chord_resp_serve.specs.Transactions.{allowed, standing_behind}
use Rattle.chord_resp_serve.specs.Words.{AnswersTable, AnswersWords, with_flow}

abbrev pub Extends : List ℕ → List ℕ → Type 0
Extends old new = (bytes : List ℕ) × (new ≡ old ++ bytes)

pub same_extends : (old new : List ℕ) → new ≡ old → Extends old new
same_extends old new e = ([], e ∙ sym (append-nil old))

pub joins_extends : (result : Result (Unit {0}) AllocError) (old new bytes : List ℕ) → Joins result old new bytes → Extends old new
joins_extends (Ok done) old new bytes e = (bytes, e)
joins_extends (Err refused) old new bytes e = same_extends old new e

tells_of_extends : (told : Option Refusal) (result : Result (Unit {0}) AllocError) (old new : List ℕ) → TellsOf told result old new → Extends old new
tells_of_extends (Some r) result old new p = joins_extends result old new _ p
tells_of_extends None result old new p = same_extends old new p.1

pub tells_extends : (about : About) (c : Command) (outcome : Result Tally Stopped) (result : Result (Unit {0}) AllocError) (old new : List ℕ) → Tells about c outcome result old new → Extends old new
tells_extends about c (Ok t) result old new p = joins_extends result old new _ p
tells_extends about c (Err s) result old new p = tells_of_extends (refusal_of (length (requests_of c)) s) result old new p

-- with no memory nothing was added

tells_of_same : (told : Option Refusal) (refused : AllocError) (old new : List ℕ) → TellsOf told (Err refused) old new → new ≡ old
tells_of_same (Some r) refused old new p = p
tells_of_same None refused old new p = p.1

tells_same : (about : About) (c : Command) (outcome : Result Tally Stopped) (refused : AllocError) (old new : List ℕ) → Tells about c outcome (Err refused) old new → new ≡ old
tells_same about c (Ok t) refused old new p = p
tells_same about c (Err s) refused old new p = tells_of_same (refusal_of (length (requests_of c)) s) refused old new p

module _ {A : Type 0} (answers : A → Question → Asked → A → Type 0) (about : About) where
  command_extends : (c : Command) (n n' : Standing) (a a' : A) (result : Result (Unit {0}) AllocError) (old new : List ℕ) → AnswersCommand answers about c n a result old new n' a' → Extends old new
  command_extends c n n' a a' result old new (inl p) = elim p.told [
    | inl some ↦ joins_extends result old new _ some.1
    | inr none ↦ same_extends old new none.1
  ]
  command_extends c n n' a a' result old new (inr p) = tells_extends about c p.outcome result old new p.told

  command_same : (c : Command) (n n' : Standing) (a a' : A) (refused : AllocError) (old new : List ℕ) → AnswersCommand answers about c n a (Err refused) old new n' a' → new ≡ old
  command_same c n n' a a' refused old new (inl p) = elim p.told [
    | inl some ↦ some.1
    | inr none ↦ none.1
  ]
  command_same c n n' a a' refused old new (inr p) = tells_same about c p.outcome refused old new p.told

  table_extends : (t : Result Command Refusal) (n n' : Standing) (a a' : A) (result : Result Flow AllocError) (old new : List ℕ) → AnswersTable answers t about n a result old new n' a' → Extends old new
  table_extends (Ok c) n n' a a' result old new p = command_extends c n n' a a' p.0 old new p.1
  table_extends (Err r) n n' a a' result old new p = joins_extends p.0 old new _ p.3

  pub words_extend : (words : List Word) (n n' : Standing) (a a' : A) (result : Result Flow AllocError) (old new : List ℕ) → AnswersWords answers about words n a result old new n' a' → Extends old new
  words_extend words n n' a a' result old new (inl none) = same_extends old new none.output
  words_extend words n n' a a' result old new (inr p) = table_extends (allowed n.is_in_transaction (command_of words)) (standing_behind n (command_of words)) n' a a' result old new p

  told_same : (told : Result (Unit {0}) AllocError) (f : Flow) (refused : AllocError) (old new bytes : List ℕ) → Joins told old new bytes → Err refused ≡ with_flow told f → new ≡ old
  told_same (Ok done) f refused old new bytes p e = cc
  told_same (Err again) f refused old new bytes p e = p

  command_told_same : (c : Command) (told : Result (Unit {0}) AllocError) (f : Flow) (n n' : Standing) (a a' : A) (refused : AllocError) (old new : List ℕ) → AnswersCommand answers about c n a told old new n' a' → Err refused ≡ with_flow told f → new ≡ old
  command_told_same c (Ok done) f n n' a a' refused old new p e = cc
  command_told_same c (Err again) f n n' a a' refused old new p e = command_same c n n' a a' again old new p

  table_same : (t : Result Command Refusal) (n n' : Standing) (a a' : A) (refused : AllocError) (old new : List ℕ) → AnswersTable answers t about n a (Err refused) old new n' a' → new ≡ old
  table_same (Ok c) n n' a a' refused old new p = command_told_same c p.0 _ n n' a a' refused old new p.1 p.2
  table_same (Err r) n n' a a' refused old new p = told_same p.0 _ refused old new _ p.3 p.4

  pub words_same : (words : List Word) (n n' : Standing) (a a' : A) (refused : AllocError) (old new : List ℕ) → AnswersWords answers about words n a (Err refused) old new n' a' → new ≡ old
  words_same words n n' a a' refused old new (inl none) = none.output
  words_same words n n' a a' refused old new (inr p) = table_same (allowed n.is_in_transaction (command_of words)) (standing_behind n (command_of words)) n' a a' refused old new p
