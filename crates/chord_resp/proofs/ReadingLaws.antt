-- One step of a reading, and a reading that goes on with more bytes.
use Rattle.std.proofs.Common.{◌≡◌, ℕ, ◌+◌, ◌-◌, ◌<◌, take, List, [], ◌∷◌, ◌++◌, length, drop, get_or, Err, refl, sym, ap, ◌∙◌, add-one, drop-cons}
use Rattle.std.proofs.lemmas.List.{take_rest}
use Rattle.chord_resp.specs.declared.reading.protocol_error.ProtocolError.{ProtocolError}
use Rattle.chord_resp.specs.declared.reading.read_error.ReadError.{ReadError}
use Rattle.chord_resp.specs.declared.reading.read_error.ReadError.TheVariants as error
use Rattle.chord_resp.specs.declared.reading.word.Word.{Word}
use Rattle.chord_resp.specs.Machine.{State, Outcome, Goes, Gives, Fails, start, step}
use Rattle.chord_resp.specs.Reading.{Reading, Open, Broken, reading, after, with_commands, with_more, StepIs, Skims, TakesNext, keeps}

-- the reading of the bytes from this index on, after what the byte there does
pub reading_at : (s : State) (bytes : List ℕ) (i : ℕ) → i < length bytes → reading s (drop i bytes) ≡ after (step s (get_or bytes i 0)) (λ t. reading t (drop (i + 1) bytes))
unfolding reading
reading_at s bytes i lt = rw (add-one, drop-cons bytes i 0) refl

module _ (s : State) (bytes : List ℕ) (i : ℕ) (lt : i < length bytes) (new : State) where
  pub goes : step s (get_or bytes i 0) ≡ Goes new → reading s (drop i bytes) ≡ reading new (drop (i + 1) bytes)
  goes e = reading_at s bytes i lt ∙ ap (λ (o : Outcome). after o (λ t. reading t (drop (i + 1) bytes))) e

  pub gives : (words : List Word) → step s (get_or bytes i 0) ≡ Gives words → new ≡ start → reading s (drop i bytes) ≡ with_commands (words ∷ []) (reading new (drop (i + 1) bytes))
  gives words e is = rw is (reading_at s bytes i lt ∙ ap (λ (o : Outcome). after o (λ t. reading t (drop (i + 1) bytes))) e)

  pub fails : (e : ProtocolError) → step s (get_or bytes i 0) ≡ Fails e → reading s (drop i bytes) ≡ record { commands = []; ending = Broken e }
  fails f e = reading_at s bytes i lt ∙ ap (λ (o : Outcome). after o (λ t. reading t (drop (i + 1) bytes))) e

pub nothing_read : (s : State) → reading s [] ≡ record { commands = []; ending = Open s }
unfolding reading
nothing_read s = refl

-- a step that goes on does so with more bytes
after_more : (o : Outcome) (f g : State → Reading) (more : List ℕ) → ((t : State) → g t ≡ with_more (f t) more) → after o g ≡ with_more (after o f) more
after_more (Goes t) f g more h = h t
after_more (Gives words) f g more h = ap (with_commands (words ∷ [])) (h start)
after_more (Fails e) f g more h = refl

pub cut : (s : State) (bytes more : List ℕ) → reading s (bytes ++ more) ≡ with_more (reading s bytes) more
unfolding reading
cut s [] more = refl
cut s (byte ∷ bytes) more = after_more (step s byte) (λ t. reading t bytes) (λ t. reading t (bytes ++ more)) more (λ t. cut t bytes more)

-- a step at which an error comes leaves the byte to be read again
pub stops : (s s' new : State) (bytes : List ℕ) (i : ℕ) (lt : i < length bytes) (e : ReadError) → reading s (drop i bytes) ≡ reading s' bytes
    → StepIs (step s (get_or bytes i 0)) (keeps s (get_or bytes i 0)) s (Err e) new → TakesNext (record { state = s'; bytes = bytes }) (Err e) (record { state = new; bytes = drop i bytes })
stops s s' new bytes i lt (error.Protocol f) rest h = (sym rest ∙ fails s bytes i lt new f h.0, rw h.1 rest)
stops s s' new bytes i lt error.Memory rest h =
    let front : drop i bytes ≡ get_or bytes i 0 ∷ drop (i + 1) bytes = rw (add-one, drop-cons bytes i 0) refl in
    ((get_or bytes i 0, drop (i + 1) bytes, front, rw h.1 h.0), rw h.1 rest)

-- no byte was read together: the same is read from this index on
pub still : (s s' new : State) (bytes : List ℕ) (i n : ℕ) → reading s (drop i bytes) ≡ reading s' bytes → Skims s (take (length bytes - i) (drop i bytes)) n new → n ≡ 0 → reading new (drop i bytes) ≡ reading s' bytes
still s s' new bytes i n rest h none = sym (rw (take_rest bytes i) at (rw none at h).1) ∙ rest
