-- What a node took from other nodes, and the buffered parts of their next handovers.
use Rattle.std.specs.Prelude.{◌≡◌, ℕ, ◌+◌, ◌<◌, ◌≤◌, Bool, not, ◌&&◌, ◌==◌, if◌then◌else◌, List, [], ◌∷◌, ◌++◌, filter}
use Rattle.std.specs.List.{list_any}
use Rattle.chord_segment.specs.declared.mark.Mark.{Mark}
use Rattle.chord_segment.specs.Marks.{mark_of, raise}
use Rattle.chord_handover.specs.declared.verdict.Verdict.{Verdict}
use Rattle.chord_handover.specs.declared.verdict.Verdict.TheVariants.{Next, Again, Early}
use Rattle.chord_handover.specs.Handover.{Part}

-- the last number taken from each sender, and the buffered parts
pub record Taken : Type 0 where
  pub last : List Mark
  pub buffered : List Part

-- `Taken` as the program holds it, and whether its memory has room for one more sender
pub record RoomyTaken : Type 0 where
  pub taken : Taken
  pub has_room : Bool

abbrev pub nothing_taken : Taken
nothing_taken = record { last = []; buffered = [] }

-- whether a number is the next one, was taken before, or comes too early
abbrev pub JudgeIs : ℕ → ℕ → Taken → Verdict → Type 0
JudgeIs from number taken Next = number ≡ mark_of from taken.last + 1
JudgeIs from number taken Again = number ≤ mark_of from taken.last
JudgeIs from number taken Early = mark_of from taken.last + 1 < number

-- the sender's next handover was taken, and its buffered parts dropped
abbrev pub with_mark : ℕ → Taken → Taken
with_mark from taken = record {
  last = raise from (mark_of from taken.last + 1) taken.last;
  buffered = filter (λ (part : Part). not (part.from == from)) taken.buffered;
}

-- whether a part of this sender, handover number and part number is buffered
abbrev pub is_buffered : Part → List Part → Bool
is_buffered part buffered = list_any (λ (other : Part). (other.from == part.from) && (other.number == part.number) && (other.place == part.place)) buffered

-- the part buffered; nothing changes if it was buffered before
abbrev pub with_buffered : Part → Taken → Taken
with_buffered part taken = if is_buffered part taken.buffered then taken else record taken { buffered = taken.buffered ++ part ∷ [] }
