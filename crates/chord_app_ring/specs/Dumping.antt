-- What is asked for and written where all pairs are copied. Source: our own.
use Rattle.std.specs.Prelude.{◌≡◌, ◌⊎◌, ℕ, ◌+◌, ◌-◌, ◌^◌, ◌<◌, ◌==◌, ◌||◌, min, Bool, true, false, List, [], ◌++◌, codes, decimal, Option, Some, None, Result, Ok, Err, String, string_bytes}
use Rattle.std.specs.declared.alloc.AllocError.{AllocError}
use Rattle.std.specs.declared.alloc.Global.{Global}
use Rattle.std.specs.List.{count_by}
use Rattle.std.specs.Io.KnownBytes.{Appends}
use Rattle.chord_ident.specs.declared.id.Id.{Id}
use Rattle.chord_app_operator.specs.declared.operator.pairs.PageState.{PageState}
use Rattle.chord_app_operator.specs.declared.operator.pairs.PageState.TheVariants as state
use Rattle.chord_app_operator.specs.declared.request.calls.PairsRequest.{PairsRequest}
use Rattle.chord_app_operator.specs.Json.{id_hex}
use Rattle.chord_app_ring.specs.declared.fault.RingFault.{RingFault}
use Rattle.chord_app_ring.specs.declared.fault.RingFault.TheVariants.{NotUnderstood}
use Rattle.chord_app_ring.specs.declared.page.Page.{Page}
use Rattle.chord_app_ring.specs.declared.page.PageTurn.TheVariants as turn
use Rattle.chord_app_ring.specs.declared.dumping.DumpFault.{DumpFault}
use Rattle.chord_app_ring.specs.declared.dumping.DumpFault.TheVariants.{Ring, UnderWay, Write, Memory}
use Rattle.chord_app_ring.specs.Pages.{first_behind, request_behind, turn_of}

-- the page behind an identifier was asked for this many times, and was under way each time
pub data Waits {T : Type 0} (tells : T → PairsRequest → Result Page RingFault → T → Type 0) (after : Option Id) (first : T) : ℕ → T → Type 0 where
  Begins : Waits tells after first 0 first
  Again : (tries : ℕ) (page : Page) (before now : T)
      → Waits tells after first tries before → tells before (request_behind after) (Ok page) now → turn_of after page ≡ Some turn.UnderWay
      → Waits tells after first (tries + 1) now

module _ {T : Type 0} (tells : T → PairsRequest → Result Page RingFault → T → Type 0) where
  -- it was told in one of at most 100 tries
  pub record IsTold (after : Option Id) (first : T) (page : Page) (last : T) : Type 0 where
    pub tries : ℕ
    pub before : T
    pub waited : Waits tells after first tries before
    pub few : tries < 100
    pub told : tells before (request_behind after) (Ok page) last

  -- no page came, or one that does not follow
  abbrev pub FailsAt : Option Id → T → RingFault → T → Type 0
  FailsAt after before fault last =
      tells before (request_behind after) (Err fault) last
      ⊎ ((page : Page) × tells before (request_behind after) (Ok page) last × (turn_of after page ≡ None) × (fault ≡ NotUnderstood))

  pub record IsNotTold (after : Option Id) (first : T) (fault : RingFault) (last : T) : Type 0 where
    pub tries : ℕ
    pub before : T
    pub waited : Waits tells after first tries before
    pub few : tries < 100
    pub failed : FailsAt after before fault last

  -- what follows the page that was told
  abbrev pub Turns : Option Id → Page → Option Id → Type 0
  Turns after page None = turn_of after page ≡ Some turn.End
  Turns after page (Some next) = turn_of after page ≡ Some (turn.On next)

  -- the page behind an identifier, if it was told; 100 tries at most
  abbrev pub IsNextPage : Option Id → T → Result Page DumpFault → T → Type 0
  IsNextPage after first (Ok page) last = IsTold after first page last × Turns after page page.next
  IsNextPage after first (Err (Ring fault)) last = IsNotTold after first fault last
  IsNextPage after first (Err UnderWay) last = Waits tells after first 100 last
  IsNextPage after first (Err Write) last = ⊥
  IsNextPage after first (Err Memory) last = ⊥

-- the end of a line
abbrev pub is_end : ℕ → Bool
is_end byte = byte == 10

-- the last line of a copy, of at most 2^64 - 1 pairs
abbrev pub count_line : ℕ → List ℕ
count_line pairs = codes "# pairs " ++ decimal pairs ++ codes "\n"

abbrev pub counted_lines : List ℕ → ℕ
counted_lines lines = min (count_by is_end lines) (2 ^ 64 - 1)

-- what is said of a page whose identifiers were lost with a node
abbrev pub lost_words : (first last : List ℕ) → List ℕ
lost_words first last = codes "lost " ++ first ++ codes " to " ++ last ++ codes "\n"

abbrev pub lost_line : (first last : Id) → List ℕ
lost_line first last = lost_words (id_hex first) (id_hex last)

-- the last identifier of a page that goes on behind this one
abbrev pub last_of : Option Id → Id
last_of None = record { number = 340282366920938463463374607431768211455 }
last_of (Some next) = next

abbrev pub note_of : PageState → Option Id → Option Id → List ℕ
note_of state.Lost after next = lost_line (first_behind after) (last_of next)
note_of state.Held after next = []
note_of state.UnderWay after next = []

abbrev pub notes_of : Option Id → Page → List ℕ
notes_of after page = note_of page.state after page.next

abbrev pub is_lost_in : PageState → Bool
is_lost_in state.Lost = true
is_lost_in state.Held = false
is_lost_in state.UnderWay = false

-- a copy so far: the lines of its pages, what is said of them, and whether some were lost
pub record Copy : Type 0 where
  pub lines : List ℕ
  pub notes : List ℕ
  pub lost : Bool

abbrev pub nothing_yet : Copy
nothing_yet = record { lines = []; notes = []; lost = false }

abbrev pub with_page : Option Id → Page → Copy → Copy
with_page after page copy = record {
  lines = copy.lines ++ page.lines.items;
  notes = copy.notes ++ notes_of after page;
  lost = copy.lost || is_lost_in page.state;
}

-- the copy of the pages from the first one on, each asked for behind what the one before it names
pub data Follows {T : Type 0} (tells : T → PairsRequest → Result Page RingFault → T → Type 0) (first : T) : Option Id → Copy → T → Type 0 where
  Starts : Follows tells first None nothing_yet first
  GoesOn : (after : Option Id) (copy : Copy) (page : Page) (next : Id) (before now : T)
      → Follows tells first after copy before → IsTold tells after before page now → turn_of after page ≡ Some (turn.On next)
      → Follows tells first (Some next) (with_page after page copy) now

-- the lines are written, and what is said of them
abbrev pub IsWritten : (held held' told told' : Option (List ℕ)) → (lines notes : List ℕ) → Type 0
IsWritten held held' told told' lines notes = Appends held held' lines × Appends told told' notes

-- a line is written that there was memory for
abbrev pub WritesLine : Result (String Global) AllocError → (old new : Option (List ℕ)) → Type 0
WritesLine (Ok text) old new = Appends old new (string_bytes text)
WritesLine (Err full) old new = ⊥

-- why something is not written
abbrev pub IsUnwritten : DumpFault → Type 0
IsUnwritten fault = (fault ≡ Write) ⊎ (fault ≡ Memory)

module _ {T : Type 0} (tells : T → PairsRequest → Result Page RingFault → T → Type 0) where
  -- the pages so far, before the one that ends the copy
  pub record IsCopied (first : T) (Ends : Option Id → Copy → T → Type 0) : Type 0 where
    pub after : Option Id
    pub copy : Copy
    pub before : T
    pub followed : Follows tells first after copy before
    pub ended : Ends after copy before

  -- the copy ends with the last page, and behind its lines their number
  pub record EndsWell (is_lost : Bool) (held held' told told' : Option (List ℕ)) (last : T) (after : Option Id) (copy : Copy) (before : T) : Type 0 where
    pub page : Page
    pub shown : IsTold tells after before page last
    pub end : turn_of after page ≡ Some turn.End
    pub lost : is_lost ≡ (with_page after page copy).lost
    pub written : Appends held held' ((with_page after page copy).lines ++ count_line (counted_lines (with_page after page copy).lines))
    pub noted : Appends told told' (with_page after page copy).notes

  -- how the copy ended; what was told before is written, unless the writer failed
  abbrev pub IsDumped : T → Result Bool DumpFault → (held held' told told' : Option (List ℕ)) → T → Type 0
  IsDumped first (Ok is_lost) held held' told told' last = IsCopied first (EndsWell is_lost held held' told told' last)
  IsDumped first (Err (Ring fault)) held held' told told' last =
      IsCopied first (λ after copy before. IsNotTold tells after before fault last × IsWritten held held' told told' copy.lines copy.notes)
  IsDumped first (Err UnderWay) held held' told told' last =
      IsCopied first (λ after copy before. Waits tells after before 100 last × IsWritten held held' told told' copy.lines copy.notes)
  IsDumped first (Err Write) held held' told told' last =
      IsCopied first (λ after copy before. (page : Page) × IsTold tells after before page last)
  IsDumped first (Err Memory) held held' told told' last =
      IsCopied first (λ after copy before. (page : Page) × IsTold tells after before page last)
