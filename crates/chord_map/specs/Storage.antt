-- How the bytes of a key or a value are stored.
use Rattle.std.specs.Prelude.{ℕ, List}
use Rattle.std.specs.Arc.{arc_value}
use Rattle.chord_map.specs.declared.bytes.Storage.{Storage}
use Rattle.chord_map.specs.declared.bytes.Storage.TheVariants.{Inline, Owned, Small, Middle, Large, Long}

-- the bytes, however they are stored
abbrev pub bytes_of : Storage → List ℕ
bytes_of (Inline short) = short
bytes_of (Owned bytes) = bytes.items
bytes_of (Small bytes) = arc_value bytes
bytes_of (Middle bytes) = arc_value bytes
bytes_of (Large bytes) = arc_value bytes
bytes_of (Long bytes) = arc_value bytes
