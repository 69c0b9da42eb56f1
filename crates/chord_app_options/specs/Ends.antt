-- Why a command line gives no command to do. Source: our own.
use Rattle.std.specs.Prelude.{◌≡◌, ◌≢◌, ◌⊎◌}
use Rattle.clap.specs.declared.error.kind.ErrorKind.{ErrorKind}
use Rattle.clap.specs.declared.error.kind.ErrorKind.TheVariants.{DisplayHelp, DisplayVersion}

-- it asks for help or the version
abbrev pub AsksForHelp : ErrorKind → Type 0
AsksForHelp kind = (kind ≡ DisplayHelp) ⊎ (kind ≡ DisplayVersion)

-- it is wrong, or memory was refused
abbrev pub IsMistake : ErrorKind → Type 0
IsMistake kind = (kind ≢ DisplayHelp) × (kind ≢ DisplayVersion)
