-- The request of a command line, from what the parser of command lines found in it.
use Rattle.std.specs.Prelude.{◌≡◌, ◌↔◌, ◌≤◌, ℕ, IsTrue, List, Option, Some, None, codes, option_map}
use Rattle.std.specs.Str.Parse.{IsNumeral, digits_value, without_leading_plus}
use Rattle.clap.specs.Words.{Row, Text, first_of, one_of}
use Rattle.server_words.specs.declared.requests.ServeOptions.{ServeOptions}
use Rattle.server_words.specs.declared.requests.StopOptions.{StopOptions}
use Rattle.server_words.specs.declared.requests.Words.{Words}
use Rattle.server_words.specs.declared.requests.Words.TheVariants.{Faults, Lsp, Move, Rename, Run, Serve, Stop, Uses}
use Rattle.server_words.specs.ToolOptions.{AreFaultsOptions, AreLspOptions, AreMoveOptions, AreRenameOptions, AreUsesOptions}

-- the option was given this number, which is from 1 to `most`
abbrev pub IsOptionNumber : Text → ℕ → List Row → ℕ → Type 0
IsOptionNumber option most rows n = (text : Text) × (one_of option rows ≡ Some text)
    × IsNumeral 10 (without_leading_plus text) × (n ≡ digits_value 10 (without_leading_plus text)) × (1 ≤ n) × (n ≤ most)

-- the number that the option was given, or none where it was given none from 1 to `most`
abbrev pub FindsNumber : Text → ℕ → List Row → Option ℕ → Type 0
FindsNumber option most rows (Some n) = IsOptionNumber option most rows n
FindsNumber option most rows None = (n : ℕ) → IsOptionNumber option most rows n → ⊥

-- the number of an option that need not be given, from 1 to 1000000, or none without it
abbrev pub IsOptional : Text → List Row → Option ℕ → Type 0
IsOptional option rows None = first_of option rows ≡ None
IsOptional option rows (Some n) = IsOptionNumber option 1000000 rows n

-- what such an option says; none where it was given no number from 1 to 1000000
abbrev pub FindsOptional : Text → List Row → Option (Option ℕ) → Type 0
FindsOptional option rows (Some given) = IsOptional option rows given
FindsOptional option rows None = (given : Option ℕ) → IsOptional option rows given → ⊥

-- the values of the options of `serve`, each in its range
pub record AreServeOptions (rows : List Row) (words : ServeOptions) : Type 0 where
  pub socket : first_of (codes "socket") rows ≡ Some words.socket.now
  pub workers : IsOptionNumber (codes "workers") 16 rows words.workers
  pub sessions : IsOptionNumber (codes "sessions") 32 rows words.sessions
  pub stop_after : IsOptional (codes "stop-after") rows words.stop_after
  pub idle : IsOptional (codes "idle") rows words.idle
  pub chapter : IsOptional (codes "chapter") rows words.chapter
  pub journal : first_of (codes "journal") rows ≡ option_map (λ folder. folder.now) words.journal

-- the options of `serve`, or none where one is missing or out of its range
abbrev pub FindsServe : List Row → Option ServeOptions → Type 0
FindsServe rows (Some words) = AreServeOptions rows words
FindsServe rows None = (words : ServeOptions) → AreServeOptions rows words → ⊥

-- the options of `stop`
pub record AreStopOptions (rows : List Row) (words : StopOptions) : Type 0 where
  pub socket : first_of (codes "socket") rows ≡ Some words.socket.now
  pub at_once : IsTrue words.at_once ↔ (first_of (codes "now") rows ≡ Some (codes "true"))

-- the options of `stop`, or none where the path is missing
abbrev pub FindsStop : List Row → Option StopOptions → Type 0
FindsStop rows (Some words) = AreStopOptions rows words
FindsStop rows None = (words : StopOptions) → AreStopOptions rows words → ⊥

-- the subcommand of this name, with these options, makes this request
abbrev pub MakesRequest : Option (Text × List Row) → Words → Type 0
MakesRequest named Run = (rows : List Row) × (named ≡ Some (codes "run", rows))
MakesRequest named (Serve words) = (rows : List Row) × (named ≡ Some (codes "serve", rows)) × AreServeOptions rows words
MakesRequest named (Stop words) = (rows : List Row) × (named ≡ Some (codes "stop", rows)) × AreStopOptions rows words
MakesRequest named (Rename options) = (rows : List Row) × (named ≡ Some (codes "rename", rows)) × AreRenameOptions rows options
MakesRequest named (Move options) = (rows : List Row) × (named ≡ Some (codes "move", rows)) × AreMoveOptions rows options
MakesRequest named (Uses options) = (rows : List Row) × (named ≡ Some (codes "uses", rows)) × AreUsesOptions rows options
MakesRequest named (Faults options) = (rows : List Row) × (named ≡ Some (codes "faults", rows)) × AreFaultsOptions rows options
MakesRequest named (Lsp options) = (rows : List Row) × (named ≡ Some (codes "lsp", rows)) × AreLspOptions rows options

-- the request that the subcommand makes, or none where it makes none
abbrev pub FindsRequest : Option (Text × List Row) → Option Words → Type 0
FindsRequest named (Some words) = MakesRequest named words
FindsRequest named None = (words : Words) → MakesRequest named words → ⊥
