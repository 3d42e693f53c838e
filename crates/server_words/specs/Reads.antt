-- Reading the words of a command line as a request, and the faults of words that make none.
use Rattle.std.specs.Prelude.{◌≡◌, ◌≢◌, ◌⊎◌, List, [], Result, Ok, Err}
use Rattle.clap.specs.Words.{IsAmong, Text, fault_of, subcommand_of}
use Rattle.clap.specs.declared.error.kind.ErrorKind.{ErrorKind}
use Rattle.clap.specs.declared.error.kind.ErrorKind.TheVariants.{DisplayHelp, DisplayVersion, OutOfMemory}
use Rattle.server_words.specs.CommandRequests.{MakesRequest}
use Rattle.server_words.specs.CommandLine.{gorefd}
use Rattle.server_words.specs.declared.requests.Words.{Words}
use Rattle.server_words.specs.declared.reading.RequestFault.{RequestFault}
use Rattle.server_words.specs.declared.reading.RequestFault.TheVariants.{Memory, Help, Version, Usage}

-- the fault that an error of this kind is; it may be want of memory instead
abbrev pub IsParserFault : ErrorKind → RequestFault → Type 0
IsParserFault kind Memory = Unit {0}
IsParserFault kind (Help text) = kind ≡ DisplayHelp
IsParserFault kind (Version text) = kind ≡ DisplayVersion
IsParserFault kind (Usage text) = (kind ≢ DisplayHelp) × (kind ≢ DisplayVersion) × (kind ≢ OutOfMemory)

-- the fault is of usage
abbrev pub IsUsage : RequestFault → Type 0
IsUsage Memory = ⊥
IsUsage (Help text) = ⊥
IsUsage (Version text) = ⊥
IsUsage (Usage text) = Unit {0}

-- The words make this request, or ask for help or for the version. Otherwise the parser finds another fault in them, or finds none and they make no request.
-- Memory may always be wanting.
abbrev pub ReadsRequest : List Text → Result Words RequestFault → Type 0
ReadsRequest words (Ok asked) = (fault_of gorefd words ≡ []) × MakesRequest (subcommand_of gorefd words) asked
ReadsRequest words (Err Memory) = Unit {0}
ReadsRequest words (Err (Help text)) = IsAmong DisplayHelp (fault_of gorefd words)
ReadsRequest words (Err (Version text)) = IsAmong DisplayVersion (fault_of gorefd words)
ReadsRequest words (Err (Usage text)) =
    ((kind : ErrorKind) × (kind ≢ DisplayHelp) × (kind ≢ DisplayVersion) × IsAmong kind (fault_of gorefd words))
    ⊎ ((fault_of gorefd words ≡ []) × ((asked : Words) → MakesRequest (subcommand_of gorefd words) asked → ⊥))
