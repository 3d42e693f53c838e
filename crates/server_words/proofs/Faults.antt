-- The faults of a command line, as errors of the parser.
use Rattle.std.proofs.Common.{◌≡◌, ◌∙◌, List, Err, sym, subst, inl, inr}
use Rattle.clap.specs.Words.{HasKind, IsAmong, Text, fault_of, kind_of}
use Rattle.clap.specs.declared.error.Error.{Error}
use Rattle.clap.specs.declared.error.kind.ErrorKind.{ErrorKind}
use Rattle.clap.specs.declared.error.kind.ErrorKind.TheVariants.{DisplayHelp, DisplayVersion, OutOfMemory}
use Rattle.server_words.specs.CommandLine.{gorefd}
use Rattle.server_words.specs.Reads.{ReadsRequest, IsParserFault}
use Rattle.server_words.specs.declared.reading.RequestFault.{RequestFault}
use Rattle.server_words.specs.declared.reading.RequestFault.TheVariants.{Memory, Help, Version, Usage}

no_help : (kind : ErrorKind) → kind ≡ DisplayHelp → kind ≡ OutOfMemory → ⊥
no_help kind help memory = let bad : DisplayHelp ≡ OutOfMemory = sym help ∙ memory in absurd cc

no_version : (kind : ErrorKind) → kind ≡ DisplayVersion → kind ≡ OutOfMemory → ⊥
no_version kind version memory = let bad : DisplayVersion ≡ OutOfMemory = sym version ∙ memory in absurd cc

pub told_fault : (words : List Text) (error : Error) (fault : RequestFault) → HasKind (fault_of gorefd words) error → IsParserFault (kind_of error) fault
    → ReadsRequest words (Err fault)
told_fault words error Memory h told = tt
told_fault words error (Help text) h told = elim h [
  | inl memory ↦ absurd (no_help (kind_of error) told memory)
  | inr among ↦ subst (λ kind. IsAmong kind (fault_of gorefd words)) told among
]
told_fault words error (Version text) h told = elim h [
  | inl memory ↦ absurd (no_version (kind_of error) told memory)
  | inr among ↦ subst (λ kind. IsAmong kind (fault_of gorefd words)) told among
]
told_fault words error (Usage text) h told = elim h [
  | inl memory ↦ absurd (told.2 memory)
  | inr among ↦ inl (kind_of error, told.0, told.1, among)
]
