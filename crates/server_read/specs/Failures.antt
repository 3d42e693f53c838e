-- The count of failures that a source or a sink keeps, and texts that are written in part.
use Rattle.std.specs.Prelude.{◌≡◌, ◌≢◌, ℕ, List, ◌++◌, Option, MatchResult, Result, Ok, Err}
use Rattle.std.specs.Io.KnownBytes.{Appends}
use Rattle.server_read.specs.declared.input.InputFault.{InputFault}
use Rattle.server_read.specs.declared.input.InputFault.TheVariants.{Read, Turns}

-- the count of failures changes exactly where this call failed
abbrev pub CountsFailure : {T E : Type 0} → ℕ → ℕ → Result T E → Type 0
CountsFailure old new r = MatchResult r (λ _. new ≡ old) (λ _. new ≢ old)

-- the count of failures changes exactly where the result is the fault `Read`
abbrev pub CountsReadFault : {T : Type 0} → ℕ → ℕ → Result T InputFault → Type 0
CountsReadFault old new (Ok value) = new ≡ old
CountsReadFault old new (Err Read) = new ≢ old
CountsReadFault old new (Err Turns) = new ≡ old

-- a first part of the text is written; `held` and `holds` are what the writer held before and after
pub record WritesPart (held holds : Option (List ℕ)) (text : List ℕ) : Type 0 where
  pub written : List ℕ
  pub unwritten : List ℕ
  pub whole : text ≡ written ++ unwritten
  pub appended : Appends held holds written

-- the whole text is written, or on an error a first part of it
abbrev pub WritesText : {T E : Type 0} → Option (List ℕ) → Option (List ℕ) → List ℕ → Result T E → Type 0
WritesText held holds text r = MatchResult r (λ _. Appends held holds text) (λ _. WritesPart held holds text)
