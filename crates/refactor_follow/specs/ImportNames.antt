-- The imports without a name that get another name, where the package that they import gets it.
use Rattle.std.specs.Prelude.{ℕ, ◌≡◌, ◌⊎◌, List, Option, None}
use Rattle.types_declared.specs.Laid.{literal_of}
use Rattle.types_declared.specs.Package.{Package}
use Rattle.types_declared.specs.Written.{DeclaresImport}
use Rattle.refactor_conflict.specs.declared.conflict.Conflict.{Conflict}
use Rattle.refactor_decide.specs.Own.{TellsOwn}

-- `d` is an import, without a name, of the package at this path.
pub record IsBareImportOf (p : Package) (path : List ℕ) (d : ℕ) : Type 0 where
  pub imports : DeclaresImport p d path
  pub unnamed : literal_of p.layout d ≡ d

-- It has another name than this one.
pub record GetsName (p : Package) (path name : List ℕ) (d : ℕ) : Type 0 where
  pub bare : IsBareImportOf p path d
  pub other : p.names d ≡ name → ⊥

-- The first conflict of its rename in the scopes of the package; none where `d` is no such import.
abbrev pub TellsIfNamed : Package → (path name : List ℕ) → (d : ℕ) → Option Conflict → Type 0
TellsIfNamed p path name d told =
    (GetsName p path name d × TellsOwn p d name told) ⊎ ((GetsName p path name d → ⊥) × (told ≡ None))
