-- What names are to code, where they are bound to nothing.
use Rattle.std.proofs.Common.{ℕ, ◌≡◌, ◌↔◌, true, false}
use Rattle.std.specs.Prelude.{None}
use Rattle.std.proofs.lemmas.Bool.{false≢true}
use Rattle.types_declared.specs.Package.{Package}
use Rattle.types_declared.specs.Written.{BindsToken}
use Rattle.build_object.specs.declared.source.Mark.{Mark}
use Rattle.build_object.specs.Sources.{IsTrueAt}

-- nothing is known
abbrev pub no_mark : Mark
no_mark = record { global = None; truth = false }

-- a name that is bound to nothing is not the predeclared `true`
pub not_true : (p : Package) (file token : ℕ) → ((d : ℕ) → BindsToken p file token d → ⊥) → (false ≡ true) ↔ IsTrueAt p file token
not_true p file token unbound = (λ t. absurd (false≢true t), λ w. absurd (unbound w.declaration w.binds))
