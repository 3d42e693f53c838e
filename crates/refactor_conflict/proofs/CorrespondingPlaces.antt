-- The places of declarations after a change, and which declarations have become which.
use Rattle.std.proofs.Common.{ℕ, ◌≡◌, ◌<◌, sym, subst, ◌∙◌}
use Rattle.std.specs.Prelude.{◌↔◌}
use Rattle.std.proofs.lemmas.Bool.{false≢true}
use Rattle.refs_binding.specs.declared.declaration.Declaration.{Declaration}
use Rattle.refs_binding.specs.declared.declaration.Declaration.TheVariants.{Predeclared, Declared, Field, Method}

-- A declaration of a package is not predeclared.
abbrev pub IsNotPredeclared : Declaration → Type 0
IsNotPredeclared (Predeclared n) = ⊥
IsNotPredeclared (Declared path n) = Unit {0}
IsNotPredeclared (Field s) = Unit {0}
IsNotPredeclared (Method s) = Unit {0}

pub not_predeclared : (e d : Declaration) → e ≡ d → IsNotPredeclared d → (n : ℕ) → e ≡ Predeclared n → ⊥
not_predeclared e d is other n so = subst IsNotPredeclared (sym is ∙ so) other
