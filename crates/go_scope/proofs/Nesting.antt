-- Scopes nest.
use Rattle.std.proofs.Common.{ℕ, ◌<◌, ◌⊎◌, arith}
use Rattle.go_scope.specs.declared.model.Block.{Block}
use Rattle.go_scope.specs.declared.model.Block.TheVariants.{Universe, Package, File, Inner}
use Rattle.go_scope.specs.Scopes.{IsInside}
use Rattle.go_scope.specs.Bindings.{Layout, MayDeclare, IsLeftName, SameBlock, InScope, IsPackageLevel, IsImport, block_of, scope_of}
use Rattle.go_scope.specs.Scopes.{Nests}

pub nests_not : (b : Block) → Nests b b → ⊥
nests_not Universe n = n
nests_not Package n = n
nests_not (File f) n = n
nests_not (Inner f a b) n = omega arith

abbrev pub NestsAt : Layout → ℕ → ℕ → Type 0
NestsAt l d e = Nests (block_of (l.role d)) (block_of (l.role e))

-- the properties of a layout that the law needs
pub record Nested (l : Layout) : Type 0 where
  pub size : ℕ
  pub finite : (a : ℕ) → MayDeclare l a → a < size
  pub comparable : (a b u : ℕ) → MayDeclare l a → MayDeclare l b → InScope l a u → InScope l b u → SameBlock l a b ⊎ (NestsAt l a b ⊎ NestsAt l b a)
  pub transitive : (a b c u : ℕ) → MayDeclare l a → MayDeclare l b → MayDeclare l c → NestsAt l a b → NestsAt l b c → InScope l a u → InScope l b u →
      InScope l c u → NestsAt l a c
  pub shrinking : (a b u : ℕ) → MayDeclare l a → MayDeclare l b → SameBlock l a b → a < b → InScope l b u → InScope l a u
  pub direct : (x z : ℕ) → IsLeftName l x → MayDeclare l z → InScope l z x → SameBlock l z x ⊎ NestsAt l x z
  pub earlier : (a x : ℕ) → MayDeclare l a → IsLeftName l x → SameBlock l a x → InScope l a x → a < x
  pub left_inner : (x : ℕ) → IsLeftName l x → IsImport l x → ⊥
  pub package_holds : (a u : ℕ) → IsPackageLevel l a → InScope l a u
  pub inside_nests : (a b u : ℕ) → MayDeclare l a → MayDeclare l b → InScope l a u → InScope l b u →
      IsInside (scope_of (l.role a)) (scope_of (l.role b)) → SameBlock l a b ⊎ (NestsAt l a b ⊎ (IsPackageLevel l b × IsImport l a))
  pub nests_inside : (a b u : ℕ) → MayDeclare l a → MayDeclare l b → InScope l a u → InScope l b u → NestsAt l a b →
      IsInside (scope_of (l.role a)) (scope_of (l.role b)) ⊎ (IsPackageLevel l a × IsImport l b)
