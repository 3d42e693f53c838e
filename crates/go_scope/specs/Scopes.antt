-- Positions, blocks and scopes of one package.
use Rattle.std.specs.Prelude.{ℕ, ◌≡◌, ◌<◌, ◌≤◌}
use Rattle.go_scope.specs.declared.model.Position.{Position}
use Rattle.go_scope.specs.declared.model.Block.{Block}
use Rattle.go_scope.specs.declared.model.Block.TheVariants.{Universe, Package, File, Inner}
use Rattle.go_scope.specs.declared.model.Scope.{Scope}
use Rattle.go_scope.specs.declared.model.Scope.TheVariants.{Everywhere, WholePackage, WholeFile, Interval}

-- the scope of a declaration in a block: the whole block, or in an inner block from the token `start` to its end
abbrev pub scope_for : Block → ℕ → Scope
scope_for Universe start = Everywhere
scope_for Package start = WholePackage
scope_for (File file) start = WholeFile file
scope_for (Inner file from to) start = Interval file start to

-- the position is in the scope
abbrev pub Holds : Scope → Position → Type 0
Holds Everywhere place = Unit {0}
Holds WholePackage place = Unit {0}
Holds (WholeFile file) place = place.file ≡ file
Holds (Interval file from to) place = (place.file ≡ file) × (from ≤ place.index) × (place.index < to)

-- the first scope lies inside the second
abbrev pub IsInside : Scope → Scope → Type 0
IsInside s Everywhere = Unit {0}
IsInside Everywhere WholePackage = ⊥
IsInside Everywhere (WholeFile g) = ⊥
IsInside Everywhere (Interval g c d) = ⊥
IsInside WholePackage WholePackage = Unit {0}
IsInside WholePackage (WholeFile g) = ⊥
IsInside WholePackage (Interval g c d) = ⊥
IsInside (WholeFile f) WholePackage = Unit {0}
IsInside (WholeFile f) (WholeFile g) = f ≡ g
IsInside (WholeFile f) (Interval g c d) = ⊥
IsInside (Interval f a b) WholePackage = Unit {0}
IsInside (Interval f a b) (WholeFile g) = f ≡ g
IsInside (Interval f a b) (Interval g c d) = (f ≡ g) × (c ≤ a) × (b ≤ d)

-- The first block lies in the second. The package block counts as inside of each file block, as an import gives way to a package-level
-- declaration.
abbrev pub Nests : Block → Block → Type 0
Nests (Inner f a b) (Inner g c d) = (f ≡ g) × (c < a) × (b ≤ d)
Nests (Inner f a b) Package = Unit {0}
Nests (Inner f a b) (File g) = f ≡ g
Nests (Inner f a b) Universe = Unit {0}
Nests Package (Inner g c d) = ⊥
Nests Package Package = ⊥
Nests Package (File g) = Unit {0}
Nests Package Universe = Unit {0}
Nests (File f) (Inner g c d) = ⊥
Nests (File f) Package = ⊥
Nests (File f) (File g) = ⊥
Nests (File f) Universe = Unit {0}
Nests Universe b = ⊥
