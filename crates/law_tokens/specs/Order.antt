-- The order of identifiers in the files of a package.
use Rattle.std.specs.Prelude.{ℕ, ◌≡◌, ◌<◌, ◌⊎◌}
use Rattle.go_scope.specs.declared.model.Position.{Position}
use Rattle.go_scope.specs.Bindings.{Layout, IsIdentifier}

-- Position `a` is in an earlier file than `b`, or at an earlier token of the same file.
abbrev pub ComesBefore : Position → Position → Type 0
ComesBefore a b = (a.file < b.file) ⊎ ((a.file ≡ b.file) × (a.index < b.index))

-- Of the first `size` identifiers, those with lesser numbers are at earlier Positions.
abbrev pub StandInOrder : Layout → ℕ → Type 0
StandInOrder l size = (u v : ℕ) → u < v → v < size → IsIdentifier l u → IsIdentifier l v → ComesBefore (l.place u) (l.place v)
