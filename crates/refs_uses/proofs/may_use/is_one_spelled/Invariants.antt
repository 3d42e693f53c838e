-- What the loop of `may_use::is_one_spelled` keeps.
use Rattle.std.proofs.Common.{ℕ, ◌≡◌, ◌<◌}
use Rattle.std.specs.Prelude.{Some, map, slice_get}
use Rattle.go_ast.specs.SourceFile.{source_of}
use Rattle.types_expr.specs.declared.found.MemberUse.{MemberUse as FoundUse}
use Rattle.types_declared.specs.Package.{spelled_at}
use Rattle.refs_uses.proofs.may_use.is_one_spelled.Given as goal

-- none of the uses that were passed is spelled so
abbrev pub invariant-loop-member : goal.invariant-loop-member
invariant-loop-member l = (k : ℕ) → k < l.member-index → (u : FoundUse) → slice_get l.uses k ≡ Some u →
    spelled_at (slice_get (map source_of l.files) l.file) u.place ≡ l.name → ⊥
