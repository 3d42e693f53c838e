-- What the loop of `may_use::is_any_spelled` keeps.
use Rattle.std.proofs.Common.{ℕ, ◌≡◌, ◌<◌}
use Rattle.std.specs.Prelude.{Contains, map, slice_get}
use Rattle.go_ast.specs.SourceFile.{source_of}
use Rattle.types_expr.specs.declared.found.MemberUse.{MemberUse as FoundUse}
use Rattle.types_declared.specs.Package.{spelled_at}
use Rattle.refs_binding.specs.Members.{uses_or_none}
use Rattle.refs_uses.proofs.may_use.is_any_spelled.Given as goal

-- no use in the files that were passed is spelled so
abbrev pub invariant-loop-file : goal.invariant-loop-file
invariant-loop-file l = (file : ℕ) → file < l.file → (u : FoundUse) → Contains (uses_or_none (slice_get l.members file)) u →
    spelled_at (slice_get (map source_of l.files) file) u.place ≡ l.name → ⊥
