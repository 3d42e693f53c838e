-- The invariants of the loops of `concerned::has_name`.
use Rattle.std.proofs.Common.{ℕ, ◌≡◌, ◌<◌}
use Rattle.std.specs.Prelude.{Some, map, slice_get}
use Rattle.go_ast.specs.SourceFile.{source_of, spelling_of}
use Rattle.types_expr.specs.Found.{use_of}
use Rattle.types_expr.specs.Judge.{MemberUse}
use Rattle.refactor_members.proofs.concerned.has_name.Given as goal

-- no use that was passed has the name
abbrev pub invariant-loop-k : goal.invariant-loop-k
invariant-loop-k l = (k : ℕ) (x : MemberUse) → k < l.k → slice_get (map use_of l.uses) k ≡ Some x → spelling_of (source_of l.file) x.place ≡ l.name → ⊥
