-- The answers to the goals of `paths::path_of`.
use Rattle.std.proofs.Common.{ℕ, List, subst, map, IfOk, MatchOption}
use Rattle.go_ast.specs.SourceFile.{source_of}
use Rattle.go_scope.specs.Packages.{ScopedPackage}
use Rattle.types_declared.specs.Laid.{laid_in, IsPathOf}
use Rattle.types_declared.proofs.paths.path_of.Goals as goal

pub returns : goal.returns
returns c =
    let files = map source_of c.args.files.now in
    let P : ScopedPackage → Type 0 = λ t. IfOk c.path_among.result (λ path. MatchOption path ((v : List ℕ) → IsPathOf files (laid_in t) c.args.d v → ⊥)
    (λ v. IsPathOf files (laid_in t) c.args.d v.items)) in
    subst P c.identifiers.ensures c.path_among.ensures
