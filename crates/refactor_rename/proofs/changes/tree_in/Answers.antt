-- The answers to the goals of `changes::tree_in`.
use Rattle.std.proofs.Common.{List, ℕ, rules}
use Rattle.std.proofs.lemmas.Fn.{always_returns_same}
use Rattle.base_files.specs.Workspace.{path_cmp}
use Rattle.base_files.proofs.WorkspaceLaws.{path_cmp_total, path_cmp_exact}
use Rattle.go_ast.specs.SourceFile.{FileParts}
use Rattle.refactor_rename.proofs.KeySearch.{compared, found_is, none_is}
use Rattle.refactor_rename.proofs.Sources.{path_of}
use Rattle.refactor_rename.proofs.changes.tree_in.Goals as goal

pub returns-in-Ok : goal.returns-in-Ok
returns-in-Ok c =
    found_is FileParts (List ℕ) path_cmp path_cmp_total path_cmp_exact path_of c.args.files.now c.args.path.now c.in-Ok.place c.index-files-place.result
    c.in-Ok.ensures.bound c.index-files-place.is
    (c.in-Ok.ensures.position (compared FileParts (List ℕ) path_cmp path_cmp_total path_cmp_exact path_of c.args.path.now)
    (always_returns_same _ _ _ (λ a r f k. (search rules, search rules))))

pub returns-in-Err : goal.returns-in-Err
returns-in-Err c =
    none_is FileParts (List ℕ) path_cmp path_cmp_total path_cmp_exact path_of c.args.files.now c.args.path.now c.in-Err.field-0 c.requires
    (c.in-Err.ensures.position (compared FileParts (List ℕ) path_cmp path_cmp_total path_cmp_exact path_of c.args.path.now)
    (always_returns_same _ _ _ (λ a r f k. (search rules, search rules))))
