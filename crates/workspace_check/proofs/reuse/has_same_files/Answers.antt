-- The answers to the goals of `reuse::has_same_files`.
use Rattle.std.proofs.Common.{map, sym, ap, subst, ◌∙◌}
use Rattle.base_files.specs.Packages.{package_files}
use Rattle.workspace_graph.specs.Parsed.{AreParsed}
use Rattle.workspace_check.specs.Earlier.{tree_file}
use Rattle.workspace_check.proofs.Members.{vec_empty}
use Rattle.workspace_check.proofs.SameImports.{same_files}
use Rattle.workspace_check.proofs.reuse.has_same_files.Goals as goal

pub returns : goal.returns
returns c = λ t v w n a b.
    let before = c.args.before.now in
    let after = c.args.after.now in
    let trees = ap (map tree_file) (sym c.deref.ensures.value) ∙ c.are_same_trees.ensures t ∙ ap (map tree_file) c.deref-2.ensures.value in
    same_files
    (subst (λ fs. AreParsed (package_files v before.path.items) before.trees.items fs)
    (vec_empty before.faulty c.is_empty.result c.is_empty.ensures c.if-not-is_empty.false) a.files)
    (subst (λ fs. AreParsed (package_files w after.path.items) after.trees.items fs)
    (vec_empty after.faulty c.is_empty-2.result c.is_empty-2.ensures c.if-not-is_empty-2.false) b.files)
    trees
