-- The answers to the goals of `changes::changes_in`.
use Rattle.std.proofs.Common.{◌+◌, drop, subst}
use Rattle.std.proofs.lemmas.List.{drop_all}
use Rattle.go_ast.specs.SourceFile.{source_of}
use Rattle.types_expr.proofs.Items.{next_item}
use Rattle.refs_binding.specs.Workspaces.{known_in}
use Rattle.refactor_rename.proofs.Changing.{Changing, changing_first, changing_past, changing_next, changing_last}
use Rattle.refactor_rename.proofs.changes.changes_in.Goals as goal
use Rattle.refactor_rename.proofs.changes.changes_in.Goals.{in-Some+in_ok-add_change, in_default}

pub loop-path-init : goal.loop-path-init
loop-path-init c =
    changing_first c.args.workspace.now.graph (known_in c.args.workspace.now.findings) c.args.renamed.now c.args.paths.now c.in_ok-changed.changed.items
    c.in_ok-changed.ensures.items
    c.requires.order (λ path h. (c.requires.each path).1 h)

pub loop-path-preserved : goal.loop-path-preserved
loop-path-preserved c =
    let w = c.args.workspace.now.graph in
    let known = known_in c.args.workspace.now.findings in
    let r = c.args.renamed.now in
    let old = c.loop-path.changed.items in
    let k = c.loop-path.path-index in
    let path = c.path-item.result in
    let rest = drop (k + 1) c.args.paths.now in
    let left = subst (λ ps. Changing w known r ps old) (next_item c.args.paths.now k path c.loop-path-test.true c.path-item.is) c.loop-path.invariant in
    elim c.match-tree_of.branch [
      | in-Some+in_ok-add_change x ↦ rw x.changed-is (changing_next w known r path rest (source_of x.in-Some.file.now) old x.add_change.new.changed.items
          x.in-Some.ensures.0 x.in-Some.ensures.1 x.in_ok-add_change.ensures left)
      | in_default x ↦ rw x.changed-is (changing_past w known r path rest old x.in_default.ensures left)
    ]

pub returns : goal.returns
returns c =
    changing_last c.args.workspace.now.graph (known_in c.args.workspace.now.findings) c.args.renamed.now
    (drop c.loop-path.path-index c.args.paths.now) c.loop-path.changed.items
    (drop_all c.loop-path.path-index c.args.paths.now c.loop-path-test.false) c.loop-path.invariant
