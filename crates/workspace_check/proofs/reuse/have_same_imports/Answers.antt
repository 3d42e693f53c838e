-- The answers to the goals of `reuse::have_same_imports`.
use Rattle.workspace_check.proofs.SameImports.{by_links}
use Rattle.workspace_check.proofs.reuse.have_same_imports.Goals as goal

pub returns-then-have_same_paths : goal.returns-then-have_same_paths
returns-then-have_same_paths c = λ t.
    by_links c.args.before.now c.args.after.now c.links.result.now c.links-then-have_same_paths.result.now
    (c.have_same_paths.ensures c.if-have_same_paths.true) c.links.ensures.links c.links-then-have_same_paths.ensures.links (c.have_same_links.ensures t)
