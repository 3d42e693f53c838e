-- The tree replaces one that imports the same paths.
use Rattle.std.proofs.Common.{refl}
use Rattle.std.specs.Arc.{arc_value}
use Rattle.workspace_graph.proofs.RenewedImports.{alike_put, some_weaker}
use Rattle.workspace_graph.proofs.drafts.put_alike.Goals as goal

pub returns : goal.returns
returns c =
    let old = c.args.draft.now.package.trees.items in
    let new = c.put_tree.new.trees.items in
    record {
      path = refl;
      trees = c.in_ok-gone.ensures.put;
      faulty = refl;
      imports = some_weaker c.args.draft.now.imports (λ paths held.
          alike_put (arc_value paths).keys old new c.in_ok-gone.gone c.args.tree held c.in_ok-gone.ensures.put c.in_ok-gone.ensures.gone c.requires.alike)
          c.requires.imports;
    }
