-- What is at the paths is set, and nothing else differs.
use Rattle.std.proofs.Common.{◌≡◌, sym, subst}
use Rattle.std.proofs.lemmas.Result.{IfOk-weaker}
use Rattle.base_files.specs.Workspace.{Workspace}
use Rattle.workspace_graph.specs.Drafts.{packages_of}
use Rattle.workspace_graph.specs.Borrows.{names}
use Rattle.workspace_graph.specs.ChangedFiles.{CoverChanges, ArePackages}
use Rattle.workspace_graph.specs.SameGoFiles.{DiffersOnlyAt}
use Rattle.workspace_graph.proofs.SetFiles.{fresh_made}
use Rattle.workspace_graph.proofs.drafts.packages_with.Goals as goal

pub returns : goal.returns
returns c =
    let w = c.args.known.files.now in
    let before = c.args.known.before.now in
    let folders = names c.in_ok-folders.folders.keys in
    let paths = names c.args.paths.now in
    let drafts = c.in_ok-drafts.drafts.items in
    let made = c.set_all.new.drafts.items in
    IfOk-weaker c.shared.result (λ packages. packages.items ≡ packages_of made)
    (λ packages. (v : Workspace) → ArePackages v before → DiffersOnlyAt paths v w → CoverChanges v w packages.items)
    (λ packages is v are differs. subst (CoverChanges v w) (sym is)
    (fresh_made v w before folders paths drafts made are c.in_ok-drafts.ensures c.in_ok-set_all.ensures c.in_ok-folders.ensures differs)) c.shared.ensures
