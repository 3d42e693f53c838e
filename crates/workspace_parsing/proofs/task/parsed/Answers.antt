-- All files are new.
use Rattle.std.proofs.Common.{◌≡◌, List, ap, subst, sym, ◌∙◌}
use Rattle.std.specs.Prelude.{IfOk}
use Rattle.std.specs.FinMap.{get, get-empty}
use Rattle.std.specs.List.{Contains}
use Rattle.base_files.specs.Workspace.{Workspace, path_cmp}
use Rattle.workspace_graph.specs.Borrows.{names}
use Rattle.workspace_parsing.proofs.task.parsed.Goals as goal

pub changed-requires : goal.changed-requires
changed-requires c = λ path go apart.
    ap (λ m. get m path) c.in_ok-copy.ensures
    ∙ c.in_ok-paths.ensures path (λ has. apart (subst (λ l. Contains (names l) path) (sym c.as_slice.ensures.value) has))
    ∙ sym (ap (λ m. get m path) c.in_ok-empty.ensures ∙ get-empty path_cmp path)

pub returns : goal.returns
returns c = subst (λ (w : Workspace). IfOk c.changed.result (λ graph. graph ≡ w)) c.in_ok-copy.ensures c.changed.ensures
