-- The package of that number has the path.
use Rattle.std.proofs.Common.{◌≡◌, Some, slice_get, ap, sym, ◌∙◌}
use Rattle.std.specs.Cmp.Lexicographic.{bytes_decides}
use Rattle.std.proofs.lemmas.Option.{slice_get-get_or}
use Rattle.workspace_graph.proofs.Filled.{path_at}
use Rattle.workspace_graph.proofs.shared_package.is_at.Goals as goal

pub returns-then-number-packages : goal.returns-then-number-packages
returns-then-number-packages c = λ t.
    let ps = c.args.packages.now in
    let n = c.args.number in
    let p = c.index-packages-number.result in
    let at : slice_get ps n ≡ Some p = slice_get-get_or ps n p c.if-number-packages.true ∙ ap Some (sym c.index-packages-number.is) in
    path_at ps n p at ∙ ap Some (sym c.path.ensures ∙ (bytes_decides _ _).0 (sym c.eq.ensures ∙ t))
