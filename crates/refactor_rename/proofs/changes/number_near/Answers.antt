-- The answers to the goals of `changes::number_near`.
use Rattle.std.proofs.Common.{◌<◌, ap, sym, subst, ◌∙◌}
use Rattle.std.specs.Prelude.{Some}
use Rattle.std.specs.Cmp.Lexicographic.{bytes_decides}
use Rattle.base_files.specs.Packages.{package_paths}
use Rattle.types_info.proofs.MeaningLists.{slice_get_some}
use Rattle.refactor_rename.proofs.changes.number_near.Goals as goal

pub returns-then-eq : goal.returns-then-eq
returns-then-eq c =
    let x = slice_get_some (package_paths c.args.workspace.now.graph) c.args.near
    (subst (λ n. c.args.near < n) c.len.ensures c.if-near-len.true) in
    x.1 ∙ ap Some (sym (c.path_of.ensures x.0 x.1) ∙ sym c.path.ensures ∙
    (bytes_decides c.path.result.now c.args.path.now).0 (sym c.eq.ensures ∙ c.if-eq.true))
