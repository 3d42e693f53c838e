-- The answers to the goals of `broken::note_results`.
use Rattle.std.proofs.Common.{sym, subst, [], ◌∷◌}
use Rattle.std.specs.Prelude.{OnOk}
use Rattle.std.proofs.lemmas.Result.{on_ok_weaker}
use Rattle.go_ast.specs.View.{type_view}
use Rattle.go_ast.specs.FileView.{results_view}
use Rattle.types_declared.specs.PackageView.{package_of}
use Rattle.types_declared.specs.Written.{result_types}
use Rattle.types_declared.specs.Broken.{AddsLinks, IsTarget, IsTargetOfSome}
use Rattle.types_declared.proofs.Mentioning.{type_list, adds_as, adds_nothing, no_target, some_one, one_some}
use Rattle.types_declared.proofs.broken.note_results.Goals as goal

pub returns-in-None : goal.returns-in-None
unfolding results_view
returns-in-None c =
    let p = package_of c.args.pkg in
    let file = c.args.at.file in
    adds_nothing c.args.links.now.items c.args.at.rank (IsTargetOfSome p file (result_types (results_view c.args.results.now)))
    (λ a h. no_target p file a (subst (λ r. IsTargetOfSome p file (result_types (results_view r)) a) c.in-None.is h))

pub returns-in-Single : goal.returns-in-Single
unfolding results_view
returns-in-Single c =
    let p = package_of c.args.pkg in
    let file = c.args.at.file in
    let t = type_view c.in-Single.written in
    subst (λ r. OnOk c.note_type.result (AddsLinks c.args.links.now.items c.note_type.new.links.items c.args.at.rank
    (IsTargetOfSome p file (result_types (results_view r))))) (sym c.in-Single.is)
    (on_ok_weaker c.note_type.result
    (λ h. adds_as c.args.links.now.items c.note_type.new.links.items c.args.at.rank (IsTarget p file t) (IsTargetOfSome p file (t ∷ [])) (one_some p file t)
    (some_one p file t) h) c.note_type.ensures)

pub returns-in-Several : goal.returns-in-Several
unfolding results_view
returns-in-Several c =
    let p = package_of c.args.pkg in
    let file = c.args.at.file in
    subst (λ r. OnOk c.note_types.result (AddsLinks c.args.links.now.items c.note_types.new.links.items c.args.at.rank
    (IsTargetOfSome p file (result_types (results_view r))))) (sym c.in-Several.is)
    (subst (λ ts. OnOk c.note_types.result (AddsLinks c.args.links.now.items c.note_types.new.links.items c.args.at.rank
    (IsTargetOfSome p file (type_list ts)))) c.deref.ensures.value c.note_types.ensures)
