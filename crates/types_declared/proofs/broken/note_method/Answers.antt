-- The answers to the goals of `broken::note_method`.
use Rattle.std.proofs.Common.{refl, subst}
use Rattle.std.proofs.lemmas.Result.{on_ok_weaker}
use Rattle.go_ast.specs.FileView.{method_view, results_view}
use Rattle.types_declared.specs.PackageView.{package_of}
use Rattle.types_declared.specs.Written.{result_types}
use Rattle.types_declared.specs.Broken.{AddsLinks, IsTargetOfSome}
use Rattle.types_declared.proofs.Mentioning.{param_list, method_types, adds_then, some_joined, some_parted}
use Rattle.types_declared.proofs.broken.note_method.Goals as goal

pub returns : goal.returns
unfolding method_view
returns c =
    let p = package_of c.args.pkg in
    let file = c.args.at.file in
    let m = c.args.method.now in
    let old = c.args.links.now.items in
    let mid = c.note_params.new.links.items in
    let ps = param_list m.params.items in
    let rs = result_types (results_view m.results) in
    on_ok_weaker c.note_results.result
    (λ h. adds_then old mid c.note_results.new.links.items c.args.at.rank (IsTargetOfSome p file ps) (IsTargetOfSome p file rs)
    (IsTargetOfSome p file (method_types m))
    (subst (λ xs. AddsLinks old mid c.args.at.rank (IsTargetOfSome p file (param_list xs))) c.deref.ensures.value c.in_ok-note_params.ensures) h
    (λ a. some_joined p file ps rs (method_types m) a refl) (λ a. some_parted p file ps rs (method_types m) a refl)) c.note_results.ensures
