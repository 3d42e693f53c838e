-- The unit of the package before, where it is kept.
use Rattle.std.proofs.Common.{◌≡◌, Some, slice_get, sym, ap, subst, ◌∙◌}
use Rattle.std.proofs.lemmas.Bool.{false≢true}
use Rattle.std.proofs.lemmas.Option.{same_Some}
use Rattle.base_files.specs.Packages.{package_paths}
use Rattle.workspace_check.specs.Closures.{HasSameClosure}
use Rattle.build_unit.specs.declared.unit.Unit.{Unit as PackageUnit}
use Rattle.build_carry.proofs.Carrying.{unfinished_before, not_same, keeps_some}
use Rattle.build_carry.proofs.carried.kept_unit.Goals as goal

pub returns-in_default-get : goal.returns-in_default-get
returns-in_default-get c = λ p at.
    let is : c.deref.result.now ≡ p = c.deref.ensures.value ∙ same_Some _ _ (sym c.package.ensures.path ∙ at) in
    let before : slice_get (package_paths c.args.before.now) c.in-Some.old ≡ Some p = c.in-Some.ensures ∙ ap Some is in
    unfinished_before c.args.before.now c.args.finished.now c.args.after.now p c.in-Some.old before c.in_default-get.ensures

pub returns-then-not-keeps_closure : goal.returns-then-not-keeps_closure
returns-then-not-keeps_closure c = λ p at.
    let is : c.deref.result.now ≡ p = c.deref.ensures.value ∙ same_Some _ _ (sym c.package.ensures.path ∙ at) in
    let before : slice_get (package_paths c.args.before.now) c.in-Some.old ≡ Some p = c.in-Some.ensures ∙ ap Some is in
    let kept = c.keeps_closure.ensures c.args.before.now c.args.after.now c.requires.before_marks c.requires.after_marks p before at in
    not_same c.args.before.now c.args.finished.now c.args.after.now p c.in-Some.old before
    (λ same. false≢true (sym c.if-not-keeps_closure.true ∙ kept.1 (same p before)))

pub returns : goal.returns
returns c = λ p at.
    let is : c.deref.result.now ≡ p = c.deref.ensures.value ∙ same_Some _ _ (sym c.package.ensures.path ∙ at) in
    let before : slice_get (package_paths c.args.before.now) c.in-Some.old ≡ Some p = c.in-Some.ensures ∙ ap Some is in
    let unit : c.in_ok-unit.unit ≡ c.in-Some-get.unit.now = c.in_ok-unit.ensures.cases in
    let there : slice_get c.args.finished.now c.in-Some.old ≡ Some (Some c.in_ok-unit.unit) = c.in-Some-get.ensures ∙
    ap (λ (u : PackageUnit). Some (Some u)) (sym unit) in
    keeps_some c.args.before.now c.args.finished.now c.args.after.now p c.in-Some.old before c.in_ok-unit.unit there
    (λ q there. subst (HasSameClosure c.args.before.now c.args.after.now) (same_Some p q (sym before ∙ there))
    ((c.keeps_closure.ensures c.args.before.now c.args.after.now c.requires.before_marks c.requires.after_marks p before at).0 c.if-not-keeps_closure.false))
