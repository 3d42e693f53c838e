-- The verdict of before, exactly where there is one and the closure stays.
use Rattle.std.proofs.Common.{◌≡◌, Some, slice_get, sym, ap, subst, ◌∙◌}
use Rattle.std.proofs.lemmas.Bool.{false≢true}
use Rattle.std.proofs.lemmas.Option.{none-some, same_Some}
use Rattle.base_files.specs.Packages.{package_paths}
use Rattle.workspace_graph.proofs.ByPath.{at_contains}
use Rattle.workspace_check.specs.KnownFindings.{IsKnownVerdict}
use Rattle.workspace_check.proofs.Local.{told_there}
use Rattle.build_carry.proofs.TakenVerdicts.{kept_at}
use Rattle.build_carry.proofs.carried_verdicts.kept_verdict.Goals as goal

pub returns-in_default-clause-right : goal.returns-in_default-clause-right
returns-in_default-clause-right c = λ p at one is. absurd (none-some one is)

pub returns-in_default-clause-kept : goal.returns-in_default-clause-kept
returns-in_default-clause-kept c = λ p at none has.
    let path : c.deref.result.now ≡ p = c.deref.ensures.value ∙ same_Some _ _ (sym c.package.ensures.path ∙ at) in
    c.in_default.ensures (at_contains c.args.before.now has.number c.deref.result.now (has.of_path ∙ ap Some (sym path)))

pub returns-in_default-get-clause-right : goal.returns-in_default-get-clause-right
returns-in_default-get-clause-right c = λ p at one is. absurd (none-some one is)

pub returns-in_default-get-clause-kept : goal.returns-in_default-get-clause-kept
returns-in_default-get-clause-kept c = λ p at none has.
    let path : c.deref.result.now ≡ p = c.deref.ensures.value ∙ same_Some _ _ (sym c.package.ensures.path ∙ at) in
    let one = kept_at c.args.before.now c.args.known.now c.args.after.now p c.in-Some.old (c.in-Some.ensures ∙ ap Some path) has in
    c.in_default-get.ensures one.0 one.1

pub returns-then-not-keeps_closure-clause-right : goal.returns-then-not-keeps_closure-clause-right
returns-then-not-keeps_closure-clause-right c = λ p at one is. absurd (none-some one is)

pub returns-then-not-keeps_closure-clause-kept : goal.returns-then-not-keeps_closure-clause-kept
returns-then-not-keeps_closure-clause-kept c = λ p at none has.
    let v = c.args.before.now in
    let path : c.deref.result.now ≡ p = c.deref.ensures.value ∙ same_Some _ _ (sym c.package.ensures.path ∙ at) in
    let before : slice_get (package_paths v) c.in-Some.old ≡ Some p = c.in-Some.ensures ∙ ap Some path in
    let kept = c.keeps_closure.ensures v c.args.after.now c.requires.before_marks c.requires.after_marks p before at in
    false≢true (sym c.if-not-keeps_closure.true ∙ kept.1 has.same)

pub returns-clause-right : goal.returns-clause-right
returns-clause-right c = λ p at one is.
    let v = c.args.before.now in
    let old = c.in-Some.old in
    let path : c.deref.result.now ≡ p = c.deref.ensures.value ∙ same_Some _ _ (sym c.package.ensures.path ∙ at) in
    let before : slice_get (package_paths v) old ≡ Some p = c.in-Some.ensures ∙ ap Some path in
    let told = c.requires.known old p c.in-Some-get.verdict.now before c.in-Some-get.ensures in
    let tells = subst (IsKnownVerdict v p) (sym c.in_ok-verdict.ensures.cases ∙ same_Some c.in_ok-verdict.verdict one is) told in
    let kept = c.keeps_closure.ensures v c.args.after.now c.requires.before_marks c.requires.after_marks p before at in
    told_there v c.args.after.now p one (at_contains v old p before) (kept.0 c.if-not-keeps_closure.false) tells

pub returns-clause-kept : goal.returns-clause-kept
returns-clause-kept c = λ p at none has. none-some c.in_ok-verdict.verdict (sym none)
