-- The object of the package in the view, and that of its path in the other state.
use Rattle.std.proofs.Common.{◌≡◌, ℕ, List, None, Some, slice_get, sym, subst, ◌∙◌}
use Rattle.std.proofs.lemmas.Bool.{false≢true}
use Rattle.std.proofs.lemmas.Option.{same_Some}
use Rattle.base_files.specs.Packages.{package_paths}
use Rattle.base_files.specs.Workspace.{Workspace}
use Rattle.history_objects.specs.ComparedObjects.{FindsObjectAt, FindsObjectIn, HasNoObjectIn, HasObjectNow}
use Rattle.history_machine.specs.declared.view.View.{View}
use Rattle.history_objects.proofs.OneObject.{differs, differs_from_none, equals, found_of, only_number}
use Rattle.history_objects.proofs.comparing.change_at.Goals as goal

-- what is found at a number is the object of the package there
here : (view : View) (n : ℕ) (p text : List ℕ) → slice_get (package_paths view.snapshot.files) n ≡ Some p → FindsObjectAt view.finished n (Some text) →
    HasObjectNow view p text
here view n p text at found = (found_of (package_paths view.snapshot.files) view.finished p n (only_number view.snapshot.files n p at) (Some text) found).0

pub returns-in_default : goal.returns-in_default
returns-in_default c = λ p at.
    let view = c.args.view.now in
    found_of (package_paths view.snapshot.files) view.finished p c.args.number (only_number view.snapshot.files c.args.number p at) None c.in_default.ensures

pub returns-in-None : goal.returns-in-None
returns-in-None c = λ p at.
    let view = c.args.view.now in
    let before = c.args.before.now in
    let text = c.in-Some.text.now in
    let now = here view c.args.number p text at c.in-Some.ensures in
    let there = subst (λ (w : Workspace). slice_get (package_paths w) c.args.number ≡ Some c.package.result.now.path.items) c.files.ensures
    c.package.ensures.path in
    let path : c.deref.result.now ≡ p = c.deref.ensures.value ∙ same_Some c.package.result.now.path.items p (sym there ∙ at) in
    differs_from_none before view p text now (subst (HasNoObjectIn before.packages before.finished) path c.in-None.ensures)

pub returns-then-is_same_text : goal.returns-then-is_same_text
returns-then-is_same_text c = λ p at.
    let view = c.args.view.now in
    let before = c.args.before.now in
    let text = c.in-Some.text.now in
    let old = c.in-Some-object_of.old.now in
    let now = here view c.args.number p text at c.in-Some.ensures in
    let there = subst (λ (w : Workspace). slice_get (package_paths w) c.args.number ≡ Some c.package.result.now.path.items) c.files.ensures
    c.package.ensures.path in
    let path : c.deref.result.now ≡ p = c.deref.ensures.value ∙ same_Some c.package.result.now.path.items p (sym there ∙ at) in
    equals before view p text now old (subst (λ (q : List ℕ). FindsObjectIn before.packages before.finished q (Some old)) path c.in-Some-object_of.ensures)
    (c.is_same_text.ensures.0 c.if-is_same_text.true)

pub returns-else-is_same_text : goal.returns-else-is_same_text
returns-else-is_same_text c = λ p at.
    let view = c.args.view.now in
    let before = c.args.before.now in
    let text = c.in-Some.text.now in
    let old = c.in-Some-object_of.old.now in
    let now = here view c.args.number p text at c.in-Some.ensures in
    let there = subst (λ (w : Workspace). slice_get (package_paths w) c.args.number ≡ Some c.package.result.now.path.items) c.files.ensures
    c.package.ensures.path in
    let path : c.deref.result.now ≡ p = c.deref.ensures.value ∙ same_Some c.package.result.now.path.items p (sym there ∙ at) in
    differs before view p text now old (subst (λ (q : List ℕ). FindsObjectIn before.packages before.finished q (Some old)) path c.in-Some-object_of.ensures)
    (λ same. false≢true (sym c.if-is_same_text.false ∙ c.is_same_text.ensures.1 same))
