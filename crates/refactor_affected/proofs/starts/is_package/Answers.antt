-- The package that was found has this path.
use Rattle.std.proofs.Common.{◌≡◌, ◌++◌, ℕ, List, Bool, Some, ap, sym, subst, ◌∙◌}
use Rattle.std.specs.Prelude.{◌↔◌, Contains, IsTrue, MatchOption, slice_get}
use Rattle.base_files.specs.Packages.{package_paths}
use Rattle.refactor_affected.proofs.Starting.{package_found}
use Rattle.refactor_affected.proofs.starts.is_package.Goals as goal

pub returns : goal.returns
returns c =
    let w = c.args.graph.now in
    let path = c.args.folder.now ++ c.args.rest.now in
    let is : c.deref.result.now ≡ path = c.deref.ensures.value ∙ c.in_ok-extend_from_slice.ensures.items ∙ ap (λ l. l ++ c.args.rest.now)
    c.in_ok-path.ensures.items in
    let told = subst (λ (q : List ℕ). MatchOption c.number_of.result (Contains (package_paths w) q → ⊥) (λ n. slice_get (package_paths w) n ≡ Some q)) is
    c.number_of.ensures in
    subst (λ (b : Bool). IsTrue b ↔ Contains (package_paths w) path) (sym c.is_some.ensures) (package_found w path c.number_of.result told)
