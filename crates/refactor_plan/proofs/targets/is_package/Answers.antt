-- The answers to the goals of `targets::is_package`.
use Rattle.std.proofs.Common.{ℕ, ◌≡◌, Bool, List, Option, Some, None, refl, sym, subst, ◌∙◌}
use Rattle.std.specs.Prelude.{◌↔◌, IsTrue, Contains, MatchOption, slice_get}
use Rattle.std.specs.Option.{is_some}
use Rattle.std.proofs.lemmas.Bool.{false≢true}
use Rattle.base_files.specs.Packages.{package_paths}
use Rattle.base_files.specs.Workspace.{Workspace}
use Rattle.workspace_graph.proofs.ByPath.{at_contains}
use Rattle.refactor_plan.proofs.targets.is_package.Goals as goal

packaged : (w : Workspace) (path : List ℕ) (o : Option ℕ) →
    MatchOption o (Contains (package_paths w) path → ⊥) (λ n. slice_get (package_paths w) n ≡ Some path) →
    IsTrue (is_some o) ↔ Contains (package_paths w) path
packaged w path None h = ((λ t. absurd (false≢true t)), (λ has. absurd (h has)))
packaged w path (Some n) h = ((λ t. at_contains w n path h), (λ has. refl))

pub returns : goal.returns
returns c =
    let w = c.args.graph.now in
    let path = c.args.path.now in
    let bytes : c.as_bytes.result.now ≡ path = c.as_bytes.ensures.value ∙ c.as_str.ensures.text in
    let told = subst (λ (q : List ℕ). MatchOption c.number_of.result (Contains (package_paths w) q → ⊥) (λ n. slice_get (package_paths w) n ≡ Some q)) bytes
    c.number_of.ensures in
    subst (λ (b : Bool). IsTrue b ↔ Contains (package_paths w) path) (sym c.is_some.ensures) (packaged w path c.number_of.result told)
