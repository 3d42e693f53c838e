-- Each package is there after a plain rename, and a declaration that counts before and after has become what has its number.
use Rattle.std.proofs.Common.{ℕ, ◌≡◌, List, [], ◌∷◌, refl, sym, ap, subst, ◌∙◌}
use Rattle.std.specs.Prelude.{Contains}
use Rattle.base_lemmas.proofs.Elements.{nothing_in, first_in}
use Rattle.base_files.specs.Packages.{package_files}
use Rattle.base_files.specs.Path.{folder}
use Rattle.base_files.specs.Workspace.{Workspace}
use Rattle.base_files.specs.declared.place.Place.{Place}
use Rattle.base_edits.specs.Revisions.{Revision, PackageMovesTo}
use Rattle.base_edits.specs.RevisionsOfEdits.{revision_of}
use Rattle.go_scope.specs.declared.model.Position.{Position}
use Rattle.go_scope.specs.Bindings.{Layout, Counts}
use Rattle.types_declared.specs.Laid.{literal_of}
use Rattle.types_declared.specs.Package.{Package}
use Rattle.workspace_check.specs.Verdicts.{Verdicts}
use Rattle.workspace_check.proofs.PackageFiles.{in_folder, package_file}
use Rattle.refs_binding.specs.declared.declaration.Declaration.TheVariants.{Declared}
use Rattle.refs_binding.specs.Binding.{IsPredeclaredNumber}
use Rattle.refs_binding.specs.DeclaringPlaces.{TokenAt, IsDeclaredAt}
use Rattle.refs_binding.specs.Uses.{IsCheckedPackage}
use Rattle.refactor_conflict.specs.Corresponding.{stands}
use Rattle.refactor_conflict.specs.ScopedPackages.{IsScopedIn}
use Rattle.refactor_conflict.specs.BoundAfter.{HasBecome}
use Rattle.law_renamed_workspaces.specs.Layouts.{IsRelaid}
use Rattle.law_renamed_workspaces.specs.ScopedPackages.{HasMovedTokens}
use Rattle.law_renamed_workspaces.specs.There.{PackagesAreThere}
use Rattle.law_renamed_workspaces.proofs.MovedTokens.{have_places}
use Rattle.law_renamed_workspaces.proofs.PathsStay.{keeps_path}
use Rattle.law_renamed_workspaces.proofs.ScopedAfter.{scoped_relaid}

-- the first file of a package
pub first_file : (w : Workspace) (path : List ℕ) (e : List ℕ × List ℕ) → Contains (package_files w path) e → (es : List (List ℕ × List ℕ)) →
    package_files w path ≡ es → (first : List ℕ × List ℕ) × ((rest : List (List ℕ × List ℕ)) × (package_files w path ≡ first ∷ rest))
first_file w path e has [] is = absurd (nothing_in e (subst (λ es. Contains es e) is has))
first_file w path e has (first ∷ rest) is = (first, (rest, is))

-- A package moves to its own path where the change leaves each file at its path.
pub stays_there : (w : Workspace) (known : Verdicts) (r : Revision) → ((place : Place) → (r.moved place).path ≡ place.path) → (p : Package) →
    IsCheckedPackage w known p → PackageMovesTo w r p.path p.path
stays_there w known r stays p is =
    let some = package_file w p.path is.of_workspace in
    let first = first_file w p.path some.0 some.1 (package_files w p.path) refl in
    let has : Contains (package_files w p.path) first.0 = subst (λ es. Contains es first.0) (sym first.1.1) (first_in first.0 first.1.0) in
    record {
      first = first.0;
      others = first.1.0;
      files = first.1.1;
      goes = sym (ap folder (stays (record { path = first.0.0; offset = 0 })) ∙ in_folder w p.path first.0 has);
    }

-- A package of the workspace before the change, and that package after it.
module _ (w : Workspace) (known : Verdicts) (r : Revision) (p q : Package) (is : IsCheckedPackage w known p) (scoped : IsScopedIn r.after q)
    (relaid : IsRelaid r p q) (moved : HasMovedTokens r p q) where
  pub becomes_itself : (d : ℕ) → (IsPredeclaredNumber d → ⊥) → Counts p.layout p.names d → Counts q.layout q.names d →
      HasBecome w known r (Declared p.path d) (Declared p.path d)
  becomes_itself d own before after =
      let l = p.layout in
      let place = have_places w known p is d before own in
      let at : Position = l.place (literal_of l d) in
      let token : TokenAt q at (r.moved place.0) = moved.tokens at place.0 place.1 in
      let there : TokenAt q (q.layout.place (literal_of q.layout d)) (r.moved place.0) =
      subst (λ (k : Layout). TokenAt q (k.place (literal_of k d)) (r.moved place.0)) (sym relaid.layout) token in
      let old : IsDeclaredAt (IsCheckedPackage w known) (Declared p.path d) place.0 = record {
        inside = p;
        is_package = is;
        of_path = refl;
        holds = record { at = at; is_at = record { own = own; counts = before; stands = refl }; begins = place.1 };
      } in
      let new : IsDeclaredAt (IsScopedIn r.after) (Declared p.path d) (r.moved place.0) = record {
        inside = q;
        is_package = scoped;
        of_path = relaid.path;
        holds = record { at = q.layout.place (literal_of q.layout d); is_at = record { own = own; counts = after; stands = refl }; begins = there };
      } in
      stands place.0 old new

pub packages_there : PackagesAreThere
packages_there w known d name s h p is =
    let r = revision_of w s in
    let q = scoped_relaid w known d name s h p is in
    let relaid = q.1.1.0 in
    let moved = q.1.1.1 in (
      q.0,
      record {
        is_scoped = q.1.0;
        relaid = relaid;
        goes = subst (λ k. PackageMovesTo w r p.path k) (sym relaid.path) (stays_there w known r (keeps_path w known d name s h.rename) p is);
        begins = moved.names;
        become = becomes_itself w known r p q.0 is q.1.0 relaid moved;
      },
    )
