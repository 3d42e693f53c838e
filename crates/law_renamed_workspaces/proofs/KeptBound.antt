-- Names behind packages, and names that scopes of other packages bind, stay bound under a rename of a declaration that is not package-level.
use Rattle.std.proofs.Common.{ℕ, ◌≡◌, List, ap, sym, subst, ◌∙◌}
use Rattle.base_files.specs.Workspace.{Workspace}
use Rattle.base_files.specs.declared.place.Place.{Place}
use Rattle.base_edits.specs.EditSet.{FileChanges}
use Rattle.base_edits.specs.Revisions.{Revision, PackageMovesTo}
use Rattle.base_edits.specs.RevisionsOfEdits.{revision_of}
use Rattle.go_scope.specs.declared.model.Block.TheVariants.{Universe}
use Rattle.go_scope.specs.declared.model.Block.TheVariants.{Package as PackageBlock}
use Rattle.types_declared.specs.Package.{Package}
use Rattle.workspace_check.specs.Verdicts.{Verdicts}
use Rattle.refs_binding.specs.declared.declaration.Declaration.{Declaration}
use Rattle.refs_binding.specs.declared.declaration.Declaration.TheVariants.{Predeclared, Declared, Field, Method}
use Rattle.refs_binding.specs.Binding.{BindsByScope, IsPredeclaredNumber}
use Rattle.refs_binding.specs.Identifiers.{BeginsAt}
use Rattle.refs_binding.specs.Uses.{IsCheckedPackage}
use Rattle.refactor_conflict.specs.Corresponding.{predeclared}
use Rattle.refactor_conflict.specs.BoundAfter.{HasBecome}
use Rattle.refactor_conflict.specs.Staying.{StaysByPackage, StaysByScope}
use Rattle.law_renamed_workspaces.proofs.OwnNames.{counted, in_universe}
use Rattle.law_renamed_workspaces.proofs.There.{packages_there}
use Rattle.law_renamed_workspaces.specs.BoundThere.{ArePackagesThere, NamesStayBound}
use Rattle.law_renamed_workspaces.specs.LocalRenames.{IsLocalRename}
use Rattle.law_renamed_workspaces.proofs.KeptExports.{exports_stay}
use Rattle.law_renamed_workspaces.proofs.KeptSelectors.{selectors}
use Rattle.law_renamed_workspaces.proofs.KeptScopes.{others_keep}

module _ (w : Workspace) (known : Verdicts) (p : Package) (n : ℕ) (name : List ℕ) (s : FileChanges) (h : IsLocalRename w known p n name s)
    (there : ArePackagesThere w known (revision_of w s)) (x : Package) (is : IsCheckedPackage w known x) (u : ℕ) (place : Place)
    (begins : BeginsAt x place.path place.offset u) where
  abbrev r : Revision
  r = revision_of w s

  by_package : StaysByPackage w known r x u place
  by_package (Predeclared d) b = absurd b
  by_package (Field f) b = absurd b
  by_package (Method f) b = absurd b
  by_package (Declared path d) b =
      let y = b.other in
      let a = there y b.is_package in
      let q = a.0 in
      let kept = exports_stay w known p n name s h y q b.is_package a.1.relaid in
      let seen = (kept.exports d).1 b.seen in
      let stays = selectors w known p n name s h x is u place begins path b.behind in
      let not_predeclared : IsPredeclaredNumber d → ⊥ =
      (λ lt. let z : Universe ≡ PackageBlock = sym (in_universe w known y.path y b.is_package.is_checked d lt) ∙ b.seen.package_level in cc) in
      record {
        declaration = Declared path d;
        bound = record {
          path = path;
          behind = b.behind;
          exports = record {
            other = q;
            is_package = a.1.is_scoped;
            goes = subst (λ k. PackageMovesTo w r k q.path) b.of_path a.1.goes;
            declaration = d;
            seen = seen;
            named = kept.named d b.seen ∙ b.named ∙ sym stays;
            exported = ap (λ k. Declared k d) (sym b.of_path ∙ sym a.1.relaid.path);
          };
        };
        become =
            subst (λ k. HasBecome w known r (Declared k d) (Declared k d)) b.of_path (a.1.become d not_predeclared b.seen.counts seen.counts);
      }

  module _ (other : x ≡ p → ⊥) where
    by_scope : StaysByScope w known r x u place
    by_scope old b =
        let a = there x is in
        let q = a.0 in
        let kept = others_keep w known p n name s h x q is other a.1.relaid in
        let now : BindsByScope q u old = (kept.bound u old).1 b in
        record {
          declaration = old;
          bound = record { used_in = q; is_package = a.1.is_scoped; user = u; begins = a.1.begins u place begins; bound = now };
          become = becomes old b now;
        }
      where
        becomes : (d : Declaration) → BindsByScope x u d → BindsByScope (there x is).0 u d → HasBecome w known r d d
        becomes (Predeclared d) k now = predeclared
        becomes (Declared path d) k now =
            let a = there x is in
            subst (λ t. HasBecome w known r (Declared t d) (Declared t d)) (sym k.0)
            (a.1.become d k.1 (counted x.layout x.names u d k.2) (counted a.0.layout a.0.names u d now.2))
        becomes (Field f) k now = absurd k
        becomes (Method f) k now = absurd k

pub names_bound_there : (w : Workspace) (known : Verdicts) (p : Package) (n : ℕ) (name : List ℕ) (s : FileChanges) → IsLocalRename w known p n name s →
    ArePackagesThere w known (revision_of w s) → (x : Package) → IsCheckedPackage w known x → (u : ℕ) (place : Place) → BeginsAt x place.path place.offset u →
    StaysByPackage w known (revision_of w s) x u place × ((x ≡ p → ⊥) → StaysByScope w known (revision_of w s) x u place)
names_bound_there w known p n name s h there x is u place begins =
    (by_package w known p n name s h there x is u place begins, by_scope w known p n name s h there x is u place begins)

pub names_bound : NamesStayBound
names_bound w known p n name s h = names_bound_there w known p n name s h (packages_there w known (Declared p.path n) name s h.rename)
