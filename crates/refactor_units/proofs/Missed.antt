-- What the identifier at a byte is bound to is one declaration, by whichever verdicts are right. A refusal but for want of memory says that
-- it is bound to none.
use Rattle.std.proofs.Common.{ℕ, ◌≡◌, List, refl, sym, subst, ◌∙◌}
use Rattle.std.specs.Prelude.{◌↔◌, Bool, Contains, false, IfNone, IsTrue, None, Option, Some, Ok, Err, slice_get}
use Rattle.std.proofs.lemmas.Bool.{false≢true}
use Rattle.base_files.specs.Packages.{package_paths}
use Rattle.base_files.specs.Path.{folder}
use Rattle.base_files.specs.Workspace.{Workspace}
use Rattle.base_files.specs.declared.refusal.Refusal.{Refusal}
use Rattle.base_files.specs.declared.refusal.Refusal.TheVariants.{Memory, NoIdentifier, NotRenamable}
use Rattle.types_declared.specs.Package.{Package}
use Rattle.workspace_check.specs.Verdicts.{Verdicts, AreVerdicts}
use Rattle.refs_binding.specs.declared.declaration.Declaration.{Declaration}
use Rattle.refs_binding.specs.declared.declaration.Declaration.TheVariants.{Declared}
use Rattle.refs_binding.specs.Uses.{BindsThroughLiteral, HasDeclaration, IsFilePackage}
use Rattle.refs_binding.specs.Workspaces.{FindsDeclaration, FindsDeclarationIn, IsPackageAt}
use Rattle.refs_binding.proofs.Units.{one_package}
use Rattle.refs_lookup.proofs.Asking.{asked, found, refused}
use Rattle.refs_lookup.proofs.Bindings.{held_stays}
use Rattle.refs_lookup.proofs.OneDeclaration.{one_held}
use Rattle.refs_lookup.proofs.OnePlace.{one_asked}
use Rattle.refs_lookup.proofs.Packages.{package_stays}
use Rattle.refactor_units.specs.LocalNames.{IsLocalAt, IsLocalNumber, IsLocalOf}
use Rattle.refactor_units.proofs.PlainRenames.{same_closure}

-- where there is no package
pub not_local : (w : Workspace) (path : List ℕ) (offset : ℕ) → (Contains (package_paths w) (folder path) → ⊥) → IsLocalAt w path offset → ⊥
not_local w path offset none h = none (subst (Contains (package_paths w)) h.is_package.of_folder h.is_package.is_package.of_workspace)

-- an option that has no value
pub none_then : {X P Q : Type 0} (o : Option X) → IfNone o P → (P → Q) → IfNone o Q
none_then None h f = f h
none_then (Some x) h f = tt

module _ (w : Workspace) (known : Verdicts) (right : AreVerdicts w known) (path : List ℕ) (offset : ℕ) where
  here : (k : Verdicts) → AreVerdicts w k → (d : Declaration) → HasDeclaration w k path offset d → HasDeclaration w known path offset d
  here k also d h = held_stays w w k known also right path (same_closure w (folder path)) offset d h

  pub found_is_it : (k : Verdicts) → AreVerdicts w k → (d e : Declaration) → FindsDeclaration w known path offset (Ok d) → HasDeclaration w k path offset e →
      d ≡ e
  found_is_it k also d e f h = one_held w known path offset d e f (here k also e h)

  missed : (r : Refusal) → (r ≡ Memory → ⊥) → FindsDeclaration w known path offset (Err r) → (d : Declaration) → HasDeclaration w known path offset d → ⊥
  missed Memory other f d h = other refl
  missed NoIdentifier other f d h = f h.asked_in h.is_asked h.number h.at
  missed NotRenamable other f d h =
      let same = one_asked w known path offset h.asked_in f.0 h.number f.1.1.0 h.is_asked f.1.0 h.at f.1.1.1.0 in
      let there : BindsThroughLiteral w known f.0 h.number d = subst (λ (x : Package). BindsThroughLiteral w known x h.number d) same.0 h.bound in
      f.1.1.1.1 d (subst (λ v. BindsThroughLiteral w known f.0 v d) same.1 there)
  missed r other f d h = f

  pub none_there : (r : Refusal) → (r ≡ Memory → ⊥) → FindsDeclaration w known path offset (Err r) → (k : Verdicts) → AreVerdicts w k → (d : Declaration) →
      HasDeclaration w k path offset d → ⊥
  none_there r other f k also d h = missed r other f d (here k also d h)

  -- in the package of the file

  module _ (n : ℕ) (p : Package) (is : IsPackageAt w known n p) (at : slice_get (package_paths w) n ≡ Some (folder path)) where
    is_file : IsFilePackage w known path p
    is_file = asked w known n p path is at

    pub local_found : (d : Declaration) (says : Bool) → FindsDeclarationIn w known p path offset (Ok d) → IsTrue says ↔ IsLocalOf p d →
        IsTrue says ↔ IsLocalAt w path offset
    local_found d says f tells = (
      (λ t.
          let l = tells.0 t in
          record {
            known = known;
            right = right;
            declared_in = p;
            is_package = is_file;
            number = l.0;
            is_local = l.2;
            has = subst (HasDeclaration w known path offset) l.1 (found w known path offset p is_file (Ok d) f);
          }),
      (λ h.
          let there = package_stays w w h.known known h.right right h.declared_in (same_closure w h.declared_in.path) h.is_package.is_package in
          let own : h.declared_in ≡ p = one_package w known h.declared_in p there is.is_package (h.is_package.of_folder ∙ sym is_file.of_folder) in
          let same : d ≡ Declared h.declared_in.path h.number =
          found_is_it h.known h.right d (Declared h.declared_in.path h.number) (found w known path offset p is_file (Ok d) f) h.has in
          tells.1 (
            h.number,
            subst (λ (x : Package). d ≡ Declared x.path h.number) own same,
            subst (λ (x : Package). IsLocalNumber x h.number) own h.is_local,
          )),
    )

    pub local_missed : (r : Refusal) → (r ≡ Memory → ⊥) → FindsDeclarationIn w known p path offset (Err r) → IsTrue false ↔ IsLocalAt w path offset
    local_missed r other f = (
      (λ t. absurd (false≢true t)),
      (λ h.
          absurd
          (none_there r other (refused w known path offset p is_file r f) h.known h.right (Declared h.declared_in.path h.number) h.has)),
    )
