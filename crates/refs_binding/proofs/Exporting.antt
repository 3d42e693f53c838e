-- Names that other packages export, and what is bound in all packages.
use Rattle.std.proofs.Common.{ℕ, ◌≡◌, ◌<◌, inl, inr, List, length, ap, sym, subst, ◌∙◌}
use Rattle.std.specs.Prelude.{Option, Some, None, Contains}
use Rattle.base_files.specs.Packages.{package_paths}
use Rattle.base_files.specs.Workspace.{Workspace}
use Rattle.base_files.specs.declared.place.Place.{Place}
use Rattle.types_declared.specs.Package.{Package}
use Rattle.types_check.specs.Exports.{DoesExport}
use Rattle.workspace_check.specs.Verdicts.{Verdicts}
use Rattle.refs_binding.specs.declared.declaration.Declaration.{Declaration}
use Rattle.refs_binding.specs.declared.declaration.Declaration.TheVariants.{Predeclared, Declared, Field, Method}
use Rattle.refs_binding.specs.declared.place_key.PlaceKey.{PlaceKey}
use Rattle.types_info.specs.QualifiedIdentifiers.{IsQualifiedByPath}
use Rattle.refs_binding.specs.Binding.{Binds, BindsByScope, BindsQualified, BindsByMember, DeclaresMember}
use Rattle.refs_binding.specs.Binding as binding
use Rattle.refs_binding.specs.Steps as step
use Rattle.refs_binding.specs.Steps.{AddsPlaces, UsesIn, BindsIn, QualifiesAs, IsExportedBy, IsDeclarationResult}
use Rattle.refs_binding.specs.Uses.{IsCheckedPackage, IsBoundToDeclaration, IsUseOf}
use Rattle.refs_binding.specs.Workspaces.{IsPackageAt, ExportsAs, IsExportedUnder, IsUseAt, BindsMember}
use Rattle.refs_binding.proofs.Adding.{Below, adds_as}
use Rattle.refs_binding.proofs.Units.{one_package, one_at, numbered, number_within}

module _ (w : Workspace) (known : Verdicts) where
  -- behind the name of a declaration's package, by the name under which it is exported

  to_package : (p : Package) (d : Declaration) (name : Option (List ℕ)) → IsExportedUnder w known d name → (u : ℕ) → QualifiesAs p d name u →
      BindsQualified (IsCheckedPackage w known) p u d
  to_package p d None is u h = absurd h
  to_package p (Predeclared n) (Some name) is u h = absurd h
  to_package p (Declared path n) (Some name) is u h =
      record { behind = h.0; other = is.0; is_package = is.1.0; of_path = is.1.1.0; seen = is.1.1.1.0; named = is.1.1.1.1 ∙ sym h.1 }
  to_package p (Field s) (Some name) is u h = absurd h
  to_package p (Method s) (Some name) is u h = absurd h

  from_package : (p : Package) (d : Declaration) (name : Option (List ℕ)) → IsExportedUnder w known d name → (u : ℕ) →
      BindsQualified (IsCheckedPackage w known) p u d → QualifiesAs p d name u
  from_package p (Predeclared n) name is u h = absurd h
  from_package p (Declared path n) None is u h = is h.other h.is_package h.of_path h.seen
  from_package p (Declared path n) (Some name) is u h =
      let same : h.other ≡ is.0 = one_package w known h.other is.0 h.is_package is.1.0 (h.of_path ∙ sym is.1.1.0) in
      (h.behind, sym h.named ∙ ap (λ (q : Package). q.names n) same ∙ is.1.1.1.1)
  from_package p (Field s) name is u h = absurd h
  from_package p (Method s) name is u h = absurd h

  to_bound : (p : Package) (d : Declaration) (name : Option (List ℕ)) → IsExportedUnder w known d name → (u : ℕ) → BindsIn p d name u →
      IsBoundToDeclaration w known p u d
  to_bound p d name is u (step.by_scope h) = binding.by_scope h
  to_bound p d name is u (step.by_package h) = binding.by_package (to_package p d name is u h)
  to_bound p d name is u (step.by_member h) = binding.by_member h
  to_bound p d name is u (step.by_name h) = binding.by_name h

  from_bound : (p : Package) (d : Declaration) (name : Option (List ℕ)) → IsExportedUnder w known d name → (u : ℕ) → IsBoundToDeclaration w known p u d →
      BindsIn p d name u
  from_bound p d name is u (binding.by_scope h) = step.by_scope h
  from_bound p d name is u (binding.by_package h) = step.by_package (from_package p d name is u h)
  from_bound p d name is u (binding.by_member h) = step.by_member h
  from_bound p d name is u (binding.by_name h) = step.by_name h

  -- what is found in all packages is what is used
  pub all_uses : (d : Declaration) (name : Option (List ℕ)) → IsExportedUnder w known d name → (n : ℕ) (a b : List PlaceKey) → n ≡ length (package_paths w) →
      AddsPlaces a b (Below (IsUseAt w known d name) n) →
      AddsPlaces a b (IsUseOf w known d)
  all_uses d name is n a b e h =
      adds_as a b (Below (IsUseAt w known d name) n) (IsUseOf w known d)
      (λ place q. let x = q.2 in
      record {
        used_in = x.used_in;
        is_package = x.is_package.is_package;
        user = x.is_use.0;
        begins = x.is_use.1.0;
        bound =
            to_bound x.used_in d name is x.is_use.0 x.is_use.1.1;
      })
      (λ place q. let k = numbered w known q.used_in q.is_package in (
        k.0,
        subst (λ m. k.0 < m) (sym e) (number_within w known k.0 q.used_in k.1),
        record { used_in = q.used_in; is_package = k.1; is_use = (q.user, (q.begins, from_bound q.used_in d name is q.user q.bound)) },
      )) h

  -- what a package exports under a name

  pub number_exported : (path name : List ℕ) (p : Package) → IsCheckedPackage w known p → p.path ≡ path → (d : ℕ) → DoesExport p d → p.names d ≡ name →
      (other : List ℕ) → other ≡ path → ExportsAs w known path name (Declared other d)
  number_exported path name p is e d seen named other same = (same, (p, (is, (e, (seen, named)))))

  pub none_exported : (path name : List ℕ) (p : Package) → IsCheckedPackage w known p → p.path ≡ path → ((d : ℕ) → DoesExport p d → p.names d ≡ name → ⊥) →
      (d : Declaration) → ExportsAs w known path name d → ⊥
  none_exported path name p is e none (Predeclared n) h = h
  none_exported path name p is e none (Declared other d) h =
      let same : h.1.0 ≡ p = one_package w known h.1.0 p h.1.1.0 is (h.1.1.1.0 ∙ sym e) in
      none d (subst (λ (q : Package). DoesExport q d) same h.1.1.1.1.0) (ap (λ (q : Package). q.names d) (sym same) ∙ h.1.1.1.1.1)
  none_exported path name p is e none (Field s) h = h
  none_exported path name p is e none (Method s) h = h

  pub no_package : (path name : List ℕ) → (Contains (package_paths w) path → ⊥) → (d : Declaration) → ExportsAs w known path name d → ⊥
  no_package path name none (Predeclared n) h = h
  no_package path name none (Declared other d) h = none (subst (Contains (package_paths w)) h.1.1.1.0 h.1.1.0.of_workspace)
  no_package path name none (Field s) h = h
  no_package path name none (Method s) h = h

  -- the name under which a declaration is exported
  pub name_exported : (path : List ℕ) (d : ℕ) (p : Package) → IsCheckedPackage w known p → p.path ≡ path → (name : Option (List ℕ)) → IsExportedBy p d name →
      IsExportedUnder w known (Declared path d) name
  name_exported path d p is e None none = λ q is_q e_q seen. none (subst (λ (x : Package). DoesExport x d) (one_package w known q p is_q is (e_q ∙ sym e)) seen)
  name_exported path d p is e (Some name) h = (p, (is, (e, h)))

  -- what an identifier behind the name of a package is bound to

  pub by_path : (p : Package) (u : ℕ) (path : List ℕ) → IsQualifiedByPath p u path → ((other : List ℕ) → IsQualifiedByPath p u other → other ≡ path) →
      (o : Option Declaration) →
      IsDeclarationResult (ExportsAs w known path (p.names u)) o → IsDeclarationResult (BindsQualified (IsCheckedPackage w known) p u) o
  by_path p u path behind only None h = none
    where
      none : (d : Declaration) → BindsQualified (IsCheckedPackage w known) p u d → ⊥
      none (Predeclared n) k = k
      none (Declared other n) k =
          let e : other ≡ path = only other k.behind in
          h (Declared other n) (e, (k.other, (k.is_package, (k.of_path ∙ e, (k.seen, k.named)))))
      none (Field s) k = k
      none (Method s) k = k
  by_path p u path behind only (Some (Predeclared n)) h = h
  by_path p u path behind only (Some (Declared other n)) h =
      record {
        behind = subst (IsQualifiedByPath p u) (sym h.0) behind;
        other = h.1.0;
        is_package = h.1.1.0;
        of_path = h.1.1.1.0 ∙ sym h.0;
        seen =
            h.1.1.1.1.0;
        named = h.1.1.1.1.1;
      }
  by_path p u path behind only (Some (Field s)) h = h
  by_path p u path behind only (Some (Method s)) h = h

  pub behind_none : (p : Package) (u : ℕ) → ((path : List ℕ) → IsQualifiedByPath p u path → ⊥) → (d : Declaration) →
      BindsQualified (IsCheckedPackage w known) p u d → ⊥
  behind_none p u none (Predeclared n) k = k
  behind_none p u none (Declared other n) k = none other k.behind
  behind_none p u none (Field s) k = k
  behind_none p u none (Method s) k = k

-- all kinds

pub bound_to_none : (P : Package → Type 0) (p : Package) (u : ℕ) → ((d : Declaration) → BindsByScope p u d → ⊥) →
    ((d : Declaration) → BindsQualified P p u d → ⊥) → ((d : Declaration) → BindsMember p u d → ⊥) →
    (d : Declaration) → Binds P p u d → ⊥
bound_to_none P p u a b c d (binding.by_scope h) = a d h
bound_to_none P p u a b c d (binding.by_package h) = b d h
bound_to_none P p u a b c d (binding.by_member h) = c d (inl h)
bound_to_none P p u a b c d (binding.by_name h) = c d (inr h)

pub bound_as_member : (P : Package → Type 0) (p : Package) (u : ℕ) (d : Declaration) → BindsMember p u d → Binds P p u d
bound_as_member P p u d (inl h) = binding.by_member h
bound_as_member P p u d (inr h) = binding.by_name h

-- what is used in the package of a number is used in that package
pub use_from : (w : Workspace) (known : Verdicts) (d : Declaration) (name : Option (List ℕ)) (n : ℕ) (p : Package) → IsPackageAt w known n p →
    (place : Place) → IsUseAt w known d name n place →
    UsesIn p (BindsIn p d name) place
use_from w known d name n p is place q = subst (λ (x : Package). UsesIn x (BindsIn x d name) place) (one_at w known n q.used_in p q.is_package is) q.is_use

pub named_or_none : (p : Package) (u : ℕ) → ((d : Declaration) → BindsByMember p u d → ⊥) → (o : Option Declaration) →
    IsDeclarationResult (DeclaresMember p u) o → IsDeclarationResult (BindsMember p u) o
named_or_none p u none None h = λ d k. elim k [ inl m ↦ none d m | inr n ↦ h d n ]
named_or_none p u none (Some d) h = inr h

pub last_kind : (P : Package → Type 0) (p : Package) (u : ℕ) → ((d : Declaration) → BindsByScope p u d → ⊥) →
    ((d : Declaration) → BindsQualified P p u d → ⊥) → (o : Option Declaration) →
    IsDeclarationResult (BindsMember p u) o → IsDeclarationResult (Binds P p u) o
last_kind P p u a b None h = bound_to_none P p u a b h
last_kind P p u a b (Some d) h = bound_as_member P p u d h
