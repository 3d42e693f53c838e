-- What is bound to an import of a package: identifiers of the package, by its scopes.
use Rattle.std.proofs.Common.{ℕ, ◌≡◌, ◌<◌, refl, sym, ◌∙◌, subst}
use Rattle.base_files.specs.Workspace.{Workspace}
use Rattle.base_files.specs.declared.place.Place.{Place}
use Rattle.go_scope.specs.declared.model.Block.TheVariants.{File, Universe}
use Rattle.go_scope.specs.declared.model.Block.TheVariants.{Package as PackageBlock}
use Rattle.go_scope.specs.Bindings.{Counts, IsBoundTo, IsImport, IsPackageLevel, own as own_bound, start_of, use_bound}
use Rattle.go_scope.specs.Scopes.{Holds, scope_for}
use Rattle.types_declared.specs.Laid.{literal_of}
use Rattle.types_declared.specs.Package.{Package}
use Rattle.workspace_check.specs.Verdicts.{Verdicts}
use Rattle.refs_binding.specs.declared.declaration.Declaration.TheVariants.{Declared}
use Rattle.refs_binding.specs.Binding.{Binds, IsPredeclaredNumber, by_member, by_name, by_package, by_scope}
use Rattle.refs_binding.specs.DeclaringPlaces.{HasDeclarationAt, IsDeclaredAt, TokenAt}
use Rattle.refs_binding.specs.Identifiers.{BeginsAt, IsInFiles}
use Rattle.refs_binding.specs.Uses.{IsCheckedPackage, IsUseOf}
use Rattle.refs_binding.proofs.Units.{one_package}
use Rattle.law_renamed_workspaces.proofs.OwnNames.{bound_within, counted, identifies, in_universe, member_is_none}
use Rattle.law_renamed_workspaces.proofs.MovedTokens.{have_places}

module _ (w : Workspace) (known : Verdicts) (p : Package) (is : IsCheckedPackage w known p) (n : ℕ) (import : IsImport p.layout n) where
  abbrev Known : Package → Type 0
  Known = IsCheckedPackage w known

  -- the import is in no other block

  pub no_level : IsPackageLevel p.layout n → ⊥
  no_level level = let z : PackageBlock ≡ File import.0 = sym level ∙ import.1 in cc

  pub not_predeclared : IsPredeclaredNumber n → ⊥
  not_predeclared less = let z : Universe ≡ File import.0 = sym (in_universe w known p.path p is.is_checked n less) ∙ import.1 in cc

  -- An identifier of the package that its scopes bind to the import begins at the place.
  pub record IsUsedAt (place : Place) : Type 0 where
    pub user : ℕ
    pub begins : BeginsAt p place.path place.offset user
    pub bound : IsBoundTo p.layout p.names user n

  pub used_at : (place : Place) → IsUseOf w known (Declared p.path n) place → IsUsedAt place
  used_at place h = by_way h.bound
    where
      by_way : Binds Known h.used_in h.user (Declared p.path n) → IsUsedAt place
      by_way (by_scope b) =
          let same : h.used_in ≡ p = one_package w known h.used_in p h.is_package is (sym b.0) in
          record {
            user = h.user;
            begins = subst (λ (z : Package). BeginsAt z place.path place.offset h.user) same h.begins;
            bound = subst (λ (z : Package). IsBoundTo z.layout z.names h.user n) same b.2;
          }
      by_way (by_package b) =
          let same : b.other ≡ p = one_package w known b.other p b.is_package is b.of_path in
          absurd (no_level (subst (λ (z : Package). IsPackageLevel z.layout n) same b.seen.package_level))
      by_way (by_member b) = absurd (member_is_none b.member p.path n b.declares)
      by_way (by_name b) = absurd b

  pub use_of : (place : Place) → IsUsedAt place → IsUseOf w known (Declared p.path n) place
  use_of place u = record {
    used_in = p;
    is_package = is;
    user = u.user;
    begins = u.begins;
    bound = by_scope (refl, not_predeclared, u.bound);
  }

  -- so it stands in the file of the import
  pub in_file : (p.layout.place n).file ≡ import.0 → (u : ℕ) → IsBoundTo p.layout p.names u n → (p.layout.place u).file ≡ (p.layout.place n).file
  in_file own u (use_bound used x) = subst (λ b. Holds (scope_for b (start_of (p.layout.role n))) (p.layout.place u)) import.1 x.in_scope ∙ sym own
  in_file own u (own_bound same c) = λ m. (p.layout.place (same m)).file

  -- the declaration

  pub counts : (place : Place) → IsUsedAt place → Counts p.layout p.names n
  counts place u = counted p.layout p.names u.user n u.bound

  module _ (c : Counts p.layout p.names n) where
    pub within : n < p.size
    within = bound_within w known p.path p is.is_checked n n (own_bound refl c)

    pub stands : IsInFiles p n
    stands = (within, identifies w known p.path p is.is_checked n not_predeclared)

    pub declared_in : (place : Place) → TokenAt p (p.layout.place (literal_of p.layout n)) place → HasDeclarationAt p (Declared p.path n) place
    declared_in place token = record {
      at = p.layout.place (literal_of p.layout n);
      is_at = record { own = not_predeclared; counts = c; stands = refl };
      begins = token;
    }

    -- it has a place
    pub declared : (place : Place) × (TokenAt p (p.layout.place (literal_of p.layout n)) place × IsDeclaredAt Known (Declared p.path n) place)
    declared =
        let x = have_places w known p is n c not_predeclared in
        (x.0, (x.1, record { inside = p; is_package = is; of_path = refl; holds = declared_in x.0 x.1 }))
