-- A field or method that an identifier at a byte is bound to is declared by a name, which is a use of it. A declaration of scopes counts.
use Rattle.std.proofs.Common.{ℕ, ◌≡◌, List, sym, subst, ◌∙◌}
use Rattle.std.specs.Prelude.{[]}
use Rattle.base_files.specs.Workspace.{Workspace}
use Rattle.base_files.specs.declared.place.Place.{Place}
use Rattle.go_scope.specs.declared.model.Block.TheVariants.{Universe}
use Rattle.go_scope.specs.declared.model.Block.TheVariants.{Package as PackageBlock}
use Rattle.go_scope.specs.Bindings.{Counts, IsPackageLevel}
use Rattle.types_declared.specs.Package.{Package}
use Rattle.workspace_check.specs.FaultLists.{ListsFaults}
use Rattle.workspace_check.specs.Verdicts.{Verdicts, AreVerdicts}
use Rattle.refs_binding.specs.declared.declaration.Declaration.{Declaration}
use Rattle.refs_binding.specs.declared.declaration.Declaration.TheVariants.{Predeclared, Declared, Field, Method}
use Rattle.refs_binding.specs.Binding.{BindsByMember, IsPredeclaredNumber, by_scope, by_package, by_member, by_name}
use Rattle.refs_binding.specs.Uses.{IsCheckedPackage, IsBoundToDeclaration, BindsThroughLiteral, IsUseOf, HasDeclaration}
use Rattle.refs_binding.proofs.Units.{one_package}
use Rattle.law_renamed_workspaces.specs.NamesAfterwards.{IsMember}
use Rattle.law_renamed_workspaces.proofs.OwnNames.{counted, in_universe, member_is_none}
use Rattle.law_renamed_workspaces.proofs.NamedMembers.{members_named}
use Rattle.law_agreement.proofs.UsedMembers.{used_declared}
use Rattle.refactor_plan.specs.Decided.{CountsInScopes}

module _ (w : Workspace) (sound : ListsFaults w []) (known : Verdicts) (right : AreVerdicts w known) where
  abbrev Used : Declaration → Type 0
  Used d = (place : Place) × IsUseOf w known d place

  module _ (p : Package) (is : IsCheckedPackage w known p) (u : ℕ) where
    selected : (d : Declaration) → BindsByMember p u d → Used d
    selected d b =
        let h = used_declared w sound known right p is u d b in
        (h.place, record { used_in = h.inside; is_package = h.is_package; user = h.user; begins = h.begins; bound = by_name h.declares })

    of_bound : (d : Declaration) → IsMember d → IsBoundToDeclaration w known p u d → Used d
    of_bound (Predeclared n) member b = absurd member
    of_bound (Declared path n) member b = absurd member
    of_bound (Field s) member (by_scope b) = absurd b
    of_bound (Field s) member (by_package b) = absurd b
    of_bound (Field s) member (by_member b) = selected (Field s) b
    of_bound (Field s) member (by_name b) =
        let h = (members_named w known p is).fields s.rank b.1.is_at.counts in
        (h.place, record { used_in = p; is_package = is; user = h.user; begins = h.begins; bound = by_name (b.0, h.named) })
    of_bound (Method s) member (by_scope b) = absurd b
    of_bound (Method s) member (by_package b) = absurd b
    of_bound (Method s) member (by_member b) = selected (Method s) b
    of_bound (Method s) member (by_name b) =
        let h = (members_named w known p is).methods s.rank b.1.is_at.counts in
        (h.place, record { used_in = p; is_package = is; user = h.user; begins = h.begins; bound = by_name (b.0, h.named) })

  -- a declaration of scopes to which an identifier is bound counts

  level_own : (p : Package) → IsCheckedPackage w known p → (n : ℕ) → IsPackageLevel p.layout n → IsPredeclaredNumber n → ⊥
  level_own p is n level lt =
      let z : Universe ≡ PackageBlock = sym (in_universe w known p.path p is.is_checked n lt) ∙ level in cc

  counting_bound : (p : Package) (n : ℕ) → IsCheckedPackage w known p → (x : Package) → IsCheckedPackage w known x → (u : ℕ) →
      IsBoundToDeclaration w known x u (Declared p.path n) → CountsInScopes p n
  counting_bound p n is x also u (by_scope b) =
      let one : x ≡ p = one_package w known x p also is (sym b.0) in
      record { own = b.1; counts = subst (λ (y : Package). Counts y.layout y.names n) one (counted x.layout x.names u n b.2) }
  counting_bound p n is x also u (by_package b) =
      let one : b.other ≡ p = one_package w known b.other p b.is_package is b.of_path in
      let level : IsPackageLevel p.layout n = subst (λ (y : Package). IsPackageLevel y.layout n) one b.seen.package_level in
      record { own = level_own p is n level; counts = subst (λ (y : Package). Counts y.layout y.names n) one b.seen.counts }
  counting_bound p n is x also u (by_member b) = absurd (member_is_none b.member p.path n b.declares)
  counting_bound p n is x also u (by_name b) = absurd b

  pub declared_counts : (path : List ℕ) (offset : ℕ) (d : Declaration) → HasDeclaration w known path offset d → (p : Package) (n : ℕ) →
      IsCheckedPackage w known p → d ≡ Declared p.path n → CountsInScopes p n
  declared_counts path offset d h p n is same =
      counting_bound p n is h.asked_in h.is_asked.is_package _ (subst (BindsThroughLiteral w known h.asked_in h.number) same h.bound)

  pub member_used : (path : List ℕ) (offset : ℕ) (d : Declaration) → HasDeclaration w known path offset d → IsMember d → Used d
  member_used path offset d h member = of_bound h.asked_in h.is_asked.is_package _ d member h.bound
