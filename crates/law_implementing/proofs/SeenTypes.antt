-- What a package of a workspace without faults sees of type definitions is a part of what the whole workspace has.
use Rattle.std.proofs.Common.{ℕ, ◌≡◌, ◌⊎◌, inl, inr, List, [], ap, refl, sym, subst, ◌∙◌}
use Rattle.std.specs.Prelude.{Contains, Option, Some, None, slice_get}
use Rattle.std.proofs.lemmas.Bool.{true≢false}
use Rattle.base_files.specs.Packages.{package_paths}
use Rattle.base_files.specs.Workspace.{Workspace}
use Rattle.types_expr.specs.declared.symbol.Symbol.{Symbol}
use Rattle.types_expr.specs.Types.{Interface}
use Rattle.types_expr.specs.World.{Definition}
use Rattle.types_expr.specs.WorldView.{no_definition}
use Rattle.types_declared.proofs.ByteKeys.{cases_bytes}
use Rattle.types_declared.specs.Definitions.{AreDefinitions}
use Rattle.types_declared.specs.Package.{ExportData, Package, PlacedType, package_types, symbol_in}
use Rattle.types_info.proofs.OneWorld.{one_definition}
use Rattle.workspace_check.specs.FaultLists.{ListsFaults}
use Rattle.workspace_check.specs.Verdicts.{Verdicts, AreVerdicts, IsSeenAs, seen, unseen}
use Rattle.workspace_check.proofs.Closed.{to_package}
use Rattle.workspace_check.proofs.OnePackage.{layout_formed}
use Rattle.refs_binding.specs.Uses.{IsCheckedPackage}
use Rattle.refactor_coupled.specs.Implementing.{IsTypeSymbol}
use Rattle.law_renamed_workspaces.specs.Reaching.{ReachesPath}
use Rattle.law_renamed_workspaces.proofs.SeenAfter.{see}
use Rattle.law_renamed_workspaces.proofs.SeenLookups.{all_before, before_by, listed_or_not, nothing_seen}
use Rattle.law_renamed_workspaces.proofs.SeenStructs.{IsHomeUnder, faultless, sees, world_definition, world_home}
use Rattle.law_implementing.proofs.AllDefinitions.{are_before, type_or_not}

module _ (w : Workspace) (sound : ListsFaults w []) (known : Verdicts) (right : AreVerdicts w known) where
  -- of a package of the workspace its export data tell
  by_export_data : (s : Symbol) → Contains (package_paths w) s.package →
      (o : Contains (package_paths w) s.package ⊎ (Contains (package_paths w) s.package → ⊥)) →
      before_by w sound known right s o ≡ (known s.package).export_data.definition s.rank
  by_export_data s has (inl also) = refl
  by_export_data s has (inr none) = absurd (none has)

  module _ (p : Package) (is : IsCheckedPackage w known p) (old : Symbol → Definition) (olds : AreDefinitions p old) where
    own_symbol : (s : Symbol) (y : Package) → y.path ≡ s.package → symbol_in y s.rank ≡ s
    own_symbol s y path = ap (λ (q : List ℕ). record { «package» = q; rank = s.rank }) path

    listed : (s : Symbol) → ReachesPath w p.path s.package → Contains (package_paths w) s.package
    listed s (inl same) = subst (Contains (package_paths w)) (sym same) is.of_workspace
    listed s (inr on) = to_package w p.path s.package on.imported

    -- what is no type definition

    own_nothing : (s : Symbol) → s.package ≡ p.path → (IsTypeSymbol (IsCheckedPackage w known) s → ⊥) → (o : Option PlacedType) →
        slice_get (package_types p) s.rank ≡ o → old s ≡ no_definition s
    own_nothing s same never None at = subst (λ (z : Symbol). old z ≡ no_definition z) (own_symbol s p (sym same)) (olds.beyond s.rank at)
    own_nothing s same never (Some d) at = absurd (never (record {
      inside = p;
      is_package = is;
      rank = s.rank;
      definition = d;
      has_rank = at;
      is_symbol = sym (own_symbol s p (sym same));
    }))

    imported_nothing : (s : Symbol) → (s.package ≡ p.path → ⊥) → ReachesPath w p.path s.package → (IsTypeSymbol (IsCheckedPackage w known) s → ⊥) →
        old s ≡ no_definition s
    imported_nothing s other (inl same) never = absurd (other same)
    imported_nothing s other (inr on) never =
        olds.imported s.package s.rank other ∙ ap (λ (i : ExportData). i.definition s.rank) (sees w sound known right p is s.package on)
        ∙ sym (by_export_data s (to_package w p.path s.package on.imported) (listed_or_not (package_paths w) s.package))
        ∙ (are_before w sound known right).others s never

    nothing : (s : Symbol) → ReachesPath w p.path s.package → (IsTypeSymbol (IsCheckedPackage w known) s → ⊥) → old s ≡ no_definition s
    nothing s reach never = elim (cases_bytes s.package p.path) [
      | inl same ↦ own_nothing s same never (slice_get (package_types p) s.rank) refl
      | inr other ↦ imported_nothing s other reach never
    ]

    of_type : (s : Symbol) → ReachesPath w p.path s.package → (of : IsTypeSymbol (IsCheckedPackage w known) s) → old s ≡ all_before w sound known right s
    of_type s reach of =
        let y = of.inside in
        let path : y.path ≡ s.package = ap (λ (z : Symbol). z.package) (sym of.is_symbol) in
        let there = subst (ReachesPath w p.path) (sym path) reach in
        subst (λ z. old z ≡ all_before w sound known right z) (sym of.is_symbol)
        (one_definition y (layout_formed w known y.path y of.is_package.is_checked) of.rank (old (symbol_in y of.rank))
        (all_before w sound known right (symbol_in y of.rank))
        (world_definition w sound known right p is old olds y of.is_package there of.rank of.definition of.has_rank)
        ((are_before w sound known right).each y of.is_package of.rank of.definition of.has_rank))

    pub agrees : (s : Symbol) → ReachesPath w p.path s.package → old s ≡ all_before w sound known right s
    agrees s reach = elim (type_or_not w sound known right s) [
      | inl of ↦ of_type s reach of
      | inr never ↦ nothing s reach never ∙ sym ((are_before w sound known right).others s never)
    ]

    -- of what is not reached nothing is seen
    pub unreached : (s : Symbol) → (ReachesPath w p.path s.package → ⊥) → old s ≡ no_definition s
    unreached s away =
        let v = see w known p is s.package in
        olds.imported s.package s.rank (λ same. away (inl same))
        ∙ nothing_seen w known p.path s.package v.0 (p.export_data_of s.package) v.1 (λ on. away (inr on)) s.rank

    by_sight : (s : Symbol) (n : Option (List ℕ)) (i : ExportData) → IsSeenAs w known p.path s.package n i → (s.package ≡ p.path → ⊥) →
        ReachesPath w p.path s.package ⊎ (ReachesPath w p.path s.package → ⊥)
    by_sight s _ _ (seen on fine) other = inl (inr on)
    by_sight s _ _ (unseen none) other = inr (λ h. elim h [
      | inl same ↦ other same
      | inr on ↦ true≢false (sym (none on) ∙ faultless w sound known right s.package (to_package w p.path s.package on.imported))
    ])

    pub reached_or_not : (s : Symbol) → ReachesPath w p.path s.package ⊎ (ReachesPath w p.path s.package → ⊥)
    reached_or_not s = elim (cases_bytes s.package p.path) [
      | inl same ↦ inl (inl same)
      | inr other ↦ let v = see w known p is s.package in by_sight s v.0 (p.export_data_of s.package) v.1 other
    ]

    pub under_reached : (s i : Symbol) → ReachesPath w p.path s.package → (old s).underlying ≡ Interface i → ReachesPath w p.path i.package
    under_reached s i reach e = subst (IsHomeUnder w p.path) e (world_home w sound known right p is old olds s reach)
