-- The type definitions that the program has of a workspace without faults are those of its packages.
use Rattle.std.proofs.Common.{ℕ, ◌≡◌, ◌⊎◌, inl, inr, ap, sym, subst, refl, ◌∙◌}
use Rattle.std.specs.Prelude.{Option, Some, None, slice_get}
use Rattle.std.proofs.lemmas.Option.{same_Some, slice_get_within}
use Rattle.base_files.specs.Packages.{package_paths}
use Rattle.workspace_graph.proofs.ByPath.{number}
use Rattle.types_expr.specs.declared.symbol.Symbol.{Symbol}
use Rattle.types_expr.specs.World.{Definition}
use Rattle.types_expr.specs.WorldView.{no_definition}
use Rattle.types_declared.specs.Package.{Package, ExportData, PlacedType, package_types, symbol_in}
use Rattle.workspace_check.proofs.Members.{cases_contains}
use Rattle.refs_binding.specs.Uses.{IsCheckedPackage}
use Rattle.refs_binding.specs.WorkspaceFindings.{WorkspaceFindings}
use Rattle.refs_binding.specs.Workspaces.{IsFaultless, IsPackageAt, known_in}
use Rattle.refs_binding.proofs.Units.{export_data_at, numbered, package_there}
use Rattle.refactor_coupled.specs.Implementing.{AreAllDefinitions, IsTypeSymbol}
use Rattle.refactor_coupled.specs.RenamedTypesView.{definitions_in, types_of}

module _ (w : WorkspaceFindings) (sound : IsFaultless w.graph w.findings) where
  abbrev IsPackage : Package → Type 0
  IsPackage = IsCheckedPackage w.graph (known_in w.findings)

  abbrev types : Symbol → Definition
  types = definitions_in (types_of w)

  by_rank : (s : Symbol) (p : Package) (n : ℕ) → IsPackageAt w.graph (known_in w.findings) n p → p.path ≡ s.package → (o : Option PlacedType) →
      slice_get (package_types p) s.rank ≡ o → IsTypeSymbol IsPackage s ⊎ (types s ≡ no_definition s)
  by_rank s p n is path None at =
      let exported = export_data_at w.graph w.findings sound n p is in
      let own : symbol_in p s.rank ≡ s = ap (λ q. record { «package» = q; rank = s.rank }) path in
      inr (subst (λ t. types t ≡ no_definition t) own (exported.beyond s.rank at))
  by_rank s p n is path (Some d) at = inl (record {
    inside = p;
    is_package = is.is_package;
    rank = s.rank;
    definition = d;
    has_rank = at;
    is_symbol = ap (λ q. record { «package» = q; rank = s.rank }) (sym path);
  })

  -- a symbol is that of a type definition, or has none
  pub type_or_none : (s : Symbol) → IsTypeSymbol IsPackage s ⊎ (types s ≡ no_definition s)
  type_or_none s = elim (cases_contains (package_paths w.graph) s.package) [
    | inl has ↦
        let n = number w.graph s.package has in
        let there = package_there w.graph w.findings sound n.0 (slice_get_within (package_paths w.graph) n.0 s.package n.1) in
        let path : there.0.path ≡ s.package = same_Some there.0.path s.package (sym there.1.has_number ∙ n.1) in
        by_rank s there.0 n.0 there.1 path (slice_get (package_types there.0) s.rank) refl
    | inr none ↦ inr (ap (λ (i : ExportData). i.definition s.rank) (sound.findings.whole s.package (sound.findings.outside s.package none)))
  ]

  pub all_definitions : AreAllDefinitions IsPackage types
  all_definitions = record {
    each = λ p is rank d at.
        let n = numbered w.graph (known_in w.findings) p is in
        let exported = export_data_at w.graph w.findings sound n.0 p n.1 in
        exported.definitions rank d at;
    others = λ s none. elim (type_or_none s) [ inl is ↦ absurd (none is) | inr same ↦ same ];
  }
