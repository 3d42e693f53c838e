-- The definitions that a package sees are those of packages of the workspace.
use Rattle.std.proofs.Common.{◌≡◌, ◌⊎◌, inl, inr, ℕ, ◌==◌, List, Option, Some, None, ap, sym, subst, refl, ◌∙◌}
use Rattle.std.specs.Prelude.{Contains, slice_get}
use Rattle.std.specs.Cmp.Lexicographic.{pointwise, bytes_decides}
use Rattle.std.proofs.lemmas.Bool.{cases_Bool, true≢false}
use Rattle.base_files.specs.Packages.{package_paths}
use Rattle.base_files.specs.Workspace.{Workspace}
use Rattle.types_expr.specs.declared.symbol.Symbol.{Symbol}
use Rattle.types_expr.specs.World.{Definition}
use Rattle.types_expr.specs.WorldView.{no_definition}
use Rattle.types_declared.specs.Definitions.{IsDefinition, AreDefinitions}
use Rattle.types_declared.specs.Package.{Package, ExportData, PlacedType, package_types, symbol_in}
use Rattle.workspace_check.specs.Verdicts.{Verdicts, AreVerdicts, IsSeenAs, seen, unseen, IsPackageIn}
use Rattle.workspace_check.proofs.Closed.{to_package}
use Rattle.workspace_check.proofs.OneVerdict.{right_below, verdict_by}
use Rattle.refs_binding.specs.Uses.{IsCheckedPackage}

-- `d` is the type definition of this symbol, in the package of the symbol's path.
pub record IsDefinedIn (w : Workspace) (known : Verdicts) (s : Symbol) (d : Definition) : Type 0 where
  pub inside : Package
  pub is_package : IsCheckedPackage w known inside
  pub of_path : inside.path ≡ s.package
  pub is_definition : IsDefinition inside s.rank d

-- So it is, or nothing is seen of the symbol.
abbrev pub IsSeenOrNone : Workspace → Verdicts → Symbol → Definition → Type 0
IsSeenOrNone w known s d = IsDefinedIn w known s d ⊎ (d ≡ no_definition s)

module _ (w : Workspace) (known : Verdicts) (right : AreVerdicts w known) (p : Package) (is : IsCheckedPackage w known p) (definitions : Symbol → Definition)
    (are : AreDefinitions p definitions) where
  own : (rank : ℕ) (o : Option PlacedType) → slice_get (package_types p) rank ≡ o →
      IsSeenOrNone w known (symbol_in p rank) (definitions (symbol_in p rank))
  own rank None at = inr (are.beyond rank at)
  own rank (Some d) at = inl (record { inside = p; is_package = is; of_path = refl; is_definition = are.own rank d at })

  exported : (c : Package) → IsCheckedPackage w known c → (s : Symbol) → c.path ≡ s.package → (i : ExportData) →
      ((d : PlacedType) → slice_get (package_types c) s.rank ≡ Some d → IsDefinition c s.rank (i.definition s.rank)) →
      (slice_get (package_types c) s.rank ≡ None → i.definition s.rank ≡ no_definition (symbol_in c s.rank)) →
      (o : Option PlacedType) → slice_get (package_types c) s.rank ≡ o → IsSeenOrNone w known s (i.definition s.rank)
  exported c also s path i own_one beyond None at =
      inr (beyond at ∙ ap (λ (q : List ℕ). no_definition (record { «package» = q; rank = s.rank })) path)
  exported c also s path i own_one beyond (Some d) at = inl (record { inside = c; is_package = also; of_path = path; is_definition = own_one d at })

  by_sight : (s : Symbol) (n : Option (List ℕ)) (i : ExportData) → IsSeenAs w known p.path s.package n i → IsSeenOrNone w known s (i.definition s.rank)
  by_sight s _ _ (seen on sees) =
      let q = s.package in
      let has = to_package w p.path q on.imported in
      let x = (verdict_by w q known (known q) (right_below w known right q) (right q has)).has_export_data sees in
      let path : x.checked.path ≡ q = ap (λ (c : Package). c.path) x.is_package.is_package.is_package in
      let also : IsCheckedPackage w known x.checked = record {
        of_workspace = subst (Contains (package_paths w)) (sym path) has;
        is_checked = subst (λ k. IsPackageIn w known k x.checked) (sym path) x.is_package;
      } in
      exported x.checked also s path (known q).export_data (x.is_export_data.definitions s.rank) (x.is_export_data.beyond s.rank)
      (slice_get (package_types x.checked) s.rank) refl
  by_sight s _ _ (unseen none) = inr refl

  -- what the package sees of a path
  sees : (q : List ℕ) → (n : Option (List ℕ)) × IsSeenAs w known p.path q n (p.export_data_of q)
  sees q =
      let h = is.is_checked in
      let table : h.export_data_of q ≡ p.export_data_of q = ap (λ (c : Package). c.export_data_of q) (sym h.is_package.is_package) in
      (h.name_of q, subst (IsSeenAs w known p.path q (h.name_of q)) table (h.are_seen q))

  pub definition_at : (s : Symbol) → IsSeenOrNone w known s (definitions s)
  definition_at s = elim (cases_Bool (pointwise ◌==◌ s.package p.path)) [
    | inl same ↦
        (let at : symbol_in p s.rank ≡ s =
        ap (λ q. record { «package» = q; rank = s.rank }) (sym ((bytes_decides s.package p.path).0 same)) in
        subst (λ t. IsSeenOrNone w known t (definitions t)) at (own s.rank (slice_get (package_types p) s.rank) refl))
    | inr other ↦
        (let away : s.package ≡ p.path → ⊥ = λ x. true≢false (sym ((bytes_decides s.package p.path).1 x) ∙ other) in
        let v = sees s.package in
        subst (IsSeenOrNone w known s) (sym (are.imported s.package s.rank away)) (by_sight s v.0 (p.export_data_of s.package) v.1))
  ]
