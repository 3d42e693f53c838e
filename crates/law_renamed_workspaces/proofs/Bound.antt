-- Bound identifiers: none is `_`, and which declaration one of the package's block is bound to.
use Rattle.std.proofs.Common.{ℕ, ◌≡◌, ◌<◌, inl, inr, [], ◌∷◌, Some, map, ap, sym, subst, ◌∙◌}
use Rattle.std.specs.Prelude.{slice_get}
use Rattle.std.proofs.lemmas.Bool.{true≢false}
use Rattle.base_files.specs.Workspace.{Workspace}
use Rattle.go_scanner.specs.CutText.{tokens_in}
use Rattle.go_ast.specs.SourceFile.{SourceFile, spelling_of}
use Rattle.go_scope.specs.declared.model.Block.TheVariants.{Universe}
use Rattle.go_scope.specs.declared.model.Block.TheVariants.{Package as PackageBlock}
use Rattle.go_scope.specs.declared.model.Purpose.TheVariants as purpose
use Rattle.go_scope.specs.declared.model.Role.TheVariants.{Declaring, NotLexical}
use Rattle.go_scope.specs.Bindings.{Layout, Names, Counts, IsBoundTo as IsBoundByScope, use_bound, own, IsPackageLevel, block_of, is_use, is_left_name}
use Rattle.go_scope.specs.FileSites.{universe, files_sites, package_sites}
use Rattle.go_scope.specs.SpelledFiles.{spelled_file}
use Rattle.law_tokens.proofs.Lexical.{never_bound}
use Rattle.types_declared.specs.Package.{Package}
use Rattle.workspace_check.specs.FaultLists.{ListsFaults}
use Rattle.workspace_check.specs.Verdicts.{Verdicts, AreVerdicts}
use Rattle.refs_binding.specs.declared.declaration.Declaration.{Declaration}
use Rattle.refs_binding.specs.declared.declaration.Declaration.TheVariants.{Predeclared, Declared, Field, Method}
use Rattle.refs_binding.specs.Binding.{IsPredeclaredNumber, BindsByScope, by_scope, by_package, by_member, by_name}
use Rattle.refs_binding.specs.Identifiers.{IsInFiles, IsNameToken}
use Rattle.refs_binding.specs.Uses.{IsCheckedPackage, IsBoundToDeclaration}
use Rattle.refs_binding.proofs.Bound.{bound_named}
use Rattle.refs_binding.proofs.Excluding.{number_bound, exported_as}
use Rattle.refs_lookup.proofs.ImportSites.{predeclared_block}
use Rattle.refs_lookup.proofs.NamedImports.{role_at}
use Rattle.refs_lookup.proofs.NamedMembers.{name_member}
use Rattle.refs_lookup.proofs.OnePlace.{names_of}
use Rattle.refs_lookup.proofs.UsedMembers.{link_role}
use Rattle.refactor_rename.specs.Naming.{IsTopLevelIn}
use Rattle.refs_binding.specs.DeclaringPlaces.{InHomePackage}
use Rattle.law_faultless.proofs.Declared.{not_blank}
use Rattle.law_faultless.proofs.PackageWorlds.{own_package}
use Rattle.law_renamed_workspaces.proofs.NameTokens.{linked_not_blank, named_as_spelled}

counts_of : (l : Layout) (names : Names) (u n : ℕ) → IsBoundByScope l names u n → Counts l names n
counts_of l names u n (use_bound i x) = x.counts
counts_of l names u n (own e c) = c

module _ (w : Workspace) (sound : ListsFaults w []) (known : Verdicts) (right : AreVerdicts w known) (p : Package) (is : IsCheckedPackage w known p) where
  declared_not_blank : (q : Package) → IsCheckedPackage w known q → (n : ℕ) → Counts q.layout q.names n → q.names n ≡ 95 ∷ [] → ⊥
  declared_not_blank q there n c e =
      not_blank w sound q.path q (own_package w sound known right q there).is_checked n c.declares.may e

  -- a bound identifier at a name is no `_`
  pub bound_not_blank : (u : ℕ) (d : Declaration) → IsInFiles p u → IsBoundToDeclaration w known p u d → (s : SourceFile) →
      slice_get p.files (p.layout.place u).file ≡ Some s → IsNameToken (slice_get (tokens_in s.cut) (p.layout.place u).index) →
      spelling_of s (p.layout.place u).index ≡ 95 ∷ [] → ⊥
  bound_not_blank u d stands (by_scope b) s at name blank =
      let n = number_bound p u d b in
      let spelled : p.names u ≡ 95 ∷ [] = named_as_spelled w known p.path p is.is_checked u stands s at name ∙ blank in
      declared_not_blank p is n.0 (counts_of p.layout p.names u n.0 n.1) (sym (bound_named p.layout p.names u n.0 n.1) ∙ spelled)
  bound_not_blank u d stands (by_package b) s at name blank =
      let e = exported_as (IsCheckedPackage w known) p u d b in
      let qualified = e.1.1.1 in
      let spelled : p.names u ≡ 95 ∷ [] = named_as_spelled w known p.path p is.is_checked u stands s at name ∙ blank in
      declared_not_blank qualified.other qualified.is_package e.1.0 qualified.seen.counts (qualified.named ∙ spelled)
  bound_not_blank u d stands (by_member b) s at name blank =
      linked_not_blank w known p.path p is.is_checked u stands s at
      (elim (link_role w known p.path p is.is_checked u d stands b) [ inl key ↦ inr (inl key) | inr selected ↦ inl selected ]) blank
  bound_not_blank u d stands (by_name b) s at name blank =
      linked_not_blank w known p.path p is.is_checked u stands s at (inr (inr (name_member w known p.path p is.is_checked u d stands.0 b))) blank

  -- the name of a function `init` is bound to nothing
  pub init_unbound : (u : ℕ) (d : Declaration) → IsInFiles p u → IsBoundToDeclaration w known p u d → p.layout.role u ≡ NotLexical purpose.InitFunction → ⊥
  init_unbound u d stands (by_scope b) role = let n = number_bound p u d b in never_bound p.layout p.names u n.0 purpose.InitFunction role n.1
  init_unbound u d stands (by_package b) role =
      let e = exported_as (IsCheckedPackage w known) p u d b in
      let same : NotLexical purpose.InitFunction ≡ NotLexical purpose.Selected = sym role ∙ e.1.1.1.behind.selected in
      cc
  init_unbound u d stands (by_member b) role = elim (link_role w known p.path p is.is_checked u d stands b) [
    | inl key ↦ (let same : NotLexical purpose.InitFunction ≡ NotLexical purpose.Key = sym role ∙ key in let z : ⊥ = cc in z)
    | inr selected ↦ (let same : NotLexical purpose.InitFunction ≡ NotLexical purpose.Selected = sym role ∙ selected in let z : ⊥ = cc in z)
  ]
  init_unbound u d stands (by_name b) role =
      let same : NotLexical purpose.InitFunction ≡ NotLexical purpose.Member = sym role ∙ name_member w known p.path p is.is_checked u d stands.0 b in
      cc

  -- a declaration of the package's block is bound to itself alone
  own_number : (u n : ℕ) → p.layout.role u ≡ Declaring PackageBlock 0 → IsBoundByScope p.layout p.names u n → u ≡ n
  own_number u n role (own e c) = e
  own_number u n role (use_bound (inl i) x) = absurd (true≢false (sym (sym (ap is_use role) ∙ i)))
  own_number u n role (use_bound (inr i) x) = absurd (true≢false (sym (sym (ap is_left_name role) ∙ i.0)))

  not_predeclared : (n : ℕ) → p.layout.role n ≡ Declaring PackageBlock 0 → IsPredeclaredNumber n → ⊥
  unfolding package_sites
  not_predeclared n role lt =
      let h = is.is_checked in
      let block : block_of (p.layout.role n) ≡ Universe = ap block_of (role_at w known p.path p h n)
      ∙ predeclared_block (names_of w known p.path p h) universe (files_sites 0 (map spelled_file h.files)) n lt in
      let same : PackageBlock ≡ Universe = sym (ap block_of role) ∙ block in
      cc

  by_scope_level : (u : ℕ) (d : Declaration) → u < p.size → p.layout.role u ≡ Declaring PackageBlock 0 → BindsByScope p u d →
      InHomePackage (IsCheckedPackage w known) d (λ q. IsTopLevelIn q d)
  by_scope_level u (Predeclared n) lt role b =
      let same = own_number u n role b.1 in
      absurd (not_predeclared u role (subst IsPredeclaredNumber (sym same) b.0))
  by_scope_level u (Declared path n) lt role b =
      let same = own_number u n role b.2 in
      record {
        inside = p;
        is_package = is;
        of_path = sym b.0;
        holds = (subst (λ k. k < p.size) same lt, inl (subst (λ k. IsPackageLevel p.layout k) same (ap block_of role)));
      }
  by_scope_level u (Field s) lt role b = absurd b
  by_scope_level u (Method s) lt role b = absurd b

  -- what it is bound to is declared in the package's block
  pub level_bound : (u : ℕ) (d : Declaration) → IsInFiles p u → IsBoundToDeclaration w known p u d → p.layout.role u ≡ Declaring PackageBlock 0 →
      InHomePackage (IsCheckedPackage w known) d (λ q. IsTopLevelIn q d)
  level_bound u d stands (by_scope b) role = by_scope_level u d stands.0 role b
  level_bound u d stands (by_package b) role =
      let e = exported_as (IsCheckedPackage w known) p u d b in
      let same : Declaring PackageBlock 0 ≡ NotLexical purpose.Selected = sym role ∙ e.1.1.1.behind.selected in
      let z : ⊥ = cc in absurd z
  level_bound u d stands (by_member b) role = elim (link_role w known p.path p is.is_checked u d stands b) [
    | inl key ↦ (let same : Declaring PackageBlock 0 ≡ NotLexical purpose.Key = sym role ∙ key in let z : ⊥ = cc in absurd z)
    | inr selected ↦ (let same : Declaring PackageBlock 0 ≡ NotLexical purpose.Selected = sym role ∙ selected in let z : ⊥ = cc in absurd z)
  ]
  level_bound u d stands (by_name b) role =
      let same : Declaring PackageBlock 0 ≡ NotLexical purpose.Member = sym role ∙ name_member w known p.path p is.is_checked u d stands.0 b in
      let z : ⊥ = cc in absurd z
