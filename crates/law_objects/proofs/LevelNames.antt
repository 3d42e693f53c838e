-- The tokens at which package-level declarations are declared and used are spelled as the declarations are called.
use Rattle.std.proofs.Common.{ℕ, ◌≡◌, ◌+◌, ◌<◌, inl, inr, false, List, Some, refl, ap, sym, subst, ◌∙◌, arith}
use Rattle.std.specs.Prelude.{slice_get}
use Rattle.std.specs.List.{AllByRecursion, flat_map}
use Rattle.base_lemmas.proofs.EachElement.{all_back}
use Rattle.base_files.specs.Workspace.{Workspace}
use Rattle.go_ast.specs.SourceFile.{spelling_of}
use Rattle.go_ast.specs.Tree.{Item, Group, single, several, DeclTree, VarDecl, TypeDecl, FuncDecl, FileTree}
use Rattle.go_scope.specs.declared.model.Block.TheVariants.{Universe, File, Inner}
use Rattle.go_scope.specs.declared.model.Block.TheVariants.{Package as PackageBlock}
use Rattle.go_scope.specs.declared.model.Role.TheVariants.{Declaring}
use Rattle.go_scope.specs.Bindings.{Layout, IsPackageLevel, use_bound, own, is_implied}
use Rattle.go_scope.specs.Bindings as scopes
use Rattle.go_scope.specs.FileSites.{imports_sites, decl_sites, file_sites, spec_sites, type_spec_sites, func_role}
use Rattle.go_scope.specs.StatementSites.{group_sites, separated_sites}
use Rattle.go_scope.specs.Site.{Site, TokenSpellings, site}
use Rattle.go_scope.specs.Table.{LiesAt}
use Rattle.types_info.proofs.DeclKinds.{Holds, holds_flat, holds_map, holds_ranked}
use Rattle.types_declared.specs.Files.{ranked_files, group_items}
use Rattle.types_declared.specs.Package.{Package, PlacedType, PlacedFunction, placed_type, decl_types, types_in, package_types, spelled}
use Rattle.types_declared.specs.Package.{spelled_at}
use Rattle.types_declared.specs.Written.{BindsToken}
use Rattle.workspace_check.specs.Verdicts.{Verdicts, IsPackageIn}
use Rattle.workspace_check.proofs.OnePackage.{layout_formed}
use Rattle.refs_binding.proofs.Bound.{bound_named}
use Rattle.refs_binding.specs.Uses.{IsCheckedPackage}
use Rattle.law_faultless.proofs.FunctionsSettled.{function_name_kept, function_kept, no_import_role, IsInFile}
use Rattle.law_faultless.proofs.Lists.{all_flat}
use Rattle.law_faultless.proofs.TypesBound.{Stands, Kept, all_kept}
use Rattle.law_renamed_workspaces.proofs.NameTokens.{named_as_spelled}
use Rattle.law_renamed_workspaces.proofs.OwnNames.{identifies, in_universe}
use Rattle.law_renamed_workspaces.proofs.SameNames.{left_roles}
use Rattle.law_renamed_workspaces.proofs.Standing.{StandsAtName, use_stands, declared_stands}
use Rattle.law_renamed_workspaces.proofs.DeclaredNames.{level_declares}

-- where a type definition is declared

group_kept : {X : Type 0} (K : Site → Type 0) (f : X → List Site) (g : Group X) (x : X) → Holds (group_items g) x → AllByRecursion K (spec_sites f g) →
    AllByRecursion K (f x)
unfolding group_sites separated_sites
group_kept K f (single y) x held h = elim held [ inl same ↦ subst (λ z. AllByRecursion K (f z)) same h | inr z ↦ absurd z ]
group_kept {X} K f (several o is c) x held h =
    let i = holds_map (λ (z : Item X). z.value) is x held in
    subst (λ z. AllByRecursion K (f z)) i.1.1 (all_flat K (λ (z : Item X). f z.value) is i.0 h i.1.0)

type_kept : (K : Site → Type 0) (s : TokenSpellings) (tree : FileTree) (d : DeclTree) → AllByRecursion K (file_sites s tree) → Holds tree.decls d →
    (file : ℕ) (t : PlacedType) → Holds (decl_types file d) t → (file ≡ t.file) × K (site s t.spec.name (Declaring PackageBlock 0))
unfolding file_sites decl_sites type_spec_sites
type_kept K s tree (VarDecl k g c) h held file t of = absurd of
type_kept K s tree (FuncDecl k f c) h held file t of = absurd of
type_kept K s tree (TypeDecl k g c) h held file t of =
    let x = holds_map (placed_type file) (group_items g) t of in
    let each = all_flat K (decl_sites s) tree.decls (TypeDecl k g c)
    (all_back K (flat_map (imports_sites s) tree.imports) (flat_map (decl_sites s) tree.decls) h.1) held in
    let own_sites = group_kept K (type_spec_sites s) g x.0 x.1.0 each in (
      ap (λ (z : PlacedType). z.file) x.1.1,
      subst (λ (z : PlacedType). K (site s z.spec.name (Declaring PackageBlock 0))) x.1.1 own_sites.0,
    )

module _ (w : Workspace) (known : Verdicts) (p : Package) (is : IsCheckedPackage w known p) where
  abbrev checked : IsPackageIn w known p.path p
  checked = is.is_checked

  abbrev l : Layout
  l = p.layout

  -- an identifier at a name is called as its token is spelled
  stands_spelled : (file token u : ℕ) → u < p.size → LiesAt l (record { file = file; index = token }) u → StandsAtName p u → spelled p file token ≡ p.names u
  stands_spelled file token u lt lies st =
      ap (λ k. spelled p k token) (sym lies.1)
      ∙ ap (λ o. spelled_at o token) st.of_rank
      ∙ ap (spelling_of st.source) (sym lies.2)
      ∙ sym (named_as_spelled w known p.path p checked u (lt, lies.0) st.source st.of_rank st.is_name)

  -- a package-level declaration stands at its name
  pub level_identifies : (u : ℕ) → IsPackageLevel l u → is_implied (l.role u) ≡ false
  level_identifies u level =
      identifies w known p.path p checked u
      (λ known_one. let z : Universe ≡ PackageBlock = sym (in_universe w known p.path p checked u known_one) ∙ level in cc)

  pub level_stands : (u : ℕ) → u < p.size → IsPackageLevel l u → StandsAtName p u
  level_stands u lt level =
      declared_stands w known p.path p checked u lt (level_declares l (layout_formed w known p.path p checked) p.names u level).may
      (level_identifies u level)
      (λ laid import. let z : File import.0 ≡ PackageBlock = sym import.1 ∙ level in cc)

  bound_stands : (u d : ℕ) → u < p.size → scopes.IsBoundTo l p.names u d → IsPackageLevel l d → StandsAtName p u
  bound_stands u d lt (use_bound used b) level = elim used [
    | inl use_of ↦ use_stands w known p.path p checked u lt use_of
    | inr left ↦
        let r = left_roles (l.role u) left.0 in
        declared_stands w known p.path p checked u lt r.0 r.1 (λ laid import.
        let i = (layout_formed w known p.path p checked).left_inner u left.0 in
        let z : File import.0 ≡ Inner i.0 i.1 i.2 = sym import.1 ∙ i.3 in cc)
  ]
  bound_stands u d lt (own e c) level = subst (StandsAtName p) (sym e) (level_stands d (subst (λ k. k < p.size) e lt) level)

  -- a token that is bound to a package-level declaration is spelled as that is called
  pub level_spelled : (file token d : ℕ) → BindsToken p file token d → IsPackageLevel l d → spelled p file token ≡ p.names d
  level_spelled file token d b level =
      stands_spelled file token b.identifier b.found.within b.found.holds (bound_stands b.identifier d b.found.within b.bound level)
      ∙ bound_named l p.names b.identifier d b.bound

  -- so is the token that declares one
  pub own_spelled : (file token u : ℕ) → u < p.size → LiesAt l (record { file = file; index = token }) u → IsPackageLevel l u →
      spelled p file token ≡ p.names u
  own_spelled file token u lt lies level = stands_spelled file token u lt lies (level_stands u lt level)

  pub type_stands : (t : PlacedType) → Holds (package_types p) t → Stands p t.file t.spec.name (Declaring PackageBlock 0)
  type_stands t held =
      let r = holds_flat types_in (ranked_files p.files) t held in
      let d = holds_flat (decl_types r.0.0) r.0.1.tree.decls t r.1.1 in
      let i = holds_ranked 0 p.files r.0 r.1.0 in
      let file : i.0 ≡ r.0.0 = let z : r.0.0 ≡ 0 + i.0 = i.1.0 in omega (arith, z) in
      let at : slice_get p.files r.0.0 ≡ Some r.0.1 = subst (λ k. slice_get p.files k ≡ Some r.0.1) file i.1.1 in
      let source : TokenSpellings = record { rank = r.0.0; spell = spelling_of r.0.1 } in
      let own_kept = type_kept (Kept p r.0.0) source r.0.1.tree d.0 (all_kept w known p.path p checked r.0.0 r.0.1 at) d.1.0 r.0.0 t d.1.1 in
      subst (λ k. Stands p k t.spec.name (Declaring PackageBlock 0)) own_kept.0 (own_kept.1 refl)

  pub function_stands : (f : PlacedFunction) (there : IsInFile p f) →
      Stands p f.file f.function.name (func_role f.function.receiver (spelling_of there.source f.function.name))
  function_stands f there =
      let source : TokenSpellings = record { rank = f.file; spell = spelling_of there.source } in
      let all = function_kept (Kept p f.file) source there.source.tree there.keyword f.function there.semicolon
      (all_kept w known p.path p checked f.file there.source there.in_file) there.in_tree in
      function_name_kept (Kept p f.file) source f.function all (no_import_role f.function.receiver (spelling_of there.source f.function.name))
