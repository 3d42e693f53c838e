-- A use of a member is not `N` in a qualified identifier `q.N`.
use Rattle.std.proofs.Common.{ℕ, suc, ◌≡◌, ◌<◌, List, length, ap, sym, subst, refl, ◌∙◌, arith}
use Rattle.std.specs.Prelude.{Contains, Some, slice_get}
use Rattle.std.proofs.lemmas.Option.{same_Some}
use Rattle.base_files.specs.Workspace.{Workspace}
use Rattle.go_ast.specs.declared.syntax.Kind.TheVariants as kind
use Rattle.go_ast.specs.Kinds.{kinds_of}
use Rattle.go_ast.specs.SourceFile.{SourceFile, FileParts, IsSourceFile, source_of}
use Rattle.go_scope.specs.declared.model.Position.{Position}
use Rattle.go_scope.specs.declared.model.Purpose.TheVariants as purpose
use Rattle.go_scope.specs.declared.model.Role.TheVariants.{NotLexical}
use Rattle.go_scope.specs.Bindings.{Layout}
use Rattle.go_scope.specs.Packages.{scoped, layout_in}
use Rattle.go_scope.specs.Table.{LiesAt}
use Rattle.law_tokens.specs.Covered.{IsIdentifierPlace, HasIdentifierAt}
use Rattle.law_tokens.specs.Roles.{IsOfKind, FitsTokens}
use Rattle.law_tokens.specs.Tokens.{identifiers_among}
use Rattle.law_tokens.proofs.HeldBytes.{source_file_at}
use Rattle.law_tokens.proofs.Lexical.{never_bound}
use Rattle.law_tokens.proofs.OwnPaths.{package_sources, part_at}
use Rattle.law_tokens.proofs.Places.{Marks, marked, one_has_place, named_has_one}
use Rattle.law_tokens.proofs.Roles.{named_role_told}
use Rattle.types_expr.specs.Types.{Package as PackageName}
use Rattle.types_expr.specs.World.{World, Means}
use Rattle.types_expr.specs.Judge.{members_of}
use Rattle.types_stmt.specs.Declarations.{check_file}
use Rattle.refs_lookup.specs.Places.{IsBoundToPackage, IsMemberToken, as_key, as_selected}
use Rattle.refs_lookup.proofs.LinkPlaces.{stands_at_link}
use Rattle.types_declared.specs.MeaningOf.{import_name}
use Rattle.types_declared.specs.Package.{Package}
use Rattle.types_info.specs.Worlds.{IsWorldOf, is_bound, by_scope, is_init}
use Rattle.types_info.proofs.OneMeaning.{one_name}
use Rattle.workspace_check.specs.Verdicts.{Verdicts, IsPackageIn}
use Rattle.workspace_check.proofs.OnePackage.{layout_formed, files_in_order}
use Rattle.refs_binding.specs.declared.declaration.Declaration.{Declaration}
use Rattle.types_info.specs.QualifiedIdentifiers.{IsQualifiedByPath, NamesPackage}
use Rattle.refs_binding.specs.Binding.{BindsQualified, BindsByMember}
use Rattle.refs_binding.specs.Identifiers.{IsInFiles}
use Rattle.refs_binding.proofs.Excluding.{exported_as}
use Rattle.refs_lookup.proofs.OnePlace.{names_of, laid_of, same_layout, same_size, same_files}
use Rattle.refs_lookup.proofs.Headers.{name_before_dot}

module _ (w : Workspace) (known : Verdicts) (path : List ℕ) (p : Package) (h : IsPackageIn w known path p) where
  is_source : (file : ℕ) (t : FileParts) → slice_get h.files file ≡ Some t → IsSourceFile (source_of t)
  is_source file t is = source_file_at h.files (package_sources w path h.files h.parsed) file t is

  -- where an identifier stands, a file has one among its tokens
  place_at : (at : Position) (u : ℕ) → u < p.size → LiesAt p.layout at u → IsIdentifierPlace h.files at
  place_at at u lt stands =
      let laid = laid_of w known path p h in
      let one : HasIdentifierAt (layout_in laid) (length laid.sites) at =
      (u, (subst (λ n. u < n) (same_size w known path p h) lt, subst (λ l. LiesAt l at u) (same_layout w known path p h) stands)) in
      one_has_place h.files (package_sources w path h.files h.parsed) at ((named_has_one (names_of w known path p h) (scoped h.files) at).1 one)

  pub file_at : (at : Position) (u : ℕ) → u < p.size → LiesAt p.layout at u → (t : FileParts) × (slice_get h.files at.file ≡ Some t)
  file_at at u lt stands = let place = place_at at u lt stands in (place.file, place.of_rank)

  pub marks_at : (at : Position) (u : ℕ) → u < p.size → LiesAt p.layout at u → (t : FileParts) → slice_get h.files at.file ≡ Some t →
      Marks at.index (identifiers_among (kinds_of t.cut))
  marks_at at u lt stands t is =
      let place = place_at at u lt stands in
      let token = place.is_identifier in
      let marks : Marks at.index (identifiers_among (kinds_of place.file.cut)) =
      marked at.index (identifiers_among (kinds_of place.file.cut)) token.0 place.token token.1 token.2 place.stands in
      subst (λ (x : FileParts). Marks at.index (identifiers_among (kinds_of x.cut))) (same_Some place.file t (sym place.of_rank ∙ is)) marks

  -- what the tokens tell of it
  pub told_at : (at : Position) (u : ℕ) → u < p.size → LiesAt p.layout at u → (t : FileParts) → slice_get h.files at.file ≡ Some t →
      FitsTokens t.cut at.index (p.layout.role u)
  told_at at u lt stands t is =
      let laid = laid_of w known path p h in
      let layout = same_layout w known path p h in
      let l : Layout = layout_in laid in
      let there : LiesAt l at u = subst (λ x. LiesAt x at u) layout stands in
      let told : FitsTokens t.cut (l.place u).index (l.role u) =
      named_role_told (names_of w known path p h) h.files (package_sources w path h.files h.parsed) u
      (subst (λ n. u < n) (same_size w known path p h) lt) there.0 t
      (ap (slice_get h.files) there.1 ∙ is) in
      subst (λ (x : Layout). FitsTokens t.cut at.index (x.role u)) (sym layout) (subst (λ i. FitsTokens t.cut i (l.role u)) there.2 told)

  -- the name of a package before a dot is one for a world too
  package_named : (v : World) (file before : ℕ) (s : SourceFile) (t : FileParts) → slice_get h.files file ≡ Some t → IsWorldOf p file s v → (q : List ℕ) →
      NamesPackage p file before q → IsOfKind t.cut (suc before) kind.Dot → IsBoundToPackage v t.cut before
  package_named v file before s t is judged q n dot =
      let at : Position = record { file = file; index = before } in
      let u = n.binds.identifier in
      let found = n.binds.found in
      let name = name_before_dot (source_of t) (is_source file t is) before (marks_at at u found.within found.holds t is) dot in
      record {
        kind = name.0;
        of_kind = name.1.0;
        named = name.1.1;
        undotted =
            (λ d. never_bound p.layout p.names u n.import purpose.Selected ((told_at at u found.within found.holds t is).selected.1 d) n.binds.bound);
        names =
            one_name p (layout_formed w known path p h) (files_in_order w known path p h) file before (v.bound before) (Means PackageName) (judged.names before)
            (is_bound (by_scope n.binds (import_name n.imports)));
      }

  by_link : (v : World) (u : ℕ) → IsInFiles p u → (s : SourceFile) (t : FileParts) → slice_get h.files (p.layout.place u).file ≡ Some t →
      IsWorldOf p (p.layout.place u).file s v → (q : List ℕ) → IsQualifiedByPath p u q → IsMemberToken v t.cut (p.layout.place u).index → ⊥
  by_link v u stands s t is judged q b (as_key colon) =
      let key = (told_at (p.layout.place u) u stands.0 (stands.1, refl, refl) t is).key.1 colon in
      let same : NotLexical purpose.Key ≡ NotLexical purpose.Selected = sym key ∙ b.selected in
      let z : ⊥ = cc in z
  by_link v u stands s t is judged q b (as_selected dot other) =
      let at : (p.layout.place u).index ≡ suc (suc b.before) = b.behind_dot in
      let from : suc dot.0 ≡ (p.layout.place u).index = dot.1.0 in
      let there : dot.0 ≡ suc b.before = omega arith in
      other b.before (sym b.behind_dot)
      (package_named v (p.layout.place u).file b.before s t is judged q b.named (subst (λ i. IsOfKind t.cut i kind.Dot) there dot.1.1))

  pub member_not_package : (I : Package → Type 0) (u : ℕ) (d e : Declaration) → IsInFiles p u → BindsByMember p u d → BindsQualified I p u e → ⊥
  member_not_package I u d e stands a b =
      let file = (p.layout.place u).file in
      let s = a.judged.source in
      let v = a.judged.world in
      let t = part_at h.files file s (subst (λ fs. slice_get fs file ≡ Some s) (same_files w known path p h) a.judged.in_file) in
      let own : Contains (members_of (check_file v (is_init s) s.tree).uses) a.found = subst (λ us. Contains us a.found) a.judged.found a.is_use in
      let link : IsMemberToken v s.cut a.found.place =
      stands_at_link v (is_init s) s (subst IsSourceFile t.1.1 (is_source file t.0 t.1.0)) a.found own in
      let there : IsMemberToken v t.0.cut (p.layout.place u).index =
      subst (λ n. IsMemberToken v t.0.cut n) a.at (subst (λ (z : SourceFile). IsMemberToken v z.cut a.found.place) (sym t.1.1) link) in
      let x = exported_as I p u e b in
      by_link v u stands s t.0 t.1.0 a.judged.judged_by x.0 x.1.1.1.behind there
