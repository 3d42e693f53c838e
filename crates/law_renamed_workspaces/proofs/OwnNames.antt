-- The rename of a declaration of a package is a rename on the package's layout.
use Rattle.std.proofs.Common.{ℕ, zero, suc, ◌≡◌, ◌<◌, ◌≤◌, ◌⊎◌, inl, inr, true, false, List, [], ◌∷◌, ◌++◌, Option, map, length, ap, sym, subst}
use Rattle.std.proofs.Common.{refl, ◌∙◌, arith}
use Rattle.std.specs.Prelude.{Some, is_some, slice_get}
use Rattle.std.proofs.lemmas.Bool.{cases_lt, true≢false}
use Rattle.std.proofs.lemmas.Option.{slice_get_past}
use Rattle.base_files.specs.Workspace.{Workspace}
use Rattle.base_files.specs.declared.fault_kind.FaultKind.TheVariants as kind
use Rattle.go_ast.specs.SourceFile.{SourceFile, source_of}
use Rattle.base_edits.specs.EditSet.{FileChanges}
use Rattle.base_edits.specs.RevisionsOfEdits.{revision_of}
use Rattle.go_scope.specs.declared.model.Block.TheVariants.{Universe, File, Inner}
use Rattle.go_scope.specs.declared.model.Block.TheVariants.{Package as PackageBlock}
use Rattle.go_scope.specs.Bindings.{Layout, Names, IsImport, IsPackageLevel, Counts, AllCount, use_bound, own, block_of}
use Rattle.go_scope.specs.Bindings.{is_implied, is_use, may_declare}
use Rattle.go_scope.specs.Bindings as scopes
use Rattle.go_scope.specs.FileSites.{universe, universe_site, files_sites, package_sites}
use Rattle.go_scope.specs.Named.{named_sites}
use Rattle.go_scope.specs.Site.{Site, or_blank}
use Rattle.go_scope.specs.SpelledFiles.{spelled_file}
use Rattle.law_tokens.proofs.FileIdentifiers.{AreIdentifiers, files_identify, identifier_in, role_in}
use Rattle.go_scope.proofs.NamedSites.{identifier_stays}
use Rattle.law_rename.specs.Renaming.{IsRenaming, Renames}
use Rattle.types_declared.specs.Package.{Package, ExportData}
use Rattle.types_check.specs.Check.{exports_in}
use Rattle.types_expr.specs.World.{Member, AField, AMethod, ABrokenMethod}
use Rattle.types_resolve.specs.Scoping.{fault_at}
use Rattle.workspace_check.specs.Verdicts.{Verdicts, BuildsOn, IsPackageIn, IsSeenAs, seen, unseen}
use Rattle.workspace_check.proofs.Closed.{not_on_itself}
use Rattle.workspace_check.proofs.OnePackage.{layout_formed}
use Rattle.refs_binding.specs.declared.declaration.Declaration.TheVariants.{Declared}
use Rattle.refs_binding.specs.Binding.{IsPredeclaredNumber, declaration_of, by_scope, by_package, by_member, by_name}
use Rattle.refs_binding.specs.Identifiers.{IsInFiles}
use Rattle.refs_binding.specs.Uses.{IsCheckedPackage, IsBoundToDeclaration}
use Rattle.refs_binding.proofs.Units.{one_package}
use Rattle.refs_lookup.proofs.BoundUsedMembers.{file_at}
use Rattle.refs_lookup.proofs.ExportedNames.{is_found}
use Rattle.refs_lookup.proofs.Faultless.{no_fault_later}
use Rattle.refs_lookup.proofs.ImportSites.{predeclared_block}
use Rattle.refs_lookup.proofs.OnePlace.{same_size}
use Rattle.refactor_rename.specs.declared.renamed.Literal.{Literal}
use Rattle.refactor_rename.specs.Literals.{IsTokenOf, IsPathLiteralOf, IsLiteralFound}
use Rattle.law_faultless.proofs.Declared.{given, sites, role_is, may_within}
use Rattle.law_renamed_workspaces.specs.Layouts.{IsRelaid}
use Rattle.law_renamed_workspaces.specs.Renames.{IsPlainRename}
use Rattle.law_renamed_workspaces.specs.Scopes.{OwnRenamesAreRenames}
use Rattle.law_renamed_workspaces.proofs.RenamedScopesRenamed.{bound_is_called, others_are_kept}
use Rattle.law_renamed_workspaces.proofs.SameNames.{left_roles, use_identifies}
use Rattle.law_renamed_workspaces.proofs.Standing.{StandsAtName, IsLaid, begins_there, use_stands, declared_stands, laid_literal, in_package}
use Rattle.law_renamed_workspaces.proofs.RenamedSets.{own_alone}

-- behind the predeclared names there are identifiers of files
past_universe : (given : ℕ → Option (List ℕ)) (names : List (List ℕ)) (xs : List Site) → AreIdentifiers xs → (d : ℕ) → length names ≤ d →
    is_implied (role_in (named_sites given (map universe_site names ++ xs)) d) ≡ false
unfolding named_sites
past_universe given [] xs all d le = identifier_stays given xs d ∙ identifier_in xs all d
past_universe given (n ∷ names) xs all zero le = absurd (omega arith)
past_universe given (n ∷ names) xs all (suc d) le = past_universe (λ k. given (suc k)) names xs all d (omega arith)

pub member_is_none : (m : Member) (path : List ℕ) (n : ℕ) → declaration_of m ≡ Declared path n → ⊥
member_is_none (AField s t) path n e = cc
member_is_none (AMethod s p g) path n e = cc
member_is_none (ABrokenMethod s) path n e = cc

role_within : (xs : List Site) (u : ℕ) → (is_use (role_in xs u) ≡ true) ⊎ (may_declare (role_in xs u) ≡ true) → u < length xs
role_within xs u k = elim (cases_lt u (length xs)) [
  | inl lt ↦ lt
  | inr ge ↦
      let role = ap (λ x. (or_blank x).role) (slice_get_past xs u ge) in
      elim k [ inl e ↦ absurd (true≢false (sym e ∙ ap is_use role)) | inr e ↦ absurd (true≢false (sym e ∙ ap may_declare role)) ]
]

pub counted : (l : Layout) (names : Names) (u d : ℕ) → scopes.IsBoundTo l names u d → Counts l names d
counted l names u d (use_bound used b) = b.counts
counted l names u d (own e c) = c

module _ (w : Workspace) (known_verdicts : Verdicts) (path : List ℕ) (p : Package) (h : IsPackageIn w known_verdicts path p) where
  pub identifies : (d : ℕ) → (IsPredeclaredNumber d → ⊥) → is_implied (p.layout.role d) ≡ false
  unfolding package_sites
  identifies d other =
      let le : length universe ≤ d = not_less d (length universe) other in
      ap is_implied (role_is w known_verdicts path p h d)
      ∙ past_universe (given w known_verdicts path p h) universe (files_sites 0 (map spelled_file h.files)) (files_identify 0 (map spelled_file h.files)) d le
    where
      not_less : (a b : ℕ) → (a < b → ⊥) → b ≤ a
      not_less a b f = omega (arith, f)

  pub in_universe : (d : ℕ) → IsPredeclaredNumber d → block_of (p.layout.role d) ≡ Universe
  unfolding package_sites
  in_universe d known =
      ap block_of (role_is w known_verdicts path p h d)
      ∙ predeclared_block (given w known_verdicts path p h) universe (files_sites 0 (map spelled_file h.files)) d known

  abbrev xs : List Site
  xs = named_sites (given w known_verdicts path p h) (sites w known_verdicts path p h)

  pub role_inside : (u : ℕ) → (is_use (p.layout.role u) ≡ true) ⊎ (may_declare (p.layout.role u) ≡ true) → u < p.size
  role_inside u k = subst (λ m. u < m) (sym (same_size w known_verdicts path p h)) (elim k [
    | inl e ↦ role_within xs u (inl (sym (ap is_use (role_is w known_verdicts path p h u)) ∙ e))
    | inr e ↦ role_within xs u (inr (sym (ap may_declare (role_is w known_verdicts path p h u)) ∙ e))
  ])

  pub bound_within : (u d : ℕ) → scopes.IsBoundTo p.layout p.names u d → u < p.size
  bound_within u d (use_bound used b) = elim used [ inl e ↦ role_inside u (inl e) | inr left ↦ role_inside u (inr (left_roles (p.layout.role u) left.0).0) ]
  bound_within u d (own e c) = role_inside u (inr (ap (λ k. may_declare (p.layout.role k)) e ∙ c.declares.may))

-- what is seen of an imported package that exports something
pub seen_exports : (w : Workspace) (known : Verdicts) (r q name : List ℕ) (n : Option (List ℕ)) (i : ExportData) → IsSeenAs w known r q n i →
    is_some (i.exported name) ≡ true → BuildsOn w r q
seen_exports w known r q name _ _ (seen on sees) e = on
seen_exports w known r q name _ _ (unseen none) e = absurd (true≢false (sym e))

module _ (w : Workspace) (before : Verdicts) (path : List ℕ) (n : ℕ) (name : List ℕ) (s : FileChanges) (h : IsPlainRename w before (Declared path n) name s)
    (p q : Package) (is : IsCheckedPackage w before p) (same : p.path ≡ path) (relaid : IsRelaid (revision_of w s) p q) where
  abbrev l : Layout
  l = p.layout

  -- no declaration is repeated

  all_count : AllCount l p.names
  all_count d declares = record {
    declares = declares;
    first = λ e also named displaces.
        let lt : d < p.size = may_within w before p.path p is.is_checked d declares.may in
        no_fault_later w h.rename.sound before h.rename.right p is (fault_at l d kind.Repeated)
        (inl (inl (inl (d, lt, inr (inl (record { at = refl; repeats = inl (declares, λ counts. counts.first e also named displaces) }))))));
  }

  -- it counts, and is an identifier of a file

  record IsOwn : Type 0 where
    counts : Counts l p.names n
    other : IsPredeclaredNumber n → ⊥

  abbrev checked : IsPackageIn w before p.path p
  checked = is.is_checked

  level_other : IsPackageLevel l n → IsPredeclaredNumber n → ⊥
  level_other level known =
      let z : Universe ≡ PackageBlock = sym (in_universe w before p.path p checked n known) ∙ level in cc

  by_scopes : (x : Package) → IsCheckedPackage w before x → path ≡ x.path → (IsPredeclaredNumber n → ⊥) → (u : ℕ) → scopes.IsBoundTo x.layout x.names u n →
      IsOwn
  by_scopes x also e other u b =
      let one : x ≡ p = one_package w before x p also is (sym e ∙ sym same) in
      record {
        counts = subst (λ (y : Package). Counts y.layout y.names n) one (counted x.layout x.names u n b);
        other = other;
      }

  is_own : IsOwn
  is_own = by_use h.rename.used.1.used_in h.rename.used.1.is_package h.rename.used.1.user h.rename.used.1.bound
    where
      by_use : (x : Package) → IsCheckedPackage w before x → (u : ℕ) → IsBoundToDeclaration w before x u (Declared path n) → IsOwn
      by_use x also u (by_scope b) = by_scopes x also b.0 b.1 u b.2
      by_use x also u (by_package b) =
          let one : b.other ≡ p = one_package w before b.other p b.is_package is (b.of_path ∙ sym same) in
          let counts : Counts l p.names n = subst (λ (y : Package). Counts y.layout y.names n) one b.seen.counts in
          let level : IsPackageLevel l n = subst (λ (y : Package). IsPackageLevel y.layout n) one b.seen.package_level in
          record { counts = counts; other = level_other level }
      by_use x also u (by_member b) = absurd (member_is_none b.member path n b.declares)
      by_use x also u (by_name b) = absurd b

  identifies_it : is_implied (l.role n) ≡ false
  identifies_it = identifies w before p.path p checked n is_own.other

  -- it is no import without a name

  no_literal : (l : Literal) → IsPathLiteralOf (IsCheckedPackage w before) (Declared path n) l → ⊥
  no_literal = subst (λ o. IsLiteralFound (IsPathLiteralOf (IsCheckedPackage w before) (Declared path n)) o) h.plain h.rename.edits.is_renamed.literal

  not_laid : n < p.size → IsLaid w before p.path p checked n → IsImport l n → ⊥
  not_laid lt unnamed import =
      let at = l.place n in
      let t = file_at w before p.path p checked at n lt (identifies_it, refl, refl) in
      let f : SourceFile = source_of t.0 in
      let there : slice_get p.files at.file ≡ Some f = in_package w before p.path p checked at t.0 t.1 in
      let one : Literal = record { path = f.path; token = at.index } in
      no_literal one (record {
        inside = p;
        is_package = is;
        of_path = same;
        holds = (lt, (import, laid_literal w before p.path p checked n lt unnamed), subst (λ o. IsTokenOf o at.index one) (sym there) (refl, refl));
      })

  -- what is bound to it stands at a name

  bound_stands : (u : ℕ) → u < p.size → scopes.IsBoundTo l p.names u n → StandsAtName p u
  bound_stands u lt (use_bound used b) = elim used [
    | inl use_of ↦ use_stands w before p.path p checked u lt use_of
    | inr left ↦
        let r = left_roles (l.role u) left.0 in
        declared_stands w before p.path p checked u lt r.0 r.1 (λ laid import.
        let i = (layout_formed w before p.path p checked).left_inner u left.0 in
        let z : File import.0 ≡ Inner i.0 i.1 i.2 = sym import.1 ∙ i.3 in cc)
  ]
  bound_stands u lt (own e c) =
      subst (StandsAtName p) (sym e)
      (declared_stands w before p.path p checked n (subst (λ k. k < p.size) e lt) c.declares.may identifies_it
      (not_laid (subst (λ k. k < p.size) e lt)))

  bound_identifies : (u : ℕ) → scopes.IsBoundTo l p.names u n → is_implied (l.role u) ≡ false
  bound_identifies u (use_bound used b) = elim used [
    | inl use_of ↦ use_identifies (l.role u) use_of
    | inr left ↦ (left_roles (l.role u) left.0).1
  ]
  bound_identifies u (own e c) = ap (λ k. is_implied (l.role k)) e ∙ identifies_it

  renamed_so : (u : ℕ) → scopes.IsBoundTo l p.names u n → q.names u ≡ name
  renamed_so u b =
      let lt : u < p.size = bound_within w before p.path p checked u n b in
      let there = begins_there p u lt (bound_identifies u b) (bound_stands u lt b) in
      bound_is_called w before (Declared path n) name s h p q is relaid u there.0 there.1
      (record { declaration = Declared path n; among = h.rename.is_set.has_it; bound = by_scope (sym same, is_own.other, b) })

  -- nothing else is bound to it

  bound_so : (u : ℕ) → IsInFiles p u → IsBoundToDeclaration w before p u (Declared path n) → scopes.IsBoundTo l p.names u n
  bound_so u inside (by_scope b) = b.2
  bound_so u inside (by_package b) =
      let found : exports_in p path (p.names u) ≡ true = is_found w h.rename.sound before h.rename.right p is u inside path b.behind in
      let test : is_some ((checked.export_data_of path).exported (p.names u)) ≡ true =
      subst (λ (i : List ℕ → ExportData). is_some ((i path).exported (p.names u)) ≡ true)
      (ap (λ (x : Package). x.export_data_of) checked.is_package.is_package) found in
      absurd (not_on_itself w p.path path
      (seen_exports w before p.path path (p.names u) (checked.name_of path) (checked.export_data_of path) (checked.are_seen path) test) (sym same))
  bound_so u inside (by_member b) = absurd (member_is_none b.member path n b.declares)
  bound_so u inside (by_name b) = absurd b

  renaming : IsRenaming l p.names n name q.names
  renaming = record {
    renamed = renamed_so;
    kept = λ u other. others_are_kept w before (Declared path n) name s h p q is relaid u
        (λ inside some. other (bound_so u inside (subst (IsBoundToDeclaration w before p u)
        (own_alone (IsCheckedPackage w before) (Declared path n) h.rename.set h.rename.is_set (λ m. m) some.declaration some.among) some.bound)));
  }

  pub renames : Renames l p.names n name q.names
  renames = record {
    well_formed = layout_formed w before p.path p checked;
    all_count = all_count;
    declared = is_own.counts.declares;
    other_name = λ e. h.rename.other (record {
      inside = p;
      is_package = is;
      of_path = same;
      holds = (may_within w before p.path p checked n is_own.counts.declares.may, e);
    });
    renaming = renaming;
  }

pub own_renames : OwnRenamesAreRenames
own_renames w before path n name s h p q is same relaid = renames w before path n name s h p q is same relaid
