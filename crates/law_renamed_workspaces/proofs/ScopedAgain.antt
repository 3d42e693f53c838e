-- A package after a plain rename is checked with the scopes that it has without knowledge of other packages.
use Rattle.std.proofs.Common.{ℕ, suc, ◌≡◌, ◌+◌, ◌<◌, Bool, true, false, List, [], length, map, ap, sym, subst, refl, ◌∙◌, arith, if◌then◌else◌}
use Rattle.std.specs.Prelude.{Contains, Option, Some, slice_get}
use Rattle.std.proofs.lemmas.Bool.{true≢false}
use Rattle.std.proofs.lemmas.Option.{same_Some}
use Rattle.base_files.specs.Packages.{package_files, package_paths}
use Rattle.base_files.specs.Workspace.{Workspace}
use Rattle.base_edits.specs.EditSet.{FileChanges, edited}
use Rattle.go_scanner.specs.CutText.{token_at}
use Rattle.go_scanner.specs.TokenValues.{IsStringClass}
use Rattle.go_ast.specs.Kinds.{kinds_of}
use Rattle.go_ast.specs.SourceFile.{SourceFile, FileParts, source_of}
use Rattle.workspace_graph.specs.FileImports.{import_literals}
use Rattle.workspace_graph.specs.Packages.{PackageImports}
use Rattle.workspace_graph.specs.Parsed.{AreParsed}
use Rattle.go_scope.specs.declared.model.Purpose.TheVariants as purpose
use Rattle.go_scope.specs.declared.model.Role.{Role}
use Rattle.go_scope.specs.declared.model.Role.TheVariants.{NotLexical}
use Rattle.go_scope.specs.Bindings.{Layout, is_implied}
use Rattle.go_scope.specs.FileSites.{package_sites, universe}
use Rattle.go_scope.specs.Named.{is_unnamed_import}
use Rattle.go_scope.specs.Packages.{scoped, layout_in}
use Rattle.go_scope.specs.Site.{Site}
use Rattle.go_scope.specs.SpelledFiles.{spelled_file}
use Rattle.law_tokens.specs.Covered.{IsIdentifierPlace, HasIdentifierAt}
use Rattle.law_tokens.specs.Tokens.{identifiers_among}
use Rattle.law_tokens.proofs.OwnPaths.{package_sources, part_at}
use Rattle.law_tokens.proofs.Places.{one_has_place}
use Rattle.types_declared.specs.Files.{HasLiteral, package_name}
use Rattle.types_declared.specs.Laid.{laid_in, is_literal, literal_of, IsPathOf}
use Rattle.types_declared.specs.Package.{Package, ExportData}
use Rattle.types_declared.specs.PackageNames.{ArePackageNames}
use Rattle.types_declared.specs.ExportTablesView.{no_export_data}
use Rattle.types_info.specs.PackageOf.{package_in}
use Rattle.workspace_check.specs.Verdicts.{Verdicts, AreVerdicts, AreVerdictsBelow, BuildsOn, IsPackageIn, IsSeenAs, seen, unseen}
use Rattle.workspace_check.proofs.Closed.{to_package}
use Rattle.workspace_check.proofs.Importing.{literal_path}
use Rattle.workspace_check.proofs.OnePackage.{one_sources}
use Rattle.workspace_check.proofs.OneVerdict.{right_below, verdict_by}
use Rattle.workspace_check.proofs.PackageFiles.{entry_at}
use Rattle.workspace_check.proofs.SameImports.{builds_by}
use Rattle.workspace_check.proofs.Underway.{builds_then}
use Rattle.refs_binding.specs.declared.declaration.Declaration.{Declaration}
use Rattle.refs_binding.specs.Uses.{IsCheckedPackage}
use Rattle.refs_lookup.proofs.HeaderStrings.{is_import_literal}
use Rattle.refs_lookup.proofs.ImportSites.{literal_within, literal_file}
use Rattle.refs_lookup.proofs.OnePlace.{same_files}
use Rattle.refactor_conflict.specs.ScopedPackages.{IsScopedIn, IsClauseName, named, unnamed}
use Rattle.refactor_conflict.proofs.OneScoped.{one_scoped}
use Rattle.law_renamed_workspaces.specs.Layouts.{AreSoundBelow}
use Rattle.law_renamed_workspaces.specs.Renames.{IsPlainRename}
use Rattle.law_renamed_workspaces.proofs.Packages.{new_paths, same_imports}
use Rattle.law_renamed_workspaces.proofs.GoodImports.{imports_are_good}
use Rattle.law_renamed_workspaces.proofs.KeptBindings.{scoped_of}
use Rattle.law_renamed_workspaces.proofs.Standing.{literal_role}

-- the name in the clause of a package
clause_is : (x : Workspace) (path : List ℕ) (o : Option (List ℕ)) (files : List FileParts) → AreParsed (package_files x path) files [] →
    Contains (package_paths x) path → IsClauseName x path o → o ≡ Some (package_name (map source_of files))
clause_is x path _ files parsed has (named {files = fs} there read) = ap (λ (ss : List SourceFile). Some (package_name ss)) (one_sources read parsed)
clause_is x path _ files parsed has (unnamed none) = absurd (none files has parsed)

-- an import without a name imports the path of its literal

unnamed_identifies : (r : Role) → is_unnamed_import r ≡ true → is_implied r ≡ false
unnamed_identifies (NotLexical purpose.UnnamedImport) e = refl
unnamed_identifies r e = absurd (true≢false (sym e))

module _ (v : Workspace) (path : List ℕ) (files : List FileParts) (parsed : AreParsed (package_files v path) files []) where
  abbrev sites : List Site
  sites = (scoped files).sites

  abbrev plain : Layout
  plain = layout_in (scoped files)

  record IsLiteralIn (u n : ℕ) : Type 0 where
    within : n < length sites
    identifies : is_implied (plain.role n) ≡ false
    in_file : (plain.place n).file ≡ (plain.place u).file

  by_test : (u : ℕ) → u < length sites → is_unnamed_import (plain.role u) ≡ true → (b : Bool) → is_literal (plain.role (u + 1)) ≡ b →
      IsLiteralIn u (if b then u + 1 else u)
  unfolding package_sites
  by_test u lt bare true e =
      let next : u + 1 ≡ suc u = omega arith in
      let role : plain.role (suc u) ≡ NotLexical purpose.ImportPath =
      literal_role (plain.role (suc u)) (subst (λ n. is_literal (plain.role n) ≡ true) next e) in
      subst (IsLiteralIn u) (sym next) (record {
        within = literal_within sites (suc u) role;
        identifies = ap is_implied role;
        in_file = literal_file universe (map spelled_file files) u role;
      })
  by_test u lt bare false e = record { within = lt; identifies = unnamed_identifies (plain.role u) bare; in_file = refl }

  pub imported : (u : ℕ) → u < length sites → is_unnamed_import (plain.role u) ≡ true → (r : List ℕ) →
      IsPathOf (map source_of files) (laid_in (scoped files)) u r →
      PackageImports v path r
  imported u lt bare r i =
      let n = literal_of plain u in
      let place = plain.place n in
      let literal : IsLiteralIn u n = by_test u lt bare (is_literal (plain.role (u + 1))) refl in
      let here : HasIdentifierAt plain (length sites) place = (n, (literal.within, (literal.identifies, refl, refl))) in
      let one : IsIdentifierPlace files place = one_has_place files (package_sources v path files parsed) place here in
      let t = part_at files place.file i.source (ap (slice_get (map source_of files)) literal.in_file ∙ i.is_file) in
      let same : one.file ≡ t.0 = same_Some one.file t.0 (sym one.of_rank ∙ t.1.0) in
      let entry = entry_at parsed place.file t.0 t.1.0 in
      let f = source_of t.0 in
      let stated : HasLiteral f place.index r = subst (λ (x : SourceFile). HasLiteral x place.index r) (sym t.1.1) i.has_literal in
      let among = subst (λ (x : FileParts). Contains (identifiers_among (kinds_of x.cut)) one.token) same one.is_identifier in
      let string : IsStringClass (token_at f.cut one.token.place).class =
      subst (λ k. IsStringClass (token_at f.cut k).class) (sym one.stands) stated.is_string in
      let found : Contains (import_literals f.tree) place.index =
      subst (Contains (import_literals f.tree)) one.stands (is_import_literal f.tree f.cut entry.1.1.is_file.is_tree.written one.token among string) in
      record { entry = entry.0; of_package = entry.1.0; file = f; parsed = entry.1.1; imports = literal_path f place.index r found stated }

module _ (w : Workspace) (before after : Verdicts) (d : Declaration) (name : List ℕ) (s : FileChanges) (h : IsPlainRename w before d name s)
    (p q : Package) (right : AreVerdictsBelow (edited s w) q.path after) (is : IsCheckedPackage w before p) (also : IsCheckedPackage (edited s w) after q)
    (path : q.path ≡ p.path) (sound : AreSoundBelow w before after p.path) where
  abbrev v : Workspace
  v = edited s w

  -- an imported package that has a clause is seen

  not_unseen : (r : List ℕ) → Contains (package_paths v) r → PackageImports v q.path r → (BuildsOn v q.path r → (after r).faulty ≡ true) → ⊥
  not_unseen r has imports none =
      let same = same_imports w before d name s h in
      let there : Contains (package_paths w) r = subst (λ ps. Contains ps r) (new_paths w before d name s h) has in
      let old : PackageImports w p.path r = subst (λ x. PackageImports w x r) path ((same.imports q.path r there).1 imports) in
      imports_are_good w h.rename.sound before h.rename.right p is r old (λ on.
      let new : BuildsOn v q.path r = subst (λ x. BuildsOn v x r) (sym path) (builds_by w v same p.path r on) in
      true≢false (sym (none new) ∙ sound.faultless r on))

  seen_faultless : (r : List ℕ) → BuildsOn v q.path r → (after r).faulty ≡ false → (o : Option (List ℕ)) → IsClauseName v r o →
      Some (after r).export_data.name ≡ o
  seen_faultless r on faultless o clause =
      let has = to_package v q.path r on.imported in
      let below : AreVerdictsBelow v r after = λ o more. right o (builds_then v q.path r o on more) in
      let x = (verdict_by v r after (after r) below (right r on)).has_export_data faultless in
      ap Some (x.is_export_data.name ∙ ap package_name (same_files v after r x.checked x.is_package))
      ∙ sym (clause_is v r o x.is_package.files x.is_package.parsed has clause)

  seen_name : (r : List ℕ) → PackageImports v q.path r → (n : Option (List ℕ)) (i : ExportData) → IsSeenAs v after q.path r n i →
      (o : Option (List ℕ)) → IsClauseName v r o → n ≡ o
  seen_name r imports _ _ (seen on faultless) o clause = seen_faultless r on faultless o clause
  seen_name r imports _ _ (unseen none) _ (named has read) = absurd (not_unseen r has imports none)
  seen_name r imports _ _ (unseen none) _ (unnamed other) = refl

  -- so the names that imports declare are those of clauses

  abbrev own : IsPackageIn v after q.path q
  own = also.is_checked

  abbrev files : List FileParts
  files = own.files

  are_clauses : (name_of : List ℕ → Option (List ℕ)) → ((r : List ℕ) → IsClauseName v r (name_of r)) →
      ArePackageNames (map source_of files) name_of (laid_in (scoped files)) own.is_package.is_laid.names
  are_clauses name_of clauses u lt bare =
      let one = own.is_package.is_laid.are_names u lt bare in
      record {
        known = λ r i. one.known r i
            ∙ seen_name r (imported v q.path files own.parsed u lt bare r i) (own.name_of r) (own.export_data_of r) (own.are_seen r) (name_of r) (clauses r);
        unknown = one.unknown;
      }

  pub scopes_below : (x : Package) → IsScopedIn v x → x.path ≡ q.path → x ≡ scoped_of q
  scopes_below x is_x e =
      let again : Package = package_in q.path (map source_of files) own.is_package.laid no_export_data in
      let scopes : IsScopedIn v again = record {
        of_workspace = also.of_workspace;
        files = files;
        parsed = own.parsed;
        name_of = is_x.name_of;
        are_names = is_x.are_names;
        is_package = record {
          laid = own.is_package.laid;
          is_laid = record {
            names = own.is_package.is_laid.names;
            are_names = are_clauses is_x.name_of is_x.are_names;
            is_named = own.is_package.is_laid.is_named;
          };
          is_package = refl;
        };
      } in
      one_scoped v x again is_x scopes e ∙ sym (ap scoped_of own.is_package.is_package)

-- the same by right verdicts on all packages
pub scopes_again : (w : Workspace) (before after : Verdicts) (d : Declaration) (name : List ℕ) (s : FileChanges) → IsPlainRename w before d name s →
    AreVerdicts (edited s w) after → (p q : Package) → IsCheckedPackage w before p → IsCheckedPackage (edited s w) after q → q.path ≡ p.path →
    AreSoundBelow w before after p.path → (x : Package) → IsScopedIn (edited s w) x → x.path ≡ q.path → x ≡ scoped_of q
scopes_again w before after d name s h right p q is also path sound x is_x e =
    scopes_below w before after d name s h p q (right_below (edited s w) after right q.path) is also path sound x is_x e
