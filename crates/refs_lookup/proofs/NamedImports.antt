-- A package imports each path that one of its imports names.
use Rattle.std.proofs.Common.{ℕ, suc, ◌≡◌, ◌+◌, ◌<◌, List, length, Bool, true, false, map, ap, sym, subst, refl, ◌∙◌, arith, if◌then◌else◌}
use Rattle.std.specs.Prelude.{Contains, Some, slice_get}
use Rattle.std.proofs.lemmas.Bool.{true≢false}
use Rattle.std.proofs.lemmas.Option.{same_Some}
use Rattle.base_files.specs.Workspace.{Workspace}
use Rattle.go_scanner.specs.CutText.{token_at}
use Rattle.go_scanner.specs.TokenValues.{IsStringClass}
use Rattle.go_ast.specs.Kinds.{kinds_of}
use Rattle.go_ast.specs.SourceFile.{SourceFile, FileParts, source_of}
use Rattle.workspace_graph.specs.FileImports.{import_literals}
use Rattle.workspace_graph.specs.Packages.{PackageImports}
use Rattle.go_scope.specs.declared.model.Position.{Position}
use Rattle.go_scope.specs.declared.model.Purpose.TheVariants as purpose
use Rattle.go_scope.specs.declared.model.Role.{Role}
use Rattle.go_scope.specs.declared.model.Role.TheVariants.{NotLexical}
use Rattle.go_scope.specs.Bindings.{Layout, IsIdentifier, IsImport, MayDeclare, Counts, IsBoundTo, use_bound, own, block_of, is_implied}
use Rattle.go_scope.specs.FileSites.{universe, package_sites}
use Rattle.go_scope.specs.Named.{named_sites}
use Rattle.go_scope.specs.SpelledFiles.{spelled_file}
use Rattle.go_scope.specs.Packages.{scoped, layout_in}
use Rattle.go_scope.specs.Site.{or_blank}
use Rattle.go_scope.proofs.NamedSites.{place_stays}
use Rattle.go_scope.proofs.PackageRegions.{may_at}
use Rattle.types_declared.specs.Files.{HasLiteral}
use Rattle.types_declared.specs.Laid.{is_literal, literal_of}
use Rattle.law_tokens.specs.Covered.{IsIdentifierPlace, HasIdentifierAt}
use Rattle.law_tokens.specs.Tokens.{identifiers_among}
use Rattle.law_tokens.proofs.FileIdentifiers.{role_in}
use Rattle.law_tokens.proofs.OwnPaths.{package_sources, part_at}
use Rattle.law_tokens.proofs.Places.{one_has_place, named_has_one}
use Rattle.law_tokens.proofs.Roles.{role_keeps}
use Rattle.types_declared.specs.Package.{Package}
use Rattle.types_declared.specs.Written as written
use Rattle.workspace_check.specs.Verdicts.{Verdicts, IsPackageIn}
use Rattle.workspace_check.proofs.Importing.{literal_path}
use Rattle.workspace_check.proofs.PackageFiles.{entry_at}
use Rattle.types_info.specs.QualifiedIdentifiers.{NamesPackage}
use Rattle.refs_lookup.proofs.OnePlace.{names_of, laid_of, same_layout, same_size, same_files}
use Rattle.refs_lookup.proofs.HeaderStrings.{is_import_literal}
use Rattle.refs_lookup.proofs.ImportSites.{literal_within, literal_file, import_identifies}

literal_role : (r : Role) → is_literal r ≡ true → r ≡ NotLexical purpose.ImportPath
literal_role (NotLexical purpose.ImportPath) e = refl
literal_role r e = absurd (true≢false (sym e))

module _ (w : Workspace) (known : Verdicts) (path : List ℕ) (p : Package) (h : IsPackageIn w known path p) where
  -- An identifier or path literal of this file, with the number `n`.
  record IsLiteralIn (file n : ℕ) : Type 0 where
    within : n < p.size
    is_identifier : IsIdentifier p.layout n
    in_file : (p.layout.place n).file ≡ file

  pub role_at : (u : ℕ) → p.layout.role u ≡ role_in (named_sites (names_of w known path p h) (scoped h.files).sites) u
  role_at u = ap (λ (l : Layout). l.role u) (same_layout w known path p h)

  place_at : (u : ℕ) → p.layout.place u ≡ (or_blank (slice_get (scoped h.files).sites u)).place
  place_at u = ap (λ (l : Layout). l.place u) (same_layout w known path p h) ∙ place_stays (names_of w known path p h) (scoped h.files).sites u

  behind_name : (d : ℕ) → p.layout.role (suc d) ≡ NotLexical purpose.ImportPath → IsLiteralIn (p.layout.place d).file (suc d)
  unfolding package_sites
  behind_name d e =
      let names = names_of w known path p h in
      let sites = (scoped h.files).sites in
      let laid : role_in (named_sites names sites) (suc d) ≡ NotLexical purpose.ImportPath = sym (role_at (suc d)) ∙ e in
      let plain : role_in sites (suc d) ≡ NotLexical purpose.ImportPath = (role_keeps purpose.ImportPath refl names sites (suc d)).0 laid in
      record {
        within = subst (λ n. suc d < n) (sym (same_size w known path p h)) (literal_within (named_sites names sites) (suc d) laid);
        is_identifier = ap is_implied e;
        in_file =
            ap (λ (a : Position). a.file) (place_at (suc d)) ∙ literal_file universe (map spelled_file h.files) d plain
            ∙ sym (ap (λ (a : Position). a.file) (place_at d));
      }

  identifies : (d : ℕ) → IsImport p.layout d → IsIdentifier p.layout d
  unfolding package_sites
  identifies d i =
      let names = names_of w known path p h in
      ap is_implied (role_at d)
      ∙ import_identifies names universe (map spelled_file h.files) d i.0 (sym (ap block_of (role_at d)) ∙ i.1)

  counts_within : (d : ℕ) → Counts p.layout p.names d → d < p.size
  counts_within d c =
      let names = names_of w known path p h in
      let sites = named_sites names (scoped h.files).sites in
      subst (λ n. d < n) (sym (same_size w known path p h))
      (may_at sites d (subst (λ (l : Layout). MayDeclare l d) (same_layout w known path p h) c.declares.may))

  by_test : (d : ℕ) → IsImport p.layout d → d < p.size → (b : Bool) → is_literal (p.layout.role (d + 1)) ≡ b →
      IsLiteralIn (p.layout.place d).file (if b then d + 1 else d)
  by_test d i lt true e =
      let next : suc d ≡ d + 1 = omega arith in
      subst (IsLiteralIn (p.layout.place d).file) next
      (behind_name d (subst (λ n. p.layout.role n ≡ NotLexical purpose.ImportPath) (sym next) (literal_role (p.layout.role (d + 1)) e)))
  by_test d i lt false e = record { within = lt; is_identifier = identifies d i; in_file = refl }

  literal_at : (d : ℕ) → IsImport p.layout d → d < p.size → IsLiteralIn (p.layout.place d).file (literal_of p.layout d)
  literal_at d i lt = by_test d i lt (is_literal (p.layout.role (d + 1))) refl

  -- by its token
  token_of : (n : ℕ) → n < p.size → IsIdentifier p.layout n → IsIdentifierPlace h.files (p.layout.place n)
  token_of n lt i =
      let names = names_of w known path p h in
      let layout = same_layout w known path p h in
      let here : HasIdentifierAt p.layout p.size (p.layout.place n) = (n, (lt, (i, refl, refl))) in
      let sized : HasIdentifierAt p.layout (length (laid_of w known path p h).sites) (p.layout.place n) =
      subst (λ size. HasIdentifierAt p.layout size (p.layout.place n)) (same_size w known path p h) here in
      let laid : HasIdentifierAt (layout_in (laid_of w known path p h)) (length (laid_of w known path p h).sites) (p.layout.place n) =
      subst (λ l. HasIdentifierAt l (length (laid_of w known path p h).sites) (p.layout.place n)) layout sized in
      one_has_place h.files (package_sources w path h.files h.parsed) (p.layout.place n) ((named_has_one names (scoped h.files) (p.layout.place n)).1 laid)

  imported : (d : ℕ) (q : List ℕ) → d < p.size → written.DeclaresImport p d q → PackageImports w path q
  imported d q lt i =
      let s = i.of_path.source in
      let n = literal_of p.layout d in
      let place = p.layout.place n in
      let literal = literal_at d i.is_import lt in
      let one = token_of n literal.within literal.is_identifier in
      let in_files : slice_get (map source_of h.files) place.file ≡ Some s =
      subst (λ k. slice_get (map source_of h.files) k ≡ Some s) (sym literal.in_file)
      (subst (λ fs. slice_get fs (p.layout.place d).file ≡ Some s) (same_files w known path p h) i.of_path.is_file) in
      let part = part_at h.files place.file s in_files in
      let t = part.0 in
      let same : one.file ≡ t = same_Some one.file t (sym one.of_rank ∙ part.1.0) in
      let entry = entry_at h.parsed place.file t part.1.0 in
      let f = source_of t in
      let stated : HasLiteral f place.index q = subst (λ (x : SourceFile). HasLiteral x place.index q) (sym part.1.1) i.of_path.has_literal in
      let among = subst (λ (x : FileParts). Contains (identifiers_among (kinds_of x.cut)) one.token) same one.is_identifier in
      let string : IsStringClass (token_at f.cut one.token.place).class =
      subst (λ k. IsStringClass (token_at f.cut k).class) (sym one.stands) stated.is_string in
      let found : Contains (import_literals f.tree) place.index =
      subst (Contains (import_literals f.tree)) one.stands (is_import_literal f.tree f.cut entry.1.1.is_file.is_tree.written one.token among string) in
      record { entry = entry.0; of_package = entry.1.0; file = f; parsed = entry.1.1; imports = literal_path f place.index q found stated }

  pub counted : (u d : ℕ) → IsBoundTo p.layout p.names u d → Counts p.layout p.names d
  counted u d (use_bound is b) = b.counts
  counted u d (own e c) = c

  -- the path of a package whose name stands at a token
  pub named_is_imported : (file token : ℕ) (q : List ℕ) → NamesPackage p file token q → PackageImports w path q
  named_is_imported file token q n =
      imported n.import q (counts_within n.import (counted n.binds.identifier n.import n.binds.bound)) n.imports
