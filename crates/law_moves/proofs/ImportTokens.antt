-- The string literals of imports: each is among those of its file, and an import without a name declares the name that its package is known
-- by.
use Rattle.std.proofs.Common.{ℕ, zero, suc, ◌≡◌, ◌+◌, ◌<◌, List, [], ◌∷◌, length, Bool, true, false, map, ap, sym, subst, refl, ◌∙◌, arith, if◌then◌else◌}
use Rattle.std.specs.Prelude.{Contains, Option, Some, None, slice_get}
use Rattle.std.proofs.lemmas.Bool.{true≢false}
use Rattle.std.proofs.lemmas.Option.{none-some, same_Some}
use Rattle.base_files.specs.Workspace.{Workspace}
use Rattle.go_scanner.specs.CutText.{token_at}
use Rattle.go_scanner.specs.TokenValues.{IsStringClass}
use Rattle.go_ast.specs.Kinds.{kinds_of}
use Rattle.go_ast.specs.SourceFile.{SourceFile, FileParts, source_of}
use Rattle.workspace_graph.specs.FileImports.{import_literals}
use Rattle.go_scope.specs.declared.model.Position.{Position}
use Rattle.go_scope.specs.declared.model.Purpose.TheVariants as purpose
use Rattle.go_scope.specs.declared.model.Role.{Role}
use Rattle.go_scope.specs.declared.model.Role.TheVariants.{NotLexical}
use Rattle.go_scope.specs.Bindings.{Layout, IsIdentifier, IsImport, block_of, is_implied}
use Rattle.go_scope.specs.FileSites.{universe, package_sites}
use Rattle.go_scope.specs.Named.{is_unnamed_import, named_sites, named_where}
use Rattle.go_scope.specs.SpelledFiles.{spelled_file}
use Rattle.go_scope.specs.Packages.{scoped, layout_in}
use Rattle.go_scope.specs.Site.{Site, or_blank}
use Rattle.go_scope.proofs.NamedSites.{place_stays}
use Rattle.types_declared.specs.Files.{HasLiteral}
use Rattle.types_declared.specs.Laid.{is_literal, laid_in, literal_of, IsPathOf}
use Rattle.law_tokens.specs.Covered.{IsIdentifierPlace, HasIdentifierAt}
use Rattle.law_tokens.specs.Tokens.{identifiers_among}
use Rattle.law_tokens.proofs.FileIdentifiers.{role_in}
use Rattle.law_tokens.proofs.Ordered.{same_length}
use Rattle.law_tokens.proofs.OwnPaths.{package_sources, part_at}
use Rattle.law_tokens.proofs.Places.{one_has_place, named_has_one}
use Rattle.law_tokens.proofs.Roles.{role_keeps}
use Rattle.types_declared.specs.Package.{Package}
use Rattle.types_declared.specs.Written.{DeclaresImport}
use Rattle.workspace_check.specs.Verdicts.{Verdicts, IsPackageIn}
use Rattle.workspace_graph.specs.Packages.{PackageImports}
use Rattle.workspace_check.proofs.Importing.{literal_path}
use Rattle.workspace_check.proofs.PackageFiles.{entry_at}
use Rattle.refs_lookup.proofs.OnePlace.{names_of, laid_of, same_layout, same_size, same_files}
use Rattle.refs_lookup.proofs.HeaderStrings.{is_import_literal}
use Rattle.refs_lookup.proofs.ImportSites.{literal_within, literal_file, import_identifies}
use Rattle.law_faultless.proofs.Declared.{given, name_is, old_site, role_is, sites}
use Rattle.law_renamed_workspaces.proofs.Standing.{literal_role}
use Rattle.law_faultless.proofs.Meant.{literal_stays}

-- the name that is given to an import without a name
given_where : (b : Bool) (x : Site) (o : Option (List ℕ)) (name : List ℕ) → b ≡ true → o ≡ Some name → (named_where b o x).name ≡ name
given_where true x (Some n) name e is = same_Some n name is
given_where true x None name e is = absurd (none-some name is)
given_where false x o name e is = absurd (true≢false (sym e))

given_name : (names : ℕ → Option (List ℕ)) (xs : List Site) (u : ℕ) (name : List ℕ) → is_unnamed_import (or_blank (slice_get xs u)).role ≡ true →
    names u ≡ Some name → (or_blank (slice_get (named_sites names xs) u)).name ≡ name
unfolding named_sites
given_name names [] u name e is = absurd (true≢false (sym e))
given_name names (x ∷ xs) zero name e is = given_where (is_unnamed_import x.role) x (names 0) name e is
given_name names (x ∷ xs) (suc u) name e is = given_name (λ k. names (suc k)) xs u name e is

module _ (w : Workspace) (known : Verdicts) (path : List ℕ) (p : Package) (h : IsPackageIn w known path p) where
  -- An identifier or path literal of this file, with the number `n`.
  record IsLiteralIn (file n : ℕ) : Type 0 where
    within : n < p.size
    is_identifier : IsIdentifier p.layout n
    in_file : (p.layout.place n).file ≡ file

  role_at : (u : ℕ) → p.layout.role u ≡ role_in (named_sites (names_of w known path p h) (scoped h.files).sites) u
  role_at u = ap (λ (l : Layout). l.role u) (same_layout w known path p h)

  place_at : (u : ℕ) → p.layout.place u ≡ (or_blank (slice_get (scoped h.files).sites u)).place
  place_at u = ap (λ (l : Layout). l.place u) (same_layout w known path p h) ∙ place_stays (names_of w known path p h) (scoped h.files).sites u

  behind_name : (d : ℕ) → p.layout.role (suc d) ≡ NotLexical purpose.ImportPath → IsLiteralIn (p.layout.place d).file (suc d)
  unfolding package_sites
  behind_name d e =
      let names = names_of w known path p h in
      let sites = (scoped h.files).sites in
      let laid : role_in (named_sites names sites) (suc d) ≡ NotLexical purpose.ImportPath = sym (role_at (suc d)) ∙ e in
      let plain : role_in sites (suc d) ≡ NotLexical purpose.ImportPath = (role_keeps purpose.ImportPath refl names sites (suc d)).0 laid in
      record {
        within = subst (λ n. suc d < n) (sym (same_size w known path p h)) (literal_within (named_sites names sites) (suc d) laid);
        is_identifier = ap is_implied e;
        in_file =
            ap (λ (a : Position). a.file) (place_at (suc d)) ∙ literal_file universe (map spelled_file h.files) d plain
            ∙ sym (ap (λ (a : Position). a.file) (place_at d));
      }

  identifies : (d : ℕ) → IsImport p.layout d → IsIdentifier p.layout d
  unfolding package_sites
  identifies d i =
      let names = names_of w known path p h in
      ap is_implied (role_at d)
      ∙ import_identifies names universe (map spelled_file h.files) d i.0 (sym (ap block_of (role_at d)) ∙ i.1)

  by_test : (d : ℕ) → IsImport p.layout d → d < p.size → (b : Bool) → is_literal (p.layout.role (d + 1)) ≡ b →
      IsLiteralIn (p.layout.place d).file (if b then d + 1 else d)
  by_test d i lt true e =
      let next : suc d ≡ d + 1 = omega arith in
      subst (IsLiteralIn (p.layout.place d).file) next
      (behind_name d (subst (λ n. p.layout.role n ≡ NotLexical purpose.ImportPath) (sym next) (literal_role (p.layout.role (d + 1)) e)))
  by_test d i lt false e = record { within = lt; is_identifier = identifies d i; in_file = refl }

  literal_at : (d : ℕ) → IsImport p.layout d → d < p.size → IsLiteralIn (p.layout.place d).file (literal_of p.layout d)
  literal_at d i lt = by_test d i lt (is_literal (p.layout.role (d + 1))) refl

  -- by its token
  token_of : (n : ℕ) → n < p.size → IsIdentifier p.layout n → IsIdentifierPlace h.files (p.layout.place n)
  token_of n lt i =
      let names = names_of w known path p h in
      let layout = same_layout w known path p h in
      let here : HasIdentifierAt p.layout p.size (p.layout.place n) = (n, (lt, (i, refl, refl))) in
      let sized : HasIdentifierAt p.layout (length (laid_of w known path p h).sites) (p.layout.place n) =
      subst (λ size. HasIdentifierAt p.layout size (p.layout.place n)) (same_size w known path p h) here in
      let laid : HasIdentifierAt (layout_in (laid_of w known path p h)) (length (laid_of w known path p h).sites) (p.layout.place n) =
      subst (λ l. HasIdentifierAt l (length (laid_of w known path p h).sites) (p.layout.place n)) layout sized in
      one_has_place h.files (package_sources w path h.files h.parsed) (p.layout.place n) ((named_has_one names (scoped h.files) (p.layout.place n)).1 laid)

  -- a string literal of an import is among those of its file
  pub literal_among : (d : ℕ) → d < p.size → IsImport p.layout d → (s : SourceFile) → slice_get p.files (p.layout.place d).file ≡ Some s →
      IsStringClass (token_at s.cut (p.layout.place (literal_of p.layout d)).index).class →
      Contains (import_literals s.tree) (p.layout.place (literal_of p.layout d)).index
  literal_among d lt import s is_file is_string =
      let n = literal_of p.layout d in
      let place = p.layout.place n in
      let literal = literal_at d import lt in
      let one = token_of n literal.within literal.is_identifier in
      let in_files : slice_get (map source_of h.files) place.file ≡ Some s =
      subst (λ k. slice_get (map source_of h.files) k ≡ Some s) (sym literal.in_file)
      (subst (λ fs. slice_get fs (p.layout.place d).file ≡ Some s) (same_files w known path p h) is_file) in
      let part = part_at h.files place.file s in_files in
      let t = part.0 in
      let same : one.file ≡ t = same_Some one.file t (sym one.of_rank ∙ part.1.0) in
      let entry = entry_at h.parsed place.file t part.1.0 in
      let f = source_of t in
      let among = subst (λ (x : FileParts). Contains (identifiers_among (kinds_of x.cut)) one.token) same one.is_identifier in
      let string : IsStringClass (token_at f.cut one.token.place).class =
      subst (λ k. IsStringClass (token_at f.cut k).class) (sym one.stands)
      (subst (λ (x : SourceFile). IsStringClass (token_at x.cut place.index).class) (sym part.1.1) is_string) in
      let found : Contains (import_literals f.tree) place.index =
      subst (Contains (import_literals f.tree)) one.stands (is_import_literal f.tree f.cut entry.1.1.is_file.is_tree.written one.token among string) in
      subst (λ (x : SourceFile). Contains (import_literals x.tree) place.index) part.1.1 found

  -- the path of an import, without the names that imports declare

  abbrev all : List Site
  all = sites w known path p h

  plain_place : (n : ℕ) → p.layout.place n ≡ (layout_in (scoped h.files)).place n
  plain_place n = place_at n

  plain_number : (d : ℕ) → literal_of p.layout d ≡ literal_of (layout_in (scoped h.files)) d
  plain_number d = ap (λ b. if b then d + 1 else d) (ap is_literal (role_is w known path p h (d + 1)) ∙ literal_stays (given w known path p h) all (d + 1))

  plain_index : (d : ℕ) → (p.layout.place (literal_of p.layout d)).index
      ≡ ((layout_in (scoped h.files)).place (literal_of (layout_in (scoped h.files)) d)).index
  plain_index d = ap (λ n. (p.layout.place n).index) (plain_number d) ∙ ap (λ (a : Position). a.index) (plain_place (literal_of (layout_in (scoped h.files)) d))

  pub to_plain : (d : ℕ) (q : List ℕ) → DeclaresImport p d q → IsPathOf (map source_of h.files) (laid_in (scoped h.files)) d q
  to_plain d q i = record {
    source = i.of_path.source;
    is_file =
        ap (λ (a : Position). slice_get (map source_of h.files) a.file) (sym (plain_place d))
        ∙ ap (λ (fs : List SourceFile). slice_get fs (p.layout.place d).file) (sym (same_files w known path p h)) ∙ i.of_path.is_file;
    has_literal = subst (λ n. HasLiteral i.of_path.source n q) (plain_index d) i.of_path.has_literal;
  }

  pub to_laid : (d : ℕ) → IsImport p.layout d → (q : List ℕ) → IsPathOf (map source_of h.files) (laid_in (scoped h.files)) d q → DeclaresImport p d q
  to_laid d import q i = record {
    is_import = import;
    of_path = record {
      source = i.source;
      is_file =
          ap (λ (fs : List SourceFile). slice_get fs (p.layout.place d).file) (same_files w known path p h)
          ∙ ap (λ (a : Position). slice_get (map source_of h.files) a.file) (plain_place d) ∙ i.is_file;
      has_literal = subst (λ n. HasLiteral i.source n q) (sym (plain_index d)) i.has_literal;
    };
  }

  plain_within : (d : ℕ) → d < p.size → d < length all
  plain_within d lt = subst (λ n. d < n) (same_length (given w known path p h) all) (subst (λ n. d < n) (same_size w known path p h) lt)

  -- An import without a name, whose package has a name.
  pub declares_name : (d : ℕ) → d < p.size → is_unnamed_import (old_site w known path p h d).role ≡ true → (q : List ℕ) → DeclaresImport p d q →
      (name : List ℕ) → h.name_of q ≡ Some name → p.names d ≡ name
  declares_name d lt bare q i name is =
      let own = h.is_package.is_laid.are_names d (plain_within d lt) bare in
      name_is w known path p h d ∙ given_name (given w known path p h) all d name bare (own.known q (to_plain d q i) ∙ is)

  -- It has a path.
  pub has_path : (d : ℕ) → d < p.size → IsImport p.layout d → is_unnamed_import (old_site w known path p h d).role ≡ true → (name : List ℕ) →
      given w known path p h d ≡ Some name → ((q : List ℕ) → DeclaresImport p d q → ⊥) → ⊥
  has_path d lt import bare name is none =
      let own = h.is_package.is_laid.are_names d (plain_within d lt) bare in
      none-some name (sym (own.unknown (λ q i. none q (to_laid d import q i))) ∙ is)

  -- A package imports the path of each of its imports.
  pub import_is_counted : (d : ℕ) → d < p.size → (q : List ℕ) → DeclaresImport p d q → PackageImports w path q
  import_is_counted d lt q i =
      let n = literal_of p.layout d in
      let place = p.layout.place n in
      let literal = literal_at d i.is_import lt in
      let in_files : slice_get (map source_of h.files) place.file ≡ Some i.of_path.source =
      subst (λ k. slice_get (map source_of h.files) k ≡ Some i.of_path.source) (sym literal.in_file)
      (subst (λ fs. slice_get fs (p.layout.place d).file ≡ Some i.of_path.source) (same_files w known path p h) i.of_path.is_file) in
      let part = part_at h.files place.file i.of_path.source in_files in
      let entry = entry_at h.parsed place.file part.0 part.1.0 in
      let f = source_of part.0 in
      let stated : HasLiteral f place.index q = subst (λ (x : SourceFile). HasLiteral x place.index q) (sym part.1.1) i.of_path.has_literal in
      let found : Contains (import_literals f.tree) place.index =
      subst (λ (x : SourceFile). Contains (import_literals x.tree) place.index) (sym part.1.1)
      (literal_among d lt i.is_import i.of_path.source i.of_path.is_file i.of_path.has_literal.is_string) in
      record { entry = entry.0; of_package = entry.1.0; file = f; parsed = entry.1.1; imports = literal_path f place.index q found stated }
