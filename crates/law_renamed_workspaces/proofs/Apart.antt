-- One identifier, or literal of an import, of a package stands at a place; so one declaration does.
use Rattle.std.proofs.Common.{ℕ, zero, suc, ◌≡◌, ◌+◌, ◌<◌, Bool, true, false, List, [], ◌∷◌, map, ap, sym, subst, refl, ◌∙◌, arith, if◌then◌else◌}
use Rattle.std.specs.Prelude.{Option, Some, None, slice_get}
use Rattle.std.proofs.lemmas.Bool.{true≢false}
use Rattle.base_files.specs.Path.{folder}
use Rattle.base_files.specs.Workspace.{Workspace}
use Rattle.base_files.specs.declared.place.Place.{Place}
use Rattle.go_ast.specs.SourceFile.{SourceFile, FileParts, source_of}
use Rattle.go_scope.specs.declared.model.Purpose.TheVariants as purpose
use Rattle.go_scope.specs.declared.model.Role.{Role}
use Rattle.go_scope.specs.declared.model.Role.TheVariants.{NotLexical}
use Rattle.go_scope.specs.Bindings.{Layout, IsIdentifier, Counts, is_implied, may_declare}
use Rattle.go_scope.specs.Named.{named_sites}
use Rattle.go_scope.specs.Packages.{ScopedPackage, IsPlaceOf, IsAtPlace}
use Rattle.types_declared.specs.Laid.{is_literal, literal_of}
use Rattle.types_declared.specs.Package.{Package}
use Rattle.law_tokens.proofs.FileIdentifiers.{role_in}
use Rattle.law_tokens.proofs.HeldBytes.{one_named_begins}
use Rattle.law_tokens.proofs.OwnPaths.{own_paths, package_sources, part_at}
use Rattle.workspace_check.specs.Verdicts.{Verdicts, IsPackageIn}
use Rattle.workspace_check.proofs.PackageFiles.{entry_at, in_folder}
use Rattle.refs_binding.specs.Binding.{IsPredeclaredNumber}
use Rattle.refs_binding.specs.DeclaringPlaces.{TokenAt, TokenBegins}
use Rattle.refs_binding.specs.Identifiers.{BeginsAt, NameBegins, file_of}
use Rattle.refs_binding.proofs.Folders.{some_file}
use Rattle.refs_lookup.proofs.ImportSites.{literal_within}
use Rattle.refs_lookup.proofs.OnePlace.{names_of, laid_of, same_layout, same_size, same_files}
use Rattle.refactor_conflict.specs.ScopedPackages.{IsScopedIn}
use Rattle.law_faultless.proofs.Declared.{given, sites, role_is, may_within}
use Rattle.law_renamed_workspaces.proofs.OwnNames.{identifies}
use Rattle.law_renamed_workspaces.proofs.Standing.{literal_role}

place_of_token : (files : List FileParts) (k token : ℕ) (place : Place) → TokenBegins (slice_get (map source_of files) k) token place →
    IsPlaceOf (slice_get files k) token place.path place.offset
place_of_token [] k token place h = absurd h
place_of_token (f ∷ fs) zero token place h = h
place_of_token (f ∷ fs) (suc k) token place h = place_of_token fs k token place h

pub name_token : (o : Option SourceFile) (i : ℕ) (place : Place) → NameBegins o i place.path place.offset → TokenBegins o i place
name_token None i place h = absurd h
name_token (Some f) i place h = (h.1, h.2)

-- a literal declares nothing, so one declaration has it

literal_declares : (r : Role) → is_literal r ≡ true → may_declare r ≡ true → ⊥
literal_declares r e may = true≢false (sym may ∙ ap may_declare (literal_role r e))

module _ (l : Layout) (a b : ℕ) (may : may_declare (l.role a) ≡ true) (also : may_declare (l.role b) ≡ true) where
  by_tests : (x y : Bool) → is_literal (l.role (a + 1)) ≡ x → is_literal (l.role (b + 1)) ≡ y → (if x then a + 1 else a) ≡ (if y then b + 1 else b) → a ≡ b
  by_tests true true e f same = omega arith
  by_tests false false e f same = same
  by_tests true false e f same = absurd (literal_declares (l.role b) (ap (λ n. is_literal (l.role n)) (sym same) ∙ e) also)
  by_tests false true e f same = absurd (literal_declares (l.role a) (ap (λ n. is_literal (l.role n)) same ∙ f) may)

  pub one_of_literal : literal_of l a ≡ literal_of l b → a ≡ b
  one_of_literal same = by_tests (is_literal (l.role (a + 1))) (is_literal (l.role (b + 1))) refl refl same

module _ (w : Workspace) (known : Verdicts) (path : List ℕ) (p : Package) (h : IsPackageIn w known path p) where
  abbrev table : ScopedPackage
  table = laid_of w known path p h

  at_place : (u : ℕ) (place : Place) → IsIdentifier p.layout u → TokenAt p (p.layout.place u) place → IsAtPlace table place.path place.offset u
  at_place u place i t =
      let layout = same_layout w known path p h in
      let own : TokenBegins (slice_get (map source_of h.files) (p.layout.place u).file) (p.layout.place u).index place =
      subst (λ fs. TokenBegins (slice_get fs (p.layout.place u).file) (p.layout.place u).index place) (same_files w known path p h) t in
      subst (λ (l : Layout). IsIdentifier l u × IsPlaceOf (slice_get h.files (l.place u).file) (l.place u).index place.path place.offset) layout
      (i, place_of_token h.files (p.layout.place u).file (p.layout.place u).index place own)

  pub one_stands : (a b : ℕ) (place : Place) → a < p.size → b < p.size → IsIdentifier p.layout a → IsIdentifier p.layout b →
      TokenAt p (p.layout.place a) place →
      TokenAt p (p.layout.place b) place → a ≡ b
  one_stands a b place la lb ia ib ta tb =
      let size = same_size w known path p h in
      one_named_begins (names_of w known path p h) h.files (package_sources w path h.files h.parsed) (own_paths w path h.files h.parsed)
      place.path place.offset a b
      (subst (λ n. a < n) size la) (subst (λ n. b < n) size lb) (at_place a place ia ta) (at_place b place ib tb)

  -- the literal, or else the name, of a declaration that counts

  by_test : (d : ℕ) → Counts p.layout p.names d → (IsPredeclaredNumber d → ⊥) → (b : Bool) → is_literal (p.layout.role (d + 1)) ≡ b →
      ((if b then d + 1 else d) < p.size) × IsIdentifier p.layout (if b then d + 1 else d)
  by_test d c other true e =
      let role = literal_role (p.layout.role (d + 1)) e in
      let there : role_in (named_sites (given w known path p h) (sites w known path p h)) (d + 1) ≡ NotLexical purpose.ImportPath =
      sym (role_is w known path p h (d + 1)) ∙ role in (
        subst (λ n. d + 1 < n) (sym (same_size w known path p h))
            (literal_within (named_sites (given w known path p h) (sites w known path p h)) (d + 1) there),
        ap is_implied role,
      )
  by_test d c other false e = (may_within w known path p h d c.declares.may, identifies w known path p h d other)

  pub literal_stands : (d : ℕ) → Counts p.layout p.names d → (IsPredeclaredNumber d → ⊥) →
      (literal_of p.layout d < p.size) × IsIdentifier p.layout (literal_of p.layout d)
  literal_stands d c other = by_test d c other (is_literal (p.layout.role (d + 1))) refl

-- an identifier of a package, as scopes see it, lies in the package's folder
pub scoped_in_folder : (w : Workspace) (x : Package) → IsScopedIn w x → (path : List ℕ) (offset v : ℕ) → BeginsAt x path offset v → x.path ≡ folder path
scoped_in_folder w x is path offset v b =
    let k = (x.layout.place v).file in
    let f = some_file (file_of x v) (x.layout.place v).index path offset b.1 in
    let t = part_at is.files k f.0 (subst (λ fs. slice_get fs k ≡ Some f.0) (ap (λ (y : Package). y.files) is.is_package.is_package) f.1.0) in
    let e = entry_at is.parsed k t.0 t.1.0 in
    sym (in_folder w x.path e.0 e.1.0)
    ∙ ap folder (sym e.1.1.of_path ∙ ap (λ (z : SourceFile). z.path) t.1.1 ∙ f.1.1)
