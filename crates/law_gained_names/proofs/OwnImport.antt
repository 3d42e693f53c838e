-- An import without a name in a workspace without faults: its literal, its path, its spec and the name that it declares.
use Rattle.std.proofs.Common.{ℕ, suc, ◌≡◌, ◌+◌, ◌<◌, ◌⊎◌, inl, inr, true, false, List, [], Option, Some, None, length, map, refl, sym, ap, ◌∙◌}
use Rattle.std.proofs.Common.{subst, arith, if◌then◌else◌}
use Rattle.std.specs.Prelude.{Contains, slice_get}
use Rattle.std.proofs.lemmas.Bool.{true≢false}
use Rattle.std.proofs.lemmas.List.Elements.{All-contains, All-from_recursion}
use Rattle.std.proofs.lemmas.Option.{none-some, same_Some, slice_get-map, slice_get_within}
use Rattle.std.specs.Option.{option_map}
use Rattle.base_files.specs.Workspace.{Workspace}
use Rattle.go_ast.specs.declared.syntax.Kind.TheVariants as kind
use Rattle.go_ast.specs.Kinds.{kinds_of}
use Rattle.go_ast.specs.SourceFile.{FileParts, SourceFile, source_of}
use Rattle.go_ast.specs.Tree.{ImportTree}
use Rattle.go_scanner.specs.declared.piece.Class.{Class}
use Rattle.go_scanner.specs.declared.piece.Class.TheVariants as class
use Rattle.go_scanner.specs.CutText.{token_at}
use Rattle.go_scanner.specs.TokenValues.{IsStringClass}
use Rattle.go_scope.specs.declared.model.Block.TheVariants.{File, Universe}
use Rattle.go_scope.specs.declared.model.Position.{Position}
use Rattle.go_scope.specs.declared.model.Purpose.TheVariants as purpose
use Rattle.go_scope.specs.declared.model.Role.{Role}
use Rattle.go_scope.specs.declared.model.Role.TheVariants.{NotLexical}
use Rattle.go_scope.specs.Bindings.{IsImport, block_of, is_implied}
use Rattle.go_scope.specs.FileSites.{SpelledFile, file_sites, files_sites, import_purpose, package_sites, universe}
use Rattle.go_scope.specs.Named.{is_unnamed_import}
use Rattle.go_scope.specs.Packages.{layout_in, scoped}
use Rattle.go_scope.specs.Site.{Site, TokenSpellings, or_blank, sites_layout}
use Rattle.go_scope.specs.SpelledFiles.{spelled_file}
use Rattle.go_scope.specs.Table.{LiesAt}
use Rattle.go_scope.proofs.NamedSites.{place_stays}
use Rattle.law_tokens.specs.Covered.{HasIdentifierAt, IsIdentifierPlace}
use Rattle.law_tokens.specs.Tokens.{identifiers_among}
use Rattle.law_tokens.proofs.HeldBytes.{numbered_files}
use Rattle.law_tokens.proofs.Ordered.{one_stands, package_ordered, same_length}
use Rattle.law_tokens.proofs.OwnPaths.{part_at}
use Rattle.law_tokens.proofs.Places.{one_has_place}
use Rattle.law_tokens.proofs.Roles.{role_keeps}
use Rattle.types_declared.specs.Files.{HasLiteral, imports_in}
use Rattle.types_declared.specs.Laid.{IsPathOf, is_literal, laid_in, literal_of}
use Rattle.types_declared.specs.Package.{Package}
use Rattle.types_declared.specs.PackageNames.{IsPackageName}
use Rattle.workspace_graph.specs.FileImports.{import_literals}
use Rattle.workspace_check.specs.FaultLists.{ListsFaults}
use Rattle.workspace_check.specs.Verdicts.{IsPackageIn, Verdicts}
use Rattle.workspace_check.proofs.PackageFiles.{entry_at}
use Rattle.refs_binding.specs.Uses.{IsCheckedPackage}
use Rattle.refs_lookup.proofs.HeaderStrings.{is_import_literal}
use Rattle.refs_lookup.proofs.ImportSites.{import_identifies}
use Rattle.refs_lookup.proofs.NamedImports.{role_at}
use Rattle.refs_lookup.proofs.OnePlace.{names_of, same_files, same_size}
use Rattle.law_faultless.proofs.Declared.{given, kept, name_is, new_site, old_site, place_is, role_is, sites, sources}
use Rattle.law_faultless.proofs.FilesDecided.{paired_at, universe_paired}
use Rattle.law_faultless.proofs.Numbers.{IsKept, IsTextAt, IsTold, files_paired, laid, plain, universal}
use Rattle.law_faultless.proofs.PackageWorlds.{strings_known}
use Rattle.law_faultless.proofs.Sites.{IsNumbered, all_numbered}
use Rattle.law_faultless.proofs.Meant.{literal_stays}
use Rattle.law_gained_names.proofs.OwnTrees.{import_of_literal, literal_among, literal_site}

-- whether a token is a string is decided
string_or_not : (c : Class) → IsStringClass c ⊎ (IsStringClass c → ⊥)
string_or_not class.InterpretedString = inl (inl refl)
string_or_not class.RawString = inl (inr refl)
string_or_not _ = inr (λ h. elim h [ inl e ↦ (let z : ⊥ = cc in z) | inr e ↦ (let z : ⊥ = cc in z) ])

unnamed_or_named : (o : Option ℕ) → is_unnamed_import (NotLexical (import_purpose o)) ≡ true → o ≡ None
unnamed_or_named None e = refl
unnamed_or_named (Some n) e = absurd (true≢false (sym e))

module _ (w : Workspace) (sound : ListsFaults w []) (p : Package) (is : IsCheckedPackage w sound.known p) (d : ℕ) (lt : d < p.size)
    (unnamed : IsImport p.layout d × (literal_of p.layout d ≡ d)) where
  abbrev pub known : Verdicts
  known = sound.known

  abbrev pub h : IsPackageIn w known p.path p
  h = is.is_checked

  abbrev pub at : Position
  at = p.layout.place d

  abbrev old : Site
  old = old_site w known p.path p h d

  abbrev new : Site
  new = new_site w known p.path p h d

  abbrev all : List Site
  all = sites w known p.path p h

  abbrev fs : List SpelledFile
  fs = map spelled_file h.files

  -- it declares by the name of its package, and not by one of its own

  no_name_behind : old ≡ new → ⊥
  unfolding package_sites
  no_name_behind e =
      let names = given w known p.path p h in
      let block : block_of old.role ≡ File unnamed.0.0 =
      ap (λ (x : Site). block_of x.role) e ∙ sym (ap block_of (role_is w known p.path p h d)) ∙ unnamed.0.1 in
      let behind = paired_at (IsTextAt 0 h.files) all
      (universe_paired (IsTextAt 0 h.files) universe (files_sites 0 fs) (files_paired 0 h.files (sources w known p.path p h))) d unnamed.0.0 block in
      let role : p.layout.role (suc d) ≡ NotLexical purpose.ImportPath =
      role_is w known p.path p h (suc d) ∙ (role_keeps purpose.ImportPath refl names all (suc d)).1 behind.0 in
      let next : suc d ≡ d + 1 = omega arith in
      let literal : is_literal (p.layout.role (d + 1)) ≡ true = ap (λ n. is_literal (p.layout.role n)) (sym next) ∙ ap is_literal role in
      let number : literal_of p.layout d ≡ d + 1 = ap (λ b. if b then d + 1 else d) literal in
      let same : d ≡ d + 1 = sym unnamed.1 ∙ number in
      omega arith

  record IsLaidHere : Type 0 where
    is_unnamed : is_unnamed_import old.role ≡ true
    is_given : given w known p.path p h d ≡ Some (p.names d)

  here : IsLaidHere
  here = by_kind (kept w known p.path p h d lt)
    where
      by_kind : IsKept (IsTold 0 h.files) universe (given w known p.path p h d) old new → IsLaidHere
      by_kind (universal r n) =
          let e : Universe ≡ File unnamed.0.0 = sym (ap block_of (role_is w known p.path p h d ∙ r)) ∙ unnamed.0.1 in
          absurd (let z : ⊥ = cc in z)
      by_kind (plain e t) = absurd (no_name_behind e)
      by_kind (laid u g r) = record { is_unnamed = u; is_given = g ∙ ap Some (sym (name_is w known p.path p h d)) }

  within : d < length all
  within = subst (λ n. d < n) (same_length (given w known p.path p h) all) (subst (λ n. d < n) (same_size w known p.path p h) lt)

  own : IsPackageName (map source_of h.files) h.name_of (laid_in (scoped h.files)) d (given w known p.path p h d)
  own = h.is_package.is_laid.are_names d within here.is_unnamed

  plain_number : literal_of (layout_in (scoped h.files)) d ≡ d
  plain_number =
      sym (ap (λ b. if b then d + 1 else d)
      (ap is_literal (role_is w known p.path p h (d + 1)) ∙ literal_stays (given w known p.path p h) all (d + 1)))
      ∙ unnamed.1

  plain_place : at ≡ old.place
  plain_place = place_is w known p.path p h d ∙ place_stays (given w known p.path p h) all d

  module _ (f : SourceFile) (of_rank : slice_get p.files at.file ≡ Some f) where
    pub in_files : slice_get (map source_of h.files) at.file ≡ Some f
    in_files = ap (λ (xs : List SourceFile). slice_get xs at.file) (sym (same_files w known p.path p h)) ∙ of_rank

    -- its path

    from_plain : (q : List ℕ) → IsPathOf (map source_of h.files) (laid_in (scoped h.files)) d q → HasLiteral f at.index q
    from_plain q i =
        let file : slice_get (map source_of h.files) at.file ≡ Some i.source =
        ap (λ (a : Position). slice_get (map source_of h.files) a.file) plain_place ∙ i.is_file in
        let same : i.source ≡ f = same_Some i.source f (sym file ∙ in_files) in
        let index : ((layout_in (scoped h.files)).place (literal_of (layout_in (scoped h.files)) d)).index ≡ at.index =
        ap (λ n. ((layout_in (scoped h.files)).place n).index) plain_number ∙ ap (λ (a : Position). a.index) (sym plain_place) in
        subst (λ (s : SourceFile). HasLiteral s at.index q) same (subst (λ n. HasLiteral i.source n q) index i.has_literal)

    to_plain : (q : List ℕ) → HasLiteral f at.index q → IsPathOf (map source_of h.files) (laid_in (scoped h.files)) d q
    to_plain q literal =
        let index : at.index ≡ ((layout_in (scoped h.files)).place (literal_of (layout_in (scoped h.files)) d)).index =
        ap (λ (a : Position). a.index) plain_place ∙ ap (λ n. ((layout_in (scoped h.files)).place n).index) (sym plain_number) in
        record {
          source = f;
          is_file = ap (λ (a : Position). slice_get (map source_of h.files) a.file) (sym plain_place) ∙ in_files;
          has_literal = subst (λ n. HasLiteral f n q) index literal;
        }

    pub path : (q : List ℕ) × HasLiteral f at.index q
    path = elim (string_or_not (token_at f.cut at.index).class) [
      | inl string ↦
          let value = strings_known w sound known sound.right p is at.file f of_rank at.index string in
          (value.0, record { is_string = string; stands_for = value.1 })
      | inr other ↦ absurd (none-some (p.names d) (sym (own.unknown (λ q i. other (from_plain q i).is_string)) ∙ here.is_given))
    ]

    -- its name is that of the package at the path
    pub named : h.name_of path.0 ≡ Some (p.names d)
    named = sym (own.known path.0 (to_plain path.0 path.1)) ∙ here.is_given

    -- its spec

    abbrev pub part : FileParts
    part = (part_at h.files at.file f in_files).0

    pub part_ranked : slice_get h.files at.file ≡ Some part
    part_ranked = (part_at h.files at.file f in_files).1.0

    pub part_is : source_of part ≡ f
    part_is = (part_at h.files at.file f in_files).1.1

    identifies : is_implied (p.layout.role d) ≡ false
    unfolding package_sites
    identifies =
        ap is_implied (role_at w known p.path p h d)
        ∙ import_identifies (names_of w known p.path p h) universe fs d unnamed.0.0
        (sym (ap block_of (role_at w known p.path p h d)) ∙ unnamed.0.1)

    old_identifies : is_implied old.role ≡ false
    old_identifies = unnamed_identifies old.role here.is_unnamed
      where
        unnamed_identifies : (r : Role) → is_unnamed_import r ≡ true → is_implied r ≡ false
        unnamed_identifies (NotLexical purpose.UnnamedImport) e = refl
        unnamed_identifies r e = absurd (true≢false (sym e))

    place_of : IsIdentifierPlace h.files at
    place_of =
        let there : HasIdentifierAt (layout_in (scoped h.files)) (length all) at =
        (d, (within, (old_identifies, ap (λ (a : Position). a.file) (sym plain_place), ap (λ (a : Position). a.index) (sym plain_place)))) in
        one_has_place h.files (sources w known p.path p h) at there

    in_literals : Contains (import_literals f.tree) at.index
    in_literals =
        let one = place_of in
        let t = part in
        let same : one.file ≡ t = same_Some one.file t (sym one.of_rank ∙ part_ranked) in
        let entry = entry_at h.parsed at.file t part_ranked in
        let among = subst (λ (x : FileParts). Contains (identifiers_among (kinds_of x.cut)) one.token) same one.is_identifier in
        let string : IsStringClass (token_at (source_of t).cut one.token.place).class =
        subst (λ k. IsStringClass (token_at (source_of t).cut k).class) (sym one.stands)
        (subst (λ (x : SourceFile). IsStringClass (token_at x.cut at.index).class) (sym part_is) path.1.is_string) in
        let found : Contains (import_literals (source_of t).tree) at.index =
        subst (Contains (import_literals (source_of t).tree)) one.stands
        (is_import_literal (source_of t).tree (source_of t).cut entry.1.1.is_file.is_tree.written one.token among string) in
        subst (λ (x : SourceFile). Contains (import_literals x.tree) at.index) part_is found

    abbrev spec : (i : ImportTree) × (Contains (imports_in f.tree) i × (i.path ≡ at.index))
    spec = import_of_literal f.tree at.index in_literals

    -- the identifier of its literal is that of the import
    numbered : IsNumbered fs at.file (literal_site (record { rank = at.file; spell = (spelled_file part).spell }) spec.0)
    numbered =
        let s : TokenSpellings = record { rank = at.file; spell = (spelled_file part).spell } in
        let got : slice_get fs at.file ≡ Some (spelled_file part) = slice_get-map spelled_file h.files at.file ∙ ap (option_map spelled_file) part_ranked in
        let has : Contains (file_sites s (spelled_file part).tree) (literal_site s spec.0) =
        literal_among s spec.0 (spelled_file part).tree
        (subst (λ (x : SourceFile). Contains (imports_in x.tree) spec.0) (sym part_is) spec.1.0) in
        All-contains (IsNumbered fs at.file) (file_sites s (spelled_file part).tree) (literal_site s spec.0)
        (All-from_recursion (IsNumbered fs at.file) (file_sites s (spelled_file part).tree) (all_numbered fs at.file (spelled_file part) got)) has

    same_number : numbered.number ≡ d
    unfolding package_sites
    same_number =
        let k = numbered in
        let x = literal_site (record { rank = at.file; spell = (spelled_file part).spell }) spec.0 in
        let stands : LiesAt (sites_layout all) at k.number = (
          ap (λ (o : Option Site). is_implied (or_blank o).role) k.has_number ∙ k.identifies,
          ap (λ (o : Option Site). (or_blank o).place.file) k.has_number,
          ap (λ (o : Option Site). (or_blank o).place.index) k.has_number ∙ spec.1.1,
        ) in
        let there : LiesAt (sites_layout all) at d =
        (old_identifies, ap (λ (a : Position). a.file) (sym plain_place), ap (λ (a : Position). a.index) (sym plain_place)) in
        one_stands (sites_layout all) (length all) (package_ordered fs (numbered_files h.files (sources w known p.path p h))) at k.number d
        (slice_get_within all k.number x k.has_number) within stands there

    bare : spec.0.name ≡ None
    unfolding package_sites
    bare =
        unnamed_or_named spec.0.name
        (sym (ap (λ (o : Option Site). is_unnamed_import (or_blank o).role) numbered.has_number)
        ∙ ap (λ n. is_unnamed_import (or_blank (slice_get all n)).role) same_number ∙ here.is_unnamed)

    pub import_spec : (i : ImportTree) × (Contains (imports_in f.tree) i × ((i.name ≡ None) × (i.path ≡ at.index)))
    import_spec = (spec.0, (spec.1.0, (bare, spec.1.1)))
