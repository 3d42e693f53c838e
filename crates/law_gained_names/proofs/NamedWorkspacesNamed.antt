-- What imports without a name declare, after one of them got a name.
use Rattle.std.proofs.Common.{ℕ, suc, ◌≡◌, ◌+◌, ◌⊎◌, inl, inr, List, ◌∷◌, ◌++◌, Option, Some, None, length, map, refl, sym, ap, ◌∙◌, subst, arith}
use Rattle.std.proofs.Common.{Bool, true, false, if◌then◌else◌}
use Rattle.std.specs.Prelude.{◌↔◌, cond, nat_eq, slice_get}
use Rattle.std.proofs.lemmas.Bool.{cases_eq, eqb-true, false_from_ne_true}
use Rattle.std.proofs.lemmas.List.{length-map, map-append}
use Rattle.std.proofs.lemmas.Option.{none-some, same_Some}
use Rattle.go_ast.specs.SourceFile.{FileParts, SourceFile, source_of}
use Rattle.go_scope.specs.declared.model.Position.{Position}
use Rattle.go_scope.specs.Moves.{moved_place}
use Rattle.go_scope.specs.Named.{is_unnamed_import, named_sites}
use Rattle.go_scope.specs.Packages.{layout_in, scoped}
use Rattle.go_scope.specs.Site.{Site, or_blank}
use Rattle.law_tokens.specs.Covered.{AreSourceFiles}
use Rattle.law_tokens.proofs.FileIdentifiers.{role_in}
use Rattle.law_rename.specs.Around.{from_on}
use Rattle.law_rename.specs.Gained.{Gain, HasGained, KeepNames, import_site, moved_by, unnamed_site}
use Rattle.law_rename.proofs.Laying.{known_laid}
use Rattle.law_rename.proofs.Sites.{moved_here}
use Rattle.law_rename.proofs.TokensBehind.{seam}
use Rattle.law_renamed_workspaces.proofs.Standing.{literal_role}
use Rattle.types_declared.specs.Files.{HasLiteral}
use Rattle.types_declared.specs.Laid.{IsPathOf, is_literal, laid_in, literal_of}
use Rattle.types_declared.specs.PackageNames.{ArePackageNames}
use Rattle.types_declared.proofs.ByteKeys.{cases_bytes}
use Rattle.law_gained_names.proofs.NamedImportsFiles.{files_else}
use Rattle.law_gained_names.specs.GainedName.{ImportGainsName}
use Rattle.law_gained_names.proofs.Bare.{bare_behind}
use Rattle.law_gained_names.proofs.Standing.{i, new_sources, gained, unnamed_within, stood_at, unnamed_else}
use Rattle.law_gained_names.proofs.Standing.{place_else}
use Rattle.law_gained_names.proofs.Values.{values}

-- two names, or none, are the same or not
cases_names : (a b : Option (List ℕ)) → (a ≡ b) ⊎ (a ≡ b → ⊥)
cases_names None None = inl refl
cases_names None (Some y) = inr (λ e. none-some y e)
cases_names (Some x) None = inr (λ e. none-some x (sym e))
cases_names (Some x) (Some y) = elim (cases_bytes x y) [
  | inl same ↦ inl (ap Some same)
  | inr other ↦ inr (λ e. other (cc))
]

-- a literal at a position of files

record LiteralAt (files : List SourceFile) (at : Position) (path : List ℕ) : Type 0 where
  source : SourceFile
  is_file : slice_get files at.file ≡ Some source
  has_literal : HasLiteral source at.index path

-- the literal of an import without a name is its own identifier
module _ (files : List FileParts) (sources : AreSourceFiles files) where
  abbrev sites : List Site
  sites = (scoped files).sites

  pub own_literal : (u : ℕ) → is_unnamed_import (role_in sites u) ≡ true → literal_of (layout_in (scoped files)) u ≡ u
  own_literal u unnamed = by_test (is_literal (role_in sites (u + 1))) refl
    where
      by_test : (b : Bool) → is_literal (role_in sites (u + 1)) ≡ b → (if is_literal (role_in sites (u + 1)) then u + 1 else u) ≡ u
      by_test true is =
          let next : u + 1 ≡ suc u = omega arith in
          absurd (bare_behind files sources u unnamed
          (literal_role (role_in sites (suc u)) (subst (λ n. is_literal (role_in sites n) ≡ true) next is)))
      by_test false is = ap (λ b. if b then u + 1 else u) is

  to_literal : (u : ℕ) (path : List ℕ) → is_unnamed_import (role_in sites u) ≡ true → IsPathOf (map source_of files) (laid_in (scoped files)) u path →
      LiteralAt (map source_of files) (or_blank (slice_get sites u)).place path
  to_literal u path unnamed h = record {
    source = h.source;
    is_file = h.is_file;
    has_literal = subst (λ n. HasLiteral h.source (or_blank (slice_get sites n)).place.index path) (own_literal u unnamed) h.has_literal;
  }

  from_literal : (u : ℕ) (path : List ℕ) → is_unnamed_import (role_in sites u) ≡ true →
      LiteralAt (map source_of files) (or_blank (slice_get sites u)).place path → IsPathOf (map source_of files) (laid_in (scoped files)) u path
  from_literal u path unnamed h = record {
    source = h.source;
    is_file = h.is_file;
    has_literal = subst (λ n. HasLiteral h.source (or_blank (slice_get sites n)).place.index path) (sym (own_literal u unnamed)) h.has_literal;
  }

module _ (number : ℕ) (first rest : List FileParts) (before after : FileParts) (g : ImportGainsName number before after)
    (sources : AreSourceFiles (first ++ before ∷ rest)) where
  abbrev pub olds : List FileParts
  olds = first ++ before ∷ rest

  abbrev pub news : List FileParts
  news = first ++ after ∷ rest

  abbrev pub gain : Gain
  gain = i number first rest before after g sources

  abbrev pub at : ℕ
  at = (gained number first rest before after g sources).0

  abbrev pub has : HasGained gain (unnamed_site gain) at (scoped olds).sites (scoped news).sites
  has = (gained number first rest before after g sources).1

  -- files by their ranks

  ranked : (f : FileParts) (file : ℕ) → file ≡ length first → slice_get (map source_of (first ++ f ∷ rest)) file ≡ Some (source_of f)
  ranked f file is =
      ap (λ fs. slice_get fs file) (map-append source_of first (f ∷ rest))
      ∙ ap (slice_get (map source_of first ++ source_of f ∷ map source_of rest)) (is ∙ sym (length-map first source_of))
      ∙ seam (map source_of first) (map source_of rest) (source_of f)

  other_file : (file : ℕ) → (file ≡ length first → ⊥) → slice_get (map source_of news) file ≡ slice_get (map source_of olds) file
  other_file file other =
      ap (λ fs. slice_get fs file) (map-append source_of first (after ∷ rest))
      ∙ files_else (map source_of first) (map source_of rest) (source_of before) (source_of after) file (λ is. other (is ∙ length-map first source_of))
      ∙ sym (ap (λ fs. slice_get fs file) (map-append source_of first (before ∷ rest)))

  other_number : (file n : ℕ) → (file ≡ length first → ⊥) → moved_by gain file n ≡ n
  other_number file n other =
      ap (λ b. cond b (from_on number n) n) (false_from_ne_true (nat_eq file (length first)) (λ is. other (eqb-true file (length first) is)))

  here_number : (file n : ℕ) → file ≡ length first → moved_by gain file n ≡ from_on number n
  here_number file n is = ap (λ f. moved_by gain f n) is ∙ ap (λ h. h n) (moved_here gain)

  -- literals

  same_values : (n : ℕ) (value : List ℕ) → HasLiteral (source_of before) n value ↔ HasLiteral (source_of after) (from_on number n) value
  same_values n value = values g.put number g.may g.literal (source_of before) (source_of after) g.old_cut g.new_cut n value

  kept : (z : Position) (path : List ℕ) → LiteralAt (map source_of olds) z path → LiteralAt (map source_of news) (moved_place (moved_by gain) z) path
  kept z path l = elim (cases_eq z.file (length first)) [
    | inl is ↦ record {
      source = source_of after;
      is_file = ranked after z.file is;
      has_literal =
          let source : l.source ≡ source_of before = same_Some l.source (source_of before) (sym l.is_file ∙ ranked before z.file is) in
          subst (λ m. HasLiteral (source_of after) m path) (sym (here_number z.file z.index is))
          ((same_values z.index path).0 (subst (λ s. HasLiteral s z.index path) source l.has_literal));
    }
    | inr other ↦ record {
      source = l.source;
      is_file = other_file z.file other ∙ l.is_file;
      has_literal = subst (λ m. HasLiteral l.source m path) (sym (other_number z.file z.index other)) l.has_literal;
    }
  ]

  kept_back : (z : Position) (path : List ℕ) → LiteralAt (map source_of news) (moved_place (moved_by gain) z) path → LiteralAt (map source_of olds) z path
  kept_back z path l = elim (cases_eq z.file (length first)) [
    | inl is ↦ record {
      source = source_of before;
      is_file = ranked before z.file is;
      has_literal =
          let source : l.source ≡ source_of after = same_Some l.source (source_of after) (sym l.is_file ∙ ranked after z.file is) in
          (same_values z.index path).1 (subst (λ m. HasLiteral (source_of after) m path) (here_number z.file z.index is)
          (subst (λ s. HasLiteral s (moved_by gain z.file z.index) path) source l.has_literal));
    }
    | inr other ↦ record {
      source = l.source;
      is_file = sym (other_file z.file other) ∙ l.is_file;
      has_literal = subst (λ m. HasLiteral l.source m path) (other_number z.file z.index other) l.has_literal;
    }
  ]

  -- the paths of imports without a name

  abbrev pub WasPath : ℕ → List ℕ → Type 0
  WasPath d path = IsPathOf (map source_of olds) (laid_in (scoped olds)) d path

  abbrev pub IsPath : ℕ → List ℕ → Type 0
  IsPath d path = IsPathOf (map source_of news) (laid_in (scoped news)) d path

  module _ (d : ℕ) (other : d ≡ at → ⊥) (unnamed : is_unnamed_import (role_in (scoped olds).sites d) ≡ true) where
    abbrev unnamed_there : is_unnamed_import (role_in (scoped news).sites (from_on at d)) ≡ true
    unnamed_there = unnamed_else gain (unnamed_site gain) at (scoped olds).sites (scoped news).sites has d other unnamed

    abbrev new_place : (or_blank (slice_get (scoped news).sites (from_on at d))).place
        ≡ moved_place (moved_by gain) (or_blank (slice_get (scoped olds).sites d)).place
    new_place = place_else gain (unnamed_site gain) at (scoped olds).sites (scoped news).sites has d other unnamed

    abbrev sources_too : AreSourceFiles news
    sources_too = new_sources number first rest before after g sources

    pub path_there : (path : List ℕ) → WasPath d path → IsPath (from_on at d) path
    path_there path h =
        from_literal news sources_too (from_on at d) path unnamed_there
        (subst (λ z. LiteralAt (map source_of news) z path) (sym new_place)
        (kept (or_blank (slice_get (scoped olds).sites d)).place path (to_literal olds sources d path unnamed h)))

    pub path_back : (path : List ℕ) → IsPath (from_on at d) path → WasPath d path
    path_back path h =
        from_literal olds sources d path unnamed
        (kept_back (or_blank (slice_get (scoped olds).sites d)).place path
        (subst (λ z. LiteralAt (map source_of news) z path) new_place (to_literal news sources_too (from_on at d) path unnamed_there h)))

  -- their names

  module _ (name_of : List ℕ → Option (List ℕ)) (names later : ℕ → Option (List ℕ))
      (are : ArePackageNames (map source_of olds) name_of (laid_in (scoped olds)) names)
      (are_later : ArePackageNames (map source_of news) name_of (laid_in (scoped news)) later) where
    keep_names : KeepNames at (scoped olds).sites names later
    keep_names d other unnamed =
        let one = are d (unnamed_within (scoped olds).sites d unnamed) unnamed in
        let there = unnamed_there d other unnamed in
        let two = are_later (from_on at d) (unnamed_within (scoped news).sites (from_on at d) there) there in
        elim (cases_names (later (from_on at d)) (names d)) [
          | inl same ↦ same
          | inr apart ↦
              let none : (path : List ℕ) → WasPath d path → ⊥ = λ path is.
              apart (two.known path (path_there d other unnamed path is) ∙ sym (one.known path is)) in
              two.unknown (λ path is. none path (path_back d other unnamed path is)) ∙ sym (one.unknown none)
        ]

    import_at : slice_get (scoped olds).sites at ≡ Some (unnamed_site gain)
    import_at = stood_at gain (unnamed_site gain) at (scoped olds).sites (scoped news).sites has

    pub unnamed_at : is_unnamed_import (role_in (scoped olds).sites at) ≡ true
    unnamed_at = ap (λ o. is_unnamed_import (or_blank o).role) import_at

    module _ (path : List ℕ) (imports : HasLiteral (source_of before) number path) (declares : name_of path ≡ Some g.put.name) where
      import_path : WasPath at path
      import_path =
          from_literal olds sources at path unnamed_at
          (subst (λ z. LiteralAt (map source_of olds) z path) (sym (ap (λ o. (or_blank o).place) import_at))
          (record { source = source_of before; is_file = ranked before (length first) refl; has_literal = imports }))

      called : names at ≡ Some g.put.name
      called = (are at (unnamed_within (scoped olds).sites at unnamed_at) unnamed_at).known path import_path ∙ declares

      pub laid : HasGained gain (import_site gain gain.name) at (named_sites names (scoped olds).sites) (named_sites later (scoped news).sites)
      laid = known_laid gain at (scoped olds).sites (scoped news).sites names later g.put.name has keep_names called
