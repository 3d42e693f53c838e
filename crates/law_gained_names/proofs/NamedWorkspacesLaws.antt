-- A package in which an import gained the name that it declared already is the old one with other numbers, and keeps its names.
use Rattle.std.proofs.Common.{ℕ, suc, ◌≡◌, ◌+◌, List, [], ◌∷◌, ◌++◌, Option, length, map, refl, sym, ap, ◌∙◌, subst, arith}
use Rattle.std.proofs.Common.{Bool, true, false, if◌then◌else◌}
use Rattle.std.specs.Prelude.{slice_get}
use Rattle.std.proofs.lemmas.List.{length-map, map-append}
use Rattle.go_ast.specs.SourceFile.{FileParts, source_of, spelling_of}
use Rattle.go_ast.specs.Tree.{FileTree}
use Rattle.go_scope.specs.declared.model.Position.{Position}
use Rattle.go_scope.specs.declared.model.Purpose.TheVariants as purpose
use Rattle.go_scope.specs.declared.model.Role.TheVariants.{NotLexical}
use Rattle.go_scope.specs.Bindings.{Counts, Layout, Names, own}
use Rattle.go_scope.specs.FileSites.{package_sites, universe}
use Rattle.go_scope.specs.Named.{is_unnamed_import, named_sites}
use Rattle.go_scope.specs.Packages.{ScopedPackage, layout_in, names_in, scoped}
use Rattle.go_scope.specs.Site.{Site, or_blank, sites_layout, sites_names}
use Rattle.go_scope.specs.SpelledFiles.{spelled_file}
use Rattle.go_scope.proofs.NamedSites.{place_stays}
use Rattle.law_tokens.specs.Covered.{AreSourceFiles}
use Rattle.law_tokens.proofs.FileIdentifiers.{role_in}
use Rattle.law_tokens.proofs.Roles.{role_keeps}
use Rattle.law_rename.specs.Around.{from_on}
use Rattle.law_rename.specs.Gained.{Gain, HasGained, import_site}
use Rattle.law_renamed_workspaces.proofs.Standing.{literal_role}
use Rattle.refs_lookup.proofs.ImportSites.{literal_file}
use Rattle.types_declared.specs.Files.{package_name}
use Rattle.types_declared.specs.Laid.{is_literal, literal_of}
use Rattle.types_declared.specs.Package.{ExportData, Package}
use Rattle.types_info.specs.PackageOf.{IsPackageOf}
use Rattle.law_gained_names.specs.NamedPackage.{HasNamedFile, HasSites, ImportsKeepPaths, IsNamedPackage, KeepsLiterals}
use Rattle.law_gained_names.specs.NamedPackage.{NamedPackagesAreRenumbered, numbers_of}
use Rattle.law_gained_names.proofs.Laws.{named_packages_are_renumbered}
use Rattle.law_gained_names.proofs.Layouts.{bound_to_old, same_names}
use Rattle.law_gained_names.proofs.Literals.{imports_keep_paths}
use Rattle.law_renumbered.specs.Findings.{KeepsNames}
use Rattle.law_gained_names.specs.GainedName.{GainedNamesRenumber, ImportGainsName, GainsOwnName, gained_by}
use Rattle.law_gained_names.proofs.Bare.{bare_behind}
use Rattle.law_gained_names.proofs.NamedWorkspacesNamed.{laid, unnamed_at}
use Rattle.law_gained_names.proofs.Standing.{gained, new_sources, spelled}
use Rattle.law_gained_names.proofs.Values.{values}

-- the identifiers of a package

has_sites : (path : List ℕ) (files : List FileParts) (name_of : List ℕ → Option (List ℕ)) (exports : List ℕ → ExportData) (p : Package)
    (h : IsPackageOf path files name_of exports p) → HasSites p (named_sites h.is_laid.names (scoped files).sites)
has_sites path files name_of exports p h = record {
  layout = ap (λ (x : Package). x.layout) h.is_package ∙ ap layout_in h.is_laid.is_named;
  names = ap (λ (x : Package). x.names) h.is_package ∙ ap names_in h.is_laid.is_named;
  size = ap (λ (x : Package). x.size) h.is_package ∙ ap (λ (t : ScopedPackage). length t.sites) h.is_laid.is_named;
}

-- literals of imports, where imports without a name declare

module _ (files : List FileParts) (sources : AreSourceFiles files) (names : ℕ → Option (List ℕ)) where
  abbrev plain : List Site
  plain = (scoped files).sites

  abbrev named : List Site
  named = named_sites names plain

  plain_literal : (d : ℕ) → is_literal (role_in named (d + 1)) ≡ true → role_in plain (suc d) ≡ NotLexical purpose.ImportPath
  plain_literal d literal =
      let next : d + 1 ≡ suc d = omega arith in
      (role_keeps purpose.ImportPath refl names plain (suc d)).0
      (literal_role (role_in named (suc d)) (subst (λ n. is_literal (role_in named n) ≡ true) next literal))

  own_literal : (u : ℕ) → is_unnamed_import (role_in plain u) ≡ true → literal_of (sites_layout named) u ≡ u
  own_literal u unnamed = by_test (is_literal (role_in named (u + 1))) refl
    where
      by_test : (b : Bool) → is_literal (role_in named (u + 1)) ≡ b → (if is_literal (role_in named (u + 1)) then u + 1 else u) ≡ u
      by_test true is = absurd (bare_behind files sources u unnamed (plain_literal u is))
      by_test false is = ap (λ b. if b then u + 1 else u) is

  plain_file : (d : ℕ) → role_in plain (suc d) ≡ NotLexical purpose.ImportPath →
      (or_blank (slice_get plain (suc d))).place.file ≡ (or_blank (slice_get plain d)).place.file
  unfolding package_sites
  plain_file d literal = literal_file universe (map spelled_file files) d literal

  beside : (d : ℕ) → is_literal (role_in named (d + 1)) ≡ true →
      (or_blank (slice_get named (d + 1))).place.file ≡ (or_blank (slice_get named d)).place.file
  beside d literal =
      let next : d + 1 ≡ suc d = omega arith in
      ap (λ n. (or_blank (slice_get named n)).place.file) next
      ∙ ap (λ (z : Position). z.file) (place_stays names plain (suc d))
      ∙ plain_file d (plain_literal d literal)
      ∙ sym (ap (λ (z : Position). z.file) (place_stays names plain d))

-- the name of the package

module _ (number : ℕ) (before after : FileParts) (rest : List FileParts) (g : ImportGainsName number before after)
    (same : (n : ℕ) → spelling_of (source_of after) (from_on number n) ≡ spelling_of (source_of before) n) where
  clause_kept : (first : List FileParts) →
      package_name (map source_of (first ++ after ∷ rest)) ≡ package_name (map source_of (first ++ before ∷ rest))
  clause_kept [] =
      ap (λ (t : FileTree). spelling_of (source_of after) t.name) g.new_tree ∙ same g.around.name
      ∙ sym (ap (λ (t : FileTree). spelling_of (source_of before) t.name) g.old_tree)
  clause_kept (f ∷ first) = refl

-- the package

module _ (number : ℕ) (p q : Package) (g : GainsOwnName number p q) where
  abbrev i : Gain
  i = gained_by number p q g

  abbrev olds : List FileParts
  olds = g.first ++ g.before ∷ g.rest

  abbrev news : List FileParts
  news = g.first ++ g.after ∷ g.rest

  sources : AreSourceFiles olds
  sources = subst AreSourceFiles g.files g.parsed.sources

  sources_too : AreSourceFiles news
  sources_too = new_sources number g.first g.rest g.before g.after g.gains sources

  was_package : IsPackageOf g.parsed.path olds g.parsed.name_of g.parsed.export_data_of p
  was_package = subst (λ fs. IsPackageOf g.parsed.path fs g.parsed.name_of g.parsed.export_data_of p) g.files g.parsed.is_package

  at : ℕ
  at = (gained number g.first g.rest g.before g.after g.gains sources).0

  abbrev old_sites : List Site
  old_sites = named_sites was_package.is_laid.names (scoped olds).sites

  abbrev new_sites : List Site
  new_sites = named_sites g.is_package.is_laid.names (scoped news).sites

  was_sites : HasSites p old_sites
  was_sites = has_sites g.parsed.path olds g.parsed.name_of g.parsed.export_data_of p was_package

  is_sites : HasSites q new_sites
  is_sites = has_sites g.parsed.path news g.parsed.name_of g.parsed.export_data_of q g.is_package

  same_spelling : (n : ℕ) → spelling_of (source_of g.after) (from_on number n) ≡ spelling_of (source_of g.before) n
  same_spelling = spelled number g.first g.rest g.before g.after g.gains sources

  gained_here : HasGained i (import_site i i.name) at old_sites new_sites
  unfolding at
  gained_here =
      laid number g.first g.rest g.before g.after g.gains sources g.parsed.name_of was_package.is_laid.names g.is_package.is_laid.names
      was_package.is_laid.are_names g.is_package.is_laid.are_names g.path g.imports g.declares

  was_unnamed : is_unnamed_import (role_in (scoped olds).sites at) ≡ true
  unfolding at
  was_unnamed =
      unnamed_at number g.first g.rest g.before g.after g.gains sources g.parsed.name_of was_package.is_laid.names g.is_package.is_laid.names
      was_package.is_laid.are_names g.is_package.is_laid.are_names

  named_file : HasNamedFile i p q
  named_file = record {
    first = map source_of g.first;
    rest = map source_of g.rest;
    before = source_of g.before;
    after = source_of g.after;
    rank = length-map g.first source_of;
    before_files = ap (λ (x : Package). x.files) was_package.is_package ∙ map-append source_of g.first (g.before ∷ g.rest);
    after_files = ap (λ (x : Package). x.files) g.is_package.is_package ∙ map-append source_of g.first (g.after ∷ g.rest);
    around = g.gains.around;
    bare = g.gains.old_tree;
    named = g.gains.new_tree;
    spelled = same_spelling;
  }

  named_package : IsNamedPackage i at p q
  named_package = record {
    path = ap (λ (x : Package). x.path) g.is_package.is_package ∙ sym (ap (λ (x : Package). x.path) was_package.is_package);
    parsed = g.parsed;
    parsed_too = record {
      path = g.parsed.path;
      files = news;
      sources = sources_too;
      name_of = g.parsed.name_of;
      export_data_of = g.parsed.export_data_of;
      is_package = g.is_package;
    };
    exports = λ path.
        ap (λ (x : Package). x.export_data_of path) g.is_package.is_package
        ∙ sym (ap (λ (x : Package). x.export_data_of path) was_package.is_package);
    old = old_sites;
    new = new_sites;
    gained = gained_here;
    was = was_sites;
    is = is_sites;
    file = named_file;
  }

  keeps_literals : KeepsLiterals i at p q named_package.file
  unfolding named_package named_file
  keeps_literals = record {
    values = λ n value.
        values g.gains.put number g.gains.may g.gains.literal (source_of g.before) (source_of g.after) g.gains.old_cut g.gains.new_cut n value;
    own = ap (λ (l : Layout). literal_of l at) was_sites.layout ∙ own_literal olds sources was_package.is_laid.names at was_unnamed;
    beside = λ d literal.
        ap (λ (l : Layout). (l.place (d + 1)).file) was_sites.layout
        ∙ beside olds sources was_package.is_laid.names d
        (subst (λ (l : Layout). is_literal (l.role (d + 1)) ≡ true) was_sites.layout literal)
        ∙ sym (ap (λ (l : Layout). (l.place d).file) was_sites.layout);
  }

  counts_there : (e : ℕ) → Counts q.layout q.names e → Counts (sites_layout new_sites) (sites_names new_sites) e
  counts_there e c =
      subst (λ (l : Layout). Counts l (sites_names new_sites) e) is_sites.layout
      (subst (λ (x : Names). Counts q.layout x e) is_sites.names c)

  keeps_names : KeepsNames (numbers_of i at) p q
  keeps_names = record {
    names = λ d.
        ap (λ (x : Names). x (from_on (suc at) d)) is_sites.names ∙ same_names i at old_sites new_sites gained_here d
        ∙ sym (ap (λ (x : Names). x d) was_sites.names);
    declared = λ e c. bound_to_old i at old_sites new_sites gained_here e e (own refl (counts_there e c));
    name = ap (λ (x : Package). package_name x.files) g.is_package.is_package
        ∙ clause_kept number g.before g.after g.rest g.gains same_spelling g.first
        ∙ sym (ap (λ (x : Package). package_name x.files) was_package.is_package);
  }

renumbered_by : NamedPackagesAreRenumbered → ImportsKeepPaths → GainedNamesRenumber
renumbered_by renumber keep number p q g =
    let i = gained_by number p q g in
    let d = at number p q g in
    let named = named_package number p q g in
    let literals = keeps_literals number p q g in (
      d,
      record {
        named = named;
        literals = literals;
        renumbered = renumber i d p q named (keep i d p q named literals);
        keeps = keeps_names number p q g;
      },
    )

pub gained_names_renumber : GainedNamesRenumber
gained_names_renumber = renumbered_by named_packages_are_renumbered imports_keep_paths
