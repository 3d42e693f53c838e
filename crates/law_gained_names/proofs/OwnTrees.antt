-- The import spec at a string literal of a file, and the identifier of its literal.
use Rattle.std.proofs.Common.{ℕ, ◌≡◌, ◌++◌, List, [], ◌∷◌, map, refl, sym, ap, ◌∙◌, subst}
use Rattle.std.specs.Prelude.{Contains}
use Rattle.std.specs.List.{flat_map}
use Rattle.std.proofs.Math.Path.{ap₂}
use Rattle.std.proofs.lemmas.List.{map-append}
use Rattle.std.proofs.lemmas.List.Elements.{Contains-append_left, Contains-append_right}
use Rattle.base_edits.proofs.Held.{mapped_from}
use Rattle.base_lemmas.proofs.Elements.{first_in, later_in}
use Rattle.go_ast.specs.Tree.{FileTree, Group, ImportTree, ImportsTree, Item, several, single}
use Rattle.go_scope.specs.declared.model.Purpose.TheVariants as purpose
use Rattle.go_scope.specs.declared.model.Role.TheVariants.{NotLexical}
use Rattle.go_scope.specs.FileSites.{decl_sites, file_sites, import_purpose, import_sites, imports_sites}
use Rattle.go_scope.specs.Site.{Site, TokenSpellings, site}
use Rattle.go_scope.specs.StatementSites.{group_sites, separated_sites}
use Rattle.types_declared.specs.Files.{group_items, imports_in}
use Rattle.workspace_graph.specs.FileImports.{import_literals, paths_in}
use Rattle.law_rename.specs.Around.{AroundImport, AroundItem, alone, among, file_with, group_with, imports_with}
use Rattle.law_rename.proofs.Standing.{import_stands}

-- the imports of a file, by their literals

abbrev path_of : ImportTree → ℕ
path_of i = i.path

items_by : (xs : List (Item ImportTree)) → map (λ (item : Item ImportTree). item.value.path) xs ≡ map path_of (map (λ (item : Item ImportTree). item.value) xs)
items_by [] = refl
items_by (x ∷ xs) = ap (λ ys. x.value.path ∷ ys) (items_by xs)

group_by_items : (x : Group ImportTree) → paths_in x ≡ map path_of (group_items x)
group_by_items (single i) = refl
group_by_items (several o xs c) = items_by xs

literals_by : (ds : List ImportsTree) →
    flat_map (λ (d : ImportsTree). paths_in d.imports) ds ≡ map path_of (flat_map (λ (d : ImportsTree). group_items d.imports) ds)
literals_by [] = refl
literals_by (d ∷ ds) =
    ap₂ (λ xs ys. xs ++ ys) (group_by_items d.imports) (literals_by ds)
    ∙ sym (map-append path_of (group_items d.imports) (flat_map (λ (d : ImportsTree). group_items d.imports) ds))

pub import_of_literal : (t : FileTree) (n : ℕ) → Contains (import_literals t) n → (i : ImportTree) × (Contains (imports_in t) i × (i.path ≡ n))
import_of_literal t n has =
    let r = mapped_from path_of (imports_in t) n (subst (λ xs. Contains xs n) (literals_by t.imports) has) in
    (r.0, (r.1, r.2))

-- the identifier of a literal

module _ (s : TokenSpellings) (i : ImportTree) where
  abbrev pub literal_site : Site
  literal_site = site s i.path (NotLexical (import_purpose i.name))

  in_import : Contains (import_sites s i) literal_site
  unfolding import_sites
  in_import = Contains-append_right _ (literal_site ∷ []) literal_site (first_in literal_site [])

  in_items : (close : ℕ) (before after : List (Item ImportTree)) (x : Item ImportTree) → x.value ≡ i →
      Contains (separated_sites (λ following. import_sites s) close (before ++ x ∷ after)) literal_site
  unfolding separated_sites
  in_items close [] after x is =
      Contains-append_left (import_sites s x.value) (separated_sites (λ following. import_sites s) close after) literal_site
      (subst (λ j. Contains (import_sites s j) literal_site) (sym is) in_import)
  in_items close (y ∷ before) after x is =
      Contains-append_right (import_sites s y.value) (separated_sites (λ following. import_sites s) close (before ++ x ∷ after)) literal_site
      (in_items close before after x is)

  in_group : (x : AroundItem) → Contains (group_sites (λ following. import_sites s) 0 (group_with i x)) literal_site
  unfolding group_sites
  in_group alone = in_import
  in_group (among o before separator after c) = in_items c before after (record { value = i; separator = separator }) refl

  in_declaration : (a : AroundImport) → Contains (imports_sites s (imports_with i a)) literal_site
  unfolding imports_sites
  in_declaration a = in_group a.item

  in_declarations : (before after : List ImportsTree) (a : AroundImport) →
      Contains (flat_map (imports_sites s) (before ++ imports_with i a ∷ after)) literal_site
  in_declarations [] after a =
      Contains-append_left (imports_sites s (imports_with i a)) (flat_map (imports_sites s) after) literal_site (in_declaration a)
  in_declarations (d ∷ before) after a =
      Contains-append_right (imports_sites s d) (flat_map (imports_sites s) (before ++ imports_with i a ∷ after)) literal_site
      (in_declarations before after a)

  in_file : (a : AroundImport) → Contains (file_sites s (file_with i a)) literal_site
  unfolding file_sites
  in_file a =
      let t = file_with i a in
      let rest = flat_map (imports_sites s) t.imports ++ flat_map (decl_sites s) t.decls in
      later_in (site s t.name (NotLexical purpose.PackageClause)) rest literal_site
      (Contains-append_left (flat_map (imports_sites s) t.imports) (flat_map (decl_sites s) t.decls) literal_site (in_declarations a.before a.after a))

  pub literal_among : (t : FileTree) → Contains (imports_in t) i → Contains (file_sites s t) literal_site
  literal_among t has =
      let around = import_stands t i has in
      subst (λ u. Contains (file_sites s u) literal_site) (sym around.1) (in_file around.0)
