-- The files of a package in which an import gained a name import what they imported.
use Rattle.std.proofs.Common.{ℕ, ◌≡◌, inl, inr, List, [], ◌∷◌, ◌++◌, Option, Some, None, map, length, refl, ap, sym, subst, ◌∙◌}
use Rattle.std.specs.Prelude.{Contains, option_map, slice_get}
use Rattle.std.specs.List.{flat_map}
use Rattle.std.proofs.Math.Path.{ap₂}
use Rattle.std.proofs.lemmas.Bool.{cases_eq}
use Rattle.std.proofs.lemmas.List.{map-append}
use Rattle.std.proofs.lemmas.List.Concat.{flat_map-append}
use Rattle.std.proofs.lemmas.Option.{same_Some}
use Rattle.base_lemmas.proofs.Elements.{is_mapped}
use Rattle.base_edits.proofs.Held.{mapped_from}
use Rattle.go_ast.specs.SourceFile.{SourceFile}
use Rattle.go_ast.specs.Tree.{FileTree, ImportTree, ImportsTree, Item, Group, single, several}
use Rattle.law_rename.specs.Around.{AroundImport, AroundItem, alone, among, around_by, bare_import, file_with, from_on, group_with, import_with_name}
use Rattle.law_rename.specs.Around.{imports_with, item_around_by}
use Rattle.law_rename.specs.Gained.{Gain}
use Rattle.law_rename.specs.Renumbered.{group_by, import_by, imports_by, items_by}
use Rattle.law_rename.proofs.Spelling.{from_itself}
use Rattle.law_rename.proofs.TokensBehind.{seam}
use Rattle.types_declared.specs.Files.{HasLiteral}
use Rattle.types_declared.specs.Package.{Package}
use Rattle.build_object.specs.Sources.{AreImports}
use Rattle.workspace_graph.specs.FileImports.{import_literals, paths_in}
use Rattle.workspace_graph.specs.Packages.{ImportsPath}
use Rattle.workspace_check.proofs.PackageFiles.{at_rank}
use Rattle.law_gained_names.specs.NamedPackage.{IsNamedPackage, KeepsLiterals}
use Rattle.law_gained_names.proofs.Literals.{other_file}
use Rattle.law_renamed_workspaces.proofs.Literals.{from_string, to_string}
use Rattle.law_renamed_workspaces.proofs.NameEdits.{ranked}

-- the literals of imports get the new numbers

module _ (g : ℕ → ℕ) where
  paths_of_items : (xs : List (Item ImportTree)) →
      map (λ (i : Item ImportTree). i.value.path) (items_by g (import_by g) xs) ≡ map g (map (λ (i : Item ImportTree). i.value.path) xs)
  paths_of_items [] = refl
  paths_of_items (x ∷ xs) = ap (λ rest. g x.value.path ∷ rest) (paths_of_items xs)

  paths_of_group : (d : ImportsTree) → paths_in (imports_by g d).imports ≡ map g (paths_in d.imports)
  paths_of_group d = by_group d.imports
    where
      by_group : (x : Group ImportTree) → paths_in (group_by g (import_by g) x) ≡ map g (paths_in x)
      by_group (single x) = refl
      by_group (several o xs c) = paths_of_items xs

  paths_of_all : (ds : List ImportsTree) →
      flat_map (λ (d : ImportsTree). paths_in d.imports) (map (imports_by g) ds) ≡ map g (flat_map (λ (d : ImportsTree). paths_in d.imports) ds)
  paths_of_all [] = refl
  paths_of_all (d ∷ ds) =
      ap₂ (λ a b. a ++ b) (paths_of_group d) (paths_of_all ds)
      ∙ sym (map-append g (paths_in d.imports) (flat_map (λ (x : ImportsTree). paths_in x.imports) ds))

module _ (number : ℕ) where
  abbrev g : ℕ → ℕ
  g = from_on number

  own_item : (before after : List (Item ImportTree)) (separator : Option ℕ) →
      map (λ (i : Item ImportTree). i.value.path)
      (items_by g (import_by g) before ++ record { value = import_with_name number; separator = separator } ∷ items_by g (import_by g) after)
      ≡ map g (map (λ (i : Item ImportTree). i.value.path) (before ++ record { value = bare_import number; separator = None } ∷ after))
  own_item [] after separator = ap₂ (λ a b. a ∷ b) (sym (from_itself number)) (paths_of_items g after)
  own_item (x ∷ before) after separator = ap (λ rest. g x.value.path ∷ rest) (own_item before after separator)

  without_separator : (before after : List (Item ImportTree)) (separator : Option ℕ) →
      map (λ (i : Item ImportTree). i.value.path) (before ++ record { value = bare_import number; separator = None } ∷ after)
      ≡ map (λ (i : Item ImportTree). i.value.path) (before ++ record { value = bare_import number; separator = separator } ∷ after)
  without_separator [] after separator = refl
  without_separator (x ∷ before) after separator = ap (λ rest. x.value.path ∷ rest) (without_separator before after separator)

  own_group : (a : AroundItem) → paths_in (group_with (import_with_name number) (item_around_by g a)) ≡ map g (paths_in (group_with (bare_import number) a))
  own_group alone = ap (λ k. k ∷ []) (sym (from_itself number))
  own_group (among o before separator after c) =
      own_item before after (option_map g separator) ∙ ap (map g) (without_separator before after separator)

  literals_of_file : (a : AroundImport) →
      import_literals (file_with (import_with_name number) (around_by g a)) ≡ map g (import_literals (file_with (bare_import number) a))
  literals_of_file a =
      let paths : ImportsTree → List ℕ = λ d. paths_in d.imports in
      flat_map-append paths (map (imports_by g) a.before) (imports_with (import_with_name number) (around_by g a) ∷ map (imports_by g) a.after)
      ∙ ap₂ (λ x y. x ++ y) (paths_of_all g a.before)
      (ap₂ (λ x y. x ++ y) (own_group a.item) (paths_of_all g a.after)
      ∙ sym (map-append g (paths (imports_with (bare_import number) a)) (flat_map paths a.after)))
      ∙ sym (map-append g (flat_map paths a.before) (paths (imports_with (bare_import number) a) ++ flat_map paths a.after))
      ∙ ap (map g) (sym (flat_map-append paths a.before (imports_with (bare_import number) a ∷ a.after)))

module _ (i : Gain) (at : ℕ) (p q : Package) (a : IsNamedPackage i at p q) (l : KeepsLiterals i at p q a.file) where
  abbrev before : SourceFile
  before = a.file.before

  abbrev after : SourceFile
  after = a.file.after

  same_literals : import_literals after.tree ≡ map (from_on i.number) (import_literals before.tree)
  same_literals =
      ap import_literals a.file.named ∙ literals_of_file i.number a.file.around
      ∙ ap (λ (t : FileTree). map (from_on i.number) (import_literals t)) (sym a.file.bare)

  import_there : (path : List ℕ) → ImportsPath before path → ImportsPath after path
  import_there path h =
      let literal = from_string before h.token path (record { piece = h.piece; at = h.at; is_string = h.is_string; has_value = h.value }) in
      let x = to_string after (from_on i.number h.token) path ((l.values h.token path).0 literal) in
      record {
        token = from_on i.number h.token;
        literal =
            subst (λ ts. Contains ts (from_on i.number h.token)) (sym same_literals)
            (is_mapped (from_on i.number) (import_literals before.tree) h.token h.literal);
        piece = x.piece;
        at = x.at;
        is_string = x.is_string;
        value = x.has_value;
      }

  import_back : (path : List ℕ) → ImportsPath after path → ImportsPath before path
  import_back path h =
      let n = mapped_from (from_on i.number) (import_literals before.tree) h.token (subst (λ ts. Contains ts h.token) same_literals h.literal) in
      let literal = from_string after h.token path (record { piece = h.piece; at = h.at; is_string = h.is_string; has_value = h.value }) in
      let x = to_string before n.0 path ((l.values n.0 path).1 (subst (λ k. HasLiteral after k path) (sym n.2) literal)) in
      record { token = n.0; literal = n.1; piece = x.piece; at = x.at; is_string = x.is_string; value = x.has_value }

  was_before : slice_get p.files i.rank ≡ Some before
  was_before =
      ap (slice_get p.files) (sym a.file.rank) ∙ ap (λ fs. slice_get fs (length a.file.first)) a.file.before_files
      ∙ seam a.file.first a.file.rest before

  is_after : slice_get q.files i.rank ≡ Some after
  is_after =
      ap (slice_get q.files) (sym a.file.rank) ∙ ap (λ fs. slice_get fs (length a.file.first)) a.file.after_files
      ∙ seam a.file.first a.file.rest after

  some_there : (path : List ℕ) (f : SourceFile) → Contains p.files f → ImportsPath f path → (z : SourceFile) × (Contains q.files z × ImportsPath z path)
  some_there path f has h =
      let k = ranked p.files f has in
      elim (cases_eq k.0 i.rank) [
        | inl here ↦
            let same : f ≡ before = same_Some f before (sym k.1 ∙ ap (slice_get p.files) here ∙ was_before) in
            (after, (at_rank q.files i.rank after is_after, import_there path (subst (λ z. ImportsPath z path) same h)))
        | inr other ↦ (f, (at_rank q.files k.0 f (other_file i at p q a l k.0 other ∙ k.1), h))
      ]

  some_back : (path : List ℕ) (f : SourceFile) → Contains q.files f → ImportsPath f path → (z : SourceFile) × (Contains p.files z × ImportsPath z path)
  some_back path f has h =
      let k = ranked q.files f has in
      elim (cases_eq k.0 i.rank) [
        | inl here ↦
            let same : f ≡ after = same_Some f after (sym k.1 ∙ ap (slice_get q.files) here ∙ is_after) in
            (before, (at_rank p.files i.rank before was_before, import_back path (subst (λ z. ImportsPath z path) same h)))
        | inr other ↦ (f, (at_rank p.files k.0 f (sym (other_file i at p q a l k.0 other) ∙ k.1), h))
      ]

  pub imports_after : (imports : List (List ℕ)) → AreImports p.files imports → AreImports q.files imports
  imports_after imports h = record {
    each = λ path. (
      (λ c. (let f = (h.each path).0 c in some_there path f.0 f.1.0 f.1.1)),
      (λ c. (h.each path).1 (some_back path c.0 c.1.0 c.1.1)),
    );
    sorted = h.sorted;
  }
