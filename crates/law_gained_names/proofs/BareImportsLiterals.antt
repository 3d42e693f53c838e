-- The string literals of the imports of a tree in which one of them got a name.
use Rattle.std.proofs.Common.{ℕ, ◌≡◌, ◌++◌, List, [], ◌∷◌, map, ap, sym, refl, ◌∙◌}
use Rattle.std.specs.List.{flat_map}
use Rattle.std.proofs.Math.Path.{ap₂}
use Rattle.std.proofs.lemmas.List.{map-append}
use Rattle.go_ast.specs.Tree.{Group, ImportTree, ImportsTree, Item, several, single}
use Rattle.workspace_graph.specs.FileImports.{import_literals, paths_in}
use Rattle.law_rename.specs.Around.{AroundImport, AroundItem, alone, among, around_by, bare_import, file_with, from_on, group_with, import_with_name}
use Rattle.law_rename.specs.Around.{imports_with, item_around_by}
use Rattle.law_rename.specs.Renumbered.{group_by, import_by, imports_by, items_by}
use Rattle.law_rename.proofs.Spelling.{from_itself}

module _ (g : ℕ → ℕ) where
  items_kept : (xs : List (Item ImportTree)) →
      map (λ (item : Item ImportTree). item.value.path) (items_by g (import_by g) xs) ≡ map g (map (λ (item : Item ImportTree). item.value.path) xs)
  items_kept [] = refl
  items_kept (x ∷ xs) = ap (λ ys. g x.value.path ∷ ys) (items_kept xs)

  group_kept : (x : Group ImportTree) → paths_in (group_by g (import_by g) x) ≡ map g (paths_in x)
  group_kept (single x) = refl
  group_kept (several o xs c) = items_kept xs

  abbrev literals : List ImportsTree → List ℕ
  literals ds = flat_map (λ (d : ImportsTree). paths_in d.imports) ds

  groups_kept : (ds : List ImportsTree) → literals (map (imports_by g) ds) ≡ map g (literals ds)
  groups_kept [] = refl
  groups_kept (d ∷ ds) =
      ap₂ (λ xs ys. xs ++ ys) (group_kept d.imports) (groups_kept ds) ∙ sym (map-append g (paths_in d.imports) (literals ds))

  module _ (old new : ImportTree) (path : new.path ≡ g old.path) where
    items_around : (before after : List (Item ImportTree)) (one other : Item ImportTree) → one.value ≡ old → other.value ≡ new →
        map (λ (item : Item ImportTree). item.value.path) (items_by g (import_by g) before ++ other ∷ items_by g (import_by g) after) ≡
        map g (map (λ (item : Item ImportTree). item.value.path) (before ++ one ∷ after))
    items_around [] after one other is is_new =
        let head : other.value.path ≡ g one.value.path =
        ap (λ (x : ImportTree). x.path) is_new ∙ path ∙ ap (λ (x : ImportTree). g x.path) (sym is) in
        λ m. head m ∷ items_kept after m
    items_around (x ∷ before) after one other is is_new = ap (λ ys. g x.value.path ∷ ys) (items_around before after one other is is_new)

    group_around : (x : AroundItem) → paths_in (group_with new (item_around_by g x)) ≡ map g (paths_in (group_with old x))
    group_around alone = ap (λ n. n ∷ []) path
    group_around (among o before separator after c) = items_around before after _ _ refl refl

    groups_around : (before : List ImportsTree) (a : AroundImport) →
        literals (map (imports_by g) before ++ imports_with new (around_by g a) ∷ map (imports_by g) a.after) ≡
        map g (literals (before ++ imports_with old a ∷ a.after))
    groups_around [] a =
        ap₂ (λ xs ys. xs ++ ys) (group_around a.item) (groups_kept a.after)
        ∙ sym (map-append g (paths_in (group_with old a.item)) (literals a.after))
    groups_around (d ∷ before) a =
        ap₂ (λ xs ys. xs ++ ys) (group_kept d.imports) (groups_around before a)
        ∙ sym (map-append g (paths_in d.imports) (literals (before ++ imports_with old a ∷ a.after)))

pub literals_around : (number : ℕ) (a : AroundImport) →
    import_literals (file_with (import_with_name number) (around_by (from_on number) a)) ≡
    map (from_on number) (import_literals (file_with (bare_import number) a))
literals_around number a =
    groups_around (from_on number) (bare_import number) (import_with_name number) (sym (from_itself number)) a.before a
