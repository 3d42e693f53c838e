-- Each import of a file stands in a place of it.
use Rattle.std.proofs.Common.{ℕ, ◌≡◌, List, [], ◌∷◌, ◌++◌, map, refl, ap, subst, append_assoc}
use Rattle.std.specs.List.{AllByRecursion, Contains, flat_map}
use Rattle.std.proofs.lemmas.List.Elements.{All-contains, All-from_recursion, Contains-append_left, Contains-append_right}
use Rattle.base_lemmas.proofs.EachElement.{all_append}
use Rattle.base_lemmas.proofs.Elements.{first_in}
use Rattle.go_ast.specs.Tree.{DeclTree, FileTree, Group, ImportTree, ImportsTree, Item, several, single}
use Rattle.types_declared.specs.Files.{group_items, imports_in}
use Rattle.law_rename.specs.Around.{AroundImport, AroundItem, alone, among, file_with, group_with, imports_with}
use Rattle.law_rename.proofs.Behind.{all_by}

abbrev StandsIn : Group ImportTree → ImportTree → Type 0
StandsIn g i = (x : AroundItem) × (g ≡ group_with i x)

items_stand : (o c : ℕ) (before xs : List (Item ImportTree)) → AllByRecursion (StandsIn (several o (before ++ xs) c)) (map (λ x. x.value) xs)
items_stand o c before [] = tt
items_stand o c before (x ∷ xs) =
    let same : (before ++ x ∷ []) ++ xs ≡ before ++ x ∷ xs = append_assoc before (x ∷ []) xs in (
      (among o before x.separator xs c, refl),
      subst (λ (ys : List (Item ImportTree)). AllByRecursion (StandsIn (several o ys c)) (map (λ y. y.value) xs)) same
          (items_stand o c (before ++ x ∷ []) xs),
    )

group_stands : (g : Group ImportTree) → AllByRecursion (StandsIn g) (group_items g)
group_stands (single x) = ((alone, refl), tt)
group_stands (several o xs c) = items_stand o c [] xs

module _ (keyword name semicolon : ℕ) (decls : List DeclTree) where
  abbrev file : List ImportsTree → FileTree
  file xs = record { keyword = keyword; name = name; semicolon = semicolon; imports = xs; decls = decls }

  abbrev InFile : List ImportsTree → ImportTree → Type 0
  InFile xs i = (a : AroundImport) × (file xs ≡ file_with i a)

  stands_within : (before after : List ImportsTree) (d : ImportsTree) (i : ImportTree) → StandsIn d.imports i → InFile (before ++ d ∷ after) i
  stands_within before after d i stands = (
    record {
      keyword = keyword;
      name = name;
      semicolon = semicolon;
      before = before;
      import_keyword = d.keyword;
      item = stands.0;
      import_semicolon = d.semicolon;
      after = after;
      decls = decls;
    },
    ap (λ (g : Group ImportTree). file (before ++ record { keyword = d.keyword; imports = g; semicolon = d.semicolon } ∷ after)) stands.1,
  )

  groups_stand : (before after : List ImportsTree) → AllByRecursion (InFile (before ++ after)) (flat_map (λ d. group_items d.imports) after)
  groups_stand before [] = tt
  groups_stand before (d ∷ after) =
      let same : (before ++ d ∷ []) ++ after ≡ before ++ d ∷ after = append_assoc before (d ∷ []) after in
      all_append (InFile (before ++ d ∷ after)) (group_items d.imports) (flat_map (λ e. group_items e.imports) after)
      (all_by (StandsIn d.imports) (InFile (before ++ d ∷ after)) (group_items d.imports) (stands_within before after d) (group_stands d.imports))
      (subst (λ (ys : List ImportsTree). AllByRecursion (InFile ys) (flat_map (λ e. group_items e.imports) after)) same
      (groups_stand (before ++ d ∷ []) after))

pub import_stands : (f : FileTree) (i : ImportTree) → Contains (imports_in f) i → (a : AroundImport) × (f ≡ file_with i a)
import_stands f i has =
    let P : ImportTree → Type 0 = λ x. (a : AroundImport) × (f ≡ file_with x a) in
    All-contains P (imports_in f) i (All-from_recursion P (imports_in f) (groups_stand f.keyword f.name f.semicolon f.decls [] f.imports)) has

-- an import in its place is one of the file's

item_among : (before after : List (Item ImportTree)) (x : Item ImportTree) → Contains (map (λ y. y.value) (before ++ x ∷ after)) x.value
item_among [] after x = first_in x.value (map (λ y. y.value) after)
item_among (b ∷ before) after x = Contains-append_right (b.value ∷ []) (map (λ y. y.value) (before ++ x ∷ after)) x.value (item_among before after x)

group_among : (i : ImportTree) (x : AroundItem) → Contains (group_items (group_with i x)) i
group_among i alone = first_in i []
group_among i (among o before separator after c) = item_among before after (record { value = i; separator = separator })

groups_among : (i : ImportTree) (before after : List ImportsTree) (d : ImportsTree) → Contains (group_items d.imports) i →
    Contains (flat_map (λ e. group_items e.imports) (before ++ d ∷ after)) i
groups_among i [] after d has = Contains-append_left (group_items d.imports) (flat_map (λ e. group_items e.imports) after) i has
groups_among i (b ∷ before) after d has = Contains-append_right (group_items b.imports) (flat_map (λ e. group_items e.imports) (before ++ d ∷ after)) i
    (groups_among i before after d has)

pub import_among : (i : ImportTree) (a : AroundImport) → Contains (imports_in (file_with i a)) i
import_among i a = groups_among i a.before a.after (imports_with i a) (group_among i a.item)
