-- The tree of a file around one of its imports, which gains a name.
use Rattle.std.specs.Prelude.{ℕ, ◌+◌, List, ◌∷◌, ◌++◌, Option, None, Some, cond, map, nat_lt, option_map}
use Rattle.go_ast.specs.Tree.{DeclTree, FileTree, Group, ImportTree, ImportsTree, Item, several, single}
use Rattle.law_rename.specs.Renumbered.{decl_by, import_by, imports_by, items_by}

-- The surroundings of an import spec in its declaration: none, or the parentheses, the specs before it, its separator, and the specs behind
-- it.
pub data AroundItem : Type 0 where
  alone : AroundItem
  among : ℕ → List (Item ImportTree) → Option ℕ → List (Item ImportTree) → ℕ → AroundItem

-- The surroundings of an import spec in the tree of a file.
pub record AroundImport : Type 0 where
  pub keyword : ℕ
  pub name : ℕ
  pub semicolon : ℕ
  pub before : List ImportsTree
  pub import_keyword : ℕ
  pub item : AroundItem
  pub import_semicolon : ℕ
  pub after : List ImportsTree
  pub decls : List DeclTree

-- The specs of an import declaration, with the import `i` in these surroundings.
abbrev pub group_with : ImportTree → AroundItem → Group ImportTree
group_with i alone = single i
group_with i (among o before separator after c) = several o (before ++ record { value = i; separator = separator } ∷ after) c

-- The import declaration with the import `i` in these surroundings.
abbrev pub imports_with : ImportTree → AroundImport → ImportsTree
imports_with i a = record { keyword = a.import_keyword; imports = group_with i a.item; semicolon = a.import_semicolon }

-- The tree of the file with the import `i` in these surroundings.
abbrev pub file_with : ImportTree → AroundImport → FileTree
file_with i a = record {
  keyword = a.keyword;
  name = a.name;
  semicolon = a.semicolon;
  imports = a.before ++ imports_with i a ∷ a.after;
  decls = a.decls;
}

-- The surroundings in an import declaration, with token indices changed by `g`.
abbrev pub item_around_by : (ℕ → ℕ) → AroundItem → AroundItem
item_around_by g alone = alone
item_around_by g (among o before separator after c) =
    among (g o) (items_by g (import_by g) before) (option_map g separator) (items_by g (import_by g) after) (g c)

-- The surroundings in a file, with token indices changed by `g`.
abbrev pub around_by : (ℕ → ℕ) → AroundImport → AroundImport
around_by g a = record {
  keyword = g a.keyword;
  name = g a.name;
  semicolon = g a.semicolon;
  before = map (imports_by g) a.before;
  import_keyword = g a.import_keyword;
  item = item_around_by g a.item;
  import_semicolon = g a.import_semicolon;
  after = map (imports_by g) a.after;
  decls = map (decl_by g) a.decls;
}

-- The index of a token after another one was inserted at index `number`.
abbrev pub from_on : ℕ → ℕ → ℕ
from_on number n = cond (nat_lt n number) n (n + 1)

-- An import without a name, whose path is the token of index `number`.
abbrev pub bare_import : ℕ → ImportTree
bare_import number = record { name = None; path = number }

-- An import whose name is the token of index `number`, right before its path.
abbrev pub import_with_name : ℕ → ImportTree
import_with_name number = record { name = Some number; path = number + 1 }
