-- The tokens of the program's lists and groups.
use Rattle.std.specs.Prelude.{List, [], ◌∷◌, ◌++◌}
use Rattle.go_ast.specs.declared.syntax.Kind.{Kind}
use Rattle.go_ast.specs.declared.syntax.Kind.TheVariants as kind
use Rattle.go_ast.specs.declared.syntax.Token.{Token}
use Rattle.go_ast.specs.declared.tree.Item.{Item}
use Rattle.go_ast.specs.declared.tree.Group.{Group}
use Rattle.go_ast.specs.declared.tree.Group.TheVariants as group
use Rattle.go_ast.specs.declared.tree.BasicLit.{BasicLit}
use Rattle.go_ast.specs.Flatten as flat
use Rattle.go_ast.specs.Flatten.{sign, sign_if, all_tokens}
use Rattle.go_ast.specs.View.{list_view}
use Rattle.go_ast.specs.FileView.{basic_view}

-- the tokens of an item, and its separator of kind k
abbrev pub item_spelled : {X : Type 0} → Kind → (X → List Token) → Item X → List Token
item_spelled k f i = f i.value ++ sign_if k i.separator

-- the tokens of a list whose separators are of kind k
abbrev pub items_spelled : {X : Type 0} → Kind → (X → List Token) → List (Item X) → List Token
items_spelled k f xs = all_tokens (item_spelled k f) xs

-- the tokens of a group: one item, or several in parentheses, separated by semicolons
abbrev pub group_spelled : {X : Type 0} → (X → List Token) → Group X → List Token
group_spelled f (group.Single x) = f x
group_spelled f (group.Several o xs c) = sign kind.LeftParen o ∷ (items_spelled kind.Semicolon f xs.items ++ (sign kind.RightParen c ∷ []))

-- the tokens of literals, separated by commas
abbrev pub basics_spelled : List (Item BasicLit) → List Token
basics_spelled xs = flat.list_tokens kind.Comma flat.basic_tokens (list_view basic_view xs)
