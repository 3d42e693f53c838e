-- The tokens of the program's simple statements and local variables, by their parts.
use Rattle.std.proofs.Common.{ℕ, ◌≡◌, ◌∷◌, ◌++◌, [], List, ap, sym, ◌∙◌, refl}
use Rattle.go_ast.specs.declared.syntax.Kind.TheVariants as kind
use Rattle.go_ast.specs.declared.syntax.StepOp.{StepOp}
use Rattle.go_ast.specs.declared.syntax.UpdateOp.{UpdateOp}
use Rattle.go_ast.specs.declared.tree.Expr.{Expr}
use Rattle.go_ast.specs.declared.tree.ExprItem.{ExprItem}
use Rattle.go_ast.specs.declared.tree.LocalSpec.{LocalSpec}
use Rattle.go_ast.specs.declared.tree.SimpleStmt.TheVariants as simple
use Rattle.go_ast.specs.Flatten.{sign, tokens_if, value_tokens, item_tokens, all_tokens, step_kind, update_kind, expr_tokens, type_tokens, simple_tokens}
use Rattle.go_ast.specs.Flatten.{local_tokens}
use Rattle.go_ast.specs.View.{option_view, type_view, expr_item_view}
use Rattle.go_ast.specs.FileView.{simple_view, values_view, local_view}
use Rattle.go_parser.specs.Spelling.{expr_spelled, expr_item_spelled, exprs_spelled, idents_spelled, simple_spelled, local_spelled}
use Rattle.go_parser.proofs.StatementSteps.{all_tokens_map}
use Rattle.go_parser.proofs.Spelled.{all_tokens_push}

-- a list of expressions, item by item
exprs_by_item : (xs : List ExprItem) → all_tokens expr_item_spelled xs ≡ exprs_spelled xs
exprs_by_item xs = all_tokens_map (item_tokens kind.Comma expr_tokens) expr_item_view xs

pub exprs_push : (xs ys : List ExprItem) (x : ExprItem) → ys ≡ xs ++ (x ∷ []) → exprs_spelled ys ≡ exprs_spelled xs ++ expr_item_spelled x
exprs_push xs ys x e = ap exprs_spelled e ∙ (sym (exprs_by_item (xs ++ (x ∷ []))) ∙
    (sym (all_tokens_push expr_item_spelled xs x) ∙ ap (λ z. z ++ expr_item_spelled x) (exprs_by_item xs)))

pub exprs_none : (xs : List ExprItem) → xs ≡ [] → exprs_spelled xs ≡ []
unfolding all_tokens
exprs_none xs e = ap exprs_spelled e

-- a list of one expression
pub exprs_one : (xs ys : List ExprItem) (x : ExprItem) → xs ≡ [] → ys ≡ xs ++ (x ∷ []) → exprs_spelled ys ≡ expr_item_spelled x
exprs_one xs ys x none e = exprs_push xs ys x e ∙ ap (λ z. z ++ expr_item_spelled x) (exprs_none xs none)

pub alone_spelled : (e : Expr) → simple_spelled (simple.Expr e) ≡ expr_spelled e
unfolding simple_tokens simple_view
alone_spelled e = refl

pub step_spelled : (e : Expr) (op : StepOp) (p : ℕ) → simple_spelled (simple.Step e op p) ≡ expr_spelled e ++ (sign (step_kind op) p ∷ [])
unfolding simple_tokens simple_view
step_spelled e op p = refl

pub update_spelled : (e : Expr) (op : UpdateOp) (p : ℕ) (f : _) →
    simple_spelled (simple.Update e op p f) ≡ expr_spelled e ++ (sign (update_kind op) p ∷ expr_spelled f.value)
unfolding simple_tokens simple_view
update_spelled e op p f = refl

pub assign_spelled : (es : _) (p : ℕ) (fs : _) → simple_spelled (simple.Assign es p fs) ≡ exprs_spelled es.items ++
    (sign kind.Assign p ∷ exprs_spelled fs.items)
unfolding simple_tokens simple_view
assign_spelled es p fs = refl

pub define_spelled : (es : _) (p : ℕ) (fs : _) → simple_spelled (simple.Define es p fs) ≡ exprs_spelled es.items ++
    (sign kind.Define p ∷ exprs_spelled fs.items)
unfolding simple_tokens simple_view
define_spelled es p fs = refl

pub local_spelled_as : (l : LocalSpec) → local_spelled l ≡ idents_spelled l.names.items ++
    (tokens_if type_tokens (option_view type_view l.local_type) ++ tokens_if (value_tokens expr_tokens) (option_view values_view l.values))
unfolding local_tokens local_view
local_spelled_as l = refl
