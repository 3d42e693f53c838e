-- The values of the definitions on the forms of expressions that the program does not distinguish.
use Rattle.std.proofs.Common.{ℕ, ◌≡◌, refl, None}
use Rattle.go_ast.specs.View.{expr_view}
use Rattle.go_ast.specs.declared.tree.Expr.{Expr}
use Rattle.go_ast.specs.declared.tree.Expr.TheVariants as expr
use Rattle.types_expr.specs.Places.{place_of}
use Rattle.types_expr.specs.World.{World, Locals}
use Rattle.types_expr.specs.declared.meaning.Meaning.{Meaning}
use Rattle.types_expr.specs.declared.meaning.Meaning.TheVariants as meaning
use Rattle.types_expr.specs.Found.{meaning_of}
use Rattle.types_expr.specs.Judge.{judge_value, followed, as_value}
use Rattle.types_stmt.specs.Sides.{Wants, left_side, own_type, judge_operand, assigned_one, no_name, defined_one, values_of, one_value}

pub assigned_default : (w : World) (ls : Locals) (e : Expr) → ((n : ℕ) → e ≡ expr.Blank n → ⊥) →
    left_side (Wants (own_type (judge_operand w ls (expr_view e)).meaning)) (judge_operand w ls (expr_view e)) ≡ assigned_one w ls (expr_view e)
unfolding expr_view assigned_one
assigned_default w ls (expr.Name n) no_blank = refl
assigned_default w ls (expr.Blank n) no_blank = absurd (no_blank n refl)
assigned_default w ls (expr.Number n) no_blank = refl
assigned_default w ls (expr.Text n) no_blank = refl
assigned_default w ls (expr.Composite' p l) no_blank = refl
assigned_default w ls (expr.Paren' o p e c) no_blank = refl
assigned_default w ls (expr.Prefix' op at p e) no_blank = refl
assigned_default w ls (expr.Address' at p l) no_blank = refl
assigned_default w ls (expr.Chain' p e shape row) no_blank = refl
assigned_default w ls (expr.Binary' p e shape row) no_blank = refl
assigned_default w ls (expr.NamedChain' n shape row) no_blank = refl
assigned_default w ls (expr.NamedBinary' n shape row) no_blank = refl

pub defined_default : (w : World) (ls : Locals) (e : Expr) → ((n : ℕ) → e ≡ expr.Blank n → ⊥) → ((n : ℕ) → e ≡ expr.Name n → ⊥) →
    left_side (Wants None) (followed (judge_value w ls (expr_view e)) (no_name (place_of (expr_view e)))) ≡ defined_one w ls (expr_view e)
unfolding expr_view defined_one
defined_default w ls (expr.Name n) no_blank no_such = absurd (no_such n refl)
defined_default w ls (expr.Blank n) no_blank no_such = absurd (no_blank n refl)
defined_default w ls (expr.Number n) no_blank no_such = refl
defined_default w ls (expr.Text n) no_blank no_such = refl
defined_default w ls (expr.Composite' p l) no_blank no_such = refl
defined_default w ls (expr.Paren' o p e c) no_blank no_such = refl
defined_default w ls (expr.Prefix' op at p e) no_blank no_such = refl
defined_default w ls (expr.Address' at p l) no_blank no_such = refl
defined_default w ls (expr.Chain' p e shape row) no_blank no_such = refl
defined_default w ls (expr.Binary' p e shape row) no_blank no_such = refl
defined_default w ls (expr.NamedChain' n shape row) no_blank no_such = refl
defined_default w ls (expr.NamedBinary' n shape row) no_blank no_such = refl

pub values_default : (p : ℕ) (m : Meaning) → ((ts : _) → m ≡ meaning.Results ts → ⊥) → one_value p (as_value p (meaning_of m)) ≡ values_of p (meaning_of m)
unfolding meaning_of values_of
values_default p (meaning.Value k a) h = refl
values_default p (meaning.TypeName t) h = refl
values_default p (meaning.Function s) h = refl
values_default p (meaning.Builtin b) h = refl
values_default p meaning.Package h = refl
values_default p (meaning.Results ts) h = absurd (h ts refl)
values_default p meaning.Broken h = refl
