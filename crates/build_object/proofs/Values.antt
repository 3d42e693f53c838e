-- Values in turn, as arguments and as items, and what they are assigned to.
use Rattle.std.proofs.Common.{ℕ, ◌≡◌, ◌∷◌, ◌++◌, [], List, ap, sym, ◌∙◌, refl, length}
use Rattle.std.proofs.lemmas.List.{length-map}
use Rattle.go_ast.specs.declared.tree.ExprItem.{ExprItem}
use Rattle.go_ast.specs.View.{expr_view, expr_item_view, exprs_view}
use Rattle.types_expr.specs.Lists.{arguments_in}
use Rattle.build_object.specs.Lines.{Assign}
use Rattle.build_object.specs.Source.{Source}
use Rattle.build_object.specs.Expressions.{argument_lines, given_lines}
use Rattle.build_object.specs.Statements.{lines_of_values, targets_of, from_last, set_left}

pub values_are_arguments : (s : Source) (slots : List ℕ) (xs : List ExprItem) → lines_of_values s slots (exprs_view xs) ≡ argument_lines s slots
    (arguments_in xs)
unfolding argument_lines arguments_in
values_are_arguments s slots [] = refl
values_are_arguments s slots (x ∷ xs) = ap (λ rest. given_lines s slots (expr_view x.value) ++ rest) (values_are_arguments s slots xs)

-- assignments and definitions of lists that were read

pub assigned : (s : Source) (slots : List ℕ) (xs ls ys rs : List ExprItem) → ls ≡ xs → rs ≡ ys →
    targets_of s slots (exprs_view xs) ++ (lines_of_values s slots (exprs_view ys) ++ (Assign (length (exprs_view xs)) ∷ []))
    ≡ targets_of s slots (exprs_view ls) ++ (lines_of_values s slots (exprs_view rs) ++ (Assign (length ls) ∷ []))
assigned s slots xs ls ys rs left right =
    ap (λ vs. targets_of s slots (exprs_view vs) ++ (lines_of_values s slots (exprs_view ys) ++ (Assign (length (exprs_view vs)) ∷ []))) (sym left)
    ∙ (ap (λ vs. targets_of s slots (exprs_view ls) ++ (lines_of_values s slots (exprs_view vs) ++ (Assign (length (exprs_view ls)) ∷ []))) (sym right)
    ∙ ap (λ n. targets_of s slots (exprs_view ls) ++ (lines_of_values s slots (exprs_view rs) ++ (Assign n ∷ []))) (length-map ls expr_item_view))

pub defined : (s : Source) (slots : List ℕ) (xs ls ys rs : List ExprItem) → ls ≡ xs → rs ≡ ys →
    lines_of_values s slots (exprs_view ys) ++ from_last (set_left s slots) (exprs_view xs)
    ≡ lines_of_values s slots (exprs_view rs) ++ from_last (set_left s slots) (exprs_view ls)
defined s slots xs ls ys rs left right =
    ap (λ vs. lines_of_values s slots (exprs_view vs) ++ from_last (set_left s slots) (exprs_view xs)) (sym right)
    ∙ ap (λ vs. lines_of_values s slots (exprs_view rs) ++ from_last (set_left s slots) (exprs_view vs)) (sym left)
