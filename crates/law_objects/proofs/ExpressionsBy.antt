-- The code of expressions with other names.
use Rattle.std.proofs.Common.{ℕ, ◌≡◌, ◌==◌, Bool, true, false, if◌then◌else◌, List, [], ◌∷◌, ◌++◌, Option, Some, refl, ap, ◌∙◌}
use Rattle.std.proofs.Math.Path.{ap₂}
use Rattle.go_ast.specs.declared.syntax.Kind.{Kind}
use Rattle.go_ast.specs.declared.syntax.Kind.TheVariants as kind
use Rattle.go_ast.specs.Flatten.{sign, sign_if, type_tokens, key_tokens, expr_tokens, operand_tokens, link_tokens, argument_tokens, literal_tokens}
use Rattle.go_ast.specs.Flatten.{element_tokens}
use Rattle.go_ast.specs.Tree.{ExprTree, LinkTrees, OperandTrees, ArgumentTrees, LiteralTree, ElementTrees}
use Rattle.go_ast.specs.Tree as tree
use Rattle.types_expr.specs.Places.{place_of}
use Rattle.types_expr.specs.Types.{PlainType}
use Rattle.types_expr.specs.Judge.{judge_type}
use Rattle.build_object.specs.Lines.{CodeLine, line_if_known}
use Rattle.build_object.specs.Lines as line
use Rattle.build_object.specs.Source.{Source}
use Rattle.build_object.specs.Operands.{CodeOperand, plain, prefixed, operated, selected, indexed, called, settled, grouped, value_count}
use Rattle.build_object.specs.Expressions.{argument_count, element_count, key_position, typed_literal, operand_of, operations, linked, argument_lines}
use Rattle.build_object.specs.Expressions.{literal_lines, keyed_lines, bare_lines, value_lines, enter_line, given_lines, address_lines, values_left}
use Rattle.law_faultless.proofs.DeclaringNames.{AllOf, front, back}
use Rattle.law_changed_types.proofs.Agreement.{Members}
use Rattle.law_changed_types.proofs.Rules.{same_type}
use Rattle.law_objects.specs.Replaced.{Replaced}
use Rattle.law_objects.proofs.OperandsBy.{operand_by, lines_by, both, known_by, prefixed_by, operated_by, indexed_by, called_by}
use Rattle.law_objects.proofs.OperandsBy.{count_by, settled_by, name_by, select_by, key_by, literal_by}
use Rattle.law_objects.specs.SourcesBy.{IsUniform, NumbersStay, source_by}

module _ (r : Replaced) (uniform : IsUniform r) (s : Source) (m : Members) (numbers : ℕ → Option ℕ)
    (agree : (n : ℕ) (t : PlainType) → s.before n ≡ Some t → m n t ≡ s.world.member n t) (slots : List ℕ) where
  abbrev now : Source
  now = source_by r s m numbers

  abbrev K : Kind → ℕ → Type 0
  K = NumbersStay s numbers

  abbrev L : List CodeLine → List CodeLine
  L lines = lines_by r lines

  enter_by : (one : Bool) (t : Option PlainType) →
      (if one then line_if_known line.Enter t else []) ≡ L (if one then line_if_known line.Enter t else [])
  enter_by true t = known_by r line.Enter (λ x. refl) t
  enter_by false t = refl

  given_from : (e : ExprTree) → operand_of now slots e ≡ operand_by r (operand_of s slots e) →
      (operand_of now slots e).value ++ enter_line now (operand_of now slots e) e ≡ L ((operand_of s slots e).value ++ enter_line s (operand_of s slots e) e)
  given_from e same =
      let o = operand_of s slots e in
      ap (λ (z : CodeOperand). z.value ++ enter_line now z e) same
      ∙ ap (λ x. L o.value ++ x) (ap (λ n. if n == 1 then line_if_known line.Enter (s.entered (place_of e)) else []) (count_by r o.mode)
      ∙ enter_by (value_count o.mode == 1) (s.entered (place_of e)))
      ∙ both r o.value (enter_line s o e)

  mutual
    unfolding operand_of expr_tokens

    pub operand_with : (e : ExprTree) → AllOf K (expr_tokens e) → operand_of now slots e ≡ operand_by r (operand_of s slots e)
    operand_with (tree.Number p) h = ap plain (ap (line_if_known line.Integer) (h.0 refl) ∙ known_by r line.Integer (λ x. refl) (s.number p))
    operand_with (tree.Text p) h = ap plain (known_by r line.Text (λ x. refl) (s.text p))
    operand_with (tree.Name p) h = name_by r uniform s m numbers agree slots p
    operand_with (tree.Blank p) h = refl
    operand_with (tree.Composite l) h = ap plain (literal_with l h)
    operand_with (tree.Paren o e c) h = ap grouped (operand_with e (front K (expr_tokens e) (sign kind.RightParen c ∷ []) h.1))
    operand_with (tree.Prefix o p e) h =
        ap (λ (z : CodeOperand). prefixed o z.value) (operand_with e h.1) ∙ prefixed_by r o (operand_of s slots e).value
    operand_with (tree.Address p l) h =
        ap plain (ap (λ z. z ++ (line.New ∷ [])) (literal_with l h.1) ∙ both r (literal_lines s slots l) (line.New ∷ []))
    operand_with (tree.Chain e links) h =
        ap (λ z. settled (linked now slots z links)) (operand_with e (front K (expr_tokens e) (link_tokens links) h))
        ∙ ap settled (links_with (operand_of s slots e) links (back K (expr_tokens e) (link_tokens links) h))
        ∙ settled_by r (linked s slots (operand_of s slots e) links)
    operand_with (tree.Binary e rest) h =
        ap (λ (z : CodeOperand). plain (operations now slots z.value rest)) (operand_with e (front K (expr_tokens e) (operand_tokens rest) h))
        ∙ ap plain (operations_with (operand_of s slots e).value rest (back K (expr_tokens e) (operand_tokens rest) h))

    pub operations_with : (a : List CodeLine) (rest : OperandTrees) → AllOf K (operand_tokens rest) →
        operations now slots (L a) rest ≡ L (operations s slots a rest)
    operations_with a tree.no_operand h = refl
    operations_with a (tree.operand o p e rest) h =
        ap (λ (z : CodeOperand). operations now slots (operated o (L a) z.value) rest) (operand_with e (front K (expr_tokens e) (operand_tokens rest) h.1))
        ∙ ap (λ z. operations now slots z rest) (operated_by r o a (operand_of s slots e).value)
        ∙ operations_with (operated o a (operand_of s slots e).value) rest (back K (expr_tokens e) (operand_tokens rest) h.1)

    pub links_with : (o : CodeOperand) (links : LinkTrees) → AllOf K (link_tokens links) →
        linked now slots (operand_by r o) links ≡ operand_by r (linked s slots o links)
    links_with o tree.no_link h = refl
    links_with o (tree.selector d n rest) h =
        ap (λ z. linked now slots z rest) (select_by r uniform s m numbers agree slots n o)
        ∙ links_with (selected s slots n o) rest h.1.1
    links_with o (tree.index b e c rest) h =
        ap (λ (z : CodeOperand). linked now slots (indexed (operand_by r o) z.value) rest)
        (operand_with e (front K (expr_tokens e) (sign kind.RightBracket c ∷ link_tokens rest) h.1))
        ∙ ap (λ z. linked now slots z rest) (indexed_by r o (operand_of s slots e).value)
        ∙ links_with (indexed o (operand_of s slots e).value) rest (back K (expr_tokens e) (sign kind.RightBracket c ∷ link_tokens rest) h.1).1
    links_with o (tree.call b args c rest) h =
        ap (λ z. linked now slots (called (operand_by r o) (argument_count args) z) rest)
        (arguments_with args (front K (argument_tokens args) (sign kind.RightParen c ∷ link_tokens rest) h.1))
        ∙ ap (λ z. linked now slots z rest) (called_by r o (argument_count args) (argument_lines s slots args))
        ∙ links_with (called o (argument_count args) (argument_lines s slots args)) rest
        (back K (argument_tokens args) (sign kind.RightParen c ∷ link_tokens rest) h.1).1

    pub arguments_with : (args : ArgumentTrees) → AllOf K (argument_tokens args) → argument_lines now slots args ≡ L (argument_lines s slots args)
    arguments_with tree.no_argument h = refl
    arguments_with (tree.argument e c rest) h =
        let behind = back K (expr_tokens e) (sign_if kind.Comma c ++ argument_tokens rest) h in
        ap₂ (λ z zs. z ++ zs) (given_from e (operand_with e (front K (expr_tokens e) (sign_if kind.Comma c ++ argument_tokens rest) h)))
        (arguments_with rest (back K (sign_if kind.Comma c) (argument_tokens rest) behind))
        ∙ both r ((operand_of s slots e).value ++ enter_line s (operand_of s slots e) e) (argument_lines s slots rest)

    pub literal_with : (l : LiteralTree) → AllOf K (literal_tokens l) → literal_lines now slots l ≡ L (literal_lines s slots l)
    literal_with (tree.literal t o es c) h =
        let behind = back K (type_tokens t) (sign kind.LeftBrace o ∷ (element_tokens es ++ (sign kind.RightBrace c ∷ []))) h in
        let inside = front K (element_tokens es) (sign kind.RightBrace c ∷ []) behind.1 in
        ap (λ z. typed_literal now z.type_of (keyed_lines now slots es) (bare_lines now slots es) (element_count es)) (same_type s.world m t)
        ∙ ap₂ (λ x y. typed_literal now (judge_type s.world t).type_of x y (element_count es)) (keyed_with es inside) (bare_with es inside)
        ∙ literal_by r uniform s m numbers agree (judge_type s.world t).type_of (keyed_lines s slots es) (bare_lines s slots es) (element_count es)

    pub keyed_with : (es : ElementTrees) → AllOf K (element_tokens es) → keyed_lines now slots es ≡ L (keyed_lines s slots es)
    keyed_with tree.no_element h = refl
    keyed_with (tree.element k e c rest) h =
        let behind = back K (key_tokens k) (expr_tokens e ++ (sign_if kind.Comma c ++ element_tokens rest)) h in
        let later = back K (sign_if kind.Comma c) (element_tokens rest) (back K (expr_tokens e) (sign_if kind.Comma c ++ element_tokens rest) behind) in
        let own = line_if_known line.With (key_position s k) in
        let value = (operand_of s slots e).value ++ enter_line s (operand_of s slots e) e in
        ap₂ (λ z x. z ++ (line_if_known line.With x ++ keyed_lines now slots rest))
        (given_from e (operand_with e (front K (expr_tokens e) (sign_if kind.Comma c ++ element_tokens rest) behind))) (key_by r uniform s m numbers agree k)
        ∙ ap₂ (λ x y. L value ++ (x ++ y)) (known_by r line.With (λ x. refl) (key_position s k)) (keyed_with rest later)
        ∙ ap (λ z. L value ++ z) (both r own (keyed_lines s slots rest))
        ∙ both r value (own ++ keyed_lines s slots rest)

    pub bare_with : (es : ElementTrees) → AllOf K (element_tokens es) → bare_lines now slots es ≡ L (bare_lines s slots es)
    bare_with tree.no_element h = refl
    bare_with (tree.element k e c rest) h =
        let behind = back K (key_tokens k) (expr_tokens e ++ (sign_if kind.Comma c ++ element_tokens rest)) h in
        let later = back K (sign_if kind.Comma c) (element_tokens rest) (back K (expr_tokens e) (sign_if kind.Comma c ++ element_tokens rest) behind) in
        ap₂ (λ z zs. z ++ zs)
        (given_from e (operand_with e (front K (expr_tokens e) (sign_if kind.Comma c ++ element_tokens rest) behind))) (bare_with rest later)
        ∙ both r ((operand_of s slots e).value ++ enter_line s (operand_of s slots e) e) (bare_lines s slots rest)

  pub values_with : (e : ExprTree) → AllOf K (expr_tokens e) → value_lines now slots e ≡ L (value_lines s slots e)
  values_with e h = ap (λ (z : CodeOperand). z.value) (operand_with e h)

  pub given_with : (e : ExprTree) → AllOf K (expr_tokens e) → given_lines now slots e ≡ L (given_lines s slots e)
  given_with e h = given_from e (operand_with e h)

  pub address_with : (e : ExprTree) → AllOf K (expr_tokens e) → address_lines now slots e ≡ L (address_lines s slots e)
  address_with e h = ap (λ (z : CodeOperand). z.address) (operand_with e h)

  pub count_with : (e : ExprTree) → AllOf K (expr_tokens e) → values_left now slots e ≡ values_left s slots e
  count_with e h = ap (λ (z : CodeOperand). value_count z.mode) (operand_with e h) ∙ count_by r (operand_of s slots e).mode
