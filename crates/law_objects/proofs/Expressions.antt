-- The code of expressions stays where tokens get new numbers.
use Rattle.std.proofs.Common.{ℕ, suc, ◌≡◌, ◌==◌, false, if◌then◌else◌, List, [], ◌∷◌, ◌++◌, Option, Some, None, length, map, refl, ap, ◌∙◌}
use Rattle.std.proofs.Math.Path.{ap₂}
use Rattle.go_ast.specs.declared.syntax.Kind.{Kind}
use Rattle.go_ast.specs.declared.syntax.Kind.TheVariants as kind
use Rattle.go_ast.specs.Flatten.{sign, sign_if, type_tokens, key_tokens, expr_tokens, operand_tokens, link_tokens, argument_tokens, literal_tokens}
use Rattle.go_ast.specs.Flatten.{element_tokens}
use Rattle.go_ast.specs.Tree.{ExprTree, LinkTrees, OperandTrees, ArgumentTrees, LiteralTree, ElementTrees}
use Rattle.go_ast.specs.Tree as tree
use Rattle.types_expr.specs.Types.{PlainType, ValueKind, Typed, Untyped, Meaning, Value, TypeName, Function, BuiltinName, Package, Results, Broken}
use Rattle.types_expr.specs.Types.{Nil as NilKind, AFieldOf, AMethodOf}
use Rattle.types_expr.specs.Places.{place_of}
use Rattle.types_expr.specs.World.{Bound, Local, Means, BrokenVariable, BrokenFunction, BrokenType, Member, AField, AMethod, ABrokenMethod}
use Rattle.types_expr.specs.Judge.{judge_type}
use Rattle.build_object.specs.Lines.{CodeLine, GlobalName, Truth, line_if_known}
use Rattle.build_object.specs.Lines as line
use Rattle.build_object.specs.Source.{Source}
use Rattle.build_object.specs.Operands.{Mode, Values, Called, CalledAsked, Converts, Predeclared, Qualifies, CodeOperand, plain, mode_alone, local_operand}
use Rattle.build_object.specs.Operands.{global_operand}
use Rattle.build_object.specs.Operands.{function_mode, plain_function, value_name, named_meaning, bound_name, name_operand, prefixed, operated}
use Rattle.build_object.specs.Operands.{export_operand, member_operand, typed_selector, selected_by, selected, indexed, called, settled, grouped}
use Rattle.build_object.specs.Operands.{value_count}
use Rattle.build_object.specs.Expressions.{argument_count, element_count, field_position, keyed_in, key_position, typed_literal, operand_of, operations}
use Rattle.build_object.specs.Expressions.{linked, argument_lines, literal_lines, keyed_lines, bare_lines, value_lines, enter_line, given_lines, address_lines}
use Rattle.build_object.specs.Expressions.{values_left}
use Rattle.law_faultless.proofs.DeclaringNames.{AllOf, front, back}
use Rattle.law_rename.specs.Renumbered.{key_by, expr_by, operands_by, links_by, arguments_by, literal_by, elements_by}
use Rattle.law_changed_types.specs.Renumbering.{renumbered_bound}
use Rattle.law_objects.specs.RenumberedSources.{IsSameAt}
use Rattle.law_changed_types.proofs.Places.{reports}
use Rattle.law_objects.proofs.Sources.{NewSource, made, numbers_alone, Same, same_slot, same_written}

module _ (m : NewSource) where
  abbrev t : ℕ → ℕ
  t = m.to

  abbrev s : Source
  s = m.old

  abbrev u : Source
  u = made m

  abbrev K : Kind → ℕ → Type 0
  K = Same m

  abbrev Here : ℕ → Type 0
  Here n = IsSameAt m.to m.old (made m) n

  -- names

  value_stays : (n : ℕ) → Here n → (k : ValueKind) → value_name u (t n) k ≡ value_name s n k
  value_stays n h (Typed x) = ap global_operand h.global
  value_stays n h (Untyped b) = ap (λ b. plain (Truth b ∷ [])) h.truth
  value_stays n h NilKind = refl

  meaning_stays : (n : ℕ) → Here n → (x : Meaning) → named_meaning u (t n) x ≡ named_meaning s n x
  unfolding named_meaning
  meaning_stays n h (Value k a) = value_stays n h k
  meaning_stays n h (TypeName x) = refl
  meaning_stays n h (Function f) = ap (λ (g : Option GlobalName). mode_alone (function_mode (plain_function g) false (length f.results))) h.global
  meaning_stays n h (BuiltinName b) = refl
  meaning_stays n h Package = refl
  meaning_stays n h (Results ts) = refl
  meaning_stays n h Broken = refl

  module _ (slots : List ℕ) where
    abbrev slots_now : List ℕ
    slots_now = map t slots

    bound_stays : (n : ℕ) → Here n → (b : Bound) → bound_name u slots_now (t n) (renumbered_bound t b) ≡ bound_name s slots n b
    unfolding bound_name
    bound_stays n h (Local place) = ap local_operand (same_slot m slots place)
    bound_stays n h (Means x) = meaning_stays n h x
    bound_stays n h BrokenVariable = refl
    bound_stays n h BrokenFunction = refl
    bound_stays n h BrokenType = refl

    name_stays : (n : ℕ) → Here n → name_operand u slots_now (t n) ≡ name_operand s slots n
    name_stays n h = ap (bound_name u slots_now (t n)) h.bound ∙ bound_stays n h (s.world.bound n)

    -- members

    member_stays : (o : CodeOperand) (x : PlainType) (y : Option Member) → member_operand u o x y ≡ member_operand s o x y
    unfolding member_operand
    member_stays o x None = refl
    member_stays o x (Some (AField f (AFieldOf own))) = refl
    member_stays o x (Some (AField f (AMethodOf signature))) = refl
    member_stays o x (Some (AMethod f on_pointer signature)) = refl
    member_stays o x (Some (ABrokenMethod f)) = refl

    typed_stays : (n : ℕ) → Here n → (o : CodeOperand) (b : Option PlainType) → s.before n ≡ b → typed_selector u (t n) o b ≡ typed_selector s n o b
    unfolding typed_selector
    typed_stays n h o None e = refl
    typed_stays n h o (Some x) e = ap (member_operand u o x) (h.member x e) ∙ member_stays o x (s.world.member n x)

    behind_value : (n : ℕ) → Here n → (o : CodeOperand) → typed_selector u (t n) o (u.before (t n)) ≡ typed_selector s n o (s.before n)
    behind_value n h o = ap (typed_selector u (t n) o) h.before ∙ typed_stays n h o (s.before n) refl

    selected_stays : (n : ℕ) → Here n → (o : CodeOperand) (x : Mode) → selected_by u slots_now (t n) o x ≡ selected_by s slots n o x
    unfolding selected_by
    selected_stays n h o Qualifies = ap (export_operand o.value) (name_stays n h)
    selected_stays n h o (Values k) = behind_value n h o
    selected_stays n h o (Called b f k) = behind_value n h o
    selected_stays n h o (CalledAsked f k) = behind_value n h o
    selected_stays n h o Converts = behind_value n h o
    selected_stays n h o (Predeclared b) = behind_value n h o

    -- composite literals

    field_stays : (x : Option Member) → field_position u x ≡ field_position s x
    field_stays None = refl
    field_stays (Some (AField f x)) = refl
    field_stays (Some (AMethod f p g)) = refl
    field_stays (Some (ABrokenMethod f)) = refl

    keyed_stays : (n : ℕ) → Here n → (b : Option PlainType) → s.before n ≡ b → keyed_in u (t n) b ≡ keyed_in s n b
    keyed_stays n h None e = refl
    keyed_stays n h (Some x) e = ap (field_position u) (h.member x e) ∙ field_stays (s.world.member n x)

    key_stays : (k : Option (ℕ × ℕ)) → AllOf K (key_tokens k) → key_position u (key_by t k) ≡ key_position s k
    key_stays None h = refl
    key_stays (Some k) h = ap (keyed_in u (t k.0)) h.0.before ∙ keyed_stays k.0 h.0 (s.before k.0) refl

    literal_stays : (x : Option PlainType) (keyed bare : List CodeLine) (n : ℕ) → typed_literal u x keyed bare n ≡ typed_literal s x keyed bare n
    unfolding typed_literal
    literal_stays None keyed bare n = refl
    literal_stays (Some x) keyed bare n = refl

    -- counts

    arguments_counted : (args : ArgumentTrees) → argument_count (arguments_by t args) ≡ argument_count args
    unfolding argument_count expr_by
    arguments_counted tree.no_argument = refl
    arguments_counted (tree.argument e c rest) = ap suc (arguments_counted rest)

    elements_counted : (es : ElementTrees) → element_count (elements_by t es) ≡ element_count es
    unfolding element_count expr_by
    elements_counted tree.no_element = refl
    elements_counted (tree.element k e c rest) = ap suc (elements_counted rest)

    -- entries into interfaces

    enter_stays : (o : CodeOperand) (e : ExprTree) → enter_line u o (expr_by t e) ≡ enter_line s o e
    enter_stays o e =
        ap (λ (x : Option PlainType). if value_count o.mode == 1 then line_if_known line.Enter x else [])
        (ap u.entered (reports (numbers_alone m) e) ∙ m.entered_still (place_of e))

    -- expressions

    given_from : (e : ExprTree) → operand_of u slots_now (expr_by t e) ≡ operand_of s slots e →
        (operand_of u slots_now (expr_by t e)).value ++ enter_line u (operand_of u slots_now (expr_by t e)) (expr_by t e)
        ≡ (operand_of s slots e).value ++ enter_line s (operand_of s slots e) e
    given_from e same =
        ap (λ (z : CodeOperand). z.value ++ enter_line u z (expr_by t e)) same
        ∙ ap (λ x. (operand_of s slots e).value ++ x) (enter_stays (operand_of s slots e) e)

    mutual
      unfolding operand_of expr_tokens expr_by

      pub operand_stays : (e : ExprTree) → AllOf K (expr_tokens e) → operand_of u slots_now (expr_by t e) ≡ operand_of s slots e
      operand_stays (tree.Number p) h = ap (λ (o : Option ℕ). plain (line_if_known line.Integer o)) h.0.number
      operand_stays (tree.Text p) h = ap (λ (o : Option (List ℕ)). plain (line_if_known line.Text o)) h.0.text
      operand_stays (tree.Name p) h = name_stays p h.0
      operand_stays (tree.Blank p) h = refl
      operand_stays (tree.Composite l) h = ap plain (lines_of_literal l h)
      operand_stays (tree.Paren o e c) h = ap grouped (operand_stays e (front K (expr_tokens e) (sign kind.RightParen c ∷ []) h.1))
      operand_stays (tree.Prefix o p e) h = ap (λ (z : CodeOperand). prefixed o z.value) (operand_stays e h.1)
      operand_stays (tree.Address p l) h = ap (λ z. plain (z ++ (line.New ∷ []))) (lines_of_literal l h.1)
      operand_stays (tree.Chain e links) h =
          ap (λ z. settled (linked u slots_now z (links_by t links))) (operand_stays e (front K (expr_tokens e) (link_tokens links) h))
          ∙ ap settled (links_stay (operand_of s slots e) links (back K (expr_tokens e) (link_tokens links) h))
      operand_stays (tree.Binary e rest) h =
          ap (λ (z : CodeOperand). plain (operations u slots_now z.value (operands_by t rest)))
          (operand_stays e (front K (expr_tokens e) (operand_tokens rest) h))
          ∙ ap plain (operations_stay (operand_of s slots e).value rest (back K (expr_tokens e) (operand_tokens rest) h))

      operations_stay : (a : List CodeLine) (rest : OperandTrees) → AllOf K (operand_tokens rest) →
          operations u slots_now a (operands_by t rest) ≡ operations s slots a rest
      operations_stay a tree.no_operand h = refl
      operations_stay a (tree.operand o p e rest) h =
          ap (λ (z : CodeOperand). operations u slots_now (operated o a z.value) (operands_by t rest))
          (operand_stays e (front K (expr_tokens e) (operand_tokens rest) h.1))
          ∙ operations_stay (operated o a (operand_of s slots e).value) rest (back K (expr_tokens e) (operand_tokens rest) h.1)

      links_stay : (o : CodeOperand) (links : LinkTrees) → AllOf K (link_tokens links) → linked u slots_now o (links_by t links) ≡ linked s slots o links
      links_stay o tree.no_link h = refl
      links_stay o (tree.selector d n rest) h =
          ap (λ z. linked u slots_now z (links_by t rest)) (selected_stays n h.1.0 o o.mode) ∙ links_stay (selected s slots n o) rest h.1.1
      links_stay o (tree.index b e c rest) h =
          ap (λ (z : CodeOperand). linked u slots_now (indexed o z.value) (links_by t rest))
          (operand_stays e (front K (expr_tokens e) (sign kind.RightBracket c ∷ link_tokens rest) h.1))
          ∙ links_stay (indexed o (operand_of s slots e).value) rest (back K (expr_tokens e) (sign kind.RightBracket c ∷ link_tokens rest) h.1).1
      links_stay o (tree.call b args c rest) h =
          ap₂ (λ n z. linked u slots_now (called o n z) (links_by t rest)) (arguments_counted args)
          (arguments_stay args (front K (argument_tokens args) (sign kind.RightParen c ∷ link_tokens rest) h.1))
          ∙ links_stay (called o (argument_count args) (argument_lines s slots args)) rest
          (back K (argument_tokens args) (sign kind.RightParen c ∷ link_tokens rest) h.1).1

      arguments_stay : (args : ArgumentTrees) → AllOf K (argument_tokens args) → argument_lines u slots_now (arguments_by t args) ≡ argument_lines s slots args
      arguments_stay tree.no_argument h = refl
      arguments_stay (tree.argument e c rest) h =
          let behind = back K (expr_tokens e) (sign_if kind.Comma c ++ argument_tokens rest) h in
          ap₂ (λ z zs. z ++ zs) (given_from e (operand_stays e (front K (expr_tokens e) (sign_if kind.Comma c ++ argument_tokens rest) h)))
          (arguments_stay rest (back K (sign_if kind.Comma c) (argument_tokens rest) behind))

      lines_of_literal : (l : LiteralTree) → AllOf K (literal_tokens l) → literal_lines u slots_now (literal_by t l) ≡ literal_lines s slots l
      lines_of_literal (tree.literal x o es c) h =
          let behind = back K (type_tokens x) (sign kind.LeftBrace o ∷ (element_tokens es ++ (sign kind.RightBrace c ∷ []))) h in
          let inside = front K (element_tokens es) (sign kind.RightBrace c ∷ []) behind.1 in
          ap (λ z. typed_literal u z (keyed_lines u slots_now (elements_by t es)) (bare_lines u slots_now (elements_by t es)) (element_count (elements_by t
          es)))
          (same_written m x (front K (type_tokens x) (sign kind.LeftBrace o ∷ (element_tokens es ++ (sign kind.RightBrace c ∷ []))) h))
          ∙ ap₂ (λ y z. typed_literal u (judge_type s.world x).type_of y z (element_count (elements_by t es))) (keyed_stay es inside) (bare_stay es inside)
          ∙ ap (typed_literal u (judge_type s.world x).type_of (keyed_lines s slots es) (bare_lines s slots es)) (elements_counted es)
          ∙ literal_stays (judge_type s.world x).type_of (keyed_lines s slots es) (bare_lines s slots es) (element_count es)

      keyed_stay : (es : ElementTrees) → AllOf K (element_tokens es) → keyed_lines u slots_now (elements_by t es) ≡ keyed_lines s slots es
      keyed_stay tree.no_element h = refl
      keyed_stay (tree.element k e c rest) h =
          let others = expr_tokens e ++ (sign_if kind.Comma c ++ element_tokens rest) in
          let behind = back K (key_tokens k) others h in
          let later = back K (sign_if kind.Comma c) (element_tokens rest) (back K (expr_tokens e) (sign_if kind.Comma c ++ element_tokens rest) behind) in
          ap₂ (λ z x. z ++ (line_if_known line.With x ++ keyed_lines u slots_now (elements_by t rest)))
          (given_from e (operand_stays e (front K (expr_tokens e) (sign_if kind.Comma c ++ element_tokens rest) behind))) (key_stays k (front K (key_tokens
          k) others h))
          ∙ ap (λ z. ((operand_of s slots e).value ++ enter_line s (operand_of s slots e) e) ++ (line_if_known line.With (key_position s k) ++ z))
          (keyed_stay rest later)

      bare_stay : (es : ElementTrees) → AllOf K (element_tokens es) → bare_lines u slots_now (elements_by t es) ≡ bare_lines s slots es
      bare_stay tree.no_element h = refl
      bare_stay (tree.element k e c rest) h =
          let behind = back K (key_tokens k) (expr_tokens e ++ (sign_if kind.Comma c ++ element_tokens rest)) h in
          let later = back K (sign_if kind.Comma c) (element_tokens rest) (back K (expr_tokens e) (sign_if kind.Comma c ++ element_tokens rest) behind) in
          ap₂ (λ z zs. z ++ zs)
          (given_from e (operand_stays e (front K (expr_tokens e) (sign_if kind.Comma c ++ element_tokens rest) behind))) (bare_stay rest later)

    pub lines_stay : (e : ExprTree) → AllOf K (expr_tokens e) → value_lines u slots_now (expr_by t e) ≡ value_lines s slots e
    lines_stay e h = ap (λ (z : CodeOperand). z.value) (operand_stays e h)

    pub given_lines_stay : (e : ExprTree) → AllOf K (expr_tokens e) → given_lines u slots_now (expr_by t e) ≡ given_lines s slots e
    given_lines_stay e h = given_from e (operand_stays e h)

    pub address_stays : (e : ExprTree) → AllOf K (expr_tokens e) → address_lines u slots_now (expr_by t e) ≡ address_lines s slots e
    address_stays e h = ap (λ (z : CodeOperand). z.address) (operand_stays e h)

    pub count_stays : (e : ExprTree) → AllOf K (expr_tokens e) → values_left u slots_now (expr_by t e) ≡ values_left s slots e
    count_stays e h = ap (λ (z : CodeOperand). value_count z.mode) (operand_stays e h)
