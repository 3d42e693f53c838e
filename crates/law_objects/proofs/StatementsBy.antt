-- The code of statements with other names.
use Rattle.std.proofs.Common.{ℕ, suc, ◌≡◌, List, [], ◌∷◌, ◌++◌, Option, Some, None, option_map, length, refl, ap, ◌∙◌}
use Rattle.std.specs.List.{flat_map}
use Rattle.std.proofs.Math.Path.{ap₂}
use Rattle.std.proofs.lemmas.List.{length-map}
use Rattle.go_ast.specs.declared.syntax.BinaryOp.{BinaryOp}
use Rattle.go_ast.specs.declared.syntax.Kind.{Kind}
use Rattle.go_ast.specs.declared.syntax.Kind.TheVariants as kind
use Rattle.go_ast.specs.Flatten.{sign, sign_if, tokens_if, list_tokens, ident_tokens, type_tokens, expr_tokens, exprs_tokens, simple_tokens, value_tokens}
use Rattle.go_ast.specs.Flatten.{local_tokens, init_tokens, for_tokens, statement_tokens, block_tokens, statements_tokens, if_tokens, else_tokens}
use Rattle.go_ast.specs.Flatten.{step_kind, update_kind}
use Rattle.go_ast.specs.Tree.{Item, IdentTree, TypeTree, ExprTree, SimpleTree, LocalTree, InitTree, ForTree, StatementTree, BlockTree, StatementTrees}
use Rattle.go_ast.specs.Tree.{IfTree, ElseTree}
use Rattle.go_ast.specs.Tree as tree
use Rattle.types_expr.specs.Types.{PlainType}
use Rattle.types_expr.specs.World.{Bound, Local, Means, BrokenVariable, BrokenFunction, BrokenType}
use Rattle.types_expr.specs.Judge.{judge_type}
use Rattle.types_stmt.specs.Simple.{binary_of}
use Rattle.build_object.specs.Lines.{CodeLine, line_if_known, pops}
use Rattle.build_object.specs.Lines as line
use Rattle.build_object.specs.Numbering.{slot_of}
use Rattle.build_object.specs.Source.{Source}
use Rattle.build_object.specs.Expressions.{value_lines, given_lines, address_lines, values_left}
use Rattle.build_object.specs.Statements.{lines_of_values, from_last, set_name, set_bound, set_left, target_lines, targets_of, update_lines, step_op}
use Rattle.build_object.specs.Statements.{simple_lines}
use Rattle.build_object.specs.Statements.{optional_lines, init_lines, zeros, first_values, local_lines, Exits, further, no_exits, block_exits, branched}
use Rattle.build_object.specs.Statements.{for_init, for_condition, for_post, loop_condition, body_exits, with_jump_back, loop_lines, statement_lines}
use Rattle.build_object.specs.Statements.{block_lines}
use Rattle.build_object.specs.Statements.{statements_lines, if_lines, else_lines, body_lines}
use Rattle.law_faultless.proofs.DeclaringNames.{AllOf, front, back}
use Rattle.law_changed_types.proofs.Agreement.{Members}
use Rattle.law_changed_types.proofs.Rules.{same_type}
use Rattle.law_objects.specs.Replaced.{Replaced, line_by}
use Rattle.law_objects.proofs.OperandsBy.{lines_by, both, known_by, pops_by}
use Rattle.law_objects.proofs.ExpressionsBy.{values_with, given_with, address_with, count_with}
use Rattle.law_objects.proofs.ListsBy.{items_by, group_by, last_by}
use Rattle.law_objects.specs.SourcesBy.{IsUniform, NumbersStay, source_by}

module _ (r : Replaced) where
  abbrev L : List CodeLine → List CodeLine
  L lines = lines_by r lines

  size_by : (xs : List CodeLine) → length (L xs) ≡ length xs
  size_by xs = length-map xs (line_by r)

  set_by : (slots : List ℕ) (place : ℕ) → line_if_known line.Set (slot_of slots place) ≡ L (line_if_known line.Set (slot_of slots place))
  set_by slots place = known_by r line.Set (λ x. refl) (slot_of slots place)

  set_name_by : (slots : List ℕ) (n : IdentTree) → set_name slots n ≡ L (set_name slots n)
  set_name_by slots (tree.Named n) = set_by slots n
  set_name_by slots (tree.Underscore n) = refl

  set_bound_by : (slots : List ℕ) (b : Bound) → set_bound slots b ≡ L (set_bound slots b)
  set_bound_by slots (Local place) = set_by slots place
  set_bound_by slots (Means m) = refl
  set_bound_by slots BrokenVariable = refl
  set_bound_by slots BrokenFunction = refl
  set_bound_by slots BrokenType = refl

  update_by : (a y : List CodeLine) (o : BinaryOp) → update_lines (L a) (L y) o ≡ L (update_lines a y o)
  update_by a y o =
      ap (λ z. L a ++ (line.Duplicate ∷ line.Load ∷ z)) (both r y (line.Operate o ∷ line.Assign 1 ∷ []))
      ∙ both r a (line.Duplicate ∷ line.Load ∷ (y ++ (line.Operate o ∷ line.Assign 1 ∷ [])))

  zero_by : (o : Option PlainType) → line_if_known line.Zero o ≡ L (line_if_known line.Zero o)
  zero_by o = known_by r line.Zero (λ x. refl) o

  block_exits_by : (o : Option (List CodeLine)) (x : Exits) → block_exits (option_map L o) x ≡ block_exits o x
  block_exits_by None x = refl
  block_exits_by (Some other) x = ap (λ n. further (suc n) x) (size_by other)

  branched_by : (body : List CodeLine) (o : Option (List CodeLine)) → branched (L body) (option_map L o) ≡ L (branched body o)
  branched_by body None = ap (λ n. line.JumpUnless n ∷ L body) (size_by body)
  branched_by body (Some other) =
      ap₂ (λ n k. line.JumpUnless (suc n) ∷ (L body ++ (line.Jump k ∷ L other))) (size_by body) (size_by other)
      ∙ ap (λ z. line.JumpUnless (suc (length body)) ∷ z) (both r body (line.Jump (length other) ∷ other))

  jump_back_by : (xs : List CodeLine) → with_jump_back (L xs) ≡ L (with_jump_back xs)
  jump_back_by xs =
      ap (λ n. L xs ++ (line.JumpBack (suc n) ∷ [])) (size_by xs) ∙ both r xs (line.JumpBack (suc (length xs)) ∷ [])

module _ (r : Replaced) (uniform : IsUniform r) (s : Source) (m : Members) (numbers : ℕ → Option ℕ)
    (agree : (n : ℕ) (t : PlainType) → s.before n ≡ Some t → m n t ≡ s.world.member n t) (slots : List ℕ) where
  abbrev now : Source
  now = source_by r s m numbers

  abbrev K : Kind → ℕ → Type 0
  K = NumbersStay s numbers

  value : (e : ExprTree) → AllOf K (expr_tokens e) → value_lines now slots e ≡ L r (value_lines s slots e)
  value e h = values_with r uniform s m numbers agree slots e h

  given : (e : ExprTree) → AllOf K (expr_tokens e) → given_lines now slots e ≡ L r (given_lines s slots e)
  given e h = given_with r uniform s m numbers agree slots e h

  address : (e : ExprTree) → AllOf K (expr_tokens e) → address_lines now slots e ≡ L r (address_lines s slots e)
  address e h = address_with r uniform s m numbers agree slots e h

  values : (es : List (Item ExprTree)) → AllOf K (exprs_tokens es) → lines_of_values now slots es ≡ L r (lines_of_values s slots es)
  values es h = items_by K (line_by r) expr_tokens (λ e. given_lines now slots e) (λ e. given_lines s slots e) given kind.Comma es h

  left : (e : ExprTree) → AllOf K (expr_tokens e) → set_left now slots e ≡ L r (set_left s slots e)
  unfolding set_left
  left (tree.Name p) h = set_bound_by r slots (s.world.bound p)
  left (tree.Blank p) h = refl
  left (tree.Number p) h = refl
  left (tree.Text p) h = refl
  left (tree.Composite l) h = refl
  left (tree.Paren o e c) h = refl
  left (tree.Prefix o p e) h = refl
  left (tree.Address p l) h = refl
  left (tree.Chain e links) h = refl
  left (tree.Binary e rest) h = refl

  target : (e : ExprTree) → AllOf K (expr_tokens e) → target_lines now slots e ≡ L r (target_lines s slots e)
  unfolding target_lines
  target (tree.Blank p) h = refl
  target (tree.Name p) h = address (tree.Name p) h
  target (tree.Number p) h = address (tree.Number p) h
  target (tree.Text p) h = address (tree.Text p) h
  target (tree.Composite l) h = address (tree.Composite l) h
  target (tree.Paren o e c) h = address (tree.Paren o e c) h
  target (tree.Prefix o p e) h = address (tree.Prefix o p e) h
  target (tree.Address p l) h = address (tree.Address p l) h
  target (tree.Chain e links) h = address (tree.Chain e links) h
  target (tree.Binary e rest) h = address (tree.Binary e rest) h

  simple : (x : SimpleTree) → AllOf K (simple_tokens x) → simple_lines now slots x ≡ L r (simple_lines s slots x)
  unfolding simple_lines simple_tokens
  simple (tree.Alone e) h =
      ap₂ (λ z n. z ++ pops n) (value e h) (count_with r uniform s m numbers agree slots e h)
      ∙ ap (λ z. L r (value_lines s slots e) ++ z) (pops_by r (values_left s slots e))
      ∙ both r (value_lines s slots e) (pops (values_left s slots e))
  simple (tree.Step e o p) h =
      ap (λ z. update_lines z (line.Integer 1 ∷ []) (step_op o)) (address e (front K (expr_tokens e) (sign (step_kind o) p ∷ []) h))
      ∙ update_by r (address_lines s slots e) (line.Integer 1 ∷ []) (step_op o)
  simple (tree.Update x o p y) h =
      ap₂ (λ a b. update_lines a b (binary_of o)) (address x (front K (expr_tokens x) (sign (update_kind o) p ∷ expr_tokens y) h))
      (value y (back K (expr_tokens x) (sign (update_kind o) p ∷ expr_tokens y) h).1)
      ∙ update_by r (address_lines s slots x) (value_lines s slots y) (binary_of o)
  simple (tree.Assign xs p ys) h =
      ap₂ (λ a b. a ++ (b ++ (line.Assign (length xs) ∷ [])))
      (items_by K (line_by r) expr_tokens (λ e. target_lines now slots e) (λ e. target_lines s slots e) target kind.Comma xs
      (front K (exprs_tokens xs) (sign kind.Assign p ∷ exprs_tokens ys) h))
      (values ys (back K (exprs_tokens xs) (sign kind.Assign p ∷ exprs_tokens ys) h).1)
      ∙ ap (λ z. L r (targets_of s slots xs) ++ z) (both r (lines_of_values s slots ys) (line.Assign (length xs) ∷ []))
      ∙ both r (targets_of s slots xs) (lines_of_values s slots ys ++ (line.Assign (length xs) ∷ []))
  simple (tree.Define xs p ys) h =
      ap₂ (λ a b. a ++ b) (values ys (back K (exprs_tokens xs) (sign kind.Define p ∷ exprs_tokens ys) h).1)
      (last_by K (line_by r) expr_tokens (set_left now slots) (set_left s slots) left kind.Comma xs
      (front K (exprs_tokens xs) (sign kind.Define p ∷ exprs_tokens ys) h))
      ∙ both r (lines_of_values s slots ys) (from_last (set_left s slots) xs)

  optional : (x : Option SimpleTree) → AllOf K (tokens_if simple_tokens x) → optional_lines now slots x ≡ L r (optional_lines s slots x)
  optional None h = refl
  optional (Some x) h = simple x h

  init : (x : Option InitTree) → AllOf K (tokens_if init_tokens x) → init_lines now slots x ≡ L r (init_lines s slots x)
  unfolding init_tokens
  init None h = refl
  init (Some i) h = optional i.simple (front K (tokens_if simple_tokens i.simple) (sign kind.Semicolon i.semicolon ∷ []) h)

  -- declarations of locals

  all_zero : (o : Option PlainType) (names : List (Item IdentTree)) →
      flat_map (λ (i : Item IdentTree). line_if_known line.Zero o) names ≡ L r (flat_map (λ (i : Item IdentTree). line_if_known line.Zero o) names)
  all_zero o [] = refl
  all_zero o (i ∷ is) =
      ap₂ (λ a b. a ++ b) (zero_by r o) (all_zero o is)
      ∙ both r (line_if_known line.Zero o) (flat_map (λ (j : Item IdentTree). line_if_known line.Zero o) is)

  zeros_with : (t : Option TypeTree) (names : List (Item IdentTree)) → zeros now t names ≡ L r (zeros s t names)
  unfolding zeros
  zeros_with None names = refl
  zeros_with (Some t) names =
      ap (λ z. flat_map (λ (i : Item IdentTree). line_if_known line.Zero z.type_of) names) (same_type s.world m t)
      ∙ all_zero (judge_type s.world t).type_of names

  first : (l : LocalTree) (v : Option (ℕ × List (Item ExprTree))) → AllOf K (tokens_if (value_tokens expr_tokens) v) →
      first_values now slots l v ≡ L r (first_values s slots l v)
  unfolding first_values
  first l None h = zeros_with l.type_use l.names
  first l (Some v) h = values v.1 h.1

  names_with : (is : List (Item IdentTree)) → from_last (set_name slots) is ≡ L r (from_last (set_name slots) is)
  unfolding from_last
  names_with [] = refl
  names_with (i ∷ is) = ap₂ (λ a b. a ++ b) (names_with is) (set_name_by r slots i.value) ∙ both r (from_last (set_name slots) is) (set_name slots i.value)

  local : (l : LocalTree) → AllOf K (local_tokens l) → local_lines now slots l ≡ L r (local_lines s slots l)
  unfolding local_lines local_tokens
  local l h =
      let behind = back K (list_tokens kind.Comma ident_tokens l.names) (tokens_if type_tokens l.type_use ++ tokens_if (value_tokens expr_tokens) l.values) h in
      ap₂ (λ a b. a ++ b) (first l l.values (back K (tokens_if type_tokens l.type_use) (tokens_if (value_tokens expr_tokens) l.values) behind))
      (names_with l.names)
      ∙ both r (first_values s slots l l.values) (from_last (set_name slots) l.names)

  -- loops

  before_loop : (x : ForTree) → AllOf K (for_tokens x) → for_init now slots x ≡ L r (for_init s slots x)
  unfolding for_tokens
  before_loop tree.forever h = refl
  before_loop (tree.while e) h = refl
  before_loop (tree.clauses i p c q post) h =
      optional i (front K (tokens_if simple_tokens i)
      (sign kind.Semicolon p ∷ (tokens_if expr_tokens c ++ (sign kind.Semicolon q ∷ tokens_if simple_tokens post))) h)

  after_loop : (x : ForTree) → AllOf K (for_tokens x) → for_post now slots x ≡ L r (for_post s slots x)
  unfolding for_tokens
  after_loop tree.forever h = refl
  after_loop (tree.while e) h = refl
  after_loop (tree.clauses i p c q post) h =
      let behind = back K (tokens_if simple_tokens i)
      (sign kind.Semicolon p ∷ (tokens_if expr_tokens c ++ (sign kind.Semicolon q ∷ tokens_if simple_tokens post))) h in
      optional post (back K (tokens_if expr_tokens c) (sign kind.Semicolon q ∷ tokens_if simple_tokens post) behind.1).1

  of_condition : (x : ForTree) → AllOf K (for_tokens x) → AllOf K (tokens_if expr_tokens (for_condition x))
  unfolding for_tokens
  of_condition tree.forever h = tt
  of_condition (tree.while e) h = h
  of_condition (tree.clauses i p c q post) h =
      let behind = back K (tokens_if simple_tokens i)
      (sign kind.Semicolon p ∷ (tokens_if expr_tokens c ++ (sign kind.Semicolon q ∷ tokens_if simple_tokens post))) h in
      front K (tokens_if expr_tokens c) (sign kind.Semicolon q ∷ tokens_if simple_tokens post) behind.1

  condition : (e : Option ExprTree) (n : ℕ) → AllOf K (tokens_if expr_tokens e) → loop_condition now slots e n ≡ L r (loop_condition s slots e n)
  condition None n h = refl
  condition (Some e) n h =
      ap (λ z. z ++ (line.JumpUnless n ∷ [])) (value e h) ∙ both r (value_lines s slots e) (line.JumpUnless n ∷ [])

  loop : (e : Option ExprTree) → AllOf K (tokens_if expr_tokens e) → (body post : List CodeLine) →
      loop_lines now slots e (L r body) (L r post) ≡ L r (loop_lines s slots e body post)
  loop e h body post =
      ap (λ z. with_jump_back (loop_condition now slots e (suc (length z)) ++ z)) (both r body post)
      ∙ ap (λ n. with_jump_back (loop_condition now slots e (suc n) ++ L r (body ++ post))) (size_by r (body ++ post))
      ∙ ap (λ z. with_jump_back (z ++ L r (body ++ post))) (condition e (suc (length (body ++ post))) h)
      ∙ ap with_jump_back (both r (loop_condition s slots e (suc (length (body ++ post)))) (body ++ post))
      ∙ jump_back_by r (loop_condition s slots e (suc (length (body ++ post))) ++ (body ++ post))

  mutual
    unfolding statement_lines statement_tokens

    pub statement_with : (results : ℕ) (x : Exits) (t : StatementTree) → AllOf K (statement_tokens t) →
        statement_lines now slots results x t ≡ L r (statement_lines s slots results x t)
    statement_with results x tree.Empty h = refl
    statement_with results x (tree.Var p g) h = group_by K (line_by r) local_tokens (local_lines now slots) (local_lines s slots) local g h.1
    statement_with results x (tree.Simple a) h = simple a h
    statement_with results x (tree.Inner b) h = block_with results x b h
    statement_with results x (tree.If i) h = if_with results x i h
    statement_with results x (tree.For p f b) h =
        let header = front K (for_tokens f) (block_tokens b) h.1 in
        let exits = body_exits (for_post s slots f) in
        ap (λ z. for_init now slots f ++ loop_lines now slots (for_condition f) (block_lines now slots results (body_exits z) b) z) (after_loop f header)
        ∙ ap (λ n. for_init now slots f ++ loop_lines now slots (for_condition f)
        (block_lines now slots results (record { next = 0; out = suc n }) b) (L r (for_post s slots f))) (size_by r (for_post s slots f))
        ∙ ap₂ (λ a z. a ++ loop_lines now slots (for_condition f) z (L r (for_post s slots f))) (before_loop f header)
        (block_with results exits b (back K (for_tokens f) (block_tokens b) h.1))
        ∙ ap (λ z. L r (for_init s slots f) ++ z)
        (loop (for_condition f) (of_condition f header) (block_lines s slots results exits b) (for_post s slots f))
        ∙ both r (for_init s slots f) (loop_lines s slots (for_condition f) (block_lines s slots results exits b) (for_post s slots f))
    statement_with results x (tree.Break p) h = refl
    statement_with results x (tree.Continue p) h = refl
    statement_with results x (tree.Return p es) h =
        ap (λ z. z ++ (line.Return results ∷ [])) (values es h.1) ∙ both r (lines_of_values s slots es) (line.Return results ∷ [])

    pub block_with : (results : ℕ) (x : Exits) (b : BlockTree) → AllOf K (block_tokens b) →
        block_lines now slots results x b ≡ L r (block_lines s slots results x b)
    block_with results x (tree.block o ss c) h = statements_with results x ss (front K (statements_tokens ss) (sign kind.RightBrace c ∷ []) h.1)

    pub statements_with : (results : ℕ) (x : Exits) (ss : StatementTrees) → AllOf K (statements_tokens ss) →
        statements_lines now slots results x ss ≡ L r (statements_lines s slots results x ss)
    statements_with results x tree.no_statement h = refl
    statements_with results x (tree.statement a p rest) h =
        let behind = back K (statement_tokens a) (sign_if kind.Semicolon p ++ statements_tokens rest) h in
        let later = statements_lines s slots results x rest in
        let exits = further (length later) x in
        ap (λ z. statement_lines now slots results (further (length z) x) a ++ z)
        (statements_with results x rest (back K (sign_if kind.Semicolon p) (statements_tokens rest) behind))
        ∙ ap (λ n. statement_lines now slots results (further n x) a ++ L r later) (size_by r later)
        ∙ ap (λ z. z ++ L r later)
        (statement_with results exits a (front K (statement_tokens a) (sign_if kind.Semicolon p ++ statements_tokens rest) h))
        ∙ both r (statement_lines s slots results exits a) later

    pub if_with : (results : ℕ) (x : Exits) (i : IfTree) → AllOf K (if_tokens i) → if_lines now slots results x i ≡ L r (if_lines s slots results x i)
    if_with results x (tree.if_tree p i e b otherwise) h =
        let first_tokens = tokens_if init_tokens i in
        let others = expr_tokens e ++ (block_tokens b ++ else_tokens otherwise) in
        let behind = back K first_tokens others h.1 in
        let bodies = back K (expr_tokens e) (block_tokens b ++ else_tokens otherwise) behind in
        let other = else_lines s slots results x otherwise in
        let exits = block_exits other x in
        let body = block_lines s slots results exits b in
        ap (λ z. init_lines now slots i ++ (value_lines now slots e ++ branched (block_lines now slots results (block_exits z x) b) z))
        (else_with results x otherwise (back K (block_tokens b) (else_tokens otherwise) bodies))
        ∙ ap (λ z. init_lines now slots i ++ (value_lines now slots e ++ branched (block_lines now slots results z b) (option_map (L r) other)))
        (block_exits_by r other x)
        ∙ ap (λ z. init_lines now slots i ++ (value_lines now slots e ++ branched z (option_map (L r) other)))
        (block_with results exits b (front K (block_tokens b) (else_tokens otherwise) bodies))
        ∙ ap (λ z. init_lines now slots i ++ (value_lines now slots e ++ z)) (branched_by r body other)
        ∙ ap₂ (λ a z. a ++ (z ++ L r (branched body other))) (init i (front K first_tokens others h.1))
        (value e (front K (expr_tokens e) (block_tokens b ++ else_tokens otherwise) behind))
        ∙ ap (λ z. L r (init_lines s slots i) ++ z) (both r (value_lines s slots e) (branched body other))
        ∙ both r (init_lines s slots i) (value_lines s slots e ++ branched body other)

    pub else_with : (results : ℕ) (x : Exits) (o : ElseTree) → AllOf K (else_tokens o) →
        else_lines now slots results x o ≡ option_map (L r) (else_lines s slots results x o)
    else_with results x tree.no_else h = refl
    else_with results x (tree.else_if p i) h = ap Some (if_with results x i h.1)
    else_with results x (tree.else_block p b) h = ap Some (block_with results x b h.1)

  pub body_with : (results : ℕ) (b : BlockTree) → AllOf K (block_tokens b) → body_lines now slots results b ≡ L r (body_lines s slots results b)
  body_with results b h =
      ap (λ z. z ++ (line.End ∷ [])) (block_with results no_exits b h) ∙ both r (block_lines s slots results no_exits b) (line.End ∷ [])
