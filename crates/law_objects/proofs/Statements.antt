-- The code of statements stays where tokens get new numbers.
use Rattle.std.proofs.Common.{ℕ, suc, ◌≡◌, List, [], ◌∷◌, ◌++◌, Option, Some, None, option_map, length, map, refl, ap, ◌∙◌}
use Rattle.std.specs.List.{flat_map}
use Rattle.std.proofs.Math.Path.{ap₂}
use Rattle.std.proofs.lemmas.List.{length-map}
use Rattle.go_ast.specs.declared.syntax.Kind.{Kind}
use Rattle.go_ast.specs.declared.syntax.Kind.TheVariants as kind
use Rattle.go_ast.specs.Flatten.{sign, sign_if, tokens_if, list_tokens, ident_tokens, type_tokens, expr_tokens, exprs_tokens, simple_tokens, value_tokens}
use Rattle.go_ast.specs.Flatten.{local_tokens, init_tokens, for_tokens, statement_tokens, block_tokens, statements_tokens, if_tokens, else_tokens}
use Rattle.go_ast.specs.Flatten.{step_kind, update_kind}
use Rattle.go_ast.specs.Tree.{Item, IdentTree, TypeTree, ExprTree, SimpleTree, LocalTree, InitTree, ForTree, StatementTree, BlockTree, StatementTrees}
use Rattle.go_ast.specs.Tree.{IfTree, ElseTree}
use Rattle.go_ast.specs.Tree as tree
use Rattle.types_expr.specs.Types.{PlainType}
use Rattle.types_expr.specs.World.{Bound, Local, Means, BrokenVariable, BrokenFunction, BrokenType}
use Rattle.types_expr.specs.Judge.{judge_type}
use Rattle.types_stmt.specs.Simple.{binary_of}
use Rattle.build_object.specs.Lines.{CodeLine, line_if_known, pops}
use Rattle.build_object.specs.Lines as line
use Rattle.build_object.specs.Source.{Source}
use Rattle.build_object.specs.Expressions.{value_lines, given_lines, address_lines}
use Rattle.build_object.specs.Statements.{lines_of_values, set_name, set_bound, set_left, target_lines, targets_of, update_lines, step_op}
use Rattle.build_object.specs.Statements.{simple_lines}
use Rattle.build_object.specs.Statements.{optional_lines, init_lines, zeros, first_values, local_lines, Exits, further, no_exits, block_exits, branched}
use Rattle.build_object.specs.Statements.{for_init, for_condition, for_post, loop_condition, body_exits, with_jump_back, loop_lines, statement_lines}
use Rattle.build_object.specs.Statements.{block_lines}
use Rattle.build_object.specs.Statements.{statements_lines, if_lines, else_lines, body_lines}
use Rattle.law_faultless.proofs.DeclaringNames.{AllOf, front, back}
use Rattle.law_rename.specs.Renumbered.{items_by, ident_by, type_by, expr_by, exprs_by, simple_by, values_by, local_by, init_by, for_by, statement_by, block_by}
use Rattle.law_rename.specs.Renumbered.{statements_by, if_by, else_by}
use Rattle.law_changed_types.specs.Renumbering.{renumbered_bound}
use Rattle.law_objects.proofs.Sources.{NewSource, made, Same, same_slot, same_written}
use Rattle.law_objects.proofs.Expressions.{lines_stay, given_lines_stay, address_stays, count_stays}
use Rattle.law_objects.proofs.Lists.{same_items, same_group, same_last}

module _ (m : NewSource) (slots : List ℕ) where
  abbrev t : ℕ → ℕ
  t = m.to

  abbrev s : Source
  s = m.old

  abbrev u : Source
  u = made m

  abbrev K : Kind → ℕ → Type 0
  K = Same m

  abbrev slots_now : List ℕ
  slots_now = map t slots

  value : (e : ExprTree) → AllOf K (expr_tokens e) → value_lines u slots_now (expr_by t e) ≡ value_lines s slots e
  value e h = lines_stay m slots e h

  given : (e : ExprTree) → AllOf K (expr_tokens e) → given_lines u slots_now (expr_by t e) ≡ given_lines s slots e
  given e h = given_lines_stay m slots e h

  address : (e : ExprTree) → AllOf K (expr_tokens e) → address_lines u slots_now (expr_by t e) ≡ address_lines s slots e
  address e h = address_stays m slots e h

  values : (es : List (Item ExprTree)) → AllOf K (exprs_tokens es) → lines_of_values u slots_now (exprs_by t es) ≡ lines_of_values s slots es
  values es h = same_items K t (expr_by t) expr_tokens (λ e. given_lines u slots_now e) (λ e. given_lines s slots e) given kind.Comma es h

  bound_set : (b : Bound) → set_bound slots_now (renumbered_bound t b) ≡ set_bound slots b
  bound_set (Local place) = ap (line_if_known line.Set) (same_slot m slots place)
  bound_set (Means x) = refl
  bound_set BrokenVariable = refl
  bound_set BrokenFunction = refl
  bound_set BrokenType = refl

  left : (e : ExprTree) → AllOf K (expr_tokens e) → set_left u slots_now (expr_by t e) ≡ set_left s slots e
  unfolding set_left expr_by expr_tokens
  left (tree.Name p) h = ap (set_bound slots_now) h.0.bound ∙ bound_set (s.world.bound p)
  left (tree.Blank p) h = refl
  left (tree.Number p) h = refl
  left (tree.Text p) h = refl
  left (tree.Composite l) h = refl
  left (tree.Paren o e c) h = refl
  left (tree.Prefix o p e) h = refl
  left (tree.Address p l) h = refl
  left (tree.Chain e links) h = refl
  left (tree.Binary e rest) h = refl

  target : (e : ExprTree) → AllOf K (expr_tokens e) → target_lines u slots_now (expr_by t e) ≡ target_lines s slots e
  unfolding target_lines expr_by
  target (tree.Blank p) h = refl
  target (tree.Name p) h = address (tree.Name p) h
  target (tree.Number p) h = address (tree.Number p) h
  target (tree.Text p) h = address (tree.Text p) h
  target (tree.Composite l) h = address (tree.Composite l) h
  target (tree.Paren o e c) h = address (tree.Paren o e c) h
  target (tree.Prefix o p e) h = address (tree.Prefix o p e) h
  target (tree.Address p l) h = address (tree.Address p l) h
  target (tree.Chain e links) h = address (tree.Chain e links) h
  target (tree.Binary e rest) h = address (tree.Binary e rest) h

  simple : (x : SimpleTree) → AllOf K (simple_tokens x) → simple_lines u slots_now (simple_by t x) ≡ simple_lines s slots x
  unfolding simple_lines simple_tokens
  simple (tree.Alone e) h = ap₂ (λ z n. z ++ pops n) (value e h) (count_stays m slots e h)
  simple (tree.Step e o p) h =
      ap (λ z. update_lines z (line.Integer 1 ∷ []) (step_op o)) (address e (front K (expr_tokens e) (sign (step_kind o) p ∷ []) h))
  simple (tree.Update x o p y) h =
      ap₂ (λ a b. update_lines a b (binary_of o)) (address x (front K (expr_tokens x) (sign (update_kind o) p ∷ expr_tokens y) h))
      (value y (back K (expr_tokens x) (sign (update_kind o) p ∷ expr_tokens y) h).1)
  simple (tree.Assign xs p ys) h =
      ap₂ (λ a b. a ++ (b ++ (line.Assign (length (exprs_by t xs)) ∷ [])))
      (same_items K t (expr_by t) expr_tokens (λ e. target_lines u slots_now e) (λ e. target_lines s slots e) target kind.Comma xs
      (front K (exprs_tokens xs) (sign kind.Assign p ∷ exprs_tokens ys) h))
      (values ys (back K (exprs_tokens xs) (sign kind.Assign p ∷ exprs_tokens ys) h).1)
      ∙ ap (λ n. targets_of s slots xs ++ (lines_of_values s slots ys ++ (line.Assign n ∷ []))) (length-map xs _)
  simple (tree.Define xs p ys) h =
      ap₂ (λ a b. a ++ b) (values ys (back K (exprs_tokens xs) (sign kind.Define p ∷ exprs_tokens ys) h).1)
      (same_last K t (expr_by t) expr_tokens (set_left u slots_now) (set_left s slots) left kind.Comma xs
      (front K (exprs_tokens xs) (sign kind.Define p ∷ exprs_tokens ys) h))

  optional : (x : Option SimpleTree) → AllOf K (tokens_if simple_tokens x) → optional_lines u slots_now (option_map (simple_by t) x) ≡ optional_lines s slots x
  optional None h = refl
  optional (Some x) h = simple x h

  init : (x : Option InitTree) → AllOf K (tokens_if init_tokens x) → init_lines u slots_now (option_map (init_by t) x) ≡ init_lines s slots x
  unfolding init_tokens
  init None h = refl
  init (Some i) h = optional i.simple (front K (tokens_if simple_tokens i.simple) (sign kind.Semicolon i.semicolon ∷ []) h)

  -- declarations of locals

  all_zero : (o : Option PlainType) (names : List (Item IdentTree)) →
      flat_map (λ (i : Item IdentTree). line_if_known line.Zero o) (items_by t (ident_by t) names)
      ≡ flat_map (λ (i : Item IdentTree). line_if_known line.Zero o) names
  all_zero o [] = refl
  all_zero o (i ∷ is) = ap (λ z. line_if_known line.Zero o ++ z) (all_zero o is)

  zeros_stay : (x : Option TypeTree) → AllOf K (tokens_if type_tokens x) → (names : List (Item IdentTree)) →
      zeros u (option_map (type_by t) x) (items_by t (ident_by t) names) ≡ zeros s x names
  unfolding zeros
  zeros_stay None h names = refl
  zeros_stay (Some x) h names =
      ap (λ z. flat_map (λ (i : Item IdentTree). line_if_known line.Zero z) (items_by t (ident_by t) names)) (same_written m x h)
      ∙ all_zero (judge_type s.world x).type_of names

  first : (l : LocalTree) → AllOf K (tokens_if type_tokens l.type_use) → (v : Option (ℕ × List (Item ExprTree))) →
      AllOf K (tokens_if (value_tokens expr_tokens) v) →
      first_values u slots_now (local_by t l) (option_map (values_by t (expr_by t)) v) ≡ first_values s slots l v
  unfolding first_values
  first l a None h = zeros_stay l.type_use a l.names
  first l a (Some v) h = values v.1 h.1

  name_set : (i : IdentTree) → AllOf K (ident_tokens i) → set_name slots_now (ident_by t i) ≡ set_name slots i
  name_set (tree.Named n) h = ap (line_if_known line.Set) (same_slot m slots n)
  name_set (tree.Underscore n) h = refl

  local : (l : LocalTree) → AllOf K (local_tokens l) → local_lines u slots_now (local_by t l) ≡ local_lines s slots l
  unfolding local_lines local_tokens
  local l h =
      let names = list_tokens kind.Comma ident_tokens l.names in
      let values_of = tokens_if (value_tokens expr_tokens) l.values in
      let behind = back K names (tokens_if type_tokens l.type_use ++ values_of) h in
      ap₂ (λ a b. a ++ b)
      (first l (front K (tokens_if type_tokens l.type_use) values_of behind) l.values (back K (tokens_if type_tokens l.type_use) values_of behind))
      (same_last K t (ident_by t) ident_tokens (set_name slots_now) (set_name slots) name_set kind.Comma l.names
      (front K names (tokens_if type_tokens l.type_use ++ values_of) h))

  -- loops

  before_loop : (x : ForTree) → AllOf K (for_tokens x) → for_init u slots_now (for_by t x) ≡ for_init s slots x
  unfolding for_tokens
  before_loop tree.forever h = refl
  before_loop (tree.while e) h = refl
  before_loop (tree.clauses i p c q post) h =
      optional i (front K (tokens_if simple_tokens i)
      (sign kind.Semicolon p ∷ (tokens_if expr_tokens c ++ (sign kind.Semicolon q ∷ tokens_if simple_tokens post))) h)

  after_loop : (x : ForTree) → AllOf K (for_tokens x) → for_post u slots_now (for_by t x) ≡ for_post s slots x
  unfolding for_tokens
  after_loop tree.forever h = refl
  after_loop (tree.while e) h = refl
  after_loop (tree.clauses i p c q post) h =
      let behind = back K (tokens_if simple_tokens i)
      (sign kind.Semicolon p ∷ (tokens_if expr_tokens c ++ (sign kind.Semicolon q ∷ tokens_if simple_tokens post))) h in
      optional post (back K (tokens_if expr_tokens c) (sign kind.Semicolon q ∷ tokens_if simple_tokens post) behind.1).1

  condition : (e : Option ExprTree) → AllOf K (tokens_if expr_tokens e) → (n : ℕ) →
      loop_condition u slots_now (option_map (expr_by t) e) n ≡ loop_condition s slots e n
  condition None h n = refl
  condition (Some e) h n = ap (λ z. z ++ (line.JumpUnless n ∷ [])) (value e h)

  loop_with : (e : Option ExprTree) → AllOf K (tokens_if expr_tokens e) → (body post : List CodeLine) →
      loop_lines u slots_now (option_map (expr_by t) e) body post ≡ loop_lines s slots e body post
  loop_with e h body post = ap (λ z. with_jump_back (z ++ (body ++ post))) (condition e h (suc (length (body ++ post))))

  loop : (x : ForTree) → AllOf K (for_tokens x) → (body post : List CodeLine) →
      loop_lines u slots_now (for_condition (for_by t x)) body post ≡ loop_lines s slots (for_condition x) body post
  unfolding for_tokens
  loop tree.forever h body post = refl
  loop (tree.while e) h body post = loop_with (Some e) h body post
  loop (tree.clauses i p c q after) h body post =
      let behind = back K (tokens_if simple_tokens i)
      (sign kind.Semicolon p ∷ (tokens_if expr_tokens c ++ (sign kind.Semicolon q ∷ tokens_if simple_tokens after))) h in
      loop_with c (front K (tokens_if expr_tokens c) (sign kind.Semicolon q ∷ tokens_if simple_tokens after) behind.1) body post

  mutual
    unfolding statement_lines statement_tokens statement_by

    statement_stays : (results : ℕ) (x : Exits) (a : StatementTree) → AllOf K (statement_tokens a) →
        statement_lines u slots_now results x (statement_by t a) ≡ statement_lines s slots results x a
    statement_stays results x tree.Empty h = refl
    statement_stays results x (tree.Var p g) h =
        same_group K t (local_by t) local_tokens (local_lines u slots_now) (local_lines s slots) local g h.1
    statement_stays results x (tree.Simple a) h = simple a h
    statement_stays results x (tree.Inner b) h = block_stays results x b h
    statement_stays results x (tree.If i) h = if_stays results x i h
    statement_stays results x (tree.For p f b) h =
        let header = front K (for_tokens f) (block_tokens b) h.1 in
        let exits = body_exits (for_post s slots f) in
        ap₂ (λ a z. a ++ loop_lines u slots_now (for_condition (for_by t f)) (block_lines u slots_now results (body_exits z) (block_by t b)) z)
        (before_loop f header) (after_loop f header)
        ∙ ap (λ z. for_init s slots f ++ loop_lines u slots_now (for_condition (for_by t f)) z (for_post s slots f))
        (block_stays results exits b (back K (for_tokens f) (block_tokens b) h.1))
        ∙ ap (λ z. for_init s slots f ++ z) (loop f header (block_lines s slots results exits b) (for_post s slots f))
    statement_stays results x (tree.Break p) h = refl
    statement_stays results x (tree.Continue p) h = refl
    statement_stays results x (tree.Return p es) h = ap (λ z. z ++ (line.Return results ∷ [])) (values es h.1)

    block_stays : (results : ℕ) (x : Exits) (b : BlockTree) → AllOf K (block_tokens b) →
        block_lines u slots_now results x (block_by t b) ≡ block_lines s slots results x b
    block_stays results x (tree.block o ss c) h = statements_stay results x ss (front K (statements_tokens ss) (sign kind.RightBrace c ∷ []) h.1)

    statements_stay : (results : ℕ) (x : Exits) (ss : StatementTrees) → AllOf K (statements_tokens ss) →
        statements_lines u slots_now results x (statements_by t ss) ≡ statements_lines s slots results x ss
    statements_stay results x tree.no_statement h = refl
    statements_stay results x (tree.statement a p rest) h =
        let behind = back K (statement_tokens a) (sign_if kind.Semicolon p ++ statements_tokens rest) h in
        let later = statements_lines s slots results x rest in
        ap (λ z. statement_lines u slots_now results (further (length z) x) (statement_by t a) ++ z)
        (statements_stay results x rest (back K (sign_if kind.Semicolon p) (statements_tokens rest) behind))
        ∙ ap (λ z. z ++ later)
        (statement_stays results (further (length later) x) a (front K (statement_tokens a) (sign_if kind.Semicolon p ++ statements_tokens rest) h))

    if_stays : (results : ℕ) (x : Exits) (i : IfTree) → AllOf K (if_tokens i) → if_lines u slots_now results x (if_by t i) ≡ if_lines s slots results x i
    if_stays results x (tree.if_tree p i e b otherwise) h =
        let first_tokens = tokens_if init_tokens i in
        let others = expr_tokens e ++ (block_tokens b ++ else_tokens otherwise) in
        let behind = back K first_tokens others h.1 in
        let bodies = back K (expr_tokens e) (block_tokens b ++ else_tokens otherwise) behind in
        let other = else_lines s slots results x otherwise in
        let exits = block_exits other x in
        ap₂ (λ a y. a ++ (y ++ branched (block_lines u slots_now results (block_exits (else_lines u slots_now results x (else_by t otherwise)) x) (block_by
        t b))
        (else_lines u slots_now results x (else_by t otherwise)))) (init i (front K first_tokens others h.1))
        (value e (front K (expr_tokens e) (block_tokens b ++ else_tokens otherwise) behind))
        ∙ ap (λ z. init_lines s slots i ++ (value_lines s slots e ++ branched (block_lines u slots_now results (block_exits z x) (block_by t b)) z))
        (else_stays results x otherwise (back K (block_tokens b) (else_tokens otherwise) bodies))
        ∙ ap (λ z. init_lines s slots i ++ (value_lines s slots e ++ branched z other))
        (block_stays results exits b (front K (block_tokens b) (else_tokens otherwise) bodies))

    else_stays : (results : ℕ) (x : Exits) (o : ElseTree) → AllOf K (else_tokens o) →
        else_lines u slots_now results x (else_by t o) ≡ else_lines s slots results x o
    else_stays results x tree.no_else h = refl
    else_stays results x (tree.else_if p i) h = ap Some (if_stays results x i h.1)
    else_stays results x (tree.else_block p b) h = ap Some (block_stays results x b h.1)

  pub body_stays : (results : ℕ) (b : BlockTree) → AllOf K (block_tokens b) → body_lines u slots_now results (block_by t b) ≡ body_lines s slots results b
  body_stays results b h = ap (λ z. z ++ (line.End ∷ [])) (block_stays results no_exits b h)
