-- The slots of a function get the new numbers of their tokens.
use Rattle.std.proofs.Common.{ℕ, ◌≡◌, Bool, true, false, if◌then◌else◌, List, [], ◌∷◌, ◌++◌, Option, Some, None, option_map, map, refl, sym, ap, ◌∙◌}
use Rattle.std.specs.Prelude.{option_to_list}
use Rattle.std.specs.List.{flat_map}
use Rattle.std.proofs.Math.Path.{ap₂}
use Rattle.std.proofs.lemmas.List.{map-append}
use Rattle.go_ast.specs.declared.syntax.Kind.{Kind}
use Rattle.go_ast.specs.declared.syntax.Kind.TheVariants as kind
use Rattle.go_ast.specs.Flatten.{sign, sign_if, tokens_if, list_tokens, ident_tokens, type_tokens, expr_tokens, exprs_tokens, simple_tokens, value_tokens}
use Rattle.go_ast.specs.Flatten.{local_tokens, init_tokens, for_tokens, statement_tokens, block_tokens, statements_tokens, if_tokens, else_tokens}
use Rattle.go_ast.specs.Flatten.{receiver_tokens, param_tokens, result_tokens, func_tokens}
use Rattle.go_ast.specs.Tree.{Item, IdentTree, ExprTree, SimpleTree, LocalTree, InitTree, ForTree, StatementTree, BlockTree, StatementTrees, IfTree, ElseTree}
use Rattle.go_ast.specs.Tree.{ReceiverTree, ParamTree, FuncTree}
use Rattle.go_ast.specs.Tree as tree
use Rattle.types_expr.specs.World.{World, Bound, Local, Means, BrokenVariable, BrokenFunction, BrokenType}
use Rattle.types_stmt.specs.Sides.{named, ident_place, defined_name, declares, is_own}
use Rattle.build_object.specs.Slots.{receiver_places, parameter_places, local_places, simple_places, optional_places, init_places, header_places}
use Rattle.build_object.specs.Slots.{statement_places, block_places, statements_places, if_places, else_places, slots_of}
use Rattle.law_faultless.proofs.DeclaringNames.{AllOf, front, back}
use Rattle.law_rename.specs.Renumbered.{ident_by, expr_by, simple_by, local_by, init_by, for_by, statement_by, block_by, statements_by, if_by, else_by}
use Rattle.law_rename.specs.Renumbered.{receiver_by, param_by, func_by, items_by}
use Rattle.law_changed_types.specs.Renumbering.{renumbered_bound}
use Rattle.law_objects.proofs.Sources.{NewSource, made, Same, own_token}
use Rattle.law_objects.proofs.Lists.{items_changed, group_changed}

if_changes : (t : ℕ → ℕ) (b : Bool) (n : ℕ) → option_to_list (if b then Some (t n) else None) ≡ map t (option_to_list (if b then Some n else None))
if_changes t true n = refl
if_changes t false n = refl

module _ (m : NewSource) where
  abbrev t : ℕ → ℕ
  t = m.to

  abbrev v : World
  v = m.old.world

  abbrev w : World
  w = (made m).world

  abbrev K : Kind → ℕ → Type 0
  K = Same m

  both : (xs ys : List ℕ) → map t xs ++ map t ys ≡ map t (xs ++ ys)
  both xs ys = sym (map-append t xs ys)

  -- identifiers

  place_moves : (i : IdentTree) → AllOf K (ident_tokens i) → ident_place (ident_by t i) ∷ [] ≡ map t (ident_place i ∷ [])
  unfolding ident_place
  place_moves (tree.Named n) h = refl
  place_moves (tree.Underscore n) h = refl

  named_moves : (i : IdentTree) → AllOf K (ident_tokens i) → option_to_list (named (ident_by t i)) ≡ map t (option_to_list (named i))
  unfolding named
  named_moves (tree.Named n) h = refl
  named_moves (tree.Underscore n) h = refl

  own_moves : (n : ℕ) (b : Bound) → is_own (t n) (renumbered_bound t b) ≡ is_own n b
  own_moves n (Local d) = own_token m d n
  own_moves n (Means x) = refl
  own_moves n BrokenVariable = refl
  own_moves n BrokenFunction = refl
  own_moves n BrokenType = refl

  defined_moves : (e : ExprTree) → AllOf K (expr_tokens e) → option_to_list (defined_name w (expr_by t e)) ≡ map t (option_to_list (defined_name v e))
  unfolding defined_name expr_by expr_tokens
  defined_moves (tree.Name n) h =
      ap (λ (b : Bool). option_to_list (if b then Some (t n) else None)) (ap (is_own (t n)) h.0.bound ∙ own_moves n (v.bound n))
      ∙ if_changes t (declares v n) n
  defined_moves (tree.Number n) h = refl
  defined_moves (tree.Text n) h = refl
  defined_moves (tree.Blank n) h = refl
  defined_moves (tree.Composite l) h = refl
  defined_moves (tree.Paren o e c) h = refl
  defined_moves (tree.Prefix o p e) h = refl
  defined_moves (tree.Address p l) h = refl
  defined_moves (tree.Chain e ls) h = refl
  defined_moves (tree.Binary e os) h = refl

  -- statements

  simple : (a : SimpleTree) → AllOf K (simple_tokens a) → simple_places w (simple_by t a) ≡ map t (simple_places v a)
  unfolding simple_places simple_tokens
  simple (tree.Alone e) h = refl
  simple (tree.Step e o p) h = refl
  simple (tree.Update a o p b) h = refl
  simple (tree.Assign ls p rs) h = refl
  simple (tree.Define ls p rs) h =
      items_changed K t (expr_by t) expr_tokens t (λ e. option_to_list (defined_name w e)) (λ e. option_to_list (defined_name v e)) defined_moves kind.Comma ls
      (front K (exprs_tokens ls) (sign kind.Define p ∷ exprs_tokens rs) h)

  optional : (a : Option SimpleTree) → AllOf K (tokens_if simple_tokens a) → optional_places w (option_map (simple_by t) a) ≡ map t (optional_places v a)
  optional None h = refl
  optional (Some a) h = simple a h

  init : (a : Option InitTree) → AllOf K (tokens_if init_tokens a) → init_places w (option_map (init_by t) a) ≡ map t (init_places v a)
  unfolding init_tokens
  init None h = refl
  init (Some a) h = optional a.simple (front K (tokens_if simple_tokens a.simple) (sign kind.Semicolon a.semicolon ∷ []) h)

  header : (a : ForTree) → AllOf K (for_tokens a) → header_places w (for_by t a) ≡ map t (header_places v a)
  unfolding header_places for_tokens
  header tree.forever h = refl
  header (tree.while e) h = refl
  header (tree.clauses a p c q b) h =
      let behind = back K (tokens_if simple_tokens a)
      (sign kind.Semicolon p ∷ (tokens_if expr_tokens c ++ (sign kind.Semicolon q ∷ tokens_if simple_tokens b))) h in
      ap₂ (λ k l. k ++ l)
      (optional a (front K (tokens_if simple_tokens a)
      (sign kind.Semicolon p ∷ (tokens_if expr_tokens c ++ (sign kind.Semicolon q ∷ tokens_if simple_tokens b))) h))
      (optional b (back K (tokens_if expr_tokens c) (sign kind.Semicolon q ∷ tokens_if simple_tokens b) behind.1).1)
      ∙ both (optional_places v a) (optional_places v b)

  local : (l : LocalTree) → AllOf K (local_tokens l) → local_places (local_by t l) ≡ map t (local_places l)
  unfolding local_tokens
  local l h =
      items_changed K t (ident_by t) ident_tokens t (λ i. option_to_list (named i)) (λ i. option_to_list (named i)) named_moves kind.Comma l.names
      (front K (list_tokens kind.Comma ident_tokens l.names) (tokens_if type_tokens l.type_use ++ tokens_if (value_tokens expr_tokens) l.values) h)

  mutual
    unfolding statement_places statement_tokens statement_by

    statement : (a : StatementTree) → AllOf K (statement_tokens a) → statement_places w (statement_by t a) ≡ map t (statement_places v a)
    statement tree.Empty h = refl
    statement (tree.Var p g) h = group_changed K t (local_by t) local_tokens t local_places local_places local g h.1
    statement (tree.Simple a) h = simple a h
    statement (tree.Inner b) h = block b h
    statement (tree.If i) h = choice i h
    statement (tree.For p f b) h =
        ap₂ (λ k l. k ++ l) (header f (front K (for_tokens f) (block_tokens b) h.1)) (block b (back K (for_tokens f) (block_tokens b) h.1))
        ∙ both (header_places v f) (block_places v b)
    statement (tree.Break p) h = refl
    statement (tree.Continue p) h = refl
    statement (tree.Return p es) h = refl

    pub block : (b : BlockTree) → AllOf K (block_tokens b) → block_places w (block_by t b) ≡ map t (block_places v b)
    block (tree.block o ss c) h = statements ss (front K (statements_tokens ss) (sign kind.RightBrace c ∷ []) h.1)

    statements : (ss : StatementTrees) → AllOf K (statements_tokens ss) → statements_places w (statements_by t ss) ≡ map t (statements_places v ss)
    statements tree.no_statement h = refl
    statements (tree.statement a p rest) h =
        let behind = back K (statement_tokens a) (sign_if kind.Semicolon p ++ statements_tokens rest) h in
        ap₂ (λ k l. k ++ l) (statement a (front K (statement_tokens a) (sign_if kind.Semicolon p ++ statements_tokens rest) h))
        (statements rest (back K (sign_if kind.Semicolon p) (statements_tokens rest) behind))
        ∙ both (statement_places v a) (statements_places v rest)

    choice : (i : IfTree) → AllOf K (if_tokens i) → if_places w (if_by t i) ≡ map t (if_places v i)
    choice (tree.if_tree p i e b otherwise) h =
        let first = tokens_if init_tokens i in
        let others = expr_tokens e ++ (block_tokens b ++ else_tokens otherwise) in
        let bodies = back K (expr_tokens e) (block_tokens b ++ else_tokens otherwise) (back K first others h.1) in
        ap₂ (λ k l. k ++ l) (init i (front K first others h.1))
        (ap₂ (λ k l. k ++ l) (block b (front K (block_tokens b) (else_tokens otherwise) bodies))
        (other otherwise (back K (block_tokens b) (else_tokens otherwise) bodies))
        ∙ both (block_places v b) (else_places v otherwise))
        ∙ both (init_places v i) (block_places v b ++ else_places v otherwise)

    other : (o : ElseTree) → AllOf K (else_tokens o) → else_places w (else_by t o) ≡ map t (else_places v o)
    other tree.no_else h = refl
    other (tree.else_if p i) h = choice i h.1
    other (tree.else_block p b) h = block b h.1

  -- functions

  receiver : (r : Option ReceiverTree) → AllOf K (tokens_if receiver_tokens r) →
      receiver_places (option_map (receiver_by t) r) ≡ map t (receiver_places r)
  unfolding receiver_tokens
  receiver None h = refl
  receiver (Some r) h =
      place_moves r.name
      (front K (ident_tokens r.name)
      (sign_if kind.Star r.star ++ (sign kind.Name r.type_name ∷ (sign_if kind.Comma r.comma ++ (sign kind.RightParen r.rparen ∷ [])))) h.1)

  parameter : (p : ParamTree) → AllOf K (param_tokens p) →
      flat_map (λ (n : Item IdentTree). ident_place n.value ∷ []) (param_by t p).names ≡ map t (flat_map (λ (n : Item IdentTree). ident_place n.value ∷ [])
      p.names)
  unfolding param_tokens
  parameter p h =
      items_changed K t (ident_by t) ident_tokens t (λ i. ident_place i ∷ []) (λ i. ident_place i ∷ []) place_moves kind.Comma p.names
      (front K (list_tokens kind.Comma ident_tokens p.names) (type_tokens p.type_use) h)

  parameters : (ps : List (Item ParamTree)) → AllOf K (list_tokens kind.Comma param_tokens ps) →
      parameter_places (items_by t (param_by t) ps) ≡ map t (parameter_places ps)
  parameters ps h =
      items_changed K t (param_by t) param_tokens t (λ (p : ParamTree). flat_map (λ (n : Item IdentTree). ident_place n.value ∷ []) p.names)
      (λ (p : ParamTree). flat_map (λ (n : Item IdentTree). ident_place n.value ∷ []) p.names) parameter kind.Comma ps h

  pub slots_move : (f : FuncTree) → AllOf K (func_tokens f) → slots_of w (func_by t f) ≡ map t (slots_of v f)
  unfolding func_tokens
  slots_move f h =
      let params = list_tokens kind.Comma param_tokens f.params in
      let ends = sign kind.RightParen f.rparen ∷ (result_tokens f.result ++ block_tokens f.body) in
      let rest = sign kind.Name f.name ∷ sign kind.LeftParen f.lparen ∷ (params ++ ends) in
      let behind = back K (tokens_if receiver_tokens f.receiver) rest h in
      ap₂ (λ k l. k ++ l) (receiver f.receiver (front K (tokens_if receiver_tokens f.receiver) rest h))
      (ap₂ (λ k l. k ++ l) (parameters f.params (front K params ends behind.1.1))
      (block f.body (back K (result_tokens f.result) (block_tokens f.body) (back K params ends behind.1.1).1))
      ∙ both (parameter_places f.params) (block_places v f.body))
      ∙ both (receiver_places f.receiver) (parameter_places f.params ++ block_places v f.body)
