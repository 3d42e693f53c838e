-- Statements and blocks: a typed one has no fault, and one without a fault is typed or excused.
use Rattle.std.proofs.Common.{ℕ, ◌≡◌, ◌⊎◌, inl, inr, List, [], ◌++◌, map, Option, Some, None, refl, sym, ap, ◌∙◌, subst}
use Rattle.go_ast.specs.Tree.{Item, ExprTree, SimpleTree, InitTree, ForTree, StatementTree, BlockTree, StatementTrees, IfTree, ElseTree}
use Rattle.go_ast.specs.Tree as tree
use Rattle.types_expr.specs.Types.{PlainType, ValueKind}
use Rattle.types_expr.specs.World.{World, Locals}
use Rattle.types_stmt.specs.Checked.{FoundSoFar}
use Rattle.types_stmt.specs.Sides.{Target, rhs, given_enterings, receiving}
use Rattle.types_stmt.specs.Simple.{check_optional_simple, check_condition, check_optional_condition, check_local}
use Rattle.types_stmt.specs.Statements.{returned, check_return, check_init, check_for_header}
use Rattle.types_stmt.specs.Statements.{check_statement, check_block, check_statements, check_if, check_else}
use Rattle.law_typing.specs.BrokenUses.{UsesBroken}
use Rattle.law_typing.proofs.Judgements.{empty_first, empty_second, empty_both}
use Rattle.law_typing.specs.Sequences.{IfPresent, absent, present, ExcusedIfPresent, excused_present}
use Rattle.law_typing.specs.Assignments.{OfType, TakenInTurn, GiveKinds}
use Rattle.law_typing.specs.Simple.{ConditionIsTyped, SimpleIsTyped, LocalIsTyped}
use Rattle.law_typing.specs.Statements.{InitIsTyped, an_init, HeaderIsTyped, endless, a_while, with_clauses, StatementIsTyped, nothing}
use Rattle.law_typing.specs.Statements.{a_declaration, a_simple, an_inner_block, a_choice, a_loop, a_break, a_continue, a_return, BlockIsTyped}
use Rattle.law_typing.specs.Statements.{a_block, StatementsAreTyped, no_more, one_more, IfIsTyped, an_if, ElseIsTyped, without_else, an_else_if}
use Rattle.law_typing.specs.Statements.{an_else}
use Rattle.law_typing.specs.Excused.{SimpleIsExcused, LocalIsExcused, InitIsExcused, in_init, HeaderIsExcused, in_while, in_first, in_test, in_post}
use Rattle.law_typing.specs.Excused.{StatementIsExcused, in_declaration, in_simple, in_inner, in_choice, in_header, in_loop, in_return}
use Rattle.law_typing.specs.Excused.{BlockIsExcused, in_block, StatementsAreExcused, this_statement, later_statement, IfIsExcused, before_condition}
use Rattle.law_typing.specs.Excused.{in_condition, in_then, in_otherwise, ElseIsExcused, in_else_if, in_else}
use Rattle.law_typing.proofs.Values.{rights_given, rights_settled}
use Rattle.law_typing.proofs.Assignments.{aim, return_silent, silent_return, taken_by, taken_as}
use Rattle.law_typing.proofs.PartOutcomes.{IsAt, reached, held, group_true, group_settled}
use Rattle.law_typing.proofs.Simple.{condition_true, condition_settled, simple_true, simple_settled}
use Rattle.law_typing.proofs.Locals.{local_true, local_settled}

-- the targets are those of results of these types
abbrev pub AreTargets : List Target → List PlainType → Type 0
AreTargets targets results = targets ≡ map aim (map OfType results)

-- parts of headers

pub optional_true : (w : World) (s : FoundSoFar) {o : Option SimpleTree} {before after : Locals} → IsAt s before →
    IfPresent SimpleTree (SimpleIsTyped w) before o after → IsAt (check_optional_simple w s o) after
optional_true w s a absent = a
optional_true w s a (present {after = after} {x = x} r) = simple_true w s x after a.faultless (held (SimpleIsTyped w) a r)

pub optional_condition_true : (w : World) (s : FoundSoFar) {o : Option ExprTree} {before after : Locals} → IsAt s before →
    IfPresent ExprTree (ConditionIsTyped w) before o after → IsAt (check_optional_condition w s o) after
optional_condition_true w s a absent = a
optional_condition_true w s a (present {after = after} {x = x} r) = condition_true w s x after a.faultless (held (ConditionIsTyped w) a r)

pub init_true : (w : World) (s : FoundSoFar) {o : Option InitTree} {before after : Locals} → IsAt s before → IfPresent InitTree (InitIsTyped w) before o after →
    IsAt (check_init w s o) after
init_true w s a absent = a
init_true w s a (present (an_init r)) = optional_true w s a r

pub header_true : (w : World) (s : FoundSoFar) {h : ForTree} {before after : Locals} → IsAt s before → HeaderIsTyped w before h after →
    IsAt (check_for_header w s h) after
unfolding check_for_header
header_true w s a endless = a
header_true w s a (a_while {after = after} {e = e} r) = condition_true w s e after a.faultless (held (ConditionIsTyped w) a r)
header_true w s a (with_clauses {init = init} {condition = condition} i c p) =
    optional_true w (check_optional_condition w (check_optional_simple w s init) condition) (optional_condition_true w (check_optional_simple w s init)
    (optional_true w s a i) c) p

optional_settled : (w : World) (s : FoundSoFar) (o : Option SimpleTree) → (check_optional_simple w s o).faults ≡ [] →
    (s.faults ≡ []) × (IfPresent SimpleTree (SimpleIsTyped w) s.locals o (check_optional_simple w s o).locals ⊎ ExcusedIfPresent SimpleTree
    (SimpleIsExcused w) s.locals o)
optional_settled w s None h = (h, inl absent)
optional_settled w s (Some a) h = let q = simple_settled w s a h in (q.0, elim q.1 [ inl r ↦ inl (present r) | inr e ↦ inr (excused_present e) ])

optional_condition_settled : (w : World) (s : FoundSoFar) (o : Option ExprTree) → (check_optional_condition w s o).faults ≡ [] →
    (s.faults ≡ []) × (IfPresent ExprTree (ConditionIsTyped w) s.locals o (check_optional_condition w s o).locals ⊎ ExcusedIfPresent ExprTree
    (UsesBroken w) s.locals o)
optional_condition_settled w s None h = (h, inl absent)
optional_condition_settled w s (Some e) h = let q = condition_settled w s e h in (q.0, elim q.1 [ inl r ↦ inl (present r) | inr u ↦ inr (excused_present u) ])

init_settled : (w : World) (s : FoundSoFar) (o : Option InitTree) → (check_init w s o).faults ≡ [] →
    (s.faults ≡ []) × (IfPresent InitTree (InitIsTyped w) s.locals o (check_init w s o).locals ⊎ ExcusedIfPresent InitTree (InitIsExcused w) s.locals o)
init_settled w s None h = (h, inl absent)
init_settled w s (Some i) h = let q = optional_settled w s i.simple h in (
  q.0,
  elim q.1 [
    | inl r ↦ inl (present (an_init r))
    | inr e ↦ inr (excused_present
        (in_init e))
  ],
)

header_settled : (w : World) (s : FoundSoFar) (h : ForTree) → (check_for_header w s h).faults ≡ [] →
    (s.faults ≡ []) × (HeaderIsTyped w s.locals h (check_for_header w s h).locals ⊎ HeaderIsExcused w s.locals h)
unfolding check_for_header
header_settled w s tree.forever h = (h, inl endless)
header_settled w s (tree.while e) h = let q = condition_settled w s e h in (q.0, elim q.1 [ inl r ↦ inl (a_while r) | inr u ↦ inr (in_while u) ])
header_settled w s (tree.clauses init p condition q post) h = let c = optional_settled w (check_optional_condition w
    (check_optional_simple w s init) condition) post h in
    let b = optional_condition_settled w (check_optional_simple w s init) condition c.0 in
    let a = optional_settled w s init b.0 in (
      a.0,
      elim a.1 [
        | inl x ↦ elim b.1 [ inl y ↦ elim c.1 [ inl z ↦ inl (with_clauses x y z) | inr e ↦ inr (in_post x y e) ] | inr e ↦ inr (in_test x e) ]
        | inr e ↦ inr (in_first e)
      ],
    )

-- returns

return_true : (w : World) (s : FoundSoFar) (p : ℕ) (targets : List Target) (results : List PlainType) (es : List (Item ExprTree)) {ks : List ValueKind} →
    AreTargets targets results → s.faults ≡ [] → GiveKinds w s.locals es ks →
    TakenInTurn (receiving w es ks) ks (map OfType results) → IsAt (check_return w s p targets es) s.locals
unfolding check_return
return_true w s p targets results es e h g t = let r = rights_given w s.locals g in
    let v = receiving w es (rhs w s.locals es).values in
    reached s ((rhs w s.locals es).faults ++ returned v p (rhs w s.locals es).values targets) ((rhs w s.locals es).uses ++
    given_enterings v (rhs w s.locals es).values targets) h
    (empty_both (rhs w s.locals es).faults (returned v p (rhs w s.locals es).values targets) r.faultless
    (ap (λ z. returned v p (rhs w s.locals es).values z) e
    ∙ return_silent v p (rhs w s.locals es).values r.kinds (taken_by w es (rhs w s.locals es).values r.kinds t))) refl

return_settled : (w : World) (s : FoundSoFar) (p : ℕ) (targets : List Target) (results : List PlainType) (es : List (Item ExprTree)) →
    AreTargets targets results → (check_return w s p targets es).faults ≡ [] →
    (s.faults ≡ []) × (StatementIsTyped w results s.locals (tree.Return p es)
    (check_return w s p targets es).locals ⊎ StatementIsExcused w results s.locals (tree.Return p es))
unfolding check_return
return_settled w s p targets results es e h = let r = rhs w s.locals es in
    let v = receiving w es r.values in
    let f = r.faults ++ returned v p r.values targets in
    let q = empty_second s.faults f h in (
      empty_first s.faults f h,
      elim (rights_settled w s.locals es (empty_first r.faults (returned v p r.values targets) q)) [
        | inl g ↦ inl (a_return g.given (taken_as w es r.values g.found (silent_return v p r.values g.kinds (map OfType results) g.found
            (ap (λ z. returned v p r.values z) (sym e) ∙ empty_second r.faults (returned v p r.values targets) q))))
        | inr u ↦ inr (in_return u)
      ],
    )

-- statements

mutual
  unfolding check_statement

  pub statement_true : (w : World) (results : List PlainType) (targets : List Target) → AreTargets targets results →
      {before after : Locals} {x : StatementTree} → StatementIsTyped w results before x after → (s : FoundSoFar) → IsAt s before →
      IsAt (check_statement w targets s x) after
  statement_true w results targets e nothing s a = a
  statement_true w results targets e (a_declaration g) s a = group_true (LocalIsTyped w) (check_local w) (local_true w) g s a
  statement_true w results targets e (a_simple {after = after} {s = x} r) s a = simple_true w s x after a.faultless (held (SimpleIsTyped w) a r)
  statement_true w results targets e (an_inner_block b) s a = block_true w results targets e b s a
  statement_true w results targets e (a_choice i) s a = if_true w results targets e i s a
  statement_true w results targets e (a_loop {h = h} r b) s a = block_true w results targets e b (check_for_header w s h) (header_true w s a r)
  statement_true w results targets e a_break s a = a
  statement_true w results targets e a_continue s a = a
  statement_true w results targets e (a_return {locals} {p} {es} {ks} g t) s a =
      subst (λ z. IsAt (check_return w s p targets es) z) a.locals_are (return_true w s p targets results es e a.faultless (subst (λ z. GiveKinds w z es ks)
      (sym a.locals_are) g) t)

  pub block_true : (w : World) (results : List PlainType) (targets : List Target) → AreTargets targets results → {before after : Locals} {x : BlockTree} →
      BlockIsTyped w results before x after → (s : FoundSoFar) → IsAt s before →
      IsAt (check_block w targets s x) after
  block_true w results targets e (a_block ss) s a = statements_true w results targets e ss s a

  statements_true : (w : World) (results : List PlainType) (targets : List Target) → AreTargets targets results →
      {before after : Locals} {x : StatementTrees} → StatementsAreTyped w results before x after → (s : FoundSoFar) → IsAt s before →
      IsAt (check_statements w targets s x) after
  statements_true w results targets e no_more s a = a
  statements_true w results targets e (one_more {s = x} r more) s a = statements_true w results targets e more (check_statement w targets s x)
      (statement_true w results targets e r s a)

  if_true : (w : World) (results : List PlainType) (targets : List Target) → AreTargets targets results → {before after : Locals} {x : IfTree} →
      IfIsTyped w results before x after → (s : FoundSoFar) → IsAt s before →
      IsAt (check_if w targets s x) after
  if_true w results targets e (an_if {tested = tested} {init = init} {e = c} {b = b} i r t o) s a = let entered = init_true w s a i in
      else_true w results targets e o (check_block w targets (check_condition w (check_init w s init) c) b)
      (block_true w results targets e t (check_condition w (check_init w s init) c) (condition_true w (check_init w s init) c tested entered.faultless
      (held (ConditionIsTyped w) entered r)))

  else_true : (w : World) (results : List PlainType) (targets : List Target) → AreTargets targets results → {before after : Locals} {x : ElseTree} →
      ElseIsTyped w results before x after → (s : FoundSoFar) → IsAt s before →
      IsAt (check_else w targets s x) after
  else_true w results targets e without_else s a = a
  else_true w results targets e (an_else_if i) s a = if_true w results targets e i s a
  else_true w results targets e (an_else b) s a = block_true w results targets e b s a

mutual
  unfolding check_statement

  pub statement_settled : (w : World) (results : List PlainType) (targets : List Target) → AreTargets targets results →
      (x : StatementTree) (s : FoundSoFar) → (check_statement w targets s x).faults ≡ [] →
      (s.faults ≡ []) × (StatementIsTyped w results s.locals x (check_statement w targets s x).locals ⊎ StatementIsExcused w results s.locals x)
  statement_settled w results targets e tree.Empty s h = (h, inl nothing)
  statement_settled w results targets e (tree.Var p g) s h = let q = group_settled (LocalIsTyped w) (LocalIsExcused w) (check_local w)
      (local_settled w) g s h in
      (q.0, elim q.1 [ inl r ↦ inl (a_declaration r) | inr u ↦ inr (in_declaration u) ])
  statement_settled w results targets e (tree.Simple x) s h = let q = simple_settled w s x h in (
    q.0,
    elim q.1 [
      | inl r ↦ inl (a_simple r)
      | inr u ↦ inr
          (in_simple u)
    ],
  )
  statement_settled w results targets e (tree.Inner b) s h = let q = block_settled w results targets e b s h in
      (q.0, elim q.1 [ inl r ↦ inl (an_inner_block r) | inr u ↦ inr (in_inner u) ])
  statement_settled w results targets e (tree.If i) s h = let q = if_settled w results targets e i s h in
      (q.0, elim q.1 [ inl r ↦ inl (a_choice r) | inr u ↦ inr (in_choice u) ])
  statement_settled w results targets e (tree.For p f b) s h = let q = block_settled w results targets e b (check_for_header w s f) h in
      let r = header_settled w s f q.0 in
      (r.0, elim r.1 [ inl x ↦ elim q.1 [ inl y ↦ inl (a_loop x y) | inr u ↦ inr (in_loop x u) ] | inr u ↦ inr (in_header u) ])
  statement_settled w results targets e (tree.Break p) s h = (h, inl a_break)
  statement_settled w results targets e (tree.Continue p) s h = (h, inl a_continue)
  statement_settled w results targets e (tree.Return p es) s h = return_settled w s p targets results es e h

  pub block_settled : (w : World) (results : List PlainType) (targets : List Target) → AreTargets targets results → (x : BlockTree) (s : FoundSoFar) →
      (check_block w targets s x).faults ≡ [] →
      (s.faults ≡ []) × (BlockIsTyped w results s.locals x (check_block w targets s x).locals ⊎ BlockIsExcused w results s.locals x)
  block_settled w results targets e (tree.block o ss c) s h = let q = statements_settled w results targets e ss s h in
      (q.0, elim q.1 [ inl r ↦ inl (a_block r) | inr u ↦ inr (in_block u) ])

  statements_settled : (w : World) (results : List PlainType) (targets : List Target) → AreTargets targets results → (x : StatementTrees) (s : FoundSoFar) →
      (check_statements w targets s x).faults ≡ [] →
      (s.faults ≡ []) × (StatementsAreTyped w results s.locals x (check_statements w targets s x).locals ⊎ StatementsAreExcused w results s.locals x)
  statements_settled w results targets e tree.no_statement s h = (h, inl no_more)
  statements_settled w results targets e (tree.statement x p rest) s h = let q = statements_settled w results targets e rest
      (check_statement w targets s x) h in
      let r = statement_settled w results targets e x s q.0 in
      (r.0, elim r.1 [ inl y ↦ elim q.1 [ inl z ↦ inl (one_more y z) | inr u ↦ inr (later_statement y u) ] | inr u ↦ inr (this_statement u) ])

  if_settled : (w : World) (results : List PlainType) (targets : List Target) → AreTargets targets results → (x : IfTree) (s : FoundSoFar) →
      (check_if w targets s x).faults ≡ [] →
      (s.faults ≡ []) × (IfIsTyped w results s.locals x (check_if w targets s x).locals ⊎ IfIsExcused w results s.locals x)
  if_settled w results targets e (tree.if_tree p init c b otherwise) s h =
      let o = else_settled w results targets e otherwise (check_block w targets (check_condition w (check_init w s init) c) b) h in
      let t = block_settled w results targets e b (check_condition w (check_init w s init) c) o.0 in
      let r = condition_settled w (check_init w s init) c t.0 in
      let i = init_settled w s init r.0 in (
        i.0,
        elim i.1 [
          | inl x ↦ elim r.1 [
            | inl y ↦ elim t.1 [ inl z ↦ elim o.1 [ inl v ↦ inl (an_if x y z v) | inr u ↦ inr (in_otherwise x y z u) ] | inr u ↦ inr (in_then x y u) ]
            | inr u ↦ inr (in_condition x u)
          ]
          | inr u ↦ inr (before_condition u)
        ],
      )

  else_settled : (w : World) (results : List PlainType) (targets : List Target) → AreTargets targets results → (x : ElseTree) (s : FoundSoFar) →
      (check_else w targets s x).faults ≡ [] →
      (s.faults ≡ []) × (ElseIsTyped w results s.locals x (check_else w targets s x).locals ⊎ ElseIsExcused w results s.locals x)
  else_settled w results targets e tree.no_else s h = (h, inl without_else)
  else_settled w results targets e (tree.else_if p i) s h = let q = if_settled w results targets e i s h in
      (q.0, elim q.1 [ inl r ↦ inl (an_else_if r) | inr u ↦ inr (in_else_if u) ])
  else_settled w results targets e (tree.else_block p b) s h = let q = block_settled w results targets e b s h in
      (q.0, elim q.1 [ inl r ↦ inl (an_else r) | inr u ↦ inr (in_else u) ])

-- faults found before a statement stay, whatever the results of the function are

return_first : (w : World) (s : FoundSoFar) (p : ℕ) (targets : List Target) (es : List (Item ExprTree)) → (check_return w s p targets es).faults ≡ [] →
    s.faults ≡ []
unfolding check_return
return_first w s p targets es h =
    empty_first s.faults ((rhs w s.locals es).faults ++ returned (receiving w es (rhs w s.locals es).values) p (rhs w s.locals es).values targets) h

mutual
  unfolding check_statement

  statement_first : (w : World) (targets : List Target) (x : StatementTree) (s : FoundSoFar) → (check_statement w targets s x).faults ≡ [] → s.faults ≡ []
  statement_first w targets tree.Empty s h = h
  statement_first w targets (tree.Var p g) s h = let q = group_settled (LocalIsTyped w) (LocalIsExcused w) (check_local w) (local_settled w) g s h in q.0
  statement_first w targets (tree.Simple x) s h = let q = simple_settled w s x h in q.0
  statement_first w targets (tree.Inner b) s h = block_first w targets b s h
  statement_first w targets (tree.If i) s h = if_first w targets i s h
  statement_first w targets (tree.For p f b) s h = let q = header_settled w s f (block_first w targets b (check_for_header w s f) h) in q.0
  statement_first w targets (tree.Break p) s h = h
  statement_first w targets (tree.Continue p) s h = h
  statement_first w targets (tree.Return p es) s h = return_first w s p targets es h

  pub block_first : (w : World) (targets : List Target) (x : BlockTree) (s : FoundSoFar) → (check_block w targets s x).faults ≡ [] → s.faults ≡ []
  block_first w targets (tree.block o ss c) s h = statements_first w targets ss s h

  statements_first : (w : World) (targets : List Target) (x : StatementTrees) (s : FoundSoFar) → (check_statements w targets s x).faults ≡ [] → s.faults ≡ []
  statements_first w targets tree.no_statement s h = h
  statements_first w targets (tree.statement x p rest) s h = statement_first w targets x s (statements_first w targets rest (check_statement w targets s x) h)

  if_first : (w : World) (targets : List Target) (x : IfTree) (s : FoundSoFar) → (check_if w targets s x).faults ≡ [] → s.faults ≡ []
  if_first w targets (tree.if_tree p init c b otherwise) s h =
      let r = condition_settled w (check_init w s init) c (block_first w targets b (check_condition w (check_init w s init) c)
      (else_first w targets otherwise (check_block w targets (check_condition w (check_init w s init) c) b) h)) in
      let i = init_settled w s init r.0 in
      i.0

  else_first : (w : World) (targets : List Target) (x : ElseTree) (s : FoundSoFar) → (check_else w targets s x).faults ≡ [] → s.faults ≡ []
  else_first w targets tree.no_else s h = h
  else_first w targets (tree.else_if p i) s h = if_first w targets i s h
  else_first w targets (tree.else_block p b) s h = block_first w targets b s h
