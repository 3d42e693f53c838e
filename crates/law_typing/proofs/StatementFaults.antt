-- Statements and blocks: the check finds a fault at exactly the tokens where a rule is broken, and the locals that they declare.
use Rattle.std.proofs.Common.{ℕ, ◌≡◌, ◌⊎◌, inl, inr, List, [], ◌∷◌, ◌++◌, map, Option, Some, None, refl, sym, ap, ◌∙◌, subst}
use Rattle.go_ast.specs.Tree.{Item, ExprTree, SimpleTree, InitTree, ForTree, StatementTree, BlockTree, StatementTrees, IfTree, ElseTree}
use Rattle.go_ast.specs.Tree as tree
use Rattle.types_expr.specs.Types.{PlainType}
use Rattle.types_expr.specs.World.{World, Locals}
use Rattle.types_expr.specs.Judge.{ListValue}
use Rattle.types_stmt.specs.Checked.{FoundSoFar}
use Rattle.types_stmt.specs.Sides.{Target, rhs, receiving}
use Rattle.types_stmt.specs.Simple.{check_simple, check_optional_simple, check_condition, check_optional_condition}
use Rattle.types_stmt.specs.Statements.{returned, check_return, check_init, check_for_header}
use Rattle.types_stmt.specs.Statements.{check_statement, check_block, check_statements, check_if, check_else}
use Rattle.law_typing.specs.Sequences.{PartRule, IfPresent}
use Rattle.law_typing.specs.AssignmentFaults.{SidesGive, taker_of, IsReturnFault, as_targets}
use Rattle.law_typing.specs.DeclaredLocals.{SimpleDeclares, InitDeclares, behind_init, HeaderDeclares}
use Rattle.law_typing.specs.DeclaredLocals.{behind_for, behind_while, behind_clauses, StatementDeclares}
use Rattle.law_typing.specs.DeclaredLocals.{behind_nothing, behind_declaration, behind_simple, behind_inner, behind_choice, behind_loop, behind_break}
use Rattle.law_typing.specs.DeclaredLocals.{behind_continue, behind_return, BlockDeclares, behind_block}
use Rattle.law_typing.specs.DeclaredLocals.{StatementsDeclare, behind_none, behind_one, IfDeclares, behind_if}
use Rattle.law_typing.specs.DeclaredLocals.{ElseDeclares, without_else, behind_else_if, behind_else}
use Rattle.law_typing.specs.SequenceFaults.{FaultRule, BreaksIfPresent}
use Rattle.law_typing.specs.SimpleFaults.{ConditionBreaksAt, SidesBreakAt, SimpleBreaksAt}
use Rattle.law_typing.specs.StatementFaults.{InitBreaksAt, in_init, HeaderBreaksAt, in_while, in_first, in_test, in_post, StatementBreaksAt, in_declaration}
use Rattle.law_typing.specs.StatementFaults.{in_simple, in_inner, in_choice, in_header, in_loop}
use Rattle.law_typing.specs.StatementFaults.{in_return, no_return, BlockBreaksAt, in_block, StatementsBreakAt}
use Rattle.law_typing.specs.StatementFaults.{this_statement, later_statement, IfBreaksAt, before_condition, in_condition, in_then, in_otherwise, ElseBreaksAt}
use Rattle.law_typing.specs.StatementFaults.{in_else_if, in_else}
use Rattle.law_typing.proofs.FaultLists.{HasToken, AreExactly, both_told, holds_left}
use Rattle.law_typing.proofs.AssignmentFaults.{aim_of, sides_found, sides_only, sides_told, misreturned_told}
use Rattle.law_typing.proofs.SequenceFaults.{IsExact, added_found, added_stands, check_present, present_told, group_told}
use Rattle.law_typing.proofs.SimpleFaults.{Keeps, keeps, condition_told, simple_told}
use Rattle.law_typing.proofs.LocalFaults.{aim_of_type, local_told}

-- a check that is equal to another
pub told_by : {X : Type 0} {R : PartRule X} {B : FaultRule X} {d : FoundSoFar → X → FoundSoFar} (c : FoundSoFar → X → FoundSoFar) →
    ((s : FoundSoFar) (x : X) → c s x ≡ d s x) →
    IsExact X R B d →
    IsExact X R B c
told_by {R = R} {B = B} c e t = record {
  leads = λ s x. subst (λ (z : FoundSoFar). R s.locals x z.locals) (sym (e s x)) (t.leads s x);
  only = λ s x after r. ap (λ (z : FoundSoFar). z.locals) (e s x) ∙ t.only s x after r;
  stays = λ s x p h. subst (λ (z : FoundSoFar). HasToken z.faults p) (sym (e s x)) (t.stays s x p h);
  found = λ s x p h. t.found s x p (subst (λ (z : FoundSoFar). HasToken z.faults p) (e s x) h);
  stands = λ s x p b. subst (λ (z : FoundSoFar). HasToken z.faults p) (sym (e s x)) (t.stands s x p b);
}

optional_same : (w : World) (s : FoundSoFar) (o : Option SimpleTree) → check_optional_simple w s o ≡ check_present (check_simple w) s o
optional_same w s None = refl
optional_same w s (Some a) = refl

pub optional_told : (w : World) → IsExact (Option SimpleTree) (IfPresent SimpleTree (SimpleDeclares w)) (BreaksIfPresent SimpleTree (SimpleBreaksAt w))
    (check_optional_simple w)
optional_told w = told_by (check_optional_simple w) (optional_same w) (present_told (simple_told w))

test_same : (w : World) (s : FoundSoFar) (o : Option ExprTree) → check_optional_condition w s o ≡ check_present (check_condition w) s o
test_same w s None = refl
test_same w s (Some e) = refl

test_told : (w : World) → IsExact (Option ExprTree) (IfPresent ExprTree Keeps) (BreaksIfPresent ExprTree (ConditionBreaksAt w)) (check_optional_condition w)
test_told w = told_by (check_optional_condition w) (test_same w) (present_told (condition_told w))

condition_keeps : (w : World) (s : FoundSoFar) (e : ExprTree) → (check_condition w s e).locals ≡ s.locals
condition_keeps w s e = let t = condition_told w in t.only s e s.locals keeps

test_keeps : (w : World) (s : FoundSoFar) (o : Option ExprTree) → (check_optional_condition w s o).locals ≡ s.locals
test_keeps w s None = refl
test_keeps w s (Some e) = condition_keeps w s e

-- the statement before the condition of an `if`

check_one_init : World → FoundSoFar → InitTree → FoundSoFar
check_one_init w s i = check_optional_simple w s i.simple

init_of : {w : World} {before after : Locals} {i : InitTree} → InitDeclares w before i after → IfPresent SimpleTree (SimpleDeclares w) before i.simple after
init_of (behind_init r) = r

init_breaks : {w : World} {before : Locals} {i : InitTree} {p : ℕ} → InitBreaksAt w before i p → BreaksIfPresent SimpleTree (SimpleBreaksAt w) before i.simple p
init_breaks (in_init b) = b

one_init_told : (w : World) → IsExact InitTree (InitDeclares w) (InitBreaksAt w) (check_one_init w)
unfolding check_one_init
one_init_told w = let t = optional_told w in record {
  leads = λ s i. behind_init (t.leads s i.simple);
  only = λ s i after r. t.only s i.simple after (init_of r);
  stays = λ s i p h. t.stays s i.simple p h;
  found = λ s i p h. elim (t.found s i.simple p h) [ inl a ↦ inl a | inr b ↦ inr (in_init b) ];
  stands = λ s i p b. t.stands s i.simple p (init_breaks b);
}

init_same : (w : World) (s : FoundSoFar) (o : Option InitTree) → check_init w s o ≡ check_present (check_one_init w) s o
unfolding check_one_init
init_same w s None = refl
init_same w s (Some i) = refl

init_told : (w : World) → IsExact (Option InitTree) (IfPresent InitTree (InitDeclares w)) (BreaksIfPresent InitTree (InitBreaksAt w)) (check_init w)
init_told w = told_by (check_init w) (init_same w) (present_told (one_init_told w))

-- headers

abbrev clauses_at : World → FoundSoFar → Option SimpleTree → Option ExprTree → FoundSoFar
clauses_at w s init condition = check_optional_condition w (check_optional_simple w s init) condition

header_leads : (w : World) (s : FoundSoFar) (h : ForTree) → HeaderDeclares w s.locals h (check_for_header w s h).locals
unfolding check_for_header
header_leads w s tree.forever = behind_for
header_leads w s (tree.while e) = subst (λ z. HeaderDeclares w s.locals (tree.while e) z) (sym (condition_keeps w s e)) behind_while
header_leads w s (tree.clauses init o condition q post) = let t = optional_told w in
    let C = clauses_at w s init condition in
    behind_clauses (t.leads s init) (subst (λ z. IfPresent SimpleTree (SimpleDeclares w) z post (check_optional_simple w C post).locals)
    (test_keeps w (check_optional_simple w s init) condition) (t.leads C post))

header_only : (w : World) (s : FoundSoFar) (h : ForTree) (after : Locals) → HeaderDeclares w s.locals h after → (check_for_header w s h).locals ≡ after
unfolding check_for_header
header_only w s tree.forever after behind_for = refl
header_only w s (tree.while e) after behind_while = condition_keeps w s e
header_only w s (tree.clauses init o condition q post) after (behind_clauses {entered = inside} i r) = let t = optional_told w in
    t.only (clauses_at w s init condition) post after (subst (λ z. IfPresent SimpleTree (SimpleDeclares w) z post after)
    (sym (test_keeps w (check_optional_simple w s init) condition ∙ t.only s init inside i)) r)

header_stays : (w : World) (s : FoundSoFar) (h : ForTree) (p : ℕ) → HasToken s.faults p → HasToken (check_for_header w s h).faults p
unfolding check_for_header
header_stays w s tree.forever p h = h
header_stays w s (tree.while e) p h = let c = condition_told w in c.stays s e p h
header_stays w s (tree.clauses init o condition q post) p h = let t = optional_told w in
    let c = test_told w in
    t.stays (clauses_at w s init condition) post p (c.stays (check_optional_simple w s init) condition p (t.stays s init p h))

header_found : (w : World) (s : FoundSoFar) (h : ForTree) (p : ℕ) → HasToken (check_for_header w s h).faults p →
    HasToken s.faults p ⊎ HeaderBreaksAt w s.locals h p
unfolding check_for_header
header_found w s tree.forever p h = inl h
header_found w s (tree.while e) p h = let c = condition_told w in elim (c.found s e p h) [ inl a ↦ inl a | inr b ↦ inr (in_while b) ]
header_found w s (tree.clauses init o condition q post) p h = let t = optional_told w in
    let c = test_told w in
    let A = check_optional_simple w s init in
    elim (t.found (clauses_at w s init condition) post p h) [
      | inl x ↦ elim (c.found A condition p x) [
        | inl y ↦ elim (t.found s init p y) [ inl a ↦ inl a | inr b ↦ inr (in_first b) ]
        | inr b ↦ inr (in_test (t.leads s init) b)
      ]
      | inr b ↦ inr (in_post (t.leads s init) (subst (λ z. BreaksIfPresent SimpleTree (SimpleBreaksAt w) z post p) (test_keeps w A condition) b))
    ]

header_stands : (w : World) (s : FoundSoFar) (h : ForTree) (p : ℕ) → HeaderBreaksAt w s.locals h p → HasToken (check_for_header w s h).faults p
unfolding check_for_header
header_stands w s tree.forever p b = elim b [ ]
header_stands w s (tree.while e) p (in_while b) = let c = condition_told w in c.stands s e p b
header_stands w s (tree.clauses init o condition q post) p (in_first b) = let t = optional_told w in
    let c = test_told w in
    t.stays (clauses_at w s init condition) post p (c.stays (check_optional_simple w s init) condition p (t.stands s init p b))
header_stands w s (tree.clauses init o condition q post) p (in_test {entered = inside} i b) = let t = optional_told w in
    let c = test_told w in
    t.stays (clauses_at w s init condition) post p (c.stands (check_optional_simple w s init) condition p (subst
    (λ z. BreaksIfPresent ExprTree (ConditionBreaksAt w) z condition p) (sym (t.only s init inside i)) b))
header_stands w s (tree.clauses init o condition q post) p (in_post {entered = inside} i b) = let t = optional_told w in
    t.stands (clauses_at w s init condition) post p (subst (λ z. BreaksIfPresent SimpleTree (SimpleBreaksAt w) z post p)
    (sym (test_keeps w (check_optional_simple w s init) condition ∙ t.only s init inside i)) b)

-- `return`

wants_are : (results : List (Option PlainType)) → as_targets results ≡ map aim_of (map taker_of results)
wants_are [] = refl
wants_are (t ∷ ts) = ap (λ z. z ∷ as_targets ts) (sym (aim_of_type t)) ∙ ap (λ z. aim_of (taker_of t) ∷ z) (wants_are ts)

record IsMisreturnedBy (w : World) (locals : Locals) (results : List (Option PlainType)) (q : ℕ) (es : List (Item ExprTree)) (p : ℕ) : Type 0 where
  values : List ListValue
  give : SidesGive w locals es values
  misreturned : IsReturnFault (receiving w es values) q values (map taker_of results) p

return_part : (w : World) (locals : Locals) (results : List (Option PlainType)) (q : ℕ) (es : List (Item ExprTree)) →
    AreExactly (returned (receiving w es (rhs w locals es).values) q (rhs w locals es).values (as_targets results)) (IsMisreturnedBy w locals results q es)
return_part w locals results q es = let V = (rhs w locals es).values in
    let e = wants_are results in record {
      found = λ p h. let m = misreturned_told (receiving w es V) q V (map taker_of results) in record {
        values = V;
        give = sides_found w locals es;
        misreturned = m.found p (subst (λ z. HasToken (returned (receiving w es V) q V z) p) e h);
      };
      stands = λ p b. let m = misreturned_told (receiving w es b.values) q b.values (map taker_of results) in
          subst (λ z. HasToken (returned (receiving w es z) q z (as_targets results)) p)
          (sym (sides_only w locals b.give)) (subst (λ z. HasToken (returned (receiving w es b.values) q b.values z) p) (sym e) (m.stands p b.misreturned));
    }

return_cases : {w : World} {results : List (Option PlainType)} {locals : Locals} {q p : ℕ} {es : List (Item ExprTree)} →
    StatementBreaksAt w results locals (tree.Return q es) p → SidesBreakAt w locals es p ⊎ IsMisreturnedBy w locals results q es p
return_cases (in_return b) = inl b
return_cases (no_return {vs = vs} g m) = inr (record { values = vs; give = g; misreturned = m })

return_places : (w : World) (results : List (Option PlainType)) (locals : Locals) (q : ℕ) (es : List (Item ExprTree)) →
    AreExactly ((rhs w locals es).faults ++ returned (receiving w es (rhs w locals es).values) q (rhs w locals es).values (as_targets results))
    (StatementBreaksAt w results locals (tree.Return q es))
return_places w results locals q es = both_told (rhs w locals es).faults (returned (receiving w es (rhs w locals es).values) q (rhs w locals es).values
    (as_targets results)) (sides_told w locals es)
    (return_part w locals results q es) (λ p b. in_return b) (λ p b. no_return b.give b.misreturned) (λ p b. return_cases b)

-- statements: the locals after them

mutual
  unfolding check_statement check_return

  pub statement_leads : (w : World) (targets : List Target) (s : FoundSoFar) (x : StatementTree) →
      StatementDeclares w s.locals x (check_statement w targets s x).locals
  statement_leads w targets s tree.Empty = behind_nothing
  statement_leads w targets s (tree.Var p g) = let t = group_told (local_told w) in behind_declaration (t.leads s g)
  statement_leads w targets s (tree.Simple a) = let t = simple_told w in behind_simple (t.leads s a)
  statement_leads w targets s (tree.Inner b) = behind_inner (block_leads w targets s b)
  statement_leads w targets s (tree.If i) = behind_choice (if_leads w targets s i)
  statement_leads w targets s (tree.For p h b) = behind_loop (header_leads w s h) (block_leads w targets (check_for_header w s h) b)
  statement_leads w targets s (tree.Break p) = behind_break
  statement_leads w targets s (tree.Continue p) = behind_continue
  statement_leads w targets s (tree.Return p es) = behind_return

  pub block_leads : (w : World) (targets : List Target) (s : FoundSoFar) (x : BlockTree) → BlockDeclares w s.locals x (check_block w targets s x).locals
  block_leads w targets s (tree.block o ss c) = behind_block (statements_lead w targets s ss)

  statements_lead : (w : World) (targets : List Target) (s : FoundSoFar) (x : StatementTrees) → StatementsDeclare w s.locals x (check_statements w targets s
      x).locals
  statements_lead w targets s tree.no_statement = behind_none
  statements_lead w targets s (tree.statement x p rest) = behind_one (statement_leads w targets s x) (statements_lead w targets
      (check_statement w targets s x) rest)

  if_leads : (w : World) (targets : List Target) (s : FoundSoFar) (x : IfTree) → IfDeclares w s.locals x (check_if w targets s x).locals
  if_leads w targets s (tree.if_tree p init e b otherwise) = let t = init_told w in
      let A = check_init w s init in
      let C = check_condition w A e in
      behind_if (t.leads s init) (subst (λ z. BlockDeclares w z b (check_block w targets C b).locals) (condition_keeps w A e) (block_leads w targets C b))
      (else_leads w targets (check_block w targets C b) otherwise)

  else_leads : (w : World) (targets : List Target) (s : FoundSoFar) (x : ElseTree) → ElseDeclares w s.locals x (check_else w targets s x).locals
  else_leads w targets s tree.no_else = without_else
  else_leads w targets s (tree.else_if p i) = behind_else_if (if_leads w targets s i)
  else_leads w targets s (tree.else_block p b) = behind_else (block_leads w targets s b)

mutual
  unfolding check_statement check_return

  pub statement_only : (w : World) (targets : List Target) (s : FoundSoFar) (x : StatementTree) (after : Locals) → StatementDeclares w s.locals x after →
      (check_statement w targets s x).locals ≡ after
  statement_only w targets s tree.Empty after behind_nothing = refl
  statement_only w targets s (tree.Var p g) after (behind_declaration r) = let t = group_told (local_told w) in t.only s g after r
  statement_only w targets s (tree.Simple a) after (behind_simple r) = let t = simple_told w in t.only s a after r
  statement_only w targets s (tree.Inner b) after (behind_inner r) = block_only w targets s b after r
  statement_only w targets s (tree.If i) after (behind_choice r) = if_only w targets s i after r
  statement_only w targets s (tree.For p h b) after (behind_loop {entered = inside} i r) = block_only w targets (check_for_header w s h) b after (subst
      (λ z. BlockDeclares w z b after) (sym (header_only w s h inside i)) r)
  statement_only w targets s (tree.Break p) after behind_break = refl
  statement_only w targets s (tree.Continue p) after behind_continue = refl
  statement_only w targets s (tree.Return p es) after behind_return = refl

  pub block_only : (w : World) (targets : List Target) (s : FoundSoFar) (x : BlockTree) (after : Locals) → BlockDeclares w s.locals x after →
      (check_block w targets s x).locals ≡ after
  block_only w targets s (tree.block o ss c) after (behind_block r) = statements_only w targets s ss after r

  statements_only : (w : World) (targets : List Target) (s : FoundSoFar) (x : StatementTrees) (after : Locals) → StatementsDeclare w s.locals x after →
      (check_statements w targets s x).locals ≡ after
  statements_only w targets s tree.no_statement after behind_none = refl
  statements_only w targets s (tree.statement x p rest) after (behind_one {inside = inside} r more) = statements_only w targets
      (check_statement w targets s x) rest after
      (subst (λ z. StatementsDeclare w z rest after) (sym (statement_only w targets s x inside r)) more)

  if_only : (w : World) (targets : List Target) (s : FoundSoFar) (x : IfTree) (after : Locals) → IfDeclares w s.locals x after →
      (check_if w targets s x).locals ≡ after
  if_only w targets s (tree.if_tree p init e b otherwise) after (behind_if {entered = entered} {inside = inside} i r more) = let t = init_told w in
      let A = check_init w s init in
      let C = check_condition w A e in
      else_only w targets (check_block w targets C b) otherwise after (subst (λ z. ElseDeclares w z otherwise after) (sym (block_only w targets C b inside
      (subst
      (λ z. BlockDeclares w z b inside) (sym (condition_keeps w A e ∙ t.only s init entered i)) r))) more)

  else_only : (w : World) (targets : List Target) (s : FoundSoFar) (x : ElseTree) (after : Locals) → ElseDeclares w s.locals x after →
      (check_else w targets s x).locals ≡ after
  else_only w targets s tree.no_else after without_else = refl
  else_only w targets s (tree.else_if p i) after (behind_else_if r) = if_only w targets s i after r
  else_only w targets s (tree.else_block p b) after (behind_else r) = block_only w targets s b after r

-- the faults before a statement stay

mutual
  unfolding check_statement check_return

  pub statement_stays : (w : World) (targets : List Target) (s : FoundSoFar) (x : StatementTree) (p : ℕ) → HasToken s.faults p →
      HasToken (check_statement w targets s x).faults p
  statement_stays w targets s tree.Empty p h = h
  statement_stays w targets s (tree.Var q g) p h = let t = group_told (local_told w) in t.stays s g p h
  statement_stays w targets s (tree.Simple a) p h = let t = simple_told w in t.stays s a p h
  statement_stays w targets s (tree.Inner b) p h = block_stays w targets s b p h
  statement_stays w targets s (tree.If i) p h = if_stays w targets s i p h
  statement_stays w targets s (tree.For q i b) p h = block_stays w targets (check_for_header w s i) b p (header_stays w s i p h)
  statement_stays w targets s (tree.Break q) p h = h
  statement_stays w targets s (tree.Continue q) p h = h
  statement_stays w targets s (tree.Return q es) p h = holds_left s.faults ((rhs w s.locals es).faults ++ returned (receiving w es (rhs w s.locals es).values) q
      (rhs w s.locals es).values targets) p h

  pub block_stays : (w : World) (targets : List Target) (s : FoundSoFar) (x : BlockTree) (p : ℕ) → HasToken s.faults p →
      HasToken (check_block w targets s x).faults p
  block_stays w targets s (tree.block o ss c) p h = statements_stay w targets s ss p h

  statements_stay : (w : World) (targets : List Target) (s : FoundSoFar) (x : StatementTrees) (p : ℕ) → HasToken s.faults p →
      HasToken (check_statements w targets s x).faults p
  statements_stay w targets s tree.no_statement p h = h
  statements_stay w targets s (tree.statement x q rest) p h = statements_stay w targets (check_statement w targets s x) rest p
      (statement_stays w targets s x p h)

  if_stays : (w : World) (targets : List Target) (s : FoundSoFar) (x : IfTree) (p : ℕ) → HasToken s.faults p → HasToken (check_if w targets s x).faults p
  if_stays w targets s (tree.if_tree q init e b otherwise) p h = let t = init_told w in
      let c = condition_told w in
      let A = check_init w s init in
      let C = check_condition w A e in
      else_stays w targets (check_block w targets C b) otherwise p (block_stays w targets C b p (c.stays A e p (t.stays s init p h)))

  else_stays : (w : World) (targets : List Target) (s : FoundSoFar) (x : ElseTree) (p : ℕ) → HasToken s.faults p → HasToken (check_else w targets s x).faults p
  else_stays w targets s tree.no_else p h = h
  else_stays w targets s (tree.else_if q i) p h = if_stays w targets s i p h
  else_stays w targets s (tree.else_block q b) p h = block_stays w targets s b p h

-- each fault is at a token where a rule is broken

mutual
  unfolding check_statement check_return

  pub statement_found : (w : World) (results : List (Option PlainType)) (s : FoundSoFar) (x : StatementTree) (p : ℕ) →
      HasToken (check_statement w (as_targets results) s x).faults p → HasToken s.faults p ⊎ StatementBreaksAt w results s.locals x p
  statement_found w results s tree.Empty p h = inl h
  statement_found w results s (tree.Var q g) p h = let t = group_told (local_told w) in elim (t.found s g p h) [
    | inl a ↦ inl a
    | inr b ↦ inr
        (in_declaration b)
  ]
  statement_found w results s (tree.Simple x) p h = let t = simple_told w in elim (t.found s x p h) [ inl a ↦ inl a | inr b ↦ inr (in_simple b) ]
  statement_found w results s (tree.Inner x) p h = elim (block_found w results s x p h) [ inl a ↦ inl a | inr b ↦ inr (in_inner b) ]
  statement_found w results s (tree.If i) p h = elim (if_found w results s i p h) [ inl a ↦ inl a | inr b ↦ inr (in_choice b) ]
  statement_found w results s (tree.For q i x) p h = elim (block_found w results (check_for_header w s i) x p h) [
    | inl a ↦ elim (header_found w s i p a) [ inl c ↦ inl c | inr b ↦ inr (in_header b) ]
    | inr b ↦ inr (in_loop (header_leads w s i) b)
  ]
  statement_found w results s (tree.Break q) p h = inl h
  statement_found w results s (tree.Continue q) p h = inl h
  statement_found w results s (tree.Return q es) p h = added_found s.faults (return_places w results s.locals q es) p h

  pub block_found : (w : World) (results : List (Option PlainType)) (s : FoundSoFar) (x : BlockTree) (p : ℕ) →
      HasToken (check_block w (as_targets results) s x).faults p →
      HasToken s.faults p ⊎ BlockBreaksAt w results s.locals x p
  block_found w results s (tree.block o ss c) p h = elim (statements_found w results s ss p h) [ inl a ↦ inl a | inr b ↦ inr (in_block b) ]

  statements_found : (w : World) (results : List (Option PlainType)) (s : FoundSoFar) (x : StatementTrees) (p : ℕ) →
      HasToken (check_statements w (as_targets results) s x).faults p → HasToken s.faults p ⊎ StatementsBreakAt w results s.locals x p
  statements_found w results s tree.no_statement p h = inl h
  statements_found w results s (tree.statement x q rest) p h = elim (statements_found w results (check_statement w (as_targets results) s x) rest p h) [
    | inl a ↦ elim (statement_found w results s x p a) [ inl c ↦ inl c | inr b ↦ inr (this_statement b) ]
    | inr b ↦ inr (later_statement (statement_leads w (as_targets results) s x) b)
  ]

  if_found : (w : World) (results : List (Option PlainType)) (s : FoundSoFar) (x : IfTree) (p : ℕ) → HasToken (check_if w (as_targets results) s x).faults p →
      HasToken s.faults p ⊎ IfBreaksAt w results s.locals x p
  if_found w results s (tree.if_tree q init e x otherwise) p h = let t = init_told w in
      let c = condition_told w in
      let A = check_init w s init in
      let C = check_condition w A e in
      let k = condition_keeps w A e in
      let D = check_block w (as_targets results) C x in
      elim (else_found w results D otherwise p h) [
        | inl y ↦ elim (block_found w results C x p y) [
          | inl z ↦ elim (c.found A e p z) [
            | inl v ↦ elim (t.found s init p v) [ inl a ↦ inl a | inr b ↦ inr (before_condition b) ]
            | inr b ↦ inr (in_condition (t.leads s init) b)
          ]
          | inr b ↦ inr (in_then (t.leads s init) (subst (λ z. BlockBreaksAt w results z x p) k b))
        ]
        | inr b ↦ inr (in_otherwise (t.leads s init) (subst (λ z. BlockDeclares w z x D.locals) k (block_leads w (as_targets results) C x)) b)
      ]

  else_found : (w : World) (results : List (Option PlainType)) (s : FoundSoFar) (x : ElseTree) (p : ℕ) →
      HasToken (check_else w (as_targets results) s x).faults p →
      HasToken s.faults p ⊎ ElseBreaksAt w results s.locals x p
  else_found w results s tree.no_else p h = inl h
  else_found w results s (tree.else_if q i) p h = elim (if_found w results s i p h) [ inl a ↦ inl a | inr b ↦ inr (in_else_if b) ]
  else_found w results s (tree.else_block q x) p h = elim (block_found w results s x p h) [ inl a ↦ inl a | inr b ↦ inr (in_else b) ]

-- each token where a rule is broken has its fault

mutual
  unfolding check_statement check_return

  pub statement_stands : (w : World) (results : List (Option PlainType)) (s : FoundSoFar) (x : StatementTree) (p : ℕ) →
      StatementBreaksAt w results s.locals x p →
      HasToken (check_statement w (as_targets results) s x).faults p
  statement_stands w results s tree.Empty p b = elim b [ ]
  statement_stands w results s (tree.Var q g) p (in_declaration b) = let t = group_told (local_told w) in t.stands s g p b
  statement_stands w results s (tree.Simple x) p (in_simple b) = let t = simple_told w in t.stands s x p b
  statement_stands w results s (tree.Inner x) p (in_inner b) = block_stands w results s x p b
  statement_stands w results s (tree.If i) p (in_choice b) = if_stands w results s i p b
  statement_stands w results s (tree.For q i x) p (in_header b) = block_stays w (as_targets results) (check_for_header w s i) x p (header_stands w s i p b)
  statement_stands w results s (tree.For q i x) p (in_loop {entered = inside} r b) = block_stands w results (check_for_header w s i) x p (subst
      (λ z. BlockBreaksAt w results z x p) (sym (header_only w s i inside r)) b)
  statement_stands w results s (tree.Break q) p b = elim b [ ]
  statement_stands w results s (tree.Continue q) p b = elim b [ ]
  statement_stands w results s (tree.Return q es) p b = added_stands s.faults (return_places w results s.locals q es) p b

  pub block_stands : (w : World) (results : List (Option PlainType)) (s : FoundSoFar) (x : BlockTree) (p : ℕ) → BlockBreaksAt w results s.locals x p →
      HasToken (check_block w (as_targets results) s x).faults p
  block_stands w results s (tree.block o ss c) p (in_block b) = statements_stand w results s ss p b

  statements_stand : (w : World) (results : List (Option PlainType)) (s : FoundSoFar) (x : StatementTrees) (p : ℕ) → StatementsBreakAt w results s.locals x p →
      HasToken (check_statements w (as_targets results) s x).faults p
  statements_stand w results s tree.no_statement p b = elim b [ ]
  statements_stand w results s (tree.statement x q rest) p (this_statement b) = statements_stay w (as_targets results) (check_statement w (as_targets
      results) s x) rest p
      (statement_stands w results s x p b)
  statements_stand w results s (tree.statement x q rest) p (later_statement {inside = inside} r b) = statements_stand w results (check_statement w
      (as_targets results) s x) rest p
      (subst (λ z. StatementsBreakAt w results z rest p) (sym (statement_only w (as_targets results) s x inside r)) b)

  if_stands : (w : World) (results : List (Option PlainType)) (s : FoundSoFar) (x : IfTree) (p : ℕ) → IfBreaksAt w results s.locals x p →
      HasToken (check_if w (as_targets results) s x).faults p
  if_stands w results s (tree.if_tree q init e x otherwise) p (before_condition b) = let t = init_told w in
      let c = condition_told w in
      let A = check_init w s init in
      let C = check_condition w A e in
      else_stays w (as_targets results) (check_block w (as_targets results) C x) otherwise p (block_stays w (as_targets results) C x p (c.stays A e p
      (t.stands s init p b)))
  if_stands w results s (tree.if_tree q init e x otherwise) p (in_condition {entered = entered} i b) = let t = init_told w in
      let c = condition_told w in
      let A = check_init w s init in
      let C = check_condition w A e in
      else_stays w (as_targets results) (check_block w (as_targets results) C x) otherwise p (block_stays w (as_targets results) C x p (c.stands A e p (subst
      (λ z. ConditionBreaksAt w z e p) (sym (t.only s init entered i)) b)))
  if_stands w results s (tree.if_tree q init e x otherwise) p (in_then {entered = entered} i b) = let t = init_told w in
      let A = check_init w s init in
      let C = check_condition w A e in
      else_stays w (as_targets results) (check_block w (as_targets results) C x) otherwise p (block_stands w results C x p (subst (λ z. BlockBreaksAt w
      results z x p)
      (sym (condition_keeps w A e ∙ t.only s init entered i)) b))
  if_stands w results s (tree.if_tree q init e x otherwise) p (in_otherwise {entered = entered} {inside = inside} i r b) = let t = init_told w in
      let A = check_init w s init in
      let C = check_condition w A e in
      else_stands w results (check_block w (as_targets results) C x) otherwise p (subst (λ z. ElseBreaksAt w results z otherwise p) (sym (block_only w
      (as_targets results) C x inside
      (subst (λ z. BlockDeclares w z x inside) (sym (condition_keeps w A e ∙ t.only s init entered i)) r))) b)

  else_stands : (w : World) (results : List (Option PlainType)) (s : FoundSoFar) (x : ElseTree) (p : ℕ) → ElseBreaksAt w results s.locals x p →
      HasToken (check_else w (as_targets results) s x).faults p
  else_stands w results s tree.no_else p b = elim b [ ]
  else_stands w results s (tree.else_if q i) p (in_else_if b) = if_stands w results s i p b
  else_stands w results s (tree.else_block q x) p (in_else b) = block_stands w results s x p b

pub statement_told : (w : World) (results : List (Option PlainType)) → IsExact StatementTree (StatementDeclares w) (StatementBreaksAt w results)
    (check_statement w (as_targets results))
statement_told w results = record {
  leads = statement_leads w (as_targets results);
  only = statement_only w (as_targets results);
  stays = statement_stays w (as_targets results);
  found = statement_found w results;
  stands = statement_stands w results;
}

pub block_told : (w : World) (results : List (Option PlainType)) → IsExact BlockTree (BlockDeclares w) (BlockBreaksAt w results) (check_block w (as_targets
    results))
block_told w results = record {
  leads = block_leads w (as_targets results);
  only = block_only w (as_targets results);
  stays = block_stays w (as_targets results);
  found = block_found w results;
  stands = block_stands w results;
}
