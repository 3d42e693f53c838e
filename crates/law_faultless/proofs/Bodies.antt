-- Statements in which no fault is found are typed where all names are known.
use Rattle.std.proofs.Common.{ℕ, suc, ◌≡◌, ◌≤◌, inl, inr, List, [], ◌∷◌, ◌++◌, Option, Some, None, sym, subst, arith}
use Rattle.std.specs.List.{All}
use Rattle.std.specs.Option.{unwrap_or}
use Rattle.std.proofs.lemmas.List.Elements.{All-head, All-tail}
use Rattle.go_ast.specs.declared.syntax.Kind.TheVariants as kind
use Rattle.go_ast.specs.Flatten.{sign, sign_if, tokens_if, all_tokens, item_tokens, list_tokens, group_tokens, expr_tokens, exprs_tokens, simple_tokens}
use Rattle.go_ast.specs.Flatten.{local_tokens, init_tokens, for_tokens, statement_tokens, block_tokens, statements_tokens, if_tokens, else_tokens}
use Rattle.go_ast.specs.Tree.{Item, Group, single, several, ExprTree, SimpleTree, LocalTree, InitTree, ForTree, StatementTree, BlockTree, StatementTrees}
use Rattle.go_ast.specs.Tree.{IfTree, ElseTree}
use Rattle.go_ast.specs.Tree as tree
use Rattle.go_ast.specs.WellFormed.{IsGroup, IsLocal, IsStatement, IsBlock, AreStatements, IsIf, IsElse}
use Rattle.go_scope.specs.declared.model.Block.{Block}
use Rattle.go_scope.specs.declared.model.Block.TheVariants as blocks
use Rattle.go_scope.specs.Site.{Site, TokenSpellings}
use Rattle.go_scope.specs.ExpressionSites.{sites_if, expr_sites, exprs_sites}
use Rattle.go_scope.specs.StatementSites.{simple_sites, local_sites, separated_sites, group_sites, init_sites, for_sites, open_of, statement_sites}
use Rattle.go_scope.specs.StatementSites.{block_sites, statements_sites, if_sites, else_sites}
use Rattle.go_scope.proofs.PlainSites.{plain_expr, plain_exprs}
use Rattle.types_expr.specs.Types.{PlainType}
use Rattle.types_expr.specs.World.{World, Locals}
use Rattle.types_stmt.specs.Checked.{FoundSoFar, check_items, check_group}
use Rattle.types_stmt.specs.Sides.{Target}
use Rattle.types_stmt.specs.Simple.{check_optional_simple, check_condition, check_optional_condition, check_local}
use Rattle.types_stmt.specs.Statements.{check_return, check_init, check_for_header, check_statement, check_block, check_statements, check_if, check_else}
use Rattle.law_typing.specs.Sequences.{InTurn, no_item, then_item, InGroup, alone, together, IfPresent, absent, present}
use Rattle.law_typing.specs.Simple.{ConditionIsTyped, SimpleIsTyped, LocalIsTyped}
use Rattle.law_typing.specs.Statements.{InitIsTyped, an_init, HeaderIsTyped, endless, a_while, with_clauses, StatementIsTyped, nothing}
use Rattle.law_typing.specs.Statements.{a_declaration, a_simple, an_inner_block, a_choice, a_loop, a_break, a_continue, BlockIsTyped, a_block}
use Rattle.law_typing.specs.Statements.{StatementsAreTyped, no_more, one_more, IfIsTyped, an_if, ElseIsTyped, without_else, an_else_if, an_else}
use Rattle.law_typing.specs.Excused.{StatementIsExcused, in_return}
use Rattle.law_typing.proofs.Simple.{condition_settled, simple_settled}
use Rattle.law_typing.proofs.Locals.{local_settled}
use Rattle.law_typing.proofs.Statements.{AreTargets, statement_settled, block_first}
use Rattle.law_faultless.proofs.NumberedTokens.{Strung, strung_split, strung_le}
use Rattle.law_faultless.specs.Unbroken.{IsUnbroken}
use Rattle.law_faultless.proofs.Named.{AreNamed, no_use}
use Rattle.law_faultless.specs.ResolvedNames.{AreResolved}
use Rattle.law_faultless.proofs.KnownLocals.{past, past_append, resolved_left, resolved_right, AllKnown, plain_past}
use Rattle.law_faultless.proofs.Leaves.{each_fine}
use Rattle.law_faultless.proofs.Simples.{expr_known, exprs_known, simple_typed, local_typed}

-- what is found before a statement has no fault
module _ (w : World) (targets : List Target) where
  before_statements : (x : StatementTrees) (st : FoundSoFar) → (check_statements w targets st x).faults ≡ [] → st.faults ≡ []
  unfolding check_statement
  before_statements x st h = block_first w targets (tree.block 0 x 0) st h

  before_if : (x : IfTree) (st : FoundSoFar) → (check_if w targets st x).faults ≡ [] → st.faults ≡ []
  unfolding check_statement
  before_if x st h = block_first w targets (tree.block 0 (tree.statement (tree.If x) None tree.no_statement) 0) st h

  before_else : (x : ElseTree) (st : FoundSoFar) → (check_else w targets st x).faults ≡ [] → st.faults ≡ []
  unfolding check_statement
  before_else tree.no_else st h = h
  before_else (tree.else_if p i) st h = before_if i st h
  before_else (tree.else_block p b) st h = block_first w targets b st h

-- a typed part, and what is known behind it
abbrev pub Outcome : World → (A xs : List Site) → (Locals → Type 0) → Locals → Type 0
Outcome w A xs R after = R after × AllKnown w after (past A xs)

pub known_join : (w : World) (ls : Locals) (A xs ys : List Site) → AllKnown w ls (past (past A xs) ys) → AllKnown w ls (past A (xs ++ ys))
known_join w ls A xs ys h = subst (AllKnown w ls) (sym (past_append A xs ys)) h

module _ (w : World) (B : ℕ → Type 0) (s : TokenSpellings) (u : IsUnbroken w) where
  -- headers

  condition_typed : (A : List Site) (n m : ℕ) (st : FoundSoFar) (e : ExprTree) → (check_condition w st e).faults ≡ [] → AllKnown w st.locals A →
      AreResolved w B A (expr_sites s e) → Strung B n (expr_tokens e) m →
      Outcome w A (expr_sites s e) (ConditionIsTyped w st.locals e) (check_condition w st e).locals
  unfolding check_condition
  condition_typed A n m st e f known r t =
      let all = expr_known w B st.locals s A n m e known r t in (
        elim (condition_settled w st e f).1 [ inl h ↦ h | inr b ↦ absurd (no_use w B st.locals s u n m b all t) ],
        plain_past w st.locals A (expr_sites s e) known (plain_expr s e),
      )

  optional_typed : (A : List Site) (b : Block) (q n m : ℕ) (st : FoundSoFar) (x : Option SimpleTree) → (check_optional_simple w st x).faults ≡ [] →
      AllKnown w st.locals A → AreResolved w B A (sites_if (simple_sites s b q) x) → Strung B n (tokens_if simple_tokens x) m → m ≤ q →
      Outcome w A (sites_if (simple_sites s b q) x) (IfPresent SimpleTree (SimpleIsTyped w) st.locals x) (check_optional_simple w st x).locals
  optional_typed A b q n m st None f known r t le = (absent, known)
  optional_typed A b q n m st (Some x) f known r t le = let h = simple_typed w B s u A b q n m st x f known r t le in (present h.0, h.1)

  test_typed : (A : List Site) (n m : ℕ) (st : FoundSoFar) (e : Option ExprTree) → (check_optional_condition w st e).faults ≡ [] → AllKnown w st.locals A →
      AreResolved w B A (sites_if (expr_sites s) e) → Strung B n (tokens_if expr_tokens e) m →
      Outcome w A (sites_if (expr_sites s) e) (IfPresent ExprTree (ConditionIsTyped w) st.locals e) (check_optional_condition w st e).locals
  test_typed A n m st None f known r t = (absent, known)
  test_typed A n m st (Some e) f known r t = let h = condition_typed A n m st e f known r t in (present h.0, h.1)

  init_typed : (A : List Site) (b : Block) (n m : ℕ) (st : FoundSoFar) (x : Option InitTree) → (check_init w st x).faults ≡ [] → AllKnown w st.locals A →
      AreResolved w B A (sites_if (init_sites s b) x) → Strung B n (tokens_if init_tokens x) m →
      Outcome w A (sites_if (init_sites s b) x) (IfPresent InitTree (InitIsTyped w) st.locals x) (check_init w st x).locals
  unfolding init_sites init_tokens
  init_typed A b n m st None f known r t = (absent, known)
  init_typed A b n m st (Some i) f known r t =
      let x = strung_split B n (tokens_if simple_tokens i.simple) (sign kind.Semicolon i.semicolon ∷ []) m t in
      let at : i.semicolon ≡ x.0 = x.1.1.0 in
      let h = optional_typed A b i.semicolon n x.0 st i.simple f known r x.1.0 (omega arith) in (present (an_init h.0), h.1)

  before_optional : (st : FoundSoFar) (x : Option SimpleTree) → (check_optional_simple w st x).faults ≡ [] → st.faults ≡ []
  before_optional st None h = h
  before_optional st (Some x) h = (simple_settled w st x h).0

  before_test : (st : FoundSoFar) (e : Option ExprTree) → (check_optional_condition w st e).faults ≡ [] → st.faults ≡ []
  before_test st None h = h
  before_test st (Some e) h = (condition_settled w st e h).0

  header_typed : (A : List Site) (b : Block) (o n m : ℕ) (st : FoundSoFar) (x : ForTree) → (check_for_header w st x).faults ≡ [] → AllKnown w st.locals A →
      AreResolved w B A (for_sites s b o x) → Strung B n (for_tokens x) m → m ≤ o →
      Outcome w A (for_sites s b o x) (HeaderIsTyped w st.locals x) (check_for_header w st x).locals
  unfolding check_for_header for_sites for_tokens
  header_typed A b o n m st tree.forever f known r t le = (endless, known)
  header_typed A b o n m st (tree.while e) f known r t le = let h = condition_typed A n m st e f known r t in (a_while h.0, h.1)
  header_typed A b o n m st (tree.clauses init p condition q post) f known r t le =
      let first = sites_if (simple_sites s b p) init in
      let second = sites_if (expr_sites s) condition in
      let third = sites_if (simple_sites s b o) post in
      let post_tokens = tokens_if simple_tokens post in
      let test_tokens = tokens_if expr_tokens condition in
      let a = check_optional_simple w st init in
      let c = check_optional_condition w a condition in
      let f2 = before_optional c post f in
      let f1 = before_test a condition f2 in
      let x = strung_split B n (tokens_if simple_tokens init) (sign kind.Semicolon p ∷ (test_tokens ++ (sign kind.Semicolon q ∷ post_tokens))) m t in
      let y = strung_split B (suc x.0) test_tokens (sign kind.Semicolon q ∷ post_tokens) m x.1.1.1.1 in
      let at : p ≡ x.0 = x.1.1.0 in
      let h1 = optional_typed A b p n x.0 st init f1 known (resolved_left w B A first (second ++ third) r) x.1.0 (omega arith) in
      let r2 = resolved_right w B A first (second ++ third) r in
      let h2 = test_typed (past A first) (suc x.0) y.0 a condition f2 h1.1 (resolved_left w B (past A first) second third r2) y.1.0 in
      let h3 = optional_typed (past (past A first) second) b o (suc y.0) m c post f h2.1 (resolved_right w B (past A first) second third r2) y.1.1.1.1 le in (
        with_clauses h1.0 h2.0 h3.0,
        known_join w (check_optional_simple w c post).locals A first (second ++ third) (known_join w (check_optional_simple w c post).locals
            (past A first) second third h3.1),
      )

  -- groups of locals

  separated : (o : Option ℕ) (close k e : ℕ) → Strung B k (sign_if kind.Semicolon o) e → e ≤ close → k ≤ unwrap_or o close
  separated None close k e h le = let same : k ≡ e = h in omega arith
  separated (Some p) close k e h le = let at : p ≡ k = h.0 in omega arith

  before_items : (js : List (Item LocalTree)) (a : FoundSoFar) → (check_items (check_local w) a js).faults ≡ [] → a.faults ≡ []
  unfolding check_items
  before_items [] a h = h
  before_items (j ∷ js) a h = (local_settled w a j.value (before_items js (check_local w a j.value) h)).0

  items_typed : (A : List Site) (b : Block) (close n m : ℕ) (is : List (Item LocalTree)) (st : FoundSoFar) → All (λ x. IsLocal x.value) is →
      (check_items (check_local w) st is).faults ≡ [] → AllKnown w st.locals A → AreResolved w B A (separated_sites (local_sites s b) close is) →
      Strung B n (list_tokens kind.Semicolon local_tokens is) m → m ≤ close →
      (st.faults ≡ []) × Outcome w A (separated_sites (local_sites s b) close is) (InTurn LocalTree (LocalIsTyped w) st.locals is) (check_items
      (check_local w) st is).locals
  unfolding all_tokens separated_sites check_items
  items_typed A b close n m [] st formed f known r t le = (f, (no_item, known))
  items_typed A b close n m (i ∷ is) st formed f known r t le =
      let q = unwrap_or i.separator close in
      let own = local_sites s b q i.value in
      let rest = separated_sites (local_sites s b) close is in
      let next = check_local w st i.value in
      let x = strung_split B n (item_tokens kind.Semicolon local_tokens i) (list_tokens kind.Semicolon local_tokens is) m t in
      let y = strung_split B n (local_tokens i.value) (sign_if kind.Semicolon i.separator) x.0 x.1.0 in
      let end : x.0 ≤ m = strung_le B x.0 (list_tokens kind.Semicolon local_tokens is) m x.1.1 in
      let g = before_items is next f in
      let h = local_typed w B s u A b q n y.0 st i.value (All-head (λ z. IsLocal z.value) i is formed) g known (resolved_left w B A own rest r) y.1.0
      (separated i.separator close y.0 x.0 y.1.1 (omega arith)) in
      let k = items_typed (past A own) b close x.0 m is next (All-tail (λ z. IsLocal z.value) i is formed) f h.1 (resolved_right w B A own rest r) x.1.1 le in
      ((local_settled w st i.value g).0, (then_item h.0 k.1.0, known_join w (check_items (check_local w) next is).locals A own rest k.1.1))

  locals_typed : (A : List Site) (b : Block) (q n m : ℕ) (st : FoundSoFar) (g : Group LocalTree) → IsGroup IsLocal g →
      (check_group (check_local w) st g).faults ≡ [] →
      AllKnown w st.locals A → AreResolved w B A (group_sites (local_sites s b) q g) → Strung B n (group_tokens local_tokens g) m → m ≤ q →
      Outcome w A (group_sites (local_sites s b) q g) (InGroup LocalTree (LocalIsTyped w) st.locals g) (check_group (check_local w) st g).locals
  unfolding group_tokens group_sites check_group
  locals_typed A b q n m st (single x) formed f known r t le = let h = local_typed w B s u A b q n m st x formed f known r t le in (alone h.0, h.1)
  locals_typed A b q n m st (several o is c) formed f known r t le =
      let x = strung_split B (suc n) (list_tokens kind.Semicolon local_tokens is) (sign kind.RightParen c ∷ []) m t.1.1 in
      let at : c ≡ x.0 = x.1.1.0 in
      let h = items_typed A b c (suc n) x.0 is st formed.each f known r x.1.0 (omega arith) in (together h.1.0, h.1.1)

  -- statements

  first_formed : (x : StatementTree) (p : Option ℕ) (rest : StatementTrees) → AreStatements (tree.statement x p rest) → IsStatement x × AreStatements rest
  unfolding IsStatement
  first_formed x None rest h = (h.0, subst AreStatements (sym h.1) tt)
  first_formed x (Some p) rest h = (h.0, h.2)

  opens : (x : BlockTree) (k m : ℕ) → Strung B k (block_tokens x) m → k ≤ open_of x
  unfolding block_tokens
  opens (tree.block o ss c) k m h = let at : o ≡ k = h.0 in omega arith

  return_fine : (results : List PlainType) (st : Locals) (p : ℕ) (es : List (Item ExprTree)) → StatementIsExcused w results st (tree.Return p es) →
      AreNamed w B st (exprs_sites s es) → (n m : ℕ) → Strung B n (exprs_tokens es) m → ⊥
  return_fine results st p es (in_return x) h n m t = each_fine w B st s u n m x h t

  mutual
    unfolding check_statement check_return statement_sites statement_tokens IsStatement

    pub statement_typed : (results : List PlainType) (targets : List Target) → AreTargets targets results →
        (A : List Site) (b : Block) (q n m : ℕ) (x : StatementTree)
        (st : FoundSoFar) → IsStatement x → (check_statement w targets st x).faults ≡ [] → AllKnown w st.locals A →
        AreResolved w B A (statement_sites s b q x) →
        Strung B n (statement_tokens x) m → m ≤ q →
        Outcome w A (statement_sites s b q x) (StatementIsTyped w results st.locals x) (check_statement w targets st x).locals
    statement_typed results targets e A b q n m tree.Empty st formed f known r t le = (nothing, known)
    statement_typed results targets e A b q n m (tree.Var p g) st formed f known r t le =
        let h = locals_typed A b q (suc n) m st g formed f known r t.1.1 le in (a_declaration h.0, h.1)
    statement_typed results targets e A b q n m (tree.Simple x) st formed f known r t le =
        let h = simple_typed w B s u A b q n m st x f known r t le in (a_simple h.0, h.1)
    statement_typed results targets e A b q n m (tree.Inner x) st formed f known r t le =
        let h = block_typed results targets e A n m x st formed f known r t in (an_inner_block h.0, h.1)
    statement_typed results targets e A b q n m (tree.If x) st formed f known r t le =
        let h = if_typed results targets e A q n m x st formed f known r t in (a_choice h.0, h.1)
    statement_typed results targets e A b q n m (tree.For p h x) st formed f known r t le =
        let block_b = blocks.Inner s.rank p q in
        let first = for_sites s block_b (open_of x) h in
        let next = check_for_header w st h in
        let y = strung_split B (suc n) (for_tokens h) (block_tokens x) m t.1.1 in
        let k = header_typed A block_b (open_of x) (suc n) y.0 st h (block_first w targets x next f) known (resolved_left w B A first (block_sites s x) r) y.1.0
        (opens x y.0 m y.1.1) in
        let j = block_typed results targets e (past A first) y.0 m x next formed.1 f k.1 (resolved_right w B A first (block_sites s x) r) y.1.1 in
        (a_loop k.0 j.0, known_join w (check_block w targets next x).locals A first (block_sites s x) j.1)
    statement_typed results targets e A b q n m (tree.Break p) st formed f known r t le = (a_break, known)
    statement_typed results targets e A b q n m (tree.Continue p) st formed f known r t le = (a_continue, known)
    statement_typed results targets e A b q n m (tree.Return p es) st formed f known r t le =
        let all = exprs_known w B st.locals s A (suc n) m es known r t.1.1 in (
          elim (statement_settled w results targets e (tree.Return p es) st f).1 [
            | inl h ↦ h
            | inr x ↦ absurd (return_fine results st.locals p es x all (suc n) m t.1.1)
          ],
          plain_past w st.locals A (exprs_sites s es) known (plain_exprs s es),
        )

    pub block_typed : (results : List PlainType) (targets : List Target) → AreTargets targets results →
        (A : List Site) (n m : ℕ) (x : BlockTree) (st : FoundSoFar) →
        IsBlock x → (check_block w targets st x).faults ≡ [] → AllKnown w st.locals A → AreResolved w B A (block_sites s x) → Strung B n (block_tokens x) m →
        Outcome w A (block_sites s x) (BlockIsTyped w results st.locals x) (check_block w targets st x).locals
    block_typed results targets e A n m (tree.block o ss c) st formed f known r t =
        let y = strung_split B (suc n) (statements_tokens ss) (sign kind.RightBrace c ∷ []) m t.1.1 in
        let at : c ≡ y.0 = y.1.1.0 in
        let h = statements_typed results targets e A (blocks.Inner s.rank o c) c (suc n) y.0 ss st formed.1 f known r y.1.0 (omega arith) in (a_block h.0, h.1)

    statements_typed : (results : List PlainType) (targets : List Target) → AreTargets targets results → (A : List Site) (b : Block) (close n m : ℕ)
        (x : StatementTrees) (st : FoundSoFar) → AreStatements x → (check_statements w targets st x).faults ≡ [] → AllKnown w st.locals A →
        AreResolved w B A (statements_sites s b close x) → Strung B n (statements_tokens x) m → m ≤ close →
        Outcome w A (statements_sites s b close x) (StatementsAreTyped w results st.locals x) (check_statements w targets st x).locals
    statements_typed results targets e A b close n m tree.no_statement st formed f known r t le = (no_more, known)
    statements_typed results targets e A b close n m (tree.statement x p rest) st formed f known r t le =
        let q = unwrap_or p close in
        let own = statement_sites s b q x in
        let others = statements_sites s b close rest in
        let next = check_statement w targets st x in
        let both = first_formed x p rest formed in
        let y = strung_split B n (statement_tokens x) (sign_if kind.Semicolon p ++ statements_tokens rest) m t in
        let z = strung_split B y.0 (sign_if kind.Semicolon p) (statements_tokens rest) m y.1.1 in
        let end : z.0 ≤ m = strung_le B z.0 (statements_tokens rest) m z.1.1 in
        let h = statement_typed results targets e A b q n y.0 x st both.0 (before_statements w targets rest next f) known
        (resolved_left w B A own others r) y.1.0
        (separated p close y.0 z.0 z.1.0 (omega arith)) in
        let k = statements_typed results targets e (past A own) b close z.0 m rest next both.1 f h.1 (resolved_right w B A own others r) z.1.1 le in
        (one_more h.0 k.0, known_join w (check_statements w targets next rest).locals A own others k.1)

    if_typed : (results : List PlainType) (targets : List Target) → AreTargets targets results → (A : List Site) (q n m : ℕ) (x : IfTree) (st : FoundSoFar) →
        IsIf x → (check_if w targets st x).faults ≡ [] → AllKnown w st.locals A → AreResolved w B A (if_sites s q x) → Strung B n (if_tokens x) m →
        Outcome w A (if_sites s q x) (IfIsTyped w results st.locals x) (check_if w targets st x).locals
    if_typed results targets e A q n m (tree.if_tree p init c x otherwise) st formed f known r t =
        let b = blocks.Inner s.rank p q in
        let s1 = sites_if (init_sites s b) init in
        let s2 = expr_sites s c in
        let s3 = block_sites s x in
        let s4 = else_sites s q otherwise in
        let a1 = check_init w st init in
        let a2 = check_condition w a1 c in
        let a3 = check_block w targets a2 x in
        let f3 = before_else w targets otherwise a3 f in
        let f2 = block_first w targets x a2 f3 in
        let f1 = (condition_settled w a1 c f2).0 in
        let y = strung_split B (suc n) (tokens_if init_tokens init) (expr_tokens c ++ (block_tokens x ++ else_tokens otherwise)) m t.1.1 in
        let z = strung_split B y.0 (expr_tokens c) (block_tokens x ++ else_tokens otherwise) m y.1.1 in
        let v = strung_split B z.0 (block_tokens x) (else_tokens otherwise) m z.1.1 in
        let h1 = init_typed A b (suc n) y.0 st init f1 known (resolved_left w B A s1 (s2 ++ (s3 ++ s4)) r) y.1.0 in
        let r1 = resolved_right w B A s1 (s2 ++ (s3 ++ s4)) r in
        let h2 = condition_typed (past A s1) y.0 z.0 a1 c f2 h1.1 (resolved_left w B (past A s1) s2 (s3 ++ s4) r1) z.1.0 in
        let r2 = resolved_right w B (past A s1) s2 (s3 ++ s4) r1 in
        let h3 = block_typed results targets e (past (past A s1) s2) z.0 v.0 x a2 formed.2 f3 h2.1 (resolved_left w B (past (past A s1) s2) s3 s4 r2) v.1.0 in
        let r3 = resolved_right w B (past (past A s1) s2) s3 s4 r2 in
        let h4 = else_typed results targets e (past (past (past A s1) s2) s3) q v.0 m otherwise a3 formed.3 f h3.1 r3 v.1.1 in
        let after = (check_else w targets a3 otherwise).locals in (
          an_if h1.0 h2.0 h3.0 h4.0,
          known_join w after A s1 (s2 ++ (s3 ++ s4)) (known_join w after (past A s1) s2 (s3 ++ s4) (known_join w after (past (past A s1) s2) s3 s4 h4.1)),
        )

    else_typed : (results : List PlainType) (targets : List Target) → AreTargets targets results → (A : List Site) (q n m : ℕ) (x : ElseTree) (st :
        FoundSoFar) →
        IsElse x → (check_else w targets st x).faults ≡ [] → AllKnown w st.locals A → AreResolved w B A (else_sites s q x) → Strung B n (else_tokens x) m →
        Outcome w A (else_sites s q x) (ElseIsTyped w results st.locals x) (check_else w targets st x).locals
    else_typed results targets e A q n m tree.no_else st formed f known r t = (without_else, known)
    else_typed results targets e A q n m (tree.else_if p i) st formed f known r t =
        let h = if_typed results targets e A q (suc n) m i st formed f known r t.1.1 in (an_else_if h.0, h.1)
    else_typed results targets e A q n m (tree.else_block p b) st formed f known r t =
        let h = block_typed results targets e A (suc n) m b st formed f known r t.1.1 in (an_else h.0, h.1)
