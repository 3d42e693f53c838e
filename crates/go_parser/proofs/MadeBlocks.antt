-- Each well-formed block is derived, and its derivation builds it.
use Rattle.std.proofs.Common.{◌⊎◌, ℕ, ◌≡◌, ◌≢◌, true, false, List, [], ◌∷◌, ◌++◌, Option, Some, None, refl, ap, sym, ◌∙◌, subst, append_assoc, inl, inr}
use Rattle.go_ast.specs.declared.syntax.Kind.TheVariants as kind
use Rattle.go_ast.specs.declared.syntax.Token.{Token}
use Rattle.go_ast.specs.Grammar.{ReturnValues, Expression, is, GrammarSymbol, One, A, Plain, Head, Post, LocalItem, Block, MoreStatements, Statement, IfHead}
use Rattle.go_ast.specs.Grammar.{IfBody, ElsePart, ForHead, ForRest, ForCondition, ForPost}
use Rattle.go_ast.specs.Language.{tested, untested, below}
use Rattle.go_ast.specs.Tree.{Item, ExprTree, SimpleTree, InitTree, ForTree, forever, while, clauses, StatementTree, Empty, Var, Simple, Inner, If, For}
use Rattle.go_ast.specs.Tree.{Break, Continue, Return, BlockTree, block, StatementTrees, no_statement, statement, if_tree, ElseTree, no_else, else_if}
use Rattle.go_ast.specs.Tree.{else_block}
use Rattle.go_ast.specs.Flatten.{sign, sign_if, tokens_if, all_tokens, exprs_tokens, expr_tokens, simple_tokens, local_tokens, init_tokens, for_tokens}
use Rattle.go_ast.specs.Flatten.{statement_tokens, block_tokens, statements_tokens, else_tokens}
use Rattle.go_ast.specs.WellFormed.{IsNoneOr, IsList, IsExprIn, IsSimple, IsPost, IsInit, IsFor, IsLocal, IsStatement, IsBlock, AreStatements, IsElse}
use Rattle.go_parser.proofs.OneValue.{Values}
use Rattle.go_parser.proofs.Made.{Made, one, opens, closes, rule, along}
use Rattle.go_parser.proofs.MadeExprs.{made_expr}
use Rattle.go_parser.proofs.MadeLists.{made_group}
use Rattle.go_parser.proofs.MadeStatements.{speaks, made_exprs, made_local}

-- headers

abbrev MakesBlock : BlockTree → Type 0
MakesBlock b = (ss : List GrammarSymbol) (vs : Values ss) (ts : List Token) → Made ss vs ts → Made (A Block ∷ ss) (b, vs) (block_tokens b ++ ts)

abbrev MakesBody : BlockTree → ElseTree → Type 0
MakesBody b rest = (ss : List GrammarSymbol) (vs : Values ss) (ts : List Token) → Made ss vs ts →
    Made (A IfBody ∷ ss) ((b, rest), vs) (block_tokens b ++ (else_tokens rest ++ ts))

-- the clause before the condition of an `if`
if_init : (simple : Option SimpleTree) (semicolon : ℕ) (e : ExprTree) (b : BlockTree) (rest : ElseTree) → IsNoneOr (IsSimple true) simple → IsExprIn true e →
    MakesBody b rest →
    {ss : List GrammarSymbol} {vs : Values ss} {ts : List Token} → Made ss vs ts →
    Made (A IfHead ∷ ss) ((λ p. if_tree p (Some (record { simple = simple; semicolon = semicolon })) e b rest), vs)
    ((tokens_if simple_tokens simple ++ (sign kind.Semicolon semicolon ∷ [])) ++ (expr_tokens e ++ (block_tokens b ++ (else_tokens rest ++ ts))))
if_init None semicolon e b rest w v f m = rule tested (one refl (made_expr true e v _ _ _ (f _ _ _ m))) refl
if_init (Some s) semicolon e b rest w v f {ss = ss} {vs = vs} {ts = ts} m =
    let us : List Token = expr_tokens e ++ (block_tokens b ++ (else_tokens rest ++ ts)) in
    let k = speaks Head s w (One (is kind.Semicolon) ∷ A (Expression true) ∷ A IfBody ∷ ss) (sign kind.Semicolon semicolon, (e, ((b, rest), vs)))
    (sign kind.Semicolon semicolon ∷ us)
    (one refl (made_expr true e v _ _ _ (f _ _ _ m))) in
    along (append_assoc (simple_tokens s) (sign kind.Semicolon semicolon ∷ []) us ∙ k.same)
    (rule (below untested) (made_expr true k.e k.proper _ _ _ (rule (below untested) k.made refl))
    (ap (λ x. ((λ p. if_tree p (Some (record { simple = Some x; semicolon = semicolon })) e b rest), vs)) k.says))

-- the header of an `if` and its bodies
if_head : (init : Option InitTree) (e : ExprTree) (b : BlockTree) (rest : ElseTree) → IsNoneOr IsInit init → IsExprIn true e → MakesBody b rest →
    {ss : List GrammarSymbol} {vs : Values ss} {ts : List Token} → Made ss vs ts →
    Made (A IfHead ∷ ss) ((λ p. if_tree p init e b rest), vs) (tokens_if init_tokens init ++ (expr_tokens e ++ (block_tokens b ++ (else_tokens rest ++ ts))))
unfolding init_tokens
if_head None e b rest w v f m = rule (below untested) (made_expr true e v _ _ _ (rule tested (f _ _ _ m) refl)) refl
if_head (Some i) e b rest w v f m = if_init i.simple i.semicolon e b rest w v f m

for_condition : (e : Option ExprTree) → IsNoneOr (IsExprIn true) e → {ss : List GrammarSymbol} {vs : Values ss} {ts : List Token} → Made ss vs ts →
    Made (A ForCondition ∷ ss) (e, vs) (tokens_if expr_tokens e ++ ts)
for_condition None w m = rule (below untested) m refl
for_condition (Some e) w m = rule tested (made_expr true e w _ _ _ m) refl

for_post : (s : Option SimpleTree) → IsNoneOr IsPost s → {ss : List GrammarSymbol} {vs : Values ss} {ts : List Token} → Made ss vs ts →
    Made (A ForPost ∷ ss) (s, vs) (tokens_if simple_tokens s ++ ts)
for_post None w m = rule (below untested) m refl
for_post (Some s) w {ss = ss} {vs = vs} {ts = ts} m =
    let k = speaks Post s w ss vs ts m in
    along k.same (rule tested (made_expr true k.e k.proper _ _ _ k.made) (ap (λ x. (Some x, vs)) k.says))

-- the clauses of a `for` from the first semicolon on, and its block
for_rest : (s : ℕ) (condition : Option ExprTree) (t : ℕ) (post : Option SimpleTree) (b : BlockTree) → IsNoneOr (IsExprIn true) condition →
    IsNoneOr IsPost post → MakesBlock b →
    {ss : List GrammarSymbol} {vs : Values ss} {ts : List Token} → Made ss vs ts →
    Made (A ForRest ∷ ss) ((λ init. (clauses init s condition t post, b)), vs)
    (sign kind.Semicolon s ∷ (tokens_if expr_tokens condition ++ (sign kind.Semicolon t ∷ (tokens_if simple_tokens post ++ (block_tokens b ++ ts)))))
for_rest s condition t post b w v f m = rule untested (one refl (for_condition condition w (one refl (for_post post v (f _ _ _ m))))) refl

-- the header of a `for` and its block
for_head : (f : ForTree) (b : BlockTree) → IsFor f → MakesBlock b → {ss : List GrammarSymbol} {vs : Values ss} {ts : List Token} → Made ss vs ts →
    Made (A ForHead ∷ ss) ((f, b), vs) (for_tokens f ++ (block_tokens b ++ ts))
unfolding for_tokens
for_head forever b w f m = rule tested (f _ _ _ m) refl
for_head (while e) b w f m = rule (below (below untested)) (made_expr true e w _ _ _ (rule tested (f _ _ _ m) refl)) refl
for_head (clauses None s condition t post) b w f {ts = ts} m =
    along (ap (λ z. sign kind.Semicolon s ∷ z) (append_assoc (tokens_if expr_tokens condition) (sign kind.Semicolon t ∷ tokens_if simple_tokens post)
    (block_tokens b ++ ts)))
    (rule (below tested) (for_rest s condition t post b w.1 w.2 f m) refl)
for_head (clauses (Some init) s condition t post) b w f {ss = ss} {vs = vs} {ts = ts} m =
    let a : List Token = tokens_if simple_tokens post in
    let k = speaks Head init w.0 (A ForRest ∷ ss) ((λ init. (clauses init s condition t post, b)), vs) _ (for_rest s condition t post b w.1 w.2 f m) in
    along (append_assoc (simple_tokens init) (sign kind.Semicolon s ∷ (tokens_if expr_tokens condition ++ (sign kind.Semicolon t ∷ a))) (block_tokens b ++ ts)
    ∙ (ap (λ z. simple_tokens init ++ (sign kind.Semicolon s ∷ z))
    (append_assoc (tokens_if expr_tokens condition) (sign kind.Semicolon t ∷ a) (block_tokens b ++ ts)) ∙ k.same))
    (rule (below (below untested)) (made_expr true k.e k.proper _ _ _ (rule (below untested) k.made refl))
    (ap (λ x. ((clauses (Some x) s condition t post, b), vs)) k.says))

-- statements

-- the tokens that may follow a statement
abbrev Follows : Option ℕ → StatementTrees → Type 0
Follows None rest = rest ≡ no_statement
Follows (Some p) rest = (rest ≢ no_statement) × AreStatements rest

statement_parts : (s : StatementTree) (semicolon : Option ℕ) (rest : StatementTrees) → AreStatements (statement s semicolon rest) → IsStatement s ×
    Follows semicolon rest
unfolding IsStatement
statement_parts s None rest w = (w.0, w.1)
statement_parts s (Some p) rest w = (w.0, (w.1, w.2))

statement_is : (s : StatementTree) (semicolon : Option ℕ) (rest : StatementTrees) → statement s semicolon rest ≡ no_statement → ⊥
statement_is s semicolon rest e = cc

made_return : (es : List (Item ExprTree)) → (es ≡ []) ⊎ IsList (IsExprIn false) es → {ss : List GrammarSymbol} {vs : Values ss} {ts : List Token} →
    Made ss vs ts →
    Made (A ReturnValues ∷ ss) (es, vs) (exprs_tokens es ++ ts)
unfolding all_tokens
made_return es (inl e) {ss = ss} {vs = vs} {ts = ts} m =
    subst (λ x. Made (A ReturnValues ∷ ss) (x, vs) (exprs_tokens x ++ ts)) (sym e) (rule (below untested) m refl)
made_return es (inr w) m = rule tested (made_exprs false es w _ _ _ m) refl

mutual
  unfolding IsStatement statement_tokens

  made_statement : (s : StatementTree) → IsStatement s → (ss : List GrammarSymbol) (vs : Values ss) (ts : List Token) → Made ss vs ts →
      Made (A Statement ∷ ss) (s, vs) (statement_tokens s ++ ts)
  made_statement Empty w ss vs ts m = rule (below (below (below (below (below (below (below (below untested)))))))) m refl
  made_statement (Var p g) w ss vs ts m = rule tested (one refl (made_group LocalItem IsLocal local_tokens made_local g w m)) refl
  made_statement (Simple s) w ss vs ts m =
      let k = speaks Plain s w ss vs ts m in
      along k.same (rule (below (below (below (below (below (below (below tested))))))) (made_expr false k.e k.proper _ _ _ k.made)
      (ap (λ x. (Simple x, vs)) k.says))
  made_statement (Inner b) w ss vs ts m = rule (below tested) (made_block b w ss vs ts m) refl
  made_statement (If (if_tree p init e b rest)) w ss vs ts m =
      let f : MakesBody b rest = λ ss vs ts m. rule untested (made_block b w.2 _ _ _ (made_else rest w.3 ss vs ts m)) refl in
      along (ap (λ z. sign kind.If p ∷ z) (append_assoc (tokens_if init_tokens init) (expr_tokens e ++ (block_tokens b ++ else_tokens rest)) ts
      ∙ ap (λ z. tokens_if init_tokens init ++ z) (append_assoc (expr_tokens e) (block_tokens b ++ else_tokens rest) ts
      ∙ ap (λ z. expr_tokens e ++ z) (append_assoc (block_tokens b) (else_tokens rest) ts))))
      (rule (below (below tested)) (one refl (if_head init e b rest w.0 w.1 f m)) refl)
  made_statement (For p f b) w ss vs ts m =
      let g : MakesBlock b = λ ss vs ts m. made_block b w.1 ss vs ts m in
      along (ap (λ z. sign kind.For p ∷ z) (append_assoc (for_tokens f) (block_tokens b) ts))
      (rule (below (below (below tested))) (one refl (for_head f b w.0 g m)) refl)
  made_statement (Break p) w ss vs ts m = rule (below (below (below (below tested)))) (one refl m) refl
  made_statement (Continue p) w ss vs ts m = rule (below (below (below (below (below tested))))) (one refl m) refl
  made_statement (Return p es) w ss vs ts m = rule (below (below (below (below (below (below tested)))))) (one refl (made_return es w m)) refl

  pub made_block : (b : BlockTree) → IsBlock b → (ss : List GrammarSymbol) (vs : Values ss) (ts : List Token) → Made ss vs ts →
      Made (A Block ∷ ss) (b, vs) (block_tokens b ++ ts)
  made_block (block o no_statement c) w ss vs ts m = absurd (w.0 refl)
  made_block (block o (statement s semicolon rest) c) w ss vs ts m =
      let v = statement_parts s semicolon rest w.1 in
      along (ap (λ z. sign kind.LeftBrace o ∷ z) (append_assoc (statement_tokens s ++ (sign_if kind.Semicolon semicolon ++ statements_tokens rest))
      (sign kind.RightBrace c ∷ []) ts
      ∙ (append_assoc (statement_tokens s) (sign_if kind.Semicolon semicolon ++ statements_tokens rest) (sign kind.RightBrace c ∷ ts)
      ∙ ap (λ z. statement_tokens s ++ z) (append_assoc (sign_if kind.Semicolon semicolon) (statements_tokens rest) (sign kind.RightBrace c ∷ ts)))))
      (rule untested (opens refl (made_statement s v.0 _ _ _ (more_statements rest semicolon v.1 _ _ _ (one refl (closes m))))) refl)

  more_statements : (rest : StatementTrees) (semicolon : Option ℕ) → Follows semicolon rest → (ss : List GrammarSymbol) (vs : Values ss) (ts : List Token) →
      Made ss vs ts →
      Made (A MoreStatements ∷ ss) ((λ x. statement x semicolon rest), vs) (sign_if kind.Semicolon semicolon ++ (statements_tokens rest ++ ts))
  more_statements no_statement None w ss vs ts m = rule (below untested) m refl
  more_statements no_statement (Some p) w ss vs ts m = absurd (w.0 refl)
  more_statements (statement s semicolon rest) None w ss vs ts m = absurd (statement_is s semicolon rest w)
  more_statements (statement s semicolon rest) (Some p) w ss vs ts m =
      let v = statement_parts s semicolon rest w.1 in
      along (ap (λ z. sign kind.Semicolon p ∷ z) (append_assoc (statement_tokens s) (sign_if kind.Semicolon semicolon ++ statements_tokens rest) ts
      ∙ ap (λ z. statement_tokens s ++ z) (append_assoc (sign_if kind.Semicolon semicolon) (statements_tokens rest) ts)))
      (rule tested (one refl (made_statement s v.0 _ _ _ (more_statements rest semicolon v.1 ss vs ts m))) refl)

  made_else : (e : ElseTree) → IsElse e → (ss : List GrammarSymbol) (vs : Values ss) (ts : List Token) → Made ss vs ts →
      Made (A ElsePart ∷ ss) (e, vs) (else_tokens e ++ ts)
  made_else no_else w ss vs ts m = rule (below untested) m refl
  made_else (else_if p (if_tree q init e b rest)) w ss vs ts m =
      let f : MakesBody b rest = λ ss vs ts m. rule untested (made_block b w.2 _ _ _ (made_else rest w.3 ss vs ts m)) refl in
      along (ap (λ z. sign kind.Else p ∷ sign kind.If q ∷ z)
      (append_assoc (tokens_if init_tokens init) (expr_tokens e ++ (block_tokens b ++ else_tokens rest)) ts
      ∙ ap (λ z. tokens_if init_tokens init ++ z) (append_assoc (expr_tokens e) (block_tokens b ++ else_tokens rest) ts
      ∙ ap (λ z. expr_tokens e ++ z) (append_assoc (block_tokens b) (else_tokens rest) ts))))
      (rule tested (one refl (rule tested (opens refl (if_head init e b rest w.0 w.1 f (closes m))) refl)) refl)
  made_else (else_block p b) w ss vs ts m = rule tested (one refl (rule (below untested) (made_block b w ss vs ts m) refl)) refl
