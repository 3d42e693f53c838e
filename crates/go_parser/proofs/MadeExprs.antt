-- Each well-formed expression is derived, and its derivation builds it.
use Rattle.std.proofs.Common.{ℕ, ◌≡◌, ◌≢◌, Bool, true, false, List, [], ◌∷◌, ◌++◌, Option, Some, None, refl, ap, sym, ◌∙◌, subst, append_assoc}
use Rattle.go_ast.specs.declared.syntax.Kind.TheVariants as kind
use Rattle.go_ast.specs.declared.syntax.Token.{Token}
use Rattle.go_ast.specs.declared.syntax.BinaryOp.{BinaryOp}
use Rattle.go_ast.specs.declared.syntax.BinaryOp.TheVariants as binary
use Rattle.go_ast.specs.declared.syntax.PrefixOp.{PrefixOp}
use Rattle.go_ast.specs.declared.syntax.PrefixOp.TheVariants as prefix
use Rattle.go_ast.specs.Grammar.{GrammarSymbol, Close, A, is_binary, is_prefix, Expression}
use Rattle.go_ast.specs.Grammar.{Binaries, Unary, Operand, AfterName, AfterSelector, Links, Arguments}
use Rattle.go_ast.specs.Grammar.{MoreArguments, Address as AddressPart, Elements, ElementList, MoreElements, Element}
use Rattle.go_ast.specs.Language.{tested, untested, below}
use Rattle.go_ast.specs.Tree.{TypeTree, Local, Imported, Pointer, Slice, ExprTree, Number, Text, Name, Blank, Composite, Paren, Prefix, Address, Chain}
use Rattle.go_ast.specs.Tree.{Binary, OperandTrees, no_operand, operand, LinkTrees, no_link, selector, index, call, ArgumentTrees, no_argument, argument}
use Rattle.go_ast.specs.Tree.{literal, ElementTrees, no_element, element}
use Rattle.go_ast.specs.Flatten.{sign, sign_if, binary_kind, prefix_kind, type_tokens, expr_tokens, operand_tokens, link_tokens, argument_tokens}
use Rattle.go_ast.specs.Flatten.{literal_tokens, element_tokens}
use Rattle.go_ast.specs.WellFormed.{is_operand, is_binary_tree, IsLiteralType, IsUnnamed, IsExpr, AreOperands, AreLinks, AreArguments, AreElements}
use Rattle.go_ast.specs.WellFormed.{HasNoNamedLiteral, HaveNoNamedLiteral, IsExprIn, strength}
use Rattle.go_parser.proofs.Predictive.{no}
use Rattle.go_parser.proofs.Precedence.{head_of, tail_of, spread, grouped, grouped-tail_of}
use Rattle.go_parser.proofs.Values.{binary_op, prefix_op, chain}
use Rattle.go_parser.proofs.OneValue.{Values}
use Rattle.go_parser.proofs.Made.{Made, one, opens, closes, rule, along, made_type}

-- operators

binary_fits : (op : BinaryOp) → is_binary (binary_kind op) ≡ true
binary_fits binary.Multiply = refl
binary_fits _ = refl

binary_back : (op : BinaryOp) → binary_op (binary_kind op) ≡ op
binary_back binary.Multiply = refl
binary_back _ = refl

prefix_fits : (op : PrefixOp) → is_prefix (prefix_kind op) ≡ true
prefix_fits prefix.Plus = refl
prefix_fits _ = refl

prefix_back : (op : PrefixOp) → prefix_op (prefix_kind op) ≡ op
prefix_back prefix.Plus = refl
prefix_back _ = refl

-- the beginning of an expression, by which the grammar tells a name from other operands
pub data Starts (h : Bool) (ss : List GrammarSymbol) (vs : Values ss) (t : ExprTree) (ts : List Token) : Type 0 where
  by_name : (n : ℕ) (f : ℕ → ExprTree) (us : List Token) → ts ≡ sign kind.Name n ∷ us → f n ≡ t → Made (A (AfterName h) ∷ ss) (f, vs) us → Starts h ss vs t ts
  by_operand : Made (A (Operand h) ∷ ss) (t, vs) ts → Starts h ss vs t ts

unary_of : {h : Bool} {ss : List GrammarSymbol} {vs : Values ss} {t : ExprTree} {ts : List Token} → Starts h ss vs t ts → Made (A (Unary h) ∷ ss) (t, vs) ts
unary_of {vs = vs} (by_name n f us e q m) = along e (rule tested (one refl m) (ap (λ x. (x, vs)) q))
unary_of (by_operand m) = rule (below untested) m refl

starts_along : {h : Bool} {ss : List GrammarSymbol} {vs : Values ss} {t : ExprTree} {ts us : List Token} → ts ≡ us → Starts h ss vs t us → Starts h ss vs t ts
starts_along {h = h} {ss = ss} {vs = vs} {t = t} e s = subst (λ x. Starts h ss vs t x) (sym e) s

starts_as : {h : Bool} {ss : List GrammarSymbol} {vs : Values ss} {t u : ExprTree} {ts : List Token} → t ≡ u → Starts h ss vs t ts → Starts h ss vs u ts
starts_as {h = h} {ss = ss} {vs = vs} {ts = ts} e s = subst (λ x. Starts h ss vs x ts) e s

element_of : {ss : List GrammarSymbol} {vs : Values ss} {os : OperandTrees} {u : ExprTree} {ts : List Token} →
    Starts false (A (Binaries false) ∷ ss) (os, vs) u ts → Made (A Element ∷ ss) ((None, grouped u os), vs) ts
element_of {vs = vs} {os = os} (by_name n f us e q m) = along e (rule tested (one refl (rule (below untested) m refl)) (ap (λ x. ((None, grouped x os), vs)) q))
element_of (by_operand m) = rule (below untested) m refl

-- links, behind an operand, a name, or a name with a selector
pub record Linked (h : Bool) (ss : List GrammarSymbol) (vs : Values ss) (ls : LinkTrees) (ts : List Token) : Type 0 where
  pub links : Made (A (Links h) ∷ ss) (ls, vs) ts
  pub after_name : Made (A (AfterName h) ∷ ss) ((λ x. chain (Name x) ls), vs) ts
  pub after_selector : Made (A (AfterSelector h) ∷ ss) ((λ x e m. Chain (Name x) (selector e m ls)), vs) ts

linked_along : {h : Bool} {ss : List GrammarSymbol} {vs : Values ss} {ls : LinkTrees} {ts us : List Token} → ts ≡ us → Linked h ss vs ls us →
    Linked h ss vs ls ts
linked_along {h = h} {ss = ss} {vs = vs} {ls = ls} e k = subst (λ x. Linked h ss vs ls x) (sym e) k

linked_none : (h : Bool) {ss : List GrammarSymbol} {vs : Values ss} {ts : List Token} → Made ss vs ts → Linked h ss vs no_link ts
linked_none true m = record {
  links = rule (below (below (below untested))) m refl;
  after_name = rule (below (below (below untested))) m refl;
  after_selector = rule (below (below (below untested))) m refl;
}
linked_none false m = record {
  links = rule (below (below (below untested))) m refl;
  after_name = rule (below (below (below (below untested)))) m refl;
  after_selector = rule (below (below (below (below untested)))) m refl;
}

linked_selector : (h : Bool) (d n : ℕ) {ss : List GrammarSymbol} {vs : Values ss} {ls : LinkTrees} {ts : List Token} → Linked h ss vs ls ts →
    Linked h ss vs (selector d n ls) (sign kind.Dot d ∷ sign kind.Name n ∷ ts)
linked_selector true d n k = record {
  links = rule tested (one refl (one refl k.links)) refl;
  after_name = rule tested (one refl (one refl k.after_selector)) refl;
  after_selector = rule tested (one refl (one refl k.links)) refl;
}
linked_selector false d n k = record {
  links = rule tested (one refl (one refl k.links)) refl;
  after_name = rule (below tested) (one refl (one refl k.after_selector)) refl;
  after_selector = rule (below tested) (one refl (one refl k.links)) refl;
}

abbrev pub MakesExpr : Bool → ExprTree → Type 0
MakesExpr h e = (ss : List GrammarSymbol) (vs : Values ss) (ts : List Token) → Made ss vs ts → Made (A (Expression h) ∷ ss) (e, vs) (expr_tokens e ++ ts)

abbrev MakesArguments : ArgumentTrees → Type 0
MakesArguments xs = (c : ℕ) (ss : List GrammarSymbol) (vs : Values ss) (ts : List Token) → Made ss vs ts →
    Made (A Arguments ∷ ss) ((xs, c), vs) (argument_tokens xs ++ (sign kind.RightParen c ∷ ts))

abbrev MakesElements : ElementTrees → Type 0
MakesElements es = (c : ℕ) (ss : List GrammarSymbol) (vs : Values ss) (ts : List Token) → Made ss vs ts →
    Made (A ElementList ∷ ss) ((es, c), vs) (element_tokens es ++ (sign kind.RightBrace c ∷ ts))

linked_index : (h : Bool) (o : ℕ) (e : ExprTree) (c : ℕ) {ss : List GrammarSymbol} {vs : Values ss} {ls : LinkTrees} {ts : List Token} → MakesExpr false e →
    Linked h ss vs ls ts →
    Linked h ss vs (index o e c ls) (sign kind.LeftBracket o ∷ (expr_tokens e ++ (sign kind.RightBracket c ∷ ts)))
linked_index true o e c f k = record {
  links = rule (below tested) (opens refl (f _ _ _ (one refl (closes k.links)))) refl;
  after_name = rule (below tested) (opens refl (f _ _ _ (one refl (closes k.links)))) refl;
  after_selector = rule (below tested) (opens refl (f _ _ _ (one refl (closes k.links)))) refl;
}
linked_index false o e c f k = record {
  links = rule (below tested) (opens refl (f _ _ _ (one refl (closes k.links)))) refl;
  after_name = rule (below (below tested)) (opens refl (f _ _ _ (one refl (closes k.links)))) refl;
  after_selector = rule (below (below tested)) (opens refl (f _ _ _ (one refl (closes k.links)))) refl;
}

linked_call : (h : Bool) (o : ℕ) (xs : ArgumentTrees) (c : ℕ) {ss : List GrammarSymbol} {vs : Values ss} {ls : LinkTrees} {ts : List Token} →
    MakesArguments xs →
    Linked h ss vs ls ts →
    Linked h ss vs (call o xs c ls) (sign kind.LeftParen o ∷ (argument_tokens xs ++ (sign kind.RightParen c ∷ ts)))
linked_call true o xs c f k = record {
  links = rule (below (below tested)) (opens refl (f c _ _ _ (closes k.links))) refl;
  after_name = rule (below (below tested)) (opens refl (f c _ _ _ (closes k.links))) refl;
  after_selector = rule (below (below tested)) (opens refl (f c _ _ _ (closes k.links))) refl;
}
linked_call false o xs c f k = record {
  links = rule (below (below tested)) (opens refl (f c _ _ _ (closes k.links))) refl;
  after_name = rule (below (below (below tested))) (opens refl (f c _ _ _ (closes k.links))) refl;
  after_selector = rule (below (below (below tested))) (opens refl (f c _ _ _ (closes k.links))) refl;
}

-- literals

braced : (o : ℕ) (es : ElementTrees) (c : ℕ) → MakesElements es → {ss : List GrammarSymbol} {vs : Values ss} {ts : List Token} → Made ss vs ts →
    Made (A Elements ∷ ss) ((λ t. literal t o es c), vs) (sign kind.LeftBrace o ∷ ((element_tokens es ++ (sign kind.RightBrace c ∷ [])) ++ ts))
braced o es c f {ts = ts} m = rule untested (opens refl (along (append_assoc (element_tokens es) (sign kind.RightBrace c ∷ []) ts) (f c _ _ _ (closes m)))) refl

literal_starts : (h : Bool) (t : TypeTree) (o : ℕ) (es : ElementTrees) (c : ℕ) → IsLiteralType t → (h ≡ true → IsUnnamed (literal t o es c)) →
    MakesElements es →
    (ls : LinkTrees) (ss : List GrammarSymbol) (vs : Values ss) (ts : List Token) → Linked h ss vs ls ts →
    Starts h ss vs (chain (Composite (literal t o es c)) ls) (literal_tokens (literal t o es c) ++ ts)
unfolding expr_tokens type_tokens
literal_starts true (Local n) o es c w u f ls ss vs ts k = absurd (u refl)
literal_starts false (Local n) o es c w u f ls ss vs ts k =
    by_name n (λ x. chain (Composite (literal (Local x) o es c)) ls) _ refl refl (rule tested (braced o es c f k.links) refl)
literal_starts true (Imported p d n) o es c w u f ls ss vs ts k = absurd (u refl)
literal_starts false (Imported p d n) o es c w u f ls ss vs ts k =
    by_name p (λ x. chain (Composite (literal (Imported x d n) o es c)) ls) _ refl refl
    (rule (below tested) (one refl (one refl (rule tested (braced o es c f k.links) refl))) refl)
literal_starts h (Pointer s t) o es c w u f ls ss vs ts k = absurd w
literal_starts h (Slice b d t) o es c w u f ls ss vs ts k =
    by_operand (rule (below (below (below (below untested)))) (opens refl (one refl
    (along (append_assoc (type_tokens t) (sign kind.LeftBrace o ∷ (element_tokens es ++ (sign kind.RightBrace c ∷ []))) ts)
    (made_type t (closes (braced o es c f k.links)))))) refl)

addressed : (h : Bool) (t : TypeTree) (o : ℕ) (es : ElementTrees) (c : ℕ) → IsLiteralType t → (h ≡ true → IsUnnamed (literal t o es c)) → MakesElements es →
    {ss : List GrammarSymbol} {vs : Values ss} {ts : List Token} → Made ss vs ts →
    Made (A (AddressPart h) ∷ ss) (literal t o es c, vs) (literal_tokens (literal t o es c) ++ ts)
unfolding expr_tokens type_tokens
addressed true (Local n) o es c w u f m = absurd (u refl)
addressed false (Local n) o es c w u f m = rule tested (one refl (rule (below untested) (braced o es c f m) refl)) refl
addressed true (Imported p d n) o es c w u f m = absurd (u refl)
addressed false (Imported p d n) o es c w u f m = rule tested (one refl (rule tested (one refl (one refl (braced o es c f m))) refl)) refl
addressed h (Pointer s t) o es c w u f m = absurd w
addressed true (Slice b d t) o es c w u f {ts = ts} m =
    rule untested (opens refl (one refl (along (append_assoc (type_tokens t) (sign kind.LeftBrace o ∷ (element_tokens es ++ (sign kind.RightBrace c ∷ []))) ts)
    (made_type t (closes (braced o es c f m)))))) refl
addressed false (Slice b d t) o es c w u f {ts = ts} m =
    rule (below untested) (opens refl (one refl (along
    (append_assoc (type_tokens t) (sign kind.LeftBrace o ∷ (element_tokens es ++ (sign kind.RightBrace c ∷ []))) ts)
    (made_type t (closes (braced o es c f m)))))) refl

-- what follows an argument, or an element

more_arguments : (comma : Option ℕ) (rest : ArgumentTrees) (c : ℕ) → (comma ≡ None → rest ≡ no_argument) → MakesArguments rest →
    {ss : List GrammarSymbol} {vs : Values ss} {ts : List Token} → Made ss vs ts →
    Made (A MoreArguments ∷ ss) ((λ e. (argument e comma rest, c)), vs) (sign_if kind.Comma comma ++ (argument_tokens rest ++ (sign kind.RightParen c ∷ ts)))
unfolding expr_tokens
more_arguments (Some p) rest c q f m = rule tested (one refl (f c _ _ _ m)) refl
more_arguments None rest c q f {ss = ss} {vs = vs} {ts = ts} m =
    subst (λ x. Made (A MoreArguments ∷ ss) ((λ e. (argument e None x, c)), vs) (argument_tokens x ++ (sign kind.RightParen c ∷ ts))) (sym (q refl))
    (rule (below untested) (one refl m) refl)

more_elements : (comma : Option ℕ) (rest : ElementTrees) (c : ℕ) → (comma ≡ None → rest ≡ no_element) → MakesElements rest →
    {ss : List GrammarSymbol} {vs : Values ss} {ts : List Token} → Made ss vs ts →
    Made (A MoreElements ∷ ss) ((λ key e. (element key e comma rest, c)), vs)
    (sign_if kind.Comma comma ++ (element_tokens rest ++ (sign kind.RightBrace c ∷ ts)))
unfolding expr_tokens
more_elements (Some p) rest c q f m = rule tested (one refl (f c _ _ _ m)) refl
more_elements None rest c q f {ss = ss} {vs = vs} {ts = ts} m =
    subst (λ x. Made (A MoreElements ∷ ss) ((λ key e. (element key e None x, c)), vs) (element_tokens x ++ (sign kind.RightBrace c ∷ ts))) (sym (q refl))
    (rule (below untested) (one refl m) refl)

-- expressions

abbrev Operates : Bool → ExprTree → Type 0
Operates h t = (ls : LinkTrees) (ss : List GrammarSymbol) (vs : Values ss) (ts : List Token) → Linked h ss vs ls ts →
    Starts h ss vs (chain t ls) (expr_tokens t ++ ts)

abbrev Stands : Bool → ExprTree → Type 0
Stands h t = (ss : List GrammarSymbol) (vs : Values ss) (ts : List Token) → Made ss vs ts → Starts h ss vs t (expr_tokens t ++ ts)

abbrev Spreads : Bool → ExprTree → Type 0
Spreads h t = (ss : List GrammarSymbol) (vs : Values ss) (os : OperandTrees) (ts : List Token) → Made (A (Binaries h) ∷ ss) (os, vs) ts →
    Starts h (A (Binaries h) ∷ ss) (tail_of t os, vs) (head_of t) (expr_tokens t ++ ts)

-- how an expression is derived: as an operand of a chain, of an operator, and with the operators behind it
pub record Ready (h : Bool) (t : ExprTree) : Type 0 where
  pub operates : is_operand t ≡ true → Operates h t
  pub stands : is_binary_tree t ≡ false → Stands h t
  pub spreads : Spreads h t

stands_spreads : (h : Bool) (t : ExprTree) → is_binary_tree t ≡ false → Stands h t → Spreads h t
stands_spreads h (Binary e os) q s = absurd (no (sym q))
stands_spreads h t q s = λ ss vs os ts m. s (A (Binaries h) ∷ ss) (os, vs) ts m

operand_ready : (h : Bool) (t : ExprTree) → is_binary_tree t ≡ false → Operates h t → Ready h t
operand_ready h t q f =
    let s : Stands h t = λ ss vs ts m. f no_link ss vs ts (linked_none h m) in
    record { operates = λ e. f; stands = λ e. s; spreads = stands_spreads h t q s }

other_ready : (h : Bool) (t : ExprTree) → is_binary_tree t ≡ false → is_operand t ≡ false → Stands h t → Ready h t
other_ready h t q n s = record { operates = λ e. absurd (no (sym n ∙ e)); stands = λ e. s; spreads = stands_spreads h t q s }

chain-links : (e : ExprTree) (ls : LinkTrees) → ls ≢ no_link → chain e ls ≡ Chain e ls
chain-links e no_link n = absurd (n refl)
chain-links e (selector d m ls) n = refl
chain-links e (index o f c ls) n = refl
chain-links e (call o xs c ls) n = refl

binary_parts : (e : ExprTree) (os : OperandTrees) → IsExpr (Binary e os) → IsExpr e × ((k : ℕ) × AreOperands k os)
unfolding IsExpr
binary_parts e no_operand w = absurd w
binary_parts e (operand op p f os) w = (w.1, (strength op, w.2))

expr_of : (h : Bool) (e : ExprTree) → IsExpr e → Ready h e → MakesExpr h e
expr_of h e w r ss vs ts m = rule untested (unary_of (r.spreads ss vs no_operand ts (rule (below untested) m refl))) (ap (λ x. (x, vs)) (grouped-tail_of e w))

mutual
  unfolding IsExpr expr_tokens HasNoNamedLiteral

  pub ready : (t : ExprTree) (h : Bool) → IsExpr t → (h ≡ true → HasNoNamedLiteral t) → Ready h t
  ready (Number n) h w u = operand_ready h (Number n) refl (λ ls ss vs ts k. by_operand (rule (below (below tested)) (one refl k.links) refl))
  ready (Text n) h w u = operand_ready h (Text n) refl (λ ls ss vs ts k. by_operand (rule (below (below tested)) (one refl k.links) refl))
  ready (Blank n) h w u = operand_ready h (Blank n) refl (λ ls ss vs ts k. by_operand (rule (below (below tested)) (one refl k.links) refl))
  ready (Name n) h w u = operand_ready h (Name n) refl (λ ls ss vs ts k. by_name n (λ x. chain (Name x) ls) ts refl refl k.after_name)
  ready (Composite (literal t o es c)) h w u = operand_ready h (Composite (literal t o es c)) refl (literal_starts h t o es c w.0 u (elements es w.1))
  ready (Paren o e c) h w u =
      let f = expr_of false e w (ready e false w (λ q. absurd (no q))) in
      operand_ready h (Paren o e c) refl (λ ls ss vs ts k. by_operand (rule (below (below (below tested))) (opens refl
      (along (append_assoc (expr_tokens e) (sign kind.RightParen c ∷ []) ts) (f _ _ _ (one refl (closes k.links))))) refl))
  ready (Prefix op p e) h w u =
      let r = ready e h w.1 u in
      other_ready h (Prefix op p e) refl refl (λ ss vs ts m.
      by_operand (rule tested (opens (prefix_fits op) (unary_of (r.stands w.0 (Close ∷ ss) vs ts (closes m))))
      (ap (λ x. (Prefix x p e, vs)) (prefix_back op))))
  ready (Address p (literal t o es c)) h w u =
      let f = elements es w.1 in
      other_ready h (Address p (literal t o es c)) refl refl
      (λ ss vs ts m. by_operand (rule (below tested) (opens refl (addressed h t o es c w.0 u f (closes m))) refl))
  ready (Chain e ls) h w u =
      let r = ready e h w.2 u in
      let l = links ls h w.3 in
      other_ready h (Chain e ls) refl refl (λ ss vs ts m. starts_as (chain-links e ls w.1)
      (starts_along (append_assoc (expr_tokens e) (link_tokens ls) ts) (r.operates w.0 ls ss vs (link_tokens ls ++ ts) (l ss vs ts m))))
  ready (Binary e os) h w u =
      let v = binary_parts e os w in
      let r = ready e h v.0 (λ q. (u q).0) in
      let f = operands os h v.1.0 v.1.1 (λ q. (u q).1) in
      record {
        operates = λ q. absurd (no q);
        stands = λ q. absurd (no (sym q));
        spreads = λ ss vs more ts m. starts_along (append_assoc (expr_tokens e) (operand_tokens os) ts)
            (r.spreads ss vs (spread os more) (operand_tokens os ++ ts) (f ss vs more ts m));
      }

  operands : (os : OperandTrees) (h : Bool) (k : ℕ) → AreOperands k os → (h ≡ true → HaveNoNamedLiteral os) →
      (ss : List GrammarSymbol) (vs : Values ss) (more : OperandTrees) (ts : List Token) → Made (A (Binaries h) ∷ ss) (more, vs) ts →
      Made (A (Binaries h) ∷ ss) (spread os more, vs) (operand_tokens os ++ ts)
  operands no_operand h k w u ss vs more ts m = m
  operands (operand op p e os) h k w u ss vs more ts m =
      let r = ready e h w.2 (λ q. (u q).0) in
      rule tested (one (binary_fits op) (along (append_assoc (expr_tokens e) (operand_tokens os) ts)
      (unary_of (r.spreads ss vs (spread os more) (operand_tokens os ++ ts) (operands os h k w.3 (λ q. (u q).1) ss vs more ts m)))))
      (ap (λ x. (operand x p (head_of e) (tail_of e (spread os more)), vs)) (binary_back op))

  links : (ls : LinkTrees) (h : Bool) → AreLinks ls → (ss : List GrammarSymbol) (vs : Values ss) (ts : List Token) → Made ss vs ts →
      Linked h ss vs ls (link_tokens ls ++ ts)
  links no_link h w ss vs ts m = linked_none h m
  links (selector d n ls) h w ss vs ts m = linked_selector h d n (links ls h w ss vs ts m)
  links (index o e c ls) h w ss vs ts m =
      let f = expr_of false e w.0 (ready e false w.0 (λ q. absurd (no q))) in
      linked_along (ap (λ x. sign kind.LeftBracket o ∷ x) (append_assoc (expr_tokens e) (sign kind.RightBracket c ∷ link_tokens ls) ts))
      (linked_index h o e c f (links ls h w.1 ss vs ts m))
  links (call o xs c ls) h w ss vs ts m =
      linked_along (ap (λ x. sign kind.LeftParen o ∷ x) (append_assoc (argument_tokens xs) (sign kind.RightParen c ∷ link_tokens ls) ts))
      (linked_call h o xs c (arguments xs w.0) (links ls h w.1 ss vs ts m))

  arguments : (xs : ArgumentTrees) → AreArguments xs → MakesArguments xs
  arguments no_argument w c ss vs ts m = rule tested (one refl m) refl
  arguments (argument e comma rest) w c ss vs ts m =
      let f = expr_of false e w.1 (ready e false w.1 (λ q. absurd (no q))) in
      along (append_assoc (expr_tokens e) (sign_if kind.Comma comma ++ argument_tokens rest) (sign kind.RightParen c ∷ ts)
      ∙ ap (λ x. expr_tokens e ++ x) (append_assoc (sign_if kind.Comma comma) (argument_tokens rest) (sign kind.RightParen c ∷ ts)))
      (rule (below untested) (f _ _ _ (more_arguments comma rest c w.0 (arguments rest w.2) m)) refl)

  elements : (es : ElementTrees) → AreElements es → MakesElements es
  elements no_element w c ss vs ts m = rule tested (one refl m) refl
  elements (element None e comma rest) w c ss vs ts m =
      let r = ready e false w.1 (λ q. absurd (no q)) in
      let k = more_elements comma rest c w.0 (elements rest w.2) m in
      along (append_assoc (expr_tokens e) (sign_if kind.Comma comma ++ element_tokens rest) (sign kind.RightBrace c ∷ ts)
      ∙ ap (λ x. expr_tokens e ++ x) (append_assoc (sign_if kind.Comma comma) (element_tokens rest) (sign kind.RightBrace c ∷ ts)))
      (rule (below untested) (element_of (r.spreads _ _ no_operand _ (rule (below untested) k refl)))
      (ap (λ x. ((element None x comma rest, c), vs)) (grouped-tail_of e w.1)))
  elements (element (Some key) e comma rest) w c ss vs ts m =
      let f = expr_of false e w.1 (ready e false w.1 (λ q. absurd (no q))) in
      let k = more_elements comma rest c w.0 (elements rest w.2) m in
      along (ap (λ x. sign kind.Name key.0 ∷ sign kind.Colon key.1 ∷ x)
      (append_assoc (expr_tokens e) (sign_if kind.Comma comma ++ element_tokens rest) (sign kind.RightBrace c ∷ ts)
      ∙ ap (λ x. expr_tokens e ++ x) (append_assoc (sign_if kind.Comma comma) (element_tokens rest) (sign kind.RightBrace c ∷ ts))))
      (rule (below untested) (rule tested (one refl (rule tested (one refl (f _ _ _ k)) refl)) refl) refl)

pub made_expr : (h : Bool) (e : ExprTree) → IsExprIn h e → MakesExpr h e
made_expr h e w = expr_of h e w.grouped (ready e h w.grouped w.unnamed)
