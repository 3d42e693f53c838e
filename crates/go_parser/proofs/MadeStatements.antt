-- Each well-formed statement is derived, and its derivation builds it.
use Rattle.std.proofs.Common.{ℕ, ◌≡◌, ◌≢◌, Bool, true, false, List, [], ◌∷◌, ◌++◌, Option, Some, None, refl, ap, sym, ◌∙◌, append_assoc}
use Rattle.std.specs.List.{All}
use Rattle.std.specs.Option.{IsSome}
use Rattle.go_ast.specs.declared.syntax.Kind.{Kind}
use Rattle.go_ast.specs.declared.syntax.Kind.TheVariants as kind
use Rattle.go_ast.specs.declared.syntax.Token.{Token}
use Rattle.go_ast.specs.declared.syntax.StepOp.{StepOp}
use Rattle.go_ast.specs.declared.syntax.StepOp.TheVariants as step
use Rattle.go_ast.specs.declared.syntax.UpdateOp.{UpdateOp}
use Rattle.go_ast.specs.declared.syntax.UpdateOp.TheVariants as update
use Rattle.go_ast.specs.Grammar.{GrammarSymbol, One, A, is_ident, is_step, is_update, may_set}
use Rattle.go_ast.specs.Grammar.{Setting, Plain, Head, Post, in_head, LocalItem, Single, MoreIdents}
use Rattle.go_ast.specs.Grammar.{LocalRest, LocalValues, Expressions, MoreExpressions, SimpleRest}
use Rattle.go_ast.specs.Language.{tested, untested, below}
use Rattle.go_ast.specs.Tree.{Item, IdentTree, Named, Underscore, TypeTree, ExprTree, SimpleTree, Alone, Step, Update, Assign, Define, LocalTree}
use Rattle.go_ast.specs.Flatten.{sign, sign_if, step_kind, update_kind, tokens_if, all_tokens, list_tokens, ident_tokens, exprs_tokens, value_tokens}
use Rattle.go_ast.specs.Flatten.{type_tokens, expr_tokens, simple_tokens, local_tokens}
use Rattle.go_ast.specs.WellFormed.{Any, IsNoneOr, IsList, IsExprIn, IsSimple, IsPost, IsLocal}
use Rattle.go_parser.proofs.Predictive.{no}
use Rattle.go_parser.proofs.Values.{step_op, update_op, ident, set_by}
use Rattle.go_parser.proofs.OneValue.{Values}
use Rattle.go_parser.proofs.Made.{Made, one, rule, along, made_type}
use Rattle.go_parser.proofs.MadeExprs.{made_expr}
use Rattle.go_parser.proofs.MadeLists.{Behind, apart, behind_item, joined_more, with_separator}
use Rattle.go_parser.proofs.FormedParts.{head_of, tail_of}

-- lists of expressions

pub made_exprs : (h : Bool) (es : List (Item ExprTree)) → IsList (IsExprIn h) es → (ss : List GrammarSymbol) (vs : Values ss) (ts : List Token) →
    Made ss vs ts →
    Made (A (Expressions h) ∷ ss) (es, vs) (exprs_tokens es ++ ts)
unfolding all_tokens
made_exprs h [] w ss vs ts m = absurd w.some
made_exprs h (x ∷ xs) w ss vs ts m =
    along (apart (expr_tokens x.value) (sign_if kind.Comma x.separator) (list_tokens kind.Comma expr_tokens xs) ts)
    (rule untested (made_expr h x.value (head_of (λ x. IsExprIn h x.value) x xs w.each) _ _ _
    (joined_more (IsExprIn h) expr_tokens (λ g us. Made (A (MoreExpressions h) ∷ ss) (g, vs) us) ts
    (rule (below untested) m refl)
    (λ p y v g us n. rule tested (one refl (made_expr h y v _ _ _ n)) refl)
    x.separator xs (behind_item x xs w.joined) (tail_of (λ x. IsExprIn h x.value) x xs w.each)))
    refl)

-- simple statements

step_fits : (op : StepOp) → is_step (step_kind op) ≡ true
step_fits step.Increment = refl
step_fits step.Decrement = refl

step_back : (op : StepOp) → step_op (step_kind op) ≡ op
step_back step.Increment = refl
step_back step.Decrement = refl

update_fits : (op : UpdateOp) → is_update (update_kind op) ≡ true
update_fits update.Add = refl
update_fits _ = refl

update_back : (op : UpdateOp) → update_op (update_kind op) ≡ op
update_back update.Add = refl
update_back _ = refl

-- a simple statement with these tokens: its first expression, and the tokens after that
pub record Spoken (s : Setting) (ss : List GrammarSymbol) (vs : Values ss) (t : SimpleTree) (ts : List Token) : Type 0 where
  pub e : ExprTree
  pub proper : IsExprIn (in_head s) e
  pub others : List Token
  pub same : ts ≡ expr_tokens e ++ others
  pub rest : ExprTree → SimpleTree
  pub made : Made (A (SimpleRest s) ∷ ss) (rest, vs) others
  pub says : rest e ≡ t

-- the positions at which a statement is allowed
abbrev pub IsSimpleAt : Setting → SimpleTree → Type 0
IsSimpleAt Plain t = IsSimple false t
IsSimpleAt Head t = IsSimple true t
IsSimpleAt Post t = IsPost t

simple_at : (s : Setting) (t : SimpleTree) → IsSimpleAt s t → IsSimple (in_head s) t
simple_at Plain t w = w
simple_at Head t w = w
simple_at Post (Alone e) w = w
simple_at Post (Step e op p) w = w
simple_at Post (Update e op p f) w = w
simple_at Post (Assign es p fs) w = w
simple_at Post (Define es p fs) w = absurd w

sets_assign : (s : Setting) → may_set s kind.Assign ≡ true
sets_assign Plain = refl
sets_assign Head = refl
sets_assign Post = refl

sets_define : (s : Setting) (es fs : List (Item ExprTree)) (p : ℕ) → IsSimpleAt s (Define es p fs) → may_set s kind.Define ≡ true
sets_define Plain es fs p w = refl
sets_define Head es fs p w = refl
sets_define Post es fs p w = absurd w

set_tokens_apart : (e : ExprTree) (c : Option ℕ) (es fs : List (Item ExprTree)) (t : Token) (ts : List Token) →
    (exprs_tokens (with_separator e c ∷ es) ++ (t ∷ exprs_tokens fs)) ++ ts ≡ expr_tokens e ++
    (sign_if kind.Comma c ++ (exprs_tokens es ++ (t ∷ (exprs_tokens fs ++ ts))))
unfolding all_tokens
set_tokens_apart e c es fs t ts =
    append_assoc (exprs_tokens (with_separator e c ∷ es)) (t ∷ exprs_tokens fs) ts
    ∙ apart (expr_tokens e) (sign_if kind.Comma c) (exprs_tokens es) (t ∷ (exprs_tokens fs ++ ts))

set_more : (s : Setting) (k : Kind) (p : ℕ) → may_set s k ≡ true → (x : ExprTree) (c : Option ℕ) (es fs : List (Item ExprTree)) → IsExprIn (in_head s) x →
    IsSome c →
    IsList (IsExprIn (in_head s)) es → IsList (IsExprIn (in_head s)) fs → (ss : List GrammarSymbol) (vs : Values ss) (ts : List Token) → Made ss vs ts →
    Spoken s ss vs (set_by (sign k p) (with_separator x c ∷ es) fs) ((exprs_tokens (with_separator x c ∷ es) ++ (sign k p ∷ exprs_tokens fs)) ++ ts)
set_more s k p a x None es fs u i v w ss vs ts m = absurd (no i)
set_more s k p a x (Some c) es fs u i v w ss vs ts m = record {
  e = x;
  proper = u;
  others = sign kind.Comma c ∷ (exprs_tokens es ++ (sign k p ∷ (exprs_tokens fs ++ ts)));
  same = set_tokens_apart x (Some c) es fs (sign k p) ts;
  rest = λ e. set_by (sign k p) (with_separator e (Some c) ∷ es) fs;
  made = rule (below (below (below tested))) (one refl (made_exprs (in_head s) es v _ _ _ (one a (made_exprs (in_head s) fs w ss vs ts m)))) refl;
  says = refl;
}

set_starts : (s : Setting) (k : Kind) (p : ℕ) → may_set s k ≡ true → (es fs : List (Item ExprTree)) →
    IsList (IsExprIn (in_head s)) es → IsList (IsExprIn (in_head s)) fs → (ss : List GrammarSymbol) (vs : Values ss) (ts : List Token) → Made ss vs ts →
    Spoken s ss vs (set_by (sign k p) es fs) ((exprs_tokens es ++ (sign k p ∷ exprs_tokens fs)) ++ ts)
unfolding all_tokens
set_starts s k p a [] fs v w ss vs ts m = absurd v.some
set_starts s k p a (x ∷ []) fs v w ss vs ts m = record {
  e = x.value;
  proper = head_of (λ x. IsExprIn (in_head s) x.value) x [] v.each;
  others = sign k p ∷ (exprs_tokens fs ++ ts);
  same = set_tokens_apart x.value x.separator [] fs (sign k p) ts ∙
      ap (λ c. expr_tokens x.value ++ (sign_if kind.Comma c ++ (sign k p ∷ (exprs_tokens fs ++ ts)))) v.joined;
  rest = λ e. set_by (sign k p) (with_separator e None ∷ []) fs;
  made = rule (below (below tested)) (one a (made_exprs (in_head s) fs w ss vs ts m)) refl;
  says = ap (λ c. set_by (sign k p) (with_separator x.value c ∷ []) fs) (sym v.joined);
}
set_starts s k p a (x ∷ (y ∷ ys)) fs v w ss vs ts m =
    set_more s k p a x.value x.separator (y ∷ ys) fs (head_of (λ x. IsExprIn (in_head s) x.value) x (y ∷ ys) v.each) v.joined.0
    (record { some = tt; joined = v.joined.1; each = tail_of (λ x. IsExprIn (in_head s) x.value) x (y ∷ ys) v.each }) w ss vs ts m

pub speaks : (s : Setting) (t : SimpleTree) → IsSimpleAt s t → (ss : List GrammarSymbol) (vs : Values ss) (ts : List Token) → Made ss vs ts →
    Spoken s ss vs t (simple_tokens t ++ ts)
unfolding simple_tokens
speaks s (Alone e) w ss vs ts m = record {
  e = e;
  proper = simple_at s (Alone e) w;
  others = ts;
  same = refl;
  rest = λ e. Alone e;
  made = rule (below (below (below (below untested)))) m refl;
  says = refl;
}
speaks s (Step e op p) w ss vs ts m = record {
  e = e;
  proper = simple_at s (Step e op p) w;
  others = sign (step_kind op) p ∷ ts;
  same = append_assoc (expr_tokens e) (sign (step_kind op) p ∷ []) ts;
  rest = λ e. Step e (step_op (step_kind op)) p;
  made = rule tested (one (step_fits op) m) refl;
  says = ap (λ o. Step e o p) (step_back op);
}
speaks s (Update e op p f) w ss vs ts m =
    let v = simple_at s (Update e op p f) w in
    record {
      e = e;
      proper = v.0;
      others = sign (update_kind op) p ∷ (expr_tokens f ++ ts);
      same = append_assoc (expr_tokens e) (sign (update_kind op) p ∷ expr_tokens f) ts;
      rest = λ e. Update e (update_op (update_kind op)) p f;
      made = rule (below tested) (one (update_fits op) (made_expr (in_head s) f v.1 ss vs ts m)) refl;
      says = ap (λ o. Update e o p f) (update_back op);
    }
speaks s (Assign es p fs) w ss vs ts m =
    let v = simple_at s (Assign es p fs) w in set_starts s kind.Assign p (sets_assign s) es fs v.0 v.1 ss vs ts m
speaks s (Define es p fs) w ss vs ts m =
    let v = simple_at s (Define es p fs) w in set_starts s kind.Define p (sets_define s es fs p w) es fs v.0 v.1 ss vs ts m

-- names, and local variables

abbrev pub ident_token : IdentTree → Token
ident_token (Named n) = sign kind.Name n
ident_token (Underscore n) = sign kind.Blank n

pub one_ident : (x : IdentTree) {ss : List GrammarSymbol} {vs : Values ss} {ts : List Token} → Made ss vs ts →
    Made (One is_ident ∷ ss) (ident_token x, vs) (ident_tokens x ++ ts)
one_ident (Named n) m = one refl m
one_ident (Underscore n) m = one refl m

pub ident_back : (x : IdentTree) → ident (ident_token x) ≡ x
ident_back (Named n) = refl
ident_back (Underscore n) = refl

pub more_idents : (s : Option ℕ) (xs : List (Item IdentTree)) → Behind s xs → All (λ x. Any x.value) xs →
    {ss : List GrammarSymbol} {vs : Values ss} {ts : List Token} → Made ss vs ts →
    Made (A MoreIdents ∷ ss) ((λ x. with_separator x s ∷ xs), vs) (sign_if kind.Comma s ++ (list_tokens kind.Comma ident_tokens xs ++ ts))
more_idents s xs b a {ss = ss} {vs = vs} {ts = ts} m =
    joined_more Any ident_tokens (λ g us. Made (A MoreIdents ∷ ss) (g, vs) us) ts
    (rule (below untested) m refl)
    (λ p y v g us n. rule tested (one refl (one_ident y n)) (ap (λ z. ((λ x. with_separator x (Some p) ∷ g z), vs)) (ident_back y)))
    s xs b a

local_values : (v : Option (ℕ × List (Item ExprTree))) → IsNoneOr (λ v. IsList (IsExprIn false) v.1) v →
    {ss : List GrammarSymbol} {vs : Values ss} {ts : List Token} → Made ss vs ts →
    Made (A LocalValues ∷ ss) (v, vs) (tokens_if (value_tokens expr_tokens) v ++ ts)
local_values None w m = rule (below untested) m refl
local_values (Some v) w m = rule tested (one refl (made_exprs false v.1 w _ _ _ m)) refl

local_rest : (t : Option TypeTree) (v : Option (ℕ × List (Item ExprTree))) → (t ≡ None → v ≢ None) → IsNoneOr (λ v. IsList (IsExprIn false) v.1) v →
    {ss : List GrammarSymbol} {vs : Values ss} {ts : List Token} → Made ss vs ts →
    Made (A LocalRest ∷ ss) ((t, v), vs) (tokens_if type_tokens t ++ (tokens_if (value_tokens expr_tokens) v ++ ts))
local_rest (Some t) v q w m = rule (below untested) (made_type t (local_values v w m)) refl
local_rest None None q w m = absurd (q refl refl)
local_rest None (Some v) q w m = rule tested (one refl (made_exprs false v.1 w _ _ _ m)) refl

local_names : (xs : List (Item IdentTree)) (t : Option TypeTree) (v : Option (ℕ × List (Item ExprTree))) → IsList Any xs → (t ≡ None → v ≢ None) →
    IsNoneOr (λ v. IsList (IsExprIn false) v.1) v → (ss : List GrammarSymbol) (vs : Values ss) (ts : List Token) → Made ss vs ts →
    Made (A (Single LocalItem) ∷ ss) (record { names = xs; type_use = t; values = v }, vs)
    ((list_tokens kind.Comma ident_tokens xs ++ (tokens_if type_tokens t ++ tokens_if (value_tokens expr_tokens) v)) ++ ts)
unfolding all_tokens
local_names [] t v w q u ss vs ts m = absurd w.some
local_names (x ∷ xs) t v w q u ss vs ts m =
    let a : List Token = tokens_if type_tokens t in
    let b : List Token = tokens_if (value_tokens expr_tokens) v in
    along (append_assoc (list_tokens kind.Comma ident_tokens (x ∷ xs)) (a ++ b) ts
    ∙ (ap (λ z. list_tokens kind.Comma ident_tokens (x ∷ xs) ++ z) (append_assoc a b ts)
    ∙ apart (ident_tokens x.value) (sign_if kind.Comma x.separator) (list_tokens kind.Comma ident_tokens xs) (a ++ (b ++ ts))))
    (rule untested (one_ident x.value (more_idents x.separator xs (behind_item x xs w.joined) (tail_of (λ x. Any x.value) x xs w.each) (local_rest t v q u m)))
    (ap (λ z. (record { names = with_separator z x.separator ∷ xs; type_use = t; values = v }, vs)) (ident_back x.value)))

pub made_local : (l : LocalTree) → IsLocal l → (ss : List GrammarSymbol) (vs : Values ss) (ts : List Token) → Made ss vs ts →
    Made (A (Single LocalItem) ∷ ss) (l, vs) (local_tokens l ++ ts)
unfolding local_tokens
made_local l w ss vs ts m = local_names l.names l.type_use l.values w.names w.told w.values ss vs ts m
