-- Each well-formed file is derived, and its derivation builds it.
use Rattle.std.proofs.Common.{ℕ, ◌≡◌, List, [], ◌∷◌, ◌++◌, Option, Some, None, refl, ap, ◌∙◌, append_assoc}
use Rattle.std.specs.List.{All}
use Rattle.go_ast.specs.declared.syntax.Kind.TheVariants as kind
use Rattle.go_ast.specs.declared.syntax.Token.{Token}
use Rattle.go_ast.specs.Grammar.{GrammarSymbol, One, Close, A, is, is_literal, ImportItem, GlobalItem, TypeItem, Single, File, Imports, Tops, MoreNames}
use Rattle.go_ast.specs.Grammar.{GlobalValues, MoreLiterals, TypeBody, Fields, MoreFields, Methods}
use Rattle.go_ast.specs.Grammar.{MoreMethods, FuncHead, ReceiverStar, ReceiverEnd, Signature, Params}
use Rattle.go_ast.specs.Grammar.{MoreParams, Result, Types, MoreTypes}
use Rattle.go_ast.specs.Language.{tested, untested, below}
use Rattle.go_ast.specs.Tree.{Item, IdentTree, BasicTree, Integer, String, TypeTree, BlockTree, ImportTree, GlobalTree, FieldTree, BodyTree, Other, Struct}
use Rattle.go_ast.specs.Tree.{Interface, MethodTree, TypeSpecTree, ReceiverTree, ParamTree, ResultTree}
use Rattle.go_ast.specs.Tree.{no_result, one_result, results, FuncTree, ImportsTree, DeclTree, VarDecl}
use Rattle.go_ast.specs.Tree.{TypeDecl, FuncDecl, FileTree}
use Rattle.go_ast.specs.Flatten.{sign, sign_if, tokens_if, all_tokens, list_tokens, group_tokens, name_tokens, ident_tokens, basic_tokens, value_tokens}
use Rattle.go_ast.specs.Flatten.{type_tokens, block_tokens, import_tokens, global_tokens, field_tokens, body_tokens, type_spec_tokens, receiver_tokens}
use Rattle.go_ast.specs.Flatten.{param_tokens, method_tokens, result_tokens, func_tokens, imports_tokens, decl_tokens, flatten}
use Rattle.go_ast.specs.WellFormed.{Any, IsNoneOr, IsList, IsGlobal, IsField, IsBody, IsTypeSpec, IsParam, IsOpenList, IsResult, IsFunc, IsBlock, IsImports}
use Rattle.go_ast.specs.WellFormed.{IsMethodSpec, IsDecl, IsFile}
use Rattle.go_parser.proofs.Values.{basic}
use Rattle.go_parser.proofs.OneValue.{Values}
use Rattle.go_parser.proofs.Made.{Made, one, opens, closes, rule, along, made_type}
use Rattle.go_parser.proofs.MadeLists.{Behind, apart, behind_item, joined_more, open_list, made_group, with_separator}
use Rattle.go_parser.proofs.MadeStatements.{one_ident, ident_back, more_idents}
use Rattle.go_parser.proofs.MadeBlocks.{made_block}
use Rattle.go_parser.proofs.FormedParts.{head_of, tail_of}

-- imports

import_of : (name : Option ℕ) (path : ℕ) (ss : List GrammarSymbol) (vs : Values ss) (ts : List Token) → Made ss vs ts →
    Made (A (Single ImportItem) ∷ ss) (record { name = name; path = path }, vs) ((sign_if kind.Name name ++ (sign kind.Text path ∷ [])) ++ ts)
import_of None path ss vs ts m = rule (below untested) (one refl m) refl
import_of (Some n) path ss vs ts m = rule tested (one refl (one refl m)) refl

made_import : (i : ImportTree) → Any i → (ss : List GrammarSymbol) (vs : Values ss) (ts : List Token) → Made ss vs ts →
    Made (A (Single ImportItem) ∷ ss) (i, vs) (import_tokens i ++ ts)
unfolding import_tokens
made_import i w ss vs ts m = import_of i.name i.path ss vs ts m

-- names and values

more_names : (s : Option ℕ) (xs : List (Item ℕ)) → Behind s xs → All (λ x. Any x.value) xs → {ss : List GrammarSymbol} {vs : Values ss} {ts : List Token} →
    Made ss vs ts →
    Made (A MoreNames ∷ ss) ((λ x. with_separator x s ∷ xs), vs) (sign_if kind.Comma s ++ (list_tokens kind.Comma name_tokens xs ++ ts))
more_names s xs b a {ss = ss} {vs = vs} {ts = ts} m =
    joined_more Any name_tokens (λ g us. Made (A MoreNames ∷ ss) (g, vs) us) ts
    (rule (below untested) m refl)
    (λ p y v g us n. rule tested (one refl (one refl n)) refl)
    s xs b a

abbrev basic_token : BasicTree → Token
basic_token (Integer n) = sign kind.Number n
basic_token (String n) = sign kind.Text n

one_basic : (x : BasicTree) {ss : List GrammarSymbol} {vs : Values ss} {ts : List Token} → Made ss vs ts →
    Made (One is_literal ∷ ss) (basic_token x, vs) (basic_tokens x ++ ts)
one_basic (Integer n) m = one refl m
one_basic (String n) m = one refl m

basic_back : (x : BasicTree) → basic (basic_token x) ≡ x
basic_back (Integer n) = refl
basic_back (String n) = refl

more_literals : (s : Option ℕ) (xs : List (Item BasicTree)) → Behind s xs → All (λ x. Any x.value) xs →
    {ss : List GrammarSymbol} {vs : Values ss} {ts : List Token} → Made ss vs ts →
    Made (A MoreLiterals ∷ ss) ((λ x. with_separator x s ∷ xs), vs) (sign_if kind.Comma s ++ (list_tokens kind.Comma basic_tokens xs ++ ts))
more_literals s xs b a {ss = ss} {vs = vs} {ts = ts} m =
    joined_more Any basic_tokens (λ g us. Made (A MoreLiterals ∷ ss) (g, vs) us) ts
    (rule (below untested) m refl)
    (λ p y v g us n. rule tested (one refl (one_basic y n)) (ap (λ z. ((λ x. with_separator x (Some p) ∷ g z), vs)) (basic_back y)))
    s xs b a

global_list : (p : ℕ) (xs : List (Item BasicTree)) → IsList Any xs → {ss : List GrammarSymbol} {vs : Values ss} {ts : List Token} → Made ss vs ts →
    Made (A GlobalValues ∷ ss) (Some (p, xs), vs) (sign kind.Assign p ∷ (list_tokens kind.Comma basic_tokens xs ++ ts))
unfolding all_tokens
global_list p [] w m = absurd w.some
global_list p (x ∷ xs) w {vs = vs} {ts = ts} m =
    along (ap (λ z. sign kind.Assign p ∷ z) (apart (basic_tokens x.value) (sign_if kind.Comma x.separator) (list_tokens kind.Comma basic_tokens xs) ts))
    (rule tested (one refl (one_basic x.value (more_literals x.separator xs (behind_item x xs w.joined) (tail_of (λ x. Any x.value) x xs w.each) m)))
    (ap (λ z. (Some (p, with_separator z x.separator ∷ xs), vs)) (basic_back x.value)))

global_values : (v : Option (ℕ × List (Item BasicTree))) → IsNoneOr (λ v. IsList Any v.1) v → {ss : List GrammarSymbol} {vs : Values ss} {ts : List Token} →
    Made ss vs ts →
    Made (A GlobalValues ∷ ss) (v, vs) (tokens_if (value_tokens basic_tokens) v ++ ts)
global_values None w m = rule (below untested) m refl
global_values (Some v) w m = global_list v.0 v.1 w m

global_names : (xs : List (Item ℕ)) (t : TypeTree) (v : Option (ℕ × List (Item BasicTree))) → IsList Any xs → IsNoneOr (λ v. IsList Any v.1) v →
    (ss : List GrammarSymbol) (vs : Values ss) (ts : List Token) → Made ss vs ts →
    Made (A (Single GlobalItem) ∷ ss) (record { names = xs; type_use = t; values = v }, vs)
    ((list_tokens kind.Comma name_tokens xs ++ (type_tokens t ++ tokens_if (value_tokens basic_tokens) v)) ++ ts)
unfolding all_tokens
global_names [] t v w u ss vs ts m = absurd w.some
global_names (x ∷ xs) t v w u ss vs ts m =
    let b : List Token = tokens_if (value_tokens basic_tokens) v in
    along (append_assoc (list_tokens kind.Comma name_tokens (x ∷ xs)) (type_tokens t ++ b) ts
    ∙ (ap (λ z. list_tokens kind.Comma name_tokens (x ∷ xs) ++ z) (append_assoc (type_tokens t) b ts)
    ∙ apart (name_tokens x.value) (sign_if kind.Comma x.separator) (list_tokens kind.Comma name_tokens xs) (type_tokens t ++ (b ++ ts))))
    (rule untested (one refl (more_names x.separator xs (behind_item x xs w.joined) (tail_of (λ x. Any x.value) x xs w.each)
    (made_type t (global_values v u m)))) refl)

made_global : (g : GlobalTree) → IsGlobal g → (ss : List GrammarSymbol) (vs : Values ss) (ts : List Token) → Made ss vs ts →
    Made (A (Single GlobalItem) ∷ ss) (g, vs) (global_tokens g ++ ts)
unfolding global_tokens
made_global g w ss vs ts m = global_names g.names g.type_use g.values w.names w.values ss vs ts m

-- types

field_names : (xs : List (Item ℕ)) (t : TypeTree) → IsList Any xs →
    {ss : List GrammarSymbol} {vs : Values ss} {g : FieldTree → List (Item FieldTree) × ℕ} {ts : List Token} →
    Made (A MoreFields ∷ ss) (g, vs) ts → Made (A Fields ∷ ss) (g (record { names = xs; type_use = t }), vs)
    ((list_tokens kind.Comma name_tokens xs ++ type_tokens t) ++ ts)
unfolding all_tokens
field_names [] t w m = absurd w.some
field_names (x ∷ xs) t w {ts = ts} m =
    along (append_assoc (list_tokens kind.Comma name_tokens (x ∷ xs)) (type_tokens t) ts
    ∙ apart (name_tokens x.value) (sign_if kind.Comma x.separator) (list_tokens kind.Comma name_tokens xs) (type_tokens t ++ ts))
    (rule (below untested) (one refl (more_names x.separator xs (behind_item x xs w.joined) (tail_of (λ x. Any x.value) x xs w.each) (made_type t m))) refl)

-- functions

param_names : (xs : List (Item IdentTree)) (t : TypeTree) → IsList Any xs →
    {ss : List GrammarSymbol} {vs : Values ss} {g : ParamTree → List (Item ParamTree) × ℕ} {ts : List Token} →
    Made (A MoreParams ∷ ss) (g, vs) ts → Made (A Params ∷ ss) (g (record { names = xs; type_use = t }), vs)
    ((list_tokens kind.Comma ident_tokens xs ++ type_tokens t) ++ ts)
unfolding all_tokens
param_names [] t w m = absurd w.some
param_names (x ∷ xs) t w {vs = vs} {g = g} {ts = ts} m =
    along (append_assoc (list_tokens kind.Comma ident_tokens (x ∷ xs)) (type_tokens t) ts
    ∙ apart (ident_tokens x.value) (sign_if kind.Comma x.separator) (list_tokens kind.Comma ident_tokens xs) (type_tokens t ++ ts))
    (rule (below untested) (one_ident x.value (more_idents x.separator xs (behind_item x xs w.joined) (tail_of (λ x. Any x.value) x xs w.each)
    (made_type t m)))
    (ap (λ z. (g (record { names = with_separator z x.separator ∷ xs; type_use = t }), vs)) (ident_back x.value)))

made_params : (ps : List (Item ParamTree)) (c : ℕ) → IsOpenList IsParam ps → {ss : List GrammarSymbol} {vs : Values ss} {ts : List Token} → Made ss vs ts →
    Made (A Params ∷ Close ∷ ss) ((ps, c), vs) (list_tokens kind.Comma param_tokens ps ++ (sign kind.RightParen c ∷ ts))
unfolding param_tokens
made_params ps c w {ss = ss} {vs = vs} {ts = ts} m =
    open_list IsParam param_tokens kind.Comma c
    (λ r us. Made (A Params ∷ Close ∷ ss) (r, vs) us) (λ g us. Made (A MoreParams ∷ Close ∷ ss) (g, vs) us) (sign kind.RightParen c ∷ ts)
    (rule tested (one refl (closes m)) refl)
    (λ x h g us n. param_names x.names x.type_use h n)
    (λ p ys us n. rule tested (one refl n) refl)
    (rule (below untested) (one refl (closes m)) refl)
    ps w.separated w.each

-- one result, by what its type begins with
one_type : (t : TypeTree) {ss : List GrammarSymbol} {vs : Values ss} {ts : List Token} → Made ss vs ts →
    Made (A Result ∷ ss) (one_result t, vs) (type_tokens t ++ ts)
one_type t m = rule (below tested) (made_type t m) refl

made_result : (r : ResultTree) → IsResult r → {ss : List GrammarSymbol} {vs : Values ss} {ts : List Token} → Made ss vs ts →
    Made (A Result ∷ ss) (r, vs) (result_tokens r ++ ts)
unfolding result_tokens
made_result no_result w m = rule (below (below untested)) m refl
made_result (one_result t) w m = one_type t m
made_result (results o rs c) w {ss = ss} {vs = vs} {ts = ts} m =
    along (ap (λ z. sign kind.LeftParen o ∷ z) (append_assoc (list_tokens kind.Comma type_tokens rs) (sign kind.RightParen c ∷ []) ts))
    (rule tested (opens refl
    (open_list Any type_tokens kind.Comma c
    (λ r us. Made (A Types ∷ Close ∷ ss) (r, vs) us) (λ g us. Made (A MoreTypes ∷ Close ∷ ss) (g, vs) us) (sign kind.RightParen c ∷ ts)
    (rule tested (one refl (closes m)) refl)
    (λ x h g us n. rule (below untested) (made_type x n) refl)
    (λ p ys us n. rule tested (one refl n) refl)
    (rule (below untested) (one refl (closes m)) refl)
    rs w.separated w.each)) refl)

-- a method that an interface asks for, in front of others
made_method : (x : MethodTree) → IsMethodSpec x → {ss : List GrammarSymbol} {vs : Values ss} {g : MethodTree → List (Item MethodTree) × ℕ} {ts : List Token} →
    Made (A MoreMethods ∷ ss) (g, vs) ts → Made (A Methods ∷ ss) (g x, vs) (method_tokens x ++ ts)
unfolding method_tokens
made_method x h {ts = ts} m =
    let a : List Token = list_tokens kind.Comma param_tokens x.params in
    along (ap (λ z. sign kind.Name x.name ∷ sign kind.LeftParen x.lparen ∷ z) (append_assoc a (sign kind.RightParen x.rparen ∷ result_tokens x.result) ts))
    (rule (below untested) (one refl (opens refl (made_params x.params x.rparen h.params (made_result x.result h.result m)))) refl)

made_body : (b : BodyTree) → IsBody b → {ss : List GrammarSymbol} {vs : Values ss} {ts : List Token} → Made ss vs ts →
    Made (A TypeBody ∷ ss) (b, vs) (body_tokens b ++ ts)
unfolding body_tokens field_tokens
made_body (Other t) w m = rule (below (below untested)) (made_type t m) refl
made_body (Struct s o fs c) w {ss = ss} {vs = vs} {ts = ts} m =
    along (ap (λ z. sign kind.Struct s ∷ sign kind.LeftBrace o ∷ z)
    (append_assoc (list_tokens kind.Semicolon field_tokens fs) (sign kind.RightBrace c ∷ []) ts))
    (rule tested (one refl (opens refl
    (open_list IsField field_tokens kind.Semicolon c
    (λ r us. Made (A Fields ∷ Close ∷ ss) (r, vs) us) (λ g us. Made (A MoreFields ∷ Close ∷ ss) (g, vs) us) (sign kind.RightBrace c ∷ ts)
    (rule tested (one refl (closes m)) refl)
    (λ x h g us n. field_names x.names x.type_use h n)
    (λ p ys us n. rule tested (one refl n) refl)
    (rule (below untested) (one refl (closes m)) refl)
    fs w.separated w.each))) refl)
made_body (Interface s o ms c) w {ss = ss} {vs = vs} {ts = ts} m =
    along (ap (λ z. sign kind.Interface s ∷ sign kind.LeftBrace o ∷ z)
    (append_assoc (list_tokens kind.Semicolon method_tokens ms) (sign kind.RightBrace c ∷ []) ts))
    (rule (below tested) (one refl (opens refl
    (open_list IsMethodSpec method_tokens kind.Semicolon c
    (λ r us. Made (A Methods ∷ Close ∷ ss) (r, vs) us) (λ g us. Made (A MoreMethods ∷ Close ∷ ss) (g, vs) us) (sign kind.RightBrace c ∷ ts)
    (rule tested (one refl (closes m)) refl)
    (λ x h g us n. made_method x h n)
    (λ p ys us n. rule tested (one refl n) refl)
    (rule (below untested) (one refl (closes m)) refl)
    ms w.separated w.each))) refl)

made_type_spec : (t : TypeSpecTree) → IsTypeSpec t → (ss : List GrammarSymbol) (vs : Values ss) (ts : List Token) → Made ss vs ts →
    Made (A (Single TypeItem) ∷ ss) (t, vs) (type_spec_tokens t ++ ts)
unfolding type_spec_tokens
made_type_spec t w ss vs ts m = rule untested (one refl (made_body t.body w m)) refl

made_star : (s : Option ℕ) {ss : List GrammarSymbol} {vs : Values ss} {ts : List Token} → Made ss vs ts →
    Made (A ReceiverStar ∷ ss) (s, vs) (sign_if kind.Star s ++ ts)
made_star None m = rule (below untested) m refl
made_star (Some p) m = rule tested (one refl m) refl

made_end : (s : Option ℕ) (c : ℕ) {ss : List GrammarSymbol} {vs : Values ss} {ts : List Token} → Made ss vs ts →
    Made (A ReceiverEnd ∷ ss) ((s, c), vs) (sign_if kind.Comma s ++ (sign kind.RightParen c ∷ ts))
made_end None c m = rule (below untested) (one refl m) refl
made_end (Some p) c m = rule tested (one refl (one refl m)) refl

-- a function from its parameters on
signature : (lparen : ℕ) (ps : List (Item ParamTree)) (rparen : ℕ) (r : ResultTree) (b : BlockTree) → IsOpenList IsParam ps → IsResult r → IsBlock b →
    {ss : List GrammarSymbol} {vs : Values ss} {ts : List Token} → Made ss vs ts →
    Made (A Signature ∷ ss) ((λ receiver n. record { receiver = receiver; name = n; lparen = lparen; params = ps; rparen = rparen; result = r; body = b }), vs)
    (sign kind.LeftParen lparen ∷ (list_tokens kind.Comma param_tokens ps ++ (sign kind.RightParen rparen ∷ (result_tokens r ++ (block_tokens b ++ ts)))))
signature lparen ps rparen r b w u v m = rule untested (opens refl (made_params ps rparen w (made_result r u (made_block b v _ _ _ m)))) refl

func_head : (receiver : Option ReceiverTree) (n : ℕ) {ss : List GrammarSymbol} {vs : Values ss} {f : Option ReceiverTree → ℕ → FuncTree} {ts : List Token} →
    Made (A Signature ∷ ss) (f, vs) ts → Made (A FuncHead ∷ ss) (f receiver n, vs) (tokens_if receiver_tokens receiver ++ (sign kind.Name n ∷ ts))
unfolding receiver_tokens
func_head None n m = rule (below untested) (one refl m) refl
func_head (Some r) n {vs = vs} {f = f} {ts = ts} m =
    let e : List Token = sign kind.RightParen r.rparen ∷ [] in
    let k : List Token = sign kind.Name n ∷ ts in
    along (ap (λ z. sign kind.LeftParen r.lparen ∷ z) (
    append_assoc (ident_tokens r.name) (sign_if kind.Star r.star ++ (sign kind.Name r.type_name ∷ (sign_if kind.Comma r.comma ++ e))) k
    ∙ ap (λ z. ident_tokens r.name ++ z) (append_assoc (sign_if kind.Star r.star) (sign kind.Name r.type_name ∷ (sign_if kind.Comma r.comma ++ e)) k
    ∙ ap (λ z. sign_if kind.Star r.star ++ (sign kind.Name r.type_name ∷ z)) (append_assoc (sign_if kind.Comma r.comma) e k))))
    (rule tested (opens refl (one_ident r.name (made_star r.star (one refl (made_end r.comma r.rparen (closes (one refl m)))))))
    (ap (λ z. (f (Some (record { lparen = r.lparen; name = z; star = r.star; type_name = r.type_name; comma = r.comma; rparen = r.rparen })) n, vs))
    (ident_back r.name)))

made_func : (f : FuncTree) → IsFunc f → {ss : List GrammarSymbol} {vs : Values ss} {ts : List Token} → Made ss vs ts →
    Made (A FuncHead ∷ ss) (f, vs) (func_tokens f ++ ts)
unfolding func_tokens
made_func f w {ts = ts} m =
    let a : List Token = list_tokens kind.Comma param_tokens f.params in
    along (append_assoc (tokens_if receiver_tokens f.receiver)
    (sign kind.Name f.name ∷ sign kind.LeftParen f.lparen ∷ (a ++ (sign kind.RightParen f.rparen ∷ (result_tokens f.result ++ block_tokens f.body)))) ts
    ∙ ap (λ z. tokens_if receiver_tokens f.receiver ++ (sign kind.Name f.name ∷ sign kind.LeftParen f.lparen ∷ z))
    (append_assoc a (sign kind.RightParen f.rparen ∷ (result_tokens f.result ++ block_tokens f.body)) ts
    ∙ ap (λ z. a ++ (sign kind.RightParen f.rparen ∷ z)) (append_assoc (result_tokens f.result) (block_tokens f.body) ts)))
    (func_head f.receiver f.name (signature f.lparen f.params f.rparen f.result f.body w.params w.result w.body m))

-- files

made_decls : (ds : List DeclTree) → All IsDecl ds → {ss : List GrammarSymbol} {vs : Values ss} {ts : List Token} → Made ss vs ts →
    Made (A Tops ∷ ss) (ds, vs) (all_tokens decl_tokens ds ++ ts)
unfolding all_tokens decl_tokens
made_decls [] a m = rule (below (below (below untested))) m refl
made_decls (VarDecl k g s ∷ ds) a {ts = ts} m =
    let w = head_of IsDecl (VarDecl k g s) ds a in
    along (append_assoc (decl_tokens (VarDecl k g s)) (all_tokens decl_tokens ds) ts
    ∙ ap (λ z. sign kind.Var k ∷ z) (append_assoc (group_tokens global_tokens g) (sign kind.Semicolon s ∷ []) (all_tokens decl_tokens ds ++ ts)))
    (rule tested (one refl (made_group GlobalItem IsGlobal global_tokens made_global g w
    (one refl (made_decls ds (tail_of IsDecl (VarDecl k g s) ds a) m)))) refl)
made_decls (TypeDecl k g s ∷ ds) a {ts = ts} m =
    let w = head_of IsDecl (TypeDecl k g s) ds a in
    along (append_assoc (decl_tokens (TypeDecl k g s)) (all_tokens decl_tokens ds) ts
    ∙ ap (λ z. sign kind.TypeWord k ∷ z) (append_assoc (group_tokens type_spec_tokens g) (sign kind.Semicolon s ∷ []) (all_tokens decl_tokens ds ++ ts)))
    (rule (below tested) (one refl (made_group TypeItem IsTypeSpec type_spec_tokens made_type_spec g w
    (one refl (made_decls ds (tail_of IsDecl (TypeDecl k g s) ds a) m)))) refl)
made_decls (FuncDecl k f s ∷ ds) a {ts = ts} m =
    let w = head_of IsDecl (FuncDecl k f s) ds a in
    along (append_assoc (decl_tokens (FuncDecl k f s)) (all_tokens decl_tokens ds) ts
    ∙ ap (λ z. sign kind.Func k ∷ z) (append_assoc (func_tokens f) (sign kind.Semicolon s ∷ []) (all_tokens decl_tokens ds ++ ts)))
    (rule (below (below tested)) (one refl (made_func f w (one refl (made_decls ds (tail_of IsDecl (FuncDecl k f s) ds a) m)))) refl)

made_imports : (is : List ImportsTree) → All IsImports is → {ds : List DeclTree} {ss : List GrammarSymbol} {vs : Values ss} {ts : List Token} →
    Made (A Tops ∷ ss) (ds, vs) ts →
    Made (A Imports ∷ ss) ((is, ds), vs) (all_tokens imports_tokens is ++ ts)
unfolding all_tokens imports_tokens
made_imports [] a m = rule (below untested) m refl
made_imports (i ∷ is) a {ts = ts} m =
    along (append_assoc (imports_tokens i) (all_tokens imports_tokens is) ts
    ∙ ap (λ z. sign kind.Import i.keyword ∷ z) (append_assoc (group_tokens import_tokens i.imports) (sign kind.Semicolon i.semicolon ∷ [])
    (all_tokens imports_tokens is ++ ts)))
    (rule tested (one refl (made_group ImportItem Any import_tokens made_import i.imports (head_of IsImports i is a)
    (one refl (made_imports is (tail_of IsImports i is a) m)))) refl)

pub made_file : (f : FileTree) → IsFile f → {ss : List GrammarSymbol} {vs : Values ss} {ts : List Token} → Made ss vs ts →
    Made (A File ∷ ss) (f, vs) (flatten f ++ ts)
unfolding flatten
made_file f w {ts = ts} m =
    along (ap (λ z. sign kind.Package f.keyword ∷ sign kind.Name f.name ∷ sign kind.Semicolon f.semicolon ∷ z)
    (append_assoc (all_tokens imports_tokens f.imports) (all_tokens decl_tokens f.decls) ts))
    (rule untested (one refl (one refl (one refl (made_imports f.imports w.imports (made_decls f.decls w.decls m))))) refl)
