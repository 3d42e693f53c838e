-- The uses of members in expressions stand among their tokens.
use Rattle.std.proofs.Common.{ℕ, ◌≡◌, List, [], ◌∷◌, ◌++◌, Option, Some, None, Bool, true, false, append_assoc, append-nil, ap, sym, ◌∙◌, refl, subst}
use Rattle.std.proofs.Common.{if◌then◌else◌, ◌==◌, length}
use Rattle.go_ast.specs.declared.syntax.BinaryOp.{BinaryOp}
use Rattle.go_ast.specs.declared.syntax.PrefixOp.{PrefixOp}
use Rattle.go_ast.specs.declared.syntax.Kind.TheVariants as kind
use Rattle.go_ast.specs.declared.syntax.Token.{Token}
use Rattle.go_ast.specs.Flatten.{sign, sign_if, binary_kind, prefix_kind, type_tokens, key_tokens, expr_tokens, operand_tokens, link_tokens}
use Rattle.go_ast.specs.Flatten.{argument_tokens, literal_tokens, element_tokens}
use Rattle.go_ast.specs.Tree.{ExprTree, Number, Text, Name, Blank, Composite, Paren, Prefix, Address, Chain, Binary, OperandTrees, no_operand, operand}
use Rattle.go_ast.specs.Tree.{LinkTrees, no_link, selector, index, call, ArgumentTrees, no_argument, argument, LiteralTree, literal, ElementTrees}
use Rattle.go_ast.specs.Tree.{no_element, element}
use Rattle.types_expr.specs.declared.types.Basic.TheVariants as basic
use Rattle.types_expr.specs.declared.types.Builtin.{Builtin}
use Rattle.types_expr.specs.declared.types.Builtin.TheVariants as builtin
use Rattle.types_expr.specs.Places.{first_token, first_of_type, place_of}
use Rattle.types_expr.specs.Types.{PlainType, BasicType, Underlying, SliceOf, Struct, ValueKind, Typed}
use Rattle.types_expr.specs.Types.{Untyped, Nil, Signature, Meaning, Value, TypeName, Function}
use Rattle.types_expr.specs.Types.{BuiltinName, Package, Results, Broken}
use Rattle.types_expr.specs.World.{World, Locals, name_meaning, meaning_of_bound, underlying}
use Rattle.types_expr.specs.Operations.{operate, converts, prefixed, element_of_kind}
use Rattle.types_expr.specs.Judge.{Judged, ListValue, Seen, none_seen, means, wrong, means_or_wrong, value_or_wrong, followed, as_value, value_kind}
use Rattle.types_expr.specs.Judge.{member_meaning, select_member, select, misfits, all_misfits, all_whole, is_whole, result_meaning, unless_faults}
use Rattle.types_expr.specs.Judge.{wrong_if_whole, call_function, convert_one, convert, append_to, append_first, append, len_fits, all_printed, call_when}
use Rattle.types_expr.specs.Judge.{call_builtin, call_of, bad_index, element_meaning, indexed, index_of, operation_on, operation, prefix_of, address_of}
use Rattle.types_expr.specs.Judge.{judge_type, element_key, seen_after, literal_result, literal_meaning, value_at, index_rule, call_rule, judge, judge_operands}
use Rattle.types_expr.specs.Judge.{judge_links, judge_arguments, judge_literal, judge_elements, noting, entering, enterings, all_enterings, entering_if}
use Rattle.types_expr.specs.Judge.{members_of}
use Rattle.types_expr.proofs.NoteLists.{NotesNoMember, members_then, members_behind, neither_notes, no_member_entering, no_member_enterings, no_member_all}
use Rattle.types_expr.proofs.NoteLists.{no_member_entering_if}
use Rattle.refs_lookup.proofs.Picked.{IsPackage, MayUse, Picked, stops, passes, closes, leaves, selects, keys, Passes, pass_append, pass_none, pass_before}
use Rattle.refs_lookup.proofs.Picked.{behind_pass}
use Rattle.refs_lookup.proofs.Picked.{IsNoValue, Fits, Ends, Walks, walk_passes, walk_append, walk_before, walk_closed, walk_same}

-- what uses nothing

abbrev pub UsesNone : Judged → Type 0
UsesNone j = NotesNoMember j.uses

pub value_uses : (place : ℕ) (m : Meaning) → UsesNone (as_value place m)
unfolding as_value
value_uses place (Value k a) = refl
value_uses place Broken = refl
value_uses place m = refl

meaning_uses : (m : Option Meaning) (place : ℕ) → UsesNone (means_or_wrong m place)
meaning_uses None place = refl
meaning_uses (Some m) place = refl

kind_uses : (k : Option ValueKind) (place : ℕ) → UsesNone (value_or_wrong k place)
kind_uses None place = refl
kind_uses (Some k) place = refl

if_uses : (b : Bool) (j k : Judged) → UsesNone j → UsesNone k → UsesNone (if b then j else k)
if_uses true j k a c = a
if_uses false j k a c = c

prefix_uses : (w : World) (op : PrefixOp) (place : ℕ) (m : Meaning) → UsesNone (prefix_of w op place m)
unfolding prefix_of
prefix_uses w op place (Value k a) = meaning_uses (prefixed w op k) place
prefix_uses w op place m = refl

address_uses : (m : Meaning) → UsesNone (address_of m)
unfolding address_of
address_uses (Value (Typed t) a) = refl
address_uses m = refl

operation_kinds : (w : World) (op : BinaryOp) (start : ℕ) (a b : Option ValueKind) → UsesNone (operation_on w op start a b)
operation_kinds w op start (Some a) (Some b) = kind_uses (operate w op a b) start
operation_kinds w op start a b = refl

operation_uses : (w : World) (op : BinaryOp) (start : ℕ) (a b : Meaning) → UsesNone (operation w op start a b)
unfolding operation
operation_uses w op start a b = operation_kinds w op start (value_kind a) (value_kind b)

element_uses : (t : Option PlainType) (start : ℕ) → UsesNone (element_meaning t start)
element_uses None start = refl
element_uses (Some t) start = refl

indexed_uses : (w : World) (start : ℕ) (faults : List ℕ) (whole : Bool) (m : Meaning) → UsesNone (indexed w start faults whole m)
unfolding indexed
indexed_uses w start [] true (Value k a) = element_uses (element_of_kind w k) start
indexed_uses w start faults whole m = refl

index_uses : (w : World) (start place : ℕ) (s i : Meaning) → UsesNone (index_of w start place s i)
unfolding index_of
index_uses w start place s i = indexed_uses w start (bad_index w place (value_kind i)) (is_whole (value_kind i)) s

whole_uses : (b : Bool) (place : ℕ) → UsesNone (wrong_if_whole b place)
whole_uses true place = refl
whole_uses false place = refl

faults_uses : (fs : List ℕ) (b : Bool) (m : Meaning) → UsesNone (unless_faults fs b m)
unfolding unless_faults
faults_uses [] true m = refl
faults_uses fs b m = refl

function_uses : (w : World) (start : ℕ) (s : Signature) (vs : List ListValue) → UsesNone (call_function w start s vs)
unfolding call_function
function_uses w start s vs =
    let found = unless_faults (misfits w vs s.parameters) (all_whole vs) (result_meaning s.results) in
    if_uses (length vs == length s.parameters) (noting (enterings w vs s.parameters) found) (wrong_if_whole (all_whole vs) start)
    (neither_notes (enterings w vs s.parameters) found.uses (no_member_enterings w vs s.parameters)
    (faults_uses (misfits w vs s.parameters) (all_whole vs) (result_meaning s.results))) (whole_uses (all_whole vs) start)

one_uses : (w : World) (start : ℕ) (t : PlainType) (k : Option ValueKind) → UsesNone (convert_one w start t k)
one_uses w start t None = refl
one_uses w start t (Some k) = if_uses (converts w k t) (means (Value (Typed t) false)) (wrong start) refl refl

convert_uses : (w : World) (start : ℕ) (t : PlainType) (vs : List ListValue) → UsesNone (convert w start t vs)
unfolding convert
convert_uses w start t [] = whole_uses (all_whole []) start
convert_uses w start t (v ∷ []) = neither_notes (entering w v.place v.kind t) (convert_one w start t v.kind).uses (no_member_entering w v.place v.kind t)
    (one_uses w start t v.kind)
convert_uses w start t (v ∷ (x ∷ xs)) = whole_uses (all_whole (v ∷ (x ∷ xs))) start

to_uses : (w : World) (start : ℕ) (k : ValueKind) (t : Option PlainType) (vs : List ListValue) → UsesNone (append_to w start k t vs)
to_uses w start k None vs = whole_uses (all_whole vs) start
to_uses w start k (Some t) vs =
    neither_notes (all_enterings w vs t) (unless_faults (all_misfits w vs t) (all_whole vs) (Value k false)).uses (no_member_all w vs t)
    (faults_uses (all_misfits w vs t) (all_whole vs) (Value k false))

first_uses : (w : World) (start : ℕ) (k : Option ValueKind) (vs : List ListValue) → UsesNone (append_first w start k vs)
first_uses w start None vs = refl
first_uses w start (Some k) vs = to_uses w start k (element_of_kind w k) vs

append_uses : (w : World) (start : ℕ) (vs : List ListValue) → UsesNone (append w start vs)
unfolding append
append_uses w start [] = refl
append_uses w start (v ∷ vs) = first_uses w start v.kind vs

when_uses : (fine : Bool) (vs : List ListValue) (start : ℕ) (m : Meaning) → UsesNone (call_when fine vs start m)
when_uses fine vs start m =
    if_uses (all_whole vs) (if fine then means m else wrong start) (means Broken) (if_uses fine (means m) (wrong start) refl refl) refl

builtin_uses : (w : World) (start : ℕ) (b : Builtin) (vs : List ListValue) → UsesNone (call_builtin w start b vs)
unfolding call_builtin
builtin_uses w start builtin.Append vs = append_uses w start vs
builtin_uses w start builtin.Len vs = when_uses (len_fits w vs) vs start (Value (Typed (BasicType basic.Int)) false)
builtin_uses w start builtin.Panic vs = when_uses (length vs == 1) vs start (Results [])
builtin_uses w start builtin.Print vs = when_uses (all_printed w vs) vs start (Results [])
builtin_uses w start builtin.Println vs = when_uses (all_printed w vs) vs start (Results [])

call_uses : (w : World) (start place : ℕ) (vs : List ListValue) (m : Meaning) → UsesNone (call_of w start place vs m)
unfolding call_of
call_uses w start place vs (Function s) = function_uses w start s vs
call_uses w start place vs (TypeName t) = convert_uses w start t vs
call_uses w start place vs (BuiltinName b) = builtin_uses w start b vs
call_uses w start place vs (Value k a) = whole_uses (all_whole vs) start
call_uses w start place vs Broken = refl
call_uses w start place vs m = refl

ends_uses : (start : ℕ) (t : PlainType) (u : Underlying) (whole unkeyed : Bool) → UsesNone (literal_result start t u whole unkeyed)
ends_uses start t (Struct s) true true = refl
ends_uses start t (Struct s) true false = refl
ends_uses start t (SliceOf e) true unkeyed = refl
ends_uses start t u true unkeyed = refl
ends_uses start t u false unkeyed = refl

literal_uses : (w : World) (start : ℕ) (t : Option PlainType) (whole unkeyed : Bool) → UsesNone (literal_meaning w start t whole unkeyed)
literal_uses w start None whole unkeyed = refl
literal_uses w start (Some t) whole unkeyed = ends_uses start t (underlying w t) whole unkeyed

-- what is no value gives none

no_value : (place : ℕ) (m : Meaning) → IsNoValue m → IsNoValue (as_value place m).meaning
unfolding as_value
no_value place (Value k a) h = absurd h
no_value place Broken h = tt
no_value place m h = tt

no_prefixed : (w : World) (op : PrefixOp) (place : ℕ) (m : Meaning) → IsNoValue m → IsNoValue (prefix_of w op place m).meaning
unfolding prefix_of
no_prefixed w op place (Value k a) h = absurd h
no_prefixed w op place m h = tt

no_kind : (w : World) (op : BinaryOp) (start : ℕ) (a : Option ValueKind) → IsNoValue (operation_on w op start a None).meaning
no_kind w op start None = tt
no_kind w op start (Some a) = tt

no_operation : (w : World) (op : BinaryOp) (start : ℕ) (a b : Meaning) → IsNoValue b → IsNoValue (operation w op start a b).meaning
unfolding operation value_kind
no_operation w op start a (Value k x) h = absurd h
no_operation w op start a Package h = no_kind w op start (value_kind a)
no_operation w op start a Broken h = no_kind w op start (value_kind a)
no_operation w op start a m h = absurd h

no_name : (w : World) (locals : Locals) (n : ℕ) → IsPackage w n → IsNoValue (name_meaning w locals n)
no_name w locals n h = subst (λ b. IsNoValue (meaning_of_bound locals b)) (sym h) tt

-- what is found of a part, and then by a rule that uses nothing
pub followed_walks : (w : World) (j : Judged) (rule : Meaning → Judged) (ts : List Token) → ((m : Meaning) → UsesNone (rule m)) →
    ((m : Meaning) → IsNoValue m → IsNoValue (rule m).meaning) → Walks w j.uses ts j.meaning →
    Walks w (followed j rule).uses ts (followed j rule).meaning
followed_walks w j rule ts none kept h =
    walk_same w j.uses (j.uses ++ (rule j.meaning).uses) ts j.meaning (rule j.meaning).meaning
    (members_then j.uses (rule j.meaning).uses (none j.meaning)) (kept j.meaning) h

pub value_walks : (w : World) (e : ExprTree) (j : Judged) (ts : List Token) → Walks w j.uses ts j.meaning →
    Walks w (value_at e j).uses ts (value_at e j).meaning
value_walks w e j ts h = followed_walks w j (as_value (place_of e)) ts (value_uses (place_of e)) (no_value (place_of e)) h

-- selectors

may_use : (w : World) (t : PlainType) (a : Bool) (c : Option ℕ) → Fits w (Value (Typed t) a) c → MayUse w c
may_use w t a None h = tt
may_use w t a (Some k) h = h

abbrev Dotted : ℕ → ℕ → List Token
Dotted d n = sign kind.Dot d ∷ (sign kind.Name n ∷ [])

select_ends : (w : World) (locals : Locals) (place d n : ℕ) (m : Meaning) (c : Option ℕ) → Fits w m c →
    Ends w c (select w locals place n m).uses (Dotted d n) (select w locals place n m).meaning
unfolding select select_member
select_ends w locals place d n (Value (Typed t) a) c h = (
  None,
  (
    selects (may_use w t a c h) refl refl
        (subst (λ us. Picked w None us [] None) (sym (meaning_uses (member_meaning w t a (w.member n t)) n)) stops),
    tt,
  ),
)
select_ends w locals place d n (Value (Untyped b) a) c h = (None, (leaves refl stops, tt))
select_ends w locals place d n (Value Nil a) c h = (None, (leaves refl stops, tt))
select_ends w locals place d n Package c h = (None, (leaves refl stops, tt))
select_ends w locals place d n Broken c h = (None, (leaves refl stops, tt))
select_ends w locals place d n m c h = (None, (leaves refl stops, tt))

key_passes : (w : World) (t : Option PlainType) (seen : Seen) (k : Option (ℕ × ℕ)) → Passes w (element_key w t seen k).uses (key_tokens k)
key_passes w None seen k = pass_none w (key_tokens k)
key_passes w (Some t) seen None = pass_none w []
key_passes w (Some t) seen (Some k) = λ b. (None, keys refl refl stops)

none_walks : (w : World) (ts : List Token) → Walks w [] ts Broken
none_walks w ts b = let r = pass_none w ts b in (r.0, (r.1, broken_fits w r.0))
  where
    broken_fits : (w : World) (o : Option ℕ) → Fits w Broken o
    broken_fits w None = tt
    broken_fits w (Some k) = λ h. tt

mutual
  unfolding judge judge_operands judge_links judge_arguments judge_literal judge_elements expr_tokens operand_tokens link_tokens argument_tokens literal_tokens
      element_tokens

  pub expr_walks : (w : World) (ls : Locals) (e : ExprTree) → Walks w (judge w ls e).uses (expr_tokens e) (judge w ls e).meaning
  expr_walks w ls (Number p) = λ b. (None, (closes refl stops, tt))
  expr_walks w ls (Text p) = λ b. (None, (closes refl stops, tt))
  expr_walks w ls (Name p) = λ b. (Some p, (passes stops, no_name w ls p))
  expr_walks w ls (Blank p) = λ b. (Some p, (passes stops, λ h. tt))
  expr_walks w ls (Composite l) = literal_walks w ls l (judge_literal w ls l).meaning
  expr_walks w ls (Paren o e c) =
      let v = value_at e (judge w ls e) in
      walk_before w v.uses (sign kind.LeftParen o) (expr_tokens e ++ (sign kind.RightParen c ∷ [])) v.meaning
      (walk_closed w v.uses (expr_tokens e) kind.RightParen c v.meaning refl
      (walk_passes w v.uses (expr_tokens e) v.meaning (value_walks w e (judge w ls e) (expr_tokens e) (expr_walks w ls e))))
  expr_walks w ls (Prefix op p e) =
      let v = value_at e (judge w ls e) in
      let j = followed v (prefix_of w op p) in
      walk_before w j.uses (sign (prefix_kind op) p) (expr_tokens e) j.meaning
      (followed_walks w v (prefix_of w op p) (expr_tokens e) (prefix_uses w op p) (no_prefixed w op p)
      (value_walks w e (judge w ls e) (expr_tokens e) (expr_walks w ls e)))
  expr_walks w ls (Address p l) =
      let j = judge_literal w ls l in
      let k = followed j address_of in
      walk_before w k.uses (sign kind.Ampersand p) (literal_tokens l) k.meaning
      (walk_same w j.uses (j.uses ++ (address_of j.meaning).uses) (literal_tokens l) k.meaning k.meaning
      (members_then j.uses (address_of j.meaning).uses (address_uses j.meaning)) (λ h. h) (literal_walks w ls l k.meaning))
  expr_walks w ls (Chain e links) =
      links_walks w ls (first_token e) (place_of e) (judge w ls e) (expr_tokens e) links (expr_walks w ls e)
  expr_walks w ls (Binary e os) =
      operands_walks w ls (first_token e) (value_at e (judge w ls e)) (expr_tokens e) os
      (value_walks w e (judge w ls e) (expr_tokens e) (expr_walks w ls e))

  operands_walks : (w : World) (ls : Locals) (start : ℕ) (j : Judged) (ts : List Token) (os : OperandTrees) → Walks w j.uses ts j.meaning →
      Walks w (judge_operands w ls start j os).uses (ts ++ operand_tokens os) (judge_operands w ls start j os).meaning
  operands_walks w ls start j ts no_operand h = subst (λ xs. Walks w j.uses xs j.meaning) (sym (append-nil ts)) h
  operands_walks w ls start j ts (operand op p e rest) h =
      let v = value_at e (judge w ls e) in
      let i = followed v (operation w op start j.meaning) in
      let next = followed j (λ a. followed v (operation w op start a)) in
      let ps = sign (binary_kind op) p ∷ expr_tokens e in
      let part : Walks w i.uses ps i.meaning =
      walk_before w i.uses (sign (binary_kind op) p) (expr_tokens e) i.meaning
      (followed_walks w v (operation w op start j.meaning) (expr_tokens e) (operation_uses w op start j.meaning) (no_operation w op start j.meaning)
      (value_walks w e (judge w ls e) (expr_tokens e) (expr_walks w ls e))) in
      let done = judge_operands w ls start next rest in
      subst (λ xs. Walks w done.uses xs done.meaning) (append_assoc ts ps (operand_tokens rest))
      (operands_walks w ls start next (ts ++ ps) rest (walk_append w j.uses i.uses ts ps j.meaning i.meaning h (λ c fits. part c)))

  links_walks : (w : World) (ls : Locals) (start place : ℕ) (j : Judged) (ts : List Token) (links : LinkTrees) → Walks w j.uses ts j.meaning →
      Walks w (judge_links w ls start place j links).uses (ts ++ link_tokens links) (judge_links w ls start place j links).meaning
  links_walks w ls start place j ts no_link h = subst (λ xs. Walks w j.uses xs j.meaning) (sym (append-nil ts)) h
  links_walks w ls start place j ts (selector d n rest) h =
      let i = select w ls place n j.meaning in
      let next = followed j (select w ls place n) in
      let done = judge_links w ls start n next rest in
      subst (λ xs. Walks w done.uses xs done.meaning) (append_assoc ts (Dotted d n) (link_tokens rest))
      (links_walks w ls start n next (ts ++ Dotted d n) rest
      (walk_append w j.uses i.uses ts (Dotted d n) j.meaning i.meaning h (λ c fits. select_ends w ls place d n j.meaning c fits)))
  links_walks w ls start place j ts (index o e c rest) h =
      let v = value_at e (judge w ls e) in
      let i = index_rule w start place e v j.meaning in
      let next = followed j (index_rule w start place e v) in
      let ps = sign kind.LeftBracket o ∷ (expr_tokens e ++ (sign kind.RightBracket c ∷ [])) in
      let m = (as_value place j.meaning).meaning in
      let found = index_of w start (place_of e) m v.meaning in
      let same : members_of i.uses ≡ members_of v.uses =
      members_behind (as_value place j.meaning).uses (v.uses ++ found.uses) (value_uses place j.meaning)
      ∙ members_then v.uses found.uses (index_uses w start (place_of e) m v.meaning) in
      let part : Walks w i.uses ps i.meaning =
      walk_same w v.uses i.uses ps i.meaning i.meaning same (λ q. q)
      (walk_before w v.uses (sign kind.LeftBracket o) (expr_tokens e ++ (sign kind.RightBracket c ∷ [])) i.meaning
      (walk_closed w v.uses (expr_tokens e) kind.RightBracket c i.meaning refl
      (walk_passes w v.uses (expr_tokens e) v.meaning (value_walks w e (judge w ls e) (expr_tokens e) (expr_walks w ls e))))) in
      let done = judge_links w ls start start next rest in
      subst (λ xs. Walks w done.uses xs done.meaning)
      (append_assoc ts ps (link_tokens rest) ∙ ap (λ xs. ts ++ (sign kind.LeftBracket o ∷ xs))
      (append_assoc (expr_tokens e) (sign kind.RightBracket c ∷ []) (link_tokens rest)))
      (links_walks w ls start start next (ts ++ ps) rest (walk_append w j.uses i.uses ts ps j.meaning i.meaning h (λ b fits. part b)))
  links_walks w ls start place j ts (call o xs c rest) h =
      let args = judge_arguments w ls xs in
      let i = call_rule w start place args j.meaning in
      let next = followed j (call_rule w start place args) in
      let ps = sign kind.LeftParen o ∷ (argument_tokens xs ++ (sign kind.RightParen c ∷ [])) in
      let same : members_of i.uses ≡ members_of args.uses =
      members_then args.uses (call_of w start place args.values j.meaning).uses (call_uses w start place args.values j.meaning) in
      let part : Walks w i.uses ps i.meaning =
      walk_same w args.uses i.uses ps i.meaning i.meaning same (λ q. q)
      (walk_before w args.uses (sign kind.LeftParen o) (argument_tokens xs ++ (sign kind.RightParen c ∷ [])) i.meaning
      (walk_closed w args.uses (argument_tokens xs) kind.RightParen c i.meaning refl (arguments_pass w ls xs))) in
      let done = judge_links w ls start start next rest in
      subst (λ ys. Walks w done.uses ys done.meaning)
      (append_assoc ts ps (link_tokens rest) ∙ ap (λ ys. ts ++ (sign kind.LeftParen o ∷ ys))
      (append_assoc (argument_tokens xs) (sign kind.RightParen c ∷ []) (link_tokens rest)))
      (links_walks w ls start start next (ts ++ ps) rest (walk_append w j.uses i.uses ts ps j.meaning i.meaning h (λ b fits. part b)))

  arguments_pass : (w : World) (ls : Locals) (xs : ArgumentTrees) → Passes w (judge_arguments w ls xs).uses (argument_tokens xs)
  arguments_pass w ls no_argument = pass_none w []
  arguments_pass w ls (argument e comma rest) =
      let v = value_at e (judge w ls e) in
      let others = judge_arguments w ls rest in
      pass_append w v.uses others.uses (expr_tokens e) (sign_if kind.Comma comma ++ argument_tokens rest)
      (walk_passes w v.uses (expr_tokens e) v.meaning (value_walks w e (judge w ls e) (expr_tokens e) (expr_walks w ls e)))
      (pass_before w others.uses (sign_if kind.Comma comma) (argument_tokens rest) (arguments_pass w ls rest))

  literal_walks : (w : World) (ls : Locals) (l : LiteralTree) (m : Meaning) → Walks w (judge_literal w ls l).uses (literal_tokens l) m
  literal_walks w ls (literal t o es c) m =
      let j = judge_type w t in
      let found = judge_elements w ls j.type_of none_seen es in
      let ends = literal_meaning w (first_of_type t) j.type_of found.whole found.unkeyed in
      let ps = sign kind.LeftBrace o ∷ (element_tokens es ++ (sign kind.RightBrace c ∷ [])) in
      walk_same w found.uses (found.uses ++ ends.uses) (type_tokens t ++ ps) m m
      (members_then found.uses ends.uses (literal_uses w (first_of_type t) j.type_of found.whole found.unkeyed)) (λ q. q)
      (walk_append w [] found.uses (type_tokens t) ps Broken m (none_walks w (type_tokens t))
      (λ b fits. walk_before w found.uses (sign kind.LeftBrace o) (element_tokens es ++ (sign kind.RightBrace c ∷ [])) m
      (walk_closed w found.uses (element_tokens es) kind.RightBrace c m refl (elements_pass w ls j.type_of none_seen es)) b))

  elements_pass : (w : World) (ls : Locals) (t : Option PlainType) (seen : Seen) (es : ElementTrees) →
      Passes w (judge_elements w ls t seen es).uses (element_tokens es)
  elements_pass w ls t seen no_element = pass_none w []
  elements_pass w ls t seen (element key e comma rest) =
      let k = element_key w t seen key in
      let v = value_at e (judge w ls e) in
      let others = judge_elements w ls t (seen_after w t seen key) rest in
      let entry = entering_if w (place_of e) (value_kind v.meaning) k.wanted in
      pass_append w k.uses (v.uses ++ (entry ++ others.uses)) (key_tokens key) (expr_tokens e ++ (sign_if kind.Comma comma ++ element_tokens rest))
      (key_passes w t seen key)
      (pass_append w v.uses (entry ++ others.uses) (expr_tokens e) (sign_if kind.Comma comma ++ element_tokens rest)
      (walk_passes w v.uses (expr_tokens e) v.meaning (value_walks w e (judge w ls e) (expr_tokens e) (expr_walks w ls e)))
      (behind_pass w entry others.uses (sign_if kind.Comma comma ++ element_tokens rest) (no_member_entering_if w (place_of e) (value_kind v.meaning) k.wanted)
      (pass_before w others.uses (sign_if kind.Comma comma) (element_tokens rest) (elements_pass w ls t (seen_after w t seen key) rest))))
