-- The members that the code of a function asks for are among the uses of members of its file.
use Rattle.std.proofs.Common.{ℕ, suc, ◌≡◌, ◌<◌, inl, inr, ◌==◌, Bool, true, false, if◌then◌else◌, List, [], ◌∷◌, length, Some, ap, refl, sym, ◌∙◌, subst}
use Rattle.std.proofs.Common.{eq-eqb, arith}
use Rattle.std.proofs.lemmas.Bool.{true≢false, eqb-true}
use Rattle.std.specs.Prelude.{Contains}
use Rattle.go_ast.specs.Tree.{Item, TypeTree, ResultTree, FuncTree, DeclTree, FileTree}
use Rattle.go_ast.specs.Tree as tree
use Rattle.go_ast.specs.SourceFile.{SourceFile, IsSourceFile}
use Rattle.types_expr.specs.Types.{PlainType}
use Rattle.types_expr.specs.World.{World, Locals, no_locals}
use Rattle.types_expr.specs.Judge.{MemberUse, members_of}
use Rattle.types_stmt.specs.Checked.{FoundSoFar}
use Rattle.types_stmt.specs.Sides.{Wants}
use Rattle.types_stmt.specs.Statements.{check_statement}
use Rattle.types_stmt.specs.Headers.{judge_types, judge_results, is_bad_init, check_signature, check_function}
use Rattle.types_stmt.specs.Declarations.{check_decl, check_decls, check_file}
use Rattle.law_typing.proofs.Naming.{type_true}
use Rattle.law_typing.specs.Statements.{a_block, no_more}
use Rattle.law_typing.specs.Declarations.{AreTypes, no_type_left, also_type, AreResults, none_written, one_written, several_written, KeepsInit}
use Rattle.law_typing.specs.Declarations.{another_name, a_method, a_plain_one, FunctionIsTyped, a_function}
use Rattle.law_typing.proofs.PartOutcomes.{IsAt, held}
use Rattle.law_typing.proofs.Statements.{AreTargets}
use Rattle.law_typing.proofs.Headers.{function_true}
use Rattle.law_typing.proofs.Declarations.{decl_true}
use Rattle.refs_lookup.proofs.LinkPlaces.{one_at_token}
use Rattle.build_object.specs.Sources.{type_before}
use Rattle.law_faultless.specs.Questions.{TokenQuestion, OfMember}
use Rattle.law_faultless.specs.StatementAsking.{FunctionAsks, in_body}
use Rattle.law_faultless.specs.TypedFunctions.{IsFunctionIn, this_function, later_function}
use Rattle.law_faultless.proofs.Used.{IsUsed, Met}
use Rattle.law_faultless.proofs.KeptUses.{decls_keep}
use Rattle.law_faultless.proofs.StatementsKnown.{block_met}

-- results want the types that are written

types_wanted : (w : World) {is : List (Item TypeTree)} {ts : List PlainType} → AreTypes w is ts → AreTargets (judge_types w is).wanted ts
unfolding judge_types
types_wanted w no_type_left = refl
types_wanted w (also_type {is = is} {t} {ts} h more) =
    ap (λ z. Wants z.type_of ∷ (judge_types w is).wanted) (type_true w h) ∙ ap (λ z. Wants (Some t) ∷ z) (types_wanted w more)

results_wanted : (w : World) {r : ResultTree} {ts : List PlainType} → AreResults w r ts → AreTargets (judge_results w r).wanted ts
unfolding judge_results
results_wanted w none_written = refl
results_wanted w (one_written h) = ap (λ z. Wants z.type_of ∷ []) (type_true w h)
results_wanted w (several_written h) = types_wanted w h

-- The number of results, of trees and of types

types_told : {w : World} {is : List (Item TypeTree)} {ts : List PlainType} → AreTypes w is ts → length is ≡ length ts
types_told no_type_left = refl
types_told (also_type h more) = ap suc (types_told more)

abbrev count_written : ResultTree → ℕ
count_written tree.no_result = 0
count_written (tree.one_result t) = 1
count_written (tree.results o ts c) = length ts

results_told : {w : World} {r : ResultTree} {ts : List PlainType} → AreResults w r ts → count_written r ≡ length ts
results_told none_written = refl
results_told (one_written h) = refl
results_told (several_written h) = types_told h

no_types : (ts : List PlainType) → 0 ≡ length ts → ts ≡ []
no_types [] e = refl
no_types (t ∷ ts) e = absurd (omega arith)

-- with an empty body in place of its own
abbrev emptied : FuncTree → FuncTree
emptied f = record f { body = tree.block 0 tree.no_statement 0 }

init_kept : {b : Bool} {f : FuncTree} {us : List PlainType} → KeepsInit b f us → (ts : List PlainType) → length us ≡ length ts → KeepsInit b (emptied f) ts
init_kept another_name ts e = another_name
init_kept (a_method h) ts e = a_method h
init_kept {b} {f} (a_plain_one h) ts e = subst (λ z. KeepsInit b (emptied f) z) (sym (no_types ts e)) (a_plain_one h)

-- what is found of a function's header
signature_at : (w : World) (b : Bool) (s : FoundSoFar) (f : FuncTree) {entered : Locals} → IsAt (check_function w b s (emptied f)) entered →
    IsAt (check_signature w b s f) entered
unfolding check_function check_signature is_bad_init check_statement
signature_at w b s f a = a

function_met : (w : World) (b : Bool) {before after : Locals} {f : FuncTree} {q : TokenQuestion} → FunctionIsTyped w b before f after →
    FunctionAsks w before f q →
    (s : FoundSoFar) → IsAt s before →
    Met q (check_function w b s f).uses
unfolding check_function
function_met w b (a_function {before} {f = f} other params written keeps body) (in_body {entered = entered} {ts = ts} r p rs a) s at =
    let empty : FunctionIsTyped w b before (emptied f) entered = a_function r p rs (init_kept keeps ts (sym (results_told written) ∙ results_told rs))
    (a_block no_more) in
    let begun = signature_at w b s f (function_true w b s (emptied f) entered at.faultless (held (FunctionIsTyped w b) at empty)) in
    block_met w ts (judge_results w f.result).wanted (results_wanted w rs) a (check_signature w b s f) begun

declarations_met : (w : World) (is_init : ℕ → Bool) {before at : Locals} {ds : List DeclTree} {f : FuncTree} → IsFunctionIn w is_init before ds f at →
    (q : TokenQuestion) → FunctionAsks w at f q → (s : FoundSoFar) → IsAt s before →
    Met q (check_decls w is_init s ds).uses
unfolding check_decls check_decl
declarations_met w is_init (this_function {f = f} {ds} t) q a s at = decls_keep q w is_init ds (check_function w (is_init f.name) s f)
    (function_met w (is_init f.name) t a s at)
declarations_met w is_init (later_function {d = d} r more) q a s at = declarations_met w is_init more q a (check_decl w is_init s d)
    (decl_true w is_init s at r)

file_met : (w : World) (is_init : ℕ → Bool) (t : FileTree) (f : FuncTree) (at : Locals) (q : TokenQuestion) → IsFunctionIn w is_init no_locals t.decls f at →
    FunctionAsks w at f q → Met q (check_file w is_init t).uses
unfolding check_file
file_met w is_init t f at q is a = declarations_met w is_init is q a (record { locals = no_locals; faults = []; uses = [] })
    (record { locals_are = refl; faultless = refl })

-- the type before a use that is the only one at its token

record IsElement (n : ℕ) (t : PlainType) (us : List MemberUse) : Type 0 where
  element : MemberUse
  contained : Contains us element
  place : element.place ≡ n
  before : element.before ≡ t

element_later : (n : ℕ) (t : PlainType) (u : MemberUse) (us : List MemberUse) → IsElement n t us → IsElement n t (u ∷ us)
element_later n t u us x = record {
  element = x.element;
  contained = (
    suc x.contained.0,
    let lt : x.contained.0 < length us =
        x.contained.1 in omega arith,
    x.contained.2,
  );
  place = x.place;
  before = x.before;
}

element_of : (n : ℕ) (t : PlainType) (us : List MemberUse) → IsUsed n t us → IsElement n t us
element_of n t [] h = absurd h
element_of n t (u ∷ us) h = elim h [
  | inl here ↦ record { element = u; contained = (0, omega arith, refl); place = here.0; before = here.1 }
  | inr more ↦ element_later n t u us (element_of n t us more)
]

-- no two of the uses stand at one token
AreApart : List MemberUse → Type 0
AreApart us = (x y : MemberUse) → Contains us x → Contains us y → x.place ≡ y.place → x ≡ y

apart_later : (u : MemberUse) (us : List MemberUse) → AreApart (u ∷ us) → AreApart us
unfolding AreApart
apart_later u us f x y a b e =
    let la : a.0 < length us = a.1 in
    let lb : b.0 < length us = b.1 in
    f x y (suc a.0, omega arith, a.2) (suc b.0, omega arith, b.2) e

first_type : (n : ℕ) (t : PlainType) (u : MemberUse) (us : List MemberUse) → AreApart (u ∷ us) → IsUsed n t (u ∷ us) → u.place ≡ n → u.before ≡ t
unfolding AreApart
first_type n t u us f h e =
    let x = element_of n t (u ∷ us) h in
    let same : x.element ≡ u = f x.element u x.contained (0, omega arith, refl) (x.place ∙ sym e) in
    ap (λ (z : MemberUse). z.before) (sym same) ∙ x.before

rest_used : (n : ℕ) (t : PlainType) (u : MemberUse) (us : List MemberUse) → IsUsed n t (u ∷ us) → (u.place ≡ n → ⊥) → IsUsed n t us
rest_used n t u us h other = elim h [ inl here ↦ absurd (other here.0) | inr more ↦ more ]

either : {P : Type 0} (b : Bool) → (b ≡ true → P) → (b ≡ false → P) → P
either true f g = f refl
either false f g = g refl

type_found : (n : ℕ) (t : PlainType) (us : List MemberUse) → AreApart us → IsUsed n t us → type_before us n ≡ Some t
type_found n t [] f h = absurd h
type_found n t (u ∷ us) f h =
    let same : (u.place == n) ≡ true → (if u.place == n then Some u.before else type_before us n) ≡ Some t =
    λ e. ap (λ z. if z then Some u.before else type_before us n) e ∙ ap Some (first_type n t u us f h (eqb-true u.place n e)) in
    let differ : (u.place == n) ≡ false → (if u.place == n then Some u.before else type_before us n) ≡ Some t =
    λ e. ap (λ z. if z then Some u.before else type_before us n) e
    ∙ type_found n t us (apart_later u us f) (rest_used n t u us h (λ p. true≢false (sym (eq-eqb u.place n p) ∙ e))) in
    either (u.place == n) same differ

pub member_found : (w : World) (is_init : ℕ → Bool) (file : SourceFile) (f : FuncTree) (at : Locals) (n : ℕ) (t : PlainType) → IsSourceFile file →
    IsFunctionIn w is_init no_locals file.tree.decls f at →
    FunctionAsks w at f (OfMember n t) → type_before (members_of (check_file w is_init file.tree).uses) n ≡ Some t
unfolding AreApart
member_found w is_init file f at n t source is a =
    type_found n t (members_of (check_file w is_init file.tree).uses) (λ x y. one_at_token w is_init file source x y)
    (file_met w is_init file.tree f at (OfMember n t) is a)
