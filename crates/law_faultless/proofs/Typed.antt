-- A file in which no fault of types is found keeps the typing rules, where all its names are known.
use Rattle.std.proofs.Common.{ℕ, suc, ◌≡◌, ◌<◌, ◌⊎◌, inl, inr, Bool, true, false, List, [], ◌∷◌, ◌++◌, Option, Some, None, ap, sym, subst, refl, ◌∙◌, arith}
use Rattle.std.proofs.Common.{if◌then◌else◌}
use Rattle.std.specs.Prelude.{codes, bytes_eq}
use Rattle.std.specs.List.{All, AllByRecursion, flat_map}
use Rattle.std.proofs.lemmas.Bool.{true≢false}
use Rattle.std.proofs.lemmas.List.Elements.{All-head, All-tail}
use Rattle.base_lemmas.proofs.EachElement.{all_append}
use Rattle.go_ast.specs.declared.syntax.Kind.TheVariants as kind
use Rattle.go_ast.specs.Flatten.{sign, tokens_if, all_tokens, list_tokens, receiver_tokens, param_tokens, result_tokens, block_tokens, func_tokens}
use Rattle.go_ast.specs.Flatten.{imports_tokens, decl_tokens, flatten}
use Rattle.go_ast.specs.Tree.{Item, Group, single, several, IdentTree, TypeTree, ReceiverTree, ParamTree, ResultTree, FuncTree}
use Rattle.go_ast.specs.Tree.{GlobalTree, FieldTree, MethodTree, BodyTree, TypeSpecTree, ImportTree, ImportsTree, DeclTree, FileTree}
use Rattle.go_ast.specs.Tree as tree
use Rattle.go_ast.specs.WellFormed.{IsDecl, IsFunc, IsFile}
use Rattle.go_scope.specs.declared.model.Block.{Block}
use Rattle.go_scope.specs.declared.model.Block.TheVariants as blocks
use Rattle.go_scope.specs.declared.model.Role.TheVariants.{Use, Declaring, NotLexical}
use Rattle.go_scope.specs.declared.model.Purpose.TheVariants as purpose
use Rattle.go_scope.specs.Site.{Site, TokenSpellings, site}
use Rattle.go_scope.specs.ExpressionSites.{sites_if, list_sites, type_sites}
use Rattle.go_scope.specs.StatementSites.{ident_sites, group_sites, separated_sites, open_of, block_sites}
use Rattle.go_scope.specs.FileSites.{global_name, member_name, spec_sites, global_sites, field_sites, body_sites, type_spec_sites, receiver_sites}
use Rattle.go_scope.specs.FileSites.{param_sites, result_sites, func_block, func_role, func_sites, import_name, import_purpose, import_sites, imports_sites}
use Rattle.go_scope.specs.FileSites.{method_block, method_sites, decl_sites, file_sites}
use Rattle.types_expr.specs.Types.{PlainType}
use Rattle.types_expr.specs.World.{World, Locals, no_locals}
use Rattle.types_stmt.specs.Checked.{FoundSoFar, check_items, check_group}
use Rattle.types_stmt.specs.Sides.{Wants}
use Rattle.types_stmt.specs.Headers.{check_optional_receiver, check_param, judge_types, judge_results, check_signature, check_function}
use Rattle.types_stmt.specs.Declarations.{check_global, check_type, check_decl, check_decls, check_file}
use Rattle.law_typing.proofs.Naming.{type_true}
use Rattle.law_typing.specs.Sequences.{PartRule, Excuse, InTurn, no_item, then_item, IfPresent, absent, present, ExcusedInTurn}
use Rattle.law_typing.specs.Sequences.{this_item, later_item, ExcusedInGroup, excused_alone, excused_together, ExcusedIfPresent, excused_present}
use Rattle.law_typing.specs.Statements.{BlockIsTyped}
use Rattle.law_typing.specs.Declarations.{ReceiverIsTyped, a_receiver, ParamIsTyped, a_param, AreTypes, no_type_left, also_type, AreResults}
use Rattle.law_typing.specs.Declarations.{none_written, one_written, several_written, FunctionIsTyped, a_function, GlobalIsTyped}
use Rattle.law_typing.specs.Declarations.{TypeIsTyped, DeclIsTyped}
use Rattle.law_typing.specs.Declarations.{one_function, DeclsAreTyped, no_decl, also_decl, FileIsTyped, a_file}
use Rattle.law_typing.specs.Excused.{ReceiverIsExcused, of_broken, ParamIsExcused, param_of_broken, AnyIsBrokenType, this_type, later_type}
use Rattle.law_typing.specs.Excused.{ResultIsExcused, one_broken, one_of_several, FunctionIsExcused, in_receiver, in_params, in_result, in_body}
use Rattle.law_typing.specs.Excused.{GlobalIsExcused, global_of_broken, FieldIsBroken, this_field, later_field, BodyIsBroken, other_broken}
use Rattle.law_typing.specs.Excused.{AskedIsBroken, this_param, later_param, MethodIsBroken, in_asked, in_asked_result, later_method, in_interface}
use Rattle.law_typing.specs.Excused.{in_struct, TypeIsExcused, in_type_body, DeclIsExcused, in_variables, in_types}
use Rattle.law_typing.proofs.PartOutcomes.{IsAt, items_true}
use Rattle.law_typing.proofs.Statements.{AreTargets}
use Rattle.law_typing.proofs.Headers.{receiver_true, param_true, function_settled}
use Rattle.law_typing.proofs.Declarations.{decl_settled}
use Rattle.law_typing.proofs.TypedNotExcused.{block_not}
use Rattle.refs_lookup.proofs.Apart.{all_as}
use Rattle.law_faultless.proofs.Sound.{decls_first}
use Rattle.law_faultless.proofs.NumberedTokens.{Strung, strung_split}
use Rattle.law_faultless.specs.Unbroken.{IsUnbroken}
use Rattle.law_faultless.proofs.Named.{no_broken_type}
use Rattle.law_faultless.specs.ResolvedNames.{AreResolved, may_be_local}
use Rattle.law_faultless.proofs.KnownLocals.{past, resolved_left, resolved_right, AllKnown, known_none, known_past, abroad_past, IsShut, shut_past}
use Rattle.law_faultless.proofs.Simples.{ident_declares, idents_declare, as_all_known, as_locals_kept}
use Rattle.law_faultless.proofs.Bodies.{Outcome, known_join, block_typed}

-- results want the types that are written

types_wanted : (w : World) {is : List (Item TypeTree)} {ts : List PlainType} → AreTypes w is ts → AreTargets (judge_types w is).wanted ts
unfolding judge_types
types_wanted w no_type_left = refl
types_wanted w (also_type {is = is} {t} {ts} h more) =
    ap (λ z. Wants z.type_of ∷ (judge_types w is).wanted) (type_true w h) ∙ ap (λ z. Wants (Some t) ∷ z) (types_wanted w more)

results_wanted : (w : World) {r : ResultTree} {ts : List PlainType} → AreResults w r ts → AreTargets (judge_results w r).wanted ts
unfolding judge_results
results_wanted w none_written = refl
results_wanted w (one_written h) = ap (λ z. Wants z.type_of ∷ []) (type_true w h)
results_wanted w (several_written h) = types_wanted w h

-- parts that are not excused

no_turn : {X : Type 0} (R : PartRule X) (E : Excuse X) → ((ls : Locals) (x : X) → E ls x → ⊥) → {before : Locals} {is : List (Item X)} →
    ExcusedInTurn X R E before is → ⊥
no_turn R E none (this_item {before} {i} x) = none before i.value x
no_turn R E none (later_item h more) = no_turn R E none more

no_group : {X : Type 0} (R : PartRule X) (E : Excuse X) → ((ls : Locals) (x : X) → E ls x → ⊥) → {before : Locals} {g : Group X} →
    ExcusedInGroup X R E before g → ⊥
no_group R E none (excused_alone {before} {x} e) = none before x e
no_group R E none (excused_together e) = no_turn R E none e

module _ (w : World) (u : IsUnbroken w) where
  no_param : (ls : Locals) (x : ParamTree) → ParamIsExcused w ls x → ⊥
  no_param ls x (param_of_broken b) = no_broken_type w u b

  no_types : {is : List (Item TypeTree)} → AnyIsBrokenType w is → ⊥
  no_types (this_type b) = no_broken_type w u b
  no_types (later_type more) = no_types more

  no_result : {r : ResultTree} → ResultIsExcused w r → ⊥
  no_result (one_broken b) = no_broken_type w u b
  no_result (one_of_several b) = no_types b

  no_receiver : {ls : Locals} {o : Option ReceiverTree} → ExcusedIfPresent ReceiverTree (ReceiverIsExcused w) ls o → ⊥
  no_receiver (excused_present (of_broken {r = r} e)) = u.types r.type_name e

  no_global : (ls : Locals) (x : GlobalTree) → GlobalIsExcused w ls x → ⊥
  no_global ls x (global_of_broken b) = no_broken_type w u b

  no_field : {is : List (Item FieldTree)} → FieldIsBroken w is → ⊥
  no_field (this_field b) = no_broken_type w u b
  no_field (later_field more) = no_field more

  no_asked : {is : List (Item ParamTree)} → AskedIsBroken w is → ⊥
  no_asked (this_param b) = no_broken_type w u b
  no_asked (later_param more) = no_asked more

  no_method : {is : List (Item MethodTree)} → MethodIsBroken w is → ⊥
  no_method (in_asked b) = no_asked b
  no_method (in_asked_result b) = no_result b
  no_method (later_method more) = no_method more

  no_body : {b : BodyTree} → BodyIsBroken w b → ⊥
  no_body (other_broken b) = no_broken_type w u b
  no_body (in_struct f) = no_field f
  no_body (in_interface m) = no_method m

  no_spec : (ls : Locals) (x : TypeSpecTree) → TypeIsExcused w ls x → ⊥
  no_spec ls x (in_type_body b) = no_body b

-- Identifiers that are no locals.

abbrev Abroad : List Site → Type 0
Abroad xs = AllByRecursion (λ x. may_be_local x.role ≡ false) xs

abroad_append : (xs ys : List Site) → Abroad xs → Abroad ys → Abroad (xs ++ ys)
abroad_append xs ys a b = all_append (λ (x : Site). may_be_local x.role ≡ false) xs ys a b

pub type_abroad : (s : TokenSpellings) (x : TypeTree) → Abroad (type_sites s x)
unfolding type_sites
type_abroad s (tree.Local n) = (refl, tt)
type_abroad s (tree.Imported p d n) = (refl, (refl, tt))
type_abroad s (tree.Pointer p x) = type_abroad s x
type_abroad s (tree.Slice o c x) = type_abroad s x

list_abroad : {X : Type 0} (f : X → List Site) → ((x : X) → Abroad (f x)) → (is : List (Item X)) → Abroad (list_sites f is)
list_abroad f one [] = tt
list_abroad f one (i ∷ is) = abroad_append (f i.value) (list_sites f is) (one i.value) (list_abroad f one is)

pub group_abroad : {X : Type 0} (f : X → List Site) → ((x : X) → Abroad (f x)) → (g : Group X) → Abroad (spec_sites f g)
unfolding group_sites separated_sites
group_abroad f one (single x) = one x
group_abroad f one (several o is c) = list_abroad f one is

pub global_abroad : (s : TokenSpellings) (x : GlobalTree) → Abroad (global_sites s x)
unfolding global_sites
global_abroad s x = abroad_append (list_sites (global_name s) x.names) (type_sites s x.type_use) (list_abroad (global_name s) (λ n. (refl, tt)) x.names)
    (type_abroad s x.type_use)

field_abroad : (s : TokenSpellings) (x : FieldTree) → Abroad (field_sites s x)
unfolding field_sites
field_abroad s x = abroad_append (list_sites (member_name s) x.names) (type_sites s x.type_use) (list_abroad (member_name s) (λ n. (refl, tt)) x.names)
    (type_abroad s x.type_use)

pub fields_abroad : (s : TokenSpellings) (fs : List (Item FieldTree)) → Abroad (list_sites (field_sites s) fs)
fields_abroad s fs = list_abroad (field_sites s) (field_abroad s) fs

pub result_abroad : (s : TokenSpellings) (r : ResultTree) → Abroad (result_sites s r)
unfolding result_sites
result_abroad s tree.no_result = tt
result_abroad s (tree.one_result x) = type_abroad s x
result_abroad s (tree.results o is c) = list_abroad (type_sites s) (type_abroad s) is

-- Type definitions: a parameter of a method that an interface asks for declares a local, but nothing is bound to it.

abbrev Shut : List Site → Type 0
Shut xs = AllByRecursion IsShut xs

shut_append : (xs ys : List Site) → Shut xs → Shut ys → Shut (xs ++ ys)
shut_append xs ys a b = all_append IsShut xs ys a b

shut_if : (xs : List Site) → Abroad xs → Shut xs
shut_if xs h = all_as (λ (x : Site). may_be_local x.role ≡ false) IsShut (λ x e may held. true≢false (sym may ∙ e)) xs h

list_shut : {X : Type 0} (f : X → List Site) → ((x : X) → Shut (f x)) → (is : List (Item X)) → Shut (list_sites f is)
list_shut f one [] = tt
list_shut f one (i ∷ is) = shut_append (f i.value) (list_sites f is) (one i.value) (list_shut f one is)

asked_ident : (s : TokenSpellings) (o c : ℕ) (x : IdentTree) → Shut (ident_sites s (Declaring (blocks.Inner s.rank o c) c) x)
asked_ident s o c (tree.Named i) = ((λ may held. let lt : c < c = held in omega arith), tt)
asked_ident s o c (tree.Underscore i) = ((λ may held. true≢false (sym may)), tt)

asked_param : (s : TokenSpellings) (o c : ℕ) (x : ParamTree) → Shut (param_sites s (blocks.Inner s.rank o c) c x)
unfolding param_sites
asked_param s o c x =
    let names = ident_sites s (Declaring (blocks.Inner s.rank o c) c) in
    shut_append (list_sites names x.names) (type_sites s x.type_use) (list_shut names (asked_ident s o c) x.names)
    (shut_if (type_sites s x.type_use) (type_abroad s x.type_use))

method_shut : (s : TokenSpellings) (m : MethodTree) → Shut (method_sites s m)
unfolding method_sites
method_shut s m =
    let params = param_sites s (method_block s m) m.rparen in (
      (λ may held. true≢false (sym may)),
      shut_append (list_sites params m.params) (result_sites s m.result) (list_shut params (asked_param s m.lparen m.rparen) m.params)
          (shut_if (result_sites s m.result) (result_abroad s m.result)),
    )

body_shut : (s : TokenSpellings) (b : BodyTree) → Shut (body_sites s b)
unfolding body_sites
body_shut s (tree.Other x) = shut_if (type_sites s x) (type_abroad s x)
body_shut s (tree.Struct k o fs c) = shut_if (list_sites (field_sites s) fs) (fields_abroad s fs)
body_shut s (tree.Interface k o ms c) = list_shut (method_sites s) (method_shut s) ms

spec_shut : (s : TokenSpellings) (x : TypeSpecTree) → Shut (type_spec_sites s x)
unfolding type_spec_sites
spec_shut s x = ((λ may held. true≢false (sym may)), body_shut s x.body)

definitions_shut : (s : TokenSpellings) (g : Group TypeSpecTree) → Shut (spec_sites (type_spec_sites s) g)
unfolding group_sites separated_sites
definitions_shut s (single x) = spec_shut s x
definitions_shut s (several o is c) = list_shut (type_spec_sites s) (spec_shut s) is

name_abroad : (b : Bool) → may_be_local (if b then NotLexical purpose.InitFunction else Declaring blocks.Package 0) ≡ false
name_abroad true = refl
name_abroad false = refl

pub func_abroad : (r : Option ReceiverTree) (name : List ℕ) → may_be_local (func_role r name) ≡ false
func_abroad None name = name_abroad (bytes_eq name (codes "init"))
func_abroad (Some r) name = refl

import_abroad : (s : TokenSpellings) (x : ImportTree) (o : Option ℕ) → Abroad (import_name s o ++ (site s x.path (NotLexical (import_purpose o)) ∷ []))
import_abroad s x None = (refl, tt)
import_abroad s x (Some n) = (refl, (refl, tt))

one_import : (s : TokenSpellings) (x : ImportTree) → Abroad (import_sites s x)
unfolding import_sites
one_import s x = import_abroad s x x.name

pub imports_abroad : (s : TokenSpellings) (xs : List ImportsTree) → Abroad (flat_map (imports_sites s) xs)
unfolding imports_sites
imports_abroad s [] = tt
imports_abroad s (x ∷ xs) =
    abroad_append (imports_sites s x) (flat_map (imports_sites s) xs) (group_abroad (import_sites s) (one_import s) x.imports) (imports_abroad s xs)

-- functions

-- what declares no local
items_stay : {X : Type 0} (check : FoundSoFar → X → FoundSoFar) → ((a : FoundSoFar) (x : X) → (check a x).locals ≡ a.locals) →
    (is : List (Item X)) (st : FoundSoFar) →
    (check_items check st is).locals ≡ st.locals
unfolding check_items
items_stay check same [] st = refl
items_stay check same (i ∷ is) st = items_stay check same is (check st i.value) ∙ same st i.value

group_stays : {X : Type 0} (check : FoundSoFar → X → FoundSoFar) → ((a : FoundSoFar) (x : X) → (check a x).locals ≡ a.locals) →
    (g : Group X) (st : FoundSoFar) →
    (check_group check st g).locals ≡ st.locals
unfolding check_group
group_stays check same (single x) st = same st x
group_stays check same (several o is c) st = items_stay check same is st

receiver_known : (w : World) (s : TokenSpellings) (b : Block) (q : ℕ) (A : List Site) {before after : Locals} {o : Option ReceiverTree} →
    IfPresent ReceiverTree (ReceiverIsTyped w) before o after → AllKnown w before A → AllKnown w after (past A (sites_if (receiver_sites s b q) o))
unfolding receiver_sites
receiver_known w s b q A absent known = known
receiver_known w s b q A {before} {after} (present {x = r} (a_receiver e n behind d)) known =
    let name = ident_sites s (Declaring b q) r.name in
    known_join w after A name (site s r.type_name Use ∷ [])
    (abroad_past w after (past A name) (site s r.type_name Use ∷ [])
    (known_past w before after A name (as_locals_kept d) known (as_all_known w d name (ident_declares w s b q r.name []))) (refl, tt))

params_known : (w : World) (s : TokenSpellings) (b : Block) (q : ℕ) (A : List Site) {before after : Locals} {is : List (Item ParamTree)} →
    InTurn ParamTree (ParamIsTyped w) before is after → AllKnown w before A → AllKnown w after (past A (list_sites (param_sites s b q) is))
unfolding param_sites
params_known w s b q A no_item known = known
params_known w s b q A (then_item {before} {inside} {after} {i} {is} (a_param t d) more) known =
    let names = list_sites (ident_sites s (Declaring b q)) i.value.names in
    let typing = type_sites s i.value.type_use in
    let own = known_join w inside A names typing
    (abroad_past w inside (past A names) typing
    (known_past w before inside A names (as_locals_kept d) known (as_all_known w d names (idents_declare w s b q i.value.names)))
    (type_abroad s i.value.type_use)) in
    known_join w after A (names ++ typing) (list_sites (param_sites s b q) is) (params_known w s b q (past A (names ++ typing)) more own)

receiver_at : (w : World) (st : FoundSoFar) {before after : Locals} {o : Option ReceiverTree} → IfPresent ReceiverTree (ReceiverIsTyped w) before o after →
    st.faults ≡ [] → before ≡ st.locals → IsAt (check_optional_receiver w st o) after
receiver_at w st absent h e = record { locals_are = sym e; faultless = h }
receiver_at w st {before} {after} (present {x = r} t) h e = receiver_true w st r after h (subst (λ z. ReceiverIsTyped w z r after) e t)

module _ (w : World) (B : ℕ → Type 0) (s : TokenSpellings) (u : IsUnbroken w) where
  function_fine : (b : Bool) (A : List Site) (n m : ℕ) (st : FoundSoFar) (f : FuncTree) → IsFunc f → (check_function w b st f).faults ≡ [] → st.faults ≡ [] →
      AllKnown w st.locals A → AreResolved w B A (func_sites s f) → Strung B n (func_tokens f) m → {received entered : Locals} {ts : List PlainType} →
      IfPresent ReceiverTree (ReceiverIsTyped w) st.locals f.receiver received → InTurn ParamTree (ParamIsTyped w) received f.params entered →
      AreResults w f.result ts →
      ((after : Locals) × (BlockIsTyped w ts entered f.body after × (AllKnown w after (past A (func_sites s f)) × (after ≡ (check_function w b st f).locals))))
  unfolding check_function check_signature func_sites func_tokens
  function_fine b A n m st f formed h none known r t {received} {entered} {ts} rec ps rs =
      let block = func_block s f in
      let q = open_of f.body in
      let s1 = sites_if (receiver_sites s block q) f.receiver in
      let name = site s f.name (func_role f.receiver (s.spell f.name)) in
      let s2 = list_sites (param_sites s block q) f.params in
      let s3 = result_sites s f.result in
      let s4 = block_sites s f.body in
      let k1 = receiver_known w s block q A rec known in
      let k2 = abroad_past w received (past A s1) (name ∷ []) k1 (func_abroad f.receiver (s.spell f.name), tt) in
      let k3 = params_known w s block q (name ∷ past A s1) ps k2 in
      let k4 = abroad_past w entered (past (name ∷ past A s1) s2) s3 k3 (result_abroad s f.result) in
      let A4 = past (past (name ∷ past A s1) s2) s3 in
      let at = items_true (ParamIsTyped w) (check_param w) (param_true w) ps (check_optional_receiver w st f.receiver) (receiver_at w st rec none refl) in
      let signed = check_signature w b st f in
      let same : entered ≡ signed.locals = sym at.locals_are in
      let params = list_tokens kind.Comma param_tokens f.params in
      let tail = sign kind.RightParen f.rparen ∷ (result_tokens f.result ++ block_tokens f.body) in
      let t1 = strung_split B n (tokens_if receiver_tokens f.receiver) (sign kind.Name f.name ∷ (sign kind.LeftParen f.lparen ∷ (params ++ tail))) m t in
      let t2 = strung_split B (suc (suc t1.0)) params tail m t1.1.1.1.1.1.1 in
      let t3 = strung_split B (suc t2.0) (result_tokens f.result) (block_tokens f.body) m t2.1.1.1.1 in
      let r1 = resolved_right w B A s1 (name ∷ (s2 ++ (s3 ++ s4))) r in
      let r2 = resolved_right w B (name ∷ past A s1) s2 (s3 ++ s4) r1.1 in
      let r3 = resolved_right w B (past (name ∷ past A s1) s2) s3 s4 r2 in
      let out = block_typed w B s u ts (judge_results w f.result).wanted (results_wanted w rs) A4 t3.0 m f.body signed formed.body h
      (subst (λ z. AllKnown w z A4) same k4) r3 t3.1.1 in
      let after = (check_function w b st f).locals in (
        after,
        (
          subst (λ z. BlockIsTyped w ts z f.body after) (sym same) out.0,
          (
            known_join w after A s1 (name ∷ (s2 ++ (s3 ++ s4)))
                (known_join w after (name ∷ past A s1) s2 (s3 ++ s4) (known_join w after (past (name ∷ past A s1) s2) s3 s4 out.1)),
            refl,
          ),
        ),
      )

  by_case : (b : Bool) (A : List Site) (n m : ℕ) (st : FoundSoFar) (f : FuncTree) → IsFunc f → (check_function w b st f).faults ≡ [] → st.faults ≡ [] →
      AllKnown w st.locals A → AreResolved w B A (func_sites s f) → Strung B n (func_tokens f) m →
      (after : Locals) → after ≡ (check_function w b st f).locals → FunctionIsTyped w b st.locals f after ⊎ FunctionIsExcused w st.locals f →
      Outcome w A (func_sites s f) (FunctionIsTyped w b st.locals f) after
  by_case b A n m st f formed h none known r t after same (inl (a_function rec ps rs keeps body)) =
      let x = function_fine b A n m st f formed h none known r t rec ps rs in
      (a_function rec ps rs keeps body, subst (λ z. AllKnown w z (past A (func_sites s f))) (x.1.1.1 ∙ sym same) x.1.1.0)
  by_case b A n m st f formed h none known r t after same (inr (in_receiver e)) = absurd (no_receiver w u e)
  by_case b A n m st f formed h none known r t after same (inr (in_params rec e)) = absurd (no_turn (ParamIsTyped w) (ParamIsExcused w) (no_param w u) e)
  by_case b A n m st f formed h none known r t after same (inr (in_result e)) = absurd (no_result w u e)
  by_case b A n m st f formed h none known r t after same (inr (in_body {ts = ts} rec ps rs e)) =
      let x = function_fine b A n m st f formed h none known r t rec ps rs in absurd (block_not w ts x.1.0 e)

  function_typed : (b : Bool) (A : List Site) (n m : ℕ) (st : FoundSoFar) (f : FuncTree) → IsFunc f → (check_function w b st f).faults ≡ [] →
      AllKnown w st.locals A → AreResolved w B A (func_sites s f) → Strung B n (func_tokens f) m →
      Outcome w A (func_sites s f) (FunctionIsTyped w b st.locals f) (check_function w b st f).locals
  function_typed b A n m st f formed h known r t =
      let q = function_settled w b st f h in by_case b A n m st f formed h q.0 known r t (check_function w b st f).locals refl q.1

  no_variables : {ls : Locals} {k c : ℕ} {g : Group GlobalTree} → DeclIsExcused w ls (tree.VarDecl k g c) → ⊥
  no_variables (in_variables e) = no_group (GlobalIsTyped w) (GlobalIsExcused w) (no_global w u) e

  no_definitions : {ls : Locals} {k c : ℕ} {g : Group TypeSpecTree} → DeclIsExcused w ls (tree.TypeDecl k g c) → ⊥
  no_definitions (in_types e) = no_group (TypeIsTyped w) (TypeIsExcused w) (no_spec w u) e

  -- declarations

  decl_typed : (is_init : ℕ → Bool) (A : List Site) (n m : ℕ) (st : FoundSoFar) (d : DeclTree) → IsDecl d → (check_decl w is_init st d).faults ≡ [] →
      AllKnown w st.locals A → AreResolved w B A (decl_sites s d) → Strung B n (decl_tokens d) m →
      Outcome w A (decl_sites s d) (DeclIsTyped w is_init st.locals d) (check_decl w is_init st d).locals
  unfolding check_decl decl_sites decl_tokens
  decl_typed is_init A n m st (tree.VarDecl k g c) formed f known r t =
      let sites = spec_sites (global_sites s) g in
      let q = decl_settled w is_init st (tree.VarDecl k g c) f in
      let same = group_stays (check_global w) (λ a x. refl) g st in (
        elim q.1 [ inl h ↦ h | inr e ↦ absurd (no_variables e) ],
        subst (λ z. AllKnown w z (past A sites)) (sym same) (abroad_past w st.locals A sites known (group_abroad (global_sites s) (global_abroad s) g)),
      )
  decl_typed is_init A n m st (tree.TypeDecl k g c) formed f known r t =
      let sites = spec_sites (type_spec_sites s) g in
      let q = decl_settled w is_init st (tree.TypeDecl k g c) f in
      let same = group_stays (check_type w) (λ a x. refl) g st in
      let typed : DeclIsTyped w is_init st.locals (tree.TypeDecl k g c) (check_decl w is_init st (tree.TypeDecl k g c)).locals =
      elim q.1 [ inl h ↦ h | inr e ↦ absurd (no_definitions e) ] in
      (typed, subst (λ z. AllKnown w z (past A sites)) (sym same) (shut_past w st.locals A sites known (definitions_shut s g)))
  decl_typed is_init A n m st (tree.FuncDecl k f c) formed h known r t =
      let x = strung_split B (suc n) (func_tokens f) (sign kind.Semicolon c ∷ []) m t.1.1 in
      let o = function_typed (is_init f.name) A (suc n) x.0 st f formed h known r x.1.0 in (one_function o.0, o.1)

  decls_typed : (is_init : ℕ → Bool) (A : List Site) (n m : ℕ) (ds : List DeclTree) (st : FoundSoFar) → All IsDecl ds →
      (check_decls w is_init st ds).faults ≡ [] →
      AllKnown w st.locals A → AreResolved w B A (flat_map (decl_sites s) ds) → Strung B n (all_tokens decl_tokens ds) m →
      DeclsAreTyped w is_init st.locals ds (check_decls w is_init st ds).locals
  unfolding check_decls all_tokens
  decls_typed is_init A n m [] st formed f known r t = no_decl
  decls_typed is_init A n m (d ∷ ds) st formed f known r t =
      let next = check_decl w is_init st d in
      let x = strung_split B n (decl_tokens d) (all_tokens decl_tokens ds) m t in
      let h = decl_typed is_init A n x.0 st d (All-head IsDecl d ds formed) (decls_first w is_init ds next f) known
      (resolved_left w B A (decl_sites s d) (flat_map (decl_sites s) ds) r) x.1.0 in
      also_decl h.0 (decls_typed is_init (past A (decl_sites s d)) x.0 m ds next (All-tail IsDecl d ds formed) f h.1
      (resolved_right w B A (decl_sites s d) (flat_map (decl_sites s) ds) r) x.1.1)

  pub file_typed : (is_init : ℕ → Bool) (m : ℕ) (f : FileTree) → IsFile f → (check_file w is_init f).faults ≡ [] → AreResolved w B [] (file_sites s f) →
      Strung B 0 (flatten f) m → FileIsTyped w is_init f
  unfolding check_file file_sites flatten
  file_typed is_init m f formed h r t =
      let clause = site s f.name (NotLexical purpose.PackageClause) in
      let imports = flat_map (imports_sites s) f.imports in
      let decls = flat_map (decl_sites s) f.decls in
      let x = strung_split B 3 (all_tokens imports_tokens f.imports) (all_tokens decl_tokens f.decls) m t.1.1.1.1.1.1 in
      let known = abroad_past w no_locals [] (clause ∷ imports) (known_none w no_locals) (refl, imports_abroad s f.imports) in
      a_file (decls_typed is_init (past (clause ∷ []) imports) x.0 m f.decls (record { locals = no_locals; faults = []; uses = [] }) formed.decls h known
      (resolved_right w B (clause ∷ []) imports decls r.1) x.1.1)
