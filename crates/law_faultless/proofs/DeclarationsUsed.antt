-- The same of functions and of declarations of a package.
use Rattle.std.proofs.Common.{ℕ, ◌≡◌, List, [], ◌∷◌, ◌++◌, Bool, true, false, Option, Some, None, if◌then◌else◌, refl}
use Rattle.std.specs.Prelude.{codes, bytes_eq}
use Rattle.std.specs.List.{flat_map}
use Rattle.go_ast.specs.Tree.{Item, Group, TypeTree, ReceiverTree, ParamTree, ResultTree, FuncTree, GlobalTree, FieldTree, MethodTree, BodyTree}
use Rattle.go_ast.specs.Tree.{TypeSpecTree, DeclTree, ImportTree, ImportsTree, single, several}
use Rattle.go_ast.specs.Tree as tree
use Rattle.go_scope.specs.declared.model.Block.{Block}
use Rattle.go_scope.specs.declared.model.Block.TheVariants.{Package}
use Rattle.go_scope.specs.declared.model.Role.TheVariants.{Use, Declaring, NotLexical}
use Rattle.go_scope.specs.declared.model.Purpose.TheVariants as purpose
use Rattle.go_scope.specs.Site.{Site, TokenSpellings, site}
use Rattle.go_scope.specs.ExpressionSites.{sites_if, list_sites, type_sites}
use Rattle.go_scope.specs.StatementSites.{ident_sites, group_sites, separated_sites, open_of, block_sites}
use Rattle.go_scope.specs.FileSites.{global_name, member_name, spec_sites, global_sites, field_sites, body_sites, type_spec_sites, receiver_sites}
use Rattle.go_scope.specs.FileSites.{param_sites, result_sites, func_block, func_role, func_sites, import_name, import_purpose, import_sites, imports_sites}
use Rattle.go_scope.specs.FileSites.{method_block, method_sites, decl_sites}
use Rattle.types_expr.specs.Types.{PlainType}
use Rattle.types_expr.specs.World.{World, Locals}
use Rattle.law_typing.specs.Sequences.{PartRule, InTurn, no_item, then_item, InGroup, alone, together}
use Rattle.law_typing.specs.Declarations.{ParamIsTyped, a_param, AreTypes, no_type_left, also_type, AreResults, none_written, one_written}
use Rattle.law_typing.specs.Declarations.{several_written, FunctionIsTyped, a_function, GlobalIsTyped, without_values, with_literals}
use Rattle.law_typing.specs.Declarations.{FieldsAreTyped, no_field_left, also_field, BodyIsTyped, another_type, a_struct, an_interface, TypeIsTyped}
use Rattle.law_typing.specs.Declarations.{AskedAreTyped, no_param_left, also_param, MethodsAreTyped, no_method_left, also_method}
use Rattle.law_typing.specs.Declarations.{a_definition_of, DeclIsTyped, variables, types, one_function}
use Rattle.law_faultless.specs.StatementAsking.{FunctionAsks, in_body}
use Rattle.law_faultless.specs.MemberLinks.{IsLinked}
use Rattle.law_faultless.proofs.ExpressionsUsed.{AreLinked, linked_append, Tells, type_links}
use Rattle.law_faultless.proofs.SimpleUsed.{ident_links, idents_links}
use Rattle.law_faultless.proofs.StatementsUsed.{block_links}

-- items that ask for nothing
items_links : {X : Type 0} (w : World) (U : ℕ → Type 0) (R : PartRule X) (g : X → List Site) →
    ((before : Locals) (x : X) (after : Locals) → R before x after → AreLinked w U (g x)) → {before after : Locals} {is : List (Item X)} →
    InTurn X R before is after → AreLinked w U (list_sites g is)
items_links w U R g one no_item = tt
items_links w U R g one (then_item {before} {inside} {i = i} {is = is} h more) =
    linked_append w U (g i.value) (list_sites g is) (one before i.value inside h) (items_links w U R g one more)

group_links : {X : Type 0} (w : World) (U : ℕ → Type 0) (R : PartRule X) (g : X → List Site) →
    ((before : Locals) (x : X) (after : Locals) → R before x after → AreLinked w U (g x)) → {before after : Locals} {x : Group X} →
    InGroup X R before x after → AreLinked w U (spec_sites g x)
unfolding group_sites separated_sites
group_links w U R g one (alone {before} {after} {x} h) = one before x after h
group_links w U R g one (together h) = items_links w U R g one h

-- functions

receiver_links : (w : World) (U : ℕ → Type 0) (s : TokenSpellings) (b : Block) (q : ℕ) (r : Option ReceiverTree) →
    AreLinked w U (sites_if (receiver_sites s b q) r)
unfolding receiver_sites
receiver_links w U s b q None = tt
receiver_links w U s b q (Some r) =
    linked_append w U (ident_sites s (Declaring b q) r.name) (site s r.type_name Use ∷ []) (ident_links w U s b q r.name) (tt, tt)

param_links : (w : World) (U : ℕ → Type 0) (s : TokenSpellings) (b : Block) (q : ℕ) (before : Locals) (x : ParamTree) (after : Locals) →
    ParamIsTyped w before x after → AreLinked w U (param_sites s b q x)
unfolding param_sites
param_links w U s b q before x after (a_param i declares) =
    linked_append w U (list_sites (ident_sites s (Declaring b q)) x.names) (type_sites s x.type_use) (idents_links w U s b q x.names)
    (type_links w U s i)

types_links : (w : World) (U : ℕ → Type 0) (s : TokenSpellings) {is : List (Item TypeTree)} {ts : List PlainType} → AreTypes w is ts →
    AreLinked w U (list_sites (type_sites s) is)
types_links w U s no_type_left = tt
types_links w U s (also_type {i} {is} h more) =
    linked_append w U (type_sites s i.value) (list_sites (type_sites s) is) (type_links w U s h) (types_links w U s more)

results_links : (w : World) (U : ℕ → Type 0) (s : TokenSpellings) {r : ResultTree} {ts : List PlainType} → AreResults w r ts →
    AreLinked w U (result_sites s r)
unfolding result_sites
results_links w U s none_written = tt
results_links w U s (one_written h) = type_links w U s h
results_links w U s (several_written h) = types_links w U s h

name_linked : (w : World) (U : ℕ → Type 0) (n : ℕ) (b : Bool) → IsLinked w U n (if b then NotLexical purpose.InitFunction else Declaring Package 0)
name_linked w U n true = tt
name_linked w U n false = tt

func_linked : (w : World) (U : ℕ → Type 0) (n : ℕ) (r : Option ReceiverTree) (name : List ℕ) → IsLinked w U n (func_role r name)
func_linked w U n None name = name_linked w U n (bytes_eq name (codes "init"))
func_linked w U n (Some r) name = tt

function_links : (w : World) (is_init : Bool) (U : ℕ → Type 0) (s : TokenSpellings) {before after : Locals} {f : FuncTree} →
    Tells w U (FunctionAsks w before f) →
    FunctionIsTyped w is_init before f after → AreLinked w U (func_sites s f)
unfolding func_sites
function_links w is_init U s g (a_function {f} {ts} r p rs keeps body) =
    let b = func_block s f in
    let q = open_of f.body in
    let params = list_sites (param_sites s b q) f.params in
    linked_append w U (sites_if (receiver_sites s b q) f.receiver)
    (site s f.name (func_role f.receiver (s.spell f.name)) ∷ (params ++ (result_sites s f.result ++ block_sites s f.body)))
    (receiver_links w U s b q f.receiver) (
      func_linked w U f.name f.receiver (s.spell f.name),
      linked_append w U params (result_sites s f.result ++ block_sites s f.body)
          (items_links w U (ParamIsTyped w) (param_sites s b q) (param_links w U s b q) p)
          (linked_append w U (result_sites s f.result) (block_sites s f.body) (results_links w U s rs)
          (block_links w ts U s (λ n t m a. g n t m (in_body r p rs a)) body)),
    )

-- variables and types

names_links : (w : World) (U : ℕ → Type 0) (s : TokenSpellings) (xs : List (Item ℕ)) → AreLinked w U (list_sites (global_name s) xs)
names_links w U s [] = tt
names_links w U s (x ∷ xs) = (tt, names_links w U s xs)

members_links : (w : World) (U : ℕ → Type 0) (s : TokenSpellings) (xs : List (Item ℕ)) → AreLinked w U (list_sites (member_name s) xs)
members_links w U s [] = tt
members_links w U s (x ∷ xs) = (tt, members_links w U s xs)

global_links : (w : World) (U : ℕ → Type 0) (s : TokenSpellings) (before : Locals) (x : GlobalTree) (after : Locals) → GlobalIsTyped w before x after →
    AreLinked w U (global_sites s x)
unfolding global_sites
global_links w U s before x after (without_values i e) =
    linked_append w U (list_sites (global_name s) x.names) (type_sites s x.type_use) (names_links w U s x.names) (type_links w U s i)
global_links w U s before x after (with_literals i e literals taken) =
    linked_append w U (list_sites (global_name s) x.names) (type_sites s x.type_use) (names_links w U s x.names) (type_links w U s i)

asked_links : (w : World) (U : ℕ → Type 0) (s : TokenSpellings) (b : Block) (q : ℕ) {is : List (Item ParamTree)} → AskedAreTyped w is →
    AreLinked w U (list_sites (param_sites s b q) is)
unfolding param_sites
asked_links w U s b q no_param_left = tt
asked_links w U s b q (also_param {i} {is} h more) =
    linked_append w U (param_sites s b q i.value) (list_sites (param_sites s b q) is)
    (linked_append w U (list_sites (ident_sites s (Declaring b q)) i.value.names) (type_sites s i.value.type_use)
    (idents_links w U s b q i.value.names) (type_links w U s h)) (asked_links w U s b q more)

methods_links : (w : World) (U : ℕ → Type 0) (s : TokenSpellings) {is : List (Item MethodTree)} → MethodsAreTyped w is →
    AreLinked w U (list_sites (method_sites s) is)
unfolding method_sites
methods_links w U s no_method_left = tt
methods_links w U s (also_method {i} {is} ps r more) =
    let params = list_sites (param_sites s (method_block s i.value) i.value.rparen) i.value.params in
    linked_append w U (method_sites s i.value) (list_sites (method_sites s) is)
    (tt, linked_append w U params (result_sites s i.value.result) (asked_links w U s (method_block s i.value) i.value.rparen ps) (results_links w U s r))
    (methods_links w U s more)

fields_links : (w : World) (U : ℕ → Type 0) (s : TokenSpellings) {is : List (Item FieldTree)} → FieldsAreTyped w is →
    AreLinked w U (list_sites (field_sites s) is)
unfolding field_sites
fields_links w U s no_field_left = tt
fields_links w U s (also_field {i} {is} h more) =
    linked_append w U (field_sites s i.value) (list_sites (field_sites s) is)
    (linked_append w U (list_sites (member_name s) i.value.names) (type_sites s i.value.type_use) (members_links w U s i.value.names)
    (type_links w U s h)) (fields_links w U s more)

body_links : (w : World) (U : ℕ → Type 0) (s : TokenSpellings) {x : BodyTree} → BodyIsTyped w x → AreLinked w U (body_sites s x)
unfolding body_sites
body_links w U s (another_type i) = type_links w U s i
body_links w U s (a_struct h) = fields_links w U s h
body_links w U s (an_interface h) = methods_links w U s h

spec_links : (w : World) (U : ℕ → Type 0) (s : TokenSpellings) (before : Locals) (x : TypeSpecTree) (after : Locals) → TypeIsTyped w before x after →
    AreLinked w U (type_spec_sites s x)
unfolding type_spec_sites
spec_links w U s before x after (a_definition_of h) = (tt, body_links w U s h)

pub decl_links : (w : World) (is_init : ℕ → Bool) (U : ℕ → Type 0) (s : TokenSpellings) {before after : Locals} {d : DeclTree} →
    ((p c : ℕ) (f : FuncTree) → d ≡ tree.FuncDecl p f c → FunctionIsTyped w (is_init f.name) before f after → Tells w U (FunctionAsks w before f)) →
    DeclIsTyped w is_init before d after → AreLinked w U (decl_sites s d)
unfolding decl_sites
decl_links w is_init U s g (variables h) = group_links w U (GlobalIsTyped w) (global_sites s) (global_links w U s) h
decl_links w is_init U s g (types h) = group_links w U (TypeIsTyped w) (type_spec_sites s) (spec_links w U s) h
decl_links w is_init U s g (one_function {p} {c} {f} h) = function_links w (is_init f.name) U s (g p c f refl h) h

-- imports

import_links : (w : World) (U : ℕ → Type 0) (s : TokenSpellings) (x : ImportTree) (o : Option ℕ) →
    AreLinked w U (import_name s o ++ (site s x.path (NotLexical (import_purpose o)) ∷ []))
import_links w U s x None = (tt, tt)
import_links w U s x (Some n) = (tt, (tt, tt))

all_imports : (w : World) (U : ℕ → Type 0) (s : TokenSpellings) (xs : List (Item ImportTree)) → AreLinked w U (list_sites (import_sites s) xs)
unfolding import_sites
all_imports w U s [] = tt
all_imports w U s (x ∷ xs) =
    linked_append w U (import_sites s x.value) (list_sites (import_sites s) xs) (import_links w U s x.value x.value.name) (all_imports w U s xs)

group_imports : (w : World) (U : ℕ → Type 0) (s : TokenSpellings) (g : Group ImportTree) → AreLinked w U (spec_sites (import_sites s) g)
unfolding group_sites separated_sites import_sites
group_imports w U s (single x) = import_links w U s x x.name
group_imports w U s (several o xs c) = all_imports w U s xs

pub imports_links : (w : World) (U : ℕ → Type 0) (s : TokenSpellings) (xs : List ImportsTree) → AreLinked w U (flat_map (imports_sites s) xs)
unfolding imports_sites
imports_links w U s [] = tt
imports_links w U s (x ∷ xs) =
    linked_append w U (imports_sites s x) (flat_map (imports_sites s) xs) (group_imports w U s x.imports) (imports_links w U s xs)
