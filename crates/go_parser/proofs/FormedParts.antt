-- Well-formed declarations and files consist of well-formed parts.
use Rattle.std.proofs.Common.{ℕ, ◌≡◌, false, List, [], ◌∷◌, Option, Some, None, refl, Result, Ok, Err, suc, arith}
use Rattle.std.specs.Result.{IfOk}
use Rattle.std.specs.List.{All}
use Rattle.std.proofs.lemmas.List.Elements.{All-cons, All-nil, All-map}
use Rattle.go_ast.specs.declared.tree.Item.{Item}
use Rattle.go_ast.specs.declared.tree.Group.{Group}
use Rattle.go_ast.specs.declared.tree.Group.TheVariants as group
use Rattle.go_ast.specs.declared.tree.VarSpec.{VarSpec}
use Rattle.go_ast.specs.declared.tree.FieldDecl.{FieldDecl}
use Rattle.go_ast.specs.declared.tree.Param.{Param}
use Rattle.go_ast.specs.declared.tree.TypeExpr.{TypeExpr}
use Rattle.go_ast.specs.declared.tree.MethodSpec.{MethodSpec}
use Rattle.go_ast.specs.declared.tree.TypeBody.TheVariants as body
use Rattle.go_ast.specs.declared.tree.TypeSpec.{TypeSpec}
use Rattle.go_ast.specs.declared.tree.Results.TheVariants as results
use Rattle.go_ast.specs.declared.tree.Values.{Values}
use Rattle.go_ast.specs.declared.tree.LocalSpec.{LocalSpec}
use Rattle.go_ast.specs.declared.tree.ImportDecl.{ImportDecl}
use Rattle.go_ast.specs.declared.tree.FuncDecl.{FuncDecl}
use Rattle.go_ast.specs.declared.tree.Decl.TheVariants as decl
use Rattle.go_ast.specs.declared.tree.File.{File}
use Rattle.go_ast.specs.WellFormed.{IsSeparated, IsList, IsOpenList, IsGroup, IsNoneOr, Any, IsExprIn, IsLocal, IsGlobal, IsField, IsBody, IsTypeSpec}
use Rattle.go_ast.specs.WellFormed.{IsMethodSpec, IsParam, IsResult, IsBlock, IsFunc, IsImports, IsDecl, IsFile}
use Rattle.go_parser.specs.Listed.{HasTypeOrValues}
use Rattle.go_ast.specs.View.{option_view, list_view, item_view, group_view, ident_view, type_view, exprs_view}
use Rattle.go_ast.specs.FileView.{same_index, values_view, local_view, import_view, var_values_view, global_view, field_view, body_view, type_spec_view}
use Rattle.go_ast.specs.FileView.{method_view, param_view, results_view, block_view, func_view, imports_view, decl_view, file_view}

pub if_ok : {Y E : Type 0} (P Q : Y → Type 0) (r : Result Y E) → ((y : Y) → P y → Q y) → IfOk r P → IfOk r Q
if_ok P Q (Ok y) f h = f y h
if_ok P Q (Err e) f h = h

pub head_of : {X : Type 0} (P : X → Type 0) (x : X) (xs : List X) → All P (x ∷ xs) → P x
head_of P x xs a = a 0 x (omega arith)

pub tail_of : {X : Type 0} (P : X → Type 0) (x : X) (xs : List X) → All P (x ∷ xs) → All P xs
tail_of P x xs a = λ k d h. a (suc k) d (omega (arith, h))

-- groups

pub single_formed : {X : Type 0} (P : X → Type 0) (x : X) → P x → IsGroup P (group_view (λ y. y) (group.Single x))
unfolding group_view
single_formed P x h = h

pub several_formed : {X : Type 0} (P : X → Type 0) (o : ℕ) (xs : _) (c : ℕ) → let x : Group X = group.Several o xs c in
    IsOpenList P (list_view (λ y. y) xs.items) → IsGroup P (group_view (λ y. y) x)
unfolding group_view
several_formed P o xs c h = h

no_items : {X Y : Type 0} (view : X → Y) (xs : List (Item X)) → list_view (λ y. y) xs ≡ [] → list_view view xs ≡ []
no_items view [] e = refl
no_items view (x ∷ xs) e = absurd (let f : ⊥ = cc in f)

separated_view : {X Y : Type 0} (view : X → Y) (xs : List (Item X)) → IsSeparated (list_view (λ y. y) xs) → IsSeparated (list_view view xs)
separated_view view [] h = tt
separated_view view (x ∷ xs) h = (λ e. no_items view xs (h.0 e), separated_view view xs h.1)

all_view : {X Y : Type 0} (P : Y → Type 0) (view : X → Y) (xs : List (Item X)) → All (λ i. P (view i.value)) (list_view (λ y. y) xs) →
    All (λ i. P i.value) (list_view view xs)
all_view P view [] h = All-nil (λ i. P i.value)
all_view P view (x ∷ xs) h = All-cons (λ i. P i.value) (item_view view x) (list_view view xs)
    (head_of (λ i. P (view i.value)) (item_view (λ y. y) x) (list_view (λ y. y) xs) h)
    (all_view P view xs (tail_of (λ i. P (view i.value)) (item_view (λ y. y) x) (list_view (λ y. y) xs) h))

pub group_formed : {X Y : Type 0} (P : Y → Type 0) (view : X → Y) (g : Group X) → IsGroup (λ x. P (view x)) (group_view (λ y. y) g) →
    IsGroup P (group_view view g)
unfolding group_view
group_formed P view (group.Single x) h = h
group_formed P view (group.Several o xs c) h = record { separated = separated_view view xs.items h.separated; each = all_view P view xs.items h.each }

-- declarations

pub global_formed : (g : VarSpec) → IsList Any (list_view same_index g.names.items) → IsNoneOr (λ v. IsList Any v.1) (option_view var_values_view g.values) →
    IsGlobal (global_view g)
unfolding global_view
global_formed g n v = record { names = n; values = v }

pub field_formed : (f : FieldDecl) → IsList Any (list_view same_index f.names.items) → IsField (field_view f)
unfolding field_view
field_formed f h = h

pub type_formed : (t : TypeExpr) → IsBody (body_view (body.Type t))
unfolding body_view
type_formed t = tt

pub struct_formed : (s o : ℕ) (fs : _) (c : ℕ) → let x = body.Struct s o fs c in IsOpenList IsField (list_view field_view fs.items) → IsBody (body_view x)
unfolding body_view
struct_formed s o fs c h = h

pub method_formed : (m : MethodSpec) → IsOpenList IsParam (list_view param_view m.params.items) → IsResult (results_view m.results) →
    IsMethodSpec (method_view m)
unfolding method_view
method_formed m p r = record { params = p; result = r }

pub interface_formed : (s o : ℕ) (ms : _) (c : ℕ) → let x = body.Interface s o ms c in
    IsOpenList IsMethodSpec (list_view method_view ms.items) → IsBody (body_view x)
unfolding body_view
interface_formed s o ms c h = h

pub type_spec_formed : (t : TypeSpec) → IsBody (body_view t.body) → IsTypeSpec (type_spec_view t)
unfolding type_spec_view
type_spec_formed t h = h

pub param_formed : (p : Param) → IsList Any (list_view ident_view p.names.items) → IsParam (param_view p)
unfolding param_view
param_formed p h = h

pub no_results_formed : IsResult (results_view results.None)
unfolding results_view
no_results_formed = tt

pub one_result_formed : (t : TypeExpr) → IsResult (results_view (results.Single t))
unfolding results_view
one_result_formed t = tt

pub several_results_formed : (o : ℕ) (ts : _) (c : ℕ) → let x = results.Several o ts c in
    IsOpenList Any (list_view type_view ts.items) → IsResult (results_view x)
unfolding results_view
several_results_formed o ts c h = h

-- local variables

some_none : {X : Type 0} {x : X} → Some x ≡ None → ⊥
some_none e = cc

pub told_by_values : (v : Values) → IsList (IsExprIn false) (exprs_view v.values.items) → HasTypeOrValues None (Some v)
told_by_values v h = record { told = λ e f. some_none f; formed = h }

pub told_by_type : (t : TypeExpr) (v : Option Values) → IsNoneOr (λ v. IsList (IsExprIn false) v.1) (option_view values_view v) → HasTypeOrValues (Some t) v
told_by_type t v h = record { told = λ e. absurd (some_none e); formed = h }

pub local_formed : (l : LocalSpec) → IsList Any (list_view ident_view l.names.items) → HasTypeOrValues l.local_type l.values → IsLocal (local_view l)
unfolding local_view
local_formed l n t = record { names = n; told = t.told; values = t.formed }

-- functions, imports and files

pub func_formed : (f : FuncDecl) → IsOpenList IsParam (list_view param_view f.params.items) → IsResult (results_view f.results) →
    IsBlock (block_view f.body) → IsFunc (func_view f)
unfolding func_view
func_formed f p r b = record { params = p; result = r; body = b }

pub imports_formed : (i : ImportDecl) → IsGroup Any (group_view (λ y. y) i.group) → IsImports (imports_view i)
unfolding imports_view
imports_formed i h = group_formed Any import_view i.group h

pub var_decl_formed : (p : ℕ) (g : _) (s : ℕ) → IsGroup (λ x. IsGlobal (global_view x)) (group_view (λ y. y) g) → IsDecl (decl_view (decl.Var p g s))
unfolding decl_view
var_decl_formed p g s h = group_formed IsGlobal global_view g h

pub type_decl_formed : (p : ℕ) (g : _) (s : ℕ) → IsGroup (λ x. IsTypeSpec (type_spec_view x)) (group_view (λ y. y) g) → IsDecl (decl_view (decl.Type p g s))
unfolding decl_view
type_decl_formed p g s h = group_formed IsTypeSpec type_spec_view g h

pub func_decl_formed : (p : ℕ) (f : FuncDecl) (s : ℕ) → IsFunc (func_view f) → IsDecl (decl_view (decl.Func p f s))
unfolding decl_view
func_decl_formed p f s h = h

pub file_formed : (f : File) → All (λ i. IsImports (imports_view i)) f.imports.items → All (λ d. IsDecl (decl_view d)) f.decls.items → IsFile (file_view f)
unfolding file_view
file_formed f i d = record { imports = All-map IsImports imports_view f.imports.items i; decls = All-map IsDecl decl_view f.decls.items d }
