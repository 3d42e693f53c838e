-- The check of package-level declarations and of whole files.
use Rattle.std.specs.Prelude.{ℕ, ◌==◌, Bool, if◌then◌else◌, List, [], ◌∷◌, ◌++◌, Option, Some, None, length, map}
use Rattle.go_ast.specs.Tree.{Item, ParamTree, MethodTree, BasicTree, Integer, String, GlobalTree, FieldTree, BodyTree, Other, Struct, Interface}
use Rattle.go_ast.specs.Tree.{TypeSpecTree, DeclTree}
use Rattle.go_ast.specs.Tree.{VarDecl, TypeDecl, FuncDecl, FileTree}
use Rattle.types_expr.specs.declared.types.Basic.TheVariants as basic
use Rattle.types_expr.specs.Types.{PlainType, Untyped}
use Rattle.types_expr.specs.World.{World, no_locals}
use Rattle.types_expr.specs.Judge.{ListValue, Noted, judge_type}
use Rattle.types_stmt.specs.Checked.{FoundSoFar, with_found, check_group}
use Rattle.types_stmt.specs.Sides.{Wants, all_refused, all_entered}
use Rattle.types_stmt.specs.Headers.{judge_results, check_function}

-- Variables: their values are literals, which have to fit their type. A wrong count is a fault at the first name, also where the type is
-- broken: a broken type does not excuse it.

-- the value of a literal
abbrev pub literal_value : BasicTree → ListValue
literal_value (Integer n) = record { place = n; kind = Some (Untyped basic.Int) }
literal_value (String n) = record { place = n; kind = Some (Untyped basic.String) }

-- the token of the first name
unfoldable pub first_name : List (Item ℕ) → ℕ
first_name [] = 0
first_name (i ∷ is) = i.value

-- the faults of literals given to variables of type t, none where that is broken: those that do not fit, or a wrong count
unfoldable pub literal_faults : World → List (Item ℕ) → Option PlainType → List (Item BasicTree) → List ℕ
literal_faults w names t literals =
    if length literals == length names then all_refused w (map (λ i. literal_value i.value) literals) (map (λ i. Wants t) names) else first_name names ∷ []

-- the faults of the values of variables of type t, if values are written
unfoldable pub value_faults : World → List (Item ℕ) → Option PlainType → Option (ℕ × List (Item BasicTree)) → List ℕ
value_faults w names t None = []
value_faults w names t (Some v) = literal_faults w names t v.1

-- the entries of literals given to variables of type t; under a wrong count none enters
unfoldable pub literal_enterings : World → List (Item ℕ) → Option PlainType → List (Item BasicTree) → List Noted
literal_enterings w names t literals =
    if length literals == length names then all_entered w (map (λ i. literal_value i.value) literals) (map (λ i. Wants t) names) else []

-- the entries of the values of variables of type t, if values are written
unfoldable pub value_enterings : World → List (Item ℕ) → Option PlainType → Option (ℕ × List (Item BasicTree)) → List Noted
value_enterings w names t None = []
value_enterings w names t (Some v) = literal_enterings w names t v.1

-- the faults of a declaration of package-level variables of one type: those of its type, then those of its values
unfoldable pub global_faults : World → GlobalTree → List ℕ
global_faults w g = (judge_type w g.type_use).faults ++ value_faults w g.names (judge_type w g.type_use).type_of g.values

-- the entries of the values of such a declaration
abbrev pub global_enterings : World → GlobalTree → List Noted
global_enterings w g = value_enterings w g.names (judge_type w g.type_use).type_of g.values

-- Types: the faults of a type definition are those of the types written in it.

-- the faults of the types of fields
unfoldable pub field_faults : World → List (Item FieldTree) → List ℕ
field_faults w [] = []
field_faults w (i ∷ is) = (judge_type w i.value.type_use).faults ++ field_faults w is

-- the faults of the types of parameters
unfoldable pub param_faults : World → List (Item ParamTree) → List ℕ
param_faults w [] = []
param_faults w (i ∷ is) = (judge_type w i.value.type_use).faults ++ param_faults w is

-- the faults of the types of the parameters and results of methods that an interface asks for
unfoldable pub asked_faults : World → List (Item MethodTree) → List ℕ
asked_faults w [] = []
asked_faults w (i ∷ is) = param_faults w i.value.params ++ ((judge_results w i.value.result).faults ++ asked_faults w is)

-- the faults of the type that a definition writes
unfoldable pub body_faults : World → BodyTree → List ℕ
body_faults w (Other t) = (judge_type w t).faults
body_faults w (Struct p o fs c) = field_faults w fs
body_faults w (Interface p o ms c) = asked_faults w ms

-- Declarations and files

abbrev pub check_global : World → FoundSoFar → GlobalTree → FoundSoFar
check_global w s g = with_found s (global_faults w g) (global_enterings w g)

abbrev pub check_type : World → FoundSoFar → TypeSpecTree → FoundSoFar
check_type w s t = with_found s (body_faults w t.body) []

-- the check of a declaration; is_init: whether the name at a token is `init`
unfoldable pub check_decl : World → (is_init : ℕ → Bool) → FoundSoFar → DeclTree → FoundSoFar
check_decl w is_init s (VarDecl p g c) = check_group (check_global w) s g
check_decl w is_init s (TypeDecl p g c) = check_group (check_type w) s g
check_decl w is_init s (FuncDecl p f c) = check_function w (is_init f.name) s f

-- the check of declarations in turn
unfoldable pub check_decls : World → (is_init : ℕ → Bool) → FoundSoFar → List DeclTree → FoundSoFar
check_decls w is_init s [] = s
check_decls w is_init s (d ∷ ds) = check_decls w is_init (check_decl w is_init s d) ds

-- the check of a file: the types of its locals, its type faults and its member uses
unfoldable pub check_file : World → (is_init : ℕ → Bool) → FileTree → FoundSoFar
check_file w is_init f = check_decls w is_init (record { locals = no_locals; faults = []; uses = [] }) f.decls
