-- The functions of an object have code that stays within them.
use Rattle.std.proofs.Common.{ℕ, List, [], ◌∷◌, ◌++◌, map, sym, subst, Option, Some, None}
use Rattle.std.specs.Prelude.{⊤, Contains}
use Rattle.std.specs.List.{flat_map, AllByRecursion}
use Rattle.std.proofs.lemmas.List.Elements.{All-from_recursion, All-contains}
use Rattle.go_ast.specs.Tree.{Item, FuncTree, DeclTree, VarDecl, TypeDecl, FuncDecl, FileTree}
use Rattle.go_ast.specs.SourceFile.{SourceFile}
use Rattle.types_expr.specs.Types.{PlainType}
use Rattle.types_expr.specs.Judge.{judge_type}
use Rattle.types_declared.specs.Files.{group_items}
use Rattle.types_declared.specs.Package.{Package}
use Rattle.build_object.specs.Lines.{FunctionName, GlobalName}
use Rattle.build_object.specs.Source.{Source}
use Rattle.build_object.specs.Names.{function_names}
use Rattle.build_object.specs.Objects.{Object, ObjectFunction, ObjectDeclaration, TypeOf, Variable}
use Rattle.build_object.specs.Objects.{FunctionOf, ObjectDefinition, Initial, type_declarations, definition_of, declared_type}
use Rattle.build_object.specs.Objects.{known_variable, first_initial, other_initials, variable_declarations}
use Rattle.build_object.specs.Objects.{literals_of, initials_of, global_variables, declared_function}
use Rattle.build_object.specs.Objects.{declared_by, names_behind, declared_in, names_behind_all, declared_from}
use Rattle.build_object.specs.Sources.{IsObjectOf}
use Rattle.build_object.specs.Fitting.{HasFittingCode}
use Rattle.build_object.proofs.FittingStatements.{function_fits}

abbrev IsFitting : ObjectDeclaration → Type 0
IsFitting (TypeOf name definition) = ⊤
IsFitting (Variable name own value) = ⊤
IsFitting (FunctionOf f) = HasFittingCode f

abbrev AreFitting : List ObjectDeclaration → Type 0
AreFitting ds = AllByRecursion IsFitting ds

both : (ds es : List ObjectDeclaration) → AreFitting ds → AreFitting es → AreFitting (ds ++ es)
both [] es f g = g
both (d ∷ ds) es f g = (f.0, both ds es f.1 g)

each : {X : Type 0} (h : X → List ObjectDeclaration) → ((x : X) → AreFitting (h x)) → (xs : List X) → AreFitting (flat_map h xs)
each h f [] = tt
each h f (x ∷ xs) = both (h x) (flat_map h xs) (f x) (each h f xs)

type_fits : (name : Option GlobalName) (definition : Option ObjectDefinition) → AreFitting (type_declarations name definition)
type_fits None definition = tt
type_fits (Some name) None = tt
type_fits (Some name) (Some definition) = (tt, tt)

variable_fits : (own : Option PlainType) (name : Option GlobalName) (value : Option Initial) → AreFitting (known_variable own name value)
variable_fits None name value = tt
variable_fits (Some own) None value = tt
variable_fits (Some own) (Some name) value = (tt, tt)

variables_fit : (s : Source) (own : Option PlainType) (names : List (Item ℕ)) (values : List (Option Initial)) →
    AreFitting (variable_declarations s own names values)
unfolding variable_declarations
variables_fit s own [] values = tt
variables_fit s own (n ∷ ns) values =
    both (known_variable own (s.global n.value) (first_initial values)) (variable_declarations s own ns (other_initials values))
    (variable_fits own (s.global n.value) (first_initial values)) (variables_fit s own ns (other_initials values))

named_fits : (s : Source) (names : List FunctionName) (f : FuncTree) → AreFitting (declared_function s names f)
named_fits s [] f = tt
named_fits s (name ∷ others) f = (function_fits s f name, tt)

by_fits : (s : Source) (names : List FunctionName) (d : DeclTree) → AreFitting (declared_by s names d)
unfolding declared_by
by_fits s names (VarDecl p g c) =
    each (global_variables s) (λ v. variables_fit s (judge_type s.world v.type_use).type_of v.names (initials_of s (literals_of v.values))) (group_items g)
by_fits s names (TypeDecl p g c) = each (declared_type s) (λ t. type_fits (s.global t.name) (definition_of s.world s.asks t.body)) (group_items g)
by_fits s names (FuncDecl p f c) = named_fits s names f

in_fits : (s : Source) (names : List FunctionName) (ds : List DeclTree) → AreFitting (declared_in s names ds)
unfolding declared_in
in_fits s names [] = tt
in_fits s names (d ∷ ds) = both (declared_by s names d) (declared_in s (names_behind names d) ds) (by_fits s names d) (in_fits s (names_behind names d) ds)

from_fits : (sources : List Source) (names : List FunctionName) (ts : List FileTree) → AreFitting (declared_from sources names ts)
unfolding declared_from
from_fits [] names ts = tt
from_fits (s ∷ ss) names [] = tt
from_fits (s ∷ ss) names (t ∷ ts) = both (declared_in s names t.decls) (declared_from ss (names_behind_all names t.decls) ts) (in_fits s names t.decls)
    (from_fits ss (names_behind_all names t.decls) ts)

pub code_fits : (p : Package) (files_of : List ℕ → List SourceFile) (o : Object) → IsObjectOf p files_of o → (f : ObjectFunction) →
    Contains o.declarations (FunctionOf f) → HasFittingCode f
code_fits p files_of o is f has =
    let all : AreFitting o.declarations = subst (λ (u : Object). AreFitting u.declarations) (sym is.is_object)
    (from_fits is.sources (function_names p.path p.files) (map (λ t. t.tree) p.files)) in
    All-contains IsFitting o.declarations (FunctionOf f) (All-from_recursion IsFitting o.declarations all) has
