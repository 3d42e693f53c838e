-- The declarations of objects with other names.
use Rattle.std.proofs.Common.{ℕ, ◌≡◌, List, [], ◌∷◌, ◌++◌, Option, Some, None, option_map, map, length, refl, ap, sym, ◌∙◌}
use Rattle.std.proofs.Math.Path.{ap₂}
use Rattle.std.proofs.lemmas.List.{map-append}
use Rattle.go_ast.specs.declared.syntax.Kind.{Kind}
use Rattle.go_ast.specs.declared.syntax.Kind.TheVariants as kind
use Rattle.go_ast.specs.Flatten.{sign, sign_if, tokens_if, all_tokens, list_tokens, group_tokens, name_tokens, basic_tokens, type_tokens, value_tokens}
use Rattle.go_ast.specs.Flatten.{global_tokens, type_spec_tokens, receiver_tokens, param_tokens, result_tokens, block_tokens, func_tokens, decl_tokens}
use Rattle.go_ast.specs.Flatten.{item_tokens}
use Rattle.go_ast.specs.Tree.{Item, BasicTree, GlobalTree, BodyTree, MethodTree, TypeSpecTree, FuncTree, DeclTree, FileTree}
use Rattle.go_ast.specs.Tree as tree
use Rattle.types_declared.specs.MeaningOf.{result_types}
use Rattle.types_expr.specs.Types.{PlainType}
use Rattle.types_expr.specs.World.{World}
use Rattle.types_expr.specs.Judge.{judge_type}
use Rattle.build_object.specs.Lines.{GlobalName, FunctionName}
use Rattle.build_object.specs.Source.{Source}
use Rattle.build_object.specs.Slots.{slots_of}
use Rattle.build_object.specs.Statements.{body_lines}
use Rattle.build_object.specs.Objects.{ObjectFunction, ObjectDeclaration, FunctionOf, ObjectDefinition, SameAs}
use Rattle.build_object.specs.Objects.{Asks, object_asked, asked_methods, Initial, IntegerValue}
use Rattle.build_object.specs.Objects.{definition_of, type_declarations, declared_type, initial_of, known_variable, first_initial, other_initials, literals_of}
use Rattle.build_object.specs.Objects.{variable_declarations, initials_of, global_variables, function_of, declared_function}
use Rattle.build_object.specs.Objects.{declared_by, others_of, names_behind, declared_in, names_behind_all, declared_from}
use Rattle.law_faultless.proofs.DeclaringNames.{AllOf, front, back}
use Rattle.law_changed_types.proofs.Agreement.{Members}
use Rattle.law_changed_types.proofs.Rules.{same_type}
use Rattle.law_objects.specs.Replaced.{Replaced, asked_renamed_by, definition_by, function_by, declaration_by}
use Rattle.law_objects.proofs.ListsBy.{group_by}
use Rattle.law_objects.proofs.SlotsStay.{same_definition, same_parameters, same_results, same_slots}
use Rattle.law_objects.proofs.StatementsBy.{body_with}
use Rattle.law_objects.specs.SourcesBy.{IsUniform, NumbersStay, AreSourcesBy, no_source, no_tree, a_source, source_by, SourcesGiveObjects}

same_function : (f g : ObjectFunction) → f.name ≡ g.name → f.parameters ≡ g.parameters → f.results ≡ g.results → f.slots ≡ g.slots → f.code ≡ g.code → f ≡ g
same_function f g n p q k c = λ i. record { name = n i; parameters = p i; results = q i; slots = k i; code = c i }

module _ (r : Replaced) where
  abbrev D : List ObjectDeclaration → List ObjectDeclaration
  D ds = map (declaration_by r) ds

  abbrev named : List FunctionName → List FunctionName
  named fs = map r.function fs

  both : (xs ys : List ObjectDeclaration) → D xs ++ D ys ≡ D (xs ++ ys)
  both xs ys = sym (map-append (declaration_by r) xs ys)

  type_by : (name : Option GlobalName) (d : Option ObjectDefinition) →
      type_declarations (option_map r.global name) (option_map (definition_by r) d) ≡ D (type_declarations name d)
  type_by None d = refl
  type_by (Some name) None = refl
  type_by (Some name) (Some d) = refl

  -- what types are defined as

  same_as : (t : Option PlainType) → option_map SameAs t ≡ option_map (definition_by r) (option_map SameAs t)
  same_as None = refl
  same_as (Some t) = refl

  asked_if_named : (w : World) (m : MethodTree) (name : Option FunctionName) →
      object_asked w m (option_map r.function name) ≡ map (asked_renamed_by r) (object_asked w m name)
  asked_if_named w m None = refl
  asked_if_named w m (Some name) = refl

  all_asked : (w : World) (asks : ℕ → Option FunctionName) (ms : List (Item MethodTree)) →
      asked_methods w (λ n. option_map r.function (asks n)) ms ≡ map (asked_renamed_by r) (asked_methods w asks ms)
  all_asked w asks [] = refl
  all_asked w asks (i ∷ is) =
      ap₂ (λ a b. a ++ b) (asked_if_named w i.value (asks i.value.name)) (all_asked w asks is)
      ∙ sym (map-append (asked_renamed_by r) (object_asked w i.value (asks i.value.name)) (asked_methods w asks is))

  defined_by : (w : World) (asks : ℕ → Option FunctionName) (b : BodyTree) →
      definition_of w (λ n. option_map r.function (asks n)) b ≡ option_map (definition_by r) (definition_of w asks b)
  unfolding definition_of
  defined_by w asks (tree.Other t) = same_as (judge_type w t).type_of
  defined_by w asks (tree.Struct k o fs c) = refl
  defined_by w asks (tree.Interface k o ms c) = ap (λ z. Some (Asks z)) (all_asked w asks ms)

  variable_by : (t : Option PlainType) (name : Option GlobalName) (v : Option Initial) →
      known_variable t (option_map r.global name) v ≡ D (known_variable t name v)
  variable_by None name v = refl
  variable_by (Some t) None v = refl
  variable_by (Some t) (Some name) v = refl

  others_by : (names : List FunctionName) → others_of (named names) ≡ named (others_of names)
  others_by [] = refl
  others_by (name ∷ others) = refl

  behind_by : (names : List FunctionName) (d : DeclTree) → names_behind (named names) d ≡ named (names_behind names d)
  behind_by names (tree.VarDecl p g c) = refl
  behind_by names (tree.TypeDecl p g c) = refl
  behind_by names (tree.FuncDecl p f c) = others_by names

  pub behind_all_by : (names : List FunctionName) (ds : List DeclTree) → names_behind_all (named names) ds ≡ named (names_behind_all names ds)
  unfolding names_behind_all
  behind_all_by names [] = refl
  behind_all_by names (d ∷ ds) = ap (λ z. names_behind_all z ds) (behind_by names d) ∙ behind_all_by (names_behind names d) ds

  module _ (uniform : IsUniform r) (s : Source) (m : Members) (numbers : ℕ → Option ℕ)
      (agree : (n : ℕ) (t : PlainType) → s.before n ≡ Some t → m n t ≡ s.world.member n t) where
    abbrev now : Source
    now = source_by r s m numbers

    abbrev K : Kind → ℕ → Type 0
    K = NumbersStay s numbers

    -- types

    type_spec : (t : TypeSpecTree) → AllOf K (type_spec_tokens t) → declared_type now t ≡ D (declared_type s t)
    type_spec t h =
        ap (type_declarations (option_map r.global (s.global t.name))) (same_definition s.world m now.asks t.body ∙ defined_by s.world s.asks t.body)
        ∙ type_by (s.global t.name) (definition_of s.world s.asks t.body)

    -- variables

    initial : (x : BasicTree) → AllOf K (basic_tokens x) → initial_of now x ≡ initial_of s x
    unfolding initial_of
    initial (tree.Integer n) h = ap (option_map IntegerValue) (h.0 refl)
    initial (tree.String n) h = refl

    initials : (xs : List (Item BasicTree)) → AllOf K (list_tokens kind.Comma basic_tokens xs) → initials_of now xs ≡ initials_of s xs
    unfolding all_tokens
    initials [] h = refl
    initials (x ∷ xs) h =
        let own = item_tokens kind.Comma basic_tokens x in
        let rest = list_tokens kind.Comma basic_tokens xs in
        ap₂ (λ a rest. a ∷ rest) (initial x.value (front K (basic_tokens x.value) (sign_if kind.Comma x.separator) (front K own rest h)))
        (initials xs (back K own rest h))

    given : (v : Option (ℕ × List (Item BasicTree))) → AllOf K (tokens_if (value_tokens basic_tokens) v) →
        initials_of now (literals_of v) ≡ initials_of s (literals_of v)
    given None h = refl
    given (Some v) h = initials v.1 h.1

    variables : (t : Option PlainType) (ns : List (Item ℕ)) (vs : List (Option Initial)) →
        variable_declarations now t ns vs ≡ D (variable_declarations s t ns vs)
    unfolding variable_declarations
    variables t [] vs = refl
    variables t (n ∷ ns) vs =
        ap₂ (λ a b. a ++ b) (variable_by t (s.global n.value) (first_initial vs)) (variables t ns (other_initials vs))
        ∙ both (known_variable t (s.global n.value) (first_initial vs)) (variable_declarations s t ns (other_initials vs))

    global : (g : GlobalTree) → AllOf K (global_tokens g) → global_variables now g ≡ D (global_variables s g)
    unfolding global_tokens
    global g h =
        let behind = back K (list_tokens kind.Comma name_tokens g.names) (type_tokens g.type_use ++ tokens_if (value_tokens basic_tokens) g.values) h in
        ap (λ z. variable_declarations now z.type_of g.names (initials_of now (literals_of g.values))) (same_type s.world m g.type_use)
        ∙ ap (variable_declarations now (judge_type s.world g.type_use).type_of g.names)
        (given g.values (back K (type_tokens g.type_use) (tokens_if (value_tokens basic_tokens) g.values) behind))
        ∙ variables (judge_type s.world g.type_use).type_of g.names (initials_of s (literals_of g.values))

    -- functions

    body_of : (f : FuncTree) → AllOf K (func_tokens f) → AllOf K (block_tokens f.body)
    unfolding func_tokens
    body_of f h =
        let params = list_tokens kind.Comma param_tokens f.params in
        let ends = sign kind.RightParen f.rparen ∷ (result_tokens f.result ++ block_tokens f.body) in
        let behind = back K (tokens_if receiver_tokens f.receiver) (sign kind.Name f.name ∷ sign kind.LeftParen f.lparen ∷ (params ++ ends)) h in
        back K (result_tokens f.result) (block_tokens f.body) (back K params ends behind.1.1).1

    function_with : (f : FuncTree) (name : FunctionName) → AllOf K (func_tokens f) → function_of now f (r.function name) ≡ function_by r (function_of s f name)
    function_with f name h =
        let slots = same_slots s.world m f in
        same_function (function_of now f (r.function name)) (function_by r (function_of s f name)) refl (same_parameters s.world m f)
        (same_results s.world m f) (ap (λ (z : List ℕ). length z) slots)
        (ap (λ z. body_lines now z (length (result_types f.result)) f.body) slots
        ∙ body_with r uniform s m numbers agree (slots_of s.world f) (length (result_types f.result)) f.body (body_of f h))

    function : (names : List FunctionName) (f : FuncTree) → AllOf K (func_tokens f) → declared_function now (named names) f ≡ D (declared_function s names f)
    function [] f h = refl
    function (name ∷ others) f h = ap (λ z. FunctionOf z ∷ []) (function_with f name h)

    -- files

    one : (names : List FunctionName) (d : DeclTree) → AllOf K (decl_tokens d) → declared_by now (named names) d ≡ D (declared_by s names d)
    unfolding declared_by decl_tokens
    one names (tree.VarDecl p g c) h =
        group_by K (declaration_by r) global_tokens (global_variables now) (global_variables s) global g
        (front K (group_tokens global_tokens g) (sign kind.Semicolon c ∷ []) h.1)
    one names (tree.TypeDecl p g c) h =
        group_by K (declaration_by r) type_spec_tokens (declared_type now) (declared_type s) type_spec g
        (front K (group_tokens type_spec_tokens g) (sign kind.Semicolon c ∷ []) h.1)
    one names (tree.FuncDecl p f c) h = function names f (front K (func_tokens f) (sign kind.Semicolon c ∷ []) h.1)

    pub declared_with : (names : List FunctionName) (ds : List DeclTree) → AllOf K (all_tokens decl_tokens ds) →
        declared_in now (named names) ds ≡ D (declared_in s names ds)
    unfolding declared_in all_tokens
    declared_with names [] h = refl
    declared_with names (d ∷ ds) h =
        ap₂ (λ a z. a ++ declared_in now z ds) (one names d (front K (decl_tokens d) (all_tokens decl_tokens ds) h)) (behind_by names d)
        ∙ ap (λ z. D (declared_by s names d) ++ z) (declared_with (names_behind names d) ds (back K (decl_tokens d) (all_tokens decl_tokens ds) h))
        ∙ both (declared_by s names d) (declared_in s (names_behind names d) ds)

module _ (r : Replaced) (uniform : IsUniform r) where
  none_from : (ss : List Source) (names : List FunctionName) → declared_from ss names [] ≡ []
  unfolding declared_from
  none_from [] names = refl
  none_from (s ∷ ss) names = refl

  from_with : (names : List FunctionName) (trees : List FileTree) (ss ts : List Source) → AreSourcesBy r trees ss ts →
      declared_from ts (named r names) trees ≡ D r (declared_from ss names trees)
  unfolding declared_from
  from_with names trees _ _ no_source = refl
  from_with names _ ss ts no_tree = none_from ts (named r names) ∙ ap (D r) (sym (none_from ss names))
  from_with names _ _ _ (a_source {tree = tree} {trees = trees} {s = s} {t = t} {ss = ss} {ts = ts} is rest) =
      ap (λ z. declared_in z (named r names) tree.decls ++ declared_from ts (names_behind_all (named r names) tree.decls) trees) is.same
      ∙ ap₂ (λ a z. a ++ declared_from ts z trees)
      (declared_with r uniform s t.world.member t.number is.agree names tree.decls is.numbers) (behind_all_by r names tree.decls)
      ∙ ap (λ z. D r (declared_in s names tree.decls) ++ z) (from_with (names_behind_all names tree.decls) trees ss ts rest)
      ∙ both r (declared_in s names tree.decls) (declared_from ss (names_behind_all names tree.decls) trees)

-- the object of a package with other names
pub object_with : SourcesGiveObjects
object_with r uniform trees ss ts are path name imports functions =
    ap (λ ds. record { path = path; name = name; imports = imports; declarations = ds }) (from_with r uniform functions trees ss ts are)
