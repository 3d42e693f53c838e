-- The declarations of objects stay where tokens get new numbers.
use Rattle.std.proofs.Common.{ℕ, ◌≡◌, List, [], ◌∷◌, ◌++◌, Option, Some, None, option_map, map, length, refl, ap, sym, subst, ◌∙◌}
use Rattle.std.specs.Prelude.{option_to_list}
use Rattle.std.specs.List.{AllByRecursion, flat_map}
use Rattle.std.proofs.Math.Path.{ap₂}
use Rattle.std.proofs.lemmas.List.{length-map}
use Rattle.std.proofs.lemmas.List.Concat.{flat_map-append}
use Rattle.go_ast.specs.declared.syntax.Kind.{Kind}
use Rattle.go_ast.specs.declared.syntax.Kind.TheVariants as kind
use Rattle.go_ast.specs.declared.syntax.Token.{Token}
use Rattle.go_ast.specs.Flatten.{sign, sign_if, tokens_if, all_tokens, list_tokens, group_tokens, name_tokens, ident_tokens, basic_tokens, type_tokens}
use Rattle.go_ast.specs.Flatten.{value_tokens, global_tokens, field_tokens, method_tokens, body_tokens, type_spec_tokens, receiver_tokens, param_tokens}
use Rattle.go_ast.specs.Flatten.{result_tokens}
use Rattle.go_ast.specs.Flatten.{block_tokens, func_tokens, decl_tokens}
use Rattle.go_ast.specs.Tree.{Item, IdentTree, BasicTree, TypeTree, GlobalTree, FieldTree, BodyTree, MethodTree, TypeSpecTree, ReceiverTree, ParamTree}
use Rattle.go_ast.specs.Tree.{ResultTree}
use Rattle.go_ast.specs.Tree.{FuncTree, DeclTree, FileTree}
use Rattle.go_ast.specs.Tree as tree
use Rattle.types_declared.specs.MeaningOf.{parameter_types, result_types}
use Rattle.types_stmt.specs.Headers.{starred}
use Rattle.types_expr.specs.Types.{PlainType, Pointer}
use Rattle.types_expr.specs.World.{World}
use Rattle.types_expr.specs.Judge.{judge_type, named_type, TypeJudged}
use Rattle.build_object.specs.Lines.{FunctionName}
use Rattle.build_object.specs.Source.{Source}
use Rattle.build_object.specs.Slots.{slots_of}
use Rattle.build_object.specs.Statements.{body_lines}
use Rattle.build_object.specs.Objects.{ObjectFunction, FunctionOf, SameAs, Fields, Asks, object_asked, Initial, IntegerValue, TextValue}
use Rattle.build_object.specs.Objects.{written, all_written, definition_of, type_declarations, declared_type, initial_of, known_variable}
use Rattle.build_object.specs.Objects.{first_initial, other_initials, literals_of, variable_declarations, initials_of, global_variables}
use Rattle.build_object.specs.Objects.{receiver_type, function_of, declared_function, declared_by, names_behind, declared_in}
use Rattle.build_object.specs.Objects.{names_behind_all, declared_from}
use Rattle.law_faultless.proofs.DeclaringNames.{AllOf, front, back}
use Rattle.law_rename.specs.Renumbered.{items_by, ident_by, basic_by, type_by, values_by, global_by, field_by, body_by, type_spec_by, receiver_by, param_by}
use Rattle.law_rename.specs.Renumbered.{result_by, method_by, block_by, func_by, decl_by}
use Rattle.law_objects.specs.RenumberedSources.{IsSameAt, IsRenumberedSource, AreRenumberedSources, no_file, one_file, ObjectsRenumber}
use Rattle.law_objects.proofs.Sources.{NewSource, made, the_new, made_is, Same, type_at, same_written}
use Rattle.law_objects.proofs.Lists.{own_tokens, other_tokens, same_items, same_values, same_group}
use Rattle.law_objects.proofs.Slots.{slots_move}
use Rattle.law_objects.proofs.Statements.{body_stays}

one_function : (f g : ObjectFunction) → f.name ≡ g.name → f.parameters ≡ g.parameters → f.results ≡ g.results → f.slots ≡ g.slots → f.code ≡ g.code → f ≡ g
one_function f g n p q k c = λ i. record { name = n i; parameters = p i; results = q i; slots = k i; code = c i }

star_stays : (a b : TypeJudged) → a.type_of ≡ b.type_of → (t : ℕ → ℕ) (star : Option ℕ) → (starred (option_map t star) a).type_of ≡ (starred star b).type_of
star_stays a b e t None = e
star_stays a b e t (Some x) = ap (option_map Pointer) e

module _ (m : NewSource) where
  abbrev t : ℕ → ℕ
  t = m.to

  abbrev s : Source
  s = m.old

  abbrev u : Source
  u = made m

  abbrev v : World
  v = s.world

  abbrev w : World
  w = u.world

  abbrev K : Kind → ℕ → Type 0
  K = Same m

  type_written : (x : TypeTree) → AllOf K (type_tokens x) → written w (type_by t x) ≡ written v x
  type_written x h = ap (λ (o : Option PlainType). option_to_list o) (same_written m x h)

  -- the types of parameters and results

  written_for : (x : TypeTree) → AllOf K (type_tokens x) → (ns : List (Item IdentTree)) →
      all_written w (map (λ (n : Item IdentTree). type_by t x) (items_by t (ident_by t) ns)) ≡ all_written v (map (λ (n : Item IdentTree). x) ns)
  written_for x h [] = refl
  written_for x h (n ∷ ns) = ap₂ (λ a b. a ++ b) (type_written x h) (written_for x h ns)

  parameters : (ps : List (Item ParamTree)) → AllOf K (list_tokens kind.Comma param_tokens ps) →
      all_written w (parameter_types (items_by t (param_by t) ps)) ≡ all_written v (parameter_types ps)
  unfolding all_tokens param_tokens
  parameters [] h = refl
  parameters (p ∷ ps) h =
      let own = own_tokens K t (param_by t) param_tokens kind.Comma p ps h in
      let now = map (λ (n : Item IdentTree). type_by t p.value.type_use) (items_by t (ident_by t) p.value.names) in
      let was = map (λ (n : Item IdentTree). p.value.type_use) p.value.names in
      flat_map-append (written w) now (parameter_types (items_by t (param_by t) ps))
      ∙ ap₂ (λ a b. a ++ b)
      (written_for p.value.type_use (back K (list_tokens kind.Comma ident_tokens p.value.names) (type_tokens p.value.type_use) own) p.value.names)
      (parameters ps (other_tokens K t (param_by t) param_tokens kind.Comma p ps h))
      ∙ sym (flat_map-append (written v) was (parameter_types ps))

  results_stay : (r : ResultTree) → AllOf K (result_tokens r) → all_written w (result_types (result_by t r)) ≡ all_written v (result_types r)
  unfolding result_tokens
  results_stay tree.no_result h = refl
  results_stay (tree.one_result x) h = ap (λ z. z ++ []) (type_written x h)
  results_stay (tree.results o ts c) h =
      same_values K t (type_by t) type_tokens (written w) (written v) type_written kind.Comma ts
      (front K (list_tokens kind.Comma type_tokens ts) (sign kind.RightParen c ∷ []) h.1)

  -- type definitions

  for_each_name : (ys : List PlainType) (ns : List (Item ℕ)) → flat_map (λ (n : Item ℕ). ys) (items_by t t ns) ≡ flat_map (λ (n : Item ℕ). ys) ns
  for_each_name ys [] = refl
  for_each_name ys (n ∷ ns) = ap (λ z. ys ++ z) (for_each_name ys ns)

  field : (f : FieldTree) → AllOf K (field_tokens f) →
      flat_map (λ (n : Item ℕ). written w (field_by t f).type_use) (field_by t f).names ≡ flat_map (λ (n : Item ℕ). written v f.type_use) f.names
  unfolding field_tokens
  field f h =
      ap (λ ys. flat_map (λ (n : Item ℕ). ys) (items_by t t f.names))
      (type_written f.type_use (back K (list_tokens kind.Comma name_tokens f.names) (type_tokens f.type_use) h))
      ∙ for_each_name (written v f.type_use) f.names

  asked_line : (x : MethodTree) → AllOf K (method_tokens x) → (name : Option FunctionName) → object_asked w (method_by t x) name ≡ object_asked v x name
  unfolding method_tokens
  asked_line x h None = refl
  asked_line x h (Some name) =
      let params = list_tokens kind.Comma param_tokens x.params in
      let ends = sign kind.RightParen x.rparen ∷ result_tokens x.result in
      ap₂ (λ ps rs. record { name = name; parameters = ps; results = rs } ∷ []) (parameters x.params (front K params ends h.1.1))
      (results_stay x.result (back K params ends h.1.1).1)

  asked_method : (x : MethodTree) → AllOf K (method_tokens x) → object_asked w (method_by t x) (u.asks (t x.name)) ≡ object_asked v x (s.asks x.name)
  unfolding method_tokens
  asked_method x h = ap (object_asked w (method_by t x)) h.0.asks ∙ asked_line x h (s.asks x.name)

  definition : (b : BodyTree) → AllOf K (body_tokens b) → definition_of w u.asks (body_by t b) ≡ definition_of v s.asks b
  unfolding definition_of body_tokens
  definition (tree.Other x) h = ap (option_map SameAs) (same_written m x h)
  definition (tree.Interface k o ms c) h =
      ap (λ z. Some (Asks z))
      (same_items K t (method_by t) method_tokens (λ (x : MethodTree). object_asked w x (u.asks x.name))
      (λ (x : MethodTree). object_asked v x (s.asks x.name)) asked_method kind.Semicolon ms
      (front K (list_tokens kind.Semicolon method_tokens ms) (sign kind.RightBrace c ∷ []) h.1.1))
  definition (tree.Struct k o fs c) h =
      ap (λ z. Some (Fields z))
      (same_items K t (field_by t) field_tokens (λ (f : FieldTree). flat_map (λ (n : Item ℕ). written w f.type_use) f.names)
      (λ (f : FieldTree). flat_map (λ (n : Item ℕ). written v f.type_use) f.names) field kind.Semicolon fs
      (front K (list_tokens kind.Semicolon field_tokens fs) (sign kind.RightBrace c ∷ []) h.1.1))

  type_spec : (x : TypeSpecTree) → AllOf K (type_spec_tokens x) → declared_type u (type_spec_by t x) ≡ declared_type s x
  unfolding type_spec_tokens
  type_spec x h = ap₂ type_declarations h.0.global (definition x.body h.1)

  -- variables

  initial : (x : BasicTree) → AllOf K (basic_tokens x) → initial_of u (basic_by t x) ≡ initial_of s x
  unfolding initial_of
  initial (tree.Integer n) h = ap (option_map IntegerValue) h.0.number
  initial (tree.String n) h = ap (option_map TextValue) h.0.text

  initials : (xs : List (Item BasicTree)) → AllOf K (list_tokens kind.Comma basic_tokens xs) → initials_of u (items_by t (basic_by t) xs) ≡ initials_of s xs
  unfolding all_tokens
  initials [] h = refl
  initials (x ∷ xs) h =
      ap₂ (λ a rest. a ∷ rest) (initial x.value (own_tokens K t (basic_by t) basic_tokens kind.Comma x xs h))
      (initials xs (other_tokens K t (basic_by t) basic_tokens kind.Comma x xs h))

  given : (o : Option (ℕ × List (Item BasicTree))) → AllOf K (tokens_if (value_tokens basic_tokens) o) →
      initials_of u (literals_of (option_map (values_by t (basic_by t)) o)) ≡ initials_of s (literals_of o)
  given None h = refl
  given (Some o) h = initials o.1 h.1

  variables : (x : Option PlainType) (ns : List (Item ℕ)) → AllOf K (list_tokens kind.Comma name_tokens ns) → (vs : List (Option Initial)) →
      variable_declarations u x (items_by t t ns) vs ≡ variable_declarations s x ns vs
  unfolding variable_declarations all_tokens
  variables x [] h vs = refl
  variables x (n ∷ ns) h vs =
      ap₂ (λ a b. a ++ b) (ap (λ g. known_variable x g (first_initial vs)) h.0.global)
      (variables x ns (other_tokens K t t name_tokens kind.Comma n ns h) (other_initials vs))

  global : (g : GlobalTree) → AllOf K (global_tokens g) → global_variables u (global_by t g) ≡ global_variables s g
  unfolding global_tokens
  global g h =
      let names = list_tokens kind.Comma name_tokens g.names in
      let values = tokens_if (value_tokens basic_tokens) g.values in
      let behind = back K names (type_tokens g.type_use ++ values) h in
      ap₂ (λ x vs. variable_declarations u x (items_by t t g.names) vs) (same_written m g.type_use (front K (type_tokens g.type_use) values behind))
      (given g.values (back K (type_tokens g.type_use) values behind))
      ∙ variables (judge_type v g.type_use).type_of g.names (front K names (type_tokens g.type_use ++ values) h) (initials_of s (literals_of g.values))

  -- functions

  receiver : (r : Option ReceiverTree) → AllOf K (tokens_if receiver_tokens r) → receiver_type w (option_map (receiver_by t) r) ≡ receiver_type v r
  unfolding receiver_tokens
  receiver None h = refl
  receiver (Some r) h =
      let ends = sign_if kind.Comma r.comma ++ (sign kind.RightParen r.rparen ∷ []) in
      let behind = back K (ident_tokens r.name) (sign_if kind.Star r.star ++ (sign kind.Name r.type_name ∷ ends)) h.1 in
      let own = back K (sign_if kind.Star r.star) (sign kind.Name r.type_name ∷ ends) behind in
      ap (λ (o : Option PlainType). option_to_list o)
      (star_stays (named_type (w.bound (t r.type_name)) (t r.type_name)) (named_type (v.bound r.type_name) r.type_name)
      (type_at m r.type_name own.0.bound) t r.star)

  results_counted : (r : ResultTree) → length (result_types (result_by t r)) ≡ length (result_types r)
  results_counted tree.no_result = refl
  results_counted (tree.one_result x) = refl
  results_counted (tree.results o ts c) =
      length-map (items_by t (type_by t) ts) (λ (i : Item TypeTree). i.value) ∙ length-map ts _ ∙ sym (length-map ts (λ (i : Item TypeTree). i.value))

  function : (f : FuncTree) (name : FunctionName) → AllOf K (func_tokens f) → function_of u (func_by t f) name ≡ function_of s f name
  unfolding func_tokens
  function f name h =
      let params = list_tokens kind.Comma param_tokens f.params in
      let ends = sign kind.RightParen f.rparen ∷ (result_tokens f.result ++ block_tokens f.body) in
      let rest = sign kind.Name f.name ∷ sign kind.LeftParen f.lparen ∷ (params ++ ends) in
      let behind = back K (tokens_if receiver_tokens f.receiver) rest h in
      let last = (back K params ends behind.1.1).1 in
      let slots = slots_of v f in
      let moved = slots_move m f h in
      one_function (function_of u (func_by t f) name) (function_of s f name) refl
      (ap₂ (λ a b. a ++ b) (receiver f.receiver (front K (tokens_if receiver_tokens f.receiver) rest h)) (parameters f.params (front K params ends behind.1.1)))
      (results_stay f.result (front K (result_tokens f.result) (block_tokens f.body) last))
      (ap (λ (z : List ℕ). length z) moved ∙ length-map slots t)
      (ap₂ (λ z n. body_lines u z n (block_by t f.body)) moved (results_counted f.result)
      ∙ body_stays m slots (length (result_types f.result)) f.body (back K (result_tokens f.result) (block_tokens f.body) last))

  first_function : (names : List FunctionName) (f : FuncTree) → AllOf K (func_tokens f) → declared_function u names (func_by t f) ≡ declared_function s names f
  first_function [] f h = refl
  first_function (name ∷ others) f h = ap (λ z. FunctionOf z ∷ []) (function f name h)

  -- files

  declaration : (names : List FunctionName) (d : DeclTree) → AllOf K (decl_tokens d) → declared_by u names (decl_by t d) ≡ declared_by s names d
  unfolding declared_by decl_tokens
  declaration names (tree.VarDecl p g c) h =
      same_group K t (global_by t) global_tokens (global_variables u) (global_variables s) global g
      (front K (group_tokens global_tokens g) (sign kind.Semicolon c ∷ []) h.1)
  declaration names (tree.TypeDecl p g c) h =
      same_group K t (type_spec_by t) type_spec_tokens (declared_type u) (declared_type s) type_spec g
      (front K (group_tokens type_spec_tokens g) (sign kind.Semicolon c ∷ []) h.1)
  declaration names (tree.FuncDecl p f c) h = first_function names f (front K (func_tokens f) (sign kind.Semicolon c ∷ []) h.1)

names_left : (t : ℕ → ℕ) (names : List FunctionName) (d : DeclTree) → names_behind names (decl_by t d) ≡ names_behind names d
names_left t names (tree.VarDecl p g c) = refl
names_left t names (tree.TypeDecl p g c) = refl
names_left t names (tree.FuncDecl p f c) = refl

all_names_left : (t : ℕ → ℕ) (names : List FunctionName) (ds : List DeclTree) → names_behind_all names (map (decl_by t) ds) ≡ names_behind_all names ds
unfolding names_behind_all
all_names_left t names [] = refl
all_names_left t names (d ∷ ds) =
    ap (λ z. names_behind_all z (map (decl_by t) ds)) (names_left t names d) ∙ all_names_left t (names_behind names d) ds

declarations : (m : NewSource) (names : List FunctionName) (ds : List DeclTree) → AllOf (Same m) (all_tokens decl_tokens ds) →
    declared_in (made m) names (map (decl_by m.to) ds) ≡ declared_in m.old names ds
unfolding declared_in all_tokens
declarations m names [] h = refl
declarations m names (d ∷ ds) h =
    ap₂ (λ a z. a ++ declared_in (made m) z (map (decl_by m.to) ds)) (declaration m names d (front (Same m) (decl_tokens d) (all_tokens decl_tokens ds) h))
    (names_left m.to names d)
    ∙ ap (λ z. declared_by m.old names d ++ z)
    (declarations m (names_behind names d) ds (back (Same m) (decl_tokens d) (all_tokens decl_tokens ds) h))

of_file : (t : ℕ → ℕ) (ds es : List DeclTree) (s u : Source) → IsRenumberedSource t ds s u → es ≡ map (decl_by t) ds → (names : List FunctionName) →
    declared_in u names es ≡ declared_in s names ds
of_file t ds es s u is decls names =
    let new = the_new t is.numbers s u is.entered in
    let same = made_is t is.numbers s u is.entered is.definition is.implements is.function is.position is.asked in
    ap₂ (λ z d. declared_in z names d) (sym same) decls
    ∙ declarations new names ds
    (subst (λ (z : Source). AllByRecursion (λ (token : Token). IsSameAt t s z token.place) (all_tokens decl_tokens ds)) (sym same) is.tokens)

from_all : (fs gs : List FileTree) (ss us : List Source) → AreRenumberedSources fs gs ss us → (names : List FunctionName) →
    declared_from us names gs ≡ declared_from ss names fs
unfolding declared_from
from_all _ _ _ _ no_file names = refl
from_all _ _ _ _ (one_file {t = t} {f = f} {g = g} {fs = fs} {gs = gs} {s = s} {u = u} {ss = ss} {us = us} is decls rest) names =
    ap₂ (λ a z. a ++ declared_from us z gs) (of_file t f.decls g.decls s u is decls names)
    (ap (names_behind_all names) decls ∙ all_names_left t names f.decls)
    ∙ ap (λ z. declared_in s names f.decls ++ z) (from_all fs gs ss us rest (names_behind_all names f.decls))

-- the object of a package whose tokens got new numbers
pub objects_renumber : ObjectsRenumber
objects_renumber fs gs ss us are path name imports functions =
    ap (λ ds. record { path = path; name = name; imports = imports; declarations = ds }) (from_all fs gs ss us are functions)
