-- Each definition of a declaration of a file has its line.
use Rattle.std.proofs.Common.{ℕ, suc, ◌≡◌, ◌+◌, inl, inr, List, [], ◌∷◌, ◌++◌, length, map, Option, Some, sym, subst, refl, ◌∙◌, arith}
use Rattle.std.proofs.Common.{length-append, append_assoc}
use Rattle.std.specs.Prelude.{⊤, slice_get}
use Rattle.std.specs.List.{AllByRecursion, flat_map}
use Rattle.base_files.specs.Workspace.{Workspace}
use Rattle.base_lemmas.proofs.EachElement.{all_front, all_back}
use Rattle.go_ast.specs.SourceFile.{SourceFile, spelling_of}
use Rattle.go_ast.specs.Tree.{Item, Group, single, several, TypeTree, GlobalTree, TypeSpecTree, DeclTree, VarDecl, TypeDecl, FuncDecl}
use Rattle.go_scope.specs.ExpressionSites.{list_sites}
use Rattle.go_scope.specs.FileSites.{global_name, global_sites, type_spec_sites, spec_sites, decl_sites}
use Rattle.go_scope.specs.ExpressionSites.{type_sites}
use Rattle.go_scope.specs.Site.{Site}
use Rattle.go_scope.specs.Site.{TokenSpellings as Spelled}
use Rattle.go_scope.specs.StatementSites.{group_sites, separated_sites}
use Rattle.types_expr.specs.Types.{PlainType}
use Rattle.types_expr.specs.World.{World, Locals}
use Rattle.law_typing.specs.Declarations.{GlobalIsTyped, without_values, with_literals, BodyIsTyped}
use Rattle.law_typing.specs.Declarations.{TypeIsTyped, a_definition_of, DeclIsTyped, variables, types}
use Rattle.law_typing.specs.Declarations.{one_function, DeclsAreTyped, no_decl, also_decl}
use Rattle.law_typing.specs.Names.{IsType}
use Rattle.law_typing.specs.Sequences.{PartRule, InTurn, no_item, then_item, InGroup, alone, together}
use Rattle.types_declared.specs.Files.{group_items}
use Rattle.types_declared.specs.Package.{Package, PlacedType, PlacedVariable, placed_type, package_types, variables_of, decl_types, decl_functions}
use Rattle.types_info.specs.Worlds.{is_init}
use Rattle.types_info.proofs.DeclKinds.{Holds, held_left, held_right}
use Rattle.workspace_check.specs.FaultLists.{ListsFaults}
use Rattle.workspace_check.specs.Verdicts.{Verdicts, AreVerdicts}
use Rattle.workspace_check.proofs.OnePackage.{files_in_order}
use Rattle.refs_binding.specs.Uses.{IsCheckedPackage}
use Rattle.build_object.specs.Lines.{FunctionName}
use Rattle.build_object.specs.Objects.{ObjectDeclaration, Initial, type_declarations, definition_of}
use Rattle.build_object.specs.Objects.{declared_type, known_variable, first_initial, other_initials}
use Rattle.build_object.specs.Objects.{variable_declarations, literals_of, initials_of, global_variables}
use Rattle.build_object.specs.Objects.{declared_by, names_behind, declared_in, names_behind_all, others_of}
use Rattle.build_object.specs.Source.{Source}
use Rattle.build_object.specs.Sources.{IsSourceOf}
use Rattle.build_unit.specs.Units.{AreFilesBelow}
use Rattle.law_faultless.proofs.TypesBound.{Kept}
use Rattle.law_faultless.specs.Lines.{Placed, OfType, OfVariable, OfFunction, placed_by, name_in, HaveLines, type_line, variable_line, function_line}
use Rattle.law_faultless.proofs.AskedLines.{asked_known}
use Rattle.law_faultless.proofs.KnownGlobals.{global_named}
use Rattle.law_faultless.proofs.PrintedTypes.{HasType, found_type, printed, body_known, function_printed}

-- the parts of a group, in turn

turn_parts : {X : Type 0} (R : PartRule X) (P : X → Type 0) → ((before after : Locals) (x : X) → R before x after → P x) → {before after : Locals}
    {is : List (Item X)} → InTurn X R before is after → AllByRecursion P (map (λ i. i.value) is)
turn_parts R P f no_item = tt
turn_parts R P f (then_item {before} {inside} {i = i} h more) = (f before inside i.value h, turn_parts R P f more)

group_parts : {X : Type 0} (R : PartRule X) (P : X → Type 0) → ((before after : Locals) (x : X) → R before x after → P x) → {before after : Locals}
    {g : Group X} → InGroup X R before g after → AllByRecursion P (group_items g)
group_parts R P f (alone {before} {after} {x} h) = (f before after x h, tt)
group_parts R P f (together h) = turn_parts R P f h

-- the identifiers of the parts of a group
item_sites : {X : Type 0} (P : Site → Type 0) (f : X → List Site) (is : List (Item X)) → AllByRecursion P (list_sites f is) →
    AllByRecursion (λ x. AllByRecursion P (f x)) (map (λ i. i.value) is)
item_sites P f [] h = tt
item_sites P f (i ∷ is) h = (all_front P (f i.value) (list_sites f is) h, item_sites P f is (all_back P (f i.value) (list_sites f is) h))

part_sites : {X : Type 0} (P : Site → Type 0) (f : X → List Site) (g : Group X) → AllByRecursion P (spec_sites f g) →
    AllByRecursion (λ x. AllByRecursion P (f x)) (group_items g)
unfolding group_sites separated_sites
part_sites P f (single x) h = (h, tt)
part_sites P f (several o is c) h = item_sites P f is h

-- the type of variables
global_type : (v : World) (before after : Locals) (g : GlobalTree) → GlobalIsTyped v before g after → HasType v g.type_use
global_type v before after g (without_values {t = t} h none) = (t, h)
global_type v before after g (with_literals {t = t} h e literals taken) = (t, h)

spec_body : (v : World) (before after : Locals) (t : TypeSpecTree) → TypeIsTyped v before t after → BodyIsTyped v t.body
spec_body v before after t (a_definition_of h) = h

-- a declaration of a function has a name left
abbrev HasName : List FunctionName → DeclTree → Type 0
HasName names (VarDecl p g c) = ⊤
HasName names (TypeDecl p g c) = ⊤
HasName names (FuncDecl p f c) = (name : FunctionName) × ((others : List FunctionName) × (names ≡ name ∷ others))

record IsEnough (names : List FunctionName) (d : DeclTree) (k : ℕ) : Type 0 where
  has_name : HasName names d
  left : length (names_behind names d) ≡ k

enough : (file : ℕ) (names : List FunctionName) (d : DeclTree) (k : ℕ) → length names ≡ length (decl_functions file d) + k → IsEnough names d k
enough file names (VarDecl p g c) k h = record { has_name = tt; left = (let e : length names ≡ 0 + k = h in omega arith) }
enough file names (TypeDecl p g c) k h = record { has_name = tt; left = (let e : length names ≡ 0 + k = h in omega arith) }
enough file [] (FuncDecl p f c) k h = let e : 0 ≡ 1 + k = h in absurd (omega arith)
enough file (name ∷ others) (FuncDecl p f c) k h =
    record { has_name = (name, (others, refl)); left = (let e : suc (length others) ≡ 1 + k = h in omega arith) }

module _ (w : Workspace) (sound : ListsFaults w []) (known : Verdicts) (right : AreVerdicts w known) (p : Package) (is : IsCheckedPackage w known p)
    (files_of : List ℕ → List SourceFile) (below : AreFilesBelow w p.path files_of) (file : ℕ) (f : SourceFile) (at : slice_get p.files file ≡ Some f)
    (s : Source) (source : IsSourceOf p files_of file f s) where
  abbrev v : World
  v = s.world

  abbrev code : Spelled
  code = record { rank = file; spell = spelling_of f }

  abbrev Lines : List FunctionName → List Placed → List ObjectDeclaration → Type 0
  Lines names xs lines = HaveLines p files_of names xs lines

  -- variables
  names_lined : (x : TypeTree) (t : PlainType) → IsType v x t → (ns : List (Item ℕ)) → AllByRecursion (Kept p file) (list_sites (global_name code) ns) →
      (values : List (Option Initial)) (names : List FunctionName) (rest : List Placed) (tail : List ObjectDeclaration) → Lines names rest tail →
      Lines names (map OfVariable (map (λ i. record { file = file; name = i.value; type_use = x }) ns) ++ rest)
      (variable_declarations s (Some t) ns values ++ tail)
  unfolding variable_declarations
  names_lined x t i [] kept values names rest tail h = h
  names_lined x t i (n ∷ ns) kept values names rest tail h =
      let one : PlacedVariable = record { file = file; name = n.value; type_use = x } in
      let xs = map OfVariable (map (λ (i : Item ℕ). let z : PlacedVariable = record { file = file; name = i.value; type_use = x } in z) ns) ++ rest in
      let lines = variable_declarations s (Some t) ns (other_initials values) in
      subst (λ z. Lines names (OfVariable one ∷ xs) ((known_variable (Some t) z (first_initial values) ++ lines) ++ tail))
      (sym (global_named w sound known right p is files_of file f s source n.value (kept.0 refl)))
      (variable_line (printed w sound known right p is files_of below file f at v source.world x t i)
      (names_lined x t i ns kept.1 (other_initials values) names rest tail h))

  global_lined : (g : GlobalTree) → HasType v g.type_use → AllByRecursion (Kept p file) (global_sites code g) → (names : List FunctionName)
      (rest : List Placed) (tail : List ObjectDeclaration) → Lines names rest tail →
      Lines names (map OfVariable (variables_of file g) ++ rest) (global_variables s g ++ tail)
  unfolding global_sites
  global_lined g has kept names rest tail h =
      let values = initials_of s (literals_of g.values) in
      subst (λ o. Lines names (map OfVariable (variables_of file g) ++ rest) (variable_declarations s o g.names values ++ tail))
      (sym (found_type v g.type_use has.0 has.1))
      (names_lined g.type_use has.0 has.1 g.names (all_front (Kept p file) (list_sites (global_name code) g.names) (type_sites code g.type_use) kept)
      values names rest tail h)

  together_lined : (names : List FunctionName) (xs ys rest : List Placed) (ls ms tail : List ObjectDeclaration) →
      Lines names (xs ++ (ys ++ rest)) (ls ++ (ms ++ tail)) → Lines names ((xs ++ ys) ++ rest) ((ls ++ ms) ++ tail)
  together_lined names xs ys rest ls ms tail h =
      subst (λ z. Lines names z ((ls ++ ms) ++ tail)) (sym (append_assoc xs ys rest))
      (subst (λ z. Lines names (xs ++ (ys ++ rest)) z) (sym (append_assoc ls ms tail)) h)

  globals_lined : (gs : List GlobalTree) → AllByRecursion (λ g. HasType v g.type_use) gs →
      AllByRecursion (λ g. AllByRecursion (Kept p file) (global_sites code g)) gs → (names : List FunctionName)
      (rest : List Placed) (tail : List ObjectDeclaration) → Lines names rest tail →
      Lines names (flat_map (λ x. map OfVariable (variables_of file x)) gs ++ rest) (flat_map (global_variables s) gs ++ tail)
  globals_lined [] has kept names rest tail h = h
  globals_lined (g ∷ gs) has kept names rest tail h =
      let xs = flat_map (λ x. map OfVariable (variables_of file x)) gs in
      let lines = flat_map (global_variables s) gs in
      together_lined names (map OfVariable (variables_of file g)) xs rest (global_variables s g) lines tail
      (global_lined g has.0 kept.0 names (xs ++ rest) (lines ++ tail) (globals_lined gs has.1 kept.1 names rest tail h))

  -- type definitions
  types_lined : (ts : List TypeSpecTree) → ((z : PlacedType) → Holds (map (placed_type file) ts) z → Holds (package_types p) z) →
      AllByRecursion (λ t. BodyIsTyped v t.body) ts → AllByRecursion (λ t. AllByRecursion (Kept p file) (type_spec_sites code t)) ts →
      (names : List FunctionName)
      (rest : List Placed) (tail : List ObjectDeclaration) → Lines names rest tail →
      Lines names (map (λ t. OfType (placed_type file t)) ts ++ rest) (flat_map (declared_type s) ts ++ tail)
  unfolding type_spec_sites
  types_lined [] held typed kept names rest tail h = h
  types_lined (t ∷ ts) held typed kept names rest tail h =
      let xs = map (λ (z : TypeSpecTree). OfType (placed_type file z)) ts ++ rest in
      let lines = flat_map (declared_type s) ts in
      let rising = files_in_order w known p.path p is.is_checked in
      let k = body_known w sound known right p is files_of below file f at v source.world (name_in p file t.name) s.asks t.body
      (λ m member. source.asks m.value.name ∙ asked_known p rising file (placed_type file t) (held (placed_type file t) (inl refl)) refl m member) typed.0 in
      subst (λ z. Lines names (OfType (placed_type file t) ∷ xs) ((type_declarations z (definition_of v s.asks t.body) ++ lines) ++ tail))
      (sym (global_named w sound known right p is files_of file f s source t.name (kept.0.0 refl)))
      (subst (λ z. Lines names (OfType (placed_type file t) ∷ xs) ((type_declarations (Some (name_in p file t.name)) z ++ lines) ++ tail)) (sym k.is_known)
      (type_line k.defines (types_lined ts (λ z i. held z (inr i)) typed.1 kept.1 names rest tail h)))

  -- a declaration
  decl_lined : (d : DeclTree) {before after : Locals} → ((z : PlacedType) → Holds (decl_types file d) z → Holds (package_types p) z) →
      DeclIsTyped v (is_init f) before d after → AllByRecursion (Kept p file) (decl_sites code d) →
      (names : List FunctionName) → HasName names d → (rest : List Placed) (tail : List ObjectDeclaration) → Lines (names_behind names d) rest tail →
      Lines names (placed_by file d ++ rest) (declared_by s names d ++ tail)
  unfolding decl_sites declared_by
  decl_lined _ held (variables {g = g} typed) kept names has rest tail h =
      globals_lined (group_items g) (group_parts (GlobalIsTyped v) (λ x. HasType v x.type_use) (global_type v) typed)
      (part_sites (Kept p file) (global_sites code) g kept) names rest tail h
  decl_lined _ held (types {g = g} typed) kept names has rest tail h =
      types_lined (group_items g) held (group_parts (TypeIsTyped v) (λ t. BodyIsTyped v t.body) (spec_body v) typed)
      (part_sites (Kept p file) (type_spec_sites code) g kept) names rest tail h
  decl_lined _ held (one_function {before} {after} {p = k} {c} {f = g} typed) kept names has rest tail h =
      let name = has.0 in
      let others = has.1.0 in
      subst (λ z. Lines (others_of z) rest tail → Lines z (OfFunction (record { file = file; function = g }) ∷ rest) (declared_by s z (FuncDecl k g c) ++ tail))
      (sym has.1.1)
      (λ behind. function_line
      (function_printed w sound known right p is files_of below file f at v source.world s refl name (is_init f g.name) before after g typed) behind) h

  -- the declarations of a file
  pub decls_lined : (ds : List DeclTree) {before after : Locals} →
      ((z : PlacedType) → Holds (flat_map (decl_types file) ds) z → Holds (package_types p) z) → DeclsAreTyped v (is_init f) before ds after →
      AllByRecursion (Kept p file) (flat_map (decl_sites code) ds) → (names : List FunctionName) (k : ℕ) →
      length names ≡ length (flat_map (decl_functions file) ds) + k → (rest : List Placed) (tail : List ObjectDeclaration) →
      Lines (names_behind_all names ds) rest tail → Lines names (flat_map (placed_by file) ds ++ rest) (declared_in s names ds ++ tail)
  unfolding declared_in names_behind_all
  decls_lined _ held no_decl kept names k long rest tail h = h
  decls_lined _ held (also_decl {d = d} {ds} typed more) kept names k long rest tail h =
      let xs = flat_map (placed_by file) ds in
      let behind = names_behind names d in
      let lines = declared_in s behind ds in
      let later = length (flat_map (decl_functions file) ds) in
      let both = length-append (decl_functions file d) (flat_map (decl_functions file) ds) in
      let all : length names ≡ length (decl_functions file d ++ flat_map (decl_functions file) ds) + k = long in
      let e = enough file names d (later + k) (omega (arith, all, both)) in
      together_lined names (placed_by file d) xs rest (declared_by s names d) lines tail
      (decl_lined d (λ z i. held z (held_left (decl_types file d) (flat_map (decl_types file) ds) z i)) typed (all_front (Kept p file) (decl_sites code d)
      (flat_map (decl_sites code) ds) kept) names e.has_name (xs ++ rest) (lines ++ tail)
      (decls_lined ds (λ z i. held z (held_right (decl_types file d) (flat_map (decl_types file) ds) z i)) more (all_back (Kept p file) (decl_sites code d)
      (flat_map (decl_sites code) ds) kept) behind k e.left rest tail h))

-- the names that are left behind declarations
pub names_left : (file : ℕ) (ds : List DeclTree) (names : List FunctionName) (k : ℕ) → length names ≡ length (flat_map (decl_functions file) ds) + k →
    length (names_behind_all names ds) ≡ k
unfolding names_behind_all
names_left file [] names k h = let e : length names ≡ 0 + k = h in omega arith
names_left file (d ∷ ds) names k h =
    let later = length (flat_map (decl_functions file) ds) in
    let both = length-append (decl_functions file d) (flat_map (decl_functions file) ds) in
    let all : length names ≡ length (decl_functions file d ++ flat_map (decl_functions file) ds) + k = h in
    names_left file ds (names_behind names d) k (enough file names d (later + k) (omega (arith, all, both))).left
