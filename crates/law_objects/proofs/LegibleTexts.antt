-- The text of an object in which one declaration gets a new name.
use Rattle.std.proofs.Common.{◌≡◌, ◌∙◌, ℕ, true, List, [], ◌∷◌, ◌++◌, Option, Some}
use Rattle.std.proofs.Common.{None, option_map, length, map, append_assoc, append-nil, refl, sym, ap, subst, codes}
use Rattle.std.proofs.lemmas.List.{length-map}
use Rattle.std.specs.Fmt.{decimal}
use Rattle.std.specs.List.{AllByRecursion, flat_map}
use Rattle.types_expr.specs.declared.symbol.Symbol.{Symbol}
use Rattle.types_expr.specs.Types.{PlainType}
use Rattle.build_object.specs.Lines.{GlobalName, CodeLine}
use Rattle.build_object.specs.Objects.{Object, ObjectDeclaration, TypeOf, Variable, FunctionOf}
use Rattle.build_object.specs.Objects.{ObjectAsked, ObjectDefinition, SameAs, Fields, Asks, Initial, IntegerValue, TextValue}
use Rattle.build_object.specs.Objects.{ObjectFunction}
use Rattle.build_object.specs.Text.{bytes_text, code_text, ended, function_text, global_text, type_list, type_text, types_joined, words_of}
use Rattle.build_object.specs.ObjectText.{asked_behind, asked_joined, asked_text, declaration_text, definition_text}
use Rattle.build_object.specs.ObjectText.{first_line, header_text, import_line, initial_text, object_text}
use Rattle.build_names.specs.Words.{NameChange, is_break, symbol_text, words_with}
use Rattle.law_objects.specs.Replaced.{asked_renamed_by, definition_by, declaration_by, function_by, line_by, of_global, text_by, Replaced}
use Rattle.law_objects.specs.Legible.{AreLegibleNames, IsLegible, IsLegibleChange, IsLegibleDeclaration, IsLegibleFunction, IsLegibleLine, IsLegibleObject}
use Rattle.law_objects.specs.Legible.{IsLegibleDefinition, LegibleTextsFollow}
use Rattle.law_objects.proofs.Turns.{Turns, TurnsLines, legible_plain, line_turns, lines_turn, text_turns, turns_joined, turns_plain}
use Rattle.law_objects.proofs.Symbols.{turns_function, turns_global}
use Rattle.law_objects.proofs.LegibleLines.{now, plain_bytes, plain_decimal, turns_line, turns_list, turns_type, turns_types}

module _ (c : NameChange) (is : IsLegibleChange c) (names : Symbol → Option GlobalName) (named : AreLegibleNames names) where
  abbrev new : List ℕ
  new = symbol_text c.path c.new

  abbrev r : Replaced
  r = of_global c.path c.old c.new

  abbrev T : List ℕ → List ℕ → Type 0
  T = Turns c.path c.old new

  abbrev L : List ℕ → List ℕ → Type 0
  L = TurnsLines c.path c.old new

  abbrev later : Symbol → Option GlobalName
  later = now c is names named

  joined : (a b : List ℕ) → T a b → (k : ℕ) → is_break k ≡ true → (t u : List ℕ) → T t u → T (a ++ k ∷ t) (b ++ k ∷ u)
  joined a b first k between t u second = turns_joined c.path c.old new a b first k between t u second

  none : T [] []
  none = turns_plain c.path c.old new [] refl

  number : (n : ℕ) → T (decimal n) (decimal n)
  number n = turns_plain c.path c.old new (decimal n) (plain_decimal n)

  -- the lines of a list, each changed
  lines_of : {X : Type 0} (P : X → Type 0) (h : X → X) (f g : X → List ℕ) → ((x : X) → P x → L (f x) (g (h x))) → (xs : List X) → AllByRecursion P xs →
      L (flat_map f xs) (flat_map g (map h xs))
  lines_of P h f g each [] all = λ rest. refl
  lines_of P h f g each (x ∷ xs) all =
      lines_turn c.path c.old new (f x) (g (h x)) (each x all.0) (flat_map f xs) (flat_map g (map h xs)) (lines_of P h f g each xs all.1)

  line : (l : CodeLine) → IsLegibleLine l → L (ended (words_of names l)) (ended (words_of later (line_by r l)))
  line l legible = line_turns c.path c.old new (words_of names l) (words_of later (line_by r l)) (turns_line c is names named l legible)

  code : (ls : List CodeLine) → AllByRecursion IsLegibleLine ls → L (code_text names ls) (code_text later (map (line_by r) ls))
  code ls all = lines_of IsLegibleLine (line_by r) (λ l. ended (words_of names l)) (λ l. ended (words_of later l)) line ls all

  signature : (ps rs : List PlainType) → T (type_list names ps ++ 32 ∷ type_list names rs) (type_list later ps ++ 32 ∷ type_list later rs)
  signature ps rs =
      joined (type_list names ps) (type_list later ps) (turns_list c is names named ps) 32 refl (type_list names rs) (type_list later rs)
      (turns_list c is names named rs)

  asked : (m : ObjectAsked) → IsLegibleFunction m.name → T (asked_text names m) (asked_text later (asked_renamed_by r m))
  asked m legible =
      let x = types_joined names (codes ",") m.parameters in
      let y = types_joined later (codes ",") m.parameters in
      let u = type_list names m.results in
      let v = type_list later m.results in
      joined (function_text m.name) (function_text (r.function m.name)) (turns_function c is m.name legible) 40 refl
      ((x ++ 41 ∷ []) ++ u) ((y ++ 41 ∷ []) ++ v)
      (subst (λ l. T l ((y ++ 41 ∷ []) ++ v)) (sym (append_assoc x (41 ∷ []) u)) (subst (T (x ++ 41 ∷ u)) (sym (append_assoc y (41 ∷ []) v))
      (joined x y (turns_types c is names named 44 refl m.parameters) 41 refl u v (turns_list c is names named m.results))))

  asked_others : (ms : List ObjectAsked) → AllByRecursion (λ m. IsLegibleFunction m.name) ms → (x y : List ℕ) → T x y →
      T (x ++ flat_map (asked_behind names) ms) (y ++ flat_map (asked_behind later) (map (asked_renamed_by r) ms))
  asked_others [] all x y first = subst (λ l. T l (y ++ [])) (sym (append-nil x)) (subst (T x) (sym (append-nil y)) first)
  asked_others (m ∷ ms) all x y first =
      let whole = asked_others ms all.1 (x ++ 59 ∷ asked_text names m) (y ++ 59 ∷ asked_text later (asked_renamed_by r m))
      (joined x y first 59 refl (asked_text names m) (asked_text later (asked_renamed_by r m)) (asked m all.0)) in
      subst (λ l. T l (y ++ flat_map (asked_behind later) (map (asked_renamed_by r) (m ∷ ms))))
      (append_assoc x (59 ∷ asked_text names m) (flat_map (asked_behind names) ms))
      (subst (T ((x ++ 59 ∷ asked_text names m) ++ flat_map (asked_behind names) ms))
      (append_assoc y (59 ∷ asked_text later (asked_renamed_by r m)) (flat_map (asked_behind later) (map (asked_renamed_by r) ms))) whole)

  all_asked : (ms : List ObjectAsked) → AllByRecursion (λ m. IsLegibleFunction m.name) ms → T (asked_joined names ms) (asked_joined later (map
      (asked_renamed_by r) ms))
  all_asked [] all = none
  all_asked (m ∷ ms) all = asked_others ms all.1 (asked_text names m) (asked_text later (asked_renamed_by r m)) (asked m all.0)

  definition : (d : ObjectDefinition) → IsLegibleDefinition d → T (definition_text names d) (definition_text later (definition_by r d))
  definition (SameAs t) legible = turns_type c is names named t
  definition (Asks ms) legible =
      joined (codes "interface") (codes "interface") (turns_plain c.path c.old new (codes "interface") refl) 123 refl (asked_joined names ms ++ 125 ∷ [])
      (asked_joined later (map (asked_renamed_by r) ms) ++ 125 ∷ [])
      (joined (asked_joined names ms) (asked_joined later (map (asked_renamed_by r) ms)) (all_asked ms legible) 125 refl [] [] none)
  definition (Fields ts) legible =
      joined (codes "struct") (codes "struct") (turns_plain c.path c.old new (codes "struct") refl) 123 refl (types_joined names (codes ";") ts ++ 125 ∷ [])
      (types_joined later (codes ";") ts ++ 125 ∷ [])
      (joined (types_joined names (codes ";") ts) (types_joined later (codes ";") ts) (turns_types c is names named 59 refl ts) 125 refl [] [] none)

  valued : (t : PlainType) (value : Option Initial) → T (type_text names t ++ initial_text value) (type_text later t ++ initial_text value)
  valued t None =
      subst (λ l. T l (type_text later t ++ [])) (sym (append-nil (type_text names t)))
      (subst (T (type_text names t)) (sym (append-nil (type_text later t))) (turns_type c is names named t))
  valued t (Some (IntegerValue n)) =
      joined (type_text names t) (type_text later t) (turns_type c is names named t) 32 refl (decimal n) (decimal n) (number n)
  valued t (Some (TextValue bytes)) =
      joined (type_text names t) (type_text later t) (turns_type c is names named t) 32 refl (bytes_text bytes) (bytes_text bytes)
      (turns_plain c.path c.old new (bytes_text bytes) (plain_bytes bytes))

  abbrev sides : (Symbol → Option GlobalName) → ObjectFunction → (lines : ℕ) → List ℕ
  sides n f lines = (type_list n f.parameters ++ 32 ∷ type_list n f.results) ++ 32 ∷ (decimal f.slots ++ 32 ∷ decimal lines)

  header : (f : ObjectFunction) → IsLegibleFunction f.name → (lines : ℕ) →
      T (header_text names f.name f.parameters f.results f.slots lines) (header_text later (r.function f.name) f.parameters f.results f.slots lines)
  header f legible lines =
      joined (codes "func") (codes "func") (turns_plain c.path c.old new (codes "func") refl) 32 refl (function_text f.name ++ 32 ∷ sides names f lines)
      (function_text (r.function f.name) ++ 32 ∷ sides later f lines)
      (joined (function_text f.name) (function_text (r.function f.name)) (turns_function c is f.name legible) 32 refl
      (sides names f lines) (sides later f lines)
      (joined (type_list names f.parameters ++ 32 ∷ type_list names f.results) (type_list later f.parameters ++ 32 ∷ type_list later f.results)
      (signature f.parameters f.results) 32 refl (decimal f.slots ++ 32 ∷ decimal lines) (decimal f.slots ++ 32 ∷ decimal lines)
      (joined (decimal f.slots) (decimal f.slots) (number f.slots) 32 refl (decimal lines) (decimal lines) (number lines))))

  declaration : (d : ObjectDeclaration) → IsLegibleDeclaration d → L (declaration_text names d) (declaration_text later (declaration_by r d))
  unfolding declaration_text
  declaration (TypeOf name d) legible =
      let old_rest = global_text name ++ 32 ∷ definition_text names d in
      let new_rest = global_text (r.global name) ++ 32 ∷ definition_text later (definition_by r d) in
      line_turns c.path c.old new (codes "type" ++ 32 ∷ old_rest) (codes "type" ++ 32 ∷ new_rest)
      (joined (codes "type") (codes "type") (turns_plain c.path c.old new (codes "type") refl) 32 refl old_rest new_rest
      (joined (global_text name) (global_text (r.global name)) (turns_global c is name legible.0) 32 refl (definition_text names d)
      (definition_text later (definition_by r d)) (definition d legible.1)))
  declaration (Variable name t value) legible =
      let old_value = type_text names t ++ initial_text value in
      let new_value = type_text later t ++ initial_text value in
      let old_rest = global_text name ++ 32 ∷ old_value in
      let new_rest = global_text (r.global name) ++ 32 ∷ new_value in
      line_turns c.path c.old new (codes "var" ++ 32 ∷ old_rest) (codes "var" ++ 32 ∷ new_rest)
      (joined (codes "var") (codes "var") (turns_plain c.path c.old new (codes "var") refl) 32 refl old_rest new_rest
      (joined (global_text name) (global_text (r.global name)) (turns_global c is name legible) 32 refl old_value new_value (valued t value)))
  declaration (FunctionOf f) legible =
      let old_head = header_text names f.name f.parameters f.results f.slots (length f.code) in
      let count : length f.code ≡ length (map (line_by r) f.code) = sym (length-map f.code (line_by r)) in
      let head = line_turns c.path c.old new old_head (header_text later (r.function f.name) f.parameters f.results f.slots (length f.code))
      (header f legible.0 (length f.code)) in
      lines_turn c.path c.old new (ended old_head)
      (ended (header_text later (r.function f.name) f.parameters f.results f.slots (length (map (line_by r) f.code))))
      (subst (λ (n : ℕ). L (ended old_head) (ended (header_text later (r.function f.name) f.parameters f.results f.slots n))) count head)
      (code_text names f.code) (code_text later (map (line_by r) f.code)) (code f.code legible.1)

  import_turns : (path : List ℕ) → IsLegible path → L (import_line path) (import_line path)
  import_turns path legible =
      line_turns c.path c.old new (codes "import" ++ 32 ∷ path) (codes "import" ++ 32 ∷ path)
      (joined (codes "import") (codes "import") (turns_plain c.path c.old new (codes "import") refl) 32 refl path path
      (turns_plain c.path c.old new path (legible_plain path legible)))

  imports : (paths : List (List ℕ)) → AllByRecursion IsLegible paths → L (flat_map import_line paths) (flat_map import_line paths)
  imports [] all = λ rest. refl
  imports (p ∷ ps) all =
      lines_turn c.path c.old new (import_line p) (import_line p) (import_turns p all.0) (flat_map import_line ps) (flat_map import_line ps) (imports ps all.1)

  first : (o : Object) → IsLegible o.path → IsLegible o.name → L (first_line o) (first_line o)
  first o path name =
      line_turns c.path c.old new (codes "object" ++ 32 ∷ (o.path ++ 32 ∷ o.name)) (codes "object" ++ 32 ∷ (o.path ++ 32 ∷ o.name))
      (joined (codes "object") (codes "object") (turns_plain c.path c.old new (codes "object") refl) 32 refl (o.path ++ 32 ∷ o.name) (o.path ++ 32 ∷ o.name)
      (joined o.path o.path (turns_plain c.path c.old new o.path (legible_plain o.path path)) 32 refl o.name o.name
      (turns_plain c.path c.old new o.name (legible_plain o.name name))))

  whole : (o : Object) → IsLegibleObject o → words_with (symbol_text c.path c.old) new [] (object_text names o) ≡ text_by r names o
  whole o legible =
      text_turns c.path c.old new (object_text names o) (text_by r names o)
      (lines_turn c.path c.old new (first_line o) (first_line o) (first o legible.path legible.name)
      (flat_map import_line o.imports ++ flat_map (declaration_text names) o.declarations)
      (flat_map import_line o.imports ++ flat_map (declaration_text later) (map (declaration_by r) o.declarations))
      (lines_turn c.path c.old new (flat_map import_line o.imports) (flat_map import_line o.imports) (imports o.imports legible.imports)
      (flat_map (declaration_text names) o.declarations) (flat_map (declaration_text later) (map (declaration_by r) o.declarations))
      (lines_of IsLegibleDeclaration (declaration_by r) (declaration_text names) (declaration_text later) declaration o.declarations legible.declarations)))

pub texts_follow : LegibleTextsFollow
texts_follow c is names named o legible = whole c is names named o legible
