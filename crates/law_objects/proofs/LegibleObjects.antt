-- The objects of packages without faults have legible names: no other name gets into one.
use Rattle.std.proofs.Common.{◌≡◌, ◌∙◌, ◌&&◌, inl, inr, ℕ, zero, suc, Bool, if◌then◌else◌}
use Rattle.std.proofs.Common.{List, [], ◌∷◌, map, Option, Some, None, option_map, refl, sym, ap, subst}
use Rattle.std.specs.Prelude.{Contains, slice_get}
use Rattle.std.specs.List.{AllByRecursion, list_all}
use Rattle.std.proofs.Math.Path.{fun_ext}
use Rattle.std.proofs.lemmas.Bool.{and_from, and_parts, cases_Bool}
use Rattle.std.proofs.lemmas.Option.{none-some, same_Some}
use Rattle.base_lemmas.proofs.Elements.{first_in, first_or_later, later_in, nothing_in}
use Rattle.base_edits.proofs.Held.{mapped_from}
use Rattle.base_files.specs.Packages.{package_paths}
use Rattle.base_files.specs.Workspace.{Workspace}
use Rattle.go_ast.specs.declared.syntax.Token.{Token}
use Rattle.go_ast.specs.Flatten.{all_tokens, decl_tokens}
use Rattle.go_ast.specs.SourceFile.{FileParts, SourceFile, source_of}
use Rattle.go_ast.specs.Tree.{FileTree}
use Rattle.types_declared.specs.Files.{package_name}
use Rattle.types_declared.specs.Package.{Package}
use Rattle.types_expr.specs.declared.symbol.Symbol.{Symbol}
use Rattle.workspace_graph.specs.Packages.{ImportsPath, IsParsed, PackageImports}
use Rattle.workspace_graph.specs.Parsed.{AreParsed, none, tree}
use Rattle.workspace_check.specs.FaultLists.{ListsFaults}
use Rattle.workspace_check.specs.Verdicts.{Verdicts, AreVerdicts}
use Rattle.workspace_check.proofs.Closed.{to_package}
use Rattle.workspace_check.proofs.Members.{cases_contains}
use Rattle.refs_binding.specs.Uses.{IsCheckedPackage}
use Rattle.refs_lookup.proofs.OnePlace.{same_files}
use Rattle.build_object.specs.Lines.{CodeLine, FunctionName, GlobalName, Initializer, Method, Plain}
use Rattle.build_object.specs.Lines as line
use Rattle.build_object.specs.Names.{function_names, type_name, type_names}
use Rattle.build_object.specs.Objects.{FunctionOf, Object, ObjectAsked, ObjectDefinition, SameAs, Fields, Asks, ObjectDeclaration, TypeOf, Variable, object_of}
use Rattle.build_object.specs.Source.{Source}
use Rattle.build_object.specs.Sources.{DenotesGlobal, IsSourceOf}
use Rattle.law_tokens.proofs.Elements.{all_got}
use Rattle.law_renamed_workspaces.proofs.GoodImports.{imports_are_good}
use Rattle.law_objects.specs.Objects.{HasObject}
use Rattle.law_objects.specs.Replaced.{Replaced, asked_renamed_by, definition_by, declaration_by, line_by, object_by}
use Rattle.law_objects.proofs.AskedLegible.{AskLegible}
use Rattle.law_objects.specs.SourcesBy.{AreSourcesBy, IsSourceBy, IsUniform, NumbersStay, a_source, no_source, no_tree}
use Rattle.law_objects.proofs.DeclarationsBy.{object_with}
use Rattle.law_objects.specs.CarriedUnits.{HasLegibleObjects}
use Rattle.law_objects.specs.Legible.{AreLegibleNames, IsLegible, IsLegibleDeclaration, IsLegibleDefinition, IsLegibleFunction}
use Rattle.law_objects.specs.Legible.{IsLegibleGlobal, IsLegibleLine, IsLegibleObject, is_name_byte}
use Rattle.law_objects.proofs.LegibleNames.{good_legible}
use Rattle.law_objects.proofs.PackageNames.{asks_legible, clause_good, functions_legible, global_legible, seen_legible}

-- Names of which only the legible ones stay

is_legible : List ℕ → Bool
is_legible t = list_all is_name_byte t

legible_global : GlobalName → Bool
legible_global g = is_legible g.path && is_legible g.name

abbrev nothing : GlobalName
nothing = record { path = []; name = [] }

kept_global : GlobalName → GlobalName
kept_global g = if legible_global g then g else nothing

kept_method : GlobalName → List ℕ → FunctionName
kept_method g name = if legible_global g && is_legible name then Method g name else Plain nothing

kept_initial : List ℕ → ℕ → FunctionName
kept_initial path k = if is_legible path then Initializer path k else Plain nothing

kept_function : FunctionName → FunctionName
kept_function (Plain g) = Plain (kept_global g)
kept_function (Method g name) = kept_method g name
kept_function (Initializer path k) = kept_initial path k

abbrev kept : Replaced
kept = record { global = kept_global; function = kept_function }

uniform : IsUniform kept
unfolding kept_function
uniform g = refl

global_is : (g : GlobalName) → IsLegibleGlobal (kept_global g)
unfolding kept_global legible_global is_legible
global_is g = elim (cases_Bool (legible_global g)) [
  | inl holds ↦ subst (λ b. IsLegibleGlobal (if b then g else nothing)) (sym holds) (and_parts (is_legible g.path) (is_legible g.name) holds)
  | inr fails ↦ subst (λ b. IsLegibleGlobal (if b then g else nothing)) (sym fails) (refl, refl)
]

function_is : (f : FunctionName) → IsLegibleFunction (kept_function f)
unfolding kept_function kept_method kept_initial legible_global is_legible
function_is (Plain g) = global_is g
function_is (Method g name) = elim (cases_Bool (legible_global g && is_legible name)) [
  | inl holds ↦
      let parts = and_parts (legible_global g) (is_legible name) holds in
      subst (λ b. IsLegibleFunction (if b then Method g name else Plain nothing)) (sym holds)
      (and_parts (is_legible g.path) (is_legible g.name) parts.0, parts.1)
  | inr fails ↦ subst (λ b. IsLegibleFunction (if b then Method g name else Plain nothing)) (sym fails) (refl, refl)
]
function_is (Initializer path k) = elim (cases_Bool (is_legible path)) [
  | inl holds ↦ subst (λ b. IsLegibleFunction (if b then Initializer path k else Plain nothing)) (sym holds) holds
  | inr fails ↦ subst (λ b. IsLegibleFunction (if b then Initializer path k else Plain nothing)) (sym fails) (refl, refl)
]

global_stays : (g : GlobalName) → IsLegibleGlobal g → kept_global g ≡ g
unfolding kept_global legible_global is_legible
global_stays g is = ap (λ b. if b then g else nothing) (and_from (is_legible g.path) (is_legible g.name) is.0 is.1)

function_stays : (f : FunctionName) → IsLegibleFunction f → kept_function f ≡ f
unfolding kept_function kept_method kept_initial legible_global is_legible
function_stays (Plain g) is = ap Plain (global_stays g is)
function_stays (Method g name) is =
    ap (λ b. if b then Method g name else Plain nothing)
    (and_from (legible_global g) (is_legible name) (and_from (is_legible g.path) (is_legible g.name) is.0.0 is.0.1) is.1)
function_stays (Initializer path k) is = ap (λ b. if b then Initializer path k else Plain nothing) is

-- what is kept is legible

line_is : (l : CodeLine) → IsLegibleLine (line_by kept l)
line_is (line.Global g) = global_is g
line_is (line.GlobalAddress g) = global_is g
line_is (line.Call f n) = function_is f
line_is (line.CallAsked f n) = function_is f
line_is _ = tt

lines_are : (ls : List CodeLine) → AllByRecursion IsLegibleLine (map (line_by kept) ls)
lines_are [] = tt
lines_are (l ∷ ls) = (line_is l, lines_are ls)

asked_are : (ms : List ObjectAsked) → AllByRecursion (λ m. IsLegibleFunction m.name) (map (asked_renamed_by kept) ms)
asked_are [] = tt
asked_are (m ∷ ms) = (function_is m.name, asked_are ms)

definition_is : (d : ObjectDefinition) → IsLegibleDefinition (definition_by kept d)
definition_is (SameAs t) = tt
definition_is (Fields ts) = tt
definition_is (Asks ms) = asked_are ms

declaration_is : (d : ObjectDeclaration) → IsLegibleDeclaration (declaration_by kept d)
declaration_is (TypeOf name definition) = (global_is name, definition_is definition)
declaration_is (Variable name t value) = global_is name
declaration_is (FunctionOf f) = (function_is f.name, lines_are f.code)

declarations_are : (ds : List ObjectDeclaration) → AllByRecursion IsLegibleDeclaration (map (declaration_by kept) ds)
declarations_are [] = tt
declarations_are (d ∷ ds) = (declaration_is d, declarations_are ds)

-- sources whose names are legible stay

functions_stay : (fs : List FunctionName) → AllByRecursion IsLegibleFunction fs → map kept_function fs ≡ fs
functions_stay [] all = refl
functions_stay (f ∷ fs) all = λ i. function_stays f all.0 i ∷ functions_stay fs all.1 i

maybe_global : (o : Option GlobalName) → ((g : GlobalName) → o ≡ Some g → IsLegibleGlobal g) → option_map kept_global o ≡ o
maybe_global None each = refl
maybe_global (Some g) each = ap Some (global_stays g (each g refl))

maybe_function : (o : Option FunctionName) → ((f : FunctionName) → o ≡ Some f → IsLegibleFunction f) → option_map kept_function o ≡ o
maybe_function None each = refl
maybe_function (Some f) each = ap Some (function_stays f (each f refl))

numbers_stay : (s : Source) (ts : List Token) → AllByRecursion (λ token. NumbersStay s s.number token.kind token.place) ts
numbers_stay s [] = tt
numbers_stay s (t ∷ ts) = (λ e. refl, numbers_stay s ts)

source_stays : (s : Source) (t : FileTree) → ((n : ℕ) (g : GlobalName) → s.global n ≡ Some g → IsLegibleGlobal g) →
    ((f : Symbol) (name : FunctionName) → s.function f ≡ Some name → IsLegibleFunction name) →
    ((n : ℕ) (name : FunctionName) → s.asks n ≡ Some name → IsLegibleFunction name) →
    ((f : Symbol) (name : FunctionName) → s.asked f ≡ Some name → IsLegibleFunction name) → IsSourceBy kept t s s
source_stays s t globals functions asks asked = record {
  same = λ i. record {
    world = s.world;
    before = s.before;
    entered = s.entered;
    global = fun_ext (λ (n : ℕ). sym (maybe_global (s.global n) (globals n))) i;
    asks = fun_ext (λ (n : ℕ). sym (maybe_function (s.asks n) (asks n))) i;
    truth = s.truth;
    number = s.number;
    text = s.text;
    function = fun_ext (λ (f : Symbol). sym (maybe_function (s.function f) (functions f))) i;
    position = s.position;
    asked = fun_ext (λ (f : Symbol). sym (maybe_function (s.asked f) (asked f))) i;
  };
  agree = λ n type_of e. refl;
  numbers = numbers_stay s (all_tokens decl_tokens t.decls);
}

sources_stay : (ts : List FileTree) (ss : List Source) →
    ((k : ℕ) (t : FileTree) (s : Source) → slice_get ts k ≡ Some t → slice_get ss k ≡ Some s → IsSourceBy kept t s s) → AreSourcesBy kept ts ss ss
sources_stay [] ss each = no_tree
sources_stay (t ∷ ts) [] each = no_source
sources_stay (t ∷ ts) (s ∷ ss) each = a_source (each 0 t s refl refl) (sources_stay ts ss (λ k u v at got. each (suc k) u v at got))

-- files and their entries

entry_there : {es : List (List ℕ × List ℕ)} {ts : List FileParts} → AreParsed es ts [] → (t : FileParts) → Contains ts t →
    (e : List ℕ × List ℕ) × (Contains es e × IsParsed e.0 e.1 (source_of t))
entry_there none t has = absurd (nothing_in t has)
entry_there (tree {e = e} {es = es} {t = u} {ts = ts} is rest) t has = elim (first_or_later u ts t has) [
  | inl same ↦ (e, (first_in e es, subst (λ (x : FileParts). IsParsed e.0 e.1 (source_of x)) same is))
  | inr later ↦ (let r = entry_there rest t later in (r.0, (later_in e es r.0 r.1.0, r.1.1)))
]

all_held : {X : Type 0} (P : X → Type 0) (xs : List X) → ((x : X) → Contains xs x → P x) → AllByRecursion P xs
all_held P [] each = tt
all_held P (x ∷ xs) each = (each x (first_in x xs), all_held P xs (λ y has. each y (later_in x xs y has)))

module _ (w : Workspace) (sound : ListsFaults w []) (known : Verdicts) (right : AreVerdicts w known)
    (paths : (p : List ℕ) → Contains (package_paths w) p → IsLegible p) where
  -- what a package imports is a package
  imported_legible : (p : Package) → IsCheckedPackage w known p → (f : SourceFile) → Contains p.files f → (path : List ℕ) → ImportsPath f path → IsLegible path
  imported_legible p is f has path imports =
      let t = mapped_from source_of is.is_checked.files f (subst (λ fs. Contains fs f) (same_files w known p.path p is.is_checked) has) in
      let e = entry_there is.is_checked.parsed t.0 t.1 in
      let i : PackageImports w p.path path = record {
        entry = e.0;
        of_package = e.1.0;
        file = f;
        parsed = subst (IsParsed e.0.0 e.0.1) t.2 e.1.1;
        imports = imports;
      } in
      elim (cases_contains (package_paths w) path) [
        | inl there ↦ paths path there
        | inr nowhere ↦ absurd (imports_are_good w sound known right p is path i (λ on. nowhere (to_package w p.path path on.imported)))
      ]

  clause_legible : (p : Package) → IsCheckedPackage w known p → (fs : List SourceFile) → p.files ≡ fs → IsLegible (package_name fs)
  clause_legible p is [] e = refl
  clause_legible p is (s ∷ fs) e = good_legible (package_name (s ∷ fs)) (clause_good w sound known right paths p is s (ap (λ xs. slice_get xs 0) e))

  module _ (path : List ℕ) (files_of : List ℕ → List SourceFile) (o : Object) (has : HasObject w known path files_of o) where
    abbrev p : Package
    p = has.checked

    abbrev is : IsCheckedPackage w known p
    is = has.is_package

    seen : (q : List ℕ) → AllByRecursion IsLegibleGlobal (type_names q (files_of q)) × (AllByRecursion IsLegibleFunction (function_names q (files_of q))
        × AskLegible q (files_of q))
    seen q = seen_legible w sound known right paths path q (files_of q) (has.are_files q)

    names_are : AreLegibleNames (type_name files_of)
    names_are s g e = all_got IsLegibleGlobal (type_names s.package (files_of s.package)) s.rank g (seen s.package).0 e

    of_source : (k : ℕ) (f : SourceFile) (s : Source) → IsSourceOf p files_of k f s → IsSourceBy kept f.tree s s
    of_source k f s of =
        source_stays s f.tree
        (λ n g e. global_legible w sound known right paths p is k n g (subst (DenotesGlobal p k n) e (of.global n)))
        (λ x name e. all_got IsLegibleFunction (function_names x.package (files_of x.package)) x.rank name (seen x.package).1.0 (sym (of.function x) ∙ e))
        (λ n name e. (asks_legible w sound known right paths p is).by_token k n name (sym (of.asks n) ∙ e))
        (λ x name e. (seen x.package).1.1.by_rank x.rank name (sym (of.asked x) ∙ e))

    abbrev trees : List FileTree
    trees = map (λ (f : SourceFile). f.tree) p.files

    tree_at : (fs : List SourceFile) (k : ℕ) (t : FileTree) → slice_get (map (λ (f : SourceFile). f.tree) fs) k ≡ Some t →
        (f : SourceFile) × ((slice_get fs k ≡ Some f) × (f.tree ≡ t))
    tree_at [] k t e = absurd (none-some t e)
    tree_at (f ∷ fs) zero t e = (f, (refl, same_Some f.tree t e))
    tree_at (f ∷ fs) (suc k) t e = tree_at fs k t e

    all_sources : AreSourcesBy kept trees has.is_object.sources has.is_object.sources
    all_sources =
        sources_stay trees has.is_object.sources (λ k t s at got.
        let f = tree_at p.files k t at in
        subst (λ z. IsSourceBy kept z s s) f.1.1 (of_source k f.0 s (has.is_object.made_of k f.0 s f.1.0 got)))

    abbrev functions : List FunctionName
    functions = function_names p.path p.files

    object_stays : object_by kept o ≡ o
    object_stays =
        ap (object_by kept) has.is_object.is_object
        ∙ sym (object_with kept uniform trees has.is_object.sources has.is_object.sources all_sources p.path (package_name p.files)
        has.is_object.imports functions)
        ∙ ap (λ fs. object_of has.is_object.sources p.path (package_name p.files) has.is_object.imports fs trees)
        (functions_stay functions (functions_legible w sound known right paths p is))
        ∙ sym has.is_object.is_object

    legible : IsLegibleObject o
    legible = record {
      path = subst IsLegible (sym (ap (λ (x : Object). x.path) has.is_object.is_object)) (paths p.path is.of_workspace);
      name = subst IsLegible (sym (ap (λ (x : Object). x.name) has.is_object.is_object)) (clause_legible p is p.files refl);
      imports = subst (AllByRecursion IsLegible) (sym (ap (λ (x : Object). x.imports) has.is_object.is_object))
          (all_held IsLegible has.is_object.imports (λ q held.
          let f = (has.is_object.are_imports.each q).0 held in imported_legible p is f.0 f.1.0 q f.1.1));
      declarations = subst (AllByRecursion IsLegibleDeclaration) (ap (λ (x : Object). x.declarations) object_stays) (declarations_are o.declarations);
    }

  pub objects_legible : HasLegibleObjects w known
  objects_legible path files_of o has = (legible path files_of o has, names_are path files_of o has)
