-- A package has one object at most, and one text.
use Rattle.std.proofs.Common.{ℕ, suc, ◌≡◌, ◌<◌, List, [], ◌∷◌, length, map, refl, sym, ap, subst, ◌∙◌, arith}
use Rattle.std.specs.Prelude.{Bool, Option, Some, None, slice_get}
use Rattle.std.proofs.Math.Path.{ap₂, fun_ext}
use Rattle.std.proofs.lemmas.Bool.Decides.{same_from_decides}
use Rattle.std.proofs.lemmas.Option.{slice_get_within}
use Rattle.base_files.proofs.WorkspaceLaws.{path_cmp_total}
use Rattle.go_scanner.proofs.StringValueLemmas.{one_string_value}
use Rattle.go_ast.specs.SourceFile.{SourceFile}
use Rattle.go_scope.specs.Table.{LiesAt}
use Rattle.go_scope.specs.WellFormed.{WellFormed}
use Rattle.types_declared.specs.Files.{HasLiteral, package_name}
use Rattle.types_expr.specs.declared.symbol.Symbol.{Symbol}
use Rattle.types_expr.specs.Judge.{enterings_of, members_of}
use Rattle.types_expr.specs.Types.{PlainType}
use Rattle.types_expr.specs.World.{World}
use Rattle.types_stmt.specs.Declarations.{check_file}
use Rattle.types_declared.specs.Package.{Package, spelled}
use Rattle.types_declared.specs.Written.{BindsToken, DeclaresImport}
use Rattle.types_info.specs.Worlds.{is_init}
use Rattle.types_info.specs.Uniqueness.{TokensRise}
use Rattle.types_declared.proofs.Binding.{one_first}
use Rattle.types_info.proofs.MeaningLists.{slice_get_some}
use Rattle.types_declared.proofs.Naming.{one_binding, one_import_path}
use Rattle.types_info.proofs.OneMeaning.{lexical}
use Rattle.types_info.proofs.OneWorld.{has_one_world}
use Rattle.build_object.specs.Lines.{GlobalName, FunctionName}
use Rattle.build_object.specs.Source.{Source}
use Rattle.build_object.specs.Names.{function_names, type_name}
use Rattle.build_object.specs.Objects.{Object, object_of}
use Rattle.build_object.specs.ObjectText.{object_text}
use Rattle.build_object.specs.Sources.{type_before, type_entered, HasQualifier, IsGlobalAt, DenotesGlobal}
use Rattle.build_object.specs.Sources.{IsTextAt, IsSourceOf, AreImports, IsObjectOf, IsObjectText}
use Rattle.build_object.specs.Sources as source
use Rattle.workspace_graph.proofs.SortedLists.{one_sorted}

-- the declaration of a package's block that a name is bound to

pub own_or_imported : (p : Package) (file token d : ℕ) (path : List ℕ) → BindsToken p file token d → HasQualifier p file token path → ⊥
own_or_imported p file token d path b s =
    let same : b.identifier ≡ s.identifier = one_first (LiesAt p.layout (record { file = file; index = token })) p.size b.identifier s.identifier b.found
    s.found in
    lexical p.layout p.names b.identifier d (ap p.layout.role same ∙ s.selected) b.bound

one_path_behind : (p : Package) → WellFormed p.layout → (file token : ℕ) (v w : List ℕ) → HasQualifier p file token v → HasQualifier p file token w → v ≡ w
one_path_behind p formed file token v w a b =
    let before : b.before ≡ a.before = omega (arith, a.behind_dot, b.behind_dot) in
    let same : b.import ≡ a.import = one_binding p formed file a.before b.import a.import (subst (λ n. BindsToken p file n b.import) before b.binds) a.binds in
    one_import_path p a.import v w a.of_path (subst (λ d. DeclaresImport p d w) same b.of_path)

one_global_at : (p : Package) → WellFormed p.layout → (file token : ℕ) (g h : GlobalName) → IsGlobalAt p file token g → IsGlobalAt p file token h → g ≡ h
one_global_at p formed file token _ _ (source.own {d = d} x level) (source.own {d = e} y other) = refl
one_global_at p formed file token _ _ (source.own {d = d} x level) (source.imported {path = path} y) = absurd (own_or_imported p file token d path x y)
one_global_at p formed file token _ _ (source.imported {path = path} x) (source.own {d = d} y level) = absurd (own_or_imported p file token d path y x)
one_global_at p formed file token _ _ (source.imported {path = v} x) (source.imported {path = w} y) =
    ap (λ path. record { path = path; name = spelled p file token }) (one_path_behind p formed file token v w x y)

one_global : (p : Package) → WellFormed p.layout → (file token : ℕ) (o u : Option GlobalName) → DenotesGlobal p file token o →
    DenotesGlobal p file token u → o ≡ u
one_global p formed file token None None a b = refl
one_global p formed file token None (Some y) a b = absurd (a y b)
one_global p formed file token (Some x) None a b = absurd (b x a)
one_global p formed file token (Some x) (Some y) a b = ap Some (one_global_at p formed file token x y a b)

-- the value of a string literal

one_value : (f : SourceFile) (token : ℕ) (v w : List ℕ) → HasLiteral f token v → HasLiteral f token w → v ≡ w
one_value f token v w a b = one_string_value _ v w a.stands_for b.stands_for

one_text_at : (f : SourceFile) (token : ℕ) (o u : Option (List ℕ)) → IsTextAt f token o → IsTextAt f token u → o ≡ u
one_text_at f token None None a b = refl
one_text_at f token None (Some y) a b = absurd (a y b)
one_text_at f token (Some x) None a b = absurd (b x a)
one_text_at f token (Some x) (Some y) a b = ap Some (one_value f token x y a b)

-- what the code of a file is made of

-- the source with these parts
abbrev made_of : World → (ℕ → Option PlainType) → (ℕ → Option PlainType) → (ℕ → Option GlobalName) → (ℕ → Option FunctionName) → (ℕ → Bool) →
    (ℕ → Option ℕ) → (ℕ → Option (List ℕ)) → (Symbol → Option FunctionName) → (Symbol → Option ℕ) → (Symbol → Option FunctionName) → Source
made_of w before entered global asks truth number text function position asked = record {
  world = w;
  before = before;
  entered = entered;
  global = global;
  asks = asks;
  truth = truth;
  number = number;
  text = text;
  function = function;
  position = position;
  asked = asked;
}

same_source : (s t : Source) → s.world ≡ t.world → s.before ≡ t.before → s.entered ≡ t.entered → s.global ≡ t.global → s.asks ≡ t.asks → s.truth ≡ t.truth →
    s.number ≡ t.number → s.text ≡ t.text → s.function ≡ t.function → s.position ≡ t.position → s.asked ≡ t.asked → s ≡ t
same_source s t world before entered global asks truth number text function position asked =
    ap (λ x. made_of x s.before s.entered s.global s.asks s.truth s.number s.text s.function s.position s.asked) world
    ∙ (ap (λ x. made_of t.world x s.entered s.global s.asks s.truth s.number s.text s.function s.position s.asked) before
    ∙ (ap (λ x. made_of t.world t.before x s.global s.asks s.truth s.number s.text s.function s.position s.asked) entered
    ∙ (ap (λ x. made_of t.world t.before t.entered x s.asks s.truth s.number s.text s.function s.position s.asked) global
    ∙ (ap (λ x. made_of t.world t.before t.entered t.global x s.truth s.number s.text s.function s.position s.asked) asks
    ∙ (ap (λ x. made_of t.world t.before t.entered t.global t.asks x s.number s.text s.function s.position s.asked) truth
    ∙ (ap (λ x. made_of t.world t.before t.entered t.global t.asks t.truth x s.text s.function s.position s.asked) number
    ∙ (ap (λ x. made_of t.world t.before t.entered t.global t.asks t.truth t.number x s.function s.position s.asked) text
    ∙ (ap (λ x. made_of t.world t.before t.entered t.global t.asks t.truth t.number t.text x s.position s.asked) function
    ∙ (ap (λ x. made_of t.world t.before t.entered t.global t.asks t.truth t.number t.text t.function x s.asked) position
    ∙ ap (λ x. made_of t.world t.before t.entered t.global t.asks t.truth t.number t.text t.function t.position x) asked)))))))))

pub one_source : (p : Package) → WellFormed p.layout → TokensRise p.files →
    (files_of : List ℕ → List SourceFile) (file : ℕ) (f : SourceFile) (s t : Source) → IsSourceOf p files_of file f s → IsSourceOf p files_of file f t → s ≡ t
one_source p formed rising files_of file f s t a b =
    let world = has_one_world p formed rising file f s.world t.world a.world b.world in
    let before : s.before ≡ t.before = fun_ext (λ token. a.before token ∙
    (ap (λ w. type_before (members_of (check_file w (is_init f) f.tree).uses) token) world ∙ sym (b.before token))) in
    let entered : s.entered ≡ t.entered = fun_ext (λ token. a.entered token ∙
    (ap (λ w. type_entered (enterings_of (check_file w (is_init f) f.tree).uses) token) world ∙ sym (b.entered token))) in
    let global : s.global ≡ t.global = fun_ext (λ token. one_global p formed file token (s.global token) (t.global token) (a.global token) (b.global token)) in
    let asks : s.asks ≡ t.asks = fun_ext (λ token. a.asks token ∙ sym (b.asks token)) in
    let truth : s.truth ≡ t.truth = fun_ext (λ token. same_from_decides (s.truth token) (t.truth token) (a.truth token) (b.truth token)) in
    let number : s.number ≡ t.number = fun_ext (λ token. a.number token ∙ sym (b.number token)) in
    let text : s.text ≡ t.text = fun_ext (λ token. one_text_at f token (s.text token) (t.text token) (a.text token) (b.text token)) in
    let function : s.function ≡ t.function = fun_ext (λ symbol. a.function symbol ∙ sym (b.function symbol)) in
    let position : s.position ≡ t.position = fun_ext (λ symbol. a.position symbol ∙ sym (b.position symbol)) in
    let asked : s.asked ≡ t.asked = fun_ext (λ symbol. a.asked symbol ∙ sym (b.asked symbol)) in
    same_source s t world before entered global asks truth number text function position asked

-- Two lists of one length with equal items are equal.

same_items : {X : Type 0} (xs ys : List X) → length xs ≡ length ys → ((k : ℕ) (x y : X) → slice_get xs k ≡ Some x → slice_get ys k ≡ Some y → x ≡ y) → xs ≡ ys
same_items [] [] e h = refl
same_items [] (y ∷ ys) e h = let none : ⊥ = omega (arith, e) in absurd none
same_items (x ∷ xs) [] e h = let none : ⊥ = omega (arith, e) in absurd none
same_items (x ∷ xs) (y ∷ ys) e h =
    let rest : length xs ≡ length ys = omega (arith, e) in
    ap₂ (λ z zs. z ∷ zs) (h 0 x y refl refl) (same_items xs ys rest (λ k. h (suc k)))

one_imports : (files : List SourceFile) (v w : List (List ℕ)) → AreImports files v → AreImports files w → v ≡ w
one_imports files v w a b = one_sorted path_cmp_total v w a.sorted b.sorted (λ path h. (b.each path).1 ((a.each path).0 h))
    (λ path h. (a.each path).1 ((b.each path).0 h))

pub one_object : (p : Package) → WellFormed p.layout → TokensRise p.files → (files_of : List ℕ → List SourceFile) (o u : Object) → IsObjectOf p files_of o →
    IsObjectOf p files_of u → o ≡ u
one_object p formed rising files_of o u a b =
    let sources : a.sources ≡ b.sources = same_items a.sources b.sources (a.all ∙ sym b.all) (λ k s t has also.
    let within : k < length p.files = subst (λ n. k < n) a.all (slice_get_within a.sources k s has) in
    let at = slice_get_some p.files k within in
    one_source p formed rising files_of k at.0 s t (a.made_of k at.0 s at.1 has) (b.made_of k at.0 t at.1 also)) in
    a.is_object
    ∙ (ap (λ ss. object_of ss p.path (package_name p.files) a.imports (function_names p.path p.files) (map (λ f. f.tree) p.files)) sources
    ∙ (ap (λ is. object_of b.sources p.path (package_name p.files) is (function_names p.path p.files) (map (λ f. f.tree) p.files))
    (one_imports p.files a.imports b.imports a.are_imports b.are_imports)
    ∙ sym b.is_object))

pub one_text : (p : Package) → WellFormed p.layout → TokensRise p.files → (files_of : List ℕ → List SourceFile) (v w : List ℕ) → IsObjectText p files_of v →
    IsObjectText p files_of w → v ≡ w
one_text p formed rising files_of v w a b =
    a.printed ∙ (ap (object_text (type_name files_of)) (one_object p formed rising files_of a.object b.object a.of_package b.of_package) ∙ sym b.printed)
