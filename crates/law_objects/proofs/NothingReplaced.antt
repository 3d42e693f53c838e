-- Where nothing is replaced, an object keeps its text.
use Rattle.std.proofs.Common.{◌≡◌, List, [], ◌∷◌, Option, Some, None, option_map, map, refl, ap}
use Rattle.std.proofs.Math.Path.{ap₂, fun_ext}
use Rattle.types_expr.specs.declared.symbol.Symbol.{Symbol}
use Rattle.build_object.specs.Lines.{GlobalName, CodeLine}
use Rattle.build_object.specs.Lines as line
use Rattle.build_object.specs.Objects.{Object, ObjectDefinition, SameAs, Fields, Asks, ObjectDeclaration, TypeOf, Variable, FunctionOf}
use Rattle.build_object.specs.ObjectText.{object_text}
use Rattle.law_objects.specs.Replaced.{line_by, asked_renamed_by, definition_by, declaration_by, text_by, of_none}

same_line : (l : CodeLine) → line_by of_none l ≡ l
same_line (line.Global g) = refl
same_line (line.GlobalAddress g) = refl
same_line (line.Call f n) = refl
same_line (line.CallAsked f n) = refl
same_line _ = refl

same_each : {X : Type 0} (f : X → X) → ((x : X) → f x ≡ x) → (xs : List X) → map f xs ≡ xs
same_each f same [] = refl
same_each f same (x ∷ xs) = ap₂ (λ a rest. a ∷ rest) (same x) (same_each f same xs)

same_definition : (d : ObjectDefinition) → definition_by of_none d ≡ d
same_definition (SameAs t) = refl
same_definition (Fields ts) = refl
same_definition (Asks ms) = ap Asks (same_each (asked_renamed_by of_none) (λ m. refl) ms)

same_declaration : (d : ObjectDeclaration) → declaration_by of_none d ≡ d
same_declaration (TypeOf name definition) = ap (TypeOf name) (same_definition definition)
same_declaration (Variable name t value) = refl
same_declaration (FunctionOf f) =
    ap (λ code. FunctionOf (record { name = f.name; parameters = f.parameters; results = f.results; slots = f.slots; code = code }))
    (same_each (line_by of_none) same_line f.code)

same_name : (o : Option GlobalName) → option_map (λ g. g) o ≡ o
same_name None = refl
same_name (Some g) = refl

pub none_text : (names : Symbol → Option GlobalName) (o : Object) → text_by of_none names o ≡ object_text names o
none_text names o =
    ap₂ (λ n ds. object_text n (record { path = o.path; name = o.name; imports = o.imports; declarations = ds }))
    (fun_ext (λ (s : Symbol). same_name (names s)))
    (same_each (declaration_by of_none) same_declaration o.declarations)
