-- Objects whose names can be read back from their texts: no name has a byte that stands between words, or a `#`.
use Rattle.std.specs.Prelude.{ℕ, ◌≡◌, ◌==◌, ◌&&◌, not, Bool, true, ⊤, List, Option, Some}
use Rattle.std.specs.List.{AllByRecursion, list_all}
use Rattle.types_expr.specs.declared.symbol.Symbol.{Symbol}
use Rattle.build_object.specs.Lines.{GlobalName, FunctionName, Plain, Method, Initializer, CodeLine}
use Rattle.build_object.specs.Lines as line
use Rattle.build_object.specs.Objects.{Object, ObjectFunction, ObjectDefinition, SameAs, Fields, Asks, ObjectDeclaration, TypeOf, Variable, FunctionOf}
use Rattle.build_object.specs.ObjectText.{object_text}
use Rattle.build_names.specs.Words.{NameChange, is_break, text_with_name}
use Rattle.law_objects.specs.Replaced.{of_global, text_by}

-- Whether the byte may be in a name: it stands between no words, and is no `#`.
abbrev pub is_name_byte : ℕ → Bool
is_name_byte b = not (is_break b) && not (b == 35)

-- Each byte may be in a name.
abbrev pub IsLegible : List ℕ → Type 0
IsLegible bytes = list_all is_name_byte bytes ≡ true

abbrev pub IsLegibleGlobal : GlobalName → Type 0
IsLegibleGlobal g = IsLegible g.path × IsLegible g.name

abbrev pub IsLegibleFunction : FunctionName → Type 0
IsLegibleFunction (Plain g) = IsLegibleGlobal g
IsLegibleFunction (Method g name) = IsLegibleGlobal g × IsLegible name
IsLegibleFunction (Initializer path k) = IsLegible path

abbrev pub IsLegibleLine : CodeLine → Type 0
IsLegibleLine (line.Global g) = IsLegibleGlobal g
IsLegibleLine (line.GlobalAddress g) = IsLegibleGlobal g
IsLegibleLine (line.Call f n) = IsLegibleFunction f
IsLegibleLine (line.CallAsked f n) = IsLegibleFunction f
IsLegibleLine other = ⊤

abbrev pub IsLegibleDefinition : ObjectDefinition → Type 0
IsLegibleDefinition (SameAs t) = ⊤
IsLegibleDefinition (Fields ts) = ⊤
IsLegibleDefinition (Asks ms) = AllByRecursion (λ m. IsLegibleFunction m.name) ms

abbrev pub IsLegibleDeclaration : ObjectDeclaration → Type 0
IsLegibleDeclaration (TypeOf name definition) = IsLegibleGlobal name × IsLegibleDefinition definition
IsLegibleDeclaration (Variable name t value) = IsLegibleGlobal name
IsLegibleDeclaration (FunctionOf f) = IsLegibleFunction f.name × AllByRecursion IsLegibleLine f.code

pub record IsLegibleObject (o : Object) : Type 0 where
  pub path : IsLegible o.path
  pub name : IsLegible o.name
  pub imports : AllByRecursion IsLegible o.imports
  pub declarations : AllByRecursion IsLegibleDeclaration o.declarations

-- Each name that is given to a type is legible.
abbrev pub AreLegibleNames : (Symbol → Option GlobalName) → Type 0
AreLegibleNames names = (s : Symbol) (g : GlobalName) → names s ≡ Some g → IsLegibleGlobal g

-- The path and the old name are legible, and the old name has no point.
pub record IsLegibleChange (c : NameChange) : Type 0 where
  pub path : IsLegible c.path
  pub old : IsLegible c.old
  pub no_point : list_all (λ b. not (b == 46)) c.old ≡ true

-- The text of an object whose names are legible gets a new name exactly where the object has the old one.
abbrev pub LegibleTextsFollow : Type 0
LegibleTextsFollow = (c : NameChange) → IsLegibleChange c → (names : Symbol → Option GlobalName) → AreLegibleNames names → (o : Object) →
    IsLegibleObject o → text_with_name c (object_text names o) ≡ text_by (of_global c.path c.old c.new) names o
