-- Sources of code that differ in the names of declarations, and in members that no code asks for.
use Rattle.std.specs.Prelude.{ℕ, ◌≡◌, List, [], ◌∷◌, Option, Some, map, option_map}
use Rattle.std.specs.List.{AllByRecursion}
use Rattle.go_ast.specs.declared.syntax.Kind.{Kind}
use Rattle.go_ast.specs.declared.syntax.Kind.TheVariants as kind
use Rattle.go_ast.specs.Flatten.{all_tokens, decl_tokens}
use Rattle.go_ast.specs.Tree.{FileTree}
use Rattle.types_expr.specs.Types.{PlainType}
use Rattle.types_expr.specs.World.{Member}
use Rattle.build_object.specs.Lines.{GlobalName, FunctionName, Plain}
use Rattle.build_object.specs.Objects.{object_of}
use Rattle.build_object.specs.Source.{Source}
use Rattle.law_objects.specs.Replaced.{Replaced, object_by}

-- The source `s` with other names, other members and other numbers.
abbrev pub source_by : Replaced → Source → (member : ℕ → PlainType → Option Member) → (number : ℕ → Option ℕ) → Source
source_by r s member number = record {
  world = record { bound = s.world.bound; member = member; definition = s.world.definition; implements = s.world.implements };
  before = s.before;
  entered = s.entered;
  global = λ n. option_map r.global (s.global n);
  asks = λ n. option_map r.function (s.asks n);
  truth = s.truth;
  number = number;
  text = s.text;
  function = λ f. option_map r.function (s.function f);
  position = s.position;
  asked = λ f. option_map r.function (s.asked f);
}

-- A function without a receiver has the name of its declaration.
abbrev pub IsUniform : Replaced → Type 0
IsUniform r = (g : GlobalName) → r.function (Plain g) ≡ Plain (r.global g)

-- A token that is an integer literal keeps its value.
abbrev pub NumbersStay : Source → (number : ℕ → Option ℕ) → Kind → ℕ → Type 0
NumbersStay s number k n = k ≡ kind.Number → number n ≡ s.number n

-- `t` is the source `s` of the code of a file with other names. It has the members that the code asks for, and the values of all integer
-- literals.
pub record IsSourceBy (r : Replaced) (tree : FileTree) (s t : Source) : Type 0 where
  pub same : t ≡ source_by r s t.world.member t.number
  pub agree : (n : ℕ) (type_of : PlainType) → s.before n ≡ Some type_of → t.world.member n type_of ≡ s.world.member n type_of
  pub numbers : AllByRecursion (λ token. NumbersStay s t.number token.kind token.place) (all_tokens decl_tokens tree.decls)

-- So are the sources of files with these trees, one by one.
pub data AreSourcesBy (r : Replaced) : List FileTree → List Source → List Source → Type 0 where
  no_source : {trees : List FileTree} → AreSourcesBy r trees [] []
  no_tree : {ss ts : List Source} → AreSourcesBy r [] ss ts
  a_source : {tree : FileTree} {trees : List FileTree} {s t : Source} {ss ts : List Source} → IsSourceBy r tree s t → AreSourcesBy r trees ss ts →
      AreSourcesBy r (tree ∷ trees) (s ∷ ss) (t ∷ ts)

-- Sources with other names give the object with these names.
abbrev pub SourcesGiveObjects : Type 0
SourcesGiveObjects = (r : Replaced) → IsUniform r → (trees : List FileTree) (ss ts : List Source) → AreSourcesBy r trees ss ts →
    (path name : List ℕ) (imports : List (List ℕ)) (functions : List FunctionName) →
    object_of ts path name imports (map r.function functions) trees ≡ object_by r (object_of ss path name imports functions trees)
