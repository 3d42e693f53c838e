-- Sources of the code of files whose tokens get other numbers.
use Rattle.std.specs.Prelude.{ℕ, ◌≡◌, List, [], ◌∷◌, Some, map}
use Rattle.std.specs.List.{AllByRecursion}
use Rattle.go_ast.specs.declared.syntax.Token.{Token}
use Rattle.go_ast.specs.Flatten.{all_tokens, decl_tokens}
use Rattle.go_ast.specs.Tree.{DeclTree, FileTree}
use Rattle.types_expr.specs.declared.symbol.Symbol.{Symbol}
use Rattle.types_expr.specs.Types.{PlainType}
use Rattle.build_object.specs.Lines.{FunctionName}
use Rattle.build_object.specs.Objects.{object_of}
use Rattle.build_object.specs.Source.{Source}
use Rattle.law_rename.specs.Renumbered.{decl_by}
use Rattle.law_changed_types.specs.Renumbering.{IsRenumbering, renumbered_bound}

-- The source `u` has at the token's new number what `s` has at the token. Of members it has those for the type before the token.
pub record IsSameAt (t : ℕ → ℕ) (s u : Source) (token : ℕ) : Type 0 where
  pub bound : u.world.bound (t token) ≡ renumbered_bound t (s.world.bound token)
  pub member : (type_of : PlainType) → s.before token ≡ Some type_of → u.world.member (t token) type_of ≡ s.world.member token type_of
  pub before : u.before (t token) ≡ s.before token
  pub global : u.global (t token) ≡ s.global token
  pub asks : u.asks (t token) ≡ s.asks token
  pub truth : u.truth (t token) ≡ s.truth token
  pub number : u.number (t token) ≡ s.number token
  pub text : u.text (t token) ≡ s.text token

-- The source `u` is `s` with the new numbers, at each token of the declarations.
pub record IsRenumberedSource (t : ℕ → ℕ) (decls : List DeclTree) (s u : Source) : Type 0 where
  pub numbers : IsRenumbering t
  pub definition : (x : Symbol) → u.world.definition x ≡ s.world.definition x
  pub implements : (t : PlainType) (x : Symbol) → u.world.implements t x ≡ s.world.implements t x
  pub function : (x : Symbol) → u.function x ≡ s.function x
  pub position : (x : Symbol) → u.position x ≡ s.position x
  pub asked : (x : Symbol) → u.asked x ≡ s.asked x
  pub entered : (token : ℕ) → u.entered (t token) ≡ s.entered token
  pub tokens : AllByRecursion (λ (token : Token). IsSameAt t s u token.place) (all_tokens decl_tokens decls)

-- So are the sources of files, one by one. The files declare the same, with the new numbers.
pub data AreRenumberedSources : (fs gs : List FileTree) → (ss us : List Source) → Type 0 where
  no_file : AreRenumberedSources [] [] [] []
  one_file : {t : ℕ → ℕ} {f g : FileTree} {fs gs : List FileTree} {s u : Source} {ss us : List Source} → IsRenumberedSource t f.decls s u →
      g.decls ≡ map (decl_by t) f.decls → AreRenumberedSources fs gs ss us → AreRenumberedSources (f ∷ fs) (g ∷ gs) (s ∷ ss) (u ∷ us)

-- Then the object is the same.
abbrev pub ObjectsRenumber : Type 0
ObjectsRenumber = (fs gs : List FileTree) (ss us : List Source) → AreRenumberedSources fs gs ss us → (path name : List ℕ) (imports : List (List ℕ))
    (functions : List FunctionName) → object_of us path name imports functions gs ≡ object_of ss path name imports functions fs
