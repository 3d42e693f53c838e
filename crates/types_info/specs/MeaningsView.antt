-- The list of meanings of a package's declarations, as the program has it.
use Rattle.std.specs.Prelude.{ℕ, ◌≡◌, ◌<◌, ◌≤◌, ◌⊎◌, List, [], ◌∷◌, ◌++◌, Option, Some, None, option_map, length, slice_get, slice_index_or, codes, MatchOption}
use Rattle.types_expr.specs.Types.{Meaning}
use Rattle.types_expr.specs.declared.world.Bound.{Bound}
use Rattle.types_expr.specs.World as plain
use Rattle.types_expr.specs.World.{Means as Stands}
use Rattle.types_expr.specs.WorldView.{bound_of, bound_at}
use Rattle.types_declared.specs.Package.{Package}
use Rattle.types_declared.specs.MeaningOf.{PredeclaredMeans, IsMeaningOf}

-- the predeclared name has the meaning b
pub record IsPredeclaredMeaning (name : List ℕ) (b : plain.Bound) : Type 0 where
  pub meaning : Meaning
  pub means : PredeclaredMeans name meaning
  pub at : b ≡ Stands meaning

-- found is the meaning of the predeclared name, or none where the name isn't predeclared
abbrev pub IsPredeclaredFound : List ℕ → Option plain.Bound → Type 0
IsPredeclaredFound name found = MatchOption found ((m : Meaning) → PredeclaredMeans name m → ⊥) (λ b. IsPredeclaredMeaning name b)

-- the name is `true` or `false`
abbrev pub IsTruthName : List ℕ → Type 0
IsTruthName name = (name ≡ codes "true") ⊎ (name ≡ codes "false")

-- found is the meaning of `true`, `false` or `nil`, or none where the name is none of these
abbrev pub IsValueFound : List ℕ → Option plain.Bound → Type 0
IsValueFound name found = MatchOption found ((IsTruthName name → ⊥) × (name ≡ codes "nil" → ⊥)) (λ b. IsPredeclaredMeaning name b)

-- found is the meaning of the declaration d, or none where it has none
abbrev pub IsMeaningFound : Package → ℕ → Option plain.Bound → Type 0
IsMeaningFound p d found = MatchOption found ((b : plain.Bound) → IsMeaningOf p d b → ⊥) (λ b. IsMeaningOf p d b)

-- Each identifier below n has in the list, at the index that of gives for it, its meaning as a declaration. It has no index where it has no
-- meaning.
pub record AreMeaningsBelow (p : Package) (n : ℕ) (list : List Bound) (of : List (Option ℕ)) : Type 0 where
  pub all : length of ≡ n
  pub within : (d i : ℕ) → slice_index_or of d None ≡ Some i → i < length list
  pub each : (d : ℕ) → d < n →
      MatchOption (bound_at list (slice_index_or of d None)) ((b : plain.Bound) → IsMeaningOf p d b → ⊥) (λ b. IsMeaningOf p d (bound_of b))

-- each identifier of the package has its meaning in the list
abbrev pub AreMeanings : Package → List Bound → List (Option ℕ) → Type 0
AreMeanings p list of = AreMeaningsBelow p p.size list of

-- the new list begins with the old one
pub record Extends {X : Type 0} (old new : List X) : Type 0 where
  pub longer : length old ≤ length new
  pub keeps : (i : ℕ) (x : X) → slice_get old i ≡ Some x → slice_get new i ≡ Some x

-- the meaning of one more declaration was added, at an index of the new list; nothing was added for a declaration without a meaning
pub record AddsMeaning (list : List Bound) (of : List (Option ℕ)) (meaning : Option plain.Bound) (new_list : List Bound) (new_of : List (Option ℕ)) : Type 0
  where
    pub extends : Extends list new_list
    pub place : Option ℕ
    pub added : new_of ≡ of ++ (place ∷ [])
    pub within : (i : ℕ) → place ≡ Some i → i < length new_list
    pub means : option_map bound_of (bound_at new_list place) ≡ meaning
