-- The types of type expressions that aren't broken, by what they name and mention.
use Rattle.std.proofs.Common.{ℕ, ◌≡◌, ◌<◌, Bool, List, length, subst, arith}
use Rattle.std.specs.Prelude.{Option, Some, None}
use Rattle.go_ast.specs.Tree.{TypeTree}
use Rattle.types_expr.specs.Types.{PlainType}
use Rattle.types_declared.specs.Package.{Package, package_types}
use Rattle.types_declared.specs.Written.{IsTypeOf, Mentions}
use Rattle.types_declared.specs.WrittenView.{IsNamedBy, MentionsBroken, IsTypeFound}
use Rattle.types_declared.specs.Reachability.{HasMark}
use Rattle.types_declared.specs.Broken.{AreBroken}
use Rattle.types_declared.proofs.Mentioning.{mention_within}

-- The mentioned definition is marked exactly where it is broken

pub marked_broken : (p : Package) (file : ℕ) (tree : TypeTree) (marks : List Bool) (r : ℕ) → AreBroken p marks → Mentions p file tree r → HasMark marks r →
    MentionsBroken p file tree
marked_broken p file tree marks r broken m k = record { rank = r; mentions = m; broken = (broken.each r (mention_within p file tree r m)).0 k }

pub broken_marked : (p : Package) (file : ℕ) (tree : TypeTree) (marks : List Bool) (r : ℕ) → AreBroken p marks →
    ((other : ℕ) → Mentions p file tree other → other ≡ r) → MentionsBroken p file tree → HasMark marks r
broken_marked p file tree marks r broken only b =
    subst (HasMark marks) (only b.rank b.mentions) ((broken.each b.rank (mention_within p file tree b.rank b.mentions)).1 b.broken)

pub mention_marked : (p : Package) (file : ℕ) (tree : TypeTree) (marks : List Bool) (r : ℕ) → AreBroken p marks → Mentions p file tree r → r < length marks
mention_marked p file tree marks r broken m = let lt : r < length (package_types p) = mention_within p file tree r m in omega (arith, broken.all)

-- A broken type expression has no type; another has the type that it names

pub broken_none : (p : Package) (file : ℕ) (tree : TypeTree) → MentionsBroken p file tree → (t : PlainType) → IsTypeOf p file tree t → ⊥
broken_none p file tree b t is = is.whole b.rank b.mentions b.broken

pub whole_named : (p : Package) (file : ℕ) (tree : TypeTree) (o : Option PlainType) → (MentionsBroken p file tree → ⊥) → IsNamedBy p file tree o →
    IsTypeFound p file tree o
whole_named p file tree None whole h = λ t is. h t is.names
whole_named p file tree (Some t) whole h = record { names = h; whole = λ r m b. whole (record { rank = r; mentions = m; broken = b }) }
