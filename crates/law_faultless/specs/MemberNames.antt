-- The identifiers that name members.
use Rattle.std.specs.Prelude.{ℕ, ◌≡◌, List}
use Rattle.go_scope.specs.declared.model.Role.TheVariants.{NotLexical}
use Rattle.go_scope.specs.declared.model.Purpose.TheVariants.{Selected, Key}
use Rattle.types_declared.specs.Package.{Package}
use Rattle.types_info.specs.QualifiedIdentifiers.{IsQualifiedByPath}

-- The identifier u is the selector of a selection that is no qualified identifier, or a key of a composite literal.
--
--   t.f          // f
--   T{f: 1}      // f
--   p.N          // not N, where p is an import's name
pub data IsMemberName (p : Package) (u : ℕ) : Type 0 where
  a_selected : p.layout.role u ≡ NotLexical Selected → ((path : List ℕ) → IsQualifiedByPath p u path → ⊥) → IsMemberName p u
  a_key : p.layout.role u ≡ NotLexical Key → IsMemberName p u
