-- The tokens at which members are used.
use Rattle.std.specs.Prelude.{ℕ, suc, ◌≡◌, true}
use Rattle.go_scanner.specs.CutText.{CutText}
use Rattle.go_ast.specs.declared.syntax.Kind.{Kind}
use Rattle.go_ast.specs.declared.syntax.Kind.TheVariants.{Colon}
use Rattle.types_expr.specs.Types.{Package}
use Rattle.types_expr.specs.World.{World, Means}
use Rattle.law_tokens.specs.Roles.{IsOfKind, FollowsDot}
use Rattle.go_scope.specs.IdentifierTokens.{is_ident_token}

-- The token is an identifier or `_` that is bound to a package, and no dot is before it.
pub record IsBoundToPackage (w : World) (c : CutText) (token : ℕ) : Type 0 where
  pub kind : Kind
  pub of_kind : IsOfKind c token kind
  pub named : is_ident_token kind ≡ true
  pub undotted : FollowsDot c token → ⊥
  pub names : w.bound token ≡ Means Package

-- A colon follows the token, or a dot precedes it that does not come after the name of a package.
pub data IsMemberToken (w : World) (c : CutText) (place : ℕ) : Type 0 where
  as_key : IsOfKind c (suc place) Colon → IsMemberToken w c place
  as_selected : FollowsDot c place → ((token : ℕ) → suc (suc token) ≡ place → IsBoundToPackage w c token → ⊥) → IsMemberToken w c place
