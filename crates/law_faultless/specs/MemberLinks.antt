-- The uses of members at names behind dots and at keys.
use Rattle.std.specs.Prelude.{ℕ, ◌≡◌, ◌⊎◌, ⊤, List, Contains, Some}
use Rattle.go_scope.specs.declared.model.Role.{Role}
use Rattle.go_scope.specs.declared.model.Role.TheVariants.{NotLexical}
use Rattle.go_scope.specs.declared.model.Purpose.TheVariants.{Selected, Key}
use Rattle.types_expr.specs.Types.{Broken}
use Rattle.types_expr.specs.World.{World, Means, Member}
use Rattle.types_expr.specs.Judge.{MemberUse}

-- One of the uses stands at the token, and the type before it has a member there.
pub record IsUsedMember (w : World) (uses : List MemberUse) (token : ℕ) : Type 0 where
  pub found : MemberUse
  pub is_use : Contains uses found
  pub at : found.place ≡ token
  pub member : Member
  pub is_member : w.member token found.before ≡ Some member

-- An identifier with this role at the token is linked. A selector is bound to something, as in a qualified identifier, or used as a member.
-- A key is used as a member. Any other identifier counts as linked.
abbrev pub IsLinked : World → (IsUsed : ℕ → Type 0) → (token : ℕ) → Role → Type 0
IsLinked w IsUsed token (NotLexical Selected) = (w.bound token ≡ Means Broken → ⊥) ⊎ IsUsed token
IsLinked w IsUsed token (NotLexical Key) = IsUsed token
IsLinked w IsUsed token role = ⊤
