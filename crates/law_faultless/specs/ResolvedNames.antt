-- The names of a file as its scopes bind them, by the file's world.
use Rattle.std.specs.Prelude.{ℕ, suc, ◌≡◌, ◌<◌, ◌≤◌, ◌⊎◌, ⊤, Bool, true, false, List, [], ◌∷◌, Contains}
use Rattle.go_ast.specs.declared.syntax.Kind.TheVariants as kind
use Rattle.go_ast.specs.SourceFile.{SourceFile}
use Rattle.go_scope.specs.declared.model.Block.TheVariants.{Inner}
use Rattle.go_scope.specs.declared.model.Role.{Role}
use Rattle.go_scope.specs.declared.model.Role.TheVariants.{Use, Declaring, LeftName, NotLexical}
use Rattle.go_scope.specs.declared.model.Purpose.TheVariants as purpose
use Rattle.go_scope.specs.Bindings.{start_of}
use Rattle.go_scope.specs.Site.{Site}
use Rattle.law_tokens.specs.Roles.{IsOfKind}
use Rattle.types_expr.specs.Types.{Meaning}
use Rattle.types_expr.specs.Types.{Package as PackageName}
use Rattle.types_expr.specs.World.{World, Local, Means}
use Rattle.law_typing.specs.Names.{IsNotBroken}

-- Whether an identifier with this role may declare a local, in the block of a function or inside it.
abbrev pub may_be_local : Role → Bool
may_be_local (Declaring (Inner file from to) start) = true
may_be_local (LeftName (Inner file from to) start) = true
may_be_local r = false

-- A scope that begins with this role holds a token. The scope of a parameter of a method that an interface asks for holds none.
abbrev pub HoldsTokens : Role → Type 0
HoldsTokens (Declaring (Inner file from to) start) = start < to
HoldsTokens (LeftName (Inner file from to) start) = start < to
HoldsTokens r = ⊤

-- The identifier y declares a local whose scope holds a token, and is bound to this local.
abbrev pub IsOwnLocal : World → Site → Type 0
IsOwnLocal w y = (w.bound y.place.index ≡ Local y.place.index) × (may_be_local y.role ≡ true) × HoldsTokens y.role

-- The name at token n is bound to a local that an identifier of A declares, and whose scope has begun.
pub record IsEarlierLocal (w : World) (A : List Site) (n : ℕ) : Type 0 where
  pub local : Site
  pub among : Contains A local
  pub own : IsOwnLocal w local
  pub bound : w.bound n ≡ Local local.place.index
  pub begun : start_of local.role ≤ n

-- An identifier with this role at token n is resolved, where the identifiers of A stand before it. B: a token is `_`.
--
-- A lexical use means something, or is a local that was declared before, and it is no `_`. The selector of a qualified identifier means
-- something. A left name of `:=` declares a local, or is one that was declared before.
abbrev pub IsResolved : World → (B : ℕ → Type 0) → List Site → ℕ → Role → Type 0
IsResolved w B A n Use = (((m : Meaning) × ((w.bound n ≡ Means m) × IsNotBroken m)) ⊎ IsEarlierLocal w A n) × (B n → ⊥)
IsResolved w B A n (NotLexical purpose.Selected) = (b : ℕ) → suc (suc b) ≡ n → w.bound b ≡ Means PackageName →
    (m : Meaning) × ((w.bound n ≡ Means m) × IsNotBroken m)
IsResolved w B A n (LeftName block start) = (w.bound n ≡ Local n) ⊎ IsEarlierLocal w A n
IsResolved w B A n r = ⊤

-- Each identifier of the list is resolved, where those of A, and those before it in the list, stand before it.
abbrev pub AreResolved : World → (B : ℕ → Type 0) → List Site → List Site → Type 0
AreResolved w B A [] = ⊤
AreResolved w B A (x ∷ xs) = IsResolved w B A x.place.index x.role × AreResolved w B (x ∷ A) xs

-- The token with this number is `_`.
abbrev pub IsBlankAt : SourceFile → ℕ → Type 0
IsBlankAt s n = IsOfKind s.cut n kind.Blank
