-- Worked examples of bindings where imports without a name declare. The package with the path `b/q` has the name `q`, another one `len`.
use Rattle.std.proofs.Common.{ℕ, ◌≡◌, ◌<◌, inl, inr, true, List, [], ◌∷◌, Option, Some, None, refl, arith, zero, suc}
use Rattle.std.specs.Prelude.{codes}
use Rattle.go_scope.specs.declared.model.Block.TheVariants.{Package, File}
use Rattle.go_scope.specs.declared.model.Role.{Role}
use Rattle.go_scope.specs.declared.model.Role.TheVariants.{Use, Declaring, NotLexical}
use Rattle.go_scope.specs.declared.model.Purpose.TheVariants.{ImportPath, UnnamedImport}
use Rattle.go_scope.specs.declared.model.Scope.TheVariants.{WholeFile}
use Rattle.go_scope.specs.Bindings.{Declares, Counts, IsBoundTo, use_bound, Displaces, scope_of, may_declare, is_left_name}
use Rattle.go_scope.specs.Scopes.{IsInside}
use Rattle.go_scope.specs.FileSites.{universe_site}
use Rattle.go_scope.specs.Named.{named_sites}
use Rattle.go_scope.specs.Site.{Site, sites_layout, sites_names}

abbrev q : List ℕ
q = codes "q"

-- an identifier at a token of the first file
abbrev stands : ℕ → List ℕ → Role → Site
stands token name role = record { place = record { file = 0; index = token }; name = name; role = role }

abbrev literal : ℕ → Site
literal token = stands token (codes "\"b/q\"") (NotLexical UnnamedImport)

abbrev imported : ℕ → List ℕ → Site
imported token name = stands token name (Declaring (File 0) 0)

-- the package's name for each string literal of an import without a name
abbrev all_q : ℕ → Option (List ℕ)
all_q u = Some q

-- `import "b/q"`, and a use of `q`: the literal declares the name, and all other identifiers stay
pub name_laid : named_sites all_q (literal 3 ∷ stands 9 q Use ∷ []) ≡ imported 3 q ∷ stands 9 q Use ∷ []
unfolding named_sites
name_laid = refl

-- where the package's name is not known, the literal declares nothing
pub name_unknown : named_sites (λ u. None) (literal 3 ∷ stands 9 q Use ∷ []) ≡ literal 3 ∷ stands 9 q Use ∷ []
unfolding named_sites
name_unknown = refl

-- `import ( "b/q" ; q "c/r" )`: the later import, which has a name, stays as it is
pub later_laid : named_sites all_q (literal 3 ∷ imported 5 q ∷ stands 6 (codes "\"c/r\"") (NotLexical ImportPath) ∷ []) ≡
    imported 3 q ∷ imported 5 q ∷ stands 6 (codes "\"c/r\"") (NotLexical ImportPath) ∷ []
unfolding named_sites
later_laid = refl

abbrev Bound : List Site → (u d : ℕ) → Type 0
Bound xs u d = IsBoundTo (sites_layout xs) (sites_names xs) u d

abbrev CountsIn : List Site → ℕ → Type 0
CountsIn xs d = Counts (sites_layout xs) (sites_names xs) d

abbrev DeclaresIn : List Site → ℕ → Type 0
DeclaresIn xs d = Declares (sites_layout xs) (sites_names xs) d

-- a name that no `:=` declares
plain : (xs : List Site) (d : ℕ) → may_declare ((sites_layout xs).role d) ≡ true → (is_left_name ((sites_layout xs).role d) ≡ true → ⊥) → DeclaresIn xs d
plain xs d may other = record { may = may; is_new = λ left. absurd (other left) }

-- `import "b/q"` and a use of `q`, which is otherwise bound to nothing

abbrev alone : List Site
alone = imported 3 q ∷ stands 9 q Use ∷ []

alone_apart : (e : ℕ) → Displaces (sites_layout alone) e 0 → ⊥
alone_apart e (inl before) = let absent : e < 0 = before.1 in omega arith
alone_apart zero (inr level) = let absent = level.0 in cc
alone_apart (suc zero) (inr level) = let absent = level.0 in cc
alone_apart (suc (suc e)) (inr level) = let absent = level.0 in cc

alone_only : (e : ℕ) → CountsIn alone e → e ≡ 0
alone_only zero c = refl
alone_only (suc zero) c = let absent = c.declares.may in cc
alone_only (suc (suc e)) c = let absent = c.declares.may in cc

pub alone_bound : Bound alone 1 0
alone_bound = use_bound (inl refl) (record {
  counts = record { declares = plain alone 0 refl (λ e. cc); first = λ e d same why. alone_apart e why };
  named = refl;
  in_scope = refl;
  innermost = λ e c same holds inside. alone_only e c;
})

-- `import ( "b/q" ; q "c/r" )` and a use of `q`: the first import counts, the second does not

abbrev twice : List Site
twice = imported 3 q ∷ imported 5 q ∷ stands 9 q Use ∷ []

twice_apart : (e : ℕ) → Displaces (sites_layout twice) e 0 → ⊥
twice_apart e (inl before) = let absent : e < 0 = before.1 in omega arith
twice_apart zero (inr level) = let absent = level.0 in cc
twice_apart (suc zero) (inr level) = let absent = level.0 in cc
twice_apart (suc (suc zero)) (inr level) = let absent = level.0 in cc
twice_apart (suc (suc (suc e))) (inr level) = let absent = level.0 in cc

pub second_is_repeated : CountsIn twice 1 → ⊥
second_is_repeated c = c.first 0 (plain twice 0 refl (λ e. cc)) refl (inl (refl, omega arith))

twice_only : (e : ℕ) → CountsIn twice e → e ≡ 0
twice_only zero c = refl
twice_only (suc zero) c = absurd (second_is_repeated c)
twice_only (suc (suc zero)) c = let absent = c.declares.may in cc
twice_only (suc (suc (suc e))) c = let absent = c.declares.may in cc

pub twice_bound : Bound twice 2 0
twice_bound = use_bound (inl refl) (record {
  counts = record { declares = plain twice 0 refl (λ e. cc); first = λ e d same why. twice_apart e why };
  named = refl;
  in_scope = refl;
  innermost = λ e c same holds inside. twice_only e c;
})

-- `import "b/len"` of a package `len`, and a use of `len`, which is otherwise bound to the predeclared name

abbrev len : List ℕ
len = codes "len"

abbrev predeclared : List Site
predeclared = universe_site len ∷ imported 3 len ∷ stands 9 len Use ∷ []

predeclared_apart : (e : ℕ) → Displaces (sites_layout predeclared) e 1 → ⊥
predeclared_apart zero (inl before) = let absent = before.0 in cc
predeclared_apart (suc e) (inl before) = let absent : suc e < 1 = before.1 in omega arith
predeclared_apart zero (inr level) = let absent = level.0 in cc
predeclared_apart (suc zero) (inr level) = let absent = level.0 in cc
predeclared_apart (suc (suc zero)) (inr level) = let absent = level.0 in cc
predeclared_apart (suc (suc (suc e))) (inr level) = let absent = level.0 in cc

predeclared_only : (e : ℕ) → CountsIn predeclared e → IsInside (scope_of ((sites_layout predeclared).role e)) (WholeFile 0) → e ≡ 1
predeclared_only zero c inside = absurd inside
predeclared_only (suc zero) c inside = refl
predeclared_only (suc (suc zero)) c inside = let absent = c.declares.may in cc
predeclared_only (suc (suc (suc e))) c inside = let absent = c.declares.may in cc

pub predeclared_bound : Bound predeclared 2 1
predeclared_bound = use_bound (inl refl) (record {
  counts = record { declares = plain predeclared 1 refl (λ e. cc); first = λ e d same why. predeclared_apart e why };
  named = refl;
  in_scope = refl;
  innermost = λ e c same holds inside. predeclared_only e c inside;
})

-- `import "b/q"` beside a package-level variable `q`: the import does not count, and a use is bound to the variable

abbrev beside : List Site
beside = imported 3 q ∷ stands 5 q (Declaring Package 0) ∷ stands 9 q Use ∷ []

pub import_gives_way : CountsIn beside 0 → ⊥
import_gives_way c = c.first 1 (plain beside 1 refl (λ e. cc)) refl (inr (refl, (0, refl)))

beside_apart : (e : ℕ) → Displaces (sites_layout beside) e 1 → ⊥
beside_apart zero (inl before) = let absent = before.0 in cc
beside_apart (suc e) (inl before) = let absent : suc e < 1 = before.1 in omega arith
beside_apart e (inr level) = let absent = level.1.1 in cc

beside_only : (e : ℕ) → CountsIn beside e → e ≡ 1
beside_only zero c = absurd (import_gives_way c)
beside_only (suc zero) c = refl
beside_only (suc (suc zero)) c = let absent = c.declares.may in cc
beside_only (suc (suc (suc e))) c = let absent = c.declares.may in cc

pub beside_bound : Bound beside 2 1
beside_bound = use_bound (inl refl) (record {
  counts = record { declares = plain beside 1 refl (λ e. cc); first = λ e d same why. beside_apart e why };
  named = refl;
  in_scope = tt;
  innermost = λ e c same holds inside. beside_only e c;
})
