-- The packages that qualify names after dots.
use Rattle.std.proofs.Common.{ℕ, suc, ◌≡◌, ◌<◌, List, sym, ap, subst, arith}
use Rattle.std.specs.Prelude.{Option, Some, None, MatchOption, ◌↔◌}
use Rattle.std.specs.Borrow.{Bor}
use Rattle.std.proofs.lemmas.Option.{none-some, same_Some}
use Rattle.go_scope.specs.declared.model.Role.TheVariants.{NotLexical}
use Rattle.go_scope.specs.declared.model.Purpose.TheVariants as purpose
use Rattle.go_scope.specs.Named.{name_value}
use Rattle.types_declared.specs.Package.{Package}
use Rattle.types_declared.specs.Written.{BindsToken, DeclaresImport}
use Rattle.types_info.specs.QualifiedIdentifiers.{NamesPackage, IsQualifiedByPath, IsOnePath, IsQualifierFound}

before_is : (p : Package) (u before : ℕ) (path : List ℕ) → (p.layout.place u).index ≡ suc (suc before) → IsQualifiedByPath p u path →
    NamesPackage p (p.layout.place u).file before path
before_is p u before path e h =
    let same : h.before ≡ before = let k : (p.layout.place u).index ≡ suc (suc h.before) = h.behind_dot in omega arith in
    subst (λ b. NamesPackage p (p.layout.place u).file b path) same h.named

-- the binding of the name two tokens before a name after a dot
pub bound_before : (p : Package) (u before : ℕ) (o : Option ℕ) → p.layout.role u ≡ NotLexical purpose.Selected →
    (p.layout.place u).index ≡ suc (suc before) →
    MatchOption o ((d : ℕ) → BindsToken p (p.layout.place u).file before d → ⊥) (λ d. BindsToken p (p.layout.place u).file before d) →
    MatchOption o (Unit {0}) (λ d. (e : ℕ) → BindsToken p (p.layout.place u).file before e → e ≡ d) → IsQualifierFound p u o
bound_before p u before None role e bound only = λ path b. let n = before_is p u before path e b in bound n.import n.binds
bound_before p u before (Some d) role e bound only = λ path. (
  (λ b. let n = before_is p u before path e b in subst (λ i. DeclaresImport p i path) (only n.import n.binds) n.imports),
  (λ i. record { selected = role; before = before; behind_dot = e; named = record { import = d; binds = bound; imports = i } }),
)

-- the first two tokens of a file are qualified by no package
pub not_behind : (p : Package) (u : ℕ) (path : List ℕ) → (p.layout.place u).index < 2 → IsQualifiedByPath p u path → ⊥
not_behind p u path lt h = let k : (p.layout.place u).index ≡ suc (suc h.before) = h.behind_dot in absurd (omega arith)

-- the path of the import to which that name is bound
pub path_before : (p : Package) (u d : ℕ) (o : Option (Bor (List ℕ))) → ((path : List ℕ) → IsQualifiedByPath p u path ↔ DeclaresImport p d path) →
    MatchOption o ((v : List ℕ) → DeclaresImport p d v → ⊥) (λ v. DeclaresImport p d v.now × ((other : List ℕ) → DeclaresImport p d other → other ≡ v.now)) →
    IsOnePath (IsQualifiedByPath p u) o
path_before p u d None same h = λ path b. h path ((same path).0 b)
path_before p u d (Some v) same h = ((same v.now).1 h.0, λ other b. h.1 other ((same other).0 b))

-- the path found is the qualifying package's
pub path_is : (P : List ℕ → Type 0) (o : Option (Bor (List ℕ))) (path : List ℕ) → IsOnePath P o → (name_value o ≡ Some path) ↔ P path
path_is P None path h = ((λ e. absurd (none-some path e)), (λ q. absurd (h path q)))
path_is P (Some v) path h = ((λ e. subst P (same_Some v.now path e) h.0), (λ q. ap Some (sym (h.1 path q))))
