-- The identifier at a byte is bound to a package-level declaration: by the declaration that is found there, and by the package of its number.
use Rattle.std.proofs.Common.{◌≡◌, ℕ, List, ap, sym, subst, ◌∙◌}
use Rattle.std.specs.Prelude.{Contains, Ok, Some, slice_get}
use Rattle.std.proofs.lemmas.Option.{same_Some}
use Rattle.base_files.specs.Packages.{package_paths}
use Rattle.base_files.specs.Workspace.{Workspace}
use Rattle.types_declared.specs.Package.{Package}
use Rattle.types_expr.specs.declared.symbol.Symbol.{Symbol}
use Rattle.workspace_check.specs.Verdicts.{Verdicts, AreVerdicts}
use Rattle.refs_binding.specs.declared.declaration.Declaration.{Declaration}
use Rattle.refs_binding.specs.declared.declaration.Declaration.TheVariants.{Declared, Field, Method, Predeclared}
use Rattle.refs_binding.specs.declared.indexed.Numbered.{Numbered}
use Rattle.refs_binding.specs.Indexed.{IsPackageNumbered}
use Rattle.refs_binding.specs.Uses.{HasDeclaration}
use Rattle.refs_binding.specs.Workspaces.{FindsDeclaration, known_in}
use Rattle.refs_binding.proofs.Units.{one_package}
use Rattle.refs_lookup.proofs.Packages.{package_stays}
use Rattle.build_names.specs.Words.{NameChange}
use Rattle.law_agreement.proofs.Afterwards.{same_number, same_path}
use Rattle.law_objects.specs.CarriedUnits.{AreLegiblePaths}
use Rattle.refactor_units.specs.LevelNames.{ChangesLevel, HasNoLevelNumber, IsLevelAt, IsLevelNumber, IsLevelOf}
use Rattle.refactor_units.proofs.Missed.{found_is_it}
use Rattle.refactor_units.proofs.PlainRenames.{same_closure}

-- declarations of no package
pub predeclared_is_none : (k : ℕ) (p : List ℕ) (n : ℕ) → Predeclared k ≡ Declared p n → ⊥
predeclared_is_none k p n e = cc

pub field_is_none : (s : Symbol) (p : List ℕ) (n : ℕ) → Field s ≡ Declared p n → ⊥
field_is_none s p n e = cc

pub method_is_none : (s : Symbol) (p : List ℕ) (n : ℕ) → Method s ≡ Declared p n → ⊥
method_is_none s p n e = cc

-- the declaration that is found

module _ (w : Workspace) (known : Verdicts) (right : AreVerdicts w known) (path : List ℕ) (offset : ℕ) (d : Declaration)
    (f : FindsDeclaration w known path offset (Ok d)) (name : List ℕ) (c : NameChange) where
  pub level_there : AreLegiblePaths w → IsLevelOf w known d name c → IsLevelAt w path offset name c
  level_there paths l = record {
    known = known;
    right = right;
    declared_in = l.declared_in;
    is_package = l.is_package;
    number = l.number;
    is_level = l.is_level;
    has = subst (HasDeclaration w known path offset) l.is_declared f;
    paths = paths;
    is_change = l.is_change;
  }

  pub level_found : IsLevelAt w path offset name c → IsLevelOf w known d name c
  level_found h = record {
    declared_in = h.declared_in;
    is_package = package_stays w w h.known known h.right right h.declared_in (same_closure w h.declared_in.path) h.is_package;
    number = h.number;
    is_level = h.is_level;
    is_declared = found_is_it w known right path offset h.known h.right d (Declared h.declared_in.path h.number) f h.has;
    is_change = h.is_change;
  }

-- the package of its number

module _ (at : Numbered) (home : List ℕ) (n : ℕ) (name : List ℕ) (c : NameChange) where
  abbrev w : Workspace
  w = at.workspace.now.graph

  abbrev known : Verdicts
  known = known_in at.workspace.now.findings

  pub level_of : slice_get (package_paths w) at.number ≡ Some home → ChangesLevel at n name c → IsLevelOf w known (Declared home n) name c
  level_of of_number changes = record {
    declared_in = changes.own;
    is_package = changes.is_package.is_package;
    number = n;
    is_level = changes.is_level;
    is_declared = ap (λ q. Declared q n) (same_Some home changes.own.path (sym of_number ∙ changes.is_package.has_number));
    is_change = changes.is_change;
  }

  pub no_level : slice_get (package_paths w) at.number ≡ Some home →
      ((p : Package) → IsPackageNumbered at p → IsLevelNumber p n → ⊥) → IsLevelOf w known (Declared home n) name c → ⊥
  no_level of_number none l =
      let same : home ≡ l.declared_in.path = same_path home l.declared_in.path n l.number l.is_declared in
      let number : n ≡ l.number = same_number home l.declared_in.path n l.number l.is_declared in
      none l.declared_in (record { has_number = of_number ∙ ap Some same; is_package = l.is_package })
      (subst (IsLevelNumber l.declared_in) (sym number) l.is_level)

pub none_of_number : (at : Numbered) (p : Package) (n : ℕ) → IsPackageNumbered at p → (IsLevelNumber p n → ⊥) → HasNoLevelNumber at n
none_of_number at p n is none = λ q other level.
    let w = at.workspace.now.graph in
    let same : q ≡ p = one_package w (known_in at.workspace.now.findings) q p other.is_package is.is_package
    (same_Some q.path p.path (sym other.has_number ∙ is.has_number)) in
    none (subst (λ (x : Package). IsLevelNumber x n) same level)

pub no_package : (w : Workspace) (v : Verdicts) (home : List ℕ) (n : ℕ) (name : List ℕ) (c : NameChange) →
    (Contains (package_paths w) home → ⊥) → IsLevelOf w v (Declared home n) name c → ⊥
no_package w v home n name c none l =
    none (subst (Contains (package_paths w)) (sym (same_path home l.declared_in.path n l.number l.is_declared)) l.is_package.of_workspace)
