-- What code asks of names is the same at corresponding tokens of two packages.
use Rattle.std.proofs.Common.{ℕ, suc, ◌≡◌, List, ap, subst}
use Rattle.std.proofs.Math.Path.{ap₂}
use Rattle.types_declared.specs.Package.{Package, spelled}
use Rattle.build_object.specs.Lines.{GlobalName}
use Rattle.build_object.specs.Sources.{HasQualifier, IsGlobalAt, IsTrueAt}
use Rattle.build_object.specs.Sources as source
use Rattle.law_changed_types.proofs.RenumberedTypesAlike.{Half, binds, is_predeclared}

same_before : (a b c : ℕ) → a ≡ suc (suc b) → a ≡ suc (suc c) → b ≡ c
same_before a b c e h = cc

module _ (T : ℕ → ℕ → ℕ → Type 0) (I : ℕ → ℕ → Type 0) (p q : Package) (h : Half T I p q) where
  qualifier_there : (file a b : ℕ) (path : List ℕ) → T file a b → HasQualifier p file a path → HasQualifier q file b path
  qualifier_there file a b path t x =
      let there = h.found file a b x.identifier t x.found in
      let dot = h.dots file a b t (record { identifier = x.identifier; found = x.found; selected = x.selected }) in
      let before : dot.was ≡ x.before = same_before a dot.was x.before dot.was_behind x.behind_dot in
      let import = binds T I p q h file x.before dot.is x.import (subst (λ n. T file n dot.is) before dot.follows) x.binds in
      record {
        before = dot.is;
        behind_dot = dot.is_behind;
        identifier = there.0;
        found = there.1.1;
        selected = h.selected x.identifier there.0 there.1.0 x.selected;
        import = import.0;
        binds = import.1.1;
        of_path = h.imports x.import import.0 path import.1.0 x.of_path;
      }

  pub global_there : (file a b : ℕ) (g : GlobalName) → T file a b → spelled q file b ≡ spelled p file a → IsGlobalAt p file a g → IsGlobalAt q file b g
  global_there file a b _ t same (source.own {d} x level) =
      let e = binds T I p q h file a b d t x in
      subst (IsGlobalAt q file b) (ap₂ (λ path name. record { path = path; name = name }) h.path same) (source.own e.1.1 (h.level d e.0 e.1.0 level))
  global_there file a b _ t same (source.imported {path} x) =
      subst (IsGlobalAt q file b) (ap (λ name. record { path = path; name = name }) same) (source.imported (qualifier_there file a b path t x))

  pub truth_there : (file a b : ℕ) → T file a b → IsTrueAt p file a → IsTrueAt q file b
  truth_there file a b t x =
      let e = binds T I p q h file a b x.declaration t x.binds in
      record { declaration = e.0; binds = e.1.1; predeclared = is_predeclared T I p q h x.declaration e.0 _ e.1.0 x.predeclared }
