-- Names at corresponding tokens, and the definitions of both packages.
use Rattle.std.proofs.Common.{ℕ, suc, ◌≡◌, Bool, true, false, Option, Some, None, refl, sym, ap, ◌∙◌, subst, arith}
use Rattle.std.specs.Prelude.{slice_get}
use Rattle.std.specs.Cmp.Lexicographic.{bytes_decides}
use Rattle.std.proofs.lemmas.Bool.{true≢false}
use Rattle.std.proofs.lemmas.Option.{none-some}
use Rattle.go_scope.specs.Bindings.{block_of}
use Rattle.go_scope.specs.declared.model.Block.TheVariants.{Inner}
use Rattle.go_scope.specs.WellFormed.{WellFormed}
use Rattle.types_expr.specs.declared.symbol.Symbol.{Symbol}
use Rattle.types_expr.specs.Types.{same_path, Broken}
use Rattle.types_expr.specs.World.{Bound, Definition}
use Rattle.types_expr.specs.World.{Means as Stands}
use Rattle.types_expr.specs.WorldView.{no_definition}
use Rattle.types_declared.specs.Package.{Package, PlacedType, Export, ExportData, package_types, symbol_in}
use Rattle.types_declared.specs.Written.{BindsToken, IsExportAt}
use Rattle.types_declared.specs.Definitions.{AreDefinitions}
use Rattle.types_info.specs.Worlds.{DenotesExport, IsBoundAt, by_scope, by_package, IsName, is_bound, is_unbound}
use Rattle.types_info.proofs.OneWorld.{one_definition}
use Rattle.law_changed_types.specs.SameBindings.{IsSelectedAt}
use Rattle.law_changed_types.proofs.RenumberedTypesAlike.{Half, Turned, TurnedIdentifiers, symbols, binds, export}
use Rattle.law_changed_types.proofs.RenumberedTypesMeanings.{SameBound, same_meaning, meaning}
use Rattle.law_changed_types.proofs.RenumberedTypesDefined.{definition_stays}

-- the token of a local that is bound at a token of a file follows by the file's tokens
abbrev pub LocalsFollow : (ℕ → ℕ → ℕ → Type 0) → (ℕ → ℕ → Type 0) → Package → Package → Type 0
LocalsFollow T I p q = (file token d e f x y : ℕ) → BindsToken p file token d → I d e → block_of (p.layout.role d) ≡ Inner f x y →
    T file (p.layout.place d).index (q.layout.place e).index

same_before : (m n : ℕ) → suc (suc m) ≡ suc (suc n) → m ≡ n
same_before m n e = omega arith

module _ (T : ℕ → ℕ → ℕ → Type 0) (I : ℕ → ℕ → Type 0) (p q : Package) (h : Half T I p q) (k : Half (Turned T) (TurnedIdentifiers I) q p)
    (follow : LocalsFollow T I p q) where
  denotes_export : (file a b : ℕ) (x : Export) → T file a b → DenotesExport p file a x → DenotesExport q file b x
  denotes_export file a b x t is =
      let old : IsSelectedAt p file a = record { identifier = is.identifier; found = is.found; selected = is.selected } in
      let dot = h.dots file a b t old in
      let v = h.found file a b is.identifier t is.found in
      let before : is.before ≡ dot.was = same_before is.before dot.was (sym is.behind_dot ∙ dot.was_behind) in
      record {
        before = dot.is;
        behind_dot = dot.is_behind;
        identifier = v.0;
        found = v.1.1;
        selected = h.selected is.identifier v.0 v.1.0 is.selected;
        exported = export T I p q h file dot.was dot.is a b x dot.follows (h.selectors file a b t old)
            (subst (λ n. IsExportAt p file n a x) before is.exported);
      }

  bound_at : (file a b : ℕ) (x : Bound) → T file a b → IsBoundAt p file a x → (y : Bound) × (SameBound T file x y × IsBoundAt q file b y)
  bound_at file a b _ t (by_scope {declaration = d} {b = x} bound means) =
      let e = binds T I p q h file a b d t bound in
      let y = meaning T I p q h k d e.0 file x e.1.0 means (λ f m n inner. follow file a d e.0 f m n bound e.1.0 inner) in
      (y.0, (y.1.0, by_scope {declaration = e.0} {b = y.0} e.1.1 y.1.1))
  bound_at file a b _ t (by_package {e = x} is) =
      (Stands x.meaning, (same_meaning {m = x.meaning}, by_package {e = x} (denotes_export file a b x t is)))

module _ (T : ℕ → ℕ → ℕ → Type 0) (I : ℕ → ℕ → Type 0) (p q : Package) (h : Half T I p q) (k : Half (Turned T) (TurnedIdentifiers I) q p)
    (follow : LocalsFollow T I p q) (back : LocalsFollow (Turned T) (TurnedIdentifiers I) q p) where
  pub name : (file a b : ℕ) (x : Bound) → T file a b → IsName p file a x → (y : Bound) × (SameBound T file x y × IsName q file b y)
  name file a b _ t (is_bound {b = x} is) =
      let y = bound_at T I p q h k follow file a b x t is in
      (y.0, (y.1.0, is_bound {b = y.0} y.1.1))
  name file a b _ t (is_unbound none) = (
    Stands Broken,
    (
      same_meaning {m = Broken},
      is_unbound (λ x is. let y = bound_at (Turned T) (TurnedIdentifiers I) q p k h back file b a x t is in none y.0 y.1.1),
    ),
  )

-- definitions

module _ (T : ℕ → ℕ → ℕ → Type 0) (I : ℕ → ℕ → Type 0) (p q : Package) (h : Half T I p q) (k : Half (Turned T) (TurnedIdentifiers I) q p)
    (w : WellFormed q.layout) (c d : Symbol → Definition) (before : AreDefinitions p c) (after : AreDefinitions q d) where
  beyond : (rank : ℕ) (o : Option PlacedType) → slice_get (package_types q) rank ≡ o → slice_get (package_types p) rank ≡ None →
      slice_get (package_types q) rank ≡ None
  beyond rank None e at = e
  beyond rank (Some t) e at = let x = k.types rank t e in absurd (none-some x.0 (sym at ∙ x.1.0))

  by_rank : (rank : ℕ) (o : Option PlacedType) → slice_get (package_types p) rank ≡ o → d (symbol_in q rank) ≡ c (symbol_in p rank)
  by_rank rank None at =
      after.beyond rank (beyond rank (slice_get (package_types q) rank) refl at)
      ∙ ap no_definition (symbols T I p q h rank)
      ∙ sym (before.beyond rank at)
  by_rank rank (Some t) at =
      let e = h.types rank t at in
      one_definition q w rank (d (symbol_in q rank)) (c (symbol_in p rank)) (after.own rank e.0 e.1.0)
      (definition_stays T I p q h k rank (c (symbol_in p rank)) (before.own rank t at))

  by_path : (s : Symbol) (own : Bool) → same_path s.package p.path ≡ own → d s ≡ c s
  by_path s true e =
      let is : s ≡ symbol_in p s.rank = ap (λ path. record { «package» = path; rank = s.rank }) ((bytes_decides s.package p.path).0 e) in
      ap d (is ∙ sym (symbols T I p q h s.rank))
      ∙ by_rank s.rank (slice_get (package_types p) s.rank) refl
      ∙ ap c (sym is)
  by_path s false e =
      let other : s.package ≡ p.path → ⊥ = λ is. true≢false (sym ((bytes_decides s.package p.path).1 is) ∙ e) in
      after.imported s.package s.rank (λ is. other (is ∙ h.path))
      ∙ ap (λ (known : ExportData). known.definition s.rank) (h.exports s.package)
      ∙ sym (before.imported s.package s.rank other)

  pub same_definitions : (s : Symbol) → d s ≡ c s
  same_definitions s = by_path s (same_path s.package p.path) refl
