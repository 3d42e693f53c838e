-- The worlds of a file, in packages that are bound alike, bind its tokens alike and have the same underlying types.
use Rattle.std.proofs.Common.{ℕ, zero, suc, ◌≡◌, Bool, true, false, List, [], ◌∷◌, map, ap, sym, ◌∙◌, refl, subst}
use Rattle.std.specs.Prelude.{Option, Some, None, slice_get}
use Rattle.std.specs.Cmp.Lexicographic.{bytes_decides}
use Rattle.std.proofs.lemmas.Bool.{true≢false}
use Rattle.std.proofs.lemmas.Option.{none-some, same_Some}
use Rattle.std.proofs.lemmas.List.Elements.{All-head, All-tail}
use Rattle.go_ast.specs.Flatten.{flatten}
use Rattle.go_ast.specs.SourceFile.{SourceFile, FileParts, IsSourceFile, source_of}
use Rattle.go_scope.specs.FileSites.{package_sites}
use Rattle.go_scope.specs.Named.{named_sites}
use Rattle.go_scope.specs.Packages.{layout_in}
use Rattle.go_scope.specs.Site.{sites_layout}
use Rattle.go_scope.specs.SpelledFiles.{spelled_file}
use Rattle.go_scope.specs.Trees.{AreRising}
use Rattle.go_scope.specs.WellFormed.{WellFormed}
use Rattle.go_scope.proofs.Declared.{file_numbered}
use Rattle.go_scope.proofs.NamedSites.{named_well_formed, package_level}
use Rattle.go_scope.proofs.PackageRegions.{package_well_formed}
use Rattle.law_tokens.specs.Covered.{AreSourceFiles}
use Rattle.law_tokens.proofs.HeldBytes.{numbered_files}
use Rattle.types_expr.specs.declared.symbol.Symbol.{Symbol}
use Rattle.types_expr.specs.Types.{Defined, Underlying, same_path}
use Rattle.types_expr.specs.Types.{Struct as StructOf}
use Rattle.types_expr.specs.World.{World, Definition}
use Rattle.types_expr.specs.WorldView.{no_definition}
use Rattle.types_declared.specs.Package.{Package, PlacedType, package_types, symbol_in}
use Rattle.types_declared.specs.Definitions.{HasUnderlying, IsUnderlyingOf, has, has_none, AreDefinitions}
use Rattle.types_declared.proofs.OneUnderlying.{one_underlying}
use Rattle.types_info.specs.Uniqueness.{TokensRise}
use Rattle.types_info.specs.Worlds.{IsWorldOf}
use Rattle.types_info.proofs.OneMeaning.{one_name}
use Rattle.law_changed_types.specs.SameBindings.{IsParsedPackage}
use Rattle.law_changed_types.proofs.Alike.{Alike, turned, symbols, got_by}
use Rattle.law_changed_types.proofs.Types.{has_underlying}
use Rattle.law_changed_types.proofs.Meanings.{name}
use Rattle.types_info.proofs.OneWorld.{one_underlying_of}

-- packages of parsed files

pub layout_formed : (p : Package) → IsParsedPackage p → WellFormed p.layout
layout_formed p h =
    let laid = h.is_package.is_laid in
    let files = map spelled_file h.files in
    let numbered = numbered_files h.files h.sources in
    let formed : WellFormed (sites_layout (named_sites laid.names (package_sites files))) =
    named_well_formed laid.names (package_sites files) (package_well_formed files numbered) (package_level files numbered) in
    let is : p.layout ≡ sites_layout (named_sites laid.names (package_sites files)) =
    ap (λ (x : Package). x.layout) h.is_package.is_package ∙ ap layout_in laid.is_named in
    subst WellFormed (sym is) formed

sources_in_order : (files : List FileParts) → AreSourceFiles files → TokensRise (map source_of files)
sources_in_order [] sources file s at = absurd (none-some s at)
sources_in_order (f ∷ fs) sources zero s at =
    subst (λ (x : SourceFile). AreRising 0 (flatten x.tree)) (same_Some (source_of f) s at)
    (file_numbered f (All-head (λ (g : FileParts). IsSourceFile (source_of g)) f fs sources)).rising
sources_in_order (f ∷ fs) sources (suc k) s at = sources_in_order fs (All-tail (λ (g : FileParts). IsSourceFile (source_of g)) f fs sources) k s at

pub tokens_rise : (p : Package) → IsParsedPackage p → TokensRise p.files
tokens_rise p h =
    let is : p.files ≡ map source_of h.files = ap (λ (x : Package). x.files) h.is_package.is_package in
    subst TokensRise (sym is) (sources_in_order h.files h.sources)

-- underlying types

underlying_of : (p q : Package) → Alike p q → (rank : ℕ) (u : Underlying) → IsUnderlyingOf p rank u → IsUnderlyingOf q rank u
underlying_of p q a rank _ (has {u = u} h) =
    has {u = u} (subst (λ (s : Symbol). HasUnderlying q (Defined s) u) (sym (symbols p q a rank)) (has_underlying p q a (Defined (symbol_in p rank)) u h))
underlying_of p q a rank _ (has_none none) =
    let back = turned p q a in
    subst (λ (s : Symbol). IsUnderlyingOf q rank (StructOf s)) (symbols p q a rank)
    (has_none (λ u h. none u
    (subst (λ (s : Symbol). HasUnderlying p (Defined s) u) (symbols p q a rank) (has_underlying q p back (Defined (symbol_in q rank)) u h))))

module _ (p q : Package) (a : Alike p q) (w : WellFormed p.layout) (c d : Symbol → Definition) (before : AreDefinitions p c) (after : AreDefinitions q d) where
  by_rank : (rank : ℕ) (o : Option PlacedType) → slice_get (package_types p) rank ≡ o →
      (d (symbol_in q rank)).underlying ≡ (c (symbol_in p rank)).underlying
  by_rank rank None at =
      let none : slice_get (package_types q) rank ≡ None = ap (λ ts. slice_get ts rank) a.types ∙ at in
      ap (λ (x : Definition). x.underlying) (after.beyond rank none)
      ∙ ap (λ s. (no_definition s).underlying) (symbols p q a rank)
      ∙ sym (ap (λ (x : Definition). x.underlying) (before.beyond rank at))
  by_rank rank (Some t) at =
      one_underlying_of p w rank (d (symbol_in q rank)).underlying (c (symbol_in p rank)).underlying
      (underlying_of q p (turned p q a) rank (d (symbol_in q rank)).underlying
      (after.own rank t (got_by (package_types p) (package_types q) rank t a.types at)).underlying)
      (before.own rank t at).underlying

  by_path : (s : Symbol) (own : Bool) → same_path s.package p.path ≡ own → (d s).underlying ≡ (c s).underlying
  by_path s true e =
      let here : s.package ≡ p.path = (bytes_decides s.package p.path).0 e in
      let before_is : s ≡ symbol_in p s.rank = ap (λ path. record { «package» = path; rank = s.rank }) here in
      let after_is : s ≡ symbol_in q s.rank = before_is ∙ sym (symbols p q a s.rank) in
      ap (λ x. (d x).underlying) after_is
      ∙ by_rank s.rank (slice_get (package_types p) s.rank) refl
      ∙ sym (ap (λ x. (c x).underlying) before_is)
  by_path s false e =
      let other : s.package ≡ p.path → ⊥ = λ h. true≢false (sym ((bytes_decides s.package p.path).1 h) ∙ e) in
      ap (λ (x : Definition). x.underlying) (after.imported s.package s.rank (λ h. other (h ∙ a.path)))
      ∙ a.underlying s.package s.rank
      ∙ sym (ap (λ (x : Definition). x.underlying) (before.imported s.package s.rank other))

  -- the definitions of both have the same underlying types
  pub same_underlying : (s : Symbol) → (d s).underlying ≡ (c s).underlying
  same_underlying s = by_path s (same_path s.package p.path) refl

-- worlds

pub bind_alike : (p q : Package) → Alike p q → IsParsedPackage p → (file : ℕ) (f g : SourceFile) (v x : World) → IsWorldOf p file f v → IsWorldOf q file g x →
    ((token : ℕ) → x.bound token ≡ v.bound token) × ((s : Symbol) → x.definition s ≡ v.definition s)
bind_alike p q a parsed file f g v x before after =
    let w = layout_formed p parsed in (
      (λ token. one_name p w (tokens_rise p parsed) file token (x.bound token) (v.bound token)
          (name q p (turned p q a) file token (x.bound token) (after.names token)) (before.names token)),
      (λ s. after.definition s
          ∙ same_underlying p q a w before.definitions after.definitions before.are_definitions after.are_definitions s
          ∙ sym (before.definition s)),
    )
