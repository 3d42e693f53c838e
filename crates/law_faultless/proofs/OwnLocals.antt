-- A local that is named in a function has one of the function's slots.
use Rattle.std.proofs.Common.{ℕ, ◌≡◌, ◌<◌, ◌≤◌, inl, inr, true, false, List, [], ◌∷◌, map, ap, sym, subst, refl, ◌∙◌, arith}
use Rattle.std.specs.Prelude.{Some, slice_get, option_map}
use Rattle.std.specs.List.{AllByRecursion}
use Rattle.std.proofs.lemmas.Option.{same_Some, slice_get-map}
use Rattle.base_files.specs.Workspace.{Workspace}
use Rattle.go_ast.specs.SourceFile.{SourceFile, source_of, spelling_of}
use Rattle.go_ast.specs.Flatten.{flatten}
use Rattle.go_ast.specs.Tree.{FuncTree, FuncDecl}
use Rattle.go_scope.specs.declared.model.Block.TheVariants.{Universe, File, Inner}
use Rattle.go_scope.specs.declared.model.Position.{Position}
use Rattle.go_scope.specs.declared.model.Role.{Role}
use Rattle.go_scope.specs.Bindings.{MayDeclare, Counts, IsBoundTo, use_bound, own, block_of, start_of, may_declare, is_implied}
use Rattle.go_scope.specs.FileSites.{SpelledFile, file_sites, files_sites, universe, package_sites, func_sites}
use Rattle.go_scope.specs.SpelledFiles.{spelled_file}
use Rattle.go_scope.specs.Scopes.{Holds as HoldsPlace, scope_for}
use Rattle.go_scope.specs.Site.{Site, TokenSpellings}
use Rattle.go_scope.specs.Table.{LiesAt}
use Rattle.go_scope.proofs.FileRegions.{file_fits}
use Rattle.go_scope.proofs.Regions.{Each, Fits, inner_file}
use Rattle.go_scope.proofs.Rising.{rises_of}
use Rattle.law_tokens.proofs.Ordered.{same_length}
use Rattle.types_expr.specs.World.{World, Bound, Local}
use Rattle.types_declared.specs.MeaningOf.{IsMeaningOf}
use Rattle.types_declared.specs.MeaningOf as bound
use Rattle.types_declared.specs.Package.{Package}
use Rattle.types_declared.specs.Written.{BindsToken}
use Rattle.types_info.specs.Worlds.{IsName, IsWorldOf, is_bound, is_unbound, by_scope, by_package}
use Rattle.types_info.proofs.DeclKinds.{Holds}
use Rattle.types_info.proofs.OneMeaning.{one_name}
use Rattle.workspace_check.specs.Verdicts.{Verdicts, IsPackageIn}
use Rattle.workspace_check.proofs.OnePackage.{layout_formed, files_in_order}
use Rattle.build_object.specs.Slots.{slots_of}
use Rattle.law_tokens.proofs.OwnPaths.{part_at}
use Rattle.refs_lookup.proofs.OnePlace.{same_size, same_files}
use Rattle.law_faultless.proofs.FilesDecided.{IsGlobal}
use Rattle.law_faultless.proofs.Numbers.{OfKind, IsTold, IsKept, universal, plain, laid, kept_at}
use Rattle.law_faultless.specs.ResolvedNames.{may_be_local}
use Rattle.law_faultless.proofs.LinksBound.{source_is}
use Rattle.law_faultless.proofs.Scoped.{local_role, found_first}
use Rattle.law_faultless.proofs.Sites.{files_among}
use Rattle.law_faultless.proofs.Declared.{told_identifies, given, sites, old_site, new_site, role_is, place_is, kept, may_within, file_of_told}
use Rattle.law_faultless.proofs.Reaching.{Lies, Reaches, file_only}
use Rattle.law_faultless.proofs.SlotsSettled.{function_slotted}

-- what declares inside of a file does so in a block of the file
abbrev IsFramed : ℕ → Role → Type 0
IsFramed F r = may_declare r ≡ true → (g a b : ℕ) → block_of r ≡ Inner g a b → g ≡ F

fits_framed : (F a b n q : ℕ) (x : Site) → Fits F a b n q x → IsFramed F x.role
fits_framed F a b n q x h may g e k block = elim (h may) [
  | inl flat ↦ absurd (flat.apart g e k block)
  | inr s ↦ elim s [
    | inl o ↦ inner_file g e k F a b (sym block ∙ o.block)
    | inr i ↦ inner_file g e k F i.frame.from i.frame.to (sym block ∙ i.frame.block)
  ]
]

all_framed : (F a b n q : ℕ) (xs : List Site) → Each (Fits F a b n q) xs → AllByRecursion (λ x. IsFramed F x.role) xs
all_framed F a b n q [] h = tt
all_framed F a b n q (x ∷ xs) h = (fits_framed F a b n q x h.0, all_framed F a b n q xs h.1)

module _ (w : Workspace) (known : Verdicts) (path : List ℕ) (p : Package) (h : IsPackageIn w known path p) where
  module _ (F : ℕ) (s : SourceFile) (at : slice_get p.files F ≡ Some s) (P : ℕ → Role → Type 0)
      (all : AllByRecursion (λ x. P x.place.index x.role) (file_sites (record { rank = F; spell = spelling_of s }) s.tree)) where
    abbrev Q : Site → Type 0
    Q x = x.place.file ≡ F → P x.place.index x.role

    each_in : AllByRecursion Q (files_sites 0 (map spelled_file h.files))
    each_in =
        let fs = map spelled_file h.files in
        let t = part_at h.files F s (subst (λ xs. slice_get xs F ≡ Some s) (same_files w known path p h) at) in
        let got : slice_get fs F ≡ Some (spelled_file t.0) = slice_get-map spelled_file h.files F ∙ ap (option_map spelled_file) t.1.0 in
        let parts = subst (λ (z : SourceFile). AllByRecursion (λ x. P x.place.index x.role) (file_sites (record { rank = F; spell = spelling_of z }) z.tree))
        (sym t.1.1) all in
        files_among F P 0 fs
        (λ i g has e.
        let same : i ≡ F = omega arith in
        let own_file : spelled_file t.0 ≡ g = same_Some (spelled_file t.0) g (sym got ∙ ap (slice_get fs) (sym same) ∙ has) in
        subst (λ (z : SpelledFile). AllByRecursion (λ x. P x.place.index x.role) (file_sites (record { rank = F; spell = z.spell }) z.tree)) own_file parts)

    -- A property of each identifier of a file is one of an identifier that declares inside of it.
    module _ (d f a c : ℕ) (may : MayDeclare p.layout d) (block : block_of (p.layout.role d) ≡ Inner f a c) (there : (p.layout.place d).file ≡ F) where
      by_kind : IsKept Q universe (given w known path p h d) (old_site w known path p h d) (new_site w known path p h d) →
          P (p.layout.place d).index (p.layout.role d)
      by_kind (universal r n) =
          let z : Universe ≡ Inner f a c = sym (ap block_of (role_is w known path p h d ∙ r)) ∙ block in let never : ⊥ = cc in absurd never
      by_kind (plain e q) =
          let place = place_is w known path p h d in
          let new = new_site w known path p h d in
          subst (λ r. P (p.layout.place d).index r) (sym (role_is w known path p h d))
          (subst (λ (z : Position). P z.index new.role) (sym place) (q (sym (ap (λ (z : Position). z.file) place) ∙ there)))
      by_kind (laid u g r) =
          let z : File (old_site w known path p h d).place.file ≡ Inner f a c = sym (ap block_of (role_is w known path p h d ∙ r)) ∙ block in
          let never : ⊥ = cc in absurd never

      inner_at : P (p.layout.place d).index (p.layout.role d)
      unfolding package_sites
      inner_at =
          let names = given w known path p h in
          let xs = sites w known path p h in
          by_kind (kept_at Q universe names (files_sites 0 (map spelled_file h.files)) each_in d
          (subst (λ n. d < n) (same_length names xs) (subst (λ n. d < n) (same_size w known path p h) (may_within w known path p h d may))))

  -- such an identifier

  module _ (d f a c : ℕ) (may : MayDeclare p.layout d) (block : block_of (p.layout.role d) ≡ Inner f a c) where
    abbrev Told : Type 0
    Told = IsKept (IsTold 0 h.files) universe (given w known path p h d) (old_site w known path p h d) (new_site w known path p h d)

    identifies_by : Told → is_implied (p.layout.role d) ≡ false
    identifies_by (universal r n) =
        let z : Universe ≡ Inner f a c = sym (ap block_of (role_is w known path p h d ∙ r)) ∙ block in let never : ⊥ = cc in absurd never
    identifies_by (plain e t) =
        let new = new_site w known path p h d in
        ap is_implied (role_is w known path p h d) ∙
        told_identifies (OfKind t.file.cut) (IsGlobal (source_of t.file).tree.decls) (Unit {0}) new.place.index new.role t.told
    identifies_by (laid u g r) = ap is_implied (role_is w known path p h d ∙ r)

    abbrev HasSource : Type 0
    HasSource = (s : SourceFile) × (slice_get p.files (p.layout.place d).file ≡ Some s)

    source_by : Told → HasSource
    source_by (universal r n) =
        let z : Universe ≡ Inner f a c = sym (ap block_of (role_is w known path p h d ∙ r)) ∙ block in let never : ⊥ = cc in absurd never
    source_by (plain e t) = (
      source_of t.file,
      ap (λ (z : Position). slice_get p.files z.file) (place_is w known path p h d) ∙ file_of_told w known path p h (new_site w known path p h d) t,
    )
    source_by (laid u g r) =
        let z : File (old_site w known path p h d).place.file ≡ Inner f a c = sym (ap block_of (role_is w known path p h d ∙ r)) ∙ block in
        let never : ⊥ = cc in absurd never

    identifies : is_implied (p.layout.role d) ≡ false
    identifies = identifies_by (kept w known path p h d (may_within w known path p h d may))

    local : may_be_local (p.layout.role d) ≡ true
    local = local_role (p.layout.role d) f a c may identifies block

    in_own_file : f ≡ (p.layout.place d).file
    in_own_file =
        let F = (p.layout.place d).file in
        let s = source_by (kept w known path p h d (may_within w known path p h d may)) in
        let source : TokenSpellings = record { rank = F; spell = spelling_of s.0 } in
        let m = rises_of 0 (flatten s.0.tree) (files_in_order w known path p h F s.0 s.1) in
        let fits = file_fits source m.0 s.0.tree (source_is w known path p h F s.0 s.1).is_tree.well_formed m.1 in
        inner_at F s.0 s.1 (λ i r. IsFramed F r) (all_framed F 0 m.0 0 m.0 (file_sites source s.0.tree) fits.0) d f a c may block refl may f a c block

  -- the names of a file, worded as in Scoped, whose module takes a file that is judged and unbroken: here none is asked to be unbroken

  module _ (file : ℕ) (s : SourceFile) (at : slice_get p.files file ≡ Some s) (v : World) (judged : IsWorldOf p file s v) where
    -- the block and the place of a local
    IsPlaced : (d k : ℕ) → Type 0
    IsPlaced d k = (f : ℕ) × ((a : ℕ) × ((c : ℕ) × ((block_of (p.layout.role d) ≡ Inner f a c) × ((p.layout.place d).index ≡ k))))

    meant_local : (d k : ℕ) (b : Bound) → IsMeaningOf p d b → b ≡ Local k → IsPlaced d k
    unfolding IsPlaced
    meant_local d k _ (bound.predeclared is means) e = let z : ⊥ = cc in absurd z
    meant_local d k _ (bound.import_name is) e = let z : ⊥ = cc in absurd z
    meant_local d k _ (bound.local {file = f} {from = a} {to = c} is) e = (f, (a, (c, (is, (let same : (p.layout.place d).index ≡ k = cc in same)))))
    meant_local d k _ (bound.variable is t) e = let z : ⊥ = cc in absurd z
    meant_local d k _ (bound.broken_variable is t) e = let z : ⊥ = cc in absurd z
    meant_local d k _ (bound.function is s) e = let z : ⊥ = cc in absurd z
    meant_local d k _ (bound.broken_function is s) e = let z : ⊥ = cc in absurd z
    meant_local d k _ (bound.definition is t whole) e = let z : ⊥ = cc in absurd z
    meant_local d k _ (bound.broken_definition is t broken) e = let z : ⊥ = cc in absurd z

    local_bound : (i k : ℕ) (b : Bound) → IsName p file i b → b ≡ Local k → (d : ℕ) × (BindsToken p file i d × IsPlaced d k)
    local_bound i k b (is_bound (by_scope {declaration = d} binds m)) e = (d, (binds, meant_local d k b m e))
    local_bound i k _ (is_bound (by_package x)) e = let z : ⊥ = cc in absurd z
    local_bound i k _ (is_unbound none) e = let z : ⊥ = cc in absurd z

    -- an identifier that declares a local is bound to itself
    own_bound : (d f a c : ℕ) → block_of (p.layout.role d) ≡ Inner f a c → Counts p.layout p.names d → (p.layout.place d).file ≡ file →
        v.bound (p.layout.place d).index ≡ Local (p.layout.place d).index
    own_bound d f a c block counts there =
        let i = (p.layout.place d).index in
        let may = counts.declares.may in
        let stands : LiesAt p.layout (record { file = file; index = i }) d = (identifies d f a c may block, there, refl) in
        one_name p (layout_formed w known path p h) (files_in_order w known path p h) file i (v.bound i) (Local i) (judged.names i)
        (is_bound (by_scope (record {
          identifier = d;
          found = found_first w known path p h (record { file = file; index = i }) d (may_within w known path p h d may) stands;
          bound = own refl counts;
        }) (bound.local block)))

    -- in a function
    module _ (k : ℕ) (g : FuncTree) (c : ℕ) (held : Holds s.tree.decls (FuncDecl k g c)) (n : ℕ)
        (inside : (a b : ℕ) → AllByRecursion (Lies a b) (func_sites (record { rank = file; spell = spelling_of s }) g) → (a ≤ n) × (n < b)) where
      abbrev HasPlace : ℕ → Type 0
      HasPlace i = Holds (slots_of v g) i

      reached : (d f a e : ℕ) → block_of (p.layout.role d) ≡ Inner f a e → Counts p.layout p.names d → (p.layout.place d).file ≡ file →
          Reaches n (p.layout.place d).index (p.layout.role d) → HasPlace (p.layout.place d).index
      reached d f a e block counts there reach =
          let source : TokenSpellings = record { rank = file; spell = spelling_of s } in
          let P : ℕ → Role → Type 0 = λ i r. v.bound i ≡ Local i → HasPlace i in
          let m = rises_of 0 (flatten s.tree) (files_in_order w known path p h file s at) in
          let only = file_only source k g c n inside P (function_slotted v source g) m.0 s.tree (source_is w known path p h file s at).is_tree.well_formed held
          m.1 in
          let may = counts.declares.may in
          inner_at file s at (λ i r. may_be_local r ≡ true → Reaches n i r → P i r) only d f a e may block there (local d f a e may block) reach
          (own_bound d f a e block counts there)

      by_bound : (u d f a e : ℕ) → LiesAt p.layout (record { file = file; index = n }) u → block_of (p.layout.role d) ≡ Inner f a e →
          IsBoundTo p.layout p.names u d → HasPlace (p.layout.place d).index
      by_bound u d f a e stands block (own same counts) =
          let there : LiesAt p.layout (record { file = file; index = n }) d = subst (LiesAt p.layout (record { file = file; index = n })) same stands in
          reached d f a e block counts there.1 (inl there.2)
      by_bound u d f a e stands block (use_bound i b) =
          let scope : HoldsPlace (scope_for (Inner f a e) (start_of (p.layout.role d))) (p.layout.place u) =
          subst (λ z. HoldsPlace (scope_for z (start_of (p.layout.role d))) (p.layout.place u)) block b.in_scope in
          let index : (p.layout.place u).index ≡ n = stands.2 in
          let begun : start_of (p.layout.role d) ≤ (p.layout.place u).index = scope.1 in
          let ending : (p.layout.place u).index < e = scope.2 in
          reached d f a e block b.counts (sym (in_own_file d f a e b.counts.declares.may block) ∙ sym scope.0 ∙ stands.1)
          (inr (f, (a, (e, (block, omega arith, omega arith)))))

      pub own_local : (place : ℕ) → v.bound n ≡ Local place → HasPlace place
      unfolding IsPlaced
      own_local place e =
          let x = local_bound n place (v.bound n) (judged.names n) e in
          let y = x.1.1 in
          subst HasPlace y.1.1.1.1 (by_bound x.1.0.identifier x.0 y.0 y.1.0 y.1.1.0 x.1.0.found.holds y.1.1.1.0 x.1.0.bound)
