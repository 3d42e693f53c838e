-- In a workspace without faults the scopes tell of each identifier of a file what its names stand for.
use Rattle.std.proofs.Common.{ℕ, zero, suc, ◌≡◌, ◌<◌, ◌≤◌, ◌⊎◌, inl, inr, Bool, true, false, List, [], ◌∷◌, ◌++◌, length, map, ap, sym, subst, refl, ◌∙◌, arith}
use Rattle.std.specs.Prelude.{Contains, Option, Some, None, slice_get, option_map}
use Rattle.std.specs.List.{AllByRecursion}
use Rattle.std.proofs.lemmas.Bool.{true≢false}
use Rattle.std.proofs.lemmas.Option.{same_Some, slice_get-map}
use Rattle.base_lemmas.proofs.Elements.{first_in, later_in}
use Rattle.base_lemmas.proofs.EachElement.{all_append}
use Rattle.base_files.specs.Workspace.{Workspace}
use Rattle.go_ast.specs.declared.syntax.Token.{Token}
use Rattle.go_ast.specs.Flatten.{flatten}
use Rattle.go_ast.specs.SourceFile.{SourceFile, source_of, spelling_of}
use Rattle.go_scope.specs.declared.model.Block.TheVariants.{Universe, File, Inner}
use Rattle.go_scope.specs.declared.model.Block.TheVariants.{Package as PackageBlock}
use Rattle.go_scope.specs.declared.model.Position.{Position}
use Rattle.go_scope.specs.declared.model.Role.{Role}
use Rattle.go_scope.specs.declared.model.Role.TheVariants.{Use, Declaring, LeftName, Implied, NotLexical}
use Rattle.go_scope.specs.declared.model.Purpose.TheVariants as purpose
use Rattle.go_scope.specs.Bindings.{Layout, IsIdentifier, IsBoundTo, Counts, use_bound, own, block_of, start_of, may_declare, is_implied}
use Rattle.go_scope.specs.FileSites.{SpelledFile, file_sites, files_sites, universe, universe_site, package_sites}
use Rattle.go_scope.specs.Named.{is_unnamed_import, named_where, named_sites}
use Rattle.go_scope.specs.SpelledFiles.{spelled_file}
use Rattle.go_scope.specs.Packages.{scoped, layout_in}
use Rattle.go_scope.specs.Scopes.{Holds as HoldsPlace, scope_for}
use Rattle.go_scope.specs.Site.{Site, TokenSpellings, or_blank}
use Rattle.go_scope.specs.Table.{LiesAt, IsFoundAt}
use Rattle.go_scope.specs.Trees.{AreRising}
use Rattle.go_scope.proofs.Regions.{inner_to}
use Rattle.law_tokens.specs.Order.{StandInOrder}
use Rattle.law_tokens.specs.Tokens.{identifiers_among}
use Rattle.law_tokens.proofs.Covering.{Pairs, file_pairs}
use Rattle.law_tokens.proofs.HeldBytes.{numbered_files}
use Rattle.law_tokens.proofs.Ordered.{rising_identifiers, package_ordered, named_ordered, one_stands}
use Rattle.law_tokens.proofs.OwnPaths.{package_sources, part_at}
use Rattle.law_tokens.proofs.Places.{plainly_stands}
use Rattle.types_expr.specs.Types.{Meaning, Broken}
use Rattle.types_expr.specs.World.{World, Bound, Local, Means, BrokenVariable, BrokenFunction, BrokenType}
use Rattle.types_expr.specs.Judge.{MemberUse}
use Rattle.types_declared.specs.MeaningOf.{IsMeaningOf}
use Rattle.types_declared.specs.MeaningOf as bound
use Rattle.types_declared.specs.Package.{Package}
use Rattle.types_declared.specs.Written.{BindsToken}
use Rattle.types_info.specs.MemberUses.{AreUsesIn}
use Rattle.types_info.specs.Worlds.{IsName, is_bound, is_unbound, by_scope, by_package}
use Rattle.types_info.proofs.DeclKinds.{Holds}
use Rattle.types_info.proofs.OneMeaning.{one_name}
use Rattle.workspace_check.specs.Verdicts.{Verdicts, IsPackageIn}
use Rattle.workspace_check.proofs.OnePackage.{layout_formed, files_in_order}
use Rattle.refs_lookup.proofs.OnePlace.{names_of, laid_of, same_layout, same_size, same_files}
use Rattle.refs_lookup.proofs.Apart.{all_as}
use Rattle.refs_lookup.proofs.BoundUsedMembers.{file_at}
use Rattle.law_faultless.specs.NameMeanings.{MeansSomething, HaveMeanings}
use Rattle.law_faultless.specs.ResolvedNames.{may_be_local, HoldsTokens, IsEarlierLocal, IsResolved, AreResolved, IsBlankAt}
use Rattle.law_faultless.specs.Unbroken.{IsUnbroken}
use Rattle.law_faultless.proofs.BegunScopes.{file_begins}
use Rattle.law_faultless.proofs.LinksBound.{source_is}
use Rattle.law_faultless.proofs.Rules.{source_strung}
use Rattle.law_faultless.proofs.Sites.{files_among}
use Rattle.law_faultless.proofs.TypesBound.{Stands, Kept, all_kept, none_by_scope}

-- identifiers of a file in their order

abbrev Sorted : ℕ → List Site → Type 0
Sorted n [] = Unit {0}
Sorted n (x ∷ xs) = (n ≤ x.place.index) × Sorted (suc x.place.index) xs

sorted : (s : TokenSpellings) (n : ℕ) (xs : List Site) (ts : List Token) → Pairs s xs ts → AreRising n ts → Sorted n xs
sorted s n [] ts p h = tt
sorted s n (x ∷ xs) [] p h = absurd p
sorted s n (x ∷ xs) (t ∷ ts) p h =
    let at : x.place.index ≡ t.place = ap (λ (y : Site). y.place.index) p.1 in
    ((let le : n ≤ t.place = h.0 in omega arith), subst (λ k. Sorted (suc k) xs) (sym at) (sorted s (suc t.place) xs ts p.2 h.1))

sorted_held : (n : ℕ) (xs : List Site) (y : Site) → Sorted n xs → Holds xs y → n ≤ y.place.index
sorted_held n [] y h i = absurd i
sorted_held n (x ∷ xs) y h i = elim i [
  | inl e ↦ (let same : x.place.index ≡ y.place.index = ap (λ (z : Site). z.place.index) e in let le : n ≤ x.place.index = h.0 in omega arith)
  | inr r ↦ (let le : n ≤ x.place.index = h.0 in let further : suc x.place.index ≤ y.place.index = sorted_held (suc x.place.index) xs y h.1 r in omega arith)
]

-- An identifier is resolved by the identifiers before it.

abbrev Resolvable : World → (ℕ → Type 0) → List Site → Site → Type 0
Resolvable v B all x =
    (A : List Site) → ((y : Site) → Holds all y → y.place.index < x.place.index → Contains A y) → IsResolved v B A x.place.index x.role

resolve : (v : World) (B : ℕ → Type 0) (all A xs : List Site) (n : ℕ) → Sorted n xs → ((y : Site) → Holds all y → Contains A y ⊎ Holds xs y) →
    AllByRecursion (Resolvable v B all) xs → AreResolved v B A xs
resolve v B all A [] n s f h = tt
resolve v B all A (x ∷ xs) n s f h = (
  h.0 A (λ y i less. elim (f y i) [
    | inl c ↦ c
    | inr r ↦ elim r [
      | inl e ↦ (let same : x.place.index ≡ y.place.index = ap (λ (z : Site). z.place.index) e in absurd (omega arith))
      | inr later ↦ (let le : suc x.place.index ≤ y.place.index = sorted_held (suc x.place.index) xs y s.1 later in absurd (omega arith))
    ]
  ]),
  resolve v B all (x ∷ A) xs (suc x.place.index) s.1
      (λ y i. elim (f y i) [
        | inl c ↦ inl (later_in x A y c)
        | inr r ↦ elim r [ inl e ↦ inl (subst (Contains (x ∷ A)) e (first_in x A)) | inr later ↦ inr later ]
      ]) h.1,
)

all_themselves : (xs : List Site) → AllByRecursion (Holds xs) xs
all_themselves [] = tt
all_themselves (x ∷ xs) = (inl refl, all_as (Holds xs) (Holds (x ∷ xs)) (λ y h. inr h) xs (all_themselves xs))

-- identifiers with a block inside a file

pub local_role : (r : Role) (f a c : ℕ) → may_declare r ≡ true → is_implied r ≡ false → block_of r ≡ Inner f a c → may_be_local r ≡ true
local_role (Declaring (Inner g d e) start) f a c m i b = refl
local_role (LeftName (Inner g d e) start) f a c m i b = refl
local_role (Declaring Universe start) f a c m i b = let z : ⊥ = cc in absurd z
local_role (Declaring PackageBlock start) f a c m i b = let z : ⊥ = cc in absurd z
local_role (Declaring (File g) start) f a c m i b = let z : ⊥ = cc in absurd z
local_role (LeftName Universe start) f a c m i b = let z : ⊥ = cc in absurd z
local_role (LeftName PackageBlock start) f a c m i b = let z : ⊥ = cc in absurd z
local_role (LeftName (File g) start) f a c m i b = let z : ⊥ = cc in absurd z
local_role (Implied block start) f a c m i b = absurd (true≢false i)
local_role Use f a c m i b = absurd (true≢false (sym m))
local_role (NotLexical p) f a c m i b = absurd (true≢false (sym m))

tokens_held : (r : Role) (f a c : ℕ) → block_of r ≡ Inner f a c → start_of r < c → HoldsTokens r
tokens_held (Declaring (Inner g d e) start) f a c b h = let same : e ≡ c = inner_to g d e f a c b in let lt : start < c = h in omega arith
tokens_held (LeftName (Inner g d e) start) f a c b h = let same : e ≡ c = inner_to g d e f a c b in let lt : start < c = h in omega arith
tokens_held r f a c b h = tt

identified : (s : TokenSpellings) (xs : List Site) (ts : List Token) → Pairs s xs ts → AllByRecursion (λ x. is_implied x.role ≡ false) xs
identified s [] ts p = tt
identified s (x ∷ xs) [] p = absurd p
identified s (x ∷ xs) (t ∷ ts) p = (p.0, identified s xs ts p.2)

files_identified : (rank : ℕ) (fs : List SpelledFile) → AllByRecursion (λ x. is_implied x.role ≡ false) (files_sites rank fs)
unfolding files_sites
files_identified rank [] = tt
files_identified rank (f ∷ fs) =
    let s : TokenSpellings = record { rank = rank; spell = f.spell } in
    all_append (λ (x : Site). is_implied x.role ≡ false) (file_sites s f.tree) (files_sites (suc rank) fs)
    (identified s (file_sites s f.tree) (identifiers_among (flatten f.tree)) (file_pairs s f.tree)) (files_identified (suc rank) fs)

-- A property of each identifier of a table is one of an identifier with an inner block.
inner_found : (P : Site → Type 0) (xs : List Site) → AllByRecursion P xs → (u f a c : ℕ) → block_of (or_blank (slice_get xs u)).role ≡ Inner f a c →
    P (or_blank (slice_get xs u))
inner_found P [] h u f a c e = let z : ⊥ = cc in absurd z
inner_found P (x ∷ xs) h zero f a c e = h.0
inner_found P (x ∷ xs) h (suc u) f a c e = inner_found P xs h.1 u f a c e

inner_numbered : (P : Site → Type 0) (names : List (List ℕ)) (xs : List Site) → AllByRecursion P xs → (u f a c : ℕ) →
    block_of (or_blank (slice_get (map universe_site names ++ xs) u)).role ≡ Inner f a c → P (or_blank (slice_get (map universe_site names ++ xs) u))
inner_numbered P [] xs h u f a c e = inner_found P xs h u f a c e
inner_numbered P (n ∷ names) xs h zero f a c e = let z : ⊥ = cc in absurd z
inner_numbered P (n ∷ names) xs h (suc u) f a c e = inner_numbered P names xs h u f a c e

inner_where : (b : Bool) (name : Option (List ℕ)) (x : Site) (f a c : ℕ) → block_of (named_where b name x).role ≡ Inner f a c →
    (named_where b name x).role ≡ x.role
inner_where true (Some n) x f a c e = let z : ⊥ = cc in absurd z
inner_where true None x f a c e = refl
inner_where false name x f a c e = refl

inner_stays : (names : ℕ → Option (List ℕ)) (xs : List Site) (u f a c : ℕ) → block_of (or_blank (slice_get (named_sites names xs) u)).role ≡ Inner f a c →
    (or_blank (slice_get (named_sites names xs) u)).role ≡ (or_blank (slice_get xs u)).role
unfolding named_sites
inner_stays names [] u f a c e = refl
inner_stays names (x ∷ xs) zero f a c e = inner_where (is_unnamed_import x.role) (names 0) x f a c e
inner_stays names (x ∷ xs) (suc u) f a c e = inner_stays (λ k. names (suc k)) xs u f a c e

past_end : (xs : List Site) (u f a c : ℕ) → block_of (or_blank (slice_get xs u)).role ≡ Inner f a c → u < length xs
past_end [] u f a c e = let z : ⊥ = cc in absurd z
past_end (x ∷ xs) zero f a c e = omega arith
past_end (x ∷ xs) (suc u) f a c e = let lt : u < length xs = past_end xs u f a c e in omega arith

module _ (w : Workspace) (known : Verdicts) (path : List ℕ) (p : Package) (h : IsPackageIn w known path p) where
  pub in_order : StandInOrder p.layout p.size
  in_order =
      let table = laid_of w known path p h in
      let plain : StandInOrder (layout_in (scoped h.files)) (length (scoped h.files).sites) =
      package_ordered (map spelled_file h.files) (numbered_files h.files (package_sources w path h.files h.parsed)) in
      let laid : StandInOrder (layout_in table) (length table.sites) = named_ordered (names_of w known path p h) (scoped h.files) plain in
      subst (λ (l : Layout). StandInOrder l p.size) (sym (same_layout w known path p h))
      (subst (λ n. StandInOrder (layout_in table) n) (sym (same_size w known path p h)) laid)

  pub found_first : (at : Position) (u : ℕ) → u < p.size → LiesAt p.layout at u → IsFoundAt p.layout p.size at u
  found_first at u lt stands = record {
    within = lt;
    holds = stands;
    first = λ v less there.
        let within : v < p.size = omega arith in
        let same : v ≡ u = one_stands p.layout p.size in_order at v u within lt there stands in absurd (omega arith);
  }

  -- of an identifier with such a block

  module _ (d f a c : ℕ) (block : block_of (p.layout.role d) ≡ Inner f a c) where
    in_table : block_of ((layout_in (laid_of w known path p h)).role d) ≡ Inner f a c
    in_table = subst (λ (l : Layout). block_of (l.role d) ≡ Inner f a c) (same_layout w known path p h) block

    plain_role : p.layout.role d ≡ (or_blank (slice_get (scoped h.files).sites d)).role
    plain_role =
        ap (λ (l : Layout). l.role d) (same_layout w known path p h)
        ∙ inner_stays (names_of w known path p h) (scoped h.files).sites d f a c in_table

    inner_within : d < p.size
    inner_within = subst (λ n. d < n) (sym (same_size w known path p h)) (past_end (laid_of w known path p h).sites d f a c in_table)

    inner_identifies : IsIdentifier p.layout d
    unfolding package_sites
    inner_identifies =
        let plain : block_of (or_blank (slice_get (scoped h.files).sites d)).role ≡ Inner f a c = subst (λ r. block_of r ≡ Inner f a c) plain_role block in
        ap is_implied plain_role
        ∙ inner_numbered (λ (x : Site). is_implied x.role ≡ false) universe (files_sites 0 (map spelled_file h.files))
        (files_identified 0 (map spelled_file h.files)) d f a c plain

    -- A property of each identifier of its file is one of d.
    at_inner : (P : ℕ → Role → Type 0) (s : SourceFile) → slice_get p.files (p.layout.place d).file ≡ Some s →
        AllByRecursion (λ x. P x.place.index x.role) (file_sites (record { rank = (p.layout.place d).file; spell = spelling_of s }) s.tree) →
        P (p.layout.place d).index (p.layout.role d)
    unfolding package_sites
    at_inner P s is all =
        let at = p.layout.place d in
        let fs = map spelled_file h.files in
        let sites = (scoped h.files).sites in
        let there : LiesAt (layout_in (laid_of w known path p h)) at d =
        subst (λ (l : Layout). LiesAt l at d) (same_layout w known path p h) (inner_identifies, refl, refl) in
        let plain : LiesAt (layout_in (scoped h.files)) at d = plainly_stands (names_of w known path p h) (scoped h.files) at d there in
        let inner : block_of (or_blank (slice_get sites d)).role ≡ Inner f a c = subst (λ r. block_of r ≡ Inner f a c) plain_role block in
        let t = part_at h.files at.file s (subst (λ xs. slice_get xs at.file ≡ Some s) (same_files w known path p h) is) in
        let parts = subst (λ (z : SourceFile). AllByRecursion (λ x. P x.place.index x.role)
        (file_sites (record { rank = at.file; spell = spelling_of z }) z.tree))
        (sym t.1.1) all in
        let got : slice_get fs at.file ≡ Some (spelled_file t.0) =
        slice_get-map spelled_file h.files at.file ∙ ap (option_map spelled_file) t.1.0 in
        let each = files_among at.file P 0 fs
        (λ i g has e.
        let same : i ≡ at.file = omega arith in
        let own_file : spelled_file t.0 ≡ g = same_Some (spelled_file t.0) g (sym got ∙ ap (slice_get fs) (sym same) ∙ has) in
        subst (λ (z : SpelledFile). AllByRecursion (λ x. P x.place.index x.role) (file_sites (record { rank = at.file; spell = z.spell }) z.tree))
        own_file parts) in
        let found = inner_numbered (λ (x : Site). x.place.file ≡ at.file → P x.place.index x.role) universe (files_sites 0 fs) each d f a c inner in
        subst (λ r. P at.index r) (sym plain_role) (subst (λ i. P i (or_blank (slice_get sites d)).role) plain.2 (found plain.1))

    source_here : (s : SourceFile) × (slice_get p.files (p.layout.place d).file ≡ Some s)
    source_here =
        let at = p.layout.place d in
        let t = file_at w known path p h at d inner_within (inner_identifies, refl, refl) in (
          source_of t.0,
          subst (λ xs. slice_get xs at.file ≡ Some (source_of t.0)) (sym (same_files w known path p h))
              (slice_get-map source_of h.files at.file ∙ ap (option_map source_of) t.1),
        )

    -- its scope begins behind it, in its file
    begins_here : may_be_local (p.layout.role d) ≡ true → ((p.layout.place d).index < start_of (p.layout.role d)) × (f ≡ (p.layout.place d).file)
    begins_here local =
        let rank = (p.layout.place d).file in
        let P : ℕ → Role → Type 0 = λ i r. may_be_local r ≡ true → (i < start_of r) × ((g e k : ℕ) → block_of r ≡ Inner g e k → g ≡ rank) in
        let s = source_here in
        let t = source_strung s.0 (source_is w known path p h rank s.0 s.1) in
        let b = at_inner P s.0 s.1 (file_begins (IsBlankAt s.0) (record { rank = rank; spell = spelling_of s.0 }) t.0 s.0.tree t.1) local in
        (b.0, b.1 f a c block)

  -- the names of a file

  module _ (file : ℕ) (uses : List MemberUse) (j : AreUsesIn p file uses) (unbroken : IsUnbroken j.world) (mean : HaveMeanings p file j.world j.source) where
    abbrev v : World
    v = j.world

    abbrev B : ℕ → Type 0
    B = IsBlankAt j.source

    -- the block and the place of a local
    IsPlaced : (d k : ℕ) → Type 0
    IsPlaced d k = (f : ℕ) × ((a : ℕ) × ((c : ℕ) × ((block_of (p.layout.role d) ≡ Inner f a c) × ((p.layout.place d).index ≡ k))))

    meant_local : (d k : ℕ) (b : Bound) → IsMeaningOf p d b → b ≡ Local k → IsPlaced d k
    unfolding IsPlaced
    meant_local d k _ (bound.predeclared is means) e = let z : ⊥ = cc in absurd z
    meant_local d k _ (bound.import_name is) e = let z : ⊥ = cc in absurd z
    meant_local d k _ (bound.local {file = f} {from = a} {to = c} is) e = (f, (a, (c, (is, (let same : (p.layout.place d).index ≡ k = cc in same)))))
    meant_local d k _ (bound.variable is t) e = let z : ⊥ = cc in absurd z
    meant_local d k _ (bound.broken_variable is t) e = let z : ⊥ = cc in absurd z
    meant_local d k _ (bound.function is s) e = let z : ⊥ = cc in absurd z
    meant_local d k _ (bound.broken_function is s) e = let z : ⊥ = cc in absurd z
    meant_local d k _ (bound.definition is t whole) e = let z : ⊥ = cc in absurd z
    meant_local d k _ (bound.broken_definition is t broken) e = let z : ⊥ = cc in absurd z

    local_bound : (i k : ℕ) (b : Bound) → IsName p file i b → b ≡ Local k → (d : ℕ) × (BindsToken p file i d × IsPlaced d k)
    local_bound i k b (is_bound (by_scope {declaration = d} binds m)) e = (d, (binds, meant_local d k b m e))
    local_bound i k _ (is_bound (by_package x)) e = let z : ⊥ = cc in absurd z
    local_bound i k _ (is_unbound none) e = let z : ⊥ = cc in absurd z

    -- an identifier that declares a local is bound to itself
    own_bound : (d f a c : ℕ) → block_of (p.layout.role d) ≡ Inner f a c → Counts p.layout p.names d → (p.layout.place d).file ≡ file →
        v.bound (p.layout.place d).index ≡ Local (p.layout.place d).index
    own_bound d f a c block counts at =
        let i = (p.layout.place d).index in
        let stands : LiesAt p.layout (record { file = file; index = i }) d = (inner_identifies d f a c block, at, refl) in
        one_name p (layout_formed w known path p h) (files_in_order w known path p h) file i (v.bound i) (Local i) (j.judged_by.names i)
        (is_bound (by_scope (record {
          identifier = d;
          found = found_first (record { file = file; index = i }) d (inner_within d f a c block) stands;
          bound = own refl counts;
        }) (bound.local block)))

    -- the place and the role of one of them
    HasSite : List Site → ℕ → Role → Type 0
    HasSite xs i r = (y : Site) × (Holds xs y × ((y.place.index ≡ i) × (y.role ≡ r)))

    -- the local that a name is bound to: its own, or an earlier one
    by_local : (xs : List Site) → ((d f a c : ℕ) → block_of (p.layout.role d) ≡ Inner f a c → (p.layout.place d).file ≡ file →
        HasSite xs (p.layout.place d).index (p.layout.role d)) →
        (i k u : ℕ) → u < p.size → LiesAt p.layout (record { file = file; index = i }) u → v.bound i ≡ Local k → (A : List Site) →
        ((y : Site) → Holds xs y → y.place.index < i → Contains A y) →
        ((may_declare (p.layout.role u) ≡ true) × (v.bound i ≡ Local i)) ⊎ IsEarlierLocal v A i
    unfolding HasSite IsPlaced
    by_local xs sites i k u lt stands e A before =
        let x = local_bound i k (v.bound i) (j.judged_by.names i) e in
        let same : x.1.0.identifier ≡ u =
        one_stands p.layout p.size in_order (record { file = file; index = i }) x.1.0.identifier u x.1.0.found.within lt x.1.0.found.holds stands in
        decide x.0 x.1.1.0 x.1.1.1.0 x.1.1.1.1.0 x.1.1.1.1.1.0 x.1.1.1.1.1.1 (subst (λ z. IsBoundTo p.layout p.names z x.0) same x.1.0.bound)
      where
        decide : (d f a c : ℕ) → block_of (p.layout.role d) ≡ Inner f a c → (p.layout.place d).index ≡ k → IsBoundTo p.layout p.names u d →
            ((may_declare (p.layout.role u) ≡ true) × (v.bound i ≡ Local i)) ⊎ IsEarlierLocal v A i
        decide d f a c block at (own same counts) =
            let here : (p.layout.place d).index ≡ i = subst (λ z. (p.layout.place z).index ≡ i) same stands.2 in
            inl (subst (λ z. may_declare (p.layout.role z) ≡ true) (sym same) counts.declares.may, e ∙ ap Local (sym at ∙ here))
        decide d f a c block at (use_bound is b) =
            let inside : HoldsPlace (scope_for (Inner f a c) (start_of (p.layout.role d))) (p.layout.place u) =
            subst (λ z. HoldsPlace (scope_for z (start_of (p.layout.role d))) (p.layout.place u)) block b.in_scope in
            let local = local_role (p.layout.role d) f a c b.counts.declares.may (inner_identifies d f a c block) block in
            let begun = begins_here d f a c block local in
            let there : (p.layout.place d).file ≡ file = sym begun.1 ∙ sym inside.0 ∙ stands.1 in
            let y = sites d f a c block there in
            let own_name = own_bound d f a c block b.counts there in
            let index : (p.layout.place u).index ≡ i = stands.2 in
            let start : start_of (p.layout.role d) ≤ (p.layout.place u).index = inside.1 in
            let end : (p.layout.place u).index < c = inside.2 in
            let first : (p.layout.place d).index < start_of (p.layout.role d) = begun.0 in
            let place : y.0.place.index ≡ (p.layout.place d).index = y.1.1.0 in
            let role = y.1.1.1 in
            let starts : start_of y.0.role ≡ start_of (p.layout.role d) = ap start_of role in
            inr (record {
              local = y.0;
              among = before y.0 y.1.0 (omega arith);
              own = (
                ap v.bound place ∙ own_name ∙ ap Local (sym place),
                ap may_be_local role ∙ local,
                subst HoldsTokens (sym role) (tokens_held (p.layout.role d) f a c block (omega arith)),
              );
              bound = e ∙ ap Local (sym at ∙ sym place);
              begun = omega arith;
            })

    -- by roles

    whole_bound : (i : ℕ) (b : Bound) → v.bound i ≡ b → (v.bound i ≡ Means Broken → ⊥) → ((k : ℕ) → b ≡ Local k → ⊥) →
        (m : Meaning) × ((v.bound i ≡ Means m) × (m ≡ Broken → ⊥))
    whole_bound i (Means m) e some none = (m, (e, λ q. some (e ∙ ap Means q)))
    whole_bound i (Local k) e some none = absurd (none k refl)
    whole_bound i BrokenVariable e some none = absurd (unbroken.variables i e)
    whole_bound i BrokenFunction e some none = absurd (unbroken.functions i e)
    whole_bound i BrokenType e some none = absurd (unbroken.types i e)

    use_resolved : (xs : List Site) → ((d f a c : ℕ) → block_of (p.layout.role d) ≡ Inner f a c → (p.layout.place d).file ≡ file →
        HasSite xs (p.layout.place d).index (p.layout.role d)) →
        (i : ℕ) → Stands p file i Use → (A : List Site) → ((y : Site) → Holds xs y → y.place.index < i → Contains A y) → (b : Bound) → v.bound i ≡ b →
        ((m : Meaning) × ((v.bound i ≡ Means m) × (m ≡ Broken → ⊥))) ⊎ IsEarlierLocal v A i
    use_resolved xs sites i u A before (Local k) e = elim (by_local xs sites i k u.0 u.1.0 u.1.1.0 e A before) [
      | inl x ↦ absurd (true≢false (sym x.0 ∙ ap may_declare u.1.1.1))
      | inr x ↦ inr x
    ]
    use_resolved xs sites i u A before (Means m) e =
        let some = (subst (MeansSomething v j.source i) u.1.1.1 (mean u.0 i u.1.0 u.1.1.0)).0 in inl (m, (e, λ q. some (e ∙ ap Means q)))
    use_resolved xs sites i u A before BrokenVariable e = absurd (unbroken.variables i e)
    use_resolved xs sites i u A before BrokenFunction e = absurd (unbroken.functions i e)
    use_resolved xs sites i u A before BrokenType e = absurd (unbroken.types i e)

    by_role : (xs : List Site) → ((d f a c : ℕ) → block_of (p.layout.role d) ≡ Inner f a c → (p.layout.place d).file ≡ file →
        HasSite xs (p.layout.place d).index (p.layout.role d)) →
        (i : ℕ) (r : Role) → (is_unnamed_import r ≡ false → Stands p file i r) → (A : List Site) →
        ((y : Site) → Holds xs y → y.place.index < i → Contains A y) →
        IsResolved v B A i r
    by_role xs sites i Use k A before =
        let u = k refl in
        (use_resolved xs sites i u A before (v.bound i) refl, (subst (MeansSomething v j.source i) u.1.1.1 (mean u.0 i u.1.0 u.1.1.0)).1)
    by_role xs sites i (NotLexical purpose.Selected) k A before = λ b e q.
        let u = k refl in
        whole_bound i (v.bound i) refl (subst (MeansSomething v j.source i) u.1.1.1 (mean u.0 i u.1.0 u.1.1.0) b e q)
        (λ n is. let x = local_bound i n (v.bound i) (j.judged_by.names i) is in none_by_scope w known path p h file i u x.0 x.1.0)
    by_role xs sites i (LeftName block start) k A before =
        let u = k refl in
        let l = subst (MeansSomething v j.source i) u.1.1.1 (mean u.0 i u.1.0 u.1.1.0) in
        elim (by_local xs sites i l.0 u.0 u.1.0 u.1.1.0 l.1 A before) [ inl x ↦ inl x.1 | inr x ↦ inr x ]
    by_role xs sites i r k A before = tt

    pub file_resolved : AreResolved v B [] (file_sites (record { rank = file; spell = spelling_of j.source }) j.source.tree)
    unfolding HasSite
    file_resolved =
        let source : TokenSpellings = record { rank = file; spell = spelling_of j.source } in
        let xs = file_sites source j.source.tree in
        let own_sites = all_as (Holds xs) (λ x. HasSite xs x.place.index x.role) (λ x i. (x, (i, (refl, refl)))) xs (all_themselves xs) in
        let rising : AreRising 0 (flatten j.source.tree) = files_in_order w known path p h file j.source j.in_file in
        let order = sorted source 0 xs (identifiers_among (flatten j.source.tree)) (file_pairs source j.source.tree)
        (rising_identifiers 0 (flatten j.source.tree) rising) in
        resolve v B xs [] xs 0 order (λ y i. inr i)
        (all_as (Kept p file) (Resolvable v B xs)
        (λ x g A before. by_role xs
        (λ d f a c block at. at_inner d f a c block (HasSite xs) j.source (subst (λ k. slice_get p.files k ≡ Some j.source) (sym at) j.in_file)
        (subst (λ k. AllByRecursion (λ x. HasSite xs x.place.index x.role) (file_sites (record { rank = k; spell = spelling_of j.source }) j.source.tree))
        (sym at)
        own_sites)) x.place.index x.role g A before) xs
        (all_kept w known path p h file j.source j.in_file))
