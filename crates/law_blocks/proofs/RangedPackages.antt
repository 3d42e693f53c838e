-- The declarations of a package have the blocks and scopes of the ranges of its files, and no others.
use Rattle.std.proofs.Common.{ℕ, suc, ◌≡◌, ◌+◌, ◌⊎◌, inl, inr, List, [], ◌∷◌, ◌++◌, Option, Some, None, Bool, true, false, map, refl, sym, ◌∙◌, ap, subst}
use Rattle.std.proofs.Common.{arith}
use Rattle.std.specs.Prelude.{slice_get}
use Rattle.std.proofs.lemmas.List.Elements.{All-head, All-tail}
use Rattle.go_ast.specs.Flatten.{flatten}
use Rattle.go_scope.specs.declared.model.Block.{Block}
use Rattle.go_scope.specs.declared.model.Block.TheVariants.{Universe, File}
use Rattle.go_scope.specs.declared.model.Position.{Position}
use Rattle.go_scope.specs.declared.model.Scope.{Scope}
use Rattle.go_scope.specs.Bindings.{Layout, MayDeclare, may_declare, is_implied, block_of, start_of, scope_of}
use Rattle.go_scope.specs.FileSites.{SpelledFile, file_sites, files_sites, universe, universe_site, package_sites}
use Rattle.go_scope.specs.Named.{is_unnamed_import, named_where, named_sites}
use Rattle.go_scope.specs.Scopes.{scope_for}
use Rattle.go_scope.specs.Site.{Site, TokenSpellings, or_blank}
use Rattle.go_scope.specs.Trees.{IsNumbered, AreNumbered}
use Rattle.go_scope.proofs.AmongTokens.{StandsFrom, places_rise}
use Rattle.go_scope.proofs.AmongTrees.{file_among}
use Rattle.go_scope.proofs.PackageRegions.{each_at, not_may}
use Rattle.go_scope.proofs.Regions.{Each, each_append, each_map}
use Rattle.go_scope.proofs.Rising.{rises_of}
use Rattle.law_blocks.specs.Ranges.{file_specs}
use Rattle.law_blocks.specs.Lookup.{IsBlockAt, IsBlockIn, IsStartIn, IsBlockOf, predeclared_block, written_block, IsStartOf}
use Rattle.law_blocks.specs.Lookup.{predeclared_start, written_start, IsScopeOf}
use Rattle.law_blocks.specs.Laws.{layout_for, BlocksAreRanges, StartsAreEndsOfSpecs, ScopesAreRanges}
use Rattle.law_blocks.proofs.RangedFiles.{IsFound, file_found, IsLiteralFound, literals_found}
use Rattle.law_blocks.proofs.Unique.{block_once, start_once}

each_both : (P Q : Site → Type 0) (xs : List Site) → Each P xs → Each Q xs → Each (λ x. P x × Q x) xs
each_both P Q [] a b = tt
each_both P Q (x ∷ xs) a b = ((a.0, b.0), each_both P Q xs a.1 b.1)

-- A declaration in one of these files has the block and the start that the ranges of its file give. So has the string literal of an import
-- without a name, as a declaration of its file.
pub record InFiles (all : List SpelledFile) (x : Site) : Type 0 where
  pub declared : may_declare x.role ≡ true → (is_implied x.role ≡ false) × IsBlockIn (slice_get all x.place.file) x.place (block_of x.role) ×
      IsStartIn (slice_get all x.place.file) x.place (start_of x.role)
  pub literal : is_unnamed_import x.role ≡ true → IsBlockIn (slice_get all x.place.file) x.place (File x.place.file) ×
      IsStartIn (slice_get all x.place.file) x.place 0

in_file : (all : List SpelledFile) (rank : ℕ) (f : SpelledFile) (x : Site) → slice_get all rank ≡ Some f → x.place.file ≡ rank → IsFound rank f.tree x →
    IsLiteralFound rank f.tree x → InFiles all x
in_file all rank f x at e h k =
    let found : slice_get all x.place.file ≡ Some f = ap (slice_get all) e ∙ at in
    let P : Option SpelledFile → Type 0 = λ o. IsBlockIn o x.place (block_of x.role) in
    let Q : ℕ → Type 0 = λ k. IsBlockAt k f.tree x.place.index (block_of x.role) in
    let R : Option SpelledFile → Type 0 = λ o. IsStartIn o x.place (start_of x.role) in
    let S : Option SpelledFile → Type 0 = λ o. IsBlockIn o x.place (File x.place.file) in
    let T : ℕ → Type 0 = λ k. IsBlockAt k f.tree x.place.index (File k) in
    let U : Option SpelledFile → Type 0 = λ o. IsStartIn o x.place 0 in
    record {
      declared = λ may. (let y = h may in (y.0, subst P (sym found) (subst Q (sym e) y.1), subst R (sym found) y.2));
      literal = λ unnamed. (let y = k unnamed in (subst S (sym found) (subst T (sym e) y.0), subst U (sym found) y.1));
    }

files_found : (all : List SpelledFile) (rank : ℕ) (fs : List SpelledFile) → AreNumbered fs → ((k : ℕ) → slice_get all (rank + k) ≡ slice_get fs k) →
    Each (InFiles all) (files_sites rank fs)
unfolding files_sites
files_found all rank [] w at = tt
files_found all rank (f ∷ fs) w at =
    let s : TokenSpellings = record { rank = rank; spell = f.spell } in
    let one = All-head IsNumbered f fs w in
    let bound = rises_of 0 (flatten f.tree) one.rising in
    let xs = file_sites s f.tree in
    let found = file_found s bound.0 f.tree one.grouped bound.1 in
    let literals = literals_found s bound.0 f.tree one.grouped bound.1 in
    let places = places_rise rank 0 xs (flatten f.tree) (file_among s f.tree) one.rising in
    let first : rank ≡ rank + 0 = omega arith in
    let here : slice_get all rank ≡ Some f = ap (slice_get all) first ∙ at 0 in
    let Told : Site → Type 0 = λ x. IsFound rank f.tree x × IsLiteralFound rank f.tree x in
    each_append (InFiles all) xs (files_sites (suc rank) fs)
    (each_map (λ x. StandsFrom rank 0 x × Told x) (InFiles all) (λ x h. in_file all rank f x here h.0.0 h.1.0 h.1.1) xs
    (each_both (StandsFrom rank 0) Told xs places.0 (each_both (IsFound rank f.tree) (IsLiteralFound rank f.tree) xs found literals)))
    (files_found all (suc rank) fs (All-tail IsNumbered f fs w)
    (λ k. (let next : suc rank + k ≡ rank + suc k = omega arith in ap (slice_get all) next ∙ at (suc k))))

-- a predeclared name, or a declaration in one of these files
abbrev Known : List SpelledFile → Site → Type 0
Known all x = may_declare x.role ≡ true → ((is_implied x.role ≡ true) × (block_of x.role ≡ Universe) × (start_of x.role ≡ 0)) ⊎
    ((is_implied x.role ≡ false) × IsBlockIn (slice_get all x.place.file) x.place (block_of x.role) ×
    IsStartIn (slice_get all x.place.file) x.place (start_of x.role))

where_known : (all : List SpelledFile) (b : Bool) (name : Option (List ℕ)) (x : Site) → is_unnamed_import x.role ≡ b → InFiles all x →
    Known all (named_where b name x)
where_known all true (Some name) x e h = λ may. inr (refl, (h.literal e).0, (h.literal e).1)
where_known all true None x e h = λ may. inr (h.declared may)
where_known all false name x e h = λ may. inr (h.declared may)

-- files whose imports are given names
sites_known : (all : List SpelledFile) (imported : ℕ → Option (List ℕ)) (xs : List Site) → Each (InFiles all) xs →
    Each (Known all) (named_sites imported xs)
unfolding named_sites
sites_known all imported [] h = tt
sites_known all imported (x ∷ xs) h =
    (where_known all (is_unnamed_import x.role) (imported 0) x refl h.0, sites_known all (λ u. imported (suc u)) xs h.1)

names_known : (all : List SpelledFile) (imported : ℕ → Option (List ℕ)) (names : List (List ℕ)) (xs : List Site) → Each (InFiles all) xs →
    Each (Known all) (named_sites imported (map universe_site names ++ xs))
unfolding named_sites
names_known all imported [] xs h = sites_known all imported xs h
names_known all imported (n ∷ names) xs h = ((λ may. inl (refl, refl, refl)), names_known all (λ u. imported (suc u)) names xs h)

package_known : (imported : ℕ → Option (List ℕ)) (fs : List SpelledFile) → AreNumbered fs → Each (Known fs) (named_sites imported (package_sites fs))
unfolding package_sites
package_known imported fs w =
    names_known fs imported universe (files_sites 0 fs) (files_found fs 0 fs w (λ k. (let e : 0 + k ≡ k = omega arith in ap (slice_get fs) e)))

known_at : (imported : ℕ → Option (List ℕ)) (fs : List SpelledFile) → AreNumbered fs → (d : ℕ) →
    Known fs (or_blank (slice_get (named_sites imported (package_sites fs)) d))
known_at imported fs w d = each_at (Known fs) (λ m. not_may m) (named_sites imported (package_sites fs)) (package_known imported fs w) d

pub block_is : (imported : ℕ → Option (List ℕ)) (fs : List SpelledFile) → AreNumbered fs → (d : ℕ) → MayDeclare (layout_for imported fs) d →
    IsBlockOf fs (layout_for imported fs) d (block_of ((layout_for imported fs).role d))
block_is imported fs w d may = elim (known_at imported fs w d may) [ inl h ↦ predeclared_block h.0 h.1 | inr h ↦ written_block h.0 h.1 ]

pub start_is : (imported : ℕ → Option (List ℕ)) (fs : List SpelledFile) → AreNumbered fs → (d : ℕ) → MayDeclare (layout_for imported fs) d →
    IsStartOf fs (layout_for imported fs) d (start_of ((layout_for imported fs).role d))
start_is imported fs w d may = elim (known_at imported fs w d may) [ inl h ↦ predeclared_start h.0 h.2 | inr h ↦ written_start h.0 h.2 ]

not_both_ways : {A : Type 0} (b : Bool) → b ≡ true → b ≡ false → A
not_both_ways b e k = cc

block_in_once : (o : Option SpelledFile) (p : Position) (b c : Block) → IsBlockIn o p b → IsBlockIn o p c → b ≡ c
block_in_once None p b c x y = absurd x
block_in_once (Some f) p b c x y = block_once p.file f.tree p.index b c x y

start_in_once : (o : Option SpelledFile) (p : Position) (j k : ℕ) → IsStartIn o p j → IsStartIn o p k → j ≡ k
start_in_once None p j k x y = absurd x
start_in_once (Some f) p j k x y = start_once (file_specs f.tree) p.index j k x y

module _ (fs : List SpelledFile) (l : Layout) (d : ℕ) where
  pub block_of_once : (b c : Block) → IsBlockOf fs l d b → IsBlockOf fs l d c → b ≡ c
  block_of_once b c (predeclared_block i e) (predeclared_block j k) = e ∙ sym k
  block_of_once b c (predeclared_block i e) (written_block j k) = not_both_ways (is_implied (l.role d)) i j
  block_of_once b c (written_block i e) (predeclared_block j k) = not_both_ways (is_implied (l.role d)) j i
  block_of_once b c (written_block i e) (written_block j k) = block_in_once (slice_get fs (l.place d).file) (l.place d) b c e k

  start_of_once : (b c : ℕ) → IsStartOf fs l d b → IsStartOf fs l d c → b ≡ c
  start_of_once b c (predeclared_start i e) (predeclared_start j k) = e ∙ sym k
  start_of_once b c (predeclared_start i e) (written_start j k) = not_both_ways (is_implied (l.role d)) i j
  start_of_once b c (written_start i e) (predeclared_start j k) = not_both_ways (is_implied (l.role d)) j i
  start_of_once b c (written_start i e) (written_start j k) = start_in_once (slice_get fs (l.place d).file) (l.place d) b c e k

pub blocks_are : BlocksAreRanges
blocks_are imported fs w d may b = (
  (λ e. let P : Block → Type 0 = λ c. IsBlockOf fs (layout_for imported fs) d c in subst P e (block_is imported fs w d may)),
  (λ h. block_of_once fs (layout_for imported fs) d (block_of ((layout_for imported fs).role d)) b (block_is imported fs w d may) h),
)

pub starts_are : StartsAreEndsOfSpecs
starts_are imported fs w d may k = (
  (λ e. let P : ℕ → Type 0 = λ j. IsStartOf fs (layout_for imported fs) d j in subst P e (start_is imported fs w d may)),
  (λ h. start_of_once fs (layout_for imported fs) d (start_of ((layout_for imported fs).role d)) k (start_is imported fs w d may) h),
)

pub scope_is : (imported : ℕ → Option (List ℕ)) (fs : List SpelledFile) → AreNumbered fs → (d : ℕ) → MayDeclare (layout_for imported fs) d →
    IsScopeOf fs (layout_for imported fs) d (scope_of ((layout_for imported fs).role d))
scope_is imported fs w d may = record {
  block = block_of ((layout_for imported fs).role d);
  start = start_of ((layout_for imported fs).role d);
  is_block = block_is imported fs w d may;
  is_start = start_is imported fs w d may;
  scope = refl;
}

pub scope_once : (imported : ℕ → Option (List ℕ)) (fs : List SpelledFile) → AreNumbered fs → (d : ℕ) →
    MayDeclare (layout_for imported fs) d → (s : Scope) → IsScopeOf fs (layout_for imported fs) d s →
    scope_of ((layout_for imported fs).role d) ≡ s
scope_once imported fs w d may s h =
    let r = (layout_for imported fs).role d in
    let e : block_of r ≡ h.block = block_of_once fs (layout_for imported fs) d (block_of r) h.block (block_is imported fs w d may) h.is_block in
    let k : start_of r ≡ h.start = start_of_once fs (layout_for imported fs) d (start_of r) h.start (start_is imported fs w d may) h.is_start in
    ap (λ b. scope_for b (start_of r)) e ∙ ap (λ j. scope_for h.block j) k ∙ sym h.scope

pub scopes_are : ScopesAreRanges
scopes_are imported fs w d may s = (
  (λ e. let P : Scope → Type 0 = λ c. IsScopeOf fs (layout_for imported fs) d c in subst P e (scope_is imported fs w d may)),
  (λ h. scope_once imported fs w d may s h),
)
