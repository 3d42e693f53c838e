-- The paths that files import, as the object of their package lists them.
use Rattle.std.proofs.Common.{ℕ, zero, suc, ◌≡◌, ◌<◌, ◌∷◌, [], List, ap, sym, subst, ◌∙◌, refl, length, get_or, map, arith, Global}
use Rattle.std.proofs.lemmas.List.{get_or-map, length-map}
use Rattle.std.specs.Prelude.{Vec}
use Rattle.std.specs.declared.cmp.Ordering.{Ordering}
use Rattle.std.specs.declared.cmp.Ordering.TheVariants.{Less}
use Rattle.std.specs.List.{Contains, AllByRecursion}
use Rattle.std.specs.List.Sorted.{IsStrictlySortedBy}
use Rattle.base_lemmas.proofs.Elements.{is_mapped}
use Rattle.base_files.specs.Workspace.{path_cmp}
use Rattle.go_ast.specs.SourceFile.{SourceFile, FileParts, source_of}
use Rattle.workspace_graph.specs.ImportPaths.{bytes_of_paths, ListsPaths, AnyImports}
use Rattle.workspace_graph.specs.Packages.{ImportsPath}
use Rattle.build_object.specs.Sources.{AreImports}

abbrev bytes_cmp : Vec ℕ Global → Vec ℕ Global → Ordering
bytes_cmp a b = path_cmp a.items b.items

-- the paths of a set are in order

below_paths : (k : Vec ℕ Global) (ks : List (Vec ℕ Global)) → AllByRecursion (λ y. bytes_cmp k y ≡ Less) ks →
    AllByRecursion (λ y. path_cmp k.items y ≡ Less) (bytes_of_paths ks)
below_paths k [] h = tt
below_paths k (x ∷ ks) h = (h.0, below_paths k ks h.1)

pub paths_sorted : (ks : List (Vec ℕ Global)) → IsStrictlySortedBy bytes_cmp ks → IsStrictlySortedBy path_cmp (bytes_of_paths ks)
unfolding IsStrictlySortedBy
paths_sorted [] h = tt
paths_sorted (k ∷ ks) h = (below_paths k ks h.0, paths_sorted ks h.1)

-- what a list contains, and what one made of it does

at_mapped : {X Y : Type 0} (f : X → Y) (xs : List X) (y : Y) (k : ℕ) → k < length xs → get_or (map f xs) k y ≡ y → (x : X) × (Contains xs x × (f x ≡ y))
at_mapped f [] y k lt e = let none : ⊥ = omega arith in absurd none
at_mapped f (x ∷ xs) y zero lt e = (x, ((0, omega arith, refl), e))
at_mapped f (x ∷ xs) y (suc k) lt e =
    let w = at_mapped f xs y k (omega arith) e in
    let within : suc w.1.0.0 < length (x ∷ xs) = omega (arith, w.1.0.1) in
    (w.0, ((suc w.1.0.0, within, w.1.0.2), w.1.1))

-- the paths that some files import, of their plain files
pub imports_listed : (files : List FileParts) (keys : List (Vec ℕ Global)) → ListsPaths (AnyImports files) keys →
    IsStrictlySortedBy path_cmp (bytes_of_paths keys) → AreImports (map source_of files) (bytes_of_paths keys)
imports_listed files keys holds sorted = record {
  each = λ path. (
    λ has. let w = (holds.each path).0 has in (source_of w.0, (is_mapped source_of files w.0 w.1.0, w.1.1)),
    λ i. let w = at_mapped source_of files i.0 i.1.0.0 (subst (λ n. i.1.0.0 < n) (length-map files source_of) i.1.0.1) i.1.0.2 in
        (holds.each path).1 (w.0, (w.1.0, subst (λ (f : SourceFile). ImportsPath f path) (sym w.1.1) i.1.1)),
  );
  sorted = sorted;
}
