-- Queries of a workspace's links by number, in terms of the paths of its packages.
use Rattle.std.proofs.Common.{◌≡◌, ℕ, ◌<◌, Bool, true, false, ◌&&◌, List, [], ◌∷◌, length, filter, cond, Some, slice_get, get_or, refl, sym}
use Rattle.std.proofs.Common.{subst, ◌∙◌, arith, zero, suc, ◌==◌, ◌↔◌, inl, inr}
use Rattle.std.specs.FinMap.{entries}
use Rattle.std.specs.List.{Contains, AllByRecursion}
use Rattle.std.specs.Cmp.Lexicographic.{pointwise, bytes_decides}
use Rattle.std.proofs.lemmas.Bool.{and_parts}
use Rattle.std.proofs.lemmas.List.Elements.{All-contains}
use Rattle.std.proofs.lemmas.Option.{same_Some, slice_get_within, get_or_from_slice_get, slice_get-get_or, slice_get_read}
use Rattle.base_files.specs.Path.{folder}
use Rattle.base_files.specs.Workspace.{Workspace}
use Rattle.workspace_graph.specs.Imports.{LinkTable, Imports, row_of, Reaches, itself, through, IsClosure, AreImporters}
use Rattle.workspace_graph.specs.Packages as packages
use Rattle.base_files.specs.Packages.{is_go, package_paths, package_files}
use Rattle.workspace_graph.specs.Packages.{PackageImports, AreLinksOf, IsInClosure}
use Rattle.workspace_graph.specs.Closures.{IsBuiltOnList}
use Rattle.workspace_graph.specs.Graphs.{ListsPackages}
use Rattle.workspace_graph.specs.Reaching.{AreBackMarks, BuildsOn, ReachingMarks, AreImportersMarked, AddsClosuresWith}
use Rattle.workspace_graph.specs.Search.{IsMarked, AreReaching, MarksWayBack, MarksReachingTo}
use Rattle.workspace_graph.proofs.Reached.{reached_within}
use Rattle.workspace_graph.proofs.PackagePaths.{all_there, AreThere, paths_sorted, one_number}

-- ---- a package with a file is a package
filter_has : {X : Type 0} (test : X → Bool) (xs : List X) (P : X → Type 0) → AllByRecursion (λ x. test x ≡ true → P x) xs → AllByRecursion P (filter test xs)
filter_has test [] P all = tt
filter_has test (x ∷ xs) P all =
    elim (test x) as (λ b. test x ≡ b → AllByRecursion P (cond b (x ∷ filter test xs) (filter test xs))) [
      | true ↦ λ h. (all.0 h, filter_has test xs P all.1)
      | false ↦ λ h. filter_has test xs P all.1
    ] refl

by_contains : {X : Type 0} (P : X → Type 0) (xs : List X) → AllByRecursion P xs → (x : X) (k : ℕ) → k < length xs → get_or xs k x ≡ x → P x
by_contains P [] all x k within is = absurd (omega arith)
by_contains P (y ∷ xs) all x zero within is = subst P is all.0
by_contains P (y ∷ xs) all x (suc k) within is = by_contains P xs all.1 x k (omega arith) is

in_folder : (paths : List (List ℕ)) (p : List ℕ) (es : List (List ℕ × List ℕ)) → AreThere paths es →
    AllByRecursion (λ e. (is_go e.0 && pointwise ◌==◌ (folder e.0) p) ≡ true → Contains paths p) es
in_folder paths p [] there = tt
in_folder paths p (e ∷ es) there = (
  λ h. let both = and_parts (is_go e.0) (pointwise ◌==◌ (folder e.0) p) h in subst (Contains paths) ((bytes_decides _ _).0 both.1) (there.0 both.0),
  in_folder paths p es there.1,
)

pub has_file : (w : Workspace) (p : List ℕ) (e : List ℕ × List ℕ) → Contains (package_files w p) e → Contains (package_paths w) p
has_file w p e has =
    by_contains (λ (d : List ℕ × List ℕ). Contains (package_paths w) p) (package_files w p)
    (filter_has (λ d. is_go d.0 && pointwise ◌==◌ (folder d.0) p) (entries w) (λ d. Contains (package_paths w) p)
    (in_folder (package_paths w) p (entries w) (all_there w)))
    e has.0 has.1 has.2

pub is_package : (w : Workspace) (p q : List ℕ) → IsInClosure w p q → Contains (package_paths w) p
is_package w p q (packages.itself has) = has
is_package w p q (packages.through pi rest) = has_file w p pi.entry pi.of_package

pub number : (w : Workspace) (p : List ℕ) → Contains (package_paths w) p → (i : ℕ) × (slice_get (package_paths w) i ≡ Some p)
number w p has = (has.0, slice_get_read (package_paths w) (length (package_paths w)) has.0 p refl has.1 (sym has.2))

pub at_contains : (w : Workspace) (i : ℕ) (p : List ℕ) → slice_get (package_paths w) i ≡ Some p → Contains (package_paths w) p
at_contains w i p at = (i, slice_get_within (package_paths w) i p at, get_or_from_slice_get (package_paths w) i p p at)

module _ (w : Workspace) (g : LinkTable) (links : AreLinksOf w g) where
  abbrev At : ℕ → List ℕ → Type 0
  At i p = slice_get (package_paths w) i ≡ Some p

  name : (i : ℕ) → i < length g → (p : List ℕ) × At i p
  name i within = (get_or (package_paths w) i [], slice_get-get_or (package_paths w) i [] (omega (arith, links.size)))

  inside : (i : ℕ) (p : List ℕ) → At i p → i < length g
  inside i p at = omega (arith, links.size, slice_get_within (package_paths w) i p at)

  from_within : (i j : ℕ) → Imports g i j → i < length g
  from_within i j h = row_within g i j h
    where
      row_within : (rows : LinkTable) (i j : ℕ) → Contains (row_of rows i) j → i < length rows
      row_within [] i j h = absurd (omega (arith, h.1))
      row_within (row ∷ rows) zero j h = omega arith
      row_within (row ∷ rows) (suc i) j h = omega (arith, row_within rows i j h)

  to_within : (i j : ℕ) → Imports g i j → j < length g
  to_within i j h = All-contains (λ q. q < length g) (row_of g i) j (links.linked i [] (from_within i j h)) h

  one : (i j : ℕ) (p : List ℕ) → At i p → At j p → i ≡ j
  one i j p a b = one_number (package_paths w) (paths_sorted w) i j p a b

  -- ---- direct imports
  pub imports_are : (n : ℕ) (p : List ℕ) → At n p → ListsPackages w (PackageImports w p) (row_of g n)
  imports_are n p at i = (
    λ h. let q = name i (to_within n i h) in (q.0, q.1, (links.each n i p q.0 at q.1).0 h),
    λ s. (links.each n i p s.0 at s.1).1 s.2,
  )

  pub importers_are : (n : ℕ) (p : List ℕ) (found : List ℕ) → At n p → AreImporters g n found → ListsPackages w (λ q. PackageImports w q p) found
  importers_are n p found at are i = (
    λ h. let imports = (are i).0 h in let q = name i (from_within i n imports) in (q.0, q.1, (links.each i n q.0 p q.1 at).0 imports),
    λ s. (are i).1 ((links.each i n s.0 p s.1 at).1 s.2),
  )

  -- ---- the closure
  in_closure : {i j : ℕ} → Reaches g i j → (p q : List ℕ) → At i p → At j q → IsInClosure w p q
  in_closure (itself {p = i} h) p q a b = subst (IsInClosure w p) (same_Some _ _ (sym a ∙ b)) (packages.itself (at_contains w i p a))
  in_closure (through {p = i} {q = k} imports rest) p q a b =
      let r = name k (to_within i k imports) in
      packages.through ((links.each i k p r.0 a r.1).0 imports) (in_closure rest r.0 q r.1 b)

  reached : {p q : List ℕ} → IsInClosure w p q → (i : ℕ) → At i p → (j : ℕ) × At j q × Reaches g i j
  reached (packages.itself has) i at = (i, at, itself (inside i _ at))
  reached (packages.through {p = p} {q = q} {r = r} pi rest) i at =
      let k = number w q (is_package w q r rest) in
      let found = reached rest k.0 k.1 in
      (found.0, found.1, through ((links.each i k.0 p q at k.1).1 pi) found.2)

  reached_at : (p q : List ℕ) (i j : ℕ) → IsInClosure w p q → At i p → At j q → Reaches g i j
  reached_at p q i j c a b = let found = reached c i a in subst (Reaches g i) (one found.0 j q found.1 b) found.2

  pub closure_is : (n : ℕ) (p : List ℕ) (found : List ℕ) → At n p → IsClosure g n found → ListsPackages w (IsInClosure w p) found
  closure_is n p found at is i = (
    λ h. let reaches = (is i).0 h in let q = name i (reached_within reaches) in (q.0, q.1, in_closure reaches p q.0 at q.1),
    λ s. (is i).1 (reached_at p s.0 n i s.2 at s.1),
  )

  -- and back
  pub closure_from : (n : ℕ) (p : List ℕ) (found : List ℕ) → At n p → ListsPackages w (IsInClosure w p) found → IsClosure g n found
  closure_from n p found at holds i = (
    λ h. let s = (holds i).0 h in reached_at p s.0 n i s.2 at s.1,
    λ r. let q = name i (reached_within r) in (holds i).1 (q.0, q.1, in_closure r p q.0 at q.1),
  )

  pub back_are : (n : ℕ) (p : List ℕ) (marks : List Bool) → At n p → MarksWayBack g n marks → AreBackMarks w p marks
  back_are n p marks at are i q there c =
      let told = are i (reached_at p q n i c at there) in (
        λ m. in_closure (told.0 m) q p there at,
        λ back. told.1 (reached_at q p i n back there at),
      )

  pub below_is : (n : ℕ) (p : List ℕ) (found : List ℕ) → At n p → IsBuiltOnList g n found → ListsPackages w (BuildsOn w p) found
  below_is n p found at is i = (
    λ h.
        let r = (is.each i).0 h in
        let q = name i (reached_within r.0) in
        (q.0, q.1, record { imported = in_closure r.0 p q.0 at q.1; not_back = λ back. r.1 (reached_at q.0 p i n back q.1 at) }),
    λ s. (is.each i).1 (reached_at p s.0 n i s.2.imported at s.1, λ back. s.2.not_back (in_closure back s.0 p s.1 at)),
  )

  -- ---- marks
  pub reaching_are : (starts marks : List Bool) → AreReaching g starts marks → ReachingMarks w starts marks
  reaching_are starts marks are = record {
    size = are.size ∙ links.size;
    each = λ i p at. (
      λ m.
          let r = (are.each i).0 m in
          let q = name r.0 (reached_within r.2) in
          record { number = r.0; path = q.0; has_path = q.1; marked = r.1; in_closure = in_closure r.2 p q.0 at q.1 },
      λ h. (are.each i).1 (h.number, h.marked, reached_at p h.path i h.number h.in_closure at h.has_path),
    );
  }

  pub importing_are : (n : ℕ) (q : List ℕ) → At n q → (old new : List Bool) → MarksReachingTo g n old new → AddsClosuresWith w q old new
  importing_are n q there old new are = record {
    size = are.size;
    each = λ i p at. (
      λ m. elim ((are.each i).0 m) [ inl before ↦ inl before | inr r ↦ inr (in_closure r p q at there) ],
      λ h. elim h [ inl before ↦ (are.each i).1 (inl before) | inr c ↦ (are.each i).1 (inr (reached_at p q i n c at there)) ],
    );
  }

  pub above_are : (marks : List Bool) → AreImportersMarked w marks → (i j : ℕ) → Imports g i j → IsMarked marks j → IsMarked marks i
  above_are marks above i j imports m =
      let p = name i (from_within i j imports) in
      let q = name j (to_within i j imports) in
      above i j p.0 q.0 p.1 q.1 ((links.each i j p.0 q.0 p.1 q.1).0 imports) m

  -- ---- the order
  pub reaches_are : (i j : ℕ) (p q : List ℕ) → At i p → At j q → Reaches g i j ↔ IsInClosure w p q
  reaches_are i j p q at there = ((λ r. in_closure r p q at there), (λ c. reached_at p q i j c at there))
