-- The packages after a change of files in some folders that adds and removes no package.
use Rattle.std.proofs.Common.{◌≡◌, ℕ, zero, suc, ◌+◌, ◌<◌, ◌⊎◌, Bool, true, false, not, ◌||◌, List, [], ◌∷◌, ◌++◌, ◌↔◌, length, take, get_or, Some, slice_get}
use Rattle.std.proofs.Common.{refl, sym, ap, subst, ◌∙◌, inl, inr, ⊎_elim, nat_eq, vec_len, arith}
use Rattle.std.proofs.Math.ListN.{set}
use Rattle.std.specs.Global.{Vec}
use Rattle.std.specs.FinMap.{entries, contains_key-keys}
use Rattle.std.specs.List.{All, AllZip, Contains, list_any}
use Rattle.std.specs.List.Sorted.{IsStrictlySortedBy}
use Rattle.std.specs.Ordering.{eq_by_cmp}
use Rattle.std.proofs.lemmas.Bool.{true≢false, cases_eq, eqb-true, not-true}
use Rattle.std.proofs.lemmas.List.{take_more, map_push}
use Rattle.std.proofs.lemmas.List.Elements.{All-contains, All-push, Contains-append_left, Contains-push, Contains-push_cases}
use Rattle.std.proofs.lemmas.Map.Views.{Contains-from_any}
use Rattle.std.proofs.lemmas.Option.{same_Some, slice_get_within, get_or_from_slice_get}
use Rattle.std.proofs.Math.Bool.{or-true}
use Rattle.base_lemmas.proofs.Elements.{nothing_in}
use Rattle.base_files.specs.Packages.{folders, package_paths, package_files}
use Rattle.base_files.specs.Workspace.{Workspace, path_cmp}
use Rattle.go_ast.specs.SourceFile.{FileParts}
use Rattle.workspace_graph.specs.Changed.{AreReplaced, KeepsPath, HasRow, has_file, has_some}
use Rattle.workspace_graph.specs.FaultyFiles.{FaultyParts}
use Rattle.workspace_graph.specs.Graphs.{paths_of, IsGraph}
use Rattle.workspace_graph.specs.Imports.{LinkTable, Imports, row_of}
use Rattle.workspace_graph.specs.Packages.{PackageImports}
use Rattle.workspace_graph.specs.Parsed.{AreParsed, none, tree, fault}
use Rattle.workspace_graph.specs.SameGoFiles.{DiffersOnlyIn, HasFiles}
use Rattle.workspace_graph.specs.declared.package.ParsedPackage.{ParsedPackage}
use Rattle.workspace_graph.proofs.Filled.{path_at, set_there, set_elsewhere}
use Rattle.workspace_graph.proofs.Linked.{package_at, row_imports}
use Rattle.workspace_graph.proofs.PackagePaths.{exact_names, has_folder, one_number, paths_are, paths_sorted}
use Rattle.workspace_graph.proofs.FoundFolders.{folder_found}
use Rattle.workspace_graph.proofs.SameFiles.{same_files}
use Rattle.workspace_graph.proofs.StayingPackages.{any_of}

-- ---- whether a package has a file
some_by : {X : Type 0} (xs : List X) (n : ℕ) → n ≡ length xs → not (nat_eq n 0) ≡ has_some xs
some_by [] n is = ap (λ m. not (nat_eq m 0)) is
some_by (x ∷ xs) n is = elim (nat_eq n 0) as (λ b. nat_eq n 0 ≡ b → not b ≡ true) [
  | true ↦ λ t. let z : n ≡ 0 = eqb-true n 0 t in absurd (omega arith)
  | false ↦ λ f. refl
] refl

pub vec_some : {X : Type 0} (xs : Vec X) (b : Bool) → b ≡ nat_eq (vec_len xs) 0 → not b ≡ has_some xs.items
vec_some xs b is = ap not is ∙ some_by xs.items (vec_len xs) xs.ok.0

pub some_parsed : {es : List (List ℕ × List ℕ)} {ts : List FileParts} {fs : List FaultyParts} → AreParsed es ts fs → has_some es ≡ (has_some ts || has_some fs)
some_parsed none = refl
some_parsed (tree is rest) = refl
some_parsed (fault {ts = ts} is rest) = sym (or-true (has_some ts))

pub at_path : (paths : List (List ℕ)) (n : ℕ) (q : List ℕ) → slice_get paths n ≡ Some q → Contains paths q
at_path paths n q at = (n, slice_get_within paths n q at, get_or_from_slice_get paths n q q at)

pub all_more : (P : ParsedPackage → Type 0) (xs : List ParsedPackage) (k : ℕ) (x : ParsedPackage) → k < length xs → x ≡ get_or xs k x → All P (take k xs) →
    P x →
    All P (take (k + 1) xs)
all_more P xs k x below is all here =
    subst (All P) (sym (take_more xs k x below ∙ ap (λ y. take k xs ++ y ∷ []) (sym is))) (All-push P (take k xs) x all here)

-- ---- one package after another in the place of what was there
paths_put : (ps : List ParsedPackage) (n : ℕ) (a : ParsedPackage) → slice_get (paths_of ps) n ≡ Some a.path.items → paths_of (set ps n a) ≡ paths_of ps
paths_put [] n a at = refl
paths_put (p ∷ ps) zero a at = ap (λ path. path ∷ paths_of ps) (sym (same_Some _ _ at))
paths_put (p ∷ ps) (suc n) a at = ap (λ rest. p.path.items ∷ rest) (paths_put ps n a at)

-- A list of clones is the list that was cloned.
pub clones_are : {X : Type 0} (xs ys : List X) → AllZip (λ x y. y ≡ x) xs ys → ys ≡ xs
clones_are [] [] are = refl
clones_are [] (y ∷ ys) are = absurd are
clones_are (x ∷ xs) [] are = absurd are
clones_are (x ∷ xs) (y ∷ ys) are = ap (λ z. z ∷ ys) are.0 ∙ ap (λ zs. x ∷ zs) (clones_are xs ys are.1)

pub none_replaced : (before packages : List ParsedPackage) → packages ≡ before → AreReplaced before [] packages
none_replaced before packages same = record {
  paths = ap paths_of same;
  each = λ i p at. inr (ap (λ ps. slice_get ps i) (sym same) ∙ at, λ has. nothing_in p.path.items has);
}

-- one more of the others
module _ (before fresh packages : List ParsedPackage) (k : ℕ) (x : ParsedPackage) (below : k < length fresh) (is : x ≡ get_or fresh k x)
    (so : AreReplaced before (take k fresh) packages) where
  more_is : take (k + 1) fresh ≡ take k fresh ++ x ∷ []
  more_is = take_more fresh k x below ∙ ap (λ y. take k fresh ++ y ∷ []) (sym is)

  apart_more : (q : List ℕ) → (Contains (paths_of (take k fresh)) q → ⊥) → (x.path.items ≡ q → ⊥) → Contains (paths_of (take (k + 1) fresh)) q → ⊥
  apart_more q old new has = ⊎_elim old new (Contains-push_cases (paths_of (take k fresh)) x.path.items q
      (subst (λ l. Contains l q) (ap paths_of more_is ∙ map_push (λ (p : ParsedPackage). p.path.items) (take k fresh) x) has))

  kept_in : (p : ParsedPackage) → Contains (take k fresh) p → Contains (take (k + 1) fresh) p
  kept_in p has = subst (λ l. Contains l p) (sym more_is) (Contains-append_left (take k fresh) (x ∷ []) p has)

  own_in : Contains (take (k + 1) fresh) x
  own_in = subst (λ l. Contains l x) (sym more_is) (Contains-push (take k fresh) x)

  -- at another place
  elsewhere : (i : ℕ) (p : ParsedPackage) → slice_get packages i ≡ Some p → (slice_get (paths_of before) i ≡ Some x.path.items → ⊥) →
      Contains (take (k + 1) fresh) p ⊎ ((slice_get before i ≡ Some p) × (Contains (paths_of (take (k + 1) fresh)) p.path.items → ⊥))
  elsewhere i p at other = ⊎_elim
      (λ (has : Contains (take k fresh) p). inl (kept_in p has))
      (λ (stays : (slice_get before i ≡ Some p) × (Contains (paths_of (take k fresh)) p.path.items → ⊥)).
      inr (stays.0, apart_more p.path.items stays.1 (λ same. other (path_at before i p stays.0 ∙ ap Some (sym same)))))
      (so.each i p at)

  pub replaced_none : (Contains (paths_of before) x.path.items → ⊥) → AreReplaced before (take (k + 1) fresh) packages
  replaced_none never = record {
    paths = so.paths;
    each = λ i p at. elsewhere i p at (λ there. never (at_path (paths_of before) i x.path.items there));
  }

  pub replaced_more : IsStrictlySortedBy path_cmp (paths_of before) → (n : ℕ) → slice_get (paths_of before) n ≡ Some x.path.items →
      AreReplaced before (take (k + 1) fresh) (set packages n x)
  replaced_more sorted n there = record {
    paths = paths_put packages n x (ap (λ l. slice_get l n) so.paths ∙ there) ∙ so.paths;
    each = λ i p at. ⊎_elim
        (λ (here : i ≡ n).
        let old = package_at packages n x.path.items (ap (λ l. slice_get l n) so.paths ∙ there) in
        let own : x ≡ p = same_Some x p (sym (set_there packages n old.0 x old.1) ∙ ap (slice_get (set packages n x)) (sym here) ∙ at) in
        inl (subst (Contains (take (k + 1) fresh)) own own_in))
        (λ (other : i ≡ n → ⊥). elsewhere i p (sym (set_elsewhere packages n i x other) ∙ at)
        (λ also. other (one_number (paths_of before) sorted i n x.path.items also there)))
        (cases_eq i n);
  }

-- ---- the imports of a package depend on its files alone
pub moved : (x y : Workspace) (p q : List ℕ) → package_files x p ≡ package_files y p → PackageImports x p q → PackageImports y p q
moved x y p q same pi = record {
  entry = pi.entry;
  of_package = subst (λ es. Contains es pi.entry) same pi.of_package;
  file = pi.file;
  parsed = pi.parsed;
  imports = pi.imports;
}

-- a path among theirs is that of one of them
pub with_path : (ps : List ParsedPackage) (q : List ℕ) → Contains (paths_of ps) q → (p : ParsedPackage) × Contains ps p × (p.path.items ≡ q)
with_path [] q has = absurd (nothing_in q has)
with_path (p ∷ ps) q (zero, within, is) = (p, (0, omega arith, refl), is)
with_path (p ∷ ps) q (suc k, within, is) =
    let r = with_path ps q (k, omega (arith, within), is) in
    let there : r.1.0 < length ps = r.1.1 in
    (r.0, (suc r.1.0, omega arith, r.1.2), r.2)

-- ---- the packages after the change
module _ (v w : Workspace) (before fresh packages : List ParsedPackage) (g : LinkTable) (graph : IsGraph v before g) (differs : DiffersOnlyIn (paths_of
    fresh) v w)
    (files : All (HasFiles w) fresh) (kept : All (KeepsPath (package_paths v)) fresh) (are : AreReplaced before fresh packages) where
  abbrev among : List ℕ → List (List ℕ) → Bool
  among q ks = list_any (eq_by_cmp path_cmp q) ks

  own_files : (p : ParsedPackage) → Contains fresh p → HasFiles w p
  own_files p has = All-contains (HasFiles w) fresh p files has

  -- whether a folder has a Go file
  some_before : (q : List ℕ) → among q (package_paths v) ≡ has_some (package_files v q)
  some_before q = sym (contains_key-keys (folders v) q) ∙ has_folder v q ∙ folder_found q (entries v)

  some_at : (p : ParsedPackage) → Contains fresh p → has_some (package_files v p.path.items) ≡ has_some (package_files w p.path.items)
  some_at p has =
      let own : has_some (package_files w p.path.items) ≡ has_file p = some_parsed (own_files p has) in
      ⊎_elim
      (λ (is : Contains (package_paths v) p.path.items × (has_file p ≡ true)).
      sym (some_before p.path.items) ∙ any_of p.path.items (package_paths v) is.0 ∙ sym (own ∙ is.1))
      (λ (is : (Contains (package_paths v) p.path.items → ⊥) × (has_file p ≡ false)).
      sym (some_before p.path.items) ∙ not_among p.path.items is.0 ∙ sym (own ∙ is.1))
      (All-contains (KeepsPath (package_paths v)) fresh p kept has)
    where
      not_among : (q : List ℕ) → (Contains (package_paths v) q → ⊥) → among q (package_paths v) ≡ false
      not_among q never = elim (among q (package_paths v)) as (λ b. among q (package_paths v) ≡ b → b ≡ false) [
        | true ↦ λ is. absurd (never (Contains-from_any exact_names q (package_paths v) is))
        | false ↦ λ is. refl
      ] refl

  some_same : (q : List ℕ) → has_some (package_files v q) ≡ has_some (package_files w q)
  some_same q = elim (among q (paths_of fresh)) as (λ b. among q (paths_of fresh) ≡ b → has_some (package_files v q) ≡ has_some (package_files w q)) [
    | true ↦ λ is.
        let p = with_path fresh q (Contains-from_any exact_names q (paths_of fresh) is) in
        subst (λ (x : List ℕ). has_some (package_files v x) ≡ has_some (package_files w x)) p.2 (some_at p.0 p.1)
    | false ↦ λ is. sym (ap has_some (same_files (paths_of fresh) v w differs q (λ has. true≢false (sym (any_of q (paths_of fresh) has) ∙ is))))
  ] refl

  -- No package is added or removed.
  pub same_paths : package_paths v ≡ package_paths w
  same_paths = sym (paths_are w (package_paths v) (paths_sorted v) (λ q. some_before q ∙ some_same q ∙ sym (folder_found q (entries w))))

  pub packages_paths : paths_of packages ≡ package_paths w
  packages_paths = are.paths ∙ graph.paths ∙ same_paths

  stays : (p : ParsedPackage) → (Contains (paths_of fresh) p.path.items → ⊥) → package_files w p.path.items ≡ package_files v p.path.items
  stays p apart = same_files (paths_of fresh) v w differs p.path.items apart

  pub packages_files : (i : ℕ) (p : ParsedPackage) → slice_get packages i ≡ Some p → HasFiles w p
  packages_files i p at = ⊎_elim
      (λ (has : Contains fresh p). own_files p has)
      (λ (old : (slice_get before i ≡ Some p) × (Contains (paths_of fresh) p.path.items → ⊥)).
      subst (λ es. AreParsed es p.trees.items p.faulty.items) (sym (stays p old.1)) (graph.each i p old.0))
      (are.each i p at)

  -- The links stay where the packages of the changed folders keep their imports.
  module _ (rows : All (HasRow (paths_of packages) g) fresh) where
    imports_stay : (i j : ℕ) (p q : List ℕ) → slice_get (package_paths w) i ≡ Some p → slice_get (package_paths w) j ≡ Some q →
        Imports g i j ↔ PackageImports w p q
    imports_stay i j p q at_i at_j =
        let here = package_at packages i p (ap (λ l. slice_get l i) packages_paths ∙ at_i) in
        ⊎_elim
        (λ (has : Contains fresh here.0).
        let row = All-contains (HasRow (paths_of packages) g) fresh here.0 rows has i (path_at packages i here.0 here.1) in
        subst (λ (path : List ℕ). Imports g i j ↔ PackageImports w path q) here.2
        (row_imports w (paths_of packages) here.0 (row_of g i) (own_files here.0 has) row j q (ap (λ l. slice_get l j) packages_paths ∙ at_j)))
        (λ (old : (slice_get before i ≡ Some here.0) × (Contains (paths_of fresh) here.0.path.items → ⊥)).
        let same : package_files w p ≡ package_files v p = subst (λ (path : List ℕ). package_files w path ≡ package_files v path) here.2 (stays here.0 old.1) in
        let was = graph.linked.each i j p q (ap (λ l. slice_get l i) same_paths ∙ at_i) (ap (λ l. slice_get l j) same_paths ∙ at_j) in (
          λ imports. moved v w p q (sym same) (was.0 imports),
          λ imports. was.1 (moved w v p q same imports),
        ))
        (are.each i here.0 here.1)

    pub graph_stays : IsGraph w packages g
    graph_stays = record {
      paths = packages_paths;
      each = packages_files;
      linked = record {
        size = graph.linked.size ∙ ap length same_paths;
        linked = graph.linked.linked;
        each = imports_stay;
      };
      rising = graph.rising;
    }
