-- The paths that files import, collected in a set.
use Rattle.std.proofs.Common.{ℕ, ◌≡◌, ◌↔◌, ◌⊎◌, ◌∷◌, ◌++◌, [], List, inl, inr, ⊎_elim, ap, sym, subst, ◌∙◌, refl, Global, true, ◌||◌, length, arith}
use Rattle.std.specs.Prelude.{Option, Some, None, Vec}
use Rattle.std.specs.declared.cmp.Ordering.{Ordering}
use Rattle.std.specs.declared.cmp.Ordering.TheVariants.{Less, Equal, Greater}
use Rattle.std.specs.Ordering.{eq_by_cmp, match_ordering}
use Rattle.std.specs.BTreeMap.{is_at}
use Rattle.std.specs.BTreeSet.{insert_key}
use Rattle.std.specs.List.{Contains, list_any}
use Rattle.std.proofs.lemmas.List.Elements.{Contains-push, Contains-push_cases, Contains-append_left, Contains-append_right, Contains-append_cases}
use Rattle.std.proofs.lemmas.Map.Views.{Contains-from_any}
use Rattle.std.proofs.lemmas.Option.{same_Some}
use Rattle.base_lemmas.proofs.Elements.{nothing_in}
use Rattle.base_files.specs.Workspace.{path_cmp}
use Rattle.base_files.proofs.WorkspaceLaws.{path_cmp_exact}
use Rattle.go_ast.specs.SourceFile.{FileParts, source_of}
use Rattle.workspace_graph.specs.FileImports.{ListsImports}
use Rattle.workspace_graph.specs.Packages.{ImportsPath}
use Rattle.workspace_graph.specs.declared.file_imports.FileImport.{FileImport}
use Rattle.workspace_graph.proofs.Collected.{HasNumber, are_imports}
use Rattle.workspace_graph.specs.ImportPaths.{bytes_of_paths, AddsPaths, ListsPaths, AnyIsOfPath, IsPathValue}
use Rattle.workspace_graph.proofs.PackagePaths.{exact_names}
use Rattle.workspace_graph.proofs.StayingPackages.{any_of}

-- a list with one more item before it

cons_cases : (x : List ℕ) (xs : List (List ℕ)) (q : List ℕ) → Contains (x ∷ xs) q → (x ≡ q) ⊎ Contains xs q
cons_cases x xs q h = ⊎_elim
    (λ (a : Contains (x ∷ []) q). ⊎_elim (λ (n : Contains [] q). absurd (nothing_in q n)) (λ (e : x ≡ q). inl e) (Contains-push_cases [] x q a))
    (λ (b : Contains xs q). inr b)
    (Contains-append_cases (x ∷ []) xs q h)

cons_here : (x : List ℕ) (xs : List (List ℕ)) (q : List ℕ) → x ≡ q → Contains (x ∷ xs) q
cons_here x xs q e = subst (Contains (x ∷ xs)) e (Contains-append_left (x ∷ []) xs x (Contains-push [] x))

cons_there : (x : List ℕ) (xs : List (List ℕ)) (q : List ℕ) → Contains xs q → Contains (x ∷ xs) q
cons_there x xs q h = Contains-append_right (x ∷ []) xs q h

-- one more path in a set

abbrev bytes_cmp : Vec ℕ Global → Vec ℕ Global → Ordering
bytes_cmp a b = path_cmp a.items b.items

inserted : (ks : List (Vec ℕ Global)) (k : Vec ℕ Global) (q : List ℕ) →
    Contains (bytes_of_paths (insert_key bytes_cmp ks k)) q ↔ (Contains (bytes_of_paths ks) q ⊎ (k.items ≡ q))
inserted [] k q = (
  λ h. Contains-push_cases [] k.items q h,
  λ either. ⊎_elim (λ (n : Contains [] q). absurd (nothing_in q n)) (λ (e : k.items ≡ q). cons_here k.items [] q e) either,
)
inserted (x ∷ xs) k q =
    elim (path_cmp k.items x.items) as (λ order. path_cmp k.items x.items ≡ order
    → Contains (bytes_of_paths (match_ordering order (k ∷ x ∷ xs) (x ∷ xs) (x ∷ insert_key bytes_cmp xs k))) q ↔
    (Contains (x.items ∷ bytes_of_paths xs) q ⊎ (k.items ≡ q))) [
      | Less ↦ λ e. (
        λ h. ⊎_elim (λ (s : k.items ≡ q). inr s) (λ (o : Contains (x.items ∷ bytes_of_paths xs) q). inl o)
            (cons_cases k.items (x.items ∷ bytes_of_paths xs) q h),
        λ either. ⊎_elim (λ (o : Contains (x.items ∷ bytes_of_paths xs) q). cons_there k.items (x.items ∷ bytes_of_paths xs) q o)
            (λ (s : k.items ≡ q). cons_here k.items (x.items ∷ bytes_of_paths xs) q s) either,
      )
      | Equal ↦ λ e. (
        λ h. inl h,
        λ either. ⊎_elim (λ (o : Contains (x.items ∷ bytes_of_paths xs) q). o)
            (λ (s : k.items ≡ q). cons_here x.items (bytes_of_paths xs) q (sym (path_cmp_exact k.items x.items e) ∙ s)) either,
      )
      | Greater ↦ λ e. (
        λ h. ⊎_elim
            (λ (s : x.items ≡ q). inl (cons_here x.items (bytes_of_paths xs) q s))
            (λ (t : Contains (bytes_of_paths (insert_key bytes_cmp xs k)) q).
            ⊎_elim (λ (o : Contains (bytes_of_paths xs) q). inl (cons_there x.items (bytes_of_paths xs) q o)) (λ (s : k.items ≡ q). inr s)
            ((inserted xs k q).0 t))
            (cons_cases x.items (bytes_of_paths (insert_key bytes_cmp xs k)) q h),
        λ either. ⊎_elim
            (λ (o : Contains (x.items ∷ bytes_of_paths xs) q). ⊎_elim
            (λ (s : x.items ≡ q). cons_here x.items (bytes_of_paths (insert_key bytes_cmp xs k)) q s)
            (λ (t : Contains (bytes_of_paths xs) q). cons_there x.items (bytes_of_paths (insert_key bytes_cmp xs k)) q ((inserted xs k q).1 (inl t)))
            (cons_cases x.items (bytes_of_paths xs) q o))
            (λ (s : k.items ≡ q). cons_there x.items (bytes_of_paths (insert_key bytes_cmp xs k)) q ((inserted xs k q).1 (inr s)))
            either,
      )
    ] refl

pub insert_adds : (ks new : List (Vec ℕ Global)) (k v : Vec ℕ Global) (o : Option (Vec ℕ Global)) → o ≡ Some v → k.items ≡ v.items →
    new ≡ insert_key bytes_cmp ks k → AddsPaths (IsPathValue o) ks new
insert_adds ks new k v o is same e = subst (λ (z : List (Vec ℕ Global)). AddsPaths (IsPathValue o) ks z) (sym e) (record {
  each = λ q. (
    λ h. ⊎_elim (λ (a : Contains (bytes_of_paths ks) q). inl a)
        (λ (s : k.items ≡ q). inr (subst (λ (z : Option (Vec ℕ Global)). IsPathValue z q) (sym is) (sym same ∙ s))) ((inserted ks k q).0 h),
    λ either. (inserted ks k q).1 (⊎_elim
        (λ (a : Contains (bytes_of_paths ks) q). inl a)
        (λ (s : IsPathValue o q). let t : v.items ≡ q = subst (λ (z : Option (Vec ℕ Global)). IsPathValue z q) is s in inr (same ∙ t))
        either),
  );
})

-- paths that are added in turn

pub adds_none : (P : List ℕ → Type 0) (ks : List (Vec ℕ Global)) → ((q : List ℕ) → P q → ⊥) → AddsPaths P ks ks
adds_none P ks none = record { each = λ q. (λ h. inl h, λ either. ⊎_elim (λ (a : Contains (bytes_of_paths ks) q). a) (λ (s : P q). absurd (none q s)) either) }

pub adds_more : (P Q S : List ℕ → Type 0) (a b c : List (Vec ℕ Global)) → ((q : List ℕ) → S q ↔ (P q ⊎ Q q)) → AddsPaths P a b → AddsPaths Q b c →
    AddsPaths S a c
adds_more P Q S a b c are first second = record {
  each = λ q. (
    λ has. ⊎_elim
        (λ (h : Contains (bytes_of_paths b) q). ⊎_elim (λ (o : Contains (bytes_of_paths a) q). inl o) (λ (x : P q). inr ((are q).1 (inl x)))
        ((first.each q).0 h))
        (λ (y : Q q). inr ((are q).1 (inr y)))
        ((second.each q).0 has),
    λ either. (second.each q).1 (⊎_elim
        (λ (o : Contains (bytes_of_paths a) q). inl ((first.each q).1 (inl o)))
        (λ (s : S q). ⊎_elim (λ (x : P q). inl ((first.each q).1 (inr x))) (λ (y : Q q). inr y) ((are q).0 s))
        either),
  );
}

pub adds_as : (P Q : List ℕ → Type 0) (a b : List (Vec ℕ Global)) → ((q : List ℕ) → Q q ↔ P q) → AddsPaths P a b → AddsPaths Q a b
adds_as P Q a b are adds = record {
  each = λ q. (
    λ has. ⊎_elim (λ (o : Contains (bytes_of_paths a) q). inl o) (λ (x : P q). inr ((are q).1 x)) ((adds.each q).0 has),
    λ either. (adds.each q).1 (⊎_elim (λ (o : Contains (bytes_of_paths a) q). inl o) (λ (y : Q q). inr ((are q).0 y)) either),
  );
}

pub holds_none : (P : List ℕ → Type 0) (ks : List (Vec ℕ Global)) → ks ≡ [] → ((q : List ℕ) → P q → ⊥) → ListsPaths P ks
holds_none P ks e none = subst (λ (z : List (Vec ℕ Global)). ListsPaths P z) (sym e)
    (record { each = λ q. (λ h. absurd (nothing_in q h), λ s. absurd (none q s)) })

pub holds_more : (P Q S : List ℕ → Type 0) (a b : List (Vec ℕ Global)) → ((q : List ℕ) → S q ↔ (P q ⊎ Q q)) → ListsPaths P a → AddsPaths Q a b → ListsPaths S b
holds_more P Q S a b are holds adds = record {
  each = λ q. (
    λ has. (are q).1 (⊎_elim (λ (o : Contains (bytes_of_paths a) q). inl ((holds.each q).0 o)) (λ (y : Q q). inr y) ((adds.each q).0 has)),
    λ s. (adds.each q).1 (⊎_elim (λ (x : P q). inl ((holds.each q).1 x)) (λ (y : Q q). inr y) ((are q).0 s)),
  );
}

-- one more of a list
pub some_more : {X : Type 0} (R : X → List ℕ → Type 0) (xs ys : List X) (x : X) → ys ≡ xs ++ (x ∷ []) → (q : List ℕ) →
    ((y : X) × (Contains ys y × R y q)) ↔ (((y : X) × (Contains xs y × R y q)) ⊎ R x q)
some_more {X} R xs ys x e q = (
  λ w. ⊎_elim (λ (o : Contains xs w.0). inl (w.0, (o, w.1.1))) (λ (h : x ≡ w.0). inr (subst (λ (y : X). R y q) (sym h) w.1.1))
      (Contains-push_cases xs x w.0 (subst (λ (l : List X). Contains l w.0) e w.1.0)),
  λ either. ⊎_elim
      (λ (w : (y : X) × (Contains xs y × R y q)). (w.0, (subst (λ (l : List X). Contains l w.0) (sym e) (Contains-append_left xs (x ∷ []) w.0 w.1.0), w.1.1)))
      (λ (r : R x q). (x, (subst (λ (l : List X). Contains l x) (sym e) (Contains-push xs x), r)))
      either,
)

-- what a file imports, by what was read of it

number_stands : (q : List ℕ) (o : Option (Vec ℕ Global)) → HasNumber (q ∷ []) 0 o → IsPathValue o q
number_stands q None h = h
number_stands q (Some v) h = sym (same_Some q v.items h)

stands_number : (q : List ℕ) (o : Option (Vec ℕ Global)) → IsPathValue o q → HasNumber (q ∷ []) 0 o
stands_number q None h = h
stands_number q (Some v) h = ap Some (sym h)

pub imports_are : (file : FileParts) (imports : List FileImport) → ListsImports (source_of file) imports → (q : List ℕ) →
    ImportsPath (source_of file) q ↔ AnyIsOfPath imports q
imports_are file imports lists q = (
  λ i. let w = (are_imports file (q ∷ []) imports lists 0).0 (q, refl, i) in (w.0, (w.1, number_stands q w.0.path w.2)),
  λ s. let w = (are_imports file (q ∷ []) imports lists 0).1 (s.0, s.1.0, stands_number q s.0.path s.1.1) in
      subst (ImportsPath (source_of file)) (sym (same_Some q w.0 w.1)) w.2,
)

-- ---- whether a path is among those of a set
looked_for : (keys : List (Vec ℕ Global)) (path : List ℕ) →
    list_any (is_at (λ (k : Vec ℕ Global). path_cmp path k.items)) keys ≡ list_any (eq_by_cmp path_cmp path) (bytes_of_paths keys)
looked_for [] path = refl
looked_for (k ∷ ks) path = ap (λ b. eq_by_cmp path_cmp path k.items || b) (looked_for ks path)

pub paths_among : (keys : List (Vec ℕ Global)) (path : List ℕ) → list_any (is_at (λ (k : Vec ℕ Global). path_cmp path k.items)) keys ≡ true →
    Contains (bytes_of_paths keys) path
paths_among keys path found = Contains-from_any exact_names path (bytes_of_paths keys) (sym (looked_for keys path) ∙ found)

pub among_paths : (keys : List (Vec ℕ Global)) (path : List ℕ) → Contains (bytes_of_paths keys) path →
    list_any (is_at (λ (k : Vec ℕ Global). path_cmp path k.items)) keys ≡ true
among_paths keys path has = looked_for keys path ∙ any_of path (bytes_of_paths keys) has

pub none_among : (keys : List (Vec ℕ Global)) (path : List ℕ) → length keys ≡ 0 → Contains (bytes_of_paths keys) path → ⊥
none_among [] path empty has = nothing_in path has
none_among (k ∷ ks) path empty has = absurd (omega (arith, empty))
