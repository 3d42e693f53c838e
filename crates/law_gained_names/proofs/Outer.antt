-- No fault of package clauses or imports comes where an import gets the name that it declared already.
use Rattle.std.proofs.Common.{ℕ, ◌≡◌, ◌+◌, ◌⊎◌, inl, inr, List, [], ◌∷◌, ◌++◌, map, refl, sym, ap, ◌∙◌, subst}
use Rattle.std.specs.List.{enumerate_from, flat_map}
use Rattle.std.proofs.lemmas.List.{map-append}
use Rattle.go_ast.specs.SourceFile.{SourceFile, spelling_of}
use Rattle.go_ast.specs.Tree.{FileTree, Group, ImportTree, ImportsTree, Item, several, single}
use Rattle.law_rename.specs.Around.{AroundImport, AroundItem, alone, among, around_by, bare_import, file_with, from_on, group_with, import_with_name}
use Rattle.law_rename.specs.Around.{imports_with, item_around_by}
use Rattle.law_rename.specs.Gained.{Gain}
use Rattle.law_rename.specs.Renumbered.{group_by, import_by, imports_by, items_by}
use Rattle.law_rename.proofs.Spelling.{from_itself}
use Rattle.types_declared.specs.declared.fault.Fault.{Fault}
use Rattle.types_declared.specs.declared.states.ImportState.{ImportState}
use Rattle.types_declared.specs.Files.{HasLiteral, clause_name, group_items, imports_in, package_name}
use Rattle.types_declared.specs.Listing.{IsOfSomeItem}
use Rattle.types_declared.specs.Package.{Package}
use Rattle.types_resolve.specs.Clauses.{IsClauseFault, IsFaultOfClause}
use Rattle.types_resolve.specs.Imports.{IsFaultOfImport, IsFaultOfState, IsImportFault, placed_imports}
use Rattle.law_gained_names.specs.GainedName.{IsGainedAt, NoClauseFaultComes, NoImportFaultComes}

-- the paths of imports

abbrev paths : List ImportTree → List ℕ
paths is = map (λ (x : ImportTree). x.path) is

abbrev values : List (Item ImportTree) → List ImportTree
values xs = map (λ (x : Item ImportTree). x.value) xs

abbrev own : ImportsTree → List ImportTree
own d = group_items d.imports

module _ (g : ℕ → ℕ) where
  both : (xs ys us vs : List ImportTree) → paths us ≡ map g (paths xs) → paths vs ≡ map g (paths ys) → paths (us ++ vs) ≡ map g (paths (xs ++ ys))
  both xs ys us vs one two =
      map-append (λ (x : ImportTree). x.path) us vs ∙ (λ j. one j ++ two j) ∙ sym (map-append g (paths xs) (paths ys))
      ∙ sym (ap (map g) (map-append (λ (x : ImportTree). x.path) xs ys))

  items_paths : (xs : List (Item ImportTree)) → paths (values (items_by g (import_by g) xs)) ≡ map g (paths (values xs))
  items_paths [] = refl
  items_paths (x ∷ xs) = ap (λ ns. g x.value.path ∷ ns) (items_paths xs)

  group_paths : (x : Group ImportTree) → paths (group_items (group_by g (import_by g) x)) ≡ map g (paths (group_items x))
  group_paths (single x) = refl
  group_paths (several o xs c) = items_paths xs

  flat_paths : (ds : List ImportsTree) → paths (flat_map own (map (imports_by g) ds)) ≡ map g (paths (flat_map own ds))
  flat_paths [] = refl
  flat_paths (d ∷ ds) =
      both (own d) (flat_map own ds) (own (imports_by g d)) (flat_map own (map (imports_by g) ds)) (group_paths d.imports) (flat_paths ds)

  module _ (one two : ImportTree) (same : two.path ≡ g one.path) where
    among_paths : (before : List (Item ImportTree)) (x y : Item ImportTree) (after : List (Item ImportTree)) → x.value ≡ one → y.value ≡ two →
        paths (values (items_by g (import_by g) before ++ y ∷ items_by g (import_by g) after)) ≡ map g (paths (values (before ++ x ∷ after)))
    among_paths [] x y after is also =
        (λ j. (ap (λ (z : ImportTree). z.path) also ∙ same ∙ sym (ap (λ (z : ImportTree). g z.path) is)) j ∷ items_paths after j)
    among_paths (b ∷ before) x y after is also = ap (λ ns. g b.value.path ∷ ns) (among_paths before x y after is also)

    item_paths : (a : AroundItem) → paths (group_items (group_with two (item_around_by g a))) ≡ map g (paths (group_items (group_with one a)))
    item_paths alone = ap (λ n. n ∷ []) same
    item_paths (among o before separator after c) =
        among_paths before (record { value = one; separator = separator }) _ after refl refl

    before_paths : (a : AroundImport) (ds : List ImportsTree) →
        paths (flat_map own (map (imports_by g) ds ++ imports_with two (around_by g a) ∷ map (imports_by g) a.after)) ≡
        map g (paths (flat_map own (ds ++ imports_with one a ∷ a.after)))
    before_paths a [] =
        both (own (imports_with one a)) (flat_map own a.after) (own (imports_with two (around_by g a))) (flat_map own (map (imports_by g) a.after))
        (item_paths a.item) (flat_paths a.after)
    before_paths a (d ∷ ds) =
        both (own d) (flat_map own (ds ++ imports_with one a ∷ a.after)) (own (imports_by g d))
        (flat_map own (map (imports_by g) ds ++ imports_with two (around_by g a) ∷ map (imports_by g) a.after)) (group_paths d.imports) (before_paths a ds)

    tree_paths : (a : AroundImport) → paths (imports_in (file_with two (around_by g a))) ≡ map g (paths (imports_in (file_with one a)))
    tree_paths a = before_paths a a.before

-- faults by the paths

record PathFault (state : List ℕ → ImportState) (file : ℕ) (s : SourceFile) (n : ℕ) (f : Fault) : Type 0 where
  path : List ℕ
  has_path : HasLiteral s n path
  of_state : IsFaultOfState file n (state path) f

module _ (state : List ℕ → ImportState) (file : ℕ) where
  to_paths : (s : SourceFile) (is : List ImportTree) (f : Fault) → IsOfSomeItem (IsFaultOfImport state) (map (λ i. ((file, s), i)) is) f →
      IsOfSomeItem (PathFault state file s) (paths is) f
  to_paths s [] f x = x
  to_paths s (i ∷ is) f (inl x) = inl (record { path = x.path; has_path = x.has_path; of_state = x.of_state })
  to_paths s (i ∷ is) f (inr x) = inr (to_paths s is f x)

  from_paths : (s : SourceFile) (is : List ImportTree) (f : Fault) → IsOfSomeItem (PathFault state file s) (paths is) f →
      IsOfSomeItem (IsFaultOfImport state) (map (λ i. ((file, s), i)) is) f
  from_paths s [] f x = x
  from_paths s (i ∷ is) f (inl x) = inl (record { path = x.path; has_path = x.has_path; of_state = x.of_state })
  from_paths s (i ∷ is) f (inr x) = inr (from_paths s is f x)

  paths_back : (g : ℕ → ℕ) (before after : SourceFile) → ((n : ℕ) (path : List ℕ) → HasLiteral after (g n) path → HasLiteral before n path) →
      (ns : List ℕ) (f : Fault) → IsOfSomeItem (PathFault state file after) (map g ns) f → (f : Fault) × IsOfSomeItem (PathFault state file before) ns f
  paths_back g before after same [] f x = absurd x
  paths_back g before after same (n ∷ ns) f (inl x) = (
    record { file = file; token = n; kind = f.kind },
    inl (record {
      path = x.path;
      has_path = same n x.path x.has_path;
      of_state = record { in_file = refl; at_token = refl; kind = x.of_state.kind };
    }),
  )
  paths_back g before after same (n ∷ ns) f (inr x) = let found = paths_back g before after same ns f x in (found.0, inr found.1)

-- some of two lists

module _ {X : Type 0} (Q : X → Fault → Type 0) where
  some_split : (xs ys : List X) (f : Fault) → IsOfSomeItem Q (xs ++ ys) f → IsOfSomeItem Q xs f ⊎ IsOfSomeItem Q ys f
  some_split [] ys f h = inr h
  some_split (x ∷ xs) ys f (inl h) = inl (inl h)
  some_split (x ∷ xs) ys f (inr h) = elim (some_split xs ys f h) [ inl k ↦ inl (inr k) | inr k ↦ inr k ]

  some_front : (xs ys : List X) (f : Fault) → IsOfSomeItem Q xs f → IsOfSomeItem Q (xs ++ ys) f
  some_front [] ys f h = absurd h
  some_front (x ∷ xs) ys f (inl h) = inl h
  some_front (x ∷ xs) ys f (inr h) = inr (some_front xs ys f h)

  some_back : (xs ys : List X) (f : Fault) → IsOfSomeItem Q ys f → IsOfSomeItem Q (xs ++ ys) f
  some_back [] ys f h = h
  some_back (x ∷ xs) ys f h = inr (some_back xs ys f h)

-- the files

module _ (before after : SourceFile) where
  module _ (name : List ℕ) (same : clause_name after ≡ clause_name before) (rest : List SourceFile) where
    clauses_back : (k : ℕ) (first : List SourceFile) (f : Fault) → IsOfSomeItem (IsFaultOfClause name) (enumerate_from k (first ++ after ∷ rest)) f →
        (f : Fault) × IsOfSomeItem (IsFaultOfClause name) (enumerate_from k (first ++ before ∷ rest)) f
    clauses_back k [] f (inl x) = (_, inl (record { at = refl; differs = λ e. x.differs (same ∙ e) }))
    clauses_back k [] f (inr x) = (f, inr x)
    clauses_back k (s ∷ first) f (inl x) = (f, inl x)
    clauses_back k (s ∷ first) f (inr x) = let found = clauses_back (k + 1) first f x in (found.0, inr found.1)

  module _ (state : List ℕ → ImportState) (g : ℕ → ℕ) (same : (n : ℕ) (path : List ℕ) → HasLiteral after (g n) path → HasLiteral before n path)
      (numbers : paths (imports_in after.tree) ≡ map g (paths (imports_in before.tree))) (rest : List SourceFile) where
    imports_back : (k : ℕ) (first : List SourceFile) (f : Fault) →
        IsOfSomeItem (IsFaultOfImport state) (flat_map placed_imports (enumerate_from k (first ++ after ∷ rest))) f →
        (f : Fault) × IsOfSomeItem (IsFaultOfImport state) (flat_map placed_imports (enumerate_from k (first ++ before ∷ rest))) f
    imports_back k [] f x =
        let more = flat_map placed_imports (enumerate_from (k + 1) rest) in
        elim (some_split (IsFaultOfImport state) (placed_imports (k, after)) more f x) [
          | inl y ↦
              let found = paths_back state k g before after same (paths (imports_in before.tree)) f
              (subst (λ ns. IsOfSomeItem (PathFault state k after) ns f) numbers (to_paths state k after (imports_in after.tree) f y)) in (
                found.0,
                some_front (IsFaultOfImport state) (placed_imports (k, before)) more found.0
                    (from_paths state k before (imports_in before.tree) found.0 found.1),
              )
          | inr y ↦ (f, some_back (IsFaultOfImport state) (placed_imports (k, before)) more f y)
        ]
    imports_back k (s ∷ first) f x =
        let was = flat_map placed_imports (enumerate_from (k + 1) (first ++ before ∷ rest)) in
        let now = flat_map placed_imports (enumerate_from (k + 1) (first ++ after ∷ rest)) in
        elim (some_split (IsFaultOfImport state) (placed_imports (k, s)) now f x) [
          | inl y ↦ (f, some_front (IsFaultOfImport state) (placed_imports (k, s)) was f y)
          | inr y ↦
              let found = imports_back (k + 1) first f y in (found.0, some_back (IsFaultOfImport state) (placed_imports (k, s)) was found.0 found.1)
        ]

module _ (i : Gain) (at : ℕ) (p q : Package) (h : IsGainedAt i at p q) where
  same_clause : clause_name h.named.file.after ≡ clause_name h.named.file.before
  same_clause =
      ap (λ (t : FileTree). spelling_of h.named.file.after t.name) h.named.file.named ∙ h.named.file.spelled h.named.file.around.name
      ∙ sym (ap (λ (t : FileTree). spelling_of h.named.file.before t.name) h.named.file.bare)

  same_numbers : paths (imports_in h.named.file.after.tree) ≡ map (from_on i.number) (paths (imports_in h.named.file.before.tree))
  same_numbers =
      ap (λ (t : FileTree). paths (imports_in t)) h.named.file.named
      ∙ tree_paths (from_on i.number) (bare_import i.number) (import_with_name i.number) (sym (from_itself i.number)) h.named.file.around
      ∙ sym (ap (λ (t : FileTree). map (from_on i.number) (paths (imports_in t))) h.named.file.bare)

  clause_back : (f : Fault) → IsClauseFault q.files f → (f : Fault) × IsClauseFault p.files f
  clause_back f x =
      let name = package_name p.files in
      let renamed = subst (λ n. IsOfSomeItem (IsFaultOfClause n) (enumerate_from 0 q.files) f) h.keeps.name x in
      let found = clauses_back h.named.file.before h.named.file.after name same_clause h.named.file.rest 0 h.named.file.first f
      (subst (λ fs. IsOfSomeItem (IsFaultOfClause name) (enumerate_from 0 fs) f) h.named.file.after_files renamed) in
      (found.0, subst (λ fs. IsOfSomeItem (IsFaultOfClause name) (enumerate_from 0 fs) found.0) (sym h.named.file.before_files) found.1)

  import_back : (state : List ℕ → ImportState) (f : Fault) → IsImportFault state q.files f → (f : Fault) × IsImportFault state p.files f
  import_back state f x =
      let found = imports_back h.named.file.before h.named.file.after state (from_on i.number) (λ n path l. (h.literals.values n path).1 l) same_numbers
      h.named.file.rest 0 h.named.file.first f (subst (λ fs. IsImportFault state fs f) h.named.file.after_files x) in
      (found.0, subst (λ fs. IsImportFault state fs found.0) (sym h.named.file.before_files) found.1)

pub no_clause_fault_comes : NoClauseFaultComes
no_clause_fault_comes i at p q h none f x = let found = clause_back i at p q h f x in none found.0 found.1

pub no_import_fault_comes : NoImportFaultComes
no_import_fault_comes i at p q h state none f x = let found = import_back i at p q h state f x in none found.0 found.1
