-- The links of packages after one was inserted among them.
use Rattle.std.proofs.Common.{◌≡◌, ℕ, ◌+◌, ◌<◌, ◌≤◌, ◌^◌, ◌↔◌, List, [], length, get_or, Some, slice_get, refl, sym, ap, subst, ◌∙◌}
use Rattle.std.proofs.Common.{inl, inr, ⊎_elim, arith}
use Rattle.std.specs.List.{All, Contains, insert}
use Rattle.std.specs.List.Sorted.{IsStrictlyIncreasing}
use Rattle.std.proofs.lemmas.Bool.{cases_lt}
use Rattle.std.proofs.lemmas.List.{get_or_past, length-map}
use Rattle.std.proofs.lemmas.List.Edits.{length-insert}
use Rattle.std.proofs.lemmas.List.Elements.{All-contains, Contains-get_or}
use Rattle.std.proofs.lemmas.Option.{same_Some, slice_get-get_or, slice_get_within}
use Rattle.go_ast.specs.SourceFile.{FileParts, source_of}
use Rattle.workspace_graph.specs.Graphs.{paths_of}
use Rattle.workspace_graph.specs.Growth.{AreFirstImporters, AreGrown, AreRows, HasNewPackage, ImportsAt, IsGrowing}
use Rattle.workspace_graph.specs.ImportPaths.{AnyImports}
use Rattle.workspace_graph.specs.Imports.{LinkTable, AreImporters, AreLinked, AreImporterRows, ListsBelow, Imports, row_of}
use Rattle.workspace_graph.specs.Packages.{ImportsPath}
use Rattle.workspace_graph.specs.Rows.{IsRow, AnyImportsNumber}
use Rattle.workspace_graph.specs.Shifts.{ShiftsRow, row_shifted, shifted}
use Rattle.workspace_graph.specs.declared.package.ParsedPackage.{ParsedPackage}
use Rattle.workspace_graph.proofs.KeptImporters.{all_rising, importer_below, importers_of_all}
use Rattle.workspace_graph.proofs.Linked.{row_at, rows_count, rows_linked, rows_rising, zip_from}
use Rattle.workspace_graph.proofs.Reached.{noted_linked}
use Rattle.workspace_graph.proofs.Shifted.{insert_here, insert_shifted, shifted_cases, shifted_from, shifted_in, shifted_within}
use Rattle.workspace_graph.proofs.Numbers.{path_of_package}
use Rattle.workspace_graph.proofs.UpdatedPackages.{paths_insert}

-- ---- a row of numbers that are small
pub small_row : (row : List ℕ) (n : ℕ) → ((q : ℕ) → Contains row q → q < n) → n < 2 ^ 64 → All (λ number. number + 1 < 2 ^ 64) row
small_row row n below small k d lt =
    let h = below (get_or row k d) (Contains-get_or row k d lt) in omega (arith, h, small)

-- ---- the imports of files after a path was inserted
module _ (ks : List (List ℕ)) (place : ℕ) (path : List ℕ) (files : List FileParts) (within : place ≤ length ks) where
  pub some_shifted : (i : ℕ) → AnyImportsNumber (insert ks place path) files (shifted place i) ↔ AnyImportsNumber ks files i
  some_shifted i = (
    λ s. (s.0, s.1, (s.2.0, sym (insert_shifted ks place path i within) ∙ s.2.1, s.2.2)),
    λ s. (s.0, s.1, (s.2.0, insert_shifted ks place path i within ∙ s.2.1, s.2.2)),
  )

  -- A package imports the package at the place exactly if it imports the path.
  some_here : (j : ℕ) → j ≡ place → AnyImportsNumber (insert ks place path) files j → AnyImports files path
  some_here j here s =
      let same = same_Some s.2.0 path (sym s.2.1 ∙ ap (slice_get (insert ks place path)) here ∙ insert_here ks place path within) in
      (s.0, (s.1, subst (ImportsPath (source_of s.0)) same s.2.2))

  -- A row has the place exactly if the path is imported.
  pub row_grown : (row new : List ℕ) (P : Type 0) → IsRow ks files row → ShiftsRow place P row new → (P ↔ AnyImports files path) →
      IsRow (insert ks place path) files new
  row_grown row new P is shifts told = record {
    each = λ j. (
      λ has. ⊎_elim
          (λ (own : (j ≡ place) × P).
          let some = told.0 own.1 in
          (some.0, some.1.0, (path, ap (slice_get (insert ks place path)) own.0 ∙ insert_here ks place path within, some.1.1)))
          (λ (old : Contains (row_shifted place row) j).
          let from = shifted_from place row j old in
          subst (AnyImportsNumber (insert ks place path) files) from.2 ((some_shifted from.0).1 ((is.each from.0).0 from.1)))
          ((shifts.each j).0 has),
      λ some. (shifts.each j).1 (⊎_elim
          (λ (here : j ≡ place). inl (here, told.1 (some_here j here some)))
          (λ (r : (i : ℕ) × (shifted place i ≡ j)). inr (subst (Contains (row_shifted place row)) r.1
          (shifted_in place row r.0 ((is.each r.0).1 ((some_shifted r.0).0 (subst (AnyImportsNumber (insert ks place path) files) (sym r.1) some))))))
          (shifted_cases place j)),
    );
    rising = shifts.rising is.rising;
  }

-- ---- packages after one was inserted
module _ (packages : List ParsedPackage) (links : LinkTable) (place : ℕ) (grows : HasNewPackage packages links place) where
  abbrev ks : List (List ℕ)
  ks = paths_of grows.before

  abbrev path : List ℕ
  path = grows.one.path.items

  pub paths_are : paths_of packages ≡ insert ks place path
  paths_are = ap paths_of grows.put ∙ paths_insert path_of_package grows.before place grows.one

  ks_size : length ks ≡ length grows.before
  ks_size = length-map grows.before (λ (p : ParsedPackage). p.path.items)

  pub ks_within : place ≤ length ks
  ks_within = omega (arith, ks_size, grows.within)

  pub one_more : length packages ≡ length links + 1
  one_more = ap length grows.put ∙ length-insert grows.before place grows.one grows.within ∙ ap (λ n. n + 1) (sym (rows_count grows.before links grows.rows))

  pub place_inside : place < length packages
  place_inside = let count = rows_count grows.before links grows.rows in omega (arith, one_more, count, grows.within)

  pub links_linked : AreLinked links
  links_linked = rows_linked grows.before links grows.rows

  pub links_rising : (p : ℕ) → IsStrictlyIncreasing (row_of links p)
  links_rising = all_rising links (rows_rising grows.before links grows.rows)

  pub imports_below : (p q : ℕ) → Imports links p q → q < length links
  imports_below p q h = All-contains (λ q. q < length links) (row_of links p) q (links_linked p [] (importer_below links p q h)) h

  -- The path of the new package belongs at the place.
  pub place_path : slice_get (paths_of packages) place ≡ Some path
  place_path = ap (λ l. slice_get l place) paths_are ∙ insert_here ks place path ks_within

  pub place_one : slice_get packages place ≡ Some grows.one
  place_one = ap (λ l. slice_get l place) grows.put ∙ insert_here grows.before place grows.one grows.within

  pub package_shifted : (i : ℕ) → slice_get packages (shifted place i) ≡ slice_get grows.before i
  package_shifted i = ap (λ l. slice_get l (shifted place i)) grows.put ∙ insert_shifted grows.before place grows.one i grows.within

  pub before_inside : (number before : ℕ) → shifted place before ≡ number → number < length packages → before < length links
  before_inside number before is lt =
      let count = rows_count grows.before links grows.rows in
      shifted_within place before (length links) (omega (arith, count, grows.within)) (omega (arith, is, lt, one_more))

  -- The rows after the insertion are those of the packages.
  pub rows_grown : (own importing : List ℕ) (new : LinkTable) → AreGrown place own importing links new → length new ≡ length links + 1 →
      ((p : ParsedPackage) → slice_get packages place ≡ Some p → IsRow (paths_of packages) p.trees.items own) →
      ListsBelow (ImportsAt packages path) (length packages) importing → AreRows packages new
  rows_grown own importing new grown count own_is holds =
      zip_from (λ p row. IsRow (paths_of packages) p.trees.items row) packages new [] (one_more ∙ sym count)
      (λ j p at.
      let inside : j < length new = (let lt = slice_get_within packages j p at in omega (arith, lt, one_more, count)) in
      ⊎_elim
      (λ (here : j ≡ place).
      let there : place < length new = omega (arith, here, inside) in
      subst (λ l. IsRow (paths_of packages) p.trees.items l) (sym (ap (row_of new) here ∙ grown.own_row there))
      (own_is p (ap (slice_get packages) (sym here) ∙ at)))
      (λ (r : (q : ℕ) × (shifted place q ≡ j)). old_row own importing new grown holds j p at inside r.0 r.1)
      (shifted_cases place j))
    where
      old_row : (own importing : List ℕ) (new : LinkTable) → AreGrown place own importing links new →
          ListsBelow (ImportsAt packages path) (length packages) importing →
          (j : ℕ) (p : ParsedPackage) → slice_get packages j ≡ Some p → j < length new → (q : ℕ) → shifted place q ≡ j →
          IsRow (paths_of packages) p.trees.items (row_of new j)
      old_row own importing new grown holds j p at inside q is =
          let was : slice_get grows.before q ≡ Some p = sym (package_shifted q) ∙ ap (slice_get packages) is ∙ at in
          let shifts = grown.each q (omega (arith, is, inside)) in
          let told : Contains importing (shifted place q) ↔ AnyImports p.trees.items path = (
            λ has.
                let r = ((holds.each j).0 (subst (Contains importing) is has)).1 in
                subst (λ (x : ParsedPackage). AnyImports x.trees.items path) (same_Some r.0 p (sym r.1.0 ∙ at)) r.1.1,
            λ some. subst (Contains importing) (sym is) ((holds.each j).1 (slice_get_within packages j p at, (p, (at, some)))),
          ) in
          subst (λ k. IsRow (paths_of packages) p.trees.items (row_of new k)) is
          (subst (λ l. IsRow l p.trees.items (row_of new (shifted place q))) (sym paths_are)
          (row_grown ks place path p.trees.items ks_within (row_of links q) (row_of new (shifted place q)) (Contains importing (shifted place q))
          (row_at grows.before links grows.rows q p was) shifts told))

  -- The requirements on the rows before the insertion, and on the importers.
  pub growing_imports : (importing : List ℕ) → ListsBelow (ImportsAt packages path) (length packages) importing → IsGrowing links place importing
  growing_imports importing holds = record {
    within = omega (arith, place_inside, one_more);
    numbers = links_linked;
    rising = holds.rising;
    inside = λ k d lt. (let h = ((holds.each (get_or importing k d)).0 (Contains-get_or importing k d lt)).0 in omega (arith, h, one_more));
  }

  pub growing_importers : (noted : LinkTable) (own : List ℕ) (p : ParsedPackage) → AreImporterRows links (length links) noted →
      IsRow (paths_of packages) p.trees.items own → IsGrowing noted place own
  growing_importers noted own p held is = record {
    within = omega (arith, place_inside, one_more, held.size);
    numbers = noted_linked links noted links_linked held;
    rising = is.rising;
    inside = λ k d lt.
        let some = (is.each (get_or own k d)).0 (Contains-get_or own k d lt) in
        let h = slice_get_within (paths_of packages) (get_or own k d) some.2.0 some.2.1 in
        let size = length-map packages (λ (x : ParsedPackage). x.path.items) in
        omega (arith, h, size, one_more, held.size);
  }

  module _ (g : LinkTable) (rows : AreRows packages g) where
    -- A package keeps its imports, by shifted numbers.
    same_imports : (p q : ℕ) (x : ParsedPackage) → slice_get grows.before p ≡ Some x → Imports g (shifted place p) (shifted place q) ↔ Imports links p q
    same_imports p q x at =
        let old = row_at grows.before links grows.rows p x at in
        let new = row_at packages g rows (shifted place p) x (package_shifted p ∙ at) in (
          λ h. (old.each q).1 ((some_shifted ks place path x.trees.items ks_within q).0
              (subst (λ l. AnyImportsNumber l x.trees.items (shifted place q)) paths_are ((new.each (shifted place q)).0 h))),
          λ h. (new.each (shifted place q)).1 (subst (λ l. AnyImportsNumber l x.trees.items (shifted place q)) (sym paths_are)
              ((some_shifted ks place path x.trees.items ks_within q).1 ((old.each q).0 h))),
        )

    was_there : (p : ℕ) → p < length links → slice_get grows.before p ≡ Some (get_or grows.before p grows.one)
    was_there p lt = let count = rows_count grows.before links grows.rows in slice_get-get_or grows.before p grows.one (omega (arith, lt, count))

    pub imports_shifted : (p q : ℕ) → Imports g (shifted place p) (shifted place q) ↔ Imports links p q
    imports_shifted p q = (
      λ h.
          let now = importer_below g (shifted place p) (shifted place q) h in
          let size = rows_count packages g rows in
          let lt = before_inside (shifted place p) p refl (omega (arith, now, size)) in
          (same_imports p q (get_or grows.before p grows.one) (was_there p lt)).0 h,
      λ h.
          let lt = importer_below links p q h in
          (same_imports p q (get_or grows.before p grows.one) (was_there p lt)).1 h,
    )

    -- The importers of a package are those before, shifted, and the new package if it imports the package.
    importers_shifted : (number before : ℕ) (P : Type 0) (found row : List ℕ) → shifted place before ≡ number → AreImporters links before found →
        ShiftsRow place P found row → (P ↔ Imports g place number) → AreImporters g number row
    importers_shifted number before P found row is are shifts told p = (
      λ has. ⊎_elim
          (λ (own : (p ≡ place) × P). subst (λ k. Imports g k number) (sym own.0) (told.0 own.1))
          (λ (old : Contains (row_shifted place found) p).
          let from = shifted_from place found p old in
          subst (λ k. Imports g k number) from.2
          (subst (Imports g (shifted place from.0)) is ((imports_shifted from.0 before).1 ((are from.0).0 from.1))))
          ((shifts.each p).0 has),
      λ imports. (shifts.each p).1 (⊎_elim
          (λ (here : p ≡ place). inl (here, told.1 (subst (λ k. Imports g k number) here imports)))
          (λ (r : (i : ℕ) × (shifted place i ≡ p)). inr (subst (Contains (row_shifted place found)) r.1
          (shifted_in place found r.0 ((are r.0).1 ((imports_shifted r.0 before).0
          (subst (Imports g (shifted place r.0)) (sym is) (subst (λ k. Imports g k number) (sym r.1) imports)))))))
          (shifted_cases place p)),
    )

    -- The importers of the new package are the packages that import its path.
    importers_found : (found : List ℕ) → ListsBelow (ImportsAt packages path) (length packages) found → AreImporters g place found
    importers_found found holds p = (
      λ has.
          let r = ((holds.each p).0 has).1 in
          ((row_at packages g rows p r.0 r.1.0).each place).1 (r.1.1.0, r.1.1.1.0, (path, place_path, r.1.1.1.1)),
      λ imports.
          let size = rows_count packages g rows in
          let lt : p < length packages = omega (arith, importer_below g p place imports, size) in
          let x = get_or packages p grows.one in
          let at = slice_get-get_or packages p grows.one lt in
          let some = ((row_at packages g rows p x at).each place).0 imports in
          let same = same_Some some.2.0 path (sym some.2.1 ∙ place_path) in
          (holds.each p).1 (lt, (x, (at, (some.0, (some.1, subst (ImportsPath (source_of some.0)) same some.2.2))))),
    )

    -- The importers after the insertion are those of the rows after it.
    pub importers_grown : (noted new : LinkTable) (own importing : List ℕ) → AreImporterRows links (length links) noted →
        AreGrown place importing own noted new →
        length new ≡ length noted + 1 → own ≡ row_of g place → ListsBelow (ImportsAt packages path) (length packages) importing →
        AreFirstImporters g (length g) new
    importers_grown noted new own importing held grown count own_is holds =
        let size = rows_count packages g rows in
        let all : length new ≡ length g = omega (arith, count, held.size, size, one_more) in
        record {
          size = all;
          each = λ number lt. ⊎_elim
              (λ (here : number ≡ place).
              subst (AreImporters g number) (sym (ap (row_of new) here ∙ grown.own_row (omega (arith, here, lt, all))))
              (subst (λ k. AreImporters g k importing) (sym here) (importers_found importing holds)))
              (λ (r : (q : ℕ) × (shifted place q ≡ number)).
              let inside : shifted place r.0 < length new = omega (arith, r.1, lt, all) in
              subst (λ k. AreImporters g k (row_of new k)) r.1
              (importers_shifted (shifted place r.0) r.0 (Contains own (shifted place r.0)) (row_of noted r.0) (row_of new (shifted place r.0)) refl
              (importers_of_all links noted held r.0) (grown.each r.0 inside)
              (λ has. subst (λ l. Contains l (shifted place r.0)) own_is has, λ has. subst (λ l. Contains l (shifted place r.0)) (sym own_is) has)))
              (shifted_cases place number);
          rising = λ number lt. ⊎_elim
              (λ (here : number ≡ place).
              subst IsStrictlyIncreasing (sym (ap (row_of new) here ∙ grown.own_row (omega (arith, here, lt, all)))) holds.rising)
              (λ (r : (q : ℕ) × (shifted place q ≡ number)).
              let inside : shifted place r.0 < length new = omega (arith, r.1, lt, all) in
              subst (λ k. IsStrictlyIncreasing (row_of new k)) r.1 ((grown.each r.0 inside).rising (held.rising links_rising r.0)))
              (shifted_cases place number);
        }

-- ---- importers of all
pub first_all : (g importers : LinkTable) → AreLinked g → AreFirstImporters g (length g) importers → AreImporterRows g (length g) importers
first_all g importers linked so = record {
  size = so.size;
  each = λ q p. ⊎_elim
      (λ (lt : q < length g). (
        λ has. let imports = (so.each q lt p).0 has in (importer_below g p q imports, imports),
        λ w. (so.each q lt p).1 w.1,
      ))
      (λ (ge : length g ≤ q). (
        λ has.
            let none : Contains [] p = subst (λ (l : List ℕ). Contains l p) (past q ge) has in
            absurd (omega (arith, none.1)),
        λ w.
            let lt = All-contains (λ k. k < length g) (row_of g p) q (linked p [] w.0) w.1 in
            absurd (omega (arith, lt, ge)),
      ))
      (cases_lt q (length g));
  rising = λ up q. ⊎_elim
      (λ (lt : q < length g). so.rising q lt)
      (λ (ge : length g ≤ q). subst IsStrictlyIncreasing (sym (past q ge)) (λ k less. absurd (omega (arith, less))))
      (cases_lt q (length g));
}
  where
    past : (q : ℕ) → length g ≤ q → row_of importers q ≡ []
    past q ge = get_or_past importers q [] (omega (arith, ge, so.size))
