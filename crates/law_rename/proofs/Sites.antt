-- The identifiers of a file in which an import without a name gains one.
use Rattle.std.proofs.Common.{ℕ, ◌≡◌, ◌+◌, List, [], ◌∷◌, ◌++◌, Some, length, map, refl, sym, ap, ◌∙◌, true, eq-eqb, append_assoc, append-nil}
use Rattle.std.specs.Prelude.{cond, nat_eq, slice_get}
use Rattle.std.specs.List.{flat_map}
use Rattle.std.proofs.lemmas.Grind.{flat_map-append}
use Rattle.go_scanner.specs.CutText.{tokens_in}
use Rattle.go_scope.specs.declared.model.Role.TheVariants.{NotLexical}
use Rattle.go_scope.specs.declared.model.Purpose.TheVariants as purpose
use Rattle.go_scope.specs.Site.{Site, TokenSpellings, site}
use Rattle.go_scope.specs.ExpressionSites.{list_sites}
use Rattle.go_scope.specs.StatementSites.{separated_sites, group_sites}
use Rattle.go_scope.specs.FileSites.{spec_sites, import_sites, imports_sites, decl_sites, file_sites}
use Rattle.go_ast.specs.Tree.{ImportTree, ImportsTree}
use Rattle.law_rename.specs.Renumbered.{import_by, imports_by, decl_by}
use Rattle.law_rename.specs.Around.{AroundImport, AroundItem, alone, among, around_by, bare_import, file_with, from_on, group_with, imports_with}
use Rattle.law_rename.specs.Around.{item_around_by}
use Rattle.law_rename.specs.Around.{import_with_name}
use Rattle.law_rename.specs.Named.{MayPut, NamePut, before_put, literal_piece}
use Rattle.law_rename.specs.MovedSites.{moved_site}
use Rattle.law_rename.proofs.MovedFiles.{all_moved, both, decl_moved, import_moved, imports_moved, list_moved}
use Rattle.law_rename.specs.Gained.{Gain, HasGained, named_file, bare_file, gain_of, import_site, moved_by, path_site, sites_in, unnamed_site}
use Rattle.law_rename.proofs.Spelling.{from_itself, spelled_kept, spelled_literal, spelled_name}

-- a file's identifiers before those of an import, and behind them

abbrev left_item : TokenSpellings → AroundItem → List Site
left_item s alone = []
left_item s (among o before separator after c) = list_sites (import_sites s) before

abbrev right_item : TokenSpellings → AroundItem → List Site
right_item s alone = []
right_item s (among o before separator after c) = list_sites (import_sites s) after

abbrev left : TokenSpellings → AroundImport → List Site
left s a = site s a.name (NotLexical purpose.PackageClause) ∷ (flat_map (imports_sites s) a.before ++ left_item s a.item)

abbrev right : TokenSpellings → AroundImport → List Site
right s a = right_item s a.item ++ (flat_map (imports_sites s) a.after ++ flat_map (decl_sites s) a.decls)

group_split : (s : TokenSpellings) (i : ImportTree) (x : AroundItem) →
    spec_sites (import_sites s) (group_with i x) ≡ left_item s x ++ (import_sites s i ++ right_item s x)
unfolding group_sites separated_sites
group_split s i alone = sym (append-nil (import_sites s i))
group_split s i (among o before separator after c) =
    flat_map-append (λ x. import_sites s x.value) before (record { value = i; separator = separator } ∷ after)

file_split : (s : TokenSpellings) (i : ImportTree) (a : AroundImport) → file_sites s (file_with i a) ≡ left s a ++ (import_sites s i ++ right s a)
unfolding file_sites imports_sites
file_split s i a =
    let front : List Site = flat_map (imports_sites s) a.before in
    let after : List Site = flat_map (imports_sites s) a.after in
    let decls : List Site = flat_map (decl_sites s) a.decls in
    let here : List Site = imports_sites s (imports_with i a) in
    ap (λ l. site s a.name (NotLexical purpose.PackageClause) ∷ l)
    (ap (λ l. l ++ decls) (flat_map-append (imports_sites s) a.before (imports_with i a ∷ a.after)) ∙ append_assoc front (here ++ after) decls
    ∙ ap (λ l. front ++ l) (append_assoc here after decls ∙ ap (λ l. l ++ (after ++ decls)) (group_split s i a.item)
    ∙ append_assoc (left_item s a.item) (import_sites s i ++ right_item s a.item) (after ++ decls)
    ∙ ap (λ l. left_item s a.item ++ l) (append_assoc (import_sites s i) (right_item s a.item) (after ++ decls)))
    ∙ sym (append_assoc front (left_item s a.item) (import_sites s i ++ right s a)))

-- the same with other numbers

module _ (move : ℕ → ℕ → ℕ) (rank : ℕ) (old new : ℕ → List ℕ) (same : (n : ℕ) → new (move rank n) ≡ old n) where
  abbrev source : (ℕ → List ℕ) → TokenSpellings
  source spell = record { rank = rank; spell = spell }

  left_item_moved : (x : AroundItem) → left_item (source new) (item_around_by (move rank) x) ≡ map (moved_site move) (left_item (source old) x)
  left_item_moved alone = refl
  left_item_moved (among o before separator after c) =
      list_moved move rank old new same (import_sites (source old)) (import_sites (source new)) (import_by (move rank))
      (import_moved move rank old new same) before

  right_item_moved : (x : AroundItem) → right_item (source new) (item_around_by (move rank) x) ≡ map (moved_site move) (right_item (source old) x)
  right_item_moved alone = refl
  right_item_moved (among o before separator after c) =
      list_moved move rank old new same (import_sites (source old)) (import_sites (source new)) (import_by (move rank))
      (import_moved move rank old new same) after

  groups_moved : (xs : List ImportsTree) →
      flat_map (imports_sites (source new)) (map (imports_by (move rank)) xs) ≡ map (moved_site move) (flat_map (imports_sites (source old)) xs)
  groups_moved xs = all_moved move rank old new same (imports_sites (source old)) (imports_sites (source new)) (imports_by (move rank))
      (imports_moved move rank old new same) xs

  left_moved : (a : AroundImport) → left (source new) (around_by (move rank) a) ≡ map (moved_site move) (left (source old) a)
  left_moved a =
      let rest = both move rank old new same (flat_map (imports_sites (source old)) a.before) (left_item (source old) a.item) (groups_moved a.before)
      (left_item_moved a.item) in
      λ i. record { place = record { file = rank; index = move rank a.name }; name = same a.name i; role = NotLexical purpose.PackageClause } ∷ rest i

  right_moved : (a : AroundImport) → right (source new) (around_by (move rank) a) ≡ map (moved_site move) (right (source old) a)
  right_moved a =
      let decls = all_moved move rank old new same (decl_sites (source old)) (decl_sites (source new)) (decl_by (move rank))
      (decl_moved move rank old new same) a.decls in
      both move rank old new same (right_item (source old) a.item)
      (flat_map (imports_sites (source old)) a.after ++ flat_map (decl_sites (source old)) a.decls) (right_item_moved a.item)
      (both move rank old new same (flat_map (imports_sites (source old)) a.after) (flat_map (decl_sites (source old)) a.decls) (groups_moved a.after) decls)

-- both

pub moved_here : (i : Gain) → moved_by i i.rank ≡ from_on i.number
moved_here i = let is : nat_eq i.rank i.rank ≡ true = eq-eqb i.rank i.rank refl in λ j n. cond (is j) (from_on i.number n) n

bare_sites : (s : TokenSpellings) (number : ℕ) → import_sites s (bare_import number) ≡ site s number (NotLexical purpose.UnnamedImport) ∷ []
unfolding import_sites
bare_sites s number = refl

named_sites : (i : Gain) (spell : ℕ → List ℕ) → spell i.number ≡ i.name → spell (i.number + 1) ≡ i.literal →
    import_sites (record { rank = i.rank; spell = spell }) (import_with_name i.number) ≡ import_site i i.name ∷ path_site i ∷ []
unfolding import_sites
named_sites i spell name literal =
    let one : ◌≡◌ {A = Site} (record { place = record { file = i.rank; index = i.number }; name = spell i.number; role = (import_site i i.name).role })
    (import_site i i.name) = λ j. record { place = (import_site i i.name).place; name = name j; role = (import_site i i.name).role } in
    let other : ◌≡◌ {A = Site} (record { place = (path_site i).place; name = spell (i.number + 1); role = (path_site i).role }) (path_site i) =
    λ j. record { place = (path_site i).place; name = literal j; role = (path_site i).role } in
    λ j. one j ∷ other j ∷ []

-- a file's spelling, in which the name has come in
pub record IsSpelled (i : Gain) (old new : ℕ → List ℕ) : Type 0 where
  pub kept : (n : ℕ) → new (from_on i.number n) ≡ old n
  pub literal : old i.number ≡ i.literal
  pub name : new i.number ≡ i.name

pub gained_sites : (i : Gain) (old new : ℕ → List ℕ) (a : AroundImport) → IsSpelled i old new →
    (at : ℕ) × HasGained i (unnamed_site i) at (file_sites (record { rank = i.rank; spell = old }) (file_with (bare_import i.number) a))
    (file_sites (record { rank = i.rank; spell = new }) (file_with (import_with_name i.number) (around_by (from_on i.number) a)))
gained_sites i old new a spelled =
    let was : TokenSpellings = record { rank = i.rank; spell = old } in
    let now : TokenSpellings = record { rank = i.rank; spell = new } in
    let g : ℕ → ℕ = from_on i.number in
    let is : moved_by i i.rank ≡ g = moved_here i in
    let same : (n : ℕ) → new (moved_by i i.rank n) ≡ old n = λ n. ap (λ (h : ℕ → ℕ). new (h n)) is ∙ spelled.kept n in
    let path : new (i.number + 1) ≡ i.literal = ap new (sym (from_itself i.number)) ∙ spelled.kept i.number ∙ spelled.literal in
    let stood : ◌≡◌ {A = Site} (site was i.number (NotLexical purpose.UnnamedImport)) (unnamed_site i) =
    λ j. record { place = (unnamed_site i).place; name = spelled.literal j; role = (unnamed_site i).role } in
    let lead : left now (around_by g a) ≡ map (moved_site (moved_by i)) (left was a) =
    ap (λ (h : ℕ → ℕ). left now (around_by h a)) (sym is) ∙ left_moved (moved_by i) i.rank old new same a in
    let rest : right now (around_by g a) ≡ map (moved_site (moved_by i)) (right was a) =
    ap (λ (h : ℕ → ℕ). right now (around_by h a)) (sym is) ∙ right_moved (moved_by i) i.rank old new same a in (
      length (left was a),
      record {
        before = left was a;
        behind = right was a;
        placed = refl;
        old_is = file_split was (bare_import i.number) a ∙ ap (λ l. left was a ++ (l ++ right was a)) (bare_sites was i.number)
            ∙ ap (λ x. left was a ++ x ∷ right was a) stood;
        new_is = file_split now (import_with_name i.number) (around_by g a)
            ∙ ap (λ l. left now (around_by g a) ++ (l ++ right now (around_by g a))) (named_sites i new spelled.name path)
            ∙ (λ j. lead j ++ import_site i i.name ∷ path_site i ∷ rest j);
      },
    )

pub put_sites : (rank number : ℕ) (p : NamePut) (a : AroundImport) → MayPut p → slice_get (tokens_in (before_put p)) number ≡ Some (literal_piece p) →
    (at : ℕ) × HasGained (gain_of rank number p) (unnamed_site (gain_of rank number p)) at (sites_in rank (bare_file number a p))
    (sites_in rank (named_file number a p))
put_sites rank number p a may at = gained_sites (gain_of rank number p) (bare_file number a p).spell (named_file number a p).spell a (record {
  kept = spelled_kept p number may at;
  literal = spelled_literal p number at;
  name = spelled_name p number may at;
})
