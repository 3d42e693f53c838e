-- A tree around an import, with other token numbers.
use Rattle.std.proofs.Common.{ℕ, ◌≡◌, ◌++◌, ◌∷◌, map, ap, refl, ◌∙◌}
use Rattle.std.proofs.lemmas.List.{map-append}
use Rattle.go_ast.specs.Tree.{ImportTree, several}
use Rattle.law_rename.specs.Around.{AroundImport, AroundItem, alone, among, around_by, file_with, group_with, imports_with, item_around_by}
use Rattle.law_rename.specs.Renumbered.{decl_by, group_by, import_by, imports_by, item_by, renumbered}

module _ (g : ℕ → ℕ) (i : ImportTree) where
  item_around : (x : AroundItem) → group_by g (import_by g) (group_with i x) ≡ group_with (import_by g i) (item_around_by g x)
  item_around alone = refl
  item_around (among o before separator after c) =
      ap (λ l. several (g o) l (g c)) (map-append (item_by g (import_by g)) before (record { value = i; separator = separator } ∷ after))

  declaration_around : (a : AroundImport) → imports_by g (imports_with i a) ≡ imports_with (import_by g i) (around_by g a)
  declaration_around a = λ m. record { keyword = g a.import_keyword; imports = item_around a.item m; semicolon = g a.import_semicolon }

  pub renumbered_around : (a : AroundImport) → renumbered g (file_with i a) ≡ file_with (import_by g i) (around_by g a)
  renumbered_around a =
      let groups : map (imports_by g) (a.before ++ imports_with i a ∷ a.after) ≡
      map (imports_by g) a.before ++ imports_with (import_by g i) (around_by g a) ∷ map (imports_by g) a.after =
      map-append (imports_by g) a.before (imports_with i a ∷ a.after)
      ∙ ap (λ d. map (imports_by g) a.before ++ d ∷ map (imports_by g) a.after) (declaration_around a) in
      λ m. record {
        keyword = g a.keyword;
        name = g a.name;
        semicolon = g a.semicolon;
        imports = groups m;
        decls = map (decl_by g) a.decls;
      }
