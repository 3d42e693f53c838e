-- The export data of a moved package are the old ones, moved.
use Rattle.std.proofs.Common.{ℕ, ◌≡◌, List, ap, refl, sym, subst, ◌∙◌}
use Rattle.std.specs.Prelude.{Option, Some, None, option_map, slice_get}
use Rattle.go_scope.specs.Bindings.{Counts, IsPackageLevel, Layout, own}
use Rattle.types_expr.specs.World.{Bound, Local, BrokenVariable, BrokenFunction, BrokenType}
use Rattle.types_expr.specs.World.{Means as Stands}
use Rattle.types_expr.specs.Types.{Meaning}
use Rattle.types_expr.specs.WorldView.{no_definition}
use Rattle.types_declared.specs.Definitions.{IsDefinition}
use Rattle.types_declared.specs.Files.{package_name}
use Rattle.types_declared.specs.Laid.{is_exported}
use Rattle.types_declared.specs.MeaningOf.{IsMeaningOf}
use Rattle.types_declared.specs.Package.{Export, ExportData, Package, PlacedType, package_types, symbol_in}
use Rattle.types_check.specs.Exports.{IsExport, IsExportData, IsExported}
use Rattle.law_changed_types.proofs.Alike.{got_by}
use Rattle.law_renamed_workspaces.proofs.ScopeFaults.{bound_counts}
use Rattle.law_changed_types.specs.Moved.{PathMap, IsInjective, moved_bound, moved_meaning}
use Rattle.law_changed_types.specs.MovedPackage.{IsMovedPackage, moved_definition, moved_export}
use Rattle.law_changed_types.proofs.Defined.{definition_moves}
use Rattle.law_changed_types.proofs.MovedTypesMeanings.{meaning, meaning_back}
use Rattle.law_changed_types.proofs.Written.{same_place_types, symbols}
use Rattle.refactor_move.specs.declared.moved.Moved.{Moved}
use Rattle.law_moves.specs.MovedPackages.{name_after}
use Rattle.refactor_known.specs.MovedData.{moved_data}

-- what a declaration means in other packages, before the move
stands_back : (g : PathMap) (b : Bound) (k : Meaning) → Stands k ≡ moved_bound g b → (n : Meaning) × ((b ≡ Stands n) × (k ≡ moved_meaning g n))
stands_back g (Stands n) k e = (n, (refl, means_of (moved_meaning g n) e))
  where
    means_of : (n : Meaning) → Stands k ≡ Stands n → k ≡ n
    means_of n e = cc
stands_back g (Local t) k e = let z : ⊥ = cc in absurd z
stands_back g BrokenVariable k e = let z : ⊥ = cc in absurd z
stands_back g BrokenFunction k e = let z : ⊥ = cc in absurd z
stands_back g BrokenType k e = let z : ⊥ = cc in absurd z

module _ (g : PathMap) (inj : IsInjective g) (p q : Package) (a : IsMovedPackage g p q)
    (levels : (d : ℕ) → IsPackageLevel p.layout d → q.names d ≡ p.names d) where
  level_now : (d : ℕ) → IsPackageLevel p.layout d → IsPackageLevel q.layout d
  level_now d level = subst (λ (l : Layout). IsPackageLevel l d) (sym a.layout) level

  level_was : (d : ℕ) → IsPackageLevel q.layout d → IsPackageLevel p.layout d
  level_was d level = subst (λ (l : Layout). IsPackageLevel l d) a.layout level

  counts_now : (d : ℕ) → Counts p.layout p.names d → Counts q.layout q.names d
  counts_now d counts =
      subst (λ (l : Layout). Counts l q.names d) (sym a.layout) (bound_counts p.layout q.names d d ((a.bindings d d).0 (own refl counts)))

  counts_was : (d : ℕ) → Counts q.layout q.names d → Counts p.layout p.names d
  counts_was d counts =
      bound_counts p.layout p.names d d ((a.bindings d d).1 (own refl (subst (λ (l : Layout). Counts l q.names d) a.layout counts)))

  export_now : (name : List ℕ) (e : Export) → IsExport p name e → IsExport q name (moved_export g e)
  export_now name e h =
      let d = h.declaration in
      let same = levels d h.by_declaration.seen.package_level in
      record {
        declaration = d;
        named = same ∙ h.named;
        by_declaration = record {
          seen = record {
            package_level = level_now d h.by_declaration.seen.package_level;
            counts = counts_now d h.by_declaration.seen.counts;
            exported = ap is_exported same ∙ h.by_declaration.seen.exported;
          };
          means = meaning g inj p q a d (Stands e.meaning) h.by_declaration.means;
        };
      }

  export_was : (name : List ℕ) (e : Export) → IsExport q name e → (old : Export) × IsExport p name old
  export_was name e h =
      let d = h.declaration in
      let level = level_was d h.by_declaration.seen.package_level in
      let same = levels d level in
      let b = meaning_back g inj p q a d (Stands e.meaning) h.by_declaration.means in
      let n = stands_back g b.0 e.meaning b.1.0 in (
        record { meaning = n.0 },
        record {
          declaration = d;
          named = sym same ∙ h.named;
          by_declaration = record {
            seen = record {
              package_level = level;
              counts = counts_was d h.by_declaration.seen.counts;
              exported = ap is_exported (sym same) ∙ h.by_declaration.seen.exported;
            };
            means = subst (IsMeaningOf p d) n.1.0 b.1.1;
          };
        },
      )

  exported_now : (name : List ℕ) (o : Option Export) → IsExported p name o → IsExported q name (option_map (moved_export g) o)
  exported_now name None none = λ e h. (let old = export_was name e h in none old.0 old.1)
  exported_now name (Some e) h = export_now name e h

  module _ (m : Moved) (i : ExportData) (is : IsExportData p i) (clause : package_name q.files ≡ name_after m p.path (package_name p.files)) where
    definition_now : (rank : ℕ) (t : PlacedType) → slice_get (package_types q) rank ≡ Some t → IsDefinition q rank (moved_definition g (i.definition rank))
    definition_now rank t at =
        definition_moves g inj p q a rank (i.definition rank)
        (is.definitions rank t (got_by (package_types q) (package_types p) rank t (sym (same_place_types g inj p q a)) at))

    beyond_now : (rank : ℕ) → slice_get (package_types q) rank ≡ None → moved_definition g (i.definition rank) ≡ no_definition (symbol_in q rank)
    beyond_now rank none =
        ap (moved_definition g) (is.beyond rank (ap (λ ts. slice_get ts rank) (sym (same_place_types g inj p q a)) ∙ none))
        ∙ ap no_definition (sym (symbols g inj p q a rank))

    pub data_moves : IsExportData q (moved_data m.from m.name g p.path i)
    data_moves = record {
      name = ap (name_after m p.path) is.name ∙ sym clause;
      exported = λ name. exported_now name (i.exported name) (is.exported name);
      definitions = definition_now;
      beyond = beyond_now;
    }
