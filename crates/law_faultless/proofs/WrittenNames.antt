-- The names under which the type definitions of a package write members. They are finitely many, so it is decided which types implement which
-- interfaces.
use Rattle.std.proofs.Common.{ℕ, ◌≡◌, ◌⊎◌, inl, inr, List, [], map, ap, subst, refl}
use Rattle.std.specs.Prelude.{Option, Some, None, slice_get}
use Rattle.base_files.specs.Workspace.{Workspace}
use Rattle.types_expr.specs.World.{Definition, Field}
use Rattle.types_declared.specs.Definitions.{PlacedField, package_fields, IsFoundField}
use Rattle.types_declared.specs.Package.{Package, ExportData, PlacedType, package_types, spelled}
use Rattle.types_check.specs.Exports.{IsExportData}
use Rattle.types_info.proofs.DeclKinds.{Holds, holds_got, held_map}
use Rattle.types_info.proofs.Implementing.{CoverMembers}
use Rattle.workspace_check.specs.FaultLists.{ListsFaults}
use Rattle.workspace_check.specs.Verdicts.{IsSeenAs, seen, unseen}
use Rattle.workspace_check.proofs.Closed.{to_package}
use Rattle.workspace_check.proofs.OneList.{checked_package}

abbrev pub names_of_members : Package → List (List ℕ)
names_of_members p = map (λ (f : PlacedField). spelled p f.file f.name) (package_fields p)

by_found : (p : Package) (rank : ℕ) (name : List ℕ) (o : Option Field) → IsFoundField p rank name o → (o ≡ None) ⊎ Holds (names_of_members p) name
by_found p rank name None h = inl refl
by_found p rank name (Some x) h =
    let here = h.1.0.is_field in
    inr (subst (Holds (names_of_members p)) here.named
    (held_map (λ (f : PlacedField). spelled p f.file f.name) (package_fields p) h.0 (holds_got (package_fields p) x.symbol.rank h.0 here.has_rank)))

pub names_cover : (p : Package) (i : ExportData) → IsExportData p i → (rank : ℕ) → CoverMembers (i.definition rank) (names_of_members p)
names_cover p i is rank name = at (slice_get (package_types p) rank) refl
  where
    at : (o : Option PlacedType) → slice_get (package_types p) rank ≡ o →
        ((i.definition rank).field name ≡ None) ⊎ Holds (names_of_members p) name
    at None none = inl (ap (λ (d : Definition). d.field name) (is.beyond rank none))
    at (Some d) there = by_found p rank name ((i.definition rank).field name) ((is.definitions rank d there).fields name)

-- Such names, for each definition of some export data.
abbrev pub HaveNames : ExportData → Type 0
HaveNames i = (names : List (List ℕ)) × ((rank : ℕ) → CoverMembers (i.definition rank) names)

module _ (w : Workspace) (sound : ListsFaults w []) where
  pub names_seen : (p q : List ℕ) (n : Option (List ℕ)) (i : ExportData) → IsSeenAs w sound.known p q n i → HaveNames i
  names_seen p q _ _ (seen on faultless) =
      let x = checked_package w sound q (to_package w p q on.imported) in
      (names_of_members x.checked, names_cover x.checked (sound.known q).export_data x.is_export_data)
  names_seen p q _ _ (unseen none) = ([], λ rank name. inl refl)
