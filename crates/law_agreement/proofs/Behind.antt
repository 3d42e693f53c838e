-- Identifiers behind the names of packages, under a plain rename of a declaration of scopes.
use Rattle.std.proofs.Common.{ℕ, ◌≡◌, inl, inr, List, ap, sym, subst, refl, ◌∙◌}
use Rattle.std.specs.Prelude.{Option, Some, None, slice_get}
use Rattle.std.proofs.lemmas.Option.{same_Some}
use Rattle.base_files.specs.Path.{folder}
use Rattle.base_files.specs.Workspace.{Workspace}
use Rattle.base_files.specs.declared.place.Place.{Place}
use Rattle.base_edits.specs.EditSet.{FileChanges}
use Rattle.base_edits.specs.Revisions.{Revision, PackageMovesTo}
use Rattle.base_edits.specs.RevisionsOfEdits.{revision_of}
use Rattle.go_scope.specs.declared.model.Block.TheVariants.{Universe}
use Rattle.go_scope.specs.declared.model.Block.TheVariants.{Package as PackageBlock}
use Rattle.go_scope.specs.Bindings.{Layout, Counts, IsPackageLevel, own}
use Rattle.go_scope.specs.WellFormed.{WellFormed}
use Rattle.go_scope.proofs.Nesting.{Nested}
use Rattle.go_scope.proofs.Nests.{nests}
use Rattle.law_rename.specs.Renaming.{HasSameBindings, Renames}
use Rattle.law_rename.specs.Seen.{IsExportedAs}
use Rattle.law_rename.proofs.AfterRename.{declared_before}
use Rattle.types_declared.specs.Laid.{is_exported}
use Rattle.types_declared.specs.Package.{Package}
use Rattle.types_declared.proofs.ByteKeys.{cases_bytes}
use Rattle.types_check.specs.Exports.{DoesExport}
use Rattle.workspace_check.specs.Verdicts.{Verdicts}
use Rattle.workspace_check.proofs.OnePackage.{layout_formed}
use Rattle.refs_binding.specs.declared.declaration.Declaration.{Declaration}
use Rattle.refs_binding.specs.declared.declaration.Declaration.TheVariants.{Predeclared, Declared, Field, Method}
use Rattle.refs_binding.specs.Binding.{BindsQualified, IsPredeclaredNumber, by_package}
use Rattle.refs_binding.specs.Identifiers.{BeginsAt}
use Rattle.refs_binding.specs.Uses.{IsCheckedPackage, IsBoundToDeclaration}
use Rattle.refs_binding.proofs.Units.{one_package}
use Rattle.refs_lookup.proofs.OneDeclaration.{one_declaration}
use Rattle.refactor_conflict.proofs.OneScoped.{one_scoped}
use Rattle.refactor_conflict.specs.BoundAfter.{HasBecome, IsExportAfter, IsBoundByPackage}
use Rattle.refactor_conflict.specs.Conflicts.{IsCapturer, LostOrCaptured, is_lost, is_captured}
use Rattle.refactor_conflict.specs.Staying.{StaysBound, StaysByPackage}
use Rattle.refactor_conflict.specs.declared.conflict.Capturer.{Capturer}
use Rattle.refactor_conflict.proofs.BoundAfter.{counted_export, one_goal}
use Rattle.law_renamed_workspaces.proofs.OwnNames.{counted, in_universe, own_renames}
use Rattle.law_renamed_workspaces.proofs.RenamedScopesRenamed.{bound_is_called, others_are_kept, others_stay}
use Rattle.refs_binding.proofs.Excluding.{one_behind}
use Rattle.law_renamed_workspaces.specs.There.{IsThereAfter}
use Rattle.law_agreement.specs.Behind.{TurnsBehind, TakenBehind, TurnsQualified}
use Rattle.law_agreement.specs.ScopeRenames.{IsRenameIn}
use Rattle.law_agreement.proofs.Afterwards.{KeepsPackages, becomes_once, other_bindings, same_number, same_path}
use Rattle.law_agreement.proofs.SeenAgain.{IsCalled, seen_once, seen_still, turns_lost, turns_caught, lost_unseen, caught_seen}
use Rattle.law_renamed_workspaces.proofs.RenamedSets.{own_alone}

other_block : Universe ≡ PackageBlock → ⊥
other_block e = cc

-- a package-level declaration is not predeclared
level_declared : (w : Workspace) (known : Verdicts) (y : Package) → IsCheckedPackage w known y → (d : ℕ) → IsPackageLevel y.layout d → IsPredeclaredNumber d → ⊥
level_declared w known y is d level lt = other_block (sym (in_universe w known y.path y is.is_checked d lt) ∙ level)

module _ (w : Workspace) (known : Verdicts) (p : Package) (n : ℕ) (name : List ℕ) (s : FileChanges) (h : IsRenameIn w known p n name s)
    (keeps : KeepsPackages w known (revision_of w s)) (x : Package) (is : IsCheckedPackage w known x) (u : ℕ) (place : Place)
    (begins : BeginsAt x place.path place.offset u) where
  abbrev r : Revision
  r = revision_of w s

  abbrev Known : Package → Type 0
  Known = IsCheckedPackage w known

  abbrev Bec : Declaration → Declaration → Type 0
  Bec = HasBecome w known r

  abbrev E : Declaration → Type 0
  E = IsBoundByPackage w r place x u

  abbrev called : List ℕ
  called = r.called place (x.names u)

  abbrev x_after : (q : Package) × IsThereAfter w known r x q
  x_after = keeps.there x is

  called_so : x_after.0.names u ≡ called
  called_so = x_after.1.relaid.names u place begins

  kept_name : (e : Declaration) → IsBoundToDeclaration w known x u e → (Declared p.path n ≡ e → ⊥) → called ≡ x.names u
  kept_name e b other =
      sym called_so
      ∙ others_are_kept w known (Declared p.path n) name s h.rename x x_after.0 is x_after.1.relaid u
      (λ inside some. other
      (sym (own_alone Known (Declared p.path n) h.rename.rename.set h.rename.rename.is_set (λ m. m) some.declaration some.among)
      ∙ one_declaration w known x is u inside some.declaration e some.bound b))

  new_name : IsBoundToDeclaration w known x u (Declared p.path n) → called ≡ name
  new_name b =
      sym called_so ∙ bound_is_called w known (Declared p.path n) name s h.rename x x_after.0 is x_after.1.relaid u place begins
      (record { declaration = Declared p.path n; among = h.rename.rename.is_set.has_it; bound = b })

  -- what was bound to a declaration of the package

  module _ (old : ℕ) (b : BindsQualified Known x u (Declared p.path old)) where
    abbrev l : Layout
    l = p.layout

    abbrev q : Package
    q = (keeps.there p h.is_package).0

    a : IsThereAfter w known r p q
    a = (keeps.there p h.is_package).1

    renames : Renames l p.names n name q.names
    renames = own_renames w known p.path n name s h.rename p q h.is_package refl a.relaid

    nested : Nested l
    nested = nests l renames.well_formed

    one : b.other ≡ p
    one = one_package w known b.other p b.is_package h.is_package b.of_path

    used_name : p.names old ≡ x.names u
    used_name = subst (λ (y : Package). y.names old ≡ x.names u) one b.named

    seen : IsExportedAs l p.names (p.names old) old
    seen =
        let k : DoesExport p old = subst (λ (y : Package). DoesExport y old) one b.seen in
        record { package_level = k.package_level; counts = k.counts; named = refl; exported = k.exported }

    abbrev IsCalledSo : Type 0
    IsCalledSo = IsCalled l nested p.names q.names n name renames.all_count renames.declared renames.renaming old called

    is_called : IsCalledSo
    is_called = record {
      own = λ same. new_name (by_package (subst (λ k. BindsQualified Known x u (Declared p.path k)) same b));
      other = λ apart.
          kept_name (Declared p.path old) (by_package b) (λ e. apart (sym (same_number p.path p.path n old e))) ∙ sym used_name;
    }

    -- the numbers of what is seen afterwards

    abbrev SeenAfter : ℕ → Type 0
    SeenAfter e = IsExportedAs l q.names called e

    to_bound : (e : ℕ) → SeenAfter e → E (Declared p.path e)
    to_bound e k = record {
      path = p.path;
      behind = b.behind;
      exports = record {
        other = q;
        is_package = a.is_scoped;
        goes = a.goes;
        declaration = e;
        seen = record {
          package_level = subst (λ (m : Layout). IsPackageLevel m e) (sym a.relaid.layout) k.package_level;
          counts = subst (λ (m : Layout). Counts m q.names e) (sym a.relaid.layout) k.counts;
          exported = ap is_exported k.named ∙ k.exported;
        };
        named = k.named;
        exported = ap (λ t. Declared t e) (sym a.relaid.path);
      };
    }

    exported_so : (f : Declaration) → IsExportAfter w r p.path called f → (e : ℕ) × (SeenAfter e × (f ≡ Declared p.path e))
    exported_so f k =
        let same : k.other ≡ q = one_scoped r.after k.other q k.is_package a.is_scoped (one_goal w r p.path k.other.path q.path k.goes a.goes) in
        let e = k.declaration in
        let there : DoesExport q e = subst (λ (y : Package). DoesExport y e) same k.seen in
        let named : q.names e ≡ called = subst (λ (y : Package). y.names e ≡ called) same k.named in (
          e,
          (
            record {
              package_level = subst (λ (m : Layout). IsPackageLevel m e) a.relaid.layout there.package_level;
              counts = subst (λ (m : Layout). Counts m q.names e) a.relaid.layout there.counts;
              named = named;
              exported = ap is_exported (sym named) ∙ there.exported;
            },
            k.exported ∙ ap (λ (y : Package). Declared y.path e) same ∙ ap (λ t. Declared t e) a.relaid.path,
          ),
        )

    from_bound : (f : Declaration) → E f → (e : ℕ) × (SeenAfter e × (f ≡ Declared p.path e))
    from_bound f k =
        let formed : WellFormed x.layout = layout_formed w known x.path x is.is_checked in
        let path : k.path ≡ p.path = one_behind x formed u k.path p.path k.behind b.behind in
        exported_so f (subst (λ t. IsExportAfter w r t called f) path k.exports)

    becomes_itself : (e : ℕ) → SeenAfter e → Bec (Declared p.path e) (Declared p.path e)
    becomes_itself e k =
        let before : Counts l p.names e =
        renames.all_count e
        (declared_before l nested p.names q.names n name renames.all_count renames.declared renames.renaming e k.counts.declares) in
        a.become e (level_declared w known p h.is_package e k.package_level) before
        (subst (λ (m : Layout). Counts m q.names e) (sym a.relaid.layout) k.counts)

    only_itself : (c f : Declaration) (e : ℕ) → SeenAfter e → f ≡ Declared p.path e → E f → Bec c f → c ≡ Declared p.path e
    only_itself c f e k same here become =
        becomes_once w known r keeps.apart c (Declared p.path e) f (counted_export w r here.path called f here.exports) become
        (subst (λ z. Bec (Declared p.path e) z) (sym same) (becomes_itself e k))

    -- what is told by the old names is so

    pub taken : (by : Option Capturer) → LostOrCaptured Bec Known E (Declared p.path old) by → TakenBehind Known p n name old by
    taken by (is_lost none) =
        turns_lost l nested p.names q.names n name renames.all_count renames.declared renames.renaming old seen called is_called
        (λ e k. none (Declared p.path e) (Declared p.path e) (to_bound e k) (becomes_itself e k))
    taken by (is_captured {by = t} f c here become tells not) =
        let k = from_bound f here in
        let e = k.0 in
        let told : c ≡ Declared p.path e = only_itself c f e k.1.0 k.1.1 here become in
        let apart : e ≡ old → ⊥ =
        (λ same. not f here (subst (λ (m : ℕ). Bec (Declared p.path m) f) same
        (subst (λ z. Bec (Declared p.path e) z) (sym k.1.1) (becomes_itself e k.1.0)))) in (
          e,
          (
            turns_caught l nested p.names q.names n name renames.all_count renames.declared renames.renaming old seen called is_called e k.1.0 apart,
            subst (λ z. IsCapturer Known z t) told tells,
          ),
        )

    pub turned : (by : Option Capturer) → TakenBehind Known p n name old by → LostOrCaptured Bec Known E (Declared p.path old) by
    turned None k =
        is_lost (λ f c here become.
        let e = from_bound f here in
        lost_unseen l nested p.names q.names n name renames.all_count renames.declared renames.renaming old called is_called k e.0 e.1.0)
    turned (Some t) k =
        let c = k.0 in
        let now =
        caught_seen l nested p.names q.names n name renames.all_count renames.declared renames.renaming old c called is_called k.1.0 in
        is_captured (Declared p.path c) (Declared p.path c) (to_bound c now.0) (becomes_itself c now.0) k.1.1 (λ f here become.
        let e = from_bound f here in
        let same : e.0 ≡ c = seen_once l nested q.names called e.0 c e.1.0 now.0 in
        let is_c : f ≡ Declared p.path c = e.1.1 ∙ ap (Declared p.path) same in
        let z : Declared p.path old ≡ Declared p.path c = only_itself (Declared p.path old) f c now.0 is_c here become in
        now.1 (sym (same_number p.path p.path old c z)))

    own_stays : ((by : Option ℕ) → TurnsBehind l p.names n name old by → ⊥) → StaysBound Bec E (Declared p.path old)
    own_stays free =
        let now = seen_still l nested p.names q.names n name renames.all_count renames.declared renames.renaming old seen called is_called free in
        record { declaration = Declared p.path old; bound = to_bound old now; become = becomes_itself old now }

  -- what was bound to a declaration of another package

  module _ (path : List ℕ) (d : ℕ) (b : BindsQualified Known x u (Declared path d)) (away : path ≡ p.path → ⊥) where
    abbrev y : Package
    y = b.other

    abbrev o : Package
    o = (keeps.there y b.is_package).0

    t : IsThereAfter w known r y o
    t = (keeps.there y b.is_package).1

    not_here : (m : ℕ) → Declared p.path n ≡ Declared y.path m → ⊥
    not_here m e = away (sym b.of_path ∙ sym (same_path p.path y.path n m e))

    alike : HasSameBindings y.layout y.names o.names
    alike = other_bindings w known (Declared p.path n) name s h.rename y o b.is_package not_here t.relaid

    counts_after : Counts y.layout o.names d
    counts_after = counted y.layout o.names d d ((alike d d).0 (own refl b.seen.counts))

    named_so : o.names d ≡ y.names d
    named_so = others_stay w known (Declared p.path n) name s h.rename y o b.is_package not_here t.relaid d d (own refl b.seen.counts)

    counts_there : Counts o.layout o.names d
    counts_there = subst (λ (m : Layout). Counts m o.names d) (sym t.relaid.layout) counts_after

    kept_here : called ≡ x.names u
    kept_here = kept_name (Declared path d) (by_package b) (λ e. away (sym (same_path p.path path n d e)))

    pub other_stays : StaysBound Bec E (Declared path d)
    other_stays = record {
      declaration = Declared path d;
      bound = record {
        path = path;
        behind = b.behind;
        exports = record {
          other = o;
          is_package = t.is_scoped;
          goes = subst (λ k. PackageMovesTo w r k o.path) b.of_path t.goes;
          declaration = d;
          seen = record {
            package_level = subst (λ (m : Layout). IsPackageLevel m d) (sym t.relaid.layout) b.seen.package_level;
            counts = counts_there;
            exported = ap is_exported named_so ∙ b.seen.exported;
          };
          named = named_so ∙ b.named ∙ sym kept_here;
          exported = ap (λ k. Declared k d) (sym b.of_path ∙ sym t.relaid.path);
        };
      };
      become =
          subst (λ k. Bec (Declared k d) (Declared k d)) b.of_path
          (t.become d (level_declared w known y b.is_package d b.seen.package_level) b.seen.counts counts_there);
    }

  pub stays : ((by : Option ℕ) → TurnsQualified Known p n name x u by → ⊥) → StaysByPackage w known r x u place
  stays free (Predeclared d) b = absurd b
  stays free (Field f) b = absurd b
  stays free (Method f) b = absurd b
  stays free (Declared path d) b = elim (cases_bytes path p.path) [
    | inl same ↦
        (let here : BindsQualified Known x u (Declared p.path d) = subst (λ k. BindsQualified Known x u (Declared k d)) same b in
        subst (λ k. StaysBound Bec E (Declared k d)) (sym same)
        (own_stays d here (λ by k. free by (record { old = d; was = here; turns = k }))))
    | inr away ↦ other_stays path d b away
  ]
