-- The selectors of qualified identifiers move as the declarations of other packages do.
use Rattle.std.proofs.Common.{ℕ, ◌≡◌, inl, inr, List, ap, sym, subst, ◌∙◌}
use Rattle.std.proofs.lemmas.Bool.{cases_eq}
use Rattle.base_edits.specs.EditSet.{FileChanges, edited}
use Rattle.base_edits.specs.RevisionsOfEdits.{revision_of}
use Rattle.base_files.specs.Workspace.{Workspace}
use Rattle.go_scope.specs.declared.model.Purpose.TheVariants as purpose
use Rattle.types_check.specs.Exports.{DoesExport}
use Rattle.types_declared.specs.Package.{Package, spelled}
use Rattle.types_declared.specs.Written.{BindsToken}
use Rattle.types_info.specs.QualifiedIdentifiers.{IsQualifiedByPath}
use Rattle.workspace_check.specs.Verdicts.{Verdicts, AreVerdicts}
use Rattle.refs_binding.specs.declared.declaration.Declaration.{Declaration}
use Rattle.refs_binding.specs.declared.declaration.Declaration.TheVariants.{Declared}
use Rattle.refs_binding.specs.Binding.{IsQualifiedUse, by_scope, by_package, by_member, by_name}
use Rattle.refs_binding.specs.Identifiers.{IsInFiles}
use Rattle.refs_binding.specs.Uses.{IsCheckedPackage, IsBoundToDeclaration}
use Rattle.refs_binding.proofs.Spelled.{selected_spelled}
use Rattle.refs_lookup.proofs.ExportedNames.{bound_behind}
use Rattle.refs_lookup.proofs.OneDeclaration.{one_declaration}
use Rattle.build_object.specs.Sources.{HasQualifier}
use Rattle.law_tokens.proofs.Lexical.{never_bound}
use Rattle.law_renamed_workspaces.specs.Harmless.{IsHarmless}
use Rattle.law_renamed_workspaces.specs.Renames.{IsPlainRename}
use Rattle.law_renamed_workspaces.proofs.RenamedScopesNameTokens.{is_named}
use Rattle.law_renamed_workspaces.proofs.OwnNames.{own_renames, member_is_none}
use Rattle.law_renamed_workspaces.proofs.RenamedScopesRenamed.{bound_is_called, others_are_kept, others_stay}
use Rattle.law_renamed_workspaces.proofs.Standing.{begins_there, named_stands}
use Rattle.law_renamed_workspaces.specs.VerdictsStay.{IsPackageAfter}
use Rattle.law_renamed_workspaces.proofs.DeclaredNames.{moves_level, keeps_levels, is_level_of}
use Rattle.law_objects.specs.Replaced.{Replaced}
use Rattle.law_objects.proofs.MovesFrom.{LevelsMove, QualifiedMove}
use Rattle.law_objects.proofs.ObjectsMove.{next, is_after}
use Rattle.law_renamed_workspaces.proofs.RenamedSets.{is_own}

same_declared : (path : List ℕ) (m n : ℕ) → Declared path m ≡ Declared path n → m ≡ n
same_declared path m n e = cc

module _ (w : Workspace) (before after : Verdicts) (d : Declaration) (name : List ℕ) (s : FileChanges) (plain : IsPlainRename w before d name s)
    (right : AreVerdicts (edited s w) after) (none : IsHarmless w before (revision_of w s)) where
  abbrev now : (p : Package) → IsCheckedPackage w before p → Package
  now p was = next w before after d name s plain right none p was

  abbrev here : (p : Package) (was : IsCheckedPackage w before p) → IsPackageAfter w before after s p (now p was)
  here p was = is_after w before after d name s plain right none p was

  module _ (p : Package) (was : IsCheckedPackage w before p) where
    abbrev q : Package
    q = now p was

    module _ (u : ℕ) (inside : IsInFiles p u) (path : List ℕ) (b : IsQualifiedByPath p u path) where
      use_of : (e : ℕ) → IsBoundToDeclaration w before p u (Declared path e) → IsQualifiedUse (IsCheckedPackage w before) p u path e
      use_of e (by_scope x) = absurd (never_bound p.layout p.names u e purpose.Selected b.selected x.2)
      use_of e (by_package x) = x
      use_of e (by_member x) = absurd (member_is_none x.member path e x.declares)
      use_of e (by_name x) = absurd x

      module _ (e : ℕ) (bound : IsBoundToDeclaration w before p u (Declared path e)) (o : Package) (is : IsCheckedPackage w before o) (same : o.path ≡ path)
          (seen : DoesExport o e) (called : o.names e ≡ p.names u) where
        -- it is called afterwards as the declaration is
        kept : (d ≡ Declared path e → ⊥) → q.names u ≡ p.names u
        kept other =
            others_are_kept w before d name s plain p q was (here p was).relaid u
            (λ inside some. other (is_own w before d name s plain (Declared path e) some.declaration some.among (λ m. m)
            (one_declaration w before p was u inside some.declaration (Declared path e) some.bound bound)))

        called_now : q.names u ≡ (now o is).names e
        called_now = elim (is_level_of d o) [
          | inr other ↦
              kept (λ z. other e (z ∙ ap (λ k. Declared k e) (sym same)) seen.package_level)
              ∙ sym called
              ∙ sym (keeps_levels own_renames others_stay w before d name s plain o (now o is) is (here o is).relaid other e seen.package_level seen.counts)
          | inl own ↦
              let m = moves_level own_renames others_stay w before d name s plain o (now o is) is (here o is).relaid own.0 own.1.0 own.1.1 in
              elim (cases_eq e own.0) [
                | inl here_too ↦
                    let it : d ≡ Declared path e = own.1.0 ∙ ap (λ k. Declared k own.0) same ∙ ap (Declared path) (sym here_too) in
                    let place = begins_there p u inside.0 inside.1
                    (named_stands w before p.path p was.is_checked u inside.0 (ap is_named b.selected)) in
                    bound_is_called w before d name s plain p q was (here p was).relaid u place.0 place.1
                    (record {
                      declaration = d;
                      among = plain.rename.is_set.has_it;
                      bound = subst (λ z. IsBoundToDeclaration w before p u z) (sym it) bound;
                    })
                    ∙ sym m.now
                    ∙ ap (now o is).names (sym here_too)
                | inr apart ↦
                    kept (λ z. apart (same_declared path e own.0 (sym z ∙ own.1.0 ∙ ap (λ k. Declared k own.0) same)))
                    ∙ sym called
                    ∙ sym (m.others e apart seen.package_level seen.counts)
              ]
        ]

    module _ (file token : ℕ) (path : List ℕ) (h : HasQualifier p file token path) where
      abbrev number : ℕ
      number = h.identifier

      stands : IsInFiles p number
      stands = (h.found.within, h.found.holds.0)

      behind : IsQualifiedByPath p number path
      behind = record {
        selected = h.selected;
        before = h.before;
        behind_dot = h.found.holds.2 ∙ h.behind_dot;
        named = record {
          import = h.import;
          binds = subst (λ k. BindsToken p k h.before h.import) (sym h.found.holds.1) h.binds;
          imports = h.of_path;
        };
      }

      declared : (e : ℕ) × IsBoundToDeclaration w before p number (Declared path e)
      declared = bound_behind w plain.rename.sound before plain.rename.right p was number stands path behind

      use_here : IsQualifiedUse (IsCheckedPackage w before) p number path declared.0
      use_here = use_of number stands path behind declared.0 declared.1

      old_named : spelled p file token ≡ use_here.other.names declared.0
      old_named =
          ap (λ k. spelled p k token) (sym h.found.holds.1)
          ∙ ap (spelled p (p.layout.place number).file) (sym h.found.holds.2)
          ∙ sym (selected_spelled w before p.path p was.is_checked number h.selected)
          ∙ sym use_here.named

      new_named : spelled q file token ≡ (now use_here.other use_here.is_package).names declared.0
      new_named =
          ap (λ k. spelled q k token) (sym h.found.holds.1)
          ∙ ap (spelled q (p.layout.place number).file) (sym h.found.holds.2)
          ∙ ap (λ l. spelled q (l.place number).file (l.place number).index) (sym (here p was).relaid.layout)
          ∙ sym (selected_spelled (edited s w) after q.path q (here p was).is.is_checked number
          (ap (λ l. l.role number) (here p was).relaid.layout ∙ h.selected))
          ∙ called_now number stands path behind declared.0 declared.1 use_here.other use_here.is_package use_here.of_path use_here.seen use_here.named

    module _ (r : Replaced) (levels : (o : Package) (is : IsCheckedPackage w before o) → LevelsMove r o (now o is)) where
      pub qualified : QualifiedMove r p q
      qualified file token path h =
          let e = declared file token path h in
          let x = use_here file token path h in
          ap (λ n. r.global (record { path = path; name = n })) (old_named file token path h)
          ∙ ap (λ k. r.global (record { path = k; name = x.other.names e.0 })) (sym x.of_path)
          ∙ levels x.other x.is_package e.0 x.seen.package_level x.seen.counts
          ∙ ap (λ k. record { path = k; name = (now x.other x.is_package).names e.0 }) x.of_path
          ∙ ap (λ n. record { path = path; name = n }) (sym (new_named file token path h))
