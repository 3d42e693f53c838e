-- Each rename of an import without a name can be done in two steps, and both together preserve bindings exactly where the second one does.
use Rattle.std.proofs.Common.{ℕ, ◌≡◌, ◌⊎◌, inl, inr, List, [], ◌∷◌, refl, sym, ap, ◌∙◌, subst}
use Rattle.std.specs.Prelude.{Contains, Some, slice_get}
use Rattle.std.proofs.lemmas.Bool.{cases_eq}
use Rattle.base_files.specs.Path.{folder}
use Rattle.base_files.specs.Workspace.{Workspace}
use Rattle.base_files.specs.declared.place.Place.{Place}
use Rattle.base_edits.specs.EditSet.{FileChanges, change_of, edited}
use Rattle.base_edits.specs.Moved.{edits_by, moved}
use Rattle.base_edits.specs.RevisionsOfEdits.{revision_of}
use Rattle.go_ast.specs.SourceFile.{SourceFile, offset_of}
use Rattle.go_scope.specs.Bindings.{Counts}
use Rattle.law_rename.specs.MayGain.{inserted}
use Rattle.law_tokens.specs.Bytes.{HaveOwnPaths}
use Rattle.law_tokens.proofs.OwnPaths.{own_paths}
use Rattle.types_declared.proofs.ByteKeys.{cases_bytes}
use Rattle.types_declared.specs.Package.{Package}
use Rattle.workspace_check.specs.FaultLists.{ListsFaults}
use Rattle.workspace_check.specs.Verdicts.{AreVerdicts, Verdicts}
use Rattle.workspace_check.proofs.PackageFiles.{at_rank}
use Rattle.workspace_check.proofs.SameImports.{imports_back, stands_by}
use Rattle.workspace_check.proofs.StandsAlike.{package_there}
use Rattle.refs_binding.specs.Identifiers.{BeginsAt, IsInFiles}
use Rattle.refs_binding.specs.Uses.{IsCheckedPackage}
use Rattle.refs_binding.proofs.Folders.{begins_in_folder}
use Rattle.refs_binding.proofs.Units.{one_package}
use Rattle.refactor_rename.specs.RenameEdits.{IsSourceIn}
use Rattle.law_faultless.proofs.Bound.{source_at}
use Rattle.law_gained_names.proofs.FileEdits.{text_before}
use Rattle.law_gained_names.proofs.Alone.{alone}
use Rattle.law_gained_names.specs.GainedName.{GainedNamesRenumber, IsGainedAt}
use Rattle.law_gained_names.specs.NamedWorkspace.{GainedNamesKeepVerdicts, GainedNamesListNoFault}
use Rattle.law_gained_names.proofs.NamedWorkspacesLaws.{gained_names_renumber}
use Rattle.law_gained_names.proofs.Verdicts.{gained_names_keep_verdicts, gained_names_list_no_fault}
use Rattle.law_gained_names.specs.OwnName.{HasGainedBy, OwnNamesAreGained}
use Rattle.law_gained_names.proofs.OwnNamesLaws.{own_names_are_gained}
use Rattle.law_gained_names.specs.GainedStep.{GainedNamesAreSteps}
use Rattle.law_gained_names.proofs.Steps.{gained_names_are_steps}
use Rattle.law_gained_names.proofs.GainedStepsTokens.{i, unmoved}
use Rattle.law_renumbered.specs.TwoRevisions.{AreInTurn, IsFirstStep, IsIdentifierMoved, KeepsAdded, KeepsAt}
use Rattle.law_renumbered.specs.TwoRevisions.{RevisionsInTurnPreserve, SecondRevisionsPreserve}
use Rattle.law_renumbered.proofs.InTurn.{revisions_in_turn_preserve, second_revisions_preserve}
use Rattle.law_gained_names.specs.TwoSteps.{edit_between, first_step}
use Rattle.law_gained_names.proofs.TwoStepsFiles.{calls_in_two_steps, files_in_two_steps, places_in_two_steps}
use Rattle.law_gained_names.proofs.Staying.{edits_one, moved_there}
use Rattle.law_gained_names.specs.UnnamedRenames.{IsNamedFirst, IsUnnamedRename, StepsPreserve, UnnamedRenamesHaveSteps}
use Rattle.law_gained_names.proofs.Added.{own_kept}
use Rattle.law_gained_names.proofs.Between as between
use Rattle.law_gained_names.proofs.GainingRenamesImports as imports
use Rattle.law_gained_names.proofs.Naming.{HasFront, front_of}
use Rattle.law_gained_names.proofs.Renaming as steps
use Rattle.law_gained_names.proofs.Sound.{sound_by}

module _ (w : Workspace) (known : Verdicts) (p : Package) (n : ℕ) (name : List ℕ) (s : FileChanges) (h : IsUnnamedRename w known p n name s)
    (count : Counts p.layout p.names n) (stands : IsInFiles p n) (f : SourceFile) (of_rank : slice_get p.files (p.layout.place n).file ≡ Some f)
    (source : IsSourceIn w known f) (sh : HasFront f (p.layout.place n).index) where
  abbrev number : ℕ
  number = (p.layout.place n).index

  abbrev put : List ℕ
  put = steps.own_put w known p n name s h count stands f of_rank source sh

  abbrev naming : FileChanges
  naming = steps.naming w known p n name s h count stands f of_rank source sh

  abbrev middle : Workspace
  middle = edited naming w

  module _ (q : Package) (g : HasGainedBy w known naming f number put p q) where
    -- the import keeps its number

    own : HaveOwnPaths p.files
    own =
        let is = h.is_package.is_checked in
        subst HaveOwnPaths (sym (ap (λ (x : Package). x.files) is.is_package.is_package)) (own_paths w p.path is.files is.parsed)

    pub same_number : (at : ℕ) → IsGainedAt (i w known naming f number put p q g) at p q → at ≡ n
    same_number at is = elim (cases_eq n at) [
      | inl same ↦ sym same
      | inr other ↦
          let gain = i w known naming f number put p q g in
          let file : (p.layout.place n).file ≡ gain.rank =
          own (p.layout.place n).file gain.rank f f of_rank (between.was_here w known naming f number put p q g) refl in
          absurd (alone gain at p q is.named n other file refl)
    ]

    module _ (is : IsGainedAt (i w known naming f number put p q g) n p q) (right : AreVerdicts middle known) (sound : ListsFaults middle []) where
      abbrev renaming : FileChanges
      renaming = steps.renaming w known p n name s h count stands f of_rank source sh q g is right sound

      before_path : g.gained.gains.before.path ≡ f.path
      before_path = ap (λ (x : SourceFile). x.path) g.before

      pub named_first : IsNamedFirst w known p n name s
      named_first =
          let two = steps.two w known p n name s h count stands f of_rank source sh q g is right sound in
          let nm = steps.nm w known p n name s h count stands f of_rank source sh q g is right sound in
          let one = edits_one f.path (first_step nm) in
          let front = between.put_at w known naming f number put p q g in
          record {
            naming = naming;
            renaming = renaming;
            inside = q;
            renames = steps.second w known p n name s h count stands f of_rank source sh q g is right sound;
            files = files_in_two_steps w f.path nm s naming renaming two;
            moves = places_in_two_steps w f.path nm s naming renaming two;
            calls = calls_in_two_steps w f.path nm s naming renaming two;
            number = number;
            workspace = g.gained;
            gained = is;
            same_path = g.path ∙ sym before_path;
            puts = ap (λ path. edits_by (change_of naming path)) before_path ∙ one.here
                ∙ (λ m. edit_between (front m) (front m) (sym g.bytes m) ∷ []);
            no_more = λ path other. one.others path (λ same. other (same ∙ sym before_path));
            stays = λ place. ap (λ (x : Place). x.path) (moved_there naming one.none_added one.stay place);
          }

      -- what the second step keeps

      module _ (after : Verdicts) (right_after : AreVerdicts (edited renaming middle) after) (sound_after : ListsFaults (edited renaming middle) []) where
        abbrev Is : Place → Type 0
        Is place = IsIdentifierMoved w known (revision_of w naming) place ⊎ KeepsAt middle known (revision_of middle renaming) after place

        is_now : IsCheckedPackage middle known q
        is_now = steps.is_now w known p n name s h count stands f of_rank source sh q g is right sound

        own_place : Place
        own_place = between.own_place w known naming f number put p q g

        kept : KeepsAt middle known (revision_of middle renaming) after own_place
        unfolding is_now own_place
        kept =
            own_kept middle known q is_now n (between.gain w known naming f number put p q g).rank (between.new_role w known naming f number put p q g n is)
            (between.new_import w known naming f number put p q g n is) name renaming
            (steps.plain w known p n name s h count stands f of_rank source sh q g is right sound) after right_after sound_after own_place
            (between.own_use w known naming f number put p q g n is count stands) (between.own_user w known naming f number put p q g n is count stands)

        here : (k : ℕ) (place : Place) → BeginsAt q place.path place.offset k → Is place
        unfolding own_place
        here k place begins = elim (between.own_or_old w known naming f number put p q g n is stands k place begins) [
          | inl is_own ↦ inr (subst (KeepsAt middle known (revision_of middle renaming) after) (sym is_own.1) kept)
          | inr old ↦
              let was = old.1.1.1 in
              inl (record {
                old = was.old;
                is_identifier = record { used_in = p; is_package = h.is_package; user = old.0; begins = was.begins };
                goes = was.goes;
              })
        ]

        elsewhere : (y : Package) → IsCheckedPackage middle known y → (y.path ≡ p.path → ⊥) → (k : ℕ) (place : Place) →
            BeginsAt y place.path place.offset k → Is place
        elsewhere y is_y away k place begins =
            let same_imports = g.gained.imports in
            let was : IsCheckedPackage w known y = record {
              of_workspace = subst (λ ps. Contains ps y.path) (sym same_imports.paths) is_y.of_workspace;
              is_checked = package_there middle w y.path (stands_by middle w (imports_back w middle same_imports) y.path (sym (g.gained.others y.path
                  away))) known y
                  is_y.is_checked;
            } in
            let in_folder : folder place.path ≡ y.path = sym (begins_in_folder middle known y is_y place.path place.offset k begins) in
            inl (record {
              old = place;
              is_identifier = record { used_in = y; is_package = was; user = k; begins = begins };
              goes = unmoved w known naming f number put p q g place (λ same. away (sym in_folder ∙ same));
            })

        added : KeepsAdded w known (revision_of w naming) known (revision_of middle renaming) after
        unfolding is_now
        added place at = elim (cases_bytes at.used_in.path p.path) [
          | inl same ↦
              let whole : at.used_in ≡ q = one_package middle known at.used_in q at.is_package is_now (same ∙ sym is.renumbered.path) in
              here at.user place (subst (λ (z : Package). BeginsAt z place.path place.offset at.user) whole at.begins)
          | inr away ↦ elsewhere at.used_in at.is_package away at.user place at.begins
        ]

      turn : AreInTurn (revision_of w naming) (revision_of middle renaming) (revision_of w s)
      turn =
          let two = steps.two w known p n name s h count stands f of_rank source sh q g is right sound in
          let nm = steps.nm w known p n name s h count stands f of_rank source sh q g is right sound in
          record { after = files_in_two_steps w f.path nm s naming renaming two; moved = places_in_two_steps w f.path nm s naming renaming two }

      pub preserve : RevisionsInTurnPreserve → SecondRevisionsPreserve → IsFirstStep w known (revision_of w naming) known → StepsPreserve w s naming renaming
      preserve in_turn second step = (
        (λ kept. second w known known (revision_of w naming) (revision_of middle renaming) (revision_of w s) turn step kept
            (added kept.after (subst (λ x. AreVerdicts x kept.after) turn.after kept.right_after) (subst (λ x. ListsFaults x []) turn.after kept.sound))),
        (λ kept. in_turn w known known (revision_of w naming) (revision_of middle renaming) (revision_of w s) turn step kept),
      )

abbrev HasSteps : (w : Workspace) (known : Verdicts) (p : Package) (n : ℕ) (name : List ℕ) (s : FileChanges) → Type 0
HasSteps w known p n name s = (x : IsNamedFirst w known p n name s) × StepsPreserve w s x.naming x.renaming

module _ (gain : OwnNamesAreGained) (renumber : GainedNamesRenumber) (keep : GainedNamesKeepVerdicts) (none : GainedNamesListNoFault)
    (first : GainedNamesAreSteps) (in_turn : RevisionsInTurnPreserve) (second : SecondRevisionsPreserve) (w : Workspace) (known : Verdicts) (p : Package)
    (n : ℕ) (name : List ℕ) (s : FileChanges) (h : IsUnnamedRename w known p n name s) where
  abbrev whole_sound : ListsFaults w []
  whole_sound = sound_by w h.rename.sound known h.rename.right

  module _ (count : Counts p.layout p.names n) (stands : IsInFiles p n) (f : SourceFile) (of_rank : slice_get p.files (p.layout.place n).file ≡ Some f)
      (sh : HasFront f (p.layout.place n).index) where
    source : IsSourceIn w known f
    source = record { inside = p; is_package = h.is_package; has = at_rank p.files (p.layout.place n).file f of_rank }

    abbrev its_put : List ℕ
    its_put = put w known p n name s h count stands f of_rank source sh

    abbrev its_naming : FileChanges
    its_naming = naming w known p n name s h count stands f of_rank source sh

    abbrev its_number : ℕ
    its_number = (p.layout.place n).index

    gained : (q : Package) × HasGainedBy w known its_naming f its_number its_put p q
    gained =
        gain w whole_sound p h.is_package n f its_put
        (record { within = stands.0; unnamed = h.unnamed; of_rank = of_rank; is_put = sh.puts (p.names n) }) its_naming
        (edits_one f.path (inserted (offset_of f its_number) its_put ∷ []))

    by_gain : (q : Package) (g : HasGainedBy w known its_naming f its_number its_put p q) → IsGainedAt (i w known its_naming f its_number its_put p q g) n p q →
        HasSteps w known p n name s
    unfolding named_first
    by_gain q g is =
        let right = keep w (edited its_naming w) whole_sound its_number p q g.gained in
        let sound = none w (edited its_naming w) whole_sound its_number p q g.gained in (
          named_first w known p n name s h count stands f of_rank source sh q g is right sound,
          preserve w known p n name s h count stands f of_rank source sh q g is right sound in_turn second
              (first w whole_sound its_naming f its_number its_put p q g),
        )

    by_number : (q : Package) (g : HasGainedBy w known its_naming f its_number its_put p q) → HasSteps w known p n name s
    by_number q g =
        let y = renumber its_number p q g.gained.gains in
        by_gain q g
        (subst (λ at. IsGainedAt (i w known its_naming f its_number its_put p q g) at p q)
        (same_number w known p n name s h count stands f of_rank source sh q g y.0 y.1) y.1)

    by_file : HasSteps w known p n name s
    by_file = by_number gained.0 gained.1

  steps_of : HasSteps w known p n name s
  steps_of =
      let used = imports.used_at w known p h.is_package n h.unnamed.0 h.rename.used.0 h.rename.used.1 in
      let count = imports.counts w known p h.is_package n h.unnamed.0 h.rename.used.0 used in
      let stands = imports.stands w known p h.is_package n h.unnamed.0 count in
      let file = source_at w h.rename.sound known h.rename.right p h.is_package n stands in
      let text = text_before file.0 (p.layout.place n).index (p.names n) in
      by_file count stands file.0 file.1 (front_of file.0 (p.layout.place n).index (p.names n) text.0 text.1)

have_steps : OwnNamesAreGained → GainedNamesRenumber → GainedNamesKeepVerdicts → GainedNamesListNoFault → GainedNamesAreSteps → RevisionsInTurnPreserve →
    SecondRevisionsPreserve → UnnamedRenamesHaveSteps
have_steps gain renumber keep none first in_turn second w known p n name s h =
    steps_of gain renumber keep none first in_turn second w known p n name s h

pub unnamed_renames_have_steps : UnnamedRenamesHaveSteps
unnamed_renames_have_steps =
    have_steps own_names_are_gained gained_names_renumber gained_names_keep_verdicts gained_names_list_no_fault gained_names_are_steps
    revisions_in_turn_preserve second_revisions_preserve
