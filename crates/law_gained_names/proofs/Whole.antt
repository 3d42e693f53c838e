-- The edits of a rename exist.
use Rattle.std.proofs.Common.{ℕ, ◌≡◌, ◌⊎◌, inl, inr, List, [], ◌∷◌, ◌++◌, map, sym, subst, refl, ◌∙◌}
use Rattle.std.specs.Prelude.{◌↔◌, Contains}
use Rattle.std.specs.FinMap.{entries}
use Rattle.std.proofs.lemmas.List.Elements.{Contains-append_cases, Contains-append_left, Contains-append_right}
use Rattle.std.proofs.lemmas.Option.{slice_get_within}
use Rattle.base_lemmas.proofs.Elements.{nothing_in, first_in, later_in, first_or_later, is_mapped}
use Rattle.base_files.specs.Packages.{package_paths}
use Rattle.base_files.specs.Path.{folder}
use Rattle.base_files.specs.Workspace.{Workspace}
use Rattle.base_files.specs.declared.place.Place.{Place}
use Rattle.base_edits.specs.EditSet.{FileChanges}
use Rattle.base_edits.specs.declared.change.FileChange.{FileChange}
use Rattle.base_edits.specs.declared.edit.Edit.{Edit}
use Rattle.go_ast.specs.SourceFile.{SourceFile}
use Rattle.types_declared.specs.Package.{Package}
use Rattle.types_declared.proofs.ByteKeys.{cases_bytes}
use Rattle.workspace_check.specs.declared.findings.Findings.{Findings}
use Rattle.workspace_check.specs.Verdicts.{Verdicts}
use Rattle.workspace_check.proofs.Members.{cases_contains}
use Rattle.workspace_graph.proofs.ByPath.{number}
use Rattle.refs_binding.specs.declared.declaration.Declaration.{Declaration}
use Rattle.refs_binding.specs.Uses.{IsUseOf}
use Rattle.refs_binding.specs.Workspaces.{IsFaultless, known_in}
use Rattle.refs_binding.proofs.Units.{one_package}
use Rattle.refs_binding.proofs.PackageNumbers.{package_there}
use Rattle.std.proofs.lemmas.Option.{same_Some}
use Rattle.refs_uses.specs.UsesOfEach.{IsUseOfSome, ListsUsesOfEach}
use Rattle.refactor_rename.specs.declared.renamed.Renamed.{Renamed}
use Rattle.refactor_rename.specs.FileEdits.{AreFileEdits}
use Rattle.refactor_rename.specs.Changes as changes_of
use Rattle.refactor_rename.specs.Changes.{AddsChange, change_to, AreSourceChanges}
use Rattle.refactor_rename.specs.RenameEdits.{IsSourceIn}
use Rattle.refactor_rename.proofs.Changing.{Changing, changing_next, changing_past, changing_last, fits_from, edits_from}
use Rattle.refactor_rename.proofs.Sources.{entry_path, entries_in_order, none_found, source_entry, source_file, source_folder}
use Rattle.law_gained_names.specs.Existing.{RenameEditsExist}
use Rattle.law_gained_names.proofs.FileEdits.{file_edits}
use Rattle.law_gained_names.proofs.Listed.{sorted, uses_listed}
use Rattle.law_gained_names.proofs.RenameEditsLiterals.{literal_decided}

-- the file of a path among some

file_among : (fs : List SourceFile) (path : List ℕ) → ((f : SourceFile) × (Contains fs f × (f.path ≡ path))) ⊎ ((f : SourceFile) → Contains fs f →
    f.path ≡ path → ⊥)
file_among [] path = inr (λ f has e. nothing_in f has)
file_among (f ∷ fs) path = elim (cases_bytes f.path path) [
  | inl here ↦ inl (f, (first_in f fs, here))
  | inr other ↦ elim (file_among fs path) [
    | inl there ↦ inl (there.0, (later_in f fs there.0 there.1.0, there.1.1))
    | inr none ↦ inr (λ g has e. elim (first_or_later f fs g has) [
      | inl same ↦ other (subst (λ (x : SourceFile). x.path ≡ path) (sym same) e)
      | inr later ↦ none g later e
    ])
  ]
]

module _ (w : Workspace) (found : Findings) (faultless : IsFaultless w found) (r : Renamed) where
  abbrev known : Verdicts
  known = known_in found

  -- the Go file at a path, if there is one

  IsThere : List ℕ → SourceFile → Type 0
  IsThere path f = IsSourceIn w known f × (f.path ≡ path)

  source_at : (path : List ℕ) → ((f : SourceFile) × IsThere path f) ⊎ ((f : SourceFile) → IsSourceIn w known f → f.path ≡ path → ⊥)
  unfolding IsThere
  source_at path = elim (cases_contains (package_paths w) (folder path)) [
    | inr empty ↦ inr (none_found w known path empty)
    | inl there ↦ (
        let n = number w (folder path) there in
        let p = package_there w found faultless n.0 (slice_get_within (package_paths w) n.0 (folder path) n.1) in
        let at : folder path ≡ p.0.path = same_Some (folder path) p.0.path (sym n.1 ∙ p.1.has_number) in
        elim (file_among p.0.files path) [
          | inl f ↦ inl (f.0, (record { inside = p.0; is_package = p.1.is_package; has = f.1.0 }, f.1.1))
          | inr none ↦ inr (λ f s e.
              let same : s.inside ≡ p.0 = one_package w known s.inside p.0 s.is_package p.1.is_package
              (sym (source_folder w known f s) ∙ subst (λ q. folder f.path ≡ folder q) e refl ∙ at) in
              none f (subst (λ (x : Package). Contains x.files f) same s.has) e)
        ])
  ]

  -- file after file

  Changed : Type 0
  Changed = (cs : List FileChange) × Changing w known r [] cs

  added : (f : SourceFile) (old : List FileChange) (edits : List Edit) → AreFileEdits f r edits → (new : List FileChange) × AddsChange f r old new
  added f old [] are = (old, changes_of.none are)
  added f old (e ∷ es) are = (old ++ change_to f (e ∷ es) ∷ [], changes_of.one (e ∷ es) are)

  changed : (left : List (List ℕ)) (cs : List FileChange) → Changing w known r left cs → Changed
  unfolding Changed IsThere
  changed [] cs h = (cs, h)
  changed (path ∷ left) cs h = elim (source_at path) [
    | inr other ↦ changed left cs (changing_past w known r path left cs other h)
    | inl f ↦ (
        let edits = file_edits f.0 r (source_file w known f.0 f.1.0).parsed.is_file in
        let new = added f.0 cs edits.0 edits.1 in
        changed left new.0 (changing_next w known r path left f.0 cs new.0 f.1.0 f.1.1 new.1 h))
  ]

  pub changes : (cs : List FileChange) × AreSourceChanges w known r cs
  unfolding Changed
  changes =
      let all = changed (map entry_path (entries w)) [] (record {
        in_order = entries_in_order w;
        each = λ c has. absurd (nothing_in c has);
        all = λ f s. inl (is_mapped entry_path (entries w) (f.path, f.cut.text) (source_entry w known f s));
      }) in
      (all.0, changing_last w known r [] all.0 refl all.1)

-- the uses of each of the set, in order

places_of_each : (w : Workspace) (found : Findings) → IsFaultless w found → (set : List Declaration) →
    (places : List Place) × ((place : Place) → Contains places place ↔ IsUseOfSome w (known_in found) set place)
places_of_each w found faultless [] = (
  [],
  λ place. ((λ has. absurd (nothing_in place has)), (λ u. absurd (nothing_in u.declaration u.among))),
)
places_of_each w found faultless (d ∷ ds) =
    let known = known_in found in
    let one = uses_listed w found faultless d in
    let rest = places_of_each w found faultless ds in (
      one.0 ++ rest.0,
      λ place. (
        (λ has. elim (Contains-append_cases one.0 rest.0 place has) [
          | inl here ↦ record { declaration = d; among = first_in d ds; is_use = (one.1.each place).0 here }
          | inr more ↦
              let u = (rest.1 place).0 more in
              record { declaration = u.declaration; among = later_in d ds u.declaration u.among; is_use = u.is_use }
        ]),
        (λ u. elim (first_or_later d ds u.declaration u.among) [
          | inl same ↦ Contains-append_left one.0 rest.0 place ((one.1.each place).1 (subst (λ e. IsUseOf w known e place) (sym same) u.is_use))
          | inr later ↦ Contains-append_right one.0 rest.0 place
              ((rest.1 place).1 (record { declaration = u.declaration; among = later; is_use = u.is_use }))
        ]),
      ),
    )

listed_of_each : (w : Workspace) (found : Findings) → IsFaultless w found → (set : List Declaration) →
    (places : List Place) × ListsUsesOfEach w (known_in found) set places
listed_of_each w found faultless set =
    let all = places_of_each w found faultless set in
    let s = sorted all.0 in (
      s.0,
      record {
        in_order = s.1.0;
        each = λ place. ((λ has. (all.1 place).0 ((s.1.1 place).0 has)), (λ u. (s.1.1 place).1 ((all.1 place).1 u)));
      },
    )

pub edits_exist : RenameEditsExist
edits_exist w found faultless d set name =
    let known = known_in found in
    let places = listed_of_each w found faultless set in
    let literal = literal_decided w found faultless d in
    let r : Renamed = record { places = places.0; literal = literal.0; name = name } in
    let cs = changes w found faultless r in
    let s : FileChanges = record { changed = cs.0; added = [] } in
    record {
      changes = s;
      edits = record {
        renamed = r;
        is_renamed = record { uses = places.1; literal = literal.1; named = refl };
        edits = edits_from w known r cs.0 [] s refl refl cs.1;
      };
      fit = fits_from w known r cs.0 [] s refl refl cs.1;
    }
