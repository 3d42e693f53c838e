-- What is printed is what the commands tell.
use Rattle.std.proofs.Common.{◌≡◌, ◌∙◌, ◌++◌, ℕ, Bool, true, false, List, [], Option, None, Some, Result, Ok, IfOk, IsTrue, Bor}
use Rattle.std.proofs.Common.{refl, subst, sym, length, nat_eq}
use Rattle.std.proofs.lemmas.Bool.{false≢true}
use Rattle.std.specs.FinMap as finmap
use Rattle.std.specs.Option.{option_copied}
use Rattle.std.specs.Prelude.{is_some, string_bytes}
use Rattle.base_files.specs.Path.{IsPath}
use Rattle.base_files.specs.Workspace.{Workspace}
use Rattle.base_files.specs.declared.place.Place.{Place}
use Rattle.base_files.specs.declared.refusal.Refusal.{Refusal}
use Rattle.base_edits.specs.declared.change.FileChange.{FileChange}
use Rattle.types_expr.proofs.Equations.{ok_map}
use Rattle.refactor_affected.specs.Moves.{PlansAffectedMove}
use Rattle.refs_binding.specs.Uses.{AnswersUses}
use Rattle.workspace_check.specs.FaultLists.{ListsFaults}
use Rattle.workspace_check.specs.declared.fault.FileFault.{FileFault}
use Rattle.workspace_snapshot.specs.declared.change.Change.{Change}
use Rattle.tool_told.specs.Asked.{FindsText, path_below}
use Rattle.tool_told.specs.Outcomes.{Prints, Shows}
use Rattle.tool_told.specs.Telling.{faults_text, places_text, refusal_text, rewrite_parts, rewrites_of}
use Rattle.tool_told.specs.declared.outcome.CommandOutcome.{CommandOutcome}
use Rattle.tool_told.specs.declared.rewriting.Rewrite.{Rewrite}
use Rattle.tool_told.specs.declared.telling.Naming.{Naming}
use Rattle.tool_commands.specs.Told.{IsAskedPlace, IsNamingOf, TellsChange, TellsFaults, TellsMove, TellsRefusal, TellsUses, TellsWriting}
use Rattle.tool_commands.specs.declared.opened.Opened.{Opened}

-- the place of a byte whose file was read
pub asked_there : (files : Workspace) (path own : List ℕ) (offset : ℕ) (found : Option (Bor (List ℕ))) (there : Bool) → own ≡ path → IsPath 1 path
    → option_copied found ≡ finmap.get files own → there ≡ is_some found → IsTrue there
    → IsAskedPlace files path offset (Some record { path = own; offset = offset })
asked_there files path own offset (Some text) there same is_path got is is_true =
    let is_own : IsPath 1 own = subst (IsPath 1) (sym same) is_path in
    let at_own : FindsText files own (Some text.now) = record { at_path = λ _. got; no_path = λ no. absurd (no is_own) } in
    subst (λ p. IsAskedPlace files p offset (Some record { path = own; offset = offset })) same (Some text.now, at_own, refl)
asked_there files path own offset None there same is_path got is is_true = absurd (false≢true (sym is ∙ is_true))

-- a move that is made or shown
pub tells_moved : {E : Type 0} (opened : Opened) (r : Result CommandOutcome E) (from to source target : List ℕ) (dry_run : Bool) (change : Change)
    → source ≡ path_below (string_bytes opened.prefix) from → target ≡ path_below (string_bytes opened.prefix) to
    → PlansAffectedMove opened.folder source target (Ok change) → IfOk r (TellsChange opened dry_run change)
    → IfOk r (TellsMove opened from to dry_run)
tells_moved opened r from to source target dry_run change is_source is_target plans =
    let at_source = subst (λ p. PlansAffectedMove opened.folder p target (Ok change)) is_source plans in
    let at_both = subst (λ p. PlansAffectedMove opened.folder (path_below (string_bytes opened.prefix) from) p (Ok change)) is_target at_source in
    ok_map r (λ outcome tells. record { answer = Ok change; plans = at_both; tells = tells })

module _ {E : Type 0} (opened : Opened) (naming : Naming) (is_naming : IsNamingOf opened naming) (r : Result CommandOutcome E) where
  -- a refusal
  pub tells_refusal : (notes word given : List ℕ) (place : Option Place) (refusal : Refusal) → notes ≡ opened.notes.items → given ≡ word
      → IfOk r (Prints [] (notes ++ refusal_text naming given place refusal) false) → IfOk r (TellsRefusal opened word place refusal)
  tells_refusal notes word given place refusal is_notes is_word = ok_map r (λ outcome prints.
      let told = subst (λ w. Prints [] (notes ++ refusal_text naming w place refusal) false outcome) is_word prints in
      (naming, is_naming, subst (λ n. Prints [] (n ++ refusal_text naming word place refusal) false outcome) is_notes told))

  -- a change that is shown
  pub tells_shown : (notes : List ℕ) (after : Workspace) (changes : List FileChange) (change : Change) → notes ≡ opened.notes.items
      → after ≡ change.files → changes ≡ change.edits.changed
      → IfOk r (Shows naming after changes notes) → IfOk r (TellsChange opened true change)
  tells_shown notes after changes change is_notes is_after is_changes = ok_map r (λ outcome shows.
      let at_files = subst (λ w. Shows naming w changes notes outcome) is_after shows in
      let at_changes = subst (λ l. Shows naming change.files l notes outcome) is_changes at_files in
      (naming, is_naming, subst (λ n. Shows naming change.files change.edits.changed n outcome) is_notes at_changes))

  -- a change that is made
  pub tells_written : (after : Workspace) (changes : List FileChange) (change : Change) (rewrites slice : List Rewrite)
      → after ≡ change.files → changes ≡ change.edits.changed → slice ≡ rewrites → rewrite_parts rewrites ≡ rewrites_of naming after changes
      → IfOk r (TellsWriting slice opened.notes.items) → IfOk r (TellsChange opened false change)
  tells_written after changes change rewrites slice is_after is_changes is_slice parts =
      let at_files = subst (λ w. rewrite_parts rewrites ≡ rewrites_of naming w changes) is_after parts in
      let at_changes = subst (λ l. rewrite_parts rewrites ≡ rewrites_of naming change.files l) is_changes at_files in
      ok_map r (λ outcome tells. (
        naming,
        rewrites,
        is_naming,
        at_changes,
        subst (λ l. TellsWriting l opened.notes.items outcome) is_slice tells,
      ))

  -- uses
  pub tells_places : (notes word path : List ℕ) (offset : ℕ) (places slice : List Place) → notes ≡ opened.notes.items → slice ≡ places
      → AnswersUses opened.folder.files path offset (Ok places)
      → IfOk r (Prints (places_text naming slice) notes true) → IfOk r (TellsUses opened word path offset)
  tells_places notes word path offset places slice is_notes is_slice answers = ok_map r (λ outcome prints.
      let told = subst (λ l. Prints (places_text naming l) notes true outcome) is_slice prints in
      let noted = subst (λ n. Prints (places_text naming places) n true outcome) is_notes told in
      record { answer = Ok places; answers = answers; tells = (naming, is_naming, noted) })

  -- faults
  pub tells_faults : (notes : List ℕ) (list slice : List FileFault) → notes ≡ opened.notes.items → slice ≡ list
      → ListsFaults opened.folder.files list
      → IfOk r (Prints (faults_text naming slice) notes (nat_eq (length slice) 0)) → IfOk r (TellsFaults opened)
  tells_faults notes list slice is_notes is_slice lists = ok_map r (λ outcome prints.
      let told = subst (λ l. Prints (faults_text naming l) notes (nat_eq (length l) 0) outcome) is_slice prints in
      let noted = subst (λ n. Prints (faults_text naming list) n (nat_eq (length list) 0) outcome) is_notes told in
      record { list = list; lists = lists; naming = naming; is_naming = is_naming; prints = noted })
