-- Renames of files, one after another.
use Rattle.std.proofs.Common.{ℕ, ◌≡◌, ◌<◌, ◌≤◌, ◌+◌, List, Option, None, drop, get_or, length, sym, ap, subst}
use Rattle.std.specs.Prelude.{Result, Ok}
use Rattle.std.proofs.lemmas.List.{drop_all}
use Rattle.serde_json.specs.Data.{Items}
use Rattle.serde_json.specs.View.{items_view, view}
use Rattle.serde_json.specs.declared.value.Value.{Value}
use Rattle.workspace_snapshot.specs.declared.snapshot.Snapshot.{Snapshot}
use Rattle.lsp_edits.specs.declared.telling.Telling.{Telling}
use Rattle.lsp_params.proofs.Listing.{values_next}
use Rattle.lsp_told.specs.Asking.{TellsNothing}
use Rattle.lsp_requests.specs.FolderMoves.{ElseOthers, MovesFirst, MovesOne}
use Rattle.lsp_told.specs.declared.fault.AskFault.{AskFault}

module _ (telling : Telling) (shown : Snapshot) where
  -- what is told of the renames that are left is told of all
  abbrev pub TellsLeft : (files left : Items) → Type 0
  TellsLeft files left = (came : Result Value AskFault) → MovesFirst telling shown left came → MovesFirst telling shown files came

  pub all_left : (files : Items) → TellsLeft files files
  all_left files came h = h

  module _ (files : List Value) (i : ℕ) (file : Value) (below : i < length files) (is : file ≡ get_or files i file)
      (before : TellsLeft (items_view files) (items_view (drop i files))) where
    -- what is told of the next one, and of those behind it
    pub one_told : (one : Result (Option Value) AskFault) (came : Result Value AskFault) → MovesOne telling shown (view file) one
        → ElseOthers one (MovesFirst telling shown (items_view (drop (i + 1) files))) came → MovesFirst telling shown (items_view files) came
    one_told one came moves others =
        before came (subst (λ left. MovesFirst telling shown left came) (sym (values_next files i file below is)) (one, moves, others))

    pub next_left : MovesOne telling shown (view file) (Ok None) → TellsLeft (items_view files) (items_view (drop (i + 1) files))
    next_left moves came h = one_told (Ok None) came moves h

  pub no_move_left : (files : List Value) (i : ℕ) (came : Result Value AskFault) → length files ≤ i → TellsLeft (items_view files) (items_view (drop i files))
      → TellsNothing came → MovesFirst telling shown (items_view files) came
  no_move_left files i came over before nothing =
      before came (subst (λ left. MovesFirst telling shown left came) (sym (ap items_view (drop_all i files over))) nothing)
