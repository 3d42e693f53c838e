-- What is told of changed files, one more at the end.
use Rattle.std.proofs.Common.{◌≡◌, ◌∙◌, ◌+◌, ◌<◌, ℕ, List, [], ◌∷◌, ◌++◌, get_or, length, refl, subst, sym, take, ap, append_assoc, append-nil}
use Rattle.std.proofs.lemmas.List.{take_more}
use Rattle.base_files.specs.Workspace.{Workspace}
use Rattle.base_edits.specs.declared.change.FileChange.{FileChange}
use Rattle.tool_told.specs.Telling.{TellsFile, TellsFiles}
use Rattle.tool_told.specs.declared.telling.Naming.{Naming}

module _ (naming : Naming) (after : Workspace) (change : FileChange) (last : List ℕ) (tells : TellsFile naming after change last) where
  tells_one_more : (changes : List FileChange) (told : List ℕ) → TellsFiles naming after changes told
      → TellsFiles naming after (changes ++ change ∷ []) (told ++ last)
  tells_one_more [] told h =
      let whole : told ++ last ≡ last ++ [] = ap (λ t. t ++ last) h ∙ sym (append-nil last) in
      (last, [], whole, tells, refl)
  tells_one_more (first ∷ changes) told h =
      let whole : told ++ last ≡ h.0 ++ (h.1 ++ last) = ap (λ t. t ++ last) h.2 ∙ append_assoc h.0 h.1 last in
      (h.0, h.1 ++ last, whole, h.3, tells_one_more changes h.1 h.4)

-- what is told of the files so far, with one file more
pub tells_step : (naming : Naming) (after : Workspace) (changes : List FileChange) (i : ℕ) (change : FileChange) (before text whole : List ℕ)
    → i < length changes → change ≡ get_or changes i change
    → (told : List ℕ) × TellsFiles naming after (take i changes) told × (text ≡ before ++ told)
    → (told : List ℕ) × TellsFile naming after change told × (whole ≡ text ++ told)
    → (told : List ℕ) × TellsFiles naming after (take (i + 1) changes) told × (whole ≡ before ++ told)
tells_step naming after changes i change before text whole low at so_far step =
    let more : take (i + 1) changes ≡ take i changes ++ change ∷ [] =
    take_more changes i change low ∙ ap (λ one. take i changes ++ one ∷ []) (sym at) in (
      so_far.0 ++ step.0,
      subst (λ some. TellsFiles naming after some (so_far.0 ++ step.0)) (sym more)
          (tells_one_more naming after change step.0 step.1 (take i changes) so_far.0 so_far.1),
      step.2 ∙ ap (λ t. t ++ step.0) so_far.2 ∙ append_assoc before so_far.0 step.0,
    )
