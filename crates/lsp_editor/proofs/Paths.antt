-- Paths, folder by folder.
use Rattle.std.proofs.Common.{ℕ, ◌≡◌, ◌∙◌, ◌<◌, ◌≤◌, ◌+◌, ◌-◌, ◌&&◌, true, false, inl, inr, List, [], ◌∷◌, drop, length, take, refl, sym, ap, arith}
use Rattle.std.proofs.lemmas.Bool.{cases_lt}
use Rattle.tool_text.proofs.Cuts.{cut_none, cut_there, place}
use Rattle.tool_text.specs.Parts.{parts}
use Rattle.tool_text.specs.Taken.{takes_folder}
use Rattle.lsp_editor.specs.Taken.{takes_below, takes_name, takes_path}

-- without a slash the path is the name of a file
pub file_alone : (path : List ℕ) (n : ℕ) → n ≡ place 47 path → length path ≤ n → takes_path path ≡ takes_name path
file_alone path n ends over = ap takes_below (cut_none 47 path (omega (arith, ends, over)))

-- what stands behind the byte at a place
abbrev pub behind : (path : List ℕ) (n : ℕ) → List ℕ
behind path n = take (length path - (n + 1)) (drop (n + 1) path)

abbrev HasFirst : List (List ℕ) → Type 0
HasFirst all = (first : List ℕ) × (others : List (List ℕ)) × (all ≡ first ∷ others)

has_first : (path : List ℕ) → HasFirst (parts 47 path)
has_first path = elim (cases_lt (place 47 path) (length path)) [
  | inl there ↦ (take (place 47 path) path, parts 47 (behind path (place 47 path)), cut_there 47 path (place 47 path) refl there)
  | inr over ↦ (path, [], cut_none 47 path over)
]

through_folder : (folder : List ℕ) (all : List (List ℕ)) → HasFirst all → takes_below (folder ∷ all) ≡ takes_folder folder && takes_below all
through_folder folder all h =
    ap (λ l. takes_below (folder ∷ l)) h.2 ∙ sym (ap (λ l. takes_folder folder && takes_below l) h.2)

module _ (path : List ℕ) (n : ℕ) (ends : n ≡ place 47 path) (there : n < length path) where
  first_folder : takes_path path ≡ takes_folder (take n path) && takes_path (behind path n)
  first_folder =
      ap takes_below (cut_there 47 path n ends there) ∙ through_folder (take n path) (parts 47 (behind path n)) (has_first (behind path n))

  -- behind a folder that is taken the rest counts
  pub folder_taken : takes_folder (take n path) ≡ true → takes_path path ≡ takes_path (behind path n)
  folder_taken taken = first_folder ∙ ap (λ b. b && takes_path (behind path n)) taken

  -- behind a folder that is not taken nothing is
  pub folder_left_out : takes_folder (take n path) ≡ false → takes_path path ≡ false
  folder_left_out taken = first_folder ∙ ap (λ b. b && takes_path (behind path n)) taken
