-- The files that are written, and what a run that writes them notes.
use Rattle.std.proofs.Common.{◌≡◌, ◌∙◌, ◌++◌, ℕ, zero, suc, List, [], ◌∷◌, ap, arith, false, inr, refl, subst, take}
use Rattle.tool_text.specs.Journal.{lines_text}
use Rattle.tool_disk.specs.Writes.{file_parts, paths_of}
use Rattle.tool_disk.specs.declared.writing.FileOf.{FileOf}
use Rattle.tool_told.specs.Outcomes.{Prints, cut_off_text}
use Rattle.tool_told.specs.declared.outcome.CommandOutcome.{CommandOutcome}
use Rattle.tool_told.specs.declared.rewriting.Rewrite.{Rewrite}
use Rattle.tool_commands.specs.Told.{TellsWriting, old_paths_text, text_parts}

-- one file more
pub files_push : (files : List FileOf) (file : FileOf) → file_parts (files ++ file ∷ []) ≡ file_parts files ++ (file.path.now, file.text.now) ∷ []
files_push [] file = refl
files_push (first ∷ files) file = ap (λ l. (first.path.now, first.text.now) ∷ l) (files_push files file)

abbrev first_of : List (List ℕ × List ℕ) → List ℕ
first_of [] = []
first_of (part ∷ parts) = part.0

abbrev others_of : List (List ℕ × List ℕ) → List (List ℕ × List ℕ)
others_of [] = []
others_of (part ∷ parts) = parts

abbrev length_of : List (List ℕ × List ℕ) → ℕ
length_of [] = 0
length_of (part ∷ parts) = suc (length_of parts)

-- the lines that a run notes are the paths of the rewritten files
pub lines_noted : (files : List FileOf) (rewrites : List Rewrite) (number : ℕ) → file_parts files ≡ text_parts rewrites
    → lines_text (take number (paths_of files)) ≡ old_paths_text (take number rewrites)
lines_noted files rewrites zero e = refl
lines_noted [] [] (suc number) e = refl
lines_noted [] (rewrite ∷ rewrites) (suc number) e =
    let none : 0 ≡ suc (length_of (text_parts rewrites)) = ap length_of e in
    absurd (omega (arith, none))
lines_noted (file ∷ files) [] (suc number) e =
    let none : suc (length_of (file_parts files)) ≡ 0 = ap length_of e in
    absurd (omega (arith, none))
lines_noted (file ∷ files) (rewrite ∷ rewrites) (suc number) e =
    let path : file.path.now ≡ rewrite.path.now = ap first_of e in
    let rest = lines_noted files rewrites number (ap others_of e) in
    ap (λ p. (p ++ 10 ∷ []) ++ lines_text (take number (paths_of files))) path
    ∙ ap (λ l. (rewrite.path.now ++ 10 ∷ []) ++ l) rest

-- what is told of a run that was cut off, which had noted nothing before
pub tells_cut_off : (files : List FileOf) (rewrites : List Rewrite) (number : ℕ) (notes given why old done : List ℕ) (outcome : CommandOutcome)
    → file_parts files ≡ text_parts rewrites → given ≡ notes → old ≡ [] → done ≡ old ++ lines_text (take number (paths_of files))
    → Prints done (given ++ cut_off_text why) false outcome → TellsWriting rewrites notes outcome
tells_cut_off files rewrites number notes given why old done outcome same is_notes is_old is_done prints =
    let noted = is_done ∙ ap (λ l. l ++ lines_text (take number (paths_of files))) is_old ∙ lines_noted files rewrites number same in
    let printed = subst (λ d. Prints d (given ++ cut_off_text why) false outcome) noted prints in
    inr (number, why, subst (λ n. Prints (old_paths_text (take number rewrites)) (n ++ cut_off_text why) false outcome) is_notes printed)
