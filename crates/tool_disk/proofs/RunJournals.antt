-- The lines of a journal, from both ends, and paths on the disk.
use Rattle.std.proofs.Common.{◌≡◌, ◌∙◌, ◌<◌, ◌++◌, ℕ, Bool, List, [], ◌∷◌, Option, Some, None, ap, append_assoc, arith, drop, inl, inr, length}
use Rattle.std.proofs.Common.{length-append, lit<, map, nat_eq, refl, subst, sym, take}
use Rattle.std.specs.Prelude.{◌==◌, ◌↔◌, IsTrue, IsUtf8}
use Rattle.std.specs.Borrow.{Bor}
use Rattle.std.specs.List.{All, flat_map, starts_with}
use Rattle.std.specs.Str.{NoCharPasses}
use Rattle.std.specs.Str.Pattern.{RFindsChar, SplitsAroundMatch}
use Rattle.std.proofs.lemmas.Bool.Decides.{Decides-eqb}
use Rattle.std.proofs.lemmas.List.{append_cancel_left, map-append, same_from_push, take-append-drop}
use Rattle.std.proofs.lemmas.List.Elements.{All-cons, All-head, All-nil, All-push, All-same, All-tail}
use Rattle.std.proofs.lemmas.Slice.Eq.{starts_is}
use Rattle.std.proofs.lemmas.Str.{IsUtf8-nil}
use Rattle.std.proofs.lemmas.Str.Pattern.{NoCharPasses-char, drop_at_char}
use Rattle.tool_text.specs.Journal.{bare_texts, lines_text}
use Rattle.tool_text.specs.Parts.{HasNoByte, parts}
use Rattle.tool_text.proofs.Journals.{lines_read}
use Rattle.tool_disk.specs.declared.writing.DiskRun.{DiskRun}
use Rattle.tool_disk.specs.RunJournals.{AreJournalParts, AreUtf8, FindsRunOf, IsRunMark, JournalsAreRead, LiesInFolder, ReadsRun, RunTexts}
use Rattle.tool_disk.specs.RunJournals.{SplitsDiskPath, folder_before_slash, journal_text, run_lines, texts_of_run}

-- the lines of a run, as they are added and taken
pub run_lines_end : (run : RunTexts) → run_lines run ≡ ((run.paths ++ run.from ∷ []) ++ run.to ∷ []) ++ run.mark ∷ []
run_lines_end run =
    sym (append_assoc (run.paths ++ run.from ∷ []) (run.to ∷ []) (run.mark ∷ []) ∙ append_assoc run.paths (run.from ∷ []) (run.to ∷ run.mark ∷ []))

pub same_run : (run other : RunTexts) → run_lines run ≡ run_lines other → run ≡ other
same_run run other e =
    let marks = same_from_push ((run.paths ++ run.from ∷ []) ++ run.to ∷ []) ((other.paths ++ other.from ∷ []) ++ other.to ∷ []) run.mark other.mark
    (sym (run_lines_end run) ∙ (e ∙ run_lines_end other)) in
    let tos = same_from_push (run.paths ++ run.from ∷ []) (other.paths ++ other.from ∷ []) run.to other.to marks.0 in
    let froms = same_from_push run.paths other.paths run.from other.from tos.0 in
    (λ i. record { paths = froms.0 i; from = froms.1 i; to = tos.1 i; mark = marks.1 i })

pub too_few : (texts : List (List ℕ)) (run : RunTexts) → length texts < 4 → AreJournalParts texts run → ⊥
too_few texts run few parts =
    omega (arith, few, ap length parts.lines, length-append (run_lines run) ([] ∷ []), length-append run.paths (run.from ∷ run.to ∷ run.mark ∷ []))

-- the texts of lines that are taken from the end

pub bare_push : (lines : List (Bor (List ℕ))) (line : Bor (List ℕ)) → bare_texts (lines ++ line ∷ []) ≡ bare_texts lines ++ line.now ∷ []
bare_push lines line = map-append (λ (text : Bor (List ℕ)). text.now) lines (line ∷ [])

module _ (texts paths : List (Bor (List ℕ))) (from to mark behind : Bor (List ℕ))
    (taken : texts ≡ (((paths ++ from ∷ []) ++ to ∷ []) ++ mark ∷ []) ++ behind ∷ []) where
  whole : bare_texts texts ≡ run_lines (record { paths = bare_texts paths; from = from.now; to = to.now; mark = mark.now }) ++ behind.now ∷ []
  whole =
      ap bare_texts taken
      ∙ (bare_push (((paths ++ from ∷ []) ++ to ∷ []) ++ mark ∷ []) behind
      ∙ ap (λ l. l ++ behind.now ∷ []) (bare_push ((paths ++ from ∷ []) ++ to ∷ []) mark
      ∙ (ap (λ l. l ++ mark.now ∷ []) (bare_push (paths ++ from ∷ []) to ∙ ap (λ l. l ++ to.now ∷ []) (bare_push paths from))
      ∙ sym (run_lines_end (record { paths = bare_texts paths; from = from.now; to = to.now; mark = mark.now })))))

  pub found_run : (behind.now ≡ []) × IsRunMark mark.now →
      AreJournalParts (bare_texts texts) (record { paths = bare_texts paths; from = from.now; to = to.now; mark = mark.now })
  found_run ends = record {
    lines = whole ∙ ap (λ b. run_lines (record { paths = bare_texts paths; from = from.now; to = to.now; mark = mark.now }) ++ b ∷ []) ends.0;
    is_mark = ends.1;
  }

  pub no_run : ((behind.now ≡ []) × IsRunMark mark.now → ⊥) → (other : RunTexts) → AreJournalParts (bare_texts texts) other → ⊥
  no_run none other parts =
      let here : RunTexts = record { paths = bare_texts paths; from = from.now; to = to.now; mark = mark.now } in
      let ends = same_from_push (run_lines here) (run_lines other) behind.now [] (sym whole ∙ parts.lines) in
      let same = same_run here other ends.0 in
      none (ends.1, subst (λ (r : RunTexts). IsRunMark r.mark) (sym same) parts.is_mark)

-- journals

pub lines_text_bare : (lines : List (Bor (List ℕ))) → lines_text lines ≡ flat_map (λ (line : List ℕ). line ++ 10 ∷ []) (bare_texts lines)
lines_text_bare [] = refl
lines_text_bare (line ∷ lines) = ap (λ l. (line.now ++ 10 ∷ []) ++ l) (lines_text_bare lines)

lent : List (List ℕ) → List (Bor (List ℕ))
lent = map (λ (text : List ℕ). record { ref_ptr = (0, 0); now = text })

bare_lent : (texts : List (List ℕ)) → bare_texts (lent texts) ≡ texts
unfolding lent
bare_lent [] = refl
bare_lent (text ∷ texts) = ap (λ l. text ∷ l) (bare_lent texts)

parts_of_journal : (run : RunTexts) → All (HasNoByte 10) (run_lines run) → parts 10 (journal_text run) ≡ run_lines run ++ [] ∷ []
parts_of_journal run lines =
    let same = bare_lent (run_lines run) in
    ap (λ l. parts 10 (flat_map (λ (line : List ℕ). line ++ 10 ∷ []) l)) (sym same)
    ∙ (ap (parts 10) (sym (lines_text_bare (lent (run_lines run))))
    ∙ (lines_read (lent (run_lines run)) (subst (All (HasNoByte 10)) (sym same) lines) ∙ ap (λ l. l ++ [] ∷ []) same))

pub journals_read : JournalsAreRead
journals_read run lines is_mark other = (
  (λ parts. same_run other run (same_from_push (run_lines other) (run_lines run) [] [] (sym parts.lines ∙ parts_of_journal run lines)).0),
  (λ same.
      let here : AreJournalParts (parts 10 (journal_text run)) run = record { lines = parts_of_journal run lines; is_mark = is_mark } in
      subst (AreJournalParts (parts 10 (journal_text run))) (sym same) here),
)

-- the run of a journal, and none

pub read_from : (text : List ℕ) (lines : List (List ℕ)) (r : Option DiskRun) → lines ≡ parts 10 text → FindsRunOf lines r → ReadsRun text r
read_from text lines None same h = λ run told utf. h run (subst (λ l. AreJournalParts l run) (sym same) told)
read_from text lines (Some found) same h = subst (λ l. AreJournalParts l (texts_of_run found)) same h

are_utf8 : (lines : List (Bor (List ℕ))) → All IsUtf8 (bare_texts lines) → AreUtf8 lines
are_utf8 [] h = All-nil (λ (line : Bor (List ℕ)). IsUtf8 line.now)
are_utf8 (line ∷ lines) h =
    All-cons (λ (l : Bor (List ℕ)). IsUtf8 l.now) line lines (All-head IsUtf8 line.now (bare_texts lines) h)
    (are_utf8 lines (All-tail IsUtf8 line.now (bare_texts lines) h))

pub no_text : (text : List ℕ) (lines : List (Bor (List ℕ))) → bare_texts lines ≡ parts 10 text → (AreUtf8 lines → ⊥) → (run : RunTexts) →
    AreJournalParts (parts 10 text) run → All IsUtf8 (run_lines run) → ⊥
no_text text lines same none run told utf =
    none (are_utf8 lines (All-same IsUtf8 (bare_texts lines) (run_lines run ++ [] ∷ []) (same ∙ told.lines)
    (All-push IsUtf8 (run_lines run) [] utf IsUtf8-nil)))

-- paths

pub lies_found : (folder path rest : List ℕ) (r : Bool) → path ≡ folder ++ rest → r ≡ starts_with nat_eq rest (47 ∷ []) → IsTrue r ↔ LiesInFolder folder path
lies_found folder path rest r cut e = let told = starts_is Decides-eqb rest (47 ∷ []) r e in (
  (λ is. (drop 1 rest, cut ∙ ap (λ l. folder ++ l) (told.0 is))),
  (λ lies. told.1 lies.0 (append_cancel_left folder rest (47 ∷ lies.0) (sym cut ∙ lies.1))),
)

no_slash_in : (text : List ℕ) → NoCharPasses (λ d. d == 47) text → HasNoByte 47 text
no_slash_in text none = λ number lt. NoCharPasses-char 47 text number none (lit< tt) lt

pub split_last : (path front back folder : List ℕ) → SplitsAroundMatch (RFindsChar 47) path front back → folder ≡ folder_before_slash front →
    SplitsDiskPath path folder back
split_last path front back folder h is =
    let at : drop h.0 path ≡ 47 ∷ drop h.1 path = drop_at_char 47 path h.0 h.1 h.2.1 (lit< tt) in
    let whole : path ≡ take h.0 path ++ 47 ∷ drop h.1 path = sym (take-append-drop h.0 path) ∙ ap (λ l. take h.0 path ++ l) at in
    inl (
      front,
      whole ∙ (ap (λ l. l ++ 47 ∷ drop h.1 path) (sym h.3) ∙ ap (λ l. front ++ 47 ∷ l) (sym h.4)),
      subst (HasNoByte 47) (sym h.4) (no_slash_in (drop h.1 path) h.2.0),
      is,
    )

pub split_none : (path : List ℕ) → NoCharPasses (λ d. d == 47) path → SplitsDiskPath path (46 ∷ []) path
split_none path none = inr (refl, refl, no_slash_in path none)
