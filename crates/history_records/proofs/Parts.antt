-- The parts of changes at the beginning of bytes.
use Rattle.std.proofs.Common.{Bool, false, ◌==◌, ◌≡◌, ℕ, ◌<◌, List, [], ◌∷◌, ◌++◌, append-nil}
use Rattle.std.proofs.Common.{append_assoc, drop, length, length-append, refl, slice_index_or, sym, ap, subst, ◌∙◌, arith}
use Rattle.std.proofs.lemmas.Bool.{false≢true}
use Rattle.std.specs.Prelude.{IfErr, IsErrAnd, Result, Ok, Err}
use Rattle.base_edits.specs.EditSet.{FileChanges}
use Rattle.base_edits.specs.Fits.{IsEditSet}
use Rattle.base_edits.specs.declared.change.Fate.{Fate}
use Rattle.base_edits.specs.declared.change.Fate.TheVariants.{Stays, Moves, Dropped}
use Rattle.base_edits.specs.declared.change.FileChange.{FileChange}
use Rattle.base_edits.specs.declared.edit.Edit.{Edit}
use Rattle.base_files.specs.declared.place.Span.{Span}
use Rattle.history_records.specs.Encoded.{AreChangedFiles, AreCounted, FailsToDecode, IsAddedFile, AreBytesOf, IsEdit}
use Rattle.history_records.specs.Encoded.{IsFate, IsFileChange, IsKeptChange, IsKeptSet, IsNoChange, IsNumber, IsPathText}
use Rattle.history_records.specs.Encoded.{IsSpan, IsText, StartsWith, StartsWithNone, added_bytes, change_bytes, edit_bytes}
use Rattle.history_records.specs.Encoded.{edit_set_bytes, fate_bytes, file_change_bytes, list_bytes, number_bytes, span_bytes, text_bytes}
use Rattle.history_records.specs.Laws.{OneChangeOfBytes}
use Rattle.history_records.specs.declared.change.ChangeFault.{ChangeFault}
use Rattle.history_records.specs.declared.change.ChangeFault.TheVariants.{Memory, NoChange}
use Rattle.history_records.specs.declared.change.KeptChange.{KeptChange}
use Rattle.history_records.specs.declared.change.KeptChange.TheVariants.{Commit, Undo, Redo}
use Rattle.history_records.proofs.Coded.{IsOnce, list_once, number_once, once_both}
use Rattle.history_records.proofs.Heads.{parts_same}

-- a fault is told on
pub told_on : {A : Type 0} (P : ChangeFault → Type 0) (fault : ChangeFault) (r : Result A ChangeFault) → IsErrAnd r (λ x. x ≡ fault) → P fault → IfErr r P
told_on P fault (Ok v) e p = absurd e
told_on P fault (Err x) e p = subst P (sym e) p

-- ---- one value at most

pub text_once : IsOnce text_bytes IsText
text_once t u r s p q e =
    let split = sym (append_assoc (number_bytes (length t)) t r) ∙ e ∙ append_assoc (number_bytes (length u)) u s in
    let counts = number_once (length t) (length u) (t ++ r) (u ++ s) p q split in
    parts_same t u r s counts.0 counts.1

short_path : (path : List ℕ) → IsPathText path → IsText path
short_path path is = omega (arith, is.0.short)

pub path_once : IsOnce text_bytes IsPathText
path_once t u r s p q e = text_once t u r s (short_path t p) (short_path u q) e

-- the first byte, and the bytes behind it
head_same : (a b : ℕ) (x y : List ℕ) → a ∷ x ≡ b ∷ y → a ≡ b
head_same a b x y e = ap (λ (xs : List ℕ). slice_index_or xs 0 0) e

tail_same : (a b : ℕ) (x y : List ℕ) → a ∷ x ≡ b ∷ y → x ≡ y
tail_same a b x y e = ap (λ (xs : List ℕ). drop 1 xs) e

pub fate_once : IsOnce fate_bytes IsFate
fate_once Stays Stays r s p q e = (refl, tail_same 0 0 r s e)
fate_once Stays (Moves u) r s p q e = absurd (omega (arith, head_same 0 1 r (text_bytes u ++ s) e))
fate_once Stays Dropped r s p q e = absurd (omega (arith, head_same 0 2 r s e))
fate_once (Moves t) Stays r s p q e = absurd (omega (arith, head_same 1 0 (text_bytes t ++ r) s e))
fate_once (Moves t) (Moves u) r s p q e =
    let same = path_once t u r s p q (tail_same 1 1 (text_bytes t ++ r) (text_bytes u ++ s) e) in
    (ap (λ (x : List ℕ). Moves x) same.0, same.1)
fate_once (Moves t) Dropped r s p q e = absurd (omega (arith, head_same 1 2 (text_bytes t ++ r) s e))
fate_once Dropped Stays r s p q e = absurd (omega (arith, head_same 2 0 r s e))
fate_once Dropped (Moves u) r s p q e = absurd (omega (arith, head_same 2 1 r (text_bytes u ++ s) e))
fate_once Dropped Dropped r s p q e = (refl, tail_same 2 2 r s e)

pub span_once : IsOnce span_bytes IsSpan
span_once = once_both number_bytes IsNumber number_bytes IsNumber (λ (s : Span). s.start) (λ (s : Span). s.end) number_once number_once
    (λ v w p q. λ i. record { start = p i; end = q i })

pub edit_once : IsOnce edit_bytes IsEdit
edit_once = once_both span_bytes IsSpan text_bytes IsText (λ (e : Edit). e.span) (λ (e : Edit). e.text) span_once text_once
    (λ v w p q. λ i. record { span = p i; text = q i })

pub edits_once : IsOnce (list_bytes edit_bytes) (AreCounted IsEdit)
edits_once = list_once edit_bytes IsEdit edit_once

-- what becomes of a file's path, and the edits
abbrev pub FatedEdits : Type 0
FatedEdits = Fate × List Edit

abbrev pub fated_bytes : FatedEdits → List ℕ
fated_bytes f = fate_bytes f.0 ++ list_bytes edit_bytes f.1

abbrev pub IsFated : FatedEdits → Type 0
IsFated f = IsFate f.0 × AreCounted IsEdit f.1

abbrev pub fated_of : FileChange → FatedEdits
fated_of c = (c.fate, c.edits)

pub fated_once : IsOnce fated_bytes IsFated
fated_once = once_both fate_bytes IsFate (list_bytes edit_bytes) (AreCounted IsEdit) (λ (f : FatedEdits). f.0) (λ (f : FatedEdits). f.1) fate_once edits_once
    (λ v w p q. λ i. (p i, q i))

pub file_change_once : IsOnce file_change_bytes IsFileChange
file_change_once = once_both text_bytes IsPathText fated_bytes IsFated (λ (c : FileChange). c.path) fated_of path_once fated_once
    (λ v w p q. λ i. record { path = p i; edits = (q i).1; fate = (q i).0 })

pub added_once : IsOnce added_bytes IsAddedFile
added_once = once_both text_bytes IsPathText text_bytes IsText (λ (f : List ℕ × List ℕ). f.0) (λ (f : List ℕ × List ℕ). f.1) path_once text_once
    (λ v w p q. λ i. (p i, q i))

pub changed_once : IsOnce (list_bytes file_change_bytes) (AreCounted IsFileChange)
changed_once = list_once file_change_bytes IsFileChange file_change_once

pub files_once : IsOnce edit_set_bytes AreChangedFiles
files_once = once_both (list_bytes file_change_bytes) (AreCounted IsFileChange) (list_bytes added_bytes) (AreCounted IsAddedFile)
    (λ (s : FileChanges). s.changed) (λ (s : FileChanges). s.added) changed_once (list_once added_bytes IsAddedFile added_once)
    (λ v w p q. λ i. record { changed = p i; added = q i })

-- ---- texts

pub text_found : (bytes : List ℕ) (count : ℕ) (behind text rest : List ℕ) → StartsWith number_bytes IsNumber bytes count behind →
    behind ≡ text ++ rest → length text ≡ count → StartsWith text_bytes IsText bytes text rest
text_found bytes count behind text rest counted parts long = (
  subst IsNumber (sym long) counted.0,
  counted.1 ∙ ap (λ (n : ℕ). number_bytes n ++ behind) (sym long) ∙ ap (λ (x : List ℕ). number_bytes (length text) ++ x) parts
      ∙ sym (append_assoc (number_bytes (length text)) text rest),
)

pub text_fails : (bytes : List ℕ) (fault : ChangeFault) → FailsToDecode number_bytes IsNumber bytes fault → FailsToDecode text_bytes IsText bytes fault
text_fails bytes Memory none = tt
text_fails bytes NoChange none = λ t rest is. none (length t) (t ++ rest) (is.0, is.1 ∙ append_assoc (number_bytes (length t)) t rest)

pub text_too_short : (bytes : List ℕ) (count : ℕ) (behind : List ℕ) → StartsWith number_bytes IsNumber bytes count behind → length behind < count →
    StartsWithNone text_bytes IsText bytes
text_too_short bytes count behind counted few t rest is =
    let counts = number_once count (length t) behind (t ++ rest) counted.0 is.0 (sym counted.1 ∙ is.1 ∙ append_assoc (number_bytes (length t)) t rest) in
    omega (arith, few, counts.0, ap length counts.1, length-append t rest)

-- a text that is no path
pub path_fails : (bytes : List ℕ) (fault : ChangeFault) → FailsToDecode text_bytes IsText bytes fault → FailsToDecode text_bytes IsPathText bytes fault
path_fails bytes Memory none = tt
path_fails bytes NoChange none = λ t rest is. none t rest (short_path t is.0, is.1)

pub not_path : (bytes text rest : List ℕ) (fault : ChangeFault) → StartsWith text_bytes IsText bytes text rest →
    (fault ≡ NoChange → IsPathText text → ⊥) → FailsToDecode text_bytes IsPathText bytes fault
not_path bytes text rest Memory found not = tt
not_path bytes text rest NoChange found not = λ t more is.
    let same = text_once text t rest more found.0 (short_path t is.0) (sym found.1 ∙ is.1) in
    not refl (subst IsPathText (sym same.0) is.0)

-- ---- what becomes of a path

pub stays_found : (rest : List ℕ) → StartsWith fate_bytes IsFate (0 ∷ rest) Stays rest
stays_found rest = (tt, refl)

pub dropped_found : (rest : List ℕ) → StartsWith fate_bytes IsFate (2 ∷ rest) Dropped rest
dropped_found rest = (tt, refl)

pub moves_found : (bytes path rest : List ℕ) → StartsWith text_bytes IsPathText bytes path rest → StartsWith fate_bytes IsFate (1 ∷ bytes) (Moves path) rest
moves_found bytes path rest is = (is.0, ap (λ (x : List ℕ). 1 ∷ x) is.1)

no_move : (bytes : List ℕ) → StartsWithNone text_bytes IsPathText bytes → StartsWithNone fate_bytes IsFate (1 ∷ bytes)
no_move bytes none Stays rest is = absurd (omega (arith, head_same 1 0 bytes rest is.1))
no_move bytes none (Moves t) rest is = none t rest (is.0, tail_same 1 1 bytes (text_bytes t ++ rest) is.1)
no_move bytes none Dropped rest is = absurd (omega (arith, head_same 1 2 bytes rest is.1))

pub moves_fail : (bytes : List ℕ) (fault : ChangeFault) → FailsToDecode text_bytes IsPathText bytes fault → FailsToDecode fate_bytes IsFate (1 ∷ bytes) fault
moves_fail bytes Memory none = tt
moves_fail bytes NoChange none = no_move bytes none

no_bytes_are : (a : ℕ) (x : List ℕ) → [] ≡ a ∷ x → ⊥
no_bytes_are a x e = omega (arith, ap length e)

pub no_fate : (bytes : List ℕ) → length bytes ≡ 0 → StartsWithNone fate_bytes IsFate bytes
no_fate [] none Stays rest is = no_bytes_are 0 rest is.1
no_fate [] none (Moves t) rest is = no_bytes_are 1 (text_bytes t ++ rest) is.1
no_fate [] none Dropped rest is = no_bytes_are 2 rest is.1
no_fate (b ∷ bytes) none v rest is = absurd (omega (arith, none))

pub other_fate : (tag : ℕ) (rest : List ℕ) → (tag ≡ 0 → ⊥) → (tag ≡ 1 → ⊥) → (tag ≡ 2 → ⊥) → StartsWithNone fate_bytes IsFate (tag ∷ rest)
other_fate tag rest a b c Stays more is = a (head_same tag 0 rest more is.1)
other_fate tag rest a b c (Moves t) more is = b (head_same tag 1 rest (text_bytes t ++ more) is.1)
other_fate tag rest a b c Dropped more is = c (head_same tag 2 rest more is.1)

-- ---- edit sets

pub set_fails : (bytes : List ℕ) (fault : ChangeFault) → FailsToDecode edit_set_bytes AreChangedFiles bytes fault →
    FailsToDecode edit_set_bytes IsKeptSet bytes fault
set_fails bytes Memory none = tt
set_fails bytes NoChange none = λ v rest is. none v rest (is.0.0, is.1)

pub not_set : (bytes : List ℕ) (set : FileChanges) (rest : List ℕ) → StartsWith edit_set_bytes AreChangedFiles bytes set rest → (IsEditSet set → ⊥) →
    StartsWithNone edit_set_bytes IsKeptSet bytes
not_set bytes set rest found not v more is =
    let same = files_once set v rest more found.0 is.0.0 (sym found.1 ∙ is.1) in
    not (subst IsEditSet (sym same.0) is.0.1)

pub set_found : (bytes : List ℕ) (set : FileChanges) (rest : List ℕ) → StartsWith edit_set_bytes AreChangedFiles bytes set rest → IsEditSet set →
    StartsWith edit_set_bytes IsKeptSet bytes set rest
set_found bytes set rest found is = ((found.0, is), found.1)

set_once : IsOnce edit_set_bytes IsKeptSet
set_once v w r s p q e = files_once v w r s p.0 q.0 e

-- ---- changes

pub commit_found : (bytes : List ℕ) (basis : ℕ) (behind : List ℕ) (set : FileChanges) (rest : List ℕ) → StartsWith number_bytes IsNumber bytes basis behind →
    StartsWith edit_set_bytes IsKeptSet behind set rest → rest ≡ [] → AreBytesOf (1 ∷ bytes) (Commit basis set)
commit_found bytes basis behind set rest counted found none = (
  (counted.0, found.0),
  ap (λ (x : List ℕ). 1 ∷ x) (counted.1 ∙ ap (λ (x : List ℕ). number_bytes basis ++ x)
      (found.1 ∙ ap (λ (x : List ℕ). edit_set_bytes set ++ x) none ∙ append-nil (edit_set_bytes set))),
)

-- the bytes of a commit behind its kind, where these are all bytes
commit_parts : (bytes : List ℕ) (basis : ℕ) (behind : List ℕ) → StartsWith number_bytes IsNumber bytes basis behind → (b : ℕ) (s : FileChanges) →
    AreBytesOf (1 ∷ bytes) (Commit b s) → behind ≡ edit_set_bytes s ++ []
commit_parts bytes basis behind counted b s is =
    let tails = tail_same 1 1 bytes (number_bytes b ++ edit_set_bytes s) is.1 in
    let same = number_once basis b behind (edit_set_bytes s) counted.0 is.0.0 (sym counted.1 ∙ tails) in
    same.1 ∙ sym (append-nil (edit_set_bytes s))

no_basis : (bytes : List ℕ) → StartsWithNone number_bytes IsNumber bytes → (change : KeptChange) → AreBytesOf (1 ∷ bytes) change → ⊥
no_basis bytes none (Commit b s) is = none b (edit_set_bytes s) (is.0.0, tail_same 1 1 bytes (number_bytes b ++ edit_set_bytes s) is.1)
no_basis bytes none (Undo b) is = absurd (omega (arith, head_same 1 2 bytes (number_bytes b) is.1))
no_basis bytes none (Redo b) is = absurd (omega (arith, head_same 1 3 bytes (number_bytes b) is.1))

pub commit_fails_by_basis : (bytes : List ℕ) (fault : ChangeFault) → FailsToDecode number_bytes IsNumber bytes fault → IsNoChange (1 ∷ bytes) fault
commit_fails_by_basis bytes Memory none = tt
commit_fails_by_basis bytes NoChange none = no_basis bytes none

no_set : (bytes : List ℕ) (basis : ℕ) (behind : List ℕ) → StartsWith number_bytes IsNumber bytes basis behind →
    StartsWithNone edit_set_bytes IsKeptSet behind → (change : KeptChange) → AreBytesOf (1 ∷ bytes) change → ⊥
no_set bytes basis behind counted none (Commit b s) is = none s [] (is.0.1, commit_parts bytes basis behind counted b s is)
no_set bytes basis behind counted none (Undo b) is = absurd (omega (arith, head_same 1 2 bytes (number_bytes b) is.1))
no_set bytes basis behind counted none (Redo b) is = absurd (omega (arith, head_same 1 3 bytes (number_bytes b) is.1))

pub commit_fails_by_set : (bytes : List ℕ) (basis : ℕ) (behind : List ℕ) (fault : ChangeFault) → StartsWith number_bytes IsNumber bytes basis behind →
    FailsToDecode edit_set_bytes IsKeptSet behind fault → IsNoChange (1 ∷ bytes) fault
commit_fails_by_set bytes basis behind Memory counted none = tt
commit_fails_by_set bytes basis behind NoChange counted none = no_set bytes basis behind counted none

pub commit_goes_on : (bytes : List ℕ) (basis : ℕ) (behind : List ℕ) (set : FileChanges) (rest : List ℕ) → StartsWith number_bytes IsNumber bytes basis behind →
    StartsWith edit_set_bytes IsKeptSet behind set rest → (rest ≡ [] → ⊥) → (change : KeptChange) → AreBytesOf (1 ∷ bytes) change → ⊥
commit_goes_on bytes basis behind set rest counted found more (Commit b s) is =
    let same = set_once set s rest [] found.0 is.0.1 (sym found.1 ∙ commit_parts bytes basis behind counted b s is) in
    more same.1
commit_goes_on bytes basis behind set rest counted found more (Undo b) is = absurd (omega (arith, head_same 1 2 bytes (number_bytes b) is.1))
commit_goes_on bytes basis behind set rest counted found more (Redo b) is = absurd (omega (arith, head_same 1 3 bytes (number_bytes b) is.1))

-- all bytes are those of a number
pub basis_found : (bytes : List ℕ) (basis : ℕ) (rest : List ℕ) → StartsWith number_bytes IsNumber bytes basis rest → rest ≡ [] → bytes ≡ number_bytes basis
basis_found bytes basis rest counted none = counted.1 ∙ ap (λ (x : List ℕ). number_bytes basis ++ x) none ∙ append-nil (number_bytes basis)

pub basis_fails : (bytes : List ℕ) → StartsWithNone number_bytes IsNumber bytes → (b : ℕ) → IsNumber b → bytes ≡ number_bytes b → ⊥
basis_fails bytes none b is e = none b [] (is, e ∙ sym (append-nil (number_bytes b)))

pub basis_goes_on : (bytes : List ℕ) (basis : ℕ) (rest : List ℕ) → StartsWith number_bytes IsNumber bytes basis rest → (rest ≡ [] → ⊥) → (b : ℕ) → IsNumber b →
    bytes ≡ number_bytes b → ⊥
basis_goes_on bytes basis rest counted more b is e =
    more (number_once basis b rest [] counted.0 is (sym counted.1 ∙ e ∙ sym (append-nil (number_bytes b)))).1

pub undo_fails : (bytes : List ℕ) → ((b : ℕ) → IsNumber b → bytes ≡ number_bytes b → ⊥) → (change : KeptChange) → AreBytesOf (2 ∷ bytes) change → ⊥
undo_fails bytes none (Commit b s) is = absurd (omega (arith, head_same 2 1 bytes (number_bytes b ++ edit_set_bytes s) is.1))
undo_fails bytes none (Undo b) is = none b is.0 (tail_same 2 2 bytes (number_bytes b) is.1)
undo_fails bytes none (Redo b) is = absurd (omega (arith, head_same 2 3 bytes (number_bytes b) is.1))

pub redo_fails : (bytes : List ℕ) → ((b : ℕ) → IsNumber b → bytes ≡ number_bytes b → ⊥) → (change : KeptChange) → AreBytesOf (3 ∷ bytes) change → ⊥
redo_fails bytes none (Commit b s) is = absurd (omega (arith, head_same 3 1 bytes (number_bytes b ++ edit_set_bytes s) is.1))
redo_fails bytes none (Undo b) is = absurd (omega (arith, head_same 3 2 bytes (number_bytes b) is.1))
redo_fails bytes none (Redo b) is = none b is.0 (tail_same 3 3 bytes (number_bytes b) is.1)

pub no_change : (bytes : List ℕ) → length bytes ≡ 0 → (change : KeptChange) → AreBytesOf bytes change → ⊥
no_change [] none (Commit b s) is = no_bytes_are 1 (number_bytes b ++ edit_set_bytes s) is.1
no_change [] none (Undo b) is = no_bytes_are 2 (number_bytes b) is.1
no_change [] none (Redo b) is = no_bytes_are 3 (number_bytes b) is.1
no_change (b ∷ bytes) none change is = absurd (omega (arith, none))

pub other_change : (kind : ℕ) (rest : List ℕ) → (kind ≡ 1 → ⊥) → (kind ≡ 2 → ⊥) → (kind ≡ 3 → ⊥) → (change : KeptChange) → AreBytesOf (kind ∷ rest) change → ⊥
other_change kind rest p q r (Commit b s) is = p (head_same kind 1 rest (number_bytes b ++ edit_set_bytes s) is.1)
other_change kind rest p q r (Undo b) is = q (head_same kind 2 rest (number_bytes b) is.1)
other_change kind rest p q r (Redo b) is = r (head_same kind 3 rest (number_bytes b) is.1)

same_basis : (a b : ℕ) → IsNumber a → IsNumber b → number_bytes a ≡ number_bytes b → a ≡ b
same_basis a b p q e = (number_once a b [] [] p q (ap (λ (x : List ℕ). x ++ []) e)).0

-- two changes with the same bytes
same_change : (one other : KeptChange) → IsKeptChange one → IsKeptChange other → change_bytes one ≡ change_bytes other → one ≡ other
same_change (Commit a s) (Commit b t) p q e =
    let tails = tail_same 1 1 (number_bytes a ++ edit_set_bytes s) (number_bytes b ++ edit_set_bytes t) e in
    let heads = number_once a b (edit_set_bytes s) (edit_set_bytes t) p.0 q.0 tails in
    let sets = set_once s t [] [] p.1 q.1 (ap (λ (x : List ℕ). x ++ []) heads.1) in
    λ i. Commit (heads.0 i) (sets.0 i)
same_change (Commit a s) (Undo b) p q e = absurd (omega (arith, head_same 1 2 (number_bytes a ++ edit_set_bytes s) (number_bytes b) e))
same_change (Commit a s) (Redo b) p q e = absurd (omega (arith, head_same 1 3 (number_bytes a ++ edit_set_bytes s) (number_bytes b) e))
same_change (Undo a) (Commit b t) p q e = absurd (omega (arith, head_same 2 1 (number_bytes a) (number_bytes b ++ edit_set_bytes t) e))
same_change (Undo a) (Undo b) p q e = ap (λ (n : ℕ). Undo n) (same_basis a b p q (tail_same 2 2 (number_bytes a) (number_bytes b) e))
same_change (Undo a) (Redo b) p q e = absurd (omega (arith, head_same 2 3 (number_bytes a) (number_bytes b) e))
same_change (Redo a) (Commit b t) p q e = absurd (omega (arith, head_same 3 1 (number_bytes a) (number_bytes b ++ edit_set_bytes t) e))
same_change (Redo a) (Undo b) p q e = absurd (omega (arith, head_same 3 2 (number_bytes a) (number_bytes b) e))
same_change (Redo a) (Redo b) p q e = ap (λ (n : ℕ). Redo n) (same_basis a b p q (tail_same 3 3 (number_bytes a) (number_bytes b) e))

pub one_change_of_bytes : OneChangeOfBytes
one_change_of_bytes bytes one other a b = same_change one other a.0 b.0 (sym a.1 ∙ b.1)

pub basis_none : (bytes : List ℕ) (fault : ChangeFault) → FailsToDecode number_bytes IsNumber bytes fault → fault ≡ NoChange →
    (fault ≡ NoChange) × ((b : ℕ) → IsNumber b → bytes ≡ number_bytes b → ⊥)
basis_none bytes fault fails is = (is, basis_fails bytes (subst (FailsToDecode number_bytes IsNumber bytes) is fails))

pub not_empty : (xs : List ℕ) (b : Bool) → b ≡ (length xs == 0) → b ≡ false → xs ≡ [] → ⊥
not_empty [] b is unset e = false≢true (sym unset ∙ is)
not_empty (x ∷ xs) b is unset e = omega (arith, ap length e)

pub same_set : (a c : List FileChange) (b d : List (List ℕ × List ℕ)) → a ≡ c → b ≡ d → IsEditSet (record { changed = c; added = d }) →
    IsEditSet (record { changed = a; added = b })
same_set a c b d p q s =
    subst (λ (x : List FileChange). IsEditSet (record { changed = x; added = b })) (sym p)
    (subst (λ (y : List (List ℕ × List ℕ)). IsEditSet (record { changed = c; added = y })) (sym q) s)
