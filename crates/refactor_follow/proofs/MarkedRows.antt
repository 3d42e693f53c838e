-- Marks that are set one after another, and the rows of a package's files.
use Rattle.std.proofs.Common.{ℕ, zero, suc, ◌≡◌, ◌+◌, ◌<◌, inl, inr, Bool, true, false, List, [], ◌∷◌, ◌++◌, length, refl, sym, ap, subst, ◌∙◌, arith}
use Rattle.std.specs.Prelude.{◌↔◌, ◌⊎◌, Contains, IfSome, IsTrue, Option, Some, None, slice_get, slice_index_or}
use Rattle.std.specs.Global.{Vec}
use Rattle.std.proofs.Math.Seq.{get_or-append_seam}
use Rattle.std.proofs.lemmas.Bool.{cases_lt, true≢false}
use Rattle.std.proofs.lemmas.List.{get_or_append_left, get_or_past, length-append}
use Rattle.std.proofs.lemmas.Option.{same_Some, slice_get_past, slice_get_within}
use Rattle.go_scanner.specs.CutText.{tokens_in}
use Rattle.go_ast.specs.SourceFile.{SourceFile}
use Rattle.go_scope.specs.declared.model.Position.{Position}
use Rattle.go_scope.proofs.Uniqueness.{same_or_not}
use Rattle.types_declared.proofs.Mentioning.{get_set_same, get_set_other}
use Rattle.types_declared.specs.Package.{Package}
use Rattle.types_info.specs.declared.lists.Qualified.{Qualified}
use Rattle.types_info.specs.Lists.{IsListedIn, IsListedUnder}
use Rattle.workspace_check.proofs.PackageFiles.{at_rank}
use Rattle.refactor_move.specs.FileEdits.{IsImportUse}
use Rattle.refactor_move.specs.Steps.{AreMarksOf}
use Rattle.refactor_move.specs.Uses.{mark_at, marks_in_row}
use Rattle.refactor_follow.specs.MoveReadings.{MarksImportUses, move_from}
use Rattle.refactor_follow.specs.PlainPackages.{MoreMarks, behind_dot}

-- one after another, by their indices

abbrev pub Below : (Q : ℕ → ℕ → ℕ → Type 0) → (n : ℕ) → (file token : ℕ) → Type 0
Below Q n file token = (j : ℕ) × ((j < n) × Q j file token)

pub none_more : (Q : ℕ → ℕ → ℕ → Type 0) (rows : List (Vec Bool)) → MoreMarks rows rows (Below Q 0)
none_more Q rows = λ file token e. inl e

pub next_more : (Q : ℕ → ℕ → ℕ → Type 0) (k : ℕ) (a b c : List (Vec Bool)) → MoreMarks a b (Below Q k) → MoreMarks b c (Q k) → MoreMarks a c (Below Q (k + 1))
next_more Q k a b c h more = λ file token e. elim (more file token e) [
  | inl old ↦ elim (h file token old) [ inl first ↦ inl first | inr x ↦ inr (x.0, (omega (arith, x.1.0), x.1.1)) ]
  | inr new ↦ inr (k, (omega arith, new))
]

pub more_as : (R S : ℕ → ℕ → Type 0) (a b : List (Vec Bool)) → ((file token : ℕ) → R file token → S file token) → MoreMarks a b R → MoreMarks a b S
more_as R S a b to h = λ file token e. elim (h file token e) [ inl old ↦ inl old | inr x ↦ inr (to file token x) ]

abbrev pub IsPlaceAt : List Position → ℕ → (file token : ℕ) → Type 0
IsPlaceAt places k file token = slice_get places k ≡ Some (behind_dot file token)

pub all_places : (places : List Position) (n : ℕ) (a b : List (Vec Bool)) → MoreMarks a b (Below (IsPlaceAt places) n) →
    MoreMarks a b (λ file token. Contains places (behind_dot file token))
all_places places n a b h =
    more_as (Below (IsPlaceAt places) n) (λ file token. Contains places (behind_dot file token)) a b
    (λ file token x. at_rank places x.0 (behind_dot file token) x.1.1) h

abbrev pub IsListAt : List Qualified → List ℕ → ℕ → (file token : ℕ) → Type 0
IsListAt lists path k file token = IsListedIn lists path (behind_dot file token) k

pub all_lists : (lists : List Qualified) (path : List ℕ) (n : ℕ) (a b : List (Vec Bool)) → MoreMarks a b (Below (IsListAt lists path) n) →
    MoreMarks a b (λ file token. IsListedUnder lists path (behind_dot file token))
all_lists lists path n a b h =
    more_as (Below (IsListAt lists path) n) (λ file token. IsListedUnder lists path (behind_dot file token)) a b (λ file token x. (x.0, x.1.1)) h

-- a row by a scope table

pub mark_inside : (row : List Bool) (i : ℕ) → slice_index_or row i false ≡ true → i < length row
mark_inside row i e = elim (cases_lt i (length row)) [ inl lt ↦ lt | inr ge ↦ absurd (true≢false (sym e ∙ get_or_past row i false ge)) ]

pub no_row : (P : ℕ → Type 0) (row : List Bool) → row ≡ [] → AreMarksOf P 0 row
no_row P row e = record { size = ap length e; each = λ i lt. let none = ap length e in absurd (omega (arith, lt, none)) }

pub one_row_more : (P : ℕ → Type 0) (k : ℕ) (row more : List Bool) (b : Bool) → AreMarksOf P k row → more ≡ row ++ b ∷ [] → IsTrue b ↔ P k →
    AreMarksOf P (k + 1) more
one_row_more P k row more b h is told = subst (λ r. AreMarksOf P (k + 1) r) (sym is) (record {
  size = longer;
  each = λ i lt. elim (same_or_not i k) [
    | inl same ↦ subst (λ j. IsTrue (slice_index_or (row ++ b ∷ []) j false) ↔ P j) (sym same) (subst (λ c. IsTrue c ↔ P k) (sym here) told)
    | inr apart ↦
        let size = h.size in
        let less : i < length row = omega (arith, lt, apart, longer, size) in
        subst (λ c. IsTrue c ↔ P i) (sym (get_or_append_left row (b ∷ []) false i less)) (h.each i less)
  ];
})
  where
    longer : length (row ++ b ∷ []) ≡ k + 1
    longer = let both = length-append row (b ∷ []) in let size = h.size in omega (arith, both, size)

    here : slice_index_or (row ++ b ∷ []) k false ≡ b
    here = subst (λ n. slice_index_or (row ++ b ∷ []) n false ≡ b) h.size (get_or-append_seam row b [] false)

-- the rows of the first files of a package

abbrev pub IsRowOf : Package → (path : List ℕ) → (rank : ℕ) → SourceFile → List Bool → Type 0
IsRowOf p path rank f row = AreMarksOf (IsImportUse p rank (move_from path)) (length (tokens_in f.cut)) row

pub record RowsSoFar (p : Package) (path : List ℕ) (n : ℕ) (rows : List (Vec Bool)) : Type 0 where
  pub size : length rows ≡ n
  pub each : (rank : ℕ) (row : Vec Bool) → slice_get rows rank ≡ Some row → (f : SourceFile) → slice_get p.files rank ≡ Some f → IsRowOf p path rank f row.items

pub no_rows : (p : Package) (path : List ℕ) (rows : List (Vec Bool)) → rows ≡ [] → RowsSoFar p path 0 rows
no_rows p path rows e = record {
  size = ap length e;
  each = λ rank row at. let none = ap length e in let lt = slice_get_within rows rank row at in absurd (omega (arith, none, lt));
}

split_get : {X : Type 0} (xs : List X) (y z : X) (k : ℕ) → slice_get (xs ++ y ∷ []) k ≡ Some z → (slice_get xs k ≡ Some z) ⊎ ((k ≡ length xs) × (y ≡ z))
split_get [] y z k e = by_index k e
  where
    by_index : (k : ℕ) → slice_get (y ∷ []) k ≡ Some z → (slice_get [] k ≡ Some z) ⊎ ((k ≡ 0) × (y ≡ z))
    by_index zero e = inr (refl, same_Some y z e)
    by_index (suc k) e = inl e
split_get (x ∷ xs) y z zero e = inl e
split_get (x ∷ xs) y z (suc k) e = elim (split_get xs y z k e) [ inl old ↦ inl old | inr last ↦ inr (ap suc last.0, last.1) ]

pub next_row : (p : Package) (path : List ℕ) (n : ℕ) (rows more : List (Vec Bool)) (row : Vec Bool) → RowsSoFar p path n rows → more ≡ rows ++ row ∷ [] →
    ((f : SourceFile) → slice_get p.files n ≡ Some f → IsRowOf p path n f row.items) → RowsSoFar p path (n + 1) more
next_row p path n rows more row h is told = subst (RowsSoFar p path (n + 1)) (sym is) (record {
  size = let both = length-append rows (row ∷ []) in let size = h.size in omega (arith, both, size);
  each = λ rank found at f file. elim (split_get rows row found rank at) [
    | inl old ↦ h.each rank found old f file
    | inr last ↦
        let here : rank ≡ n = last.0 ∙ h.size in
        subst (λ k. IsRowOf p path k f found.items) (sym here)
        (subst (λ (r : Vec Bool). IsRowOf p path n f r.items) last.1 (told f (subst (λ k. slice_get p.files k ≡ Some f) here file)))
  ];
})

-- all of them

marked_row : (rows : List (Vec Bool)) (file token : ℕ) → mark_at rows file token ≡ true →
    (row : Vec Bool) × ((slice_get rows file ≡ Some row) × (slice_index_or row.items token false ≡ true))
marked_row rows file token = by_row (slice_get rows file) refl
  where
    by_row : (o : Option (Vec Bool)) → slice_get rows file ≡ o → slice_index_or (marks_in_row o) token false ≡ true →
        (row : Vec Bool) × ((slice_get rows file ≡ Some row) × (slice_index_or row.items token false ≡ true))
    by_row None at e = absurd (true≢false (sym e ∙ get_or_past [] token false (omega arith)))
    by_row (Some row) at e = (row, (at, e))

has_item : {X : Type 0} (xs : List X) (k : ℕ) → k < length xs → (x : X) × (slice_get xs k ≡ Some x)
has_item [] k lt = absurd (omega (arith, lt))
has_item (x ∷ xs) zero lt = (x, refl)
has_item (x ∷ xs) (suc k) lt = has_item xs k (omega (arith, lt))

pub all_rows : (p : Package) (path : List ℕ) (n : ℕ) (rows : List (Vec Bool)) → n ≡ length p.files → RowsSoFar p path n rows → MarksImportUses p path rows
all_rows p path n rows end h = record {
  only = λ file token e.
      let r = marked_row rows file token e in
      let within = slice_get_within rows file r.0 r.1.0 in
      let size = h.size in
      let f = has_item p.files file (omega (arith, within, size, end)) in
      ((h.each file r.0 r.1.0 f.0 f.1).each token (mark_inside r.0.items token r.1.1)).0 r.1.1;
  all = λ file token x bound.
      let within = slice_get_within p.files file x.source x.of_rank in
      let size = h.size in
      let r = has_item rows file (omega (arith, within, size, end)) in
      let row = h.each file r.0 r.1 x.source x.of_rank in
      let inside = slice_get_within (tokens_in x.source.cut) token x.piece x.at in
      let long = row.size in
      ap (λ o. slice_index_or (marks_in_row o) token false) r.1 ∙ (row.each token (omega (arith, inside, long))).1 bound;
}

-- what is found
pub some_map : {X : Type 0} {P Q : X → Type 0} (o : Option X) → ((x : X) → P x → Q x) → IfSome o P → IfSome o Q
some_map None to h = tt
some_map (Some x) to h = to x h

pub value_holds : {X : Type 0} (P : X → Type 0) (o : Option X) (x : X) → o ≡ Some x → IfSome o P → P x
value_holds P o x e h = subst (λ q. IfSome q P) e h
