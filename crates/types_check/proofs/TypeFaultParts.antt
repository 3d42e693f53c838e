-- The faults of types in files, and their member uses, file by file.
use Rattle.std.proofs.Common.{ℕ, ◌≡◌, ◌+◌, ◌<◌, ◌⊎◌, inl, inr, suc, List, [], ◌∷◌, ◌++◌, length, take, get_or, ap, sym, subst, refl, ◌∙◌, arith, length-append}
use Rattle.std.specs.Prelude.{Contains, Some, slice_get}
use Rattle.std.proofs.Math.Seq.{take-suc, take-length}
use Rattle.std.proofs.lemmas.Bool.{cases_lt}
use Rattle.std.proofs.lemmas.List.Elements.{Contains-append_left, Contains-push, Contains-push_cases}
use Rattle.std.proofs.lemmas.Option.{slice_get_within, same_Some}
use Rattle.base_files.specs.declared.fault_kind.FaultKind.TheVariants as kind
use Rattle.types_declared.specs.declared.fault.Fault.{Fault}
use Rattle.types_declared.specs.Listing.{AddsFaults, IsFaultBelow, HoldsExactly}
use Rattle.types_declared.proofs.Listings.{adds_none, adds_as, adds_then, lists_from, make, fault_from}
use Rattle.go_ast.specs.Tree.{FileTree}
use Rattle.go_ast.specs.SourceFile.{FileParts, source_of}
use Rattle.types_expr.specs.declared.world.World.{World as FileWorld}
use Rattle.types_expr.specs.WorldView.{world_of}
use Rattle.types_stmt.specs.View.{is_init_in}
use Rattle.types_expr.specs.Judge.{MemberUse, Entering, members_of, enterings_of}
use Rattle.types_stmt.specs.Checked.{FoundSoFar}
use Rattle.types_stmt.specs.Declarations.{check_file}
use Rattle.types_declared.specs.Package.{Package}
use Rattle.types_info.specs.Worlds.{IsWorldOf, is_init}
use Rattle.types_check.specs.TypeFaults.{IsTypeFault}
use Rattle.types_info.specs.MemberUses.{AreUsesIn, AreEnteringsIn, AreFileListsBelow, AddsFileList, AddsFileListOf}
use Rattle.types_info.specs.Uniqueness.{HasOneWorld}
use Rattle.types_check.specs.TypesView.{IsChecked, IsAtToken, IsTypeFaultIn}
use Rattle.types_declared.proofs.DeclaredPaths.{get_before, get_last}

-- Faults at tokens

pub no_tokens : (file : ℕ) (a : List Fault) → AddsFaults a a (IsAtToken file [])
no_tokens file a = adds_none a (IsAtToken file []) (λ f h. let lt : h.at.0 < 0 = h.at.1 in absurd (omega arith))

one_token : (file x : ℕ) (f : Fault) → f ≡ make file x kind.«Type» → (tokens : List ℕ) → Contains tokens x → IsAtToken file tokens f
one_token file x f e tokens h = record { in_file = ap (λ z. z.file) e; at = subst (Contains tokens) (sym (ap (λ z. z.token) e)) h; kind = ap (λ z. z.kind) e }

pub next_token : (file : ℕ) (tokens : List ℕ) (i d : ℕ) (a b c : List Fault) → i < length tokens → AddsFaults a b (IsAtToken file (take i tokens)) →
    AddsFaults b c (λ f. f ≡ make file (get_or tokens i d) kind.«Type») → AddsFaults a c (IsAtToken file (take (i + 1) tokens))
next_token file tokens i d a b c lt h k =
    let x = get_or tokens i d in
    let more : take (i + 1) tokens ≡ take i tokens ++ (x ∷ []) = ap (λ n. take n tokens) (let z : i + 1 ≡ suc i = omega arith in z) ∙ take-suc tokens i d lt in
    subst (λ ts. AddsFaults a c (IsAtToken file ts)) (sym more)
    (adds_as a c (λ f. IsAtToken file (take i tokens) f ⊎ (f ≡ make file x kind.«Type»)) (IsAtToken file (take i tokens ++ (x ∷ [])))
    (adds_then a b c (IsAtToken file (take i tokens)) (λ f. f ≡ make file x kind.«Type») h k)
    (λ f q. elim q [
      | inl o ↦ record { in_file = o.in_file; at = Contains-append_left (take i tokens) (x ∷ []) f.token o.at; kind = o.kind }
      | inr e ↦ one_token file x f e (take i tokens ++ (x ∷ [])) (Contains-push (take i tokens) x)
    ])
    (λ f q. elim (Contains-push_cases (take i tokens) x f.token q.at) [
      | inl o ↦ inl (record { in_file = q.in_file; at = o; kind = q.kind })
      | inr e ↦ inr (fault_from f file x kind.«Type» q.in_file (sym e) q.kind)
    ]))

pub all_tokens : (file : ℕ) (tokens : List ℕ) (i : ℕ) (a b : List Fault) → i ≡ length tokens → AddsFaults a b (IsAtToken file (take i tokens)) →
    AddsFaults a b (IsAtToken file tokens)
all_tokens file tokens i a b e h = subst (λ ts. AddsFaults a b (IsAtToken file ts)) (ap (λ n. take n tokens) e ∙ take-length tokens) h

-- The faults of a file

fault_in : (p : Package) (file : ℕ) (c : FoundSoFar) → IsChecked p file c → (f : Fault) → IsAtToken file c.faults f → IsTypeFaultIn p file f
fault_in p file c ch f h = record {
  in_file = h.in_file;
  fault = record {
    source = ch.source;
    in_file = subst (λ n. slice_get p.files n ≡ Some ch.source) (sym h.in_file) ch.in_file;
    world = ch.world;
    judged_by = subst (λ n. IsWorldOf p n ch.source ch.world) (sym h.in_file) ch.judged_by;
    found = subst (λ z. Contains z.faults f.token) ch.is h.at;
    kind = h.kind;
  };
}

fault_from_file : (p : Package) → HasOneWorld p → (file : ℕ) (c : FoundSoFar) → IsChecked p file c → (f : Fault) → IsTypeFaultIn p file f →
    IsAtToken file c.faults f
fault_from_file p one file c ch f h =
    let t = h.fault in
    let source : t.source ≡ ch.source = same_Some t.source ch.source
    (sym (subst (λ n. slice_get p.files n ≡ Some t.source) h.in_file t.in_file) ∙ ch.in_file) in
    let judged : IsWorldOf p file ch.source t.world = subst (λ s. IsWorldOf p file s t.world) source
    (subst (λ n. IsWorldOf p n t.source t.world) h.in_file t.judged_by) in
    let world : t.world ≡ ch.world = one file ch.source t.world ch.world judged ch.judged_by in
    let same : check_file t.world (is_init t.source) t.source.tree ≡ c =
    ap (λ s. check_file t.world (is_init s) s.tree) source ∙ ap (λ w. check_file w (is_init ch.source) ch.source.tree) world ∙ sym ch.is in
    record { in_file = h.in_file; at = subst (λ z. Contains z.faults f.token) same t.found; kind = t.kind }

pub faults_of_file : (p : Package) → HasOneWorld p → (file : ℕ) (c : FoundSoFar) (a b : List Fault) → IsChecked p file c →
    AddsFaults a b (IsAtToken file c.faults) →
    AddsFaults a b (IsTypeFaultIn p file)
faults_of_file p one file c a b ch h = adds_as a b (IsAtToken file c.faults) (IsTypeFaultIn p file) h (fault_in p file c ch) (fault_from_file p one file c ch)

-- The faults of all files

some_file : (p : Package) (n : ℕ) (f : Fault) → IsFaultBelow (IsTypeFaultIn p) n f → IsTypeFault p f
some_file p n f h = h.2.fault

own_file : (p : Package) (f : Fault) → IsTypeFault p f → IsFaultBelow (IsTypeFaultIn p) (length p.files) f
own_file p f h = (f.file, slice_get_within p.files f.file h.source h.in_file, record { in_file = refl; fault = h })

pub all_faults : (p : Package) (n : ℕ) (found : List Fault) → n ≡ length p.files → AddsFaults [] found (IsFaultBelow (IsTypeFaultIn p) n) →
    HoldsExactly (IsTypeFault p) found
all_faults p n found e h =
    lists_from found (IsTypeFault p)
    (adds_as [] found (IsFaultBelow (IsTypeFaultIn p) n) (IsTypeFault p) h (some_file p n) (λ f t. subst (λ k. IsFaultBelow (IsTypeFaultIn p) k f) (sym e)
    (own_file p f t)))

-- Member uses and entries

pub uses_of_file : (p : Package) (file : ℕ) (c : FoundSoFar) (old new : List (List MemberUse)) → IsChecked p file c → AddsFileList old new (members_of c.uses) →
    AddsFileListOf (AreUsesIn p) file old new
uses_of_file p file c old new ch h = (
  members_of c.uses,
  (h, record { source = ch.source; in_file = ch.in_file; world = ch.world; judged_by = ch.judged_by; found = ap (λ z. members_of z.uses) ch.is }),
)

pub enterings_of_file : (p : Package) (file : ℕ) (c : FoundSoFar) (old new : List (List Entering)) → IsChecked p file c →
    AddsFileList old new (enterings_of c.uses) → AddsFileListOf (AreEnteringsIn p) file old new
enterings_of_file p file c old new ch h = (
  enterings_of c.uses,
  (h, record { source = ch.source; in_file = ch.in_file; world = ch.world; judged_by = ch.judged_by; found = ap (λ z. enterings_of z.uses) ch.is }),
)

pub next_list : {X : Type 0} (Is : ℕ → List X → Type 0) (n : ℕ) (old new : List (List X)) → AddsFileListOf Is n old new → AreFileListsBelow Is n old →
    AreFileListsBelow Is (n + 1) new
next_list {X} Is n old new added h =
    let e : new ≡ old ++ (added.0 ∷ []) = added.1.0 in
    let size : length new ≡ n + 1 = ap length e ∙ length-append old (added.0 ∷ []) ∙ ap (λ m. m + 1) h.all in
    record {
      all = size;
      each = λ file list at. elim (cases_lt file n) [
        | inl lt ↦ h.each file list (sym (ap (λ z. slice_get z file) e ∙ get_before old added.0 file (subst (λ m. file < m) (sym h.all) lt)) ∙ at)
        | inr ge ↦
            let lt : file < n + 1 = subst (λ m. file < m) size (slice_get_within new file list at) in
            let same : file ≡ n = omega arith in
            let last : slice_get new n ≡ Some added.0 = ap (λ z. slice_get z n) e ∙ ap (slice_get (old ++ (added.0 ∷ []))) (sym h.all) ∙
            get_last old added.0 in
            let equal : added.0 ≡ list = same_Some added.0 list (sym last ∙ ap (slice_get new) (sym same) ∙ at) in
            subst (λ k. Is k list) (sym same) (subst (Is n) equal added.1.1)
      ];
    }

pub all_lists : {X : Type 0} (Is : ℕ → List X → Type 0) (p : Package) (n : ℕ) (lists : List (List X)) → n ≡ length p.files → AreFileListsBelow Is n lists →
    AreFileListsBelow Is (length p.files) lists
all_lists Is p n lists e h = subst (λ k. AreFileListsBelow Is k lists) e h

-- the result of checking a file in the program's world
pub checked_by : (p : Package) (file : ℕ) (x : FileParts) (w : FileWorld) (c : FoundSoFar) (t : FileTree) → slice_get p.files file ≡ Some (source_of x) →
    IsWorldOf p file (source_of x) (world_of w) →
    is_init_in w ≡ is_init (source_of x) → t ≡ (source_of x).tree → c ≡ check_file (world_of w) (is_init_in w) t → IsChecked p file c
checked_by p file x w c t at judged init tree is = record {
  source = source_of x;
  in_file = at;
  world = world_of w;
  judged_by = judged;
  is = is ∙ ap (λ i. check_file (world_of w) i t) init ∙ ap (check_file (world_of w) (is_init (source_of x))) tree;
}
