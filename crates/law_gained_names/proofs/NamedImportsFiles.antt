-- The declarations of the files of a package in which an import got the name that it declared already.
use Rattle.std.proofs.Common.{ℕ, zero, suc, ◌≡◌, ◌<◌, ◌≤◌, ◌+◌, ◌⊎◌, inl, inr, List, [], ◌∷◌, ◌++◌, Some, false, length, map, refl, sym, ap, ◌∙◌}
use Rattle.std.proofs.Common.{subst, arith}
use Rattle.std.specs.Prelude.{All, cond, nat_eq, slice_get}
use Rattle.std.proofs.Math.Path.{fun_ext}
use Rattle.std.proofs.lemmas.Bool.{cases_eq, eqb-true, false_from_ne_true}
use Rattle.std.proofs.lemmas.List.Elements.{All-nil, All-cons, All-head, All-tail}
use Rattle.go_ast.specs.declared.syntax.Token.{Token}
use Rattle.go_ast.specs.declared.syntax.Kind.TheVariants as kind
use Rattle.go_ast.specs.Flatten.{flatten, all_tokens, item_tokens, list_tokens, group_tokens, import_tokens, imports_tokens, decl_tokens, sign}
use Rattle.go_ast.specs.SourceFile.{SourceFile, FileParts, IsSourceFile, source_of, spelling_of}
use Rattle.go_ast.specs.Tree.{FileTree}
use Rattle.go_ast.specs.WellFormed.{IsFile, IsTreeOf}
use Rattle.go_parser.proofs.OneTree.{one_tree}
use Rattle.go_scope.specs.Trees.{AreRising}
use Rattle.go_scope.proofs.Declared.{file_numbered}
use Rattle.law_tokens.specs.Covered.{AreSourceFiles}
use Rattle.law_tokens.proofs.Ordered.{rising_from}
use Rattle.law_rename.specs.Around.{AroundImport, AroundItem, alone, among, bare_import, file_with, from_on, group_with}
use Rattle.law_rename.specs.Around.{imports_with}
use Rattle.law_rename.specs.Gained.{Gain, moved_by}
use Rattle.law_rename.specs.Renumbered.{numbered, decl_by, renumbered}
use Rattle.law_rename.proofs.KeptTrees.{file_kept}
use Rattle.law_rename.proofs.Renumbering.{file_same}
use Rattle.law_rename.proofs.Sites.{moved_here}
use Rattle.law_rename.proofs.TokensBehind.{seam}
use Rattle.law_changed_types.specs.SameBindings.{IsParsedPackage}
use Rattle.types_declared.specs.Package.{Package, spelled, spelled_at}
use Rattle.types_info.specs.Uniqueness.{TokensRise}
use Rattle.law_changed_types.proofs.Worlds.{tokens_rise}
use Rattle.law_changed_types.specs.RenumberedPackage.{AreRenumberedFiles}
use Rattle.law_gained_names.specs.NamedPackage.{HasNamedFile}
use Rattle.law_gained_names.proofs.Layouts.{same_number, token, token_here}

-- trees by two numberings that agree on their tokens

abbrev pub Agree : (g h : ℕ → ℕ) → List Token → Type 0
Agree g h [] = Unit {0}
Agree g h (t ∷ ts) = (g t.place ≡ h t.place) × Agree g h ts

numbered_alike : (g h : ℕ → ℕ) (ts : List Token) → Agree g h ts → map (numbered g) ts ≡ map (numbered h) ts
numbered_alike g h [] agree = refl
numbered_alike g h (t ∷ ts) agree =
    ap (λ n. record { kind = t.kind; place = n } ∷ map (numbered g) ts) agree.0
    ∙ ap (λ us. numbered h t ∷ us) (numbered_alike g h ts agree.1)

numbered_same : (ts : List Token) → map (numbered (λ n. n)) ts ≡ ts
numbered_same [] = refl
numbered_same (t ∷ ts) = ap (λ us. t ∷ us) (numbered_same ts)

tree_alike : (g h : ℕ → ℕ) (f : FileTree) → IsFile f → Agree g h (flatten f) → renumbered g f ≡ renumbered h f
tree_alike g h f is agree =
    let one : IsTreeOf (renumbered g f) (flatten (renumbered g f)) = record { written = refl; well_formed = file_kept g f is } in
    let two : IsTreeOf (renumbered h f) (flatten (renumbered g f)) = record {
      written = file_same h f ∙ sym (numbered_alike g h (flatten f) agree) ∙ sym (file_same g f);
      well_formed = file_kept h f is;
    } in
    one_tree one two

tree_same : (f : FileTree) → IsFile f → renumbered (λ n. n) f ≡ f
tree_same f is =
    let one : IsTreeOf (renumbered (λ n. n) f) (flatten f) = record {
      written = file_same (λ n. n) f ∙ numbered_same (flatten f);
      well_formed = file_kept (λ n. n) f is;
    } in
    let two : IsTreeOf f (flatten f) = record { written = refl; well_formed = is } in
    one_tree one two

-- the declarations of a file alone, with tokens of this number before them
decls_alone : ℕ → FileTree → FileTree
decls_alone k f = record { keyword = k; name = k; semicolon = k; imports = []; decls = f.decls }

decls_alike : (g h : ℕ → ℕ) (k : ℕ) (f : FileTree) → IsFile f → g k ≡ h k → Agree g h (all_tokens decl_tokens f.decls) →
    map (decl_by g) f.decls ≡ map (decl_by h) f.decls
unfolding decls_alone flatten all_tokens
decls_alike g h k f is at agree =
    ap (λ (t : FileTree). t.decls)
    (tree_alike g h (decls_alone k f) (record { imports = All-nil _; decls = is.decls }) (at, (at, (at, agree))))

decls_same : (f : FileTree) → IsFile f → map (decl_by (λ n. n)) f.decls ≡ f.decls
decls_same f is = ap (λ (t : FileTree). t.decls) (tree_same f is)

-- tokens behind the literal of the import

abbrev pub Has : ℕ → List Token → Type 0
Has k [] = ⊥
Has k (t ∷ ts) = (t.place ≡ k) ⊎ Has k ts

abbrev AllBehind : ℕ → List Token → Type 0
AllBehind k [] = Unit {0}
AllBehind k (t ∷ ts) = (k < t.place) × AllBehind k ts

pub has_front : (k : ℕ) (xs ys : List Token) → Has k xs → Has k (xs ++ ys)
has_front k [] ys h = absurd h
has_front k (x ∷ xs) ys h = elim h [ inl here ↦ inl here | inr rest ↦ inr (has_front k xs ys rest) ]

has_back : (k : ℕ) (xs ys : List Token) → Has k ys → Has k (xs ++ ys)
has_back k [] ys h = h
has_back k (x ∷ xs) ys h = inr (has_back k xs ys h)

pub has_all : {X : Type 0} (k : ℕ) (t : X → List Token) (xs : List X) (x : X) (ys : List X) → Has k (t x) → Has k (all_tokens t (xs ++ x ∷ ys))
unfolding all_tokens
has_all k t [] x ys h = has_front k (t x) (all_tokens t ys) h
has_all k t (y ∷ xs) x ys h = has_back k (t y) (all_tokens t (xs ++ x ∷ ys)) (has_all k t xs x ys h)

rising_drop : (m : ℕ) (xs ys : List Token) → AreRising m (xs ++ ys) → AreRising m ys
rising_drop m [] ys h = h
rising_drop m (x ∷ xs) ys h =
    rising_from m (suc x.place) ys (let le : m ≤ x.place = h.0 in omega arith) (rising_drop (suc x.place) xs ys h.1)

all_behind : (k m : ℕ) (ys : List Token) → k < m → AreRising m ys → AllBehind k ys
all_behind k m [] lt h = tt
all_behind k m (y ∷ ys) lt h =
    let le : m ≤ y.place = h.0 in
    ((omega arith), all_behind k (suc y.place) ys (omega arith) h.1)

behind_token : (k m : ℕ) (xs ys : List Token) → AreRising m (xs ++ ys) → Has k xs → AllBehind k ys
behind_token k m [] ys rise h = absurd h
behind_token k m (x ∷ xs) ys rise h = elim h [
  | inl here ↦ all_behind k (suc x.place) ys (omega arith) (rising_drop (suc x.place) xs ys rise.1)
  | inr rest ↦ behind_token k (suc x.place) xs ys rise.1 rest
]

literal_in : (number : ℕ) (a : AroundItem) → Has number (group_tokens import_tokens (group_with (bare_import number) a))
unfolding group_tokens import_tokens
literal_in number alone = inl refl
literal_in number (among o before separator after c) =
    let items = before ++ record { value = bare_import number; separator = separator } ∷ after in
    inr (has_front number (list_tokens kind.Semicolon import_tokens items) (sign kind.RightParen c ∷ [])
    (has_all number (item_tokens kind.Semicolon import_tokens) before (record { value = bare_import number; separator = separator }) after (inl refl)))

pub literal_in_imports : (number : ℕ) (a : AroundImport) → Has number (imports_tokens (imports_with (bare_import number) a))
unfolding imports_tokens
literal_in_imports number a =
    inr (has_front number (group_tokens import_tokens (group_with (bare_import number) a.item)) (sign kind.Semicolon a.import_semicolon ∷ [])
    (literal_in number a.item))

decls_behind : (number : ℕ) (a : AroundImport) → AreRising 0 (flatten (file_with (bare_import number) a)) →
    AllBehind number (all_tokens decl_tokens a.decls)
unfolding flatten
decls_behind number a rise =
    behind_token number _ (all_tokens imports_tokens (a.before ++ imports_with (bare_import number) a ∷ a.after)) (all_tokens decl_tokens a.decls)
    rise.1.1.1 (has_all number imports_tokens a.before (imports_with (bare_import number) a) a.after (literal_in_imports number a))

behind_agree : (number : ℕ) (ts : List Token) → AllBehind number ts → Agree (from_on number) (from_on (suc number)) ts
behind_agree number [] h = tt
behind_agree number (t ∷ ts) h =
    (same_number number t.place (λ e. let lt : number < t.place = h.0 in omega arith), behind_agree number ts h.1)

-- files are of the grammar, and their tokens rise

pub files_formed : (files : List FileParts) → AreSourceFiles files → All (λ (s : SourceFile). IsFile s.tree) (map source_of files)
files_formed [] sources = All-nil (λ (s : SourceFile). IsFile s.tree)
files_formed (f ∷ fs) sources =
    let P : FileParts → Type 0 = λ g. IsSourceFile (source_of g) in
    All-cons (λ (s : SourceFile). IsFile s.tree) (source_of f) (map source_of fs) (file_numbered f (All-head P f fs sources)).grouped
    (files_formed fs (All-tail P f fs sources))

-- files whose ranks are not that of the changed file

module _ (t : ℕ → ℕ → ℕ) (rank : ℕ) (others : (file : ℕ) → (file ≡ rank → ⊥) → t file ≡ (λ n. n)) where
  same_decls : (n : ℕ) (f : SourceFile) → IsFile f.tree → (n ≡ rank → ⊥) → f.tree.decls ≡ map (decl_by (t n)) f.tree.decls
  same_decls n f is other = sym (ap (λ (g : ℕ → ℕ). map (decl_by g) f.tree.decls) (others n other) ∙ decls_same f.tree is)

  same_behind : (n : ℕ) (fs : List SourceFile) → All (λ (s : SourceFile). IsFile s.tree) fs → rank < n → AreRenumberedFiles t n fs fs
  same_behind n [] are lt = tt
  same_behind n (f ∷ fs) are lt =
      let P : SourceFile → Type 0 = λ s. IsFile s.tree in (
        same_decls n f (All-head P f fs are) (λ e. omega arith),
        same_behind (n + 1) fs (All-tail P f fs are) (omega arith),
      )

  pub one_changed : (n : ℕ) (first : List SourceFile) (before after : SourceFile) (rest : List SourceFile) →
      All (λ (s : SourceFile). IsFile s.tree) (first ++ before ∷ rest) → n + length first ≡ rank →
      after.tree.decls ≡ map (decl_by (t rank)) before.tree.decls → AreRenumberedFiles t n (first ++ before ∷ rest) (first ++ after ∷ rest)
  one_changed n [] before after rest are at same =
      let here : n ≡ rank = omega arith in
      let P : SourceFile → Type 0 = λ s. IsFile s.tree in (
        subst (λ k. after.tree.decls ≡ map (decl_by (t k)) before.tree.decls) (sym here) same,
        same_behind (n + 1) rest (All-tail P before rest are) (omega arith),
      )
  one_changed n (f ∷ first) before after rest are at same =
      let P : SourceFile → Type 0 = λ s. IsFile s.tree in
      let longer : n + suc (length first) ≡ rank = at in (
        same_decls n f (All-head P f (first ++ before ∷ rest) are) (λ e. omega arith),
        one_changed (n + 1) first before after rest (All-tail P f (first ++ before ∷ rest) are) (omega arith) same,
      )

-- the changed file

-- a file of the middle of a list
middle : {X : Type 0} (P : X → Type 0) (first : List X) (x : X) (rest : List X) → All P (first ++ x ∷ rest) → P x
middle P [] x rest are = All-head P x rest are
middle P (y ∷ first) x rest are = middle P first x rest (All-tail P y (first ++ x ∷ rest) are)

rises_here : (first rest : List SourceFile) (x : SourceFile) → ((file : ℕ) (s : SourceFile) → slice_get (first ++ x ∷ rest) file ≡ Some s →
    AreRising 0 (flatten s.tree)) → AreRising 0 (flatten x.tree)
rises_here first rest x each = each (length first) x (seam first rest x)

module _ (i : Gain) (at : ℕ) (p q : Package) (parsed : IsParsedPackage p) (h : HasNamedFile i p q) where
  formed : All (λ (s : SourceFile). IsFile s.tree) (h.first ++ h.before ∷ h.rest)
  formed =
      let is : p.files ≡ map source_of parsed.files = ap (λ (x : Package). x.files) parsed.is_package.is_package in
      subst (All (λ (s : SourceFile). IsFile s.tree)) (sym is ∙ h.before_files) (files_formed parsed.files parsed.sources)

  pub rising : AreRising 0 (flatten (file_with (bare_import i.number) h.around))
  rising =
      subst (λ (t : FileTree). AreRising 0 (flatten t)) h.bare
      (rises_here h.first h.rest h.before (subst TokensRise h.before_files (tokens_rise p parsed)))

  -- by the numbers that the texts give
  moved_decls : h.after.tree.decls ≡ map (decl_by (from_on i.number)) h.before.tree.decls
  moved_decls =
      ap (λ (t : FileTree). t.decls) h.named ∙ ap (λ (t : FileTree). map (decl_by (from_on i.number)) t.decls) (sym h.bare)

  -- by the numbers that leave the import at its token
  new_decls : h.after.tree.decls ≡ map (decl_by (from_on (suc i.number))) h.before.tree.decls
  new_decls =
      let number = i.number in
      let tree = file_with (bare_import number) h.around in
      let is : IsFile tree = subst IsFile h.bare (middle (λ (s : SourceFile). IsFile s.tree) h.first h.before h.rest formed) in
      moved_decls
      ∙ ap (λ (t : FileTree). map (decl_by (from_on number)) t.decls) h.bare
      ∙ decls_alike (from_on number) (from_on (suc number)) (suc number) tree is (same_number number (suc number) (λ e. omega arith))
      (behind_agree number (all_tokens decl_tokens h.around.decls) (decls_behind number h.around rising))
      ∙ ap (λ (t : FileTree). map (decl_by (from_on (suc number))) t.decls) (sym h.bare)

  files_by : (t : ℕ → ℕ → ℕ) → ((file : ℕ) → (file ≡ i.rank → ⊥) → t file ≡ (λ n. n)) →
      h.after.tree.decls ≡ map (decl_by (t i.rank)) h.before.tree.decls → AreRenumberedFiles t 0 p.files q.files
  files_by t others same =
      let here : 0 + length h.first ≡ i.rank = (let z : 0 + length h.first ≡ length h.first = omega arith in z) ∙ h.rank in
      subst (λ fs. AreRenumberedFiles t 0 fs q.files) (sym h.before_files)
      (subst (AreRenumberedFiles t 0 (h.first ++ h.before ∷ h.rest)) (sym h.after_files)
      (one_changed t i.rank others 0 h.first h.before h.after h.rest formed here same))

  not_rank : (file : ℕ) → (file ≡ i.rank → ⊥) → nat_eq file i.rank ≡ false
  not_rank file other = false_from_ne_true (nat_eq file i.rank) (λ e. other (eqb-true file i.rank e))

  pub by_move : AreRenumberedFiles (moved_by i) 0 p.files q.files
  by_move =
      files_by (moved_by i) (λ file other. ap (λ b. λ n. cond b (from_on i.number n) n) (not_rank file other))
      (moved_decls ∙ ap (λ g. map (decl_by g) h.before.tree.decls) (sym (moved_here i)))

  pub by_token : AreRenumberedFiles (token i at) 0 p.files q.files
  by_token =
      files_by (token i at) (λ file other. ap (λ b. λ n. cond b (from_on (suc i.number) n) n) (not_rank file other))
      (new_decls ∙ ap (λ g. map (decl_by g) h.before.tree.decls) (sym (fun_ext (λ n. token_here i at n))))

-- bytes

pub files_else : (first rest : List SourceFile) (x y : SourceFile) (j : ℕ) → (j ≡ length first → ⊥) →
    slice_get (first ++ y ∷ rest) j ≡ slice_get (first ++ x ∷ rest) j
files_else [] rest x y zero other = absurd (other refl)
files_else [] rest x y (suc j) other = refl
files_else (f ∷ first) rest x y zero other = refl
files_else (f ∷ first) rest x y (suc j) other = files_else first rest x y j (λ e. other (ap suc e))

pub spelled_by_move : (i : Gain) (p q : Package) → HasNamedFile i p q → (file n : ℕ) → spelled q file (moved_by i file n) ≡ spelled p file n
spelled_by_move i p q h file n = elim (cases_eq file i.rank) [
  | inl is ↦
      let was : slice_get p.files file ≡ Some h.before =
      ap (slice_get p.files) (is ∙ sym h.rank) ∙ ap (λ fs. slice_get fs (length h.first)) h.before_files ∙ seam h.first h.rest h.before in
      let now : slice_get q.files file ≡ Some h.after =
      ap (slice_get q.files) (is ∙ sym h.rank) ∙ ap (λ fs. slice_get fs (length h.first)) h.after_files ∙ seam h.first h.rest h.after in
      let moved : moved_by i file n ≡ from_on i.number n = ap (λ f. moved_by i f n) is ∙ ap (λ g. g n) (moved_here i) in
      ap (λ o. spelled_at o (moved_by i file n)) now ∙ ap (spelling_of h.after) moved ∙ h.spelled n ∙ sym (ap (λ o. spelled_at o n) was)
  | inr other ↦
      let same : slice_get q.files file ≡ slice_get p.files file =
      ap (λ fs. slice_get fs file) h.after_files ∙ files_else h.first h.rest h.before h.after file (λ e. other (e ∙ h.rank))
      ∙ sym (ap (λ fs. slice_get fs file) h.before_files) in
      let stays : moved_by i file n ≡ n =
      ap (λ b. cond b (from_on i.number n) n) (false_from_ne_true (nat_eq file i.rank) (λ e. other (eqb-true file i.rank e))) in
      ap (λ o. spelled_at o (moved_by i file n)) same ∙ ap (spelled p file) stays
]
