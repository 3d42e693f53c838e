-- The inputs of a package, told by its closure's packages, one after another.
use Rattle.std.proofs.Common.{◌≡◌, ℕ, zero, suc, ◌+◌, ◌<◌, ◌≤◌, List, [], ◌∷◌, ◌++◌, length, take, map as mapped, get_or, Some, slice_get}
use Rattle.std.proofs.Common.{refl, sym, ap, subst, ◌∙◌, inl, inr, ⊎_elim, arith}
use Rattle.std.proofs.Math.Path.{ap₂}
use Rattle.std.specs.FinMap.{entries}
use Rattle.std.specs.List.{Contains}
use Rattle.std.specs.List.Sorted.{IsStrictlyIncreasing, IsStrictlySortedBy}
use Rattle.std.proofs.lemmas.Bool.{cases_lt}
use Rattle.std.proofs.lemmas.List.{take_more, map-append, length-map}
use Rattle.std.proofs.lemmas.Map.Keys.{Less-from_sorted, sorted_from_all_adjacent}
use Rattle.std.proofs.lemmas.Option.{same_Some, slice_get_within, slice_get-get_or, get_or_from_slice_get}
use Rattle.base_files.specs.Path.{folder}
use Rattle.base_files.specs.Packages.{is_of_package, package_paths, package_files}
use Rattle.base_files.specs.Workspace.{Workspace, path_cmp}
use Rattle.base_files.proofs.PackageFolders.{of_folder}
use Rattle.base_files.proofs.WorkspaceLaws.{path_cmp_total}
use Rattle.go_ast.specs.SourceFile.{FileParts, source_of}
use Rattle.workspace_graph.specs.FaultyFiles.{FaultyParts}
use Rattle.workspace_graph.specs.Graphs.{ListsPackages}
use Rattle.workspace_graph.specs.Packages.{IsInClosure}
use Rattle.workspace_graph.specs.Parsed.{AreParsed, none, tree, fault}
use Rattle.workspace_graph.proofs.ByPath.{has_file, number}
use Rattle.workspace_graph.proofs.OneFile.{file_or_fault}
use Rattle.workspace_graph.proofs.PackagePaths.{paths_sorted}
use Rattle.workspace_graph.proofs.SameFiles.{one_list}
use Rattle.workspace_check.specs.Earlier.{tree_file}
use Rattle.workspace_check.proofs.Closed.{to_package}
use Rattle.workspace_check.proofs.Members.{one_sorted, passes, passed}
use Rattle.workspace_check.proofs.PackageFiles.{package_file, mapped as mapped_from}
use Rattle.build_unit.specs.Inputs.{AreGoFiles, AreInputs}
use Rattle.build_unit.proofs.Part.{own_folder}
use Rattle.build_carry.specs.Changes.{HasSameFiles}
use Rattle.build_carry.specs.Inputs.{AreNumberedPackages, faulty_file}
use Rattle.build_carry.proofs.ChangedFiles.{same_texts}
use Rattle.build_carry.proofs.ParsedFiles.{parsed_files}
use Rattle.build_carry.proofs.ClosureTexts.{inputs_keep}

-- ---- two lists place by place
module _ {X Y : Type 0} (f : X → Y) where
  grown : (xs : List X) (k : ℕ) (x : X) → k < length xs → x ≡ get_or xs k x → mapped f (take (k + 1) xs) ≡ mapped f (take k xs) ++ f x ∷ []
  grown xs k x lt is =
      ap (mapped f) (take_more xs k x lt) ∙ map-append f (take k xs) (get_or xs k x ∷ []) ∙ ap (λ z. mapped f (take k xs) ++ f z ∷ []) (sym is)

  -- one place more
  pub alike_more : (xs ys : List X) (k : ℕ) (x y : X) → k < length xs → k < length ys → x ≡ get_or xs k x → y ≡ get_or ys k y → f x ≡ f y →
      mapped f (take k xs) ≡ mapped f (take k ys) → mapped f (take (k + 1) xs) ≡ mapped f (take (k + 1) ys)
  alike_more xs ys k x y a b at there is same = grown xs k x a at ∙ ap₂ (λ l z. l ++ z ∷ []) same is ∙ sym (grown ys k y b there)

  at_mapped : (xs : List X) (k : ℕ) (x : X) → k < length xs → x ≡ get_or xs k x → slice_get (mapped f xs) k ≡ Some (f x)
  at_mapped [] k x lt is = absurd (omega (arith, lt))
  at_mapped (z ∷ xs) zero x lt is = ap (λ y. Some (f y)) (sym is)
  at_mapped (z ∷ xs) (suc k) x lt is = at_mapped xs k x (omega (arith, lt)) is

  -- lists that differ at a place are two
  pub not_alike : (xs ys : List X) (k : ℕ) (x y : X) → k < length xs → k < length ys → x ≡ get_or xs k x → y ≡ get_or ys k y → (f x ≡ f y → ⊥) →
      mapped f xs ≡ mapped f ys → ⊥
  not_alike xs ys k x y a b at there differ same =
      differ (same_Some (f x) (f y) (sym (at_mapped xs k x a at) ∙ ap (λ l. slice_get l k) same ∙ at_mapped ys k y b there))

  -- and so are lists of different lengths
  pub same_length : (xs ys : List X) → mapped f xs ≡ mapped f ys → length xs ≡ length ys
  same_length xs ys same = sym (length-map xs f) ∙ ap length same ∙ length-map ys f

-- ---- the files of a package decide which of them have trees
pub one_parsed : {es : List (List ℕ × List ℕ)} {ts us : List FileParts} {fs gs : List FaultyParts} → AreParsed es ts fs → AreParsed es us gs →
    (mapped tree_file ts ≡ mapped tree_file us) × (mapped faulty_file fs ≡ mapped faulty_file gs)
one_parsed none none = (refl, refl)
one_parsed (tree {e = e} {t = t} is rest) (tree {t = u} so others) =
    let r = one_parsed rest others in
    let own : tree_file t ≡ tree_file u = (λ i. ((is.of_path ∙ sym so.of_path) i, (is.of_text ∙ sym so.of_text) i)) in
    (ap₂ (λ d ds. d ∷ ds) own r.0, r.1)
one_parsed (tree {e = e} {t = t} is rest) (fault {f = f} so others) = absurd (file_or_fault e.0 e.1 (source_of t) f.fault is so.is_fault)
one_parsed (fault {e = e} {f = f} is rest) (tree {t = t} so others) = absurd (file_or_fault e.0 e.1 (source_of t) f.fault so is.is_fault)
one_parsed (fault {e = e} {f = f} is rest) (fault {f = g} so others) =
    let r = one_parsed rest others in
    let own : faulty_file f ≡ faulty_file g = (λ i. ((is.of_path ∙ sym so.of_path) i, (is.of_text ∙ sym so.of_text) i)) in
    (r.0, ap₂ (λ d ds. d ∷ ds) own r.1)

-- and tells them, whatever their order
parsed_here : {es ds : List (List ℕ × List ℕ)} {ts us : List FileParts} {fs gs : List FaultyParts} → AreParsed es ts fs → AreParsed ds us gs →
    mapped tree_file ts ≡ mapped tree_file us → mapped faulty_file fs ≡ mapped faulty_file gs → (e : List ℕ × List ℕ) → Contains es e → Contains ds e
parsed_here a b trees faulty e has = ⊎_elim
    (λ (t : Contains _ e). (parsed_files b e).1 (inl (subst (λ l. Contains l e) trees t)))
    (λ (f : Contains _ e). (parsed_files b e).1 (inr (subst (λ l. Contains l e) faulty f)))
    ((parsed_files a e).0 has)

pub same_by_parsed : (v w : Workspace) (p : List ℕ) {ts us : List FileParts} {fs gs : List FaultyParts} → AreParsed (package_files v p) ts fs →
    AreParsed (package_files w p) us gs → mapped tree_file ts ≡ mapped tree_file us → mapped faulty_file fs ≡ mapped faulty_file gs → HasSameFiles v w p
same_by_parsed v w p a b trees faulty e = (parsed_here a b trees faulty e, parsed_here b a (sym trees) (sym faulty) e)

-- a package that has the same files has them in the same order
pub one_package : (v w : Workspace) (p : List ℕ) → HasSameFiles v w p → package_files v p ≡ package_files w p
one_package v w p same = one_list (is_of_package p) w v (λ path is. sym (same_texts v w p same path is))

pub parsed_alike : (v w : Workspace) (p : List ℕ) {ts us : List FileParts} {fs gs : List FaultyParts} → AreParsed (package_files v p) ts fs →
    AreParsed (package_files w p) us gs → HasSameFiles v w p → (mapped tree_file ts ≡ mapped tree_file us) × (mapped faulty_file fs ≡ mapped faulty_file gs)
parsed_alike v w p {ts = ts} {fs = fs} a b same = one_parsed (subst (λ es. AreParsed es ts fs) (one_package v w p same) a) b

-- ---- the packages of a closure
module _ (w v : Workspace) (p : List ℕ) (numbers : List ℕ) (holds : ListsPackages w (IsInClosure w p) numbers) where
  -- the number at a place is that of a package of the closure
  at_place : (i n : ℕ) → slice_get numbers i ≡ Some n → (q : List ℕ) × (slice_get (package_paths w) n ≡ Some q) × IsInClosure w p q
  at_place i n at = (holds n).0 (i, slice_get_within numbers i n at, get_or_from_slice_get numbers i n n at)

  module _ (has : Contains (package_paths w) p) where
    -- a package of v with the number of its place
    placed : AreNumberedPackages w numbers v → (q : List ℕ) → Contains (package_paths v) q → IsInClosure w p q × HasSameFiles w v q
    placed are q there =
        let i = number v q there in
        let within : i.0 < length numbers = omega (arith, slice_get_within (package_paths v) i.0 q i.1, are.size) in
        let n = get_or numbers i.0 0 in
        let at = slice_get-get_or numbers i.0 0 within in
        let r = at_place i.0 n at in
        let both = are.each i.0 n r.0 q at r.1 i.1 in
        (subst (IsInClosure w p) (sym both.0) r.2, subst (HasSameFiles w v) (sym both.0) both.1)

    -- and each of the closure is there
    place_of : AreNumberedPackages w numbers v → (q : List ℕ) → IsInClosure w p q → HasSameFiles w v q
    place_of are q closed =
        let n = number w q (to_package w p q closed) in
        let among = (holds n.0).1 (q, n.1, closed) in
        let at : slice_get numbers among.0 ≡ Some n.0 = slice_get-get_or numbers among.0 n.0 among.1 ∙ ap Some among.2 in
        let within : among.0 < length (package_paths v) = (let below : among.0 < length numbers = among.1 in omega (arith, below, are.size)) in
        let r : List ℕ = get_or (package_paths v) among.0 [] in
        (are.each among.0 n.0 q r at n.1 (slice_get-get_or (package_paths v) among.0 [] within)).1

    pub inputs_by : AreNumberedPackages w numbers v → AreGoFiles v → AreInputs w p v
    inputs_by are go = record {
      is_package = has;
      texts = λ e. (
        λ there.
            let q = folder e.0 in
            let own = passed (λ d. is_of_package q d.0) (entries v) e (own_folder e.0 (go e there)) there in
            let is = placed are q (has_file v q e own) in
            (q, is.0, (is.1 e).1 own),
        λ text. (passes (λ d. is_of_package text.0 d.0) (entries v) e ((place_of are text.0 text.1 e).0 text.2)).1,
      );
    }

  -- ---- of inputs
  module _ (inputs : AreInputs w p v) where
    abbrev paths : List (List ℕ)
    paths = mapped (λ n. get_or (package_paths w) n []) numbers

    path_at : (i n : ℕ) (q : List ℕ) → slice_get numbers i ≡ Some n → slice_get (package_paths w) n ≡ Some q → slice_get paths i ≡ Some q
    path_at i n q at is =
        at_mapped (λ m. get_or (package_paths w) m []) numbers i n (slice_get_within numbers i n at) (sym (get_or_from_slice_get numbers i n n at))
        ∙ ap Some (get_or_from_slice_get (package_paths w) n q [] is)

    paths_rise : IsStrictlyIncreasing numbers → IsStrictlySortedBy path_cmp paths
    paths_rise rising = sorted_from_all_adjacent path_cmp_total paths [] (λ k below.
        let size : length paths ≡ length numbers = length-map numbers (λ n. get_or (package_paths w) n []) in
        let next : k + 1 < length numbers = omega arith in
        let m = get_or numbers k 0 in
        let n = get_or numbers (k + 1) 0 in
        let first = slice_get-get_or numbers k 0 (omega arith) in
        let second = slice_get-get_or numbers (k + 1) 0 next in
        let a = at_place k m first in
        let b = at_place (k + 1) n second in
        let here : get_or paths k [] ≡ get_or (package_paths w) m [] = get_or_from_slice_get paths k a.0 [] (path_at k m a.0 first a.1)
        ∙ sym (get_or_from_slice_get (package_paths w) m a.0 [] a.1) in
        let there : get_or paths (k + 1) [] ≡ get_or (package_paths w) n [] = get_or_from_slice_get paths (k + 1) b.0 [] (path_at (k + 1) n b.0 second b.1)
        ∙ sym (get_or_from_slice_get (package_paths w) n b.0 [] b.1) in
        ap₂ path_cmp here there ∙ Less-from_sorted path_cmp (package_paths w) m n [] (paths_sorted w) (rising k next)
        (slice_get_within (package_paths w) n b.0 b.1))

    -- the packages of the inputs are those of the closure
    path_there : (q : List ℕ) → Contains paths q → Contains (package_paths v) q
    path_there q among =
        let n = mapped_from (λ m. get_or (package_paths w) m []) numbers q among in
        let r = (holds n.0).0 n.1.0 in
        let is : r.0 ≡ q = sym (get_or_from_slice_get (package_paths w) n.0 r.0 [] r.1) ∙ n.1.1 in
        let closed = subst (IsInClosure w p) is r.2 in
        let file = package_file w q (to_package w p q closed) in
        has_file v q file.0 ((inputs_keep w p v inputs.texts q closed file.0).0 file.1)

    path_here : (q : List ℕ) → Contains (package_paths v) q → Contains paths q
    path_here q there =
        let file = package_file v q there in
        let own = passes (λ d. is_of_package q d.0) (entries v) file.0 file.1 in
        let text = (inputs.texts file.0).0 own.1 in
        let of = (passes (λ d. is_of_package text.0 d.0) (entries w) file.0 text.2).0 in
        let is : text.0 ≡ q = sym (of_folder text.0 file.0.0 of) ∙ of_folder q file.0.0 own.0 in
        let closed = subst (IsInClosure w p) is text.1 in
        let n = number w q (to_package w p q closed) in
        let among = (holds n.0).1 (q, n.1, closed) in
        let at : slice_get numbers among.0 ≡ Some n.0 = slice_get-get_or numbers among.0 n.0 among.1 ∙ ap Some among.2 in
        let found = path_at among.0 n.0 q at n.1 in
        (among.0, slice_get_within paths among.0 q found, get_or_from_slice_get paths among.0 q q found)

    pub packages_by : IsStrictlyIncreasing numbers → AreNumberedPackages w numbers v
    packages_by rising =
        let same : paths ≡ package_paths v = one_sorted path_cmp_total paths (package_paths v) (paths_rise rising) (paths_sorted v) path_there path_here in
        record {
          size = ap length (sym same) ∙ length-map numbers (λ n. get_or (package_paths w) n []);
          each = λ i n a q at is there.
              let path : q ≡ a = same_Some q a (sym there ∙ ap (λ l. slice_get l i) (sym same) ∙ path_at i n a at is) in
              let r = at_place i n at in
              let closed = subst (IsInClosure w p) (same_Some r.0 a (sym r.1 ∙ is)) r.2 in
              (path, inputs_keep w p v inputs.texts a closed);
        }

-- ---- packages one after another
abbrev pub AreAlike : Workspace → List ℕ → Workspace → ℕ → Type 0
AreAlike w numbers v k = (i n : ℕ) (p q : List ℕ) → i < k → slice_get numbers i ≡ Some n → slice_get (package_paths w) n ≡ Some p →
    slice_get (package_paths v) i ≡ Some q
    → (q ≡ p) × HasSameFiles w v p

pub all_alike : (w : Workspace) (numbers : List ℕ) (v : Workspace) (k : ℕ) → length (package_paths v) ≡ length numbers → length numbers ≤ k →
    AreAlike w numbers v k → AreNumberedPackages w numbers v
all_alike w numbers v k size past before = record {
  size = size;
  each = λ i n p q at is there. before i n p q (let within : i < length numbers = slice_get_within numbers i n at in omega (arith, within, past)) at is there;
}

pub next_alike : (w : Workspace) (numbers : List ℕ) (v : Workspace) (k m : ℕ) → slice_get numbers k ≡ Some m →
    ((p : List ℕ) → slice_get (package_paths w) m ≡ Some p → (q : List ℕ) → slice_get (package_paths v) k ≡ Some q → (q ≡ p) × HasSameFiles w v p) →
    AreAlike w numbers v k → AreAlike w numbers v (k + 1)
next_alike w numbers v k m here same before i n p q below at is there = ⊎_elim
    (λ (less : i < k). before i n p q less at is there)
    (λ (more : k ≤ i).
    let last : i ≡ k = omega (arith, below, more) in
    let number : m ≡ n = same_Some m n (sym here ∙ subst (λ j. slice_get numbers j ≡ Some n) last at) in
    same p (subst (λ j. slice_get (package_paths w) j ≡ Some p) (sym number) is) q (subst (λ j. slice_get (package_paths v) j ≡ Some q) last there))
    (cases_lt i k)
