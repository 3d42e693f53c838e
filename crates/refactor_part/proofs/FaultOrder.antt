-- The first fault of marked packages, which are passed in the order of their paths.
use Rattle.base_files.specs.Packages.{package_paths}
use Rattle.base_files.specs.Path.{folder}
use Rattle.base_files.specs.Workspace.{Workspace, path_cmp}
use Rattle.base_lemmas.proofs.Elements.{nothing_in, first_or_later}
use Rattle.go_ast.specs.SourceFile.{source_of}
use Rattle.refactor_part.specs.Affected.{IsMarkedPackage}
use Rattle.refactor_part.specs.FirstFaults.{IsFaultOfThese, HaveNoFault, HaveFirstFault}
use Rattle.std.proofs.Common.{◌≡◌, ◌≢◌, ℕ, ◌+◌, Bool, ◌<◌, inl, inr, List, [], ◌∷◌, length, get_or, refl, sym, ap, ap₂, subst, ◌∙◌, arith, Some, None, Option}
use Rattle.std.proofs.lemmas.Bool.{cases_lt}
use Rattle.std.proofs.lemmas.Map.Keys.{Less-from_sorted}
use Rattle.std.proofs.lemmas.Option.{none-some, same_Some, slice_get_within, get_or_from_slice_get}
use Rattle.std.specs.Cmp.{tied_itself}
use Rattle.std.specs.List.Sorted.{IsStrictlySortedBy}
use Rattle.std.specs.List.{AllByRecursion}
use Rattle.std.specs.Ordering.{nat_cmp, ordering_reverse, ordering_then}
use Rattle.std.specs.Prelude.{Contains, MatchOption, map, slice_get}
use Rattle.std.specs.Borrow.{Bor}
use Rattle.std.specs.Option.{option_copied}
use Rattle.std.specs.declared.cmp.Ordering.TheVariants.{Less, Equal, Greater}
use Rattle.workspace_check.proofs.PackageFiles.{in_folder, file_among, at_rank}
use Rattle.workspace_check.specs.FaultLists.{AreListedFaults}
use Rattle.workspace_check.specs.Faults.{fault_cmp, fault_cmp_total}
use Rattle.workspace_check.specs.Found.{AreFindings}
use Rattle.workspace_check.specs.KnownFindings.{verdicts_by}
use Rattle.workspace_check.specs.Verdicts.{Verdicts, IsFaultBy}
use Rattle.workspace_check.specs.declared.fault.FileFault.{FileFault}
use Rattle.workspace_check.specs.declared.finding.Finding.{Finding}
use Rattle.workspace_check.specs.declared.findings.Findings.{Findings}
use Rattle.workspace_graph.proofs.ByPath.{at_contains}
use Rattle.workspace_graph.proofs.PackagePaths.{paths_sorted}
use Rattle.workspace_graph.specs.Search.{IsMarked}
use Rattle.std.specs.Cmp.Lexicographic.{slice_cmp}
use Rattle.base_files.specs.FaultNames.{fault_word}
use Rattle.types_info.proofs.MeaningLists.{slice_get_some}
use Rattle.refs_binding.proofs.Units.{none_listed}

-- a fault of a package stands in a file of its folder
pub fault_folder : (w : Workspace) (known : Verdicts) (p : List ℕ) (f : FileFault) → IsFaultBy w known p f → folder f.place.path ≡ p
fault_folder w known p f is = elim is [
  | inl unread ↦ ap (λ (g : FileFault). folder g.place.path) unread.at ∙ in_folder w p (unread.path, unread.text) unread.of_package
  | inr read ↦ (
      let file = file_among read.parsed read.source (at_rank (map source_of read.files) read.fault.file read.source read.in_file) in
      ap (λ (g : FileFault). folder g.place.path) read.at ∙ ap folder file.1.1.of_path ∙ in_folder w p file.0 file.1.0)
]

-- ---- the order of faults
less_only : (f g : FileFault) → fault_cmp f g ≡ Less → fault_cmp g f ≢ Less
less_only f g less back = less_greater (sym back ∙ fault_cmp_total.antisymm g f ∙ ap ordering_reverse less)
  where
    less_greater : Less ≡ Greater → ⊥
    less_greater e = let z : ⊥ = cc in z

not_below_itself : (f : FileFault) → fault_cmp f f ≢ Less
not_below_itself f below = (let e : Equal ≡ Less = sym (tied_itself fault_cmp_total f) ∙ below in let z : ⊥ = cc in z)

by_package : (f g : FileFault) → path_cmp (folder f.place.path) (folder g.place.path) ≡ Less → fault_cmp f g ≡ Less
by_package f g less = ap (λ o. ordering_then o (ordering_then (path_cmp f.place.path g.place.path)
    (ordering_then (nat_cmp f.place.offset g.place.offset) (slice_cmp nat_cmp (fault_word f.kind) (fault_word g.kind))))) less

-- the first one of a sorted list
below_each : {X : Type 0} (P : X → Type 0) (xs : List X) → AllByRecursion P xs → (y : X) → Contains xs y → P y
below_each P [] all y has = absurd (nothing_in y has)
below_each P (x ∷ xs) all y has = elim (first_or_later x xs y has) [ inl same ↦ subst P same all.0 | inr later ↦ below_each P xs all.1 y later ]

first_listed : (list : List FileFault) (f g : FileFault) → IsStrictlySortedBy fault_cmp list → slice_get list 0 ≡ Some f → Contains list g →
    fault_cmp g f ≢ Less
unfolding IsStrictlySortedBy
first_listed [] f g sorted at has = absurd (nothing_in g has)
first_listed (x ∷ xs) f g sorted at has =
    let same : x ≡ f = same_Some x f at in
    subst (λ y. fault_cmp g y ≢ Less) same (elim (first_or_later x xs g has) [
      | inl own ↦ subst (λ y. fault_cmp y x ≢ Less) own (not_below_itself x)
      | inr later ↦ less_only x g (below_each (λ y. fault_cmp x y ≡ Less) xs sorted.0 g later)
    ])

-- no marked one of the first packages has a fault
abbrev pub AreMarkedSound : Workspace → Verdicts → List Bool → ℕ → Type 0
AreMarkedSound w known marks count =
    (n : ℕ) (p : List ℕ) → n < count → slice_get (package_paths w) n ≡ Some p → IsMarked marks n → (f : FileFault) → IsFaultBy w known p f → ⊥

module _ (w : Workspace) (found : Findings) (are : AreFindings w found) (marks : List Bool) where
  abbrev known : Verdicts
  known = verdicts_by found.export_table

  abbrev AreSoundBelow : ℕ → Type 0
  AreSoundBelow = AreMarkedSound w known marks

  pub none_below : AreSoundBelow 0
  none_below n p lt = absurd (omega (arith, lt))

  next : (count : ℕ) → AreSoundBelow count → ((p : List ℕ) → slice_get (package_paths w) count ≡ Some p → IsMarked marks count → (f : FileFault) →
      IsFaultBy w known p f → ⊥) →
      AreSoundBelow (count + 1)
  next count before here n p lt at marked = elim (cases_lt n count) [
    | inl below ↦ before n p below at marked
    | inr past ↦ (
        let same : n ≡ count = omega (arith, lt, past) in
        here p (subst (λ m. slice_get (package_paths w) m ≡ Some p) same at) (subst (IsMarked marks) same marked))
  ]

  -- the package is not marked
  pub next_unmarked : (count : ℕ) → AreSoundBelow count → (IsMarked marks count → ⊥) → AreSoundBelow (count + 1)
  next_unmarked count before unmarked = next count before (λ p at marked. absurd (unmarked marked))

  -- it has no fault
  pub next_sound : (count : ℕ) (f : Finding) → AreSoundBelow count → slice_get found.packages.items count ≡ Some f → f.faults.items ≡ [] →
      AreSoundBelow (count + 1)
  next_sound count f before at none = next count before (λ p is marked fault fault_is.
      none_listed (IsFaultBy w known p) f.faults.items (are.each count p f is at).listed none fault fault_is)

  -- all were passed
  pub all_sound : AreSoundBelow (length found.packages.items) → HaveNoFault w (IsMarkedPackage w marks)
  all_sound all = record {
    known = known;
    right = are.right;
    none = λ f is.
        let m = is.among in
        let lt : m.number < length found.packages.items = subst (λ n. m.number < n) (sym are.size) (slice_get_within (package_paths w) m.number is.path
        m.has_path) in
        all m.number is.path lt m.has_path m.marked f is.is_fault;
  }

  -- the first fault of the next package
  pub found_first : (count : ℕ) (f : Finding) (fault : FileFault) → AreSoundBelow count → IsMarked marks count → slice_get found.packages.items count ≡ Some f →
      slice_get f.faults.items 0 ≡ Some fault → HaveFirstFault w (IsMarkedPackage w marks) fault.place fault.kind
  found_first count f fault before marked at first =
      let lt : count < length (package_paths w) = subst (λ n. count < n) are.size (slice_get_within found.packages.items count f at) in
      let p = slice_get_some (package_paths w) count lt in
      let finding = are.each count p.0 f p.1 at in
      let own : IsFaultBy w known p.0 fault = (finding.listed.each fault).0 (at_rank f.faults.items 0 fault first) in
      record {
        known = known;
        right = are.right;
        is_fault = record {
          path = p.0;
          is_package = at_contains w count p.0 p.1;
          among = record { number = count; has_path = p.1; marked = marked };
          is_fault = own;
        };
        first = λ other is.
            let m = is.among in
            elim (cases_lt m.number count) [
              | inl below ↦ absurd (before m.number is.path below m.has_path m.marked other is.is_fault)
              | inr past ↦ elim (cases_lt count m.number) [
                | inl above ↦ (
                    let rising : path_cmp p.0 is.path ≡ Less =
                    ap₂ path_cmp (sym (get_or_from_slice_get (package_paths w) count p.0 [] p.1)) (sym (get_or_from_slice_get (package_paths w) m.number
                    is.path [] m.has_path))
                    ∙ Less-from_sorted path_cmp (package_paths w) count m.number [] (paths_sorted w) above (slice_get_within (package_paths w) m.number
                    is.path m.has_path) in
                    less_only fault other (by_package fault other (ap₂ path_cmp (fault_folder w known p.0 fault own) (fault_folder w known is.path other
                    is.is_fault) ∙ rising)))
                | inr same ↦ (
                    let here : m.number ≡ count = omega (arith, past, same) in
                    let path : is.path ≡ p.0 = same_Some is.path p.0 (sym m.has_path ∙ ap (slice_get (package_paths w)) here ∙ p.1) in
                    first_listed f.faults.items fault other finding.listed.in_order first
                    ((finding.listed.each other).1 (subst (λ q. IsFaultBy w known q other) path is.is_fault)))
              ]
            ];
      }

-- the first one of a list
pub first_told : (items : List FileFault) (o : Option (Bor FileFault)) → option_copied o ≡ slice_get items 0 →
    MatchOption o (items ≡ []) (λ f. slice_get items 0 ≡ Some f.now)
first_told items (Some f) e = sym e
first_told [] None e = refl
first_told (x ∷ xs) None e = absurd (none-some x e)
