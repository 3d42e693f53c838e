-- A package has a larger closure than each package that it builds on. It comes after these in an order by the sizes of closures, and in an
-- order of the import links.
use Rattle.std.proofs.Common.{ℕ, ◌≡◌, ◌+◌, ◌<◌, ◌≤◌, inl, inr, false, List, [], ◌∷◌, ◌++◌, length, get_or, sym, ap, subst, ◌∙◌, arith}
use Rattle.std.specs.Prelude.{Contains, nat_eq, Some, slice_get}
use Rattle.std.specs.Cmp.{nat_eq_equiv}
use Rattle.std.specs.List.{IsDistinct}
use Rattle.std.specs.List.Sorted.{IsStrictlyIncreasing, IsPermutation, IsNonDecreasingBy}
use Rattle.std.proofs.lemmas.Bool.{false≢true, cases_lt, cases_order, ne_eqb, eq-eqb}
use Rattle.std.proofs.lemmas.Bool.Decides.{Decides-eqb}
use Rattle.std.proofs.lemmas.List.{get_or_default, get_or_append_left, get_or_push, length_push}
use Rattle.std.proofs.lemmas.List.Elements.{Contains-get_or, recursion_from_All}
use Rattle.std.proofs.lemmas.List.Sorted.{Contains-permutation, IsPermutation-sym}
use Rattle.std.proofs.lemmas.Map.Keys.{IsDistinct-IsPermutation, IsDistinct-cons, apart_from_distinct, sorted_from_strictly_increasing}
use Rattle.std.proofs.lemmas.Map.Keys.{IsDistinct-from_apart, below_from_sorted}
use Rattle.std.proofs.lemmas.Map.Made.{length-le_from_is_member, is_member-Decides}
use Rattle.std.proofs.lemmas.Option.{same_Some, get_or_from_slice_get, slice_get-get_or, slice_get_within}
use Rattle.base_lemmas.proofs.Elements.{first_or_later}
use Rattle.base_files.specs.Workspace.{Workspace}
use Rattle.base_files.specs.Packages.{package_paths}
use Rattle.workspace_graph.specs.Imports.{LinkTable, ListsBelow}
use Rattle.workspace_graph.specs.Orders.{IsOrder}
use Rattle.workspace_graph.specs.Packages.{AreLinksOf, IsInClosure, itself}
use Rattle.workspace_graph.proofs.ByPath.{number, reaches_are}
use Rattle.workspace_check.specs.Verdicts.{BuildsOn}
use Rattle.workspace_check.specs.Steps.{IsClosureSize, AreClosureSizes, IsBuildOrder}
use Rattle.workspace_check.proofs.Closed.{from_package, in_closure_then}

-- numbers in order differ
distinct_rising : (xs : List ℕ) → IsStrictlyIncreasing xs → IsDistinct nat_eq xs
distinct_rising xs up =
    IsDistinct-from_apart nat_eq xs (λ i j d h l. ne_eqb (get_or xs i d) (get_or xs j d)
    (λ e. absurd (omega (arith, below_from_sorted xs i j d (sorted_from_strictly_increasing xs up) h l))))

-- fewer

fewer : (w : Workspace) (p q : List ℕ) (a b : ℕ) → BuildsOn w p q → IsClosureSize w p a → IsClosureSize w q b → b < a
fewer w p q a b on hp hq =
    let own = from_package w p q on.imported in
    let n = number w p own in
    let apart : (y : ℕ) → Contains hq.numbers y → nat_eq n.0 y ≡ false = λ y c. ne_eqb n.0 y (λ e.
    let r = (hq.holds n.0).0 (subst (Contains hq.numbers) (sym e) c) in
    on.not_back (subst (IsInClosure w q) (same_Some r.0 p (sym r.1 ∙ n.1)) r.2)) in
    let distinct = IsDistinct-cons nat_eq n.0 hq.numbers
    (recursion_from_All (λ y. nat_eq n.0 y ≡ false) hq.numbers (λ k d l. apart (get_or hq.numbers k d) (Contains-get_or hq.numbers k d l)))
    (distinct_rising hq.numbers hq.rising) in
    let within : (x : ℕ) → Contains (n.0 ∷ hq.numbers) x → Contains hp.numbers x = λ x c. elim (first_or_later n.0 hq.numbers x c) [
      | inl e ↦ subst (Contains hp.numbers) e ((hp.holds n.0).1 (p, n.1, itself own))
      | inr o ↦ (let r = (hq.holds x).0 o in (hp.holds x).1 (r.0, r.1, in_closure_then w p q r.0 on.imported r.2))
    ] in
    let le : length (n.0 ∷ hq.numbers) ≤ length hp.numbers =
    length-le_from_is_member nat_eq_equiv (n.0 ∷ hq.numbers) hp.numbers distinct
    (λ x m. (is_member-Decides Decides-eqb hp.numbers x).1 (within x ((is_member-Decides Decides-eqb (n.0 ∷ hq.numbers) x).0 m))) in
    omega (arith, hp.is, hq.is)

-- the order

one_place : (xs : List ℕ) → IsDistinct nat_eq xs → (i j n : ℕ) → slice_get xs i ≡ Some n → slice_get xs j ≡ Some n → i < j → ⊥
one_place xs d i j n a b lt =
    let apart = apart_from_distinct nat_eq xs i j 0 d lt (slice_get_within xs j n b) in
    false≢true (sym apart ∙ eq-eqb (get_or xs i 0) (get_or xs j 0) (get_or_from_slice_get xs i n 0 a ∙ sym (get_or_from_slice_get xs j n 0 b)))

same_place : (xs : List ℕ) → IsDistinct nat_eq xs → (i j n : ℕ) → slice_get xs i ≡ Some n → slice_get xs j ≡ Some n → i ≡ j
same_place xs d i j n a b = elim (cases_order i j) [
  | inl e ↦ e
  | inr o ↦ elim o [ inl lt ↦ absurd (one_place xs d i j n a b lt) | inr gt ↦ absurd (one_place xs d j i n b a gt) ]
]

pub order_is : (w : Workspace) (count : ℕ) (sizes list order : List ℕ) → count ≡ length (package_paths w) → AreClosureSizes w (length (package_paths w)) sizes →
    ListsBelow (λ n. Unit {0}) count list → IsPermutation list order →
    IsNonDecreasingBy (λ n. get_or sizes n 0) order → IsBuildOrder w order
order_is w count sizes list order all sized held moved sorted =
    let back = IsPermutation-sym list order moved in
    let has : (n : ℕ) → n < length (package_paths w) → Contains order n = λ n lt.
    Contains-permutation list order n moved ((held.each n).1 ((let less : n < count = omega arith in less), tt)) in
    record {
      each = λ n. (
        λ c. (let less : n < count = ((held.each n).0 (Contains-permutation order list n back c)).0 in
            let lt : n < length (package_paths w) = omega arith in lt),
        has n,
      );
      once = same_place order (IsDistinct-IsPermutation nat_eq nat_eq_equiv.symm list order moved (distinct_rising list held.rising));
      behind = λ i n m p q at at_n at_m on.
          let within = slice_get_within order i n at in
          let n_in = slice_get_within (package_paths w) n p at_n in
          let m_in = slice_get_within (package_paths w) m q at_m in
          let less : get_or sizes m 0 < get_or sizes n 0 = fewer w p q (get_or sizes n 0) (get_or sizes m 0) on (sized.each n p n_in at_n)
          (sized.each m q m_in at_m) in
          let there = has m m_in in
          let lt : there.0 < length order = there.1 in
          let n_is : get_or order i 0 ≡ n = get_or_from_slice_get order i n 0 at in
          let m_is : get_or order there.0 0 ≡ m = get_or_default order there.0 0 m lt ∙ there.2 in (
            there.0,
            elim (cases_lt there.0 i) [
              | inl before ↦ before
              | inr after ↦ (
                  let up : get_or sizes (get_or order i 0) 0 ≤ get_or sizes (get_or order there.0 0) 0 = sorted i there.0 0 after lt in
                  let up_n : get_or sizes n 0 ≤ get_or sizes (get_or order there.0 0) 0 =
                  subst (λ x. get_or sizes x 0 ≤ get_or sizes (get_or order there.0 0) 0) n_is up in
                  let up_m : get_or sizes n 0 ≤ get_or sizes m 0 = subst (λ x. get_or sizes n 0 ≤ get_or sizes x 0) m_is up_n in
                  absurd (omega arith))
            ],
            slice_get-get_or order there.0 m lt ∙ ap Some there.2,
          );
    }

-- one size more
pub next_size : (w : Workspace) (old new : List ℕ) (n size : ℕ) → new ≡ old ++ size ∷ [] → AreClosureSizes w n old →
    ((p : List ℕ) → slice_get (package_paths w) n ≡ Some p → IsClosureSize w p size) → AreClosureSizes w (n + 1) new
next_size w old new n size e h here =
    let long = length_push old size in
    let sized : length old ≡ n = h.size in
    record {
      size = ap length e ∙ (let l : length (old ++ size ∷ []) ≡ n + 1 = omega arith in l);
      each = λ i p lt at. subst (λ l. IsClosureSize w p (get_or l i 0)) (sym e) (elim (cases_lt i n) [
        | inl before ↦ subst (IsClosureSize w p) (sym (get_or_append_left old (size ∷ []) 0 i (let less : i < length old = omega arith in less)))
            (h.each i p before at)
        | inr after ↦ (
            let is : n ≡ i = omega arith in
            let last : get_or (old ++ size ∷ []) i 0 ≡ size = get_or_push old size 0 i (sized ∙ is) in
            subst (IsClosureSize w p) (sym last) (here p (subst (λ k. slice_get (package_paths w) k ≡ Some p) (sym is) at)))
      ]);
    }

-- an order of packages by what they reach
pub build_order : (w : Workspace) (g : LinkTable) → AreLinksOf w g → (order : List ℕ) → IsOrder g order → IsBuildOrder w order
build_order w g links order is = record {
  each = λ n. (
    λ has. subst (λ (k : ℕ). n < k) links.size ((is.each n).0 has),
    λ lt. (is.each n).1 (subst (λ (k : ℕ). n < k) (sym links.size) lt),
  );
  once = is.once;
  behind = λ i n m p q at at_n at_m on. is.behind i n m at ((reaches_are w g links n m p q at_n at_m).1 on.imported)
      (λ back. on.not_back ((reaches_are w g links m n q p at_m at_n).0 back));
}
