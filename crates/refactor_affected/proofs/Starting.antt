-- The packages from which the effects of a move begin.
use Rattle.std.proofs.Common.{◌≡◌, ℕ, ◌<◌, ◌+◌, inl, inr, Bool, true, false, List, [], ◌∷◌, ◌++◌, length}
use Rattle.std.proofs.Common.{length-append, get_or, take, zero, suc, Option, None, Some, Bor, refl, sym, ap, subst, ◌∙◌, arith}
use Rattle.std.specs.Prelude.{◌↔◌, Contains, IsTrue, MatchOption, Vec, nat_eq, slice_get}
use Rattle.std.specs.Cmp.Lexicographic.{bytes_decides}
use Rattle.std.specs.List.{starts_with}
use Rattle.std.specs.Option.{is_some}
use Rattle.std.proofs.Math.Seq.{take-append_seam}
use Rattle.std.proofs.lemmas.Bool.{false≢true, true≢false, cases_lt}
use Rattle.std.proofs.lemmas.List.{append_cancel_left}
use Rattle.std.proofs.lemmas.Option.{slice_get_within}
use Rattle.base_lemmas.proofs.Elements.{nothing_in, first_in, later_in, first_or_later}
use Rattle.base_files.specs.Packages.{package_paths, package_files}
use Rattle.base_files.specs.Workspace.{Workspace}
use Rattle.workspace_graph.specs.Reaching.{ReachingMarks}
use Rattle.workspace_graph.specs.ImportPaths.{bytes_of_paths, ListsPaths, AnyImports}
use Rattle.workspace_graph.specs.Parsed.{AreParsed}
use Rattle.workspace_graph.specs.declared.package.ParsedPackage.{ParsedPackage}
use Rattle.workspace_graph.proofs.ByPath.{at_contains, number}
use Rattle.workspace_graph.proofs.Linked.{package_imports}
use Rattle.workspace_check.proofs.Closed.{to_package}
use Rattle.refactor_part.specs.Affected.{IsAffected}
use Rattle.refactor_known.specs.Swaps.{IsBehind}
use Rattle.refactor_affected.specs.Starts.{IsAtOrUnder, IsNewOfMoved, ConcernsMove, BeginsMove, moves, imports}
use Rattle.refactor_affected.specs.Steps.{MarkFirst, MarkPackages}

append_nil : (xs : List ℕ) → xs ++ [] ≡ xs
append_nil [] = refl
append_nil (x ∷ xs) = ap (λ l. x ∷ l) (append_nil xs)

-- ---- what follows a folder
pub behind_of : (folder path : List ℕ) → IsAtOrUnder folder path → (rest : List ℕ) × IsBehind folder path rest
behind_of folder path at = elim at [
  | inl same ↦ ([], record { whole = same ∙ sym (append_nil folder); begins = inl refl })
  | inr under ↦ (47 ∷ under.0, record { whole = under.1; begins = inr (under.0, refl) })
]

pub at_behind : (folder path rest : List ℕ) → IsBehind folder path rest → IsAtOrUnder folder path
at_behind folder path rest h = elim h.begins [
  | inl none ↦ inl (h.whole ∙ ap (λ l. folder ++ l) none ∙ append_nil folder)
  | inr more ↦ inr (more.0, h.whole ∙ ap (λ l. folder ++ l) more.1)
]

pub not_begun : (folder path : List ℕ) → starts_with nat_eq path folder ≡ false → (rest : List ℕ) → IsBehind folder path rest → ⊥
not_begun folder path e rest h =
    let same : folder ≡ take (length folder) path = sym (ap (take (length folder)) h.whole ∙ take-append_seam folder rest) in
    true≢false (sym ((bytes_decides folder (take (length folder) path)).1 same) ∙ e)

-- what was found of a folder in a path
pub not_behind : (folder path : List ℕ) (o : Option (Bor (List ℕ))) →
    MatchOption o ((rest : List ℕ) → IsBehind folder path rest → ⊥) (λ rest. IsBehind folder path rest.now) → is_some o ≡ false → (rest : List ℕ) →
    IsBehind folder path rest → ⊥
not_behind folder path None h is = h
not_behind folder path (Some r) h is = absurd (true≢false is)

-- ---- a package that is sought
pub package_found : (w : Workspace) (path : List ℕ) (o : Option ℕ) →
    MatchOption o (Contains (package_paths w) path → ⊥) (λ n. slice_get (package_paths w) n ≡ Some path) →
    IsTrue (is_some o) ↔ Contains (package_paths w) path
package_found w path None h = ((λ t. absurd (false≢true t)), (λ has. absurd (h has)))
package_found w path (Some n) h = ((λ t. at_contains w n path h), (λ has. refl))

-- ---- the value of an import literal
module _ (w : Workspace) (from to path : List ℕ) where
  -- the new path of a package that moves, by what follows the new folder
  old_package : (rest : List ℕ) → IsBehind to path rest → IsNewOfMoved w from to path → Contains (package_paths w) (from ++ rest)
  old_package rest h new = elim new.moves [
    | inl own ↦ (
        let none : rest ≡ [] = append_cancel_left to rest [] (sym h.whole ∙ own.1 ∙ sym (append_nil to)) in
        subst (Contains (package_paths w)) (own.0 ∙ sym (append_nil from) ∙ ap (λ l. from ++ l) (sym none)) new.is_package)
    | inr moved ↦ (
        let same : rest ≡ 47 ∷ moved.rest = append_cancel_left to rest (47 ∷ moved.rest) (sym h.whole ∙ moved.is) in
        subst (Contains (package_paths w)) (moved.was ∙ ap (λ l. from ++ l) (sym same)) new.is_package)
  ]

  new_package : (rest : List ℕ) → IsBehind to path rest → Contains (package_paths w) (from ++ rest) → IsNewOfMoved w from to path
  new_package rest h has = record {
    old = from ++ rest;
    is_package = has;
    moves = elim h.begins [
      | inl none ↦ inl (ap (λ l. from ++ l) none ∙ append_nil from, h.whole ∙ ap (λ l. to ++ l) none ∙ append_nil to)
      | inr more ↦ inr (record { rest = more.0; was = ap (λ l. from ++ l) more.1; is = h.whole ∙ ap (λ l. to ++ l) more.1 })
    ];
  }

  new_at : IsNewOfMoved w from to path → IsAtOrUnder to path
  new_at new = elim new.moves [ inl own ↦ inl own.1 | inr moved ↦ inr (moved.rest, moved.is) ]

  pub concerns_old : (rest : List ℕ) → IsBehind from path rest → IsTrue true ↔ ConcernsMove w from to path
  concerns_old rest h = ((λ t. inl (at_behind from path rest h)), (λ c. refl))

  pub concerns_none : ((rest : List ℕ) → IsBehind from path rest → ⊥) → ((rest : List ℕ) → IsBehind to path rest → ⊥) →
      IsTrue false ↔ ConcernsMove w from to path
  concerns_none outside beside = (
    (λ t. absurd (false≢true t)),
    (λ c. absurd (elim c [
      | inl at ↦ (let b = behind_of from path at in outside b.0 b.1)
      | inr new ↦ (let b = behind_of to path (new_at new) in beside b.0 b.1)
    ])),
  )

  pub concerns_new : (rest : List ℕ) → ((r : List ℕ) → IsBehind from path r → ⊥) → IsBehind to path rest → (b : Bool) →
      IsTrue b ↔ Contains (package_paths w) (from ++ rest) → IsTrue b ↔ ConcernsMove w from to path
  concerns_new rest outside h b is = (
    (λ t. inr (new_package rest h (is.0 t))),
    (λ c. elim c [
      | inl at ↦ absurd (let r = behind_of from path at in outside r.0 r.1)
      | inr new ↦ is.1 (old_package rest h new)
    ]),
  )

-- ---- marks
mark_before : (xs : List Bool) (b : Bool) (n : ℕ) → n < length xs → get_or (xs ++ b ∷ []) n false ≡ get_or xs n false
mark_before [] b n lt = absurd (omega (arith, lt))
mark_before (x ∷ xs) b zero lt = refl
mark_before (x ∷ xs) b (suc n) lt = mark_before xs b n (omega (arith, lt))

mark_last : (xs : List Bool) (b : Bool) → get_or (xs ++ b ∷ []) (length xs) false ≡ b
mark_last [] b = refl
mark_last (x ∷ xs) b = mark_last xs b

module _ (w : Workspace) (P : List ℕ → Type 0) where
  pub first_none : (marks : List Bool) → marks ≡ [] → MarkFirst w P 0 marks
  first_none marks none = record { size = ap length none; each = λ n p lt. absurd (omega (arith, lt)) }

  pub first_more : (count : ℕ) (marks next : List Bool) (b : Bool) → next ≡ marks ++ b ∷ [] → MarkFirst w P count marks →
      ((p : List ℕ) → slice_get (package_paths w) count ≡ Some p → IsTrue b ↔ P p) → MarkFirst w P (count + 1) next
  first_more count marks next b more h own = record {
    size = ap length more ∙ length-append marks (b ∷ []) ∙ ap (λ n. n + 1) h.size;
    each = λ n p lt at. elim (cases_lt n count) [
      | inl before ↦ (
          let same : get_or next n false ≡ get_or marks n false =
          ap (λ l. get_or l n false) more ∙ mark_before marks b n (subst (λ m. n < m) (sym h.size) before) in
          let old = h.each n p before at in
          ((λ m. old.0 (sym same ∙ m)), (λ is. same ∙ old.1 is)))
      | inr past ↦ (
          let here : n ≡ count = omega (arith, lt, past) in
          let same : get_or next n false ≡ b =
          ap (λ l. get_or l n false) more ∙ ap (λ m. get_or (marks ++ b ∷ []) m false) (here ∙ sym h.size) ∙ mark_last marks b in
          let told = own p (subst (λ m. slice_get (package_paths w) m ≡ Some p) here at) in
          ((λ m. told.0 (sym same ∙ m)), (λ is. same ∙ told.1 is)))
    ];
  }

  pub marks_affected : (marks reaching : List Bool) → MarkFirst w P (length (package_paths w)) marks → ReachingMarks w marks reaching →
      MarkPackages w (IsAffected w P) reaching
  marks_affected marks reaching first h p there = (
    λ m.
        let r = (h.each m.number p m.has_path).0 m.marked in
        record {
          start = r.path;
          begins = (first.each r.number r.path (slice_get_within (package_paths w) r.number r.path r.has_path) r.has_path).0 r.marked;
          in_closure = r.in_closure;
        },
    λ a.
        let n = number w p there in
        let m = number w a.start (to_package w p a.start a.in_closure) in
        record {
          number = n.0;
          has_path = n.1;
          marked = (h.each n.0 p n.1).1 (record {
            number = m.0;
            path = a.start;
            has_path = m.1;
            marked = (first.each m.0 a.start (slice_get_within (package_paths w) m.0 a.start m.1) m.1).1 a.begins;
            in_closure = a.in_closure;
          });
        },
  )

-- ---- paths that are passed
-- Each of the paths for which `P` holds is among those that are left.
pub record LeavesEach (P : List ℕ → Type 0) (paths left : List (List ℕ)) : Type 0 where
  pub within : (q : List ℕ) → Contains left q → Contains paths q
  pub holding : (q : List ℕ) → Contains paths q → P q → Contains left q

module _ (P : List ℕ → Type 0) (paths : List (List ℕ)) where
  pub leaves_all : LeavesEach P paths paths
  leaves_all = record { within = λ q h. h; holding = λ q h p. h }

  pub leaves_rest : (q : List ℕ) (left : List (List ℕ)) → (P q → ⊥) → LeavesEach P paths (q ∷ left) → LeavesEach P paths left
  leaves_rest q left not h = record {
    within = λ r has. h.within r (later_in q left r has);
    holding = λ r has holds. elim (first_or_later q left r (h.holding r has holds)) [
      | inl same ↦ absurd (not (subst P (sym same) holds))
      | inr later ↦ later
    ];
  }

  pub one_holds : (q : List ℕ) (left : List (List ℕ)) → P q → LeavesEach P paths (q ∷ left) → IsTrue true ↔ ((r : List ℕ) × (Contains paths r × P r))
  one_holds q left holds h = ((λ t. (q, (h.within q (first_in q left), holds))), (λ some. refl))

  pub none_holds : LeavesEach P paths [] → IsTrue false ↔ ((r : List ℕ) × (Contains paths r × P r))
  none_holds h = ((λ t. absurd (false≢true t)), (λ some. absurd (nothing_in some.0 (h.holding some.0 some.1.0 some.1.1))))

-- ---- a package from which the effects begin
module _ (w : Workspace) (from to : List ℕ) (p : ParsedPackage) (parsed : AreParsed (package_files w p.path.items) p.trees.items p.faulty.items) where
  pub begins_moved : (rest : List ℕ) → IsBehind from p.path.items rest → IsTrue true ↔ BeginsMove w from to p.path.items
  begins_moved rest h = ((λ t. moves (at_behind from p.path.items rest h)), (λ b. refl))

  pub begins_imports : {Z : Type 0} (keys : List (Vec ℕ Z)) (b : Bool) → ((rest : List ℕ) → IsBehind from p.path.items rest → ⊥) →
      ListsPaths (AnyImports p.trees.items) keys →
      IsTrue b ↔ ((q : List ℕ) × (Contains (bytes_of_paths keys) q × ConcernsMove w from to q)) → IsTrue b ↔ BeginsMove w from to p.path.items
  begins_imports keys b outside listed is = (
    (λ t.
        let some = is.0 t in
        imports ((package_imports w p parsed some.0).1 ((listed.each some.0).0 some.1.0)) some.1.1),
    begun,
  )
    where
      begun : BeginsMove w from to p.path.items → IsTrue b
      begun (moves at) = absurd (let r = behind_of from p.path.items at in outside r.0 r.1)
      begun (imports {value = q} i c) = is.1 (q, ((listed.each q).1 ((package_imports w p parsed q).0 i), c))
