-- The files and the packages of a workspace after a move.
use Rattle.std.proofs.Common.{ℕ, ◌≡◌, ◌⊎◌, inl, inr, ◌&&◌, ◌==◌, true, List, [], ◌∷◌, map, Option, Some, None, IsSome, T, refl, sym, ap, subst}
use Rattle.std.proofs.Common.{◌∙◌}
use Rattle.std.specs.Prelude.{Contains, unwrap_or}
use Rattle.std.specs.Cmp.Lexicographic.{pointwise, bytes_decides}
use Rattle.std.specs.FinMap.{entries, entries_sorted, find, get, is_sorted}
use Rattle.std.specs.FinMap.Entries.{below_all, is_sorted-where_key, same_entries}
use Rattle.std.specs.Option.{option_map}
use Rattle.std.specs.Ordering.{is_lt}
use Rattle.std.proofs.Math.Path.{ap₂}
use Rattle.std.proofs.lemmas.Bool.{and_from, and_parts}
use Rattle.std.proofs.lemmas.Option.{same_Some}
use Rattle.base_lemmas.proofs.Elements.{nothing_in, first_in, later_in, is_mapped}
use Rattle.base_files.specs.Path.{folder}
use Rattle.base_files.specs.Packages.{is_go, is_of_package, package_files, package_paths}
use Rattle.base_files.specs.Workspace.{Workspace, path_cmp}
use Rattle.base_files.proofs.WorkspaceLaws.{path_cmp_total, path_cmp_exact}
use Rattle.base_edits.specs.Edits.{edited_text}
use Rattle.base_edits.specs.EditSet.{FileChanges, change_of, edited, file_after, file_by}
use Rattle.base_edits.specs.Fits.{path_after, path_by_change}
use Rattle.base_edits.specs.Moved.{edits_by}
use Rattle.base_edits.specs.declared.change.FileChange.{FileChange}
use Rattle.base_edits.proofs.Entries.{entry_of, found_in, get_entry, some_found, some_is}
use Rattle.base_edits.proofs.FilesAfter.{ComesFrom, comes_from, has_file as new_has}
use Rattle.base_edits.proofs.Held.{mapped_from}
use Rattle.workspace_check.specs.Verdicts.{Verdicts}
use Rattle.workspace_check.proofs.Members.{passes, passed}
use Rattle.workspace_check.proofs.PackageFiles.{package_file, in_folder}
use Rattle.workspace_graph.proofs.ByPath.{has_file as package_of_file}
use Rattle.refactor_move.specs.declared.moved.Moved.{Moved}
use Rattle.refactor_move.specs.Paths.{IsUnder, HasMoved, HasMovedFile, HasMovedPackage}
use Rattle.law_moves.specs.Moves.{IsMove, moved_path, moved_entry, PackagesStayApart, PackagePathsMove, PackageFilesMove}
use Rattle.law_moves.proofs.MovedPaths.{IsOutside, cases_moving, in_target, moves_to, one_origin, stays_at}
use Rattle.law_moves.proofs.MovedFolders.{file_under, folder_moves, folder_stays, go_moves, order_moves, under_outside}

-- entries whose order stays

KeepsOrder : ((List ℕ × List ℕ) → List ℕ × List ℕ) → List (List ℕ × List ℕ) → Type 0
KeepsOrder g es = (a b : List ℕ × List ℕ) → Contains es a → Contains es b → path_cmp (g a).0 (g b).0 ≡ path_cmp a.0 b.0

below_kept : (g : (List ℕ × List ℕ) → List ℕ × List ℕ) (e : List ℕ × List ℕ) (es : List (List ℕ × List ℕ)) →
    ((b : List ℕ × List ℕ) → Contains es b → path_cmp (g e).0 (g b).0 ≡ path_cmp e.0 b.0) →
    below_all path_cmp (g e).0 (map g es) ≡ below_all path_cmp e.0 es
below_kept g e [] keeps = refl
below_kept g e (d ∷ es) keeps =
    ap₂ (λ a b. a && b) (ap is_lt (keeps d (first_in d es))) (below_kept g e es (λ b has. keeps b (later_in d es b has)))

sorted_kept : (g : (List ℕ × List ℕ) → List ℕ × List ℕ) (es : List (List ℕ × List ℕ)) → KeepsOrder g es →
    is_sorted path_cmp (map g es) ≡ is_sorted path_cmp es
unfolding KeepsOrder
sorted_kept g [] keeps = refl
sorted_kept g (e ∷ es) keeps =
    ap₂ (λ a b. a && b) (below_kept g e es (λ b has. keeps e b (first_in e es) (later_in e es b has)))
    (sorted_kept g es (λ a b one other. keeps a b (later_in e es a one) (later_in e es b other)))

-- an entry at a path is found
agree : (x y : Option (List ℕ)) → ((t : List ℕ) → x ≡ Some t → y ≡ Some t) → ((t : List ℕ) → y ≡ Some t → x ≡ Some t) → x ≡ y
agree None None f g = refl
agree None (Some t) f g = g t refl
agree (Some t) y f g = sym (f t refl)

by_change : (e : List ℕ × List ℕ) (o : Option FileChange) (new : List ℕ) → path_by_change o e.0 ≡ Some new →
    file_by o e ≡ Some (new, edited_text (edits_by o) e.1)
by_change e None new is = ap (λ (p : List ℕ). Some (p, e.1)) (same_Some e.0 new is)
by_change e (Some c) new is = ap (option_map {U = List ℕ × List ℕ} (λ p. (p, edited_text c.edits e.1))) is

new_at : (s : FileChanges) (path new : List ℕ) → path_after s path ≡ Some new → unwrap_or (path_after s path) path ≡ new
new_at s path new is = ap (λ o. unwrap_or o path) is

module _ (w : Workspace) (known : Verdicts) (from to : List ℕ) (s : FileChanges) (h : IsMove w known from to s) where
  abbrev pub m : Moved
  m = h.edits.moved

  abbrev pub v : Workspace
  v = edited s w

  abbrev pub goes : List ℕ → List ℕ
  goes = moved_path from to

  -- where a file goes
  abbrev pub Goes : List ℕ → Type 0
  Goes path = ((new : List ℕ) × (HasMovedFile from to path new × (path_after s path ≡ Some new)))
      ⊎ ((IsUnder from path → ⊥) × (path_after s path ≡ Some path))

  pub file_goes : (path : List ℕ) → IsSome (get w path) → Goes path
  file_goes path some =
      let a = h.edits.paths path some in
      subst (λ (f : List ℕ). ((new : List ℕ) × (HasMovedFile f to path new × (path_after s path ≡ Some new)))
      ⊎ ((IsUnder f path → ⊥) × (path_after s path ≡ Some path))) h.edits.is_move.source
      (subst (λ (t : List ℕ). ((new : List ℕ) × (HasMovedFile m.from t path new × (path_after s path ≡ Some new)))
      ⊎ ((IsUnder m.from path → ⊥) × (path_after s path ≡ Some path))) h.edits.is_move.target a)

  entry_some : (e : List ℕ × List ℕ) → Contains (entries w) e → IsSome (get w e.0)
  entry_some e has = some_is (get w e.0) e.1 (get_entry w e has)

  pub entry_goes : (e : List ℕ × List ℕ) → Contains (entries w) e → Goes e.0
  entry_goes e has = file_goes e.0 (entry_some e has)

  new_path : (e : List ℕ × List ℕ) → Goes e.0 → path_after s e.0 ≡ Some (moved_entry s e).0
  new_path e (inl a) = a.1.1 ∙ ap Some (sym (new_at s e.0 a.0 a.1.1))
  new_path e (inr b) = b.1 ∙ ap Some (sym (new_at s e.0 e.0 b.1))

  new_file : (e : List ℕ × List ℕ) → Contains (entries w) e → file_after s e ≡ Some (moved_entry s e)
  new_file e has = by_change e (change_of s e.0) (moved_entry s e).0 (new_path e (entry_goes e has))

  -- the entries

  pub entry_there : (e : List ℕ × List ℕ) → Contains (entries w) e → Contains (entries v) (moved_entry s e)
  entry_there e has =
      let new = moved_entry s e in
      entry_of v new.0 new.1 (new_has s w h.fit new.0 new.1 (inr (e.0, e.1, get_entry w e has, new_file e has)))

  pub entry_was : (e : List ℕ × List ℕ) → Contains (entries v) e → (old : List ℕ × List ℕ) × (Contains (entries w) old × (moved_entry s old ≡ e))
  entry_was e has = by_source (comes_from s w e.0 e.1 (get_entry v e has))
    where
      by_source : ComesFrom s w e.0 e.1 → (old : List ℕ × List ℕ) × (Contains (entries w) old × (moved_entry s old ≡ e))
      by_source (inl added) = absurd (nothing_in e (subst (λ l. Contains l e) h.edits.none_added added))
      by_source (inr o) =
          let old : List ℕ × List ℕ = (o.0, o.1) in
          let there = entry_of w o.0 o.1 o.2 in
          (old, (there, same_Some (moved_entry s old) e (sym (new_file old there) ∙ o.3)))

  -- their folders

  folder_by : (e : List ℕ × List ℕ) → Goes e.0 → (folder (moved_entry s e).0 ≡ goes (folder e.0)) × (is_go (moved_entry s e).0 ≡ is_go e.0)
  folder_by e (inl a) =
      let same = new_at s e.0 a.0 a.1.1 in (
        ap folder same ∙ sym (moves_to from to (folder e.0) (folder a.0) (folder_moves from to e.0 a.0 a.1.0.moved)),
        ap is_go same ∙ go_moves from to e.0 a.0 a.1.0.moved,
      )
  folder_by e (inr b) =
      let same = new_at s e.0 e.0 b.1 in
      (ap folder same ∙ sym (stays_at from to (folder e.0) (folder_stays from e.0 h.source b.0)), ap is_go same)

  pub new_folder : (e : List ℕ × List ℕ) → Contains (entries w) e → folder (moved_entry s e).0 ≡ goes (folder e.0)
  new_folder e has = (folder_by e (entry_goes e has)).0

  in_package : (x : Workspace) (p : List ℕ) (e : List ℕ × List ℕ) → Contains (package_files x p) e → Contains (entries x) e × (is_go e.0 ≡ true)
  in_package x p e has =
      let both = passes (λ (d : List ℕ × List ℕ). is_of_package p d.0) (entries x) e has in
      (both.1, (and_parts (is_go e.0) (pointwise ◌==◌ (folder e.0) p) both.0).0)

  put_in_package : (x : Workspace) (p : List ℕ) (e : List ℕ × List ℕ) → Contains (entries x) e → is_go e.0 ≡ true → folder e.0 ≡ p →
      Contains (package_files x p) e
  put_in_package x p e has go at =
      passed (λ (d : List ℕ × List ℕ). is_of_package p d.0) (entries x) e
      (and_from (is_go e.0) (pointwise ◌==◌ (folder e.0) p) go ((bytes_decides (folder e.0) p).1 at)) has

  pub file_there : (p : List ℕ) (e : List ℕ × List ℕ) → Contains (package_files w p) e → Contains (package_files v (goes p)) (moved_entry s e)
  file_there p e has =
      let own = in_package w p e has in
      let by = folder_by e (entry_goes e own.0) in
      put_in_package v (goes p) (moved_entry s e) (entry_there e own.0) (by.1 ∙ own.1) (by.0 ∙ ap goes (in_folder w p e has))

  -- a file of a package after the move was one of a package before
  pub record WasFile (q : List ℕ) (e : List ℕ × List ℕ) : Type 0 where
    pub old : List ℕ × List ℕ
    pub path : List ℕ
    pub of_package : Contains (package_files w path) old
    pub new : moved_entry s old ≡ e
    pub at : q ≡ goes path

  pub file_was : (q : List ℕ) (e : List ℕ × List ℕ) → Contains (package_files v q) e → WasFile q e
  file_was q e has =
      let own = in_package v q e has in
      let o = entry_was e own.0 in
      let by = folder_by o.0 (entry_goes o.0 o.1.0) in
      let go : is_go o.0.0 ≡ true = sym by.1 ∙ ap (λ (x : List ℕ × List ℕ). is_go x.0) o.1.1 ∙ own.1 in
      record {
        old = o.0;
        path = folder o.0.0;
        of_package = put_in_package w (folder o.0.0) o.0 o.1.0 go refl;
        new = o.1.1;
        at = sym (in_folder v q e has) ∙ ap (λ (x : List ℕ × List ℕ). folder x.0) (sym o.1.1) ∙ by.0;
      }

  -- packages

  -- a package that does not move is not where another one goes
  never_there : (p q new : List ℕ) → Contains (package_paths w) q → HasMovedPackage from to p new → IsOutside from q → new ≡ q → ⊥
  never_there p q new has moves out same =
      let some = package_file w q has in
      let e = some.0 in
      let own = in_package w q e some.1 in
      let at : folder e.0 ≡ q = in_folder w q e some.1 in
      let there : (folder e.0 ≡ to) ⊎ IsUnder to (folder e.0) =
      subst (λ x. (x ≡ to) ⊎ IsUnder to x) (same ∙ sym at) (in_target from to p new moves) in
      let inside = h.only_moved e.0 (entry_some e own.0) (file_under to e.0 h.target there) in
      under_outside from e.0 inside (subst (IsOutside from) (sym at) out)

  pub stay_apart : (p q : List ℕ) → Contains (package_paths w) p → Contains (package_paths w) q → goes p ≡ goes q → p ≡ q
  stay_apart p q one other same = elim (cases_moving from to p) [
    | inl a ↦ elim (cases_moving from to q) [
      | inl b ↦ one_origin from to p q b.0
          (subst (HasMovedPackage from to p) (sym (moves_to from to p a.0 a.1) ∙ same ∙ moves_to from to q b.0 b.1) a.1) b.1
      | inr b ↦ absurd (never_there p q a.0 other a.1 b (sym (moves_to from to p a.0 a.1) ∙ same ∙ stays_at from to q b))
    ]
    | inr a ↦ elim (cases_moving from to q) [
      | inl b ↦ absurd (never_there q p b.0 one b.1 a (sym (moves_to from to q b.0 b.1) ∙ sym same ∙ stays_at from to p a))
      | inr b ↦ sym (stays_at from to p a) ∙ same ∙ stays_at from to q b
    ]
  ]

  pub package_there : (p : List ℕ) → Contains (package_paths w) p → Contains (package_paths v) (goes p)
  package_there p has =
      let some = package_file w p has in
      package_of_file v (goes p) (moved_entry s some.0) (file_there p some.0 some.1)

  pub package_was : (q : List ℕ) → Contains (package_paths v) q → (p : List ℕ) × (Contains (package_paths w) p × (q ≡ goes p))
  package_was q has =
      let some = package_file v q has in
      let was = file_was q some.0 some.1 in
      (was.path, (package_of_file w was.path was.old was.of_package, was.at))

  -- the files of a package, in their order
  module _ (p : List ℕ) (has : Contains (package_paths w) p) where
    abbrev olds : List (List ℕ × List ℕ)
    olds = package_files w p

    abbrev news : List (List ℕ × List ℕ)
    news = package_files v (goes p)

    all_or_none : (a b : List ℕ × List ℕ) → Contains olds a → Contains olds b → Goes a.0 → Goes b.0 →
        path_cmp (moved_entry s a).0 (moved_entry s b).0 ≡ path_cmp a.0 b.0
    all_or_none a b one other (inl x) (inl y) =
        ap₂ path_cmp (new_at s a.0 x.0 x.1.1) (new_at s b.0 y.0 y.1.1) ∙ order_moves from to a.0 x.0 b.0 y.0 x.1.0.moved y.1.0.moved
    all_or_none a b one other (inr x) (inr y) = ap₂ path_cmp (new_at s a.0 a.0 x.1) (new_at s b.0 b.0 y.1)
    all_or_none a b one other (inl x) (inr y) = absurd (never_both a b one other x.0 x.1.0.moved y.0)
      where
        never_both : (a b : List ℕ × List ℕ) → Contains olds a → Contains olds b → (new : List ℕ) → HasMoved from to a.0 new →
            (IsUnder from b.0 → ⊥) → ⊥
        never_both a b one other new moves out =
            let same : folder b.0 ≡ folder a.0 = in_folder w p b other ∙ sym (in_folder w p a one) in
            let outside = subst (IsOutside from) same (folder_stays from b.0 h.source out) in
            elim (folder_moves from to a.0 new moves) [ inl e ↦ outside.other e.0 | inr u ↦ outside.outside (u.rest, u.was) ]
    all_or_none a b one other (inr x) (inl y) = absurd (never_both a b one other y.0 y.1.0.moved x.0)
      where
        never_both : (a b : List ℕ × List ℕ) → Contains olds a → Contains olds b → (new : List ℕ) → HasMoved from to b.0 new →
            (IsUnder from a.0 → ⊥) → ⊥
        never_both a b one other new moves out =
            let same : folder a.0 ≡ folder b.0 = in_folder w p a one ∙ sym (in_folder w p b other) in
            let outside = subst (IsOutside from) same (folder_stays from a.0 h.source out) in
            elim (folder_moves from to b.0 new moves) [ inl e ↦ outside.other e.0 | inr u ↦ outside.outside (u.rest, u.was) ]

    sorted_files : (x : Workspace) (q : List ℕ) → T (is_sorted path_cmp (package_files x q))
    sorted_files x q = is_sorted-where_key path_cmp (is_of_package q) (entries x) (entries_sorted x)

    new_sorted : T (is_sorted path_cmp (map (moved_entry s) olds))
    unfolding KeepsOrder
    new_sorted = subst T (sym (sorted_kept (moved_entry s) olds
        (λ a b one other. all_or_none a b one other (entry_goes a (in_package w p a one).0) (entry_goes b (in_package w p b other).0)))) (sorted_files w p)

    to_new : (e : List ℕ × List ℕ) → Contains (map (moved_entry s) olds) e → Contains news e
    to_new e has = let o = mapped_from (moved_entry s) olds e has in subst (Contains news) o.2 (file_there p o.0 o.1)

    to_old : (e : List ℕ × List ℕ) → Contains news e → Contains (map (moved_entry s) olds) e
    to_old e has_new =
        let was = file_was (goes p) e has_new in
        let same : was.path ≡ p = stay_apart was.path p (package_of_file w was.path was.old was.of_package) has (sym was.at) in
        subst (Contains (map (moved_entry s) olds)) was.new
        (is_mapped (moved_entry s) olds was.old (subst (λ q. Contains (package_files w q) was.old) same was.of_package))

    one_text : (q one other : List ℕ) → Contains news (q, one) → Contains news (q, other) → one ≡ other
    one_text q one other a b =
        same_Some one other (sym (get_entry v (q, one) (in_package v (goes p) (q, one) a).0) ∙ get_entry v (q, other) (in_package v (goes p) (q, other) b).0)

    found_too : (xs ys : List (List ℕ × List ℕ)) → ((e : List ℕ × List ℕ) → Contains xs e → Contains ys e) →
        ((e : List ℕ × List ℕ) → Contains ys e → Contains news e) → (q t : List ℕ) → find path_cmp q xs ≡ Some t → find path_cmp q ys ≡ Some t
    found_too xs ys within there q t is =
        let has = within (q, t) (found_in xs q t is) in
        let found = some_found ys q t has in
        found.1 ∙ ap Some (one_text q found.0 t (there (q, found.0) (found_in ys q found.0 found.1)) (there (q, t) has))

    pub files_move : news ≡ map (moved_entry s) olds
    files_move = same_entries path_cmp path_cmp_total path_cmp_exact news (map (moved_entry s) olds) (sorted_files v (goes p)) new_sorted
        (λ q. agree (find path_cmp q news) (find path_cmp q (map (moved_entry s) olds))
        (found_too news (map (moved_entry s) olds) to_old to_new q) (found_too (map (moved_entry s) olds) news to_new (λ e has. has) q))

pub packages_apart : PackagesStayApart
packages_apart w known from to s h p q one other same = stay_apart w known from to s h p q one other same

pub paths_move : PackagePathsMove
paths_move w known from to s h q = (
  package_was w known from to s h q,
  λ p. subst (Contains (package_paths (edited s w))) (sym p.1.1) (package_there w known from to s h p.0 p.1.0),
)

pub package_files_move : PackageFilesMove
package_files_move w known from to s h p has = files_move w known from to s h p has
