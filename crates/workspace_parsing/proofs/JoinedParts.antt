-- The files of the shares up to one, from those below it and its own.
use Rattle.std.proofs.Common.{◌≡◌, ℕ, ◌+◌, ◌%◌, ◌<◌, ◌≤◌, ◌&&◌, Bool, true, false, List, [], ◌∷◌}
use Rattle.std.proofs.Common.{cond, Option, Some, None, inl, inr, refl, sym, ap, subst, ◌∙◌, arith, ⊎_elim}
use Rattle.std.specs.Prelude.{fold, nat_le, nat_lt}
use Rattle.std.specs.FinMap.{empty, get, get-empty, same_map}
use Rattle.std.specs.List.{Contains}
use Rattle.std.proofs.lemmas.Bool.{true≢false, and_from, and_parts, cases_eq, cases_lt, leb-true, ltb-true, lt-ltb, le-ltb, le-leb}
use Rattle.std.proofs.lemmas.Option.{none-some}
use Rattle.base_files.specs.Packages.{is_go, package_paths}
use Rattle.base_files.specs.Path.{folder}
use Rattle.base_files.specs.Workspace.{Workspace, path_cmp}
use Rattle.base_files.proofs.WorkspaceLaws.{path_cmp_total, path_cmp_exact}
use Rattle.workspace_graph.specs.SameGoFiles.{AreSameIn, DiffersOnlyIn}
use Rattle.workspace_graph.proofs.ChangedFiles.{has_package}
use Rattle.workspace_parsing.proofs.PackageFiles.{package_file}
use Rattle.workspace_parsing.specs.Shares.{IsPartBetween, is_between, share_count, share_of}

-- the files from the first share on
from_first : (high : ℕ) (path : List ℕ) → is_between 0 high path ≡ nat_lt (share_of (folder path)) high
from_first high path = ap (λ b. b && nat_lt (share_of (folder path)) high) (le-leb 0 (share_of (folder path)) (omega arith))

-- each share is below the number of shares
below_count : (bytes : List ℕ) (share : ℕ) → share < share_count → fold (λ (s : ℕ) (byte : ℕ). (s + byte) % share_count) share bytes < share_count
below_count [] share below = below
below_count (byte ∷ bytes) share below = below_count bytes ((share + byte) % share_count) (omega arith)

either_none : (b : Bool) (text : Option (List ℕ)) → text ≡ None → cond b text None ≡ None
either_none true text none = none
either_none false text none = refl

pub no_files : (w graph : Workspace) → graph ≡ empty → IsPartBetween w 0 0 graph
no_files w graph is path =
    ap (λ m. get m path) is ∙ get-empty path_cmp path
    ∙ sym (ap (λ b. cond b (get w path) None) (from_first 0 path ∙ le-ltb (share_of (folder path)) 0 (omega arith)))

pub all_files : (w graph : Workspace) (high : ℕ) → high ≡ share_count → IsPartBetween w 0 high graph → graph ≡ w
all_files w graph high is h = same_map path_cmp_total path_cmp_exact graph w (λ path.
    let below : share_of (folder path) < high = let least = below_count (folder path) 0 (omega arith) in omega arith in
    h path ∙ ap (λ b. cond b (get w path) None) (from_first high path ∙ lt-ltb (share_of (folder path)) high below))

module _ (w : Workspace) (number : ℕ) (below share part : Workspace) (is_below : IsPartBetween w 0 number below)
    (is_share : IsPartBetween w number (number + 1) share) (is_part : IsPartBetween w 0 (number + 1) part) where
  in_share : (path : List ℕ) → share_of (folder path) ≡ number → is_between number (number + 1) path ≡ true
  in_share path e = and_from _ _ (le-leb number (share_of (folder path)) (omega arith)) (lt-ltb (share_of (folder path)) (number + 1) (omega arith))

  of_share : (path : List ℕ) → is_between number (number + 1) path ≡ true → share_of (folder path) ≡ number
  of_share path between =
      let s = share_of (folder path) in
      let parts = and_parts (nat_le number s) (nat_lt s (number + 1)) between in
      let low : number ≤ s = leb-true number s parts.0 in
      let high : s < number + 1 = ltb-true s (number + 1) parts.1 in
      omega arith

  same_range : (path : List ℕ) → (share_of (folder path) ≡ number → ⊥) → is_between 0 (number + 1) path ≡ is_between 0 number path
  same_range path other =
      let s = share_of (folder path) in
      from_first (number + 1) path
      ∙ (elim (cases_lt s number) [
        | inl less ↦ lt-ltb s (number + 1) (omega arith) ∙ sym (lt-ltb s number less)
        | inr more ↦ le-ltb s (number + 1) (let apart : s ≡ number → ⊥ = other in grind arith) ∙ sym (le-ltb s number more)
      ])
      ∙ sym (from_first number path)

  -- a file that the workspace lacks is in no part
  lacks : (low high : ℕ) (one : Workspace) → IsPartBetween w low high one → (path : List ℕ) → get w path ≡ None → get one path ≡ None
  lacks low high one h path none = h path ∙ either_none (is_between low high path) (get w path) none

  pub stays_outside : DiffersOnlyIn (package_paths share) below part
  stays_outside path go apart = elim (cases_eq (share_of (folder path)) number) [
    | inl e ↦ elim (get w path) as (λ o. get w path ≡ o → get part path ≡ get below path) [
      | Some text ↦ λ there. absurd (apart (has_package share path text go
          (is_share path ∙ ap (λ b. cond b (get w path) None) (in_share path e) ∙ there)))
      | None ↦ λ none. lacks 0 (number + 1) part is_part path none ∙ sym (lacks 0 number below is_below path none)
    ] refl
    | inr other ↦ is_part path ∙ ap (λ b. cond b (get w path) None) (same_range path other) ∙ sym (is_below path)
  ]

  pub same_inside : AreSameIn (package_paths share) share part
  same_inside path go has =
      let file = package_file share (folder path) has in
      let there : get share file.0.0 ≡ Some file.0.1 = file.3 in
      let between : is_between number (number + 1) file.0.0 ≡ true =
      elim (is_between number (number + 1) file.0.0) as (λ b. is_between number (number + 1) file.0.0 ≡ b → b ≡ true) [
        | true ↦ λ e. refl
        | false ↦ λ e. absurd (none-some file.0.1 (sym (is_share file.0.0 ∙ ap (λ b. cond b (get w file.0.0) None) e) ∙ there))
      ] refl in
      let e : share_of (folder path) ≡ number = ap share_of (sym file.2) ∙ of_share file.0.0 between in
      let first : is_between 0 (number + 1) path ≡ true = from_first (number + 1) path ∙ lt-ltb (share_of (folder path)) (number + 1) (omega arith) in
      is_part path ∙ ap (λ b. cond b (get w path) None) first ∙ sym (is_share path ∙ ap (λ b. cond b (get w path) None) (in_share path e))
