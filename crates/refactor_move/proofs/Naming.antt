-- The last element of a path, and the name of the package at a path.
use Rattle.std.proofs.Common.{ℕ, ◌≡◌, ◌≢◌, ◌<◌, ◌≤◌, ◌+◌, ◌-◌, ◌↔◌, true, false, not, List, [], ◌∷◌, length, drop, get_or, lit<, refl, sym, ap, subst}
use Rattle.std.proofs.Common.{◌∙◌, arith}
use Rattle.std.specs.Prelude.{Some, map, slice_get, ◌==◌}
use Rattle.std.specs.List.{suffix_len}
use Rattle.std.specs.Str.{NoCharPasses}
use Rattle.std.specs.Str.Pattern.{RFindsChar, SplitsAroundMatch}
use Rattle.std.proofs.lemmas.Bool.{eqb-true}
use Rattle.std.proofs.lemmas.List.{get_or-drop}
use Rattle.std.proofs.lemmas.List.Sums.{suffix_len_is}
use Rattle.std.proofs.lemmas.Option.{same_Some, none-some, slice_get_within}
use Rattle.std.proofs.lemmas.Str.Pattern.{NoCharPasses-char}
use Rattle.base_files.specs.Packages.{package_paths, package_files}
use Rattle.base_files.specs.Workspace.{Workspace}
use Rattle.go_ast.specs.SourceFile.{FileParts, source_of}
use Rattle.workspace_graph.specs.Graphs.{OfPackage}
use Rattle.workspace_graph.specs.Parsed.{AreParsed}
use Rattle.types_declared.specs.Files.{package_name, clause_name}
use Rattle.types_declared.specs.Package.{Package}
use Rattle.workspace_check.specs.declared.findings.Findings.{Findings}
use Rattle.workspace_check.specs.Verdicts.{Verdicts}
use Rattle.workspace_check.proofs.OnePackage.{one_sources}
use Rattle.refs_binding.specs.Uses.{IsCheckedPackage}
use Rattle.refs_binding.specs.Workspaces.{IsFaultless, known_in}
use Rattle.refs_lookup.proofs.OnePlace.{same_files}
use Rattle.refs_binding.specs.DeclaringPlaces.{InPackage}
use Rattle.refs_binding.proofs.PackageNumbers.{package_there, in_package, of_package}
use Rattle.refactor_rename.specs.NewName.{IsNewName, IsReserved}
use Rattle.refactor_move.specs.Paths.{last_of}
use Rattle.refactor_move.specs.Following.{Follows}
use Rattle.refactor_move.specs.Steps.{MayFollowPath}

-- the last element

no_slash : (b : ℕ) → b ≢ 47 → not (b == 47) ≡ true
no_slash b other = elim (b == 47) as (λ v. (b == 47) ≡ v → not v ≡ true) [ true ↦ λ e. absurd (other (eqb-true b 47 e)) | false ↦ λ e. refl ] refl

is_slash : (b : ℕ) → b ≡ 47 → not (b == 47) ≡ false
is_slash b e = ap (λ x. not (x == 47)) e

last_from : (path : List ℕ) (n : ℕ) → n ≤ length path → ((k : ℕ) → n ≤ k → k < length path → get_or path k 0 ≢ 47) → (0 < n → get_or path (n - 1) 0 ≡ 47) →
    drop n path ≡ last_of path
last_from path n le behind before =
    let size : suffix_len (λ b. not (b == 47)) path ≡ length path - n =
    suffix_len_is (λ b. not (b == 47)) path n 0 le (λ k a b. no_slash (get_or path k 0) (behind k a b))
    (λ pos. is_slash (get_or path (n - 1) 0) (before pos)) in
    let at : n ≡ length path - suffix_len (λ b. not (b == 47)) path = omega arith in
    ap (λ k. drop k path) at

pub last_whole : (path : List ℕ) → NoCharPasses (λ d. d == 47) path → path ≡ last_of path
last_whole path none = last_from path 0 (omega arith) (λ k a b. NoCharPasses-char 47 path k none (lit< tt) b) (λ pos. absurd (omega arith))

behind_mark : (path : List ℕ) (j k : ℕ) → NoCharPasses (λ d. d == 47) (drop j path) → j ≤ k → k - j < length (drop j path) → get_or path k 0 ≢ 47
behind_mark path j k none le lt =
    let at : j + (k - j) ≡ k = omega arith in
    let same : get_or (drop j path) (k - j) 0 ≡ get_or path k 0 = get_or-drop j path (k - j) 0 ∙ ap (λ i. get_or path i 0) at in
    λ slash. NoCharPasses-char 47 (drop j path) (k - j) none (lit< tt) lt (same ∙ slash)

pub last_behind : (path front back : List ℕ) → SplitsAroundMatch (RFindsChar 47) path front back → back ≡ last_of path
last_behind path front back h =
    let j = h.1 in
    let size : length back + j ≡ length path = h.7 in
    let is : back ≡ drop j path = h.4 in
    let left : length (drop j path) ≡ length back = ap length (sym is) in
    let step : j ≡ h.0 + 1 = h.2.1.ends in
    let slash = h.2.1.byte (lit< tt) in
    is ∙ last_from path j (omega arith) (λ k a b. behind_mark path j k h.2.0 a (omega arith))
    (λ pos. (let at : j - 1 ≡ h.0 = omega arith in ap (λ i. get_or path i 0) at ∙ slash))

-- The name of a package.

pub first_name : (ts : List FileParts) (t : FileParts) → Some t ≡ slice_get ts 0 → package_name (map source_of ts) ≡ clause_name (source_of t)
first_name [] t e = absurd (none-some t (sym e))
first_name (x ∷ xs) t e = ap (λ (s : FileParts). clause_name (source_of s)) (sym (same_Some t x e))

pub files_are : (w : Workspace) (known : Verdicts) (p : Package) → IsCheckedPackage w known p → (ts : List FileParts) →
    AreParsed (package_files w p.path) ts [] →
    p.files ≡ map source_of ts
files_are w known p is ts parsed = same_files w known p.path p is.is_checked ∙ one_sources is.is_checked.parsed parsed

pub called_in : (w : Workspace) (found : Findings) → IsFaultless w found → (n : ℕ) (path : List ℕ) → slice_get (package_paths w) n ≡ Some path →
    (ts : List FileParts) → OfPackage w n (λ p. AreParsed (package_files w p) ts []) → (name : List ℕ) →
    InPackage (IsCheckedPackage w (known_in found)) path (λ p. package_name p.files ≡ name) ↔ (package_name (map source_of ts) ≡ name)
called_in w found sound n path at ts parsed name =
    let known = known_in found in
    let x = package_there w found sound n (slice_get_within (package_paths w) n path at) in
    let p = x.0 in
    let P : Package → Type 0 = λ q. package_name q.files ≡ name in
    let e : p.files ≡ map source_of ts = files_are w known p x.1.is_package ts (parsed p.path x.1.has_number) in
    ((λ h. sym (ap package_name e) ∙ of_package w known n p path P x.1 at h), (λ k. in_package w known n p path P x.1 at (ap package_name e ∙ k)))

-- whether a name follows

pub follows_with : (Known : Package → Type 0) (from to last name : List ℕ) → last ≡ last_of from → name ≡ last_of to → MayFollowPath last name →
    InPackage Known from (λ p. package_name p.files ≡ last_of from) → Follows Known from to
follows_with Known from to last name is named may was = record {
  was = was;
  no_main = λ e. may.no_main (is ∙ e);
  form = subst IsNewName named may.form;
  free = λ r. may.free (subst IsReserved (sym named) r);
  other = λ e. may.other (named ∙ e ∙ sym is);
}

pub may_from : (Known : Package → Type 0) (from to last name : List ℕ) → last ≡ last_of from → name ≡ last_of to → Follows Known from to →
    MayFollowPath last name
may_from Known from to last name is named h = record {
  no_main = λ e. h.no_main (sym is ∙ e);
  other = λ e. h.other (sym named ∙ e ∙ is);
  form = subst IsNewName (sym named) h.form;
  free = λ r. h.free (subst IsReserved named r);
}
