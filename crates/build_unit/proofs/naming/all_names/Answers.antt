-- The answers to the goals of `naming::all_names`.
use Rattle.std.proofs.Common.{◌≡◌, ◌+◌, ◌<◌, ◌∷◌, ◌++◌, [], List, ℕ, take, length, get_or, map, refl, sym, ap, subst, ◌∙◌, arith, true≢false}
use Rattle.std.specs.Prelude.{Contains, is_some}
use Rattle.std.proofs.lemmas.List.{take_all}
use Rattle.std.proofs.lemmas.List.Elements.{Contains-get_or}
use Rattle.std.proofs.lemmas.Option.{slice_get_within}
use Rattle.base_files.specs.Packages.{package_paths}
use Rattle.go_ast.specs.SourceFile.{source_of}
use Rattle.base_files.specs.Entries.{IsAfterAllPaths}
use Rattle.types_info.proofs.MeaningLists.{slice_get_some}
use Rattle.workspace_check.proofs.Members.{taken_or_next, still_taken, next_taken}
use Rattle.workspace_check.proofs.Underway.{above_taken}
use Rattle.build_unit.specs.Compiling.{IsPackageToBuild}
use Rattle.build_unit.specs.Units.{AreFilesOf}
use Rattle.build_unit.specs.declared.package_at.PackageAt.{PackageAt}
use Rattle.build_unit.proofs.Named.{AreNamed, none_named, named_next, all_named}
use Rattle.build_unit.proofs.naming.all_names.Goals as goal

-- a package of the closure is one of the graph
within : (at : PackageAt) (p : List ℕ) → IsPackageToBuild at p → (k : ℕ) → k < length at.closure.now →
    get_or at.closure.now k 0 < length (package_paths at.graph.now)
within at p is k lt =
    let items = at.closure.now in
    let s = (is.closure (get_or items k 0)).0 (Contains-get_or items k 0 lt) in
    slice_get_within (package_paths at.graph.now) (get_or items k 0) s.0 s.1

-- those before it have lower numbers
above : (at : PackageAt) (p : List ℕ) → IsPackageToBuild at p → (k : ℕ) → k < length at.closure.now → (m : ℕ) → Contains (take k at.closure.now) m →
    m < get_or at.closure.now k 0
above at p is k lt m has = above_taken at.closure.now is.rising k m lt has

pub loop-other-init : goal.loop-other-init
loop-other-init c = none_named c.args.at.graph.now _ c.in_ok-names.names refl c.in_ok-names.ensures

pub package-files-requires : goal.package-files-requires
package-files-requires c =
    let at = c.args.at in
    let p = slice_get_some (package_paths at.graph.now) at.number c.requires.number in
    within at p.0 (c.requires.at p.0 p.1) c.loop-other.other-index (omega arith)

pub path_of-requires : goal.path_of-requires
path_of-requires c =
    let at = c.args.at in
    let p = slice_get_some (package_paths at.graph.now) at.number c.requires.number in
    let is = c.requires.at p.0 p.1 in
    record { number = within at p.0 is c.loop-other.other-index (omega arith); known = is.known }

pub push-requires : goal.push-requires
push-requires c =
    let at = c.args.at in
    let p = slice_get_some (package_paths at.graph.now) at.number c.requires.number in
    let k = c.loop-other.other-index in
    let q = c.package-files.result.now.path.items in
    subst (λ x. IsAfterAllPaths x c.loop-other.names) (sym (c.in_ok-path.ensures q c.package-files.ensures.path))
    (c.loop-other.invariant.before (get_or at.closure.now k 0) q c.package-files.ensures.path (above at p.0 (c.requires.at p.0 p.1) k (omega arith)))

pub loop-other-preserved : goal.loop-other-preserved
loop-other-preserved c =
    let at = c.args.at in
    let w = at.graph.now in
    let items = at.closure.now in
    let p = slice_get_some (package_paths w) at.number c.requires.number in
    let k = c.loop-other.other-index in
    let lt : k < length items = omega arith in
    let n = get_or items k 0 in
    let files = c.package-files.result.now in
    let q = files.path.items in
    let names = c.names_of.result in
    let key : c.in_ok-path.path ≡ q = c.in_ok-path.ensures q c.package-files.ensures.path in
    let are : AreFilesOf w q (map source_of files.trees.items) =
    record { parts = files.trees.items; faulty = files.faulty.items; parsed = c.package-files.ensures.files; are_files = refl } in
    named_next w (take k items) (take (k + 1) items) n q c.package-files.ensures.path (λ m h. taken_or_next items k 0 m lt h)
    (λ m h. still_taken items k 0 m lt h) (next_taken items k 0 lt) (above at p.0 (c.requires.at p.0 p.1) k lt)
    c.loop-other.names c.push.new.self names (c.in_ok-push.ensures.ok ∙ ap (λ x. c.loop-other.names ++ (x, names) ∷ []) key)
    (map source_of files.trees.items) are
    (record {
      has_path = c.names_of.ensures.path;
      has_files = ap (map source_of) c.names_of.ensures.files;
      tables = λ t e. absurd (true≢false (sym (ap is_some e)));
    })
    c.loop-other.invariant

pub returns : goal.returns
returns c = λ p at.
    let w = c.args.at.graph.now in
    let items = c.args.at.closure.now in
    let names = c.loop-other.names in
    all_named w p items names (c.requires.at p at).closure
    (subst (λ l. AreNamed w l names) (take_all c.loop-other.other-index items (omega arith)) c.loop-other.invariant.are)
