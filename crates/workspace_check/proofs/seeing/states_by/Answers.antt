-- The answers to the goals of `seeing::states_by`.
use Rattle.std.proofs.Common.{◌≡◌, ◌+◌, ◌<◌, take, length, get_or, refl, sym, subst, ◌∙◌, arith}
use Rattle.std.proofs.lemmas.List.{take_all}
use Rattle.std.proofs.lemmas.List.Elements.{Contains-get_or}
use Rattle.std.proofs.lemmas.Option.{same_Some, slice_get_within}
use Rattle.base_files.specs.Packages.{package_paths}
use Rattle.workspace_graph.specs.Packages.{PackageImports}
use Rattle.types_declared.specs.States.{state_in}
use Rattle.types_declared.specs.ExportTablesView.{SetsState}
use Rattle.types_info.proofs.MeaningLists.{slice_get_some}
use Rattle.workspace_check.specs.KnownFindings.{verdicts_by}
use Rattle.workspace_check.proofs.Members.{taken_or_next}
use Rattle.workspace_check.proofs.Noting.{AreNoted, none_noted, noted_next, all_noted}
use Rattle.workspace_check.proofs.seeing.states_by.Goals as goal

pub loop-import-init : goal.loop-import-init
loop-import-init c = λ p at.
    none_noted c.args.graph.now (verdicts_by c.args.all.now) p _ (state_in c.new-noted.result.states) refl c.new-noted.ensures.states

pub package-requires : goal.package-requires
package-requires c =
    let w = c.args.graph.now in
    let items = c.imports-import-items.result.now in
    let n = get_or items c.loop-import.import-index 0 in
    let p = slice_get_some (package_paths w) c.args.number c.requires.in_range in
    let s = (c.imports-import-items.ensures.imports p.0 p.1 n).0 (Contains-get_or items c.loop-import.import-index 0 (omega arith)) in
    slice_get_within (package_paths w) n s.0 s.1

pub state_by-requires : goal.state_by-requires
state_by-requires c =
    let w = c.args.graph.now in
    let items = c.imports-import-items.result.now in
    let n = get_or items c.loop-import.import-index 0 in
    let own = Contains-get_or items c.loop-import.import-index 0 (omega arith) in
    record {
      in_range =
          let p = slice_get_some (package_paths w) c.args.number c.requires.in_range in
          let s = (c.imports-import-items.ensures.imports p.0 p.1 n).0 own in
          slice_get_within (package_paths w) n s.0 s.1;
      cycles = c.requires.cycles;
      known = c.requires.known;
      imports = λ p at q there.
          let s = (c.imports-import-items.ensures.imports p at n).0 own in
          subst (PackageImports w p) (same_Some s.0 q (sym s.1 ∙ there)) s.2;
    }

pub loop-import-preserved : goal.loop-import-preserved
loop-import-preserved c = λ p at.
    let w = c.args.graph.now in
    let items = c.imports-import-items.result.now in
    let k = c.loop-import.import-index in
    let lt : k < length items = omega arith in
    let n = get_or items k 0 in
    let old = c.loop-import.noted in
    let new = c.note.new.self in
    let s = (c.imports-import-items.ensures.imports p at n).0 (Contains-get_or items k 0 lt) in
    let path : c.in_ok-path.path.items ≡ s.0 =
    c.in_ok-path.ensures.items ∙ c.deref.ensures.value ∙ same_Some c.package.result.now.path.items s.0 (sym c.package.ensures.path ∙ s.1) in
    noted_next w (verdicts_by c.args.all.now) p (take k items) (take (k + 1) items) n s.0 s.1 (λ m h. taken_or_next items k 0 m lt h)
    (state_in old.states) (state_in new.states) c.state_by.result
    (subst (λ v. SetsState (state_in old.states) (state_in new.states) v c.state_by.result) path c.in_ok-note.ensures.noted)
    (c.state_by.ensures p at s.0 s.1) (c.loop-import.invariant p at)

pub returns : goal.returns
returns c = λ p at.
    let w = c.args.graph.now in
    let items = c.imports-import-items.result.now in
    let state = state_in c.loop-import.noted.states in
    let whole = subst (λ l. AreNoted w (verdicts_by c.args.all.now) p l state) (take_all c.loop-import.import-index items (omega arith))
    (c.loop-import.invariant p at) in
    all_noted w (verdicts_by c.args.all.now) p items state (c.imports-import-items.ensures.imports p at) whole
