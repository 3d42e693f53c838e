-- The answers to the goals of `seeing::imports_faulty`.
use Rattle.std.proofs.Common.{◌<◌, length, get_or, arith}
use Rattle.std.proofs.lemmas.List.Elements.{Contains-get_or}
use Rattle.std.proofs.lemmas.Option.{slice_get_within}
use Rattle.base_files.specs.Packages.{package_paths}
use Rattle.types_info.proofs.MeaningLists.{slice_get_some}
use Rattle.workspace_check.proofs.seeing.imports_faulty.Goals as goal

pub is_unknown-requires : goal.is_unknown-requires
is_unknown-requires c =
    let w = c.args.graph.now in
    let items = c.imports-import-items.result.now in
    let n = get_or items c.loop-import.import-index 0 in
    let p = slice_get_some (package_paths w) c.args.number c.requires in
    let s = (c.imports-import-items.ensures.imports p.0 p.1 n).0 (Contains-get_or items c.loop-import.import-index 0 (omega arith)) in
    slice_get_within (package_paths w) n s.0 s.1

pub returns-then-is_unknown : goal.returns-then-is_unknown
returns-then-is_unknown c = λ t p at.
    let items = c.imports-import-items.result.now in
    let k = c.loop-import.import-index in
    let lt : k < length items = omega arith in
    let s = (c.imports-import-items.ensures.imports p at (get_or items k 0)).0 (Contains-get_or items k 0 lt) in
    record { path = s.0; imports = s.2; is_faulty = c.is_unknown.ensures c.if-is_unknown.true s.0 s.1 }
