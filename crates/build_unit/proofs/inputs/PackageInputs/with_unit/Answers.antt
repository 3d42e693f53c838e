-- The closure is that of the package. What is known and a unit that is given are right.
use Rattle.std.proofs.Common.{[], get_or}
use Rattle.std.proofs.lemmas.Option.{slice_get-get_or}
use Rattle.base_files.specs.Packages.{package_paths}
use Rattle.workspace_graph.proofs.ByPath.{at_contains}
use Rattle.build_unit.proofs.ClosurePart.{part_inputs}
use Rattle.build_unit.proofs.inputs.PackageInputs.with_unit.Goals as goal

pub invariant_of-result : goal.invariant_of-result
invariant_of-result c =
    let w = c.args.files.now in
    let n = c.args.number in
    let p = get_or (package_paths w) n [] in
    let at = slice_get-get_or (package_paths w) n [] c.requires.number in
    rw (c.in_ok-shared.ensures.ok, c.in_ok-whole.ensures.cases, c.in_ok-own.ensures.cases) (
      record { path = p; has_path = at; holds = c.in_ok-closure.ensures.closure p at; rising = c.in_ok-closure.ensures.rising },
      c.requires.known,
      c.requires.unit,
    )

pub returns : goal.returns
returns c = λ p at.
    let w = c.args.files.now in
    rw (c.in_ok-shared.ensures.ok, c.in_ok-whole.ensures.cases)
    (part_inputs w c.in_ok-closure.closure p (c.in_ok-closure.ensures.closure p at) (at_contains w c.args.number p at))
