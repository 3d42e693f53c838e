-- What a package builds on, and what leads back to it, by its closure, in the words of the workspace.
use Rattle.std.proofs.Common.{◌≡◌, [], Some, get_or, slice_get}
use Rattle.std.proofs.lemmas.Option.{slice_get-get_or}
use Rattle.std.proofs.lemmas.Result.{IfOk-weaker}
use Rattle.base_files.specs.Packages.{package_paths}
use Rattle.workspace_graph.proofs.ByPath.{back_are, below_is, closure_from}
use Rattle.workspace_graph.proofs.graph.Graph.below_in.Goals as goal

pub below_in-requires : goal.below_in-requires
below_in-requires c =
    let w = c.args.self.now in
    let p = get_or (package_paths w) c.args.number [] in
    let at : slice_get (package_paths w) c.args.number ≡ Some p = slice_get-get_or (package_paths w) c.args.number [] c.requires.number in
    record {
      number = rw c.links.ensures.links.size c.requires.number;
      closure = closure_from w c.links.result.now c.links.ensures.links c.args.number p c.args.closure.now at (c.requires.closure p at);
      rising = c.requires.rising;
    }

pub returns-clause-built_on : goal.returns-clause-built_on
returns-clause-built_on c =
    IfOk-weaker c.below_in.result _ _
    (λ found is p at. below_is c.args.self.now c.links.result.now c.links.ensures.links c.args.number p found.built_on at is) c.below_in.ensures.built_on

pub returns-clause-rising : goal.returns-clause-rising
returns-clause-rising c = IfOk-weaker c.below_in.result _ _ (λ found is. is.rising) c.below_in.ensures.built_on

pub returns-clause-back : goal.returns-clause-back
returns-clause-back c =
    IfOk-weaker c.below_in.result _ _
    (λ found is p at. back_are c.args.self.now c.links.result.now c.links.ensures.links c.args.number p found.back.items at is) c.below_in.ensures.back
