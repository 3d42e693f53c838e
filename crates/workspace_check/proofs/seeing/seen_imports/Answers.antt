-- The answers to the goals of `seeing::seen_imports`.
use Rattle.std.proofs.Common.{sym, subst}
use Rattle.std.specs.List.Sorted.{IsStrictlyIncreasing}
use Rattle.workspace_graph.specs.Graphs.{ListsPackages}
use Rattle.workspace_graph.specs.Reaching.{AreBackMarks}
use Rattle.workspace_check.specs.Verdicts.{BuildsOn}
use Rattle.workspace_check.specs.KnownFindings.{verdicts_by}
use Rattle.workspace_check.proofs.Noting.{seen_still}
use Rattle.workspace_check.proofs.seeing.seen_imports.Goals as goal

pub seen_of-requires : goal.seen_of-requires
seen_of-requires c =
    let w = c.args.graph.now in
    record {
      in_range = c.requires.in_range;
      below = λ p at. subst (ListsPackages w (BuildsOn w p)) (sym c.as_slice.ensures) (c.in_ok-below.ensures.built_on p at);
      rising = subst IsStrictlyIncreasing (sym c.as_slice.ensures) c.in_ok-below.ensures.rising;
      whole = c.requires.whole;
    }

pub note_imports-requires : goal.note_imports-requires
note_imports-requires c = record {
  in_range = c.requires.in_range;
  back = λ p at. subst (AreBackMarks c.args.graph.now p) (sym c.deref.ensures.value) (c.in_ok-below.ensures.back p at);
  nothing = c.in_ok-export_table.ensures.states;
}

pub returns : goal.returns
returns c = record {
  seen = λ p at. seen_still c.args.graph.now (verdicts_by c.args.all.now) p c.in_ok-export_table.export_table c.note_imports.new.seen
      c.in_ok-note_imports.ensures.kept (c.in_ok-export_table.ensures.seen p at);
  states = c.in_ok-note_imports.ensures.states;
}
