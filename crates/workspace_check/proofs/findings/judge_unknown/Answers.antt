-- The answers to the goals of `findings::judge_unknown`.
use Rattle.std.proofs.Common.{refl, sym, subst, ◌∙◌}
use Rattle.std.proofs.lemmas.Option.{same_Some}
use Rattle.workspace_check.specs.declared.finding.Finding.{Finding}
use Rattle.workspace_check.specs.Steps.{LearnsFinding}
use Rattle.workspace_check.proofs.findings.judge_unknown.Goals as goal

pub judge_one-requires : goal.judge_one-requires
judge_one-requires c = record {
  in_range = c.requires.in_range;
  path = λ p at. c.in_ok-path.ensures ∙ c.deref.ensures.value ∙ same_Some c.package.result.now.path.items p (sym c.package.ensures.path ∙ at);
  cycles = c.requires.cycles;
  whole = c.requires.all.verdicts.whole;
  fresh = λ p at. c.requires.all.verdicts.fresh c.args.number p c.requires.unknown at;
}

pub returns : goal.returns
returns c = λ p at. record {
  finding = c.in_ok-finding-2.finding;
  is_set = refl;
  learns = subst (λ (f : Finding). LearnsFinding c.args.graph.now p f c.args.all.now.export_table c.judge_one.new.all) (sym c.in_ok-finding-2.ensures)
      (c.in_ok-finding.ensures p at);
}
