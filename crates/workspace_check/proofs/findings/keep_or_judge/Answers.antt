-- The answers to the goals of `findings::keep_or_judge`.
use Rattle.std.proofs.Common.{inl, inr, refl, sym, ◌∙◌}
use Rattle.std.proofs.lemmas.Bool.{false≢true}
use Rattle.workspace_check.proofs.Keeping.{stands_learnt}
use Rattle.workspace_check.proofs.findings.keep_or_judge.Goals as goal

pub returns-then-knows : goal.returns-then-knows
returns-then-knows c = λ p at. inr (c.knows.ensures.0 c.if-knows.true, refl)

pub returns-in-Some : goal.returns-in-Some
returns-in-Some c = λ p at.
    let one = c.in-Some.verdict.now in
    inl (
      λ g. false≢true (sym c.if-knows.false ∙ c.knows.ensures.1 g),
      record {
        finding = one.finding;
        is_set = c.in_ok-keep.ensures.findings;
        learns = stands_learnt c.args.earlier.now.graph c.args.graph.now c.requires.same c.args.earlier.now.verdicts.items c.in-Some.ensures.told
            c.args.steady.now.marks.items c.args.all.now c.requires.steady p one c.keep.new.self (c.in-Some.ensures.stands p at)
            c.in_ok-keep.ensures.export_table;
      },
    )

pub returns : goal.returns
returns c = λ p at. inl (λ g. false≢true (sym c.if-knows.false ∙ c.knows.ensures.1 g), c.in_ok-judge_unknown.ensures p at)
