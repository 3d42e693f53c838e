-- The answers to the goals of `naming::path_of`.
use Rattle.std.proofs.Common.{sym, ◌∙◌}
use Rattle.std.proofs.lemmas.Option.{same_Some}
use Rattle.std.proofs.lemmas.Result.{IfOk-weaker}
use Rattle.build_unit.proofs.naming.path_of.Goals as goal

pub returns-in_ok-shared-in-Some : goal.returns-in_ok-shared-in-Some
returns-in_ok-shared-in-Some c = λ p at.
    c.in_ok-shared-in-Some.ensures.cases ∙ c.path.ensures ∙
    (c.requires.known c.args.number p c.in-Some.verdict.now at c.in-Some.ensures).finding.finding.has_path

pub returns-in-None : goal.returns-in-None
returns-in-None c = IfOk-weaker c.new.result _ _ (λ path is p at.
    is ∙ c.deref.ensures.value ∙ same_Some _ p (sym c.package.ensures.path ∙ at)) c.new.ensures
