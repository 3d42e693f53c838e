-- The answers to the goals of `gathered::verdict_after`.
use Rattle.std.proofs.Common.{sym, ap, ◌∙◌}
use Rattle.std.specs.Prelude.{Some}
use Rattle.std.proofs.lemmas.Option.{same_Some}
use Rattle.workspace_check.specs.declared.known.KnownVerdict.{KnownVerdict}
use Rattle.workspace_check.proofs.gathered.verdict_after.Goals as goal

pub returns-in-Some : goal.returns-in-Some
returns-in-Some c = λ p at one is.
    c.requires.before c.args.number p one at (c.in-Some.ensures ∙
    ap (λ (v : KnownVerdict). Some (Some v)) (sym c.in_ok-verdict.ensures.cases ∙ same_Some c.in_ok-verdict.verdict one is))
