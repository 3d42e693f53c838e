-- The answers to the goals of `seeing::state_by`.
use Rattle.std.proofs.Common.{◌≡◌, sym, ap, ◌∙◌}
use Rattle.std.proofs.lemmas.Bool.{false≢true}
use Rattle.std.proofs.lemmas.Option.{same_Some}
use Rattle.types_declared.specs.ExportTablesView.{name_in}
use Rattle.workspace_check.specs.Verdicts.{is_on_cycle, is_faulty, is_good}
use Rattle.workspace_check.proofs.Noting.{builds_by, unknown_by, known_as}
use Rattle.workspace_check.proofs.seeing.state_by.Goals as goal

pub returns-then-share_cycle : goal.returns-then-share_cycle
returns-then-share_cycle c = λ p at q there. (
    let told = c.requires.cycles c.args.number c.args.import p q c.requires.known at there (c.requires.imports p at q there) in
    is_on_cycle (told.0 (c.share_cycle.ensures.0 c.if-share_cycle.true)))

pub returns-in-None : goal.returns-in-None
returns-in-None c = λ p at q there.
    let path : c.deref.result.now ≡ q = c.deref.ensures.value ∙ same_Some c.package.result.now.path.items q (sym c.package.ensures.path ∙ there) in
    let told = c.requires.cycles c.args.number c.args.import p q c.requires.known at there (c.requires.imports p at q there) in
    is_faulty (builds_by c.args.graph.now p q c.args.import there (c.requires.imports p at q there)
    (λ returns. false≢true (sym c.if-share_cycle.false ∙ c.share_cycle.ensures.1 (told.1 returns))))
    (unknown_by c.args.all.now q (ap (name_in c.args.all.now) (sym path) ∙ sym c.in-None.ensures))

pub returns-in-Some : goal.returns-in-Some
returns-in-Some c = λ p at q there.
    let path : c.deref.result.now ≡ q = c.deref.ensures.value ∙ same_Some c.package.result.now.path.items q (sym c.package.ensures.path ∙ there) in
    let told = c.requires.cycles c.args.number c.args.import p q c.requires.known at there (c.requires.imports p at q there) in
    is_good (builds_by c.args.graph.now p q c.args.import there (c.requires.imports p at q there)
    (λ returns. false≢true (sym c.if-share_cycle.false ∙ c.share_cycle.ensures.1 (told.1 returns))))
    (known_as c.args.all.now q _ (ap (name_in c.args.all.now) (sym path) ∙ sym c.in-Some.ensures))
