-- The answers to the goals of `seeing::state_of`.
use Rattle.std.proofs.Common.{◌≡◌, sym, ap, ◌∙◌}
use Rattle.std.proofs.lemmas.Bool.{false≢true}
use Rattle.std.proofs.lemmas.Option.{same_Some}
use Rattle.types_declared.specs.ExportTablesView.{name_in}
use Rattle.workspace_check.specs.Verdicts.{is_on_cycle, is_faulty, is_good}
use Rattle.workspace_check.proofs.Noting.{builds_by, imported, unknown_by, known_as}
use Rattle.workspace_check.proofs.seeing.state_of.Goals as goal

pub returns-then-is_marked : goal.returns-then-is_marked
returns-then-is_marked c = λ p at q there. (
    let told = c.requires.back p at c.args.import q there (imported c.args.graph.now p q c.args.import there (c.requires.imports p at q there)) in
    is_on_cycle (told.0 (c.is_marked.ensures.0 c.if-is_marked.true)))

pub returns-in-None : goal.returns-in-None
returns-in-None c = λ p at q there.
    let path : c.deref.result.now ≡ q = c.deref.ensures.value ∙ same_Some c.package.result.now.path.items q (sym c.package.ensures.path ∙ there) in
    is_faulty (builds_by c.args.graph.now p q c.args.import there (c.requires.imports p at q there)
    (λ returns. false≢true (sym c.if-is_marked.false ∙ c.is_marked.ensures.1 ((c.requires.back p at c.args.import q there
    (imported c.args.graph.now p q c.args.import there (c.requires.imports p at q there))).1 returns))))
    (unknown_by c.args.all.now q (ap (name_in c.args.all.now) (sym path) ∙ sym c.in-None.ensures))

pub returns-in-Some : goal.returns-in-Some
returns-in-Some c = λ p at q there.
    let path : c.deref.result.now ≡ q = c.deref.ensures.value ∙ same_Some c.package.result.now.path.items q (sym c.package.ensures.path ∙ there) in
    is_good (builds_by c.args.graph.now p q c.args.import there (c.requires.imports p at q there)
    (λ returns. false≢true (sym c.if-is_marked.false ∙ c.is_marked.ensures.1 ((c.requires.back p at c.args.import q there
    (imported c.args.graph.now p q c.args.import there (c.requires.imports p at q there))).1 returns))))
    (known_as c.args.all.now q _ (ap (name_in c.args.all.now) (sym path) ∙ sym c.in-Some.ensures))
