-- The answers to the goals of `turned::repeated`.
use Rattle.std.proofs.Common.{Some, sym, subst, ◌∙◌}
use Rattle.std.proofs.lemmas.Bool.{false≢true}
use Rattle.types_declared.specs.PackageView.{package_of}
use Rattle.refactor_decide.specs.Turned.{TellsTurned}
use Rattle.refactor_decide.specs.declared.turned.TurnedUses.{TurnedUses}
use Rattle.refactor_decide.proofs.Turning.{later_turns, not_global, not_repeated}
use Rattle.refactor_decide.proofs.turned.repeated.Goals as goal

pub returns-then-not-is_package_level : goal.returns-then-not-is_package_level
returns-then-not-is_package_level c =
    not_global (package_of c.args.unit) c.args.n c.args.name.now c.requires.exported
    (λ level. false≢true (sym c.if-not-is_package_level.true ∙ c.is_package_level.ensures.1 level))

pub returns-in-None : goal.returns-in-None
returns-in-None c = not_repeated (package_of c.args.unit) c.args.n c.args.name.now c.requires.exported c.in-None.ensures

pub returns-in-Some : goal.returns-in-Some
returns-in-Some c =
    let p = package_of c.args.unit in
    let T : TurnedUses → Type 0 = λ t. TellsTurned p c.args.n c.args.name.now (Some t) in
    subst T (sym c.later.ensures)
    (later_turns p c.args.n c.args.name.now c.requires.exported c.requires.all_count c.requires.can (c.is_package_level.ensures.0
    c.if-not-is_package_level.false)
    c.in-Some.e c.in-Some.ensures.0 c.in-Some.ensures.1)
