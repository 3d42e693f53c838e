-- The unit of the table, with the names, is that of the package.
use Rattle.std.proofs.Common.{sym, ◌∙◌}
use Rattle.std.proofs.lemmas.Bool.{false≢true}
use Rattle.build_kept.proofs.KnownBefore.{unit_told}
use Rattle.build_kept.proofs.known_units.known_unit_at.Goals as goal

pub returns-in_ok-made-in-Some : goal.returns-in_ok-made-in-Some
returns-in_ok-made-in-Some c = λ w are at.
    unit_told w c.args.names.now c.args.units.now c.args.number c.args.path.now c.in-Some.unit.now c.in_ok-made-in-Some.made are at c.in-Some.ensures
    (λ d. false≢true (sym c.if-declares_one.false ∙ c.declares_one.ensures.1 d)) (c.in_ok-made-in-Some.ensures w)
