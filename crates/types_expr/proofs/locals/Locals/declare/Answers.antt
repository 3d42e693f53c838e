-- The answers to the goals of `locals::Locals::declare`.
use Rattle.std.proofs.Common.{ap, sym, ◌∙◌, Some, None, option_map}
use Rattle.types_expr.specs.World.{declared}
use Rattle.types_expr.specs.Found.{locals_of}
use Rattle.types_expr.specs.View.{type_of}
use Rattle.types_expr.proofs.LocalTypes.{one_put}
use Rattle.types_expr.proofs.locals.Locals.declare.Goals as goal

pub returns-in_ok-before-in-Some : goal.returns-in_ok-before-in-Some
returns-in_ok-before-in-Some c = one_put c.args.self.now (record { types = c.insert.new.self }) c.args.place (Some c.in-Some.own)
    c.in_ok-before-in-Some.ensures.updates
    ∙ ap (λ t. declared (locals_of c.args.self.now) c.args.place (option_map type_of t)) (sym c.in-Some.is)

pub returns-in-None : goal.returns-in-None
returns-in-None c = one_put c.args.self.now (record { types = c.remove-before.new.self }) c.args.place None c.remove-before.ensures.updates
    ∙ ap (λ t. declared (locals_of c.args.self.now) c.args.place (option_map type_of t)) (sym c.in-None.is)
