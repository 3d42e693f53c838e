-- The answers to the goals of `sources::mark_at`.
use Rattle.std.proofs.Common.{subst, codes}
use Rattle.types_declared.specs.PackageView.{package_of}
use Rattle.types_declared.specs.Written.{IsPredeclared}
use Rattle.build_object.proofs.Marks.{not_true}
use Rattle.build_object.proofs.sources.mark_at.Goals as goal

pub returns-in-None : goal.returns-in-None
returns-in-None c = record {
  global = c.imported_global.ensures;
  truth = not_true (package_of c.args.unit) c.args.file c.args.token c.in-None.ensures.bound;
}

pub returns-in-Some : goal.returns-in-Some
returns-in-Some c = record {
  global = c.own_global.ensures;
  truth = (
    λ t. record { declaration = c.in-Some.d; binds = c.in-Some.ensures.bound; predeclared = c.is_true.ensures.0 t },
    λ w. c.is_true.ensures.1
        (subst (λ e. IsPredeclared (package_of c.args.unit) e (codes "true")) (c.in-Some.ensures.only w.declaration w.binds) w.predeclared),
  );
}
