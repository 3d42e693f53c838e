-- The answers to the goals of `keys::SeenFields::add`.
use Rattle.std.proofs.Common.{ap, sym, ◌∙◌}
use Rattle.types_expr.specs.Judge.{seen_with}
use Rattle.types_expr.specs.Found.{seen_of, key_of}
use Rattle.types_expr.proofs.SeenRanks.{one_more}
use Rattle.types_expr.proofs.keys.SeenFields.add.Goals as goal

pub returns-in_ok-insert : goal.returns-in_ok-insert
unfolding key_of
returns-in_ok-insert c = one_more c.args.self.now (record { ranks = c.insert.new.self }) c.in-Field.rank c.in_ok-insert.ensures.updates ∙
    ap (λ k. seen_with (key_of k) (seen_of c.args.self.now)) (sym c.in-Field.is)
