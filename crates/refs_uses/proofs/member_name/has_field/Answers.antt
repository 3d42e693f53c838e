-- The answers to the goals of `member_name::has_field`.
use Rattle.std.proofs.Common.{ap, sym, ◌∙◌}
use Rattle.std.specs.Prelude.{option_map}
use Rattle.std.proofs.lemmas.Map.Views.{exact_unsigned_eq}
use Rattle.types_expr.specs.WorldView.{field_of}
use Rattle.refs_uses.proofs.member_name.has_field.Goals as goal

pub returns-in-Some : goal.returns-in-Some
returns-in-Some c = λ e. record {
  field = field_of c.in-Some.field.now;
  found = sym c.field_in.ensures ∙ ap (option_map (λ x. field_of x.now)) c.in-Some.is;
  of_rank = exact_unsigned_eq c.in-Some.field.now.symbol.rank c.args.rank e;
}
