-- The answers to the goals of `member_name::has_method`.
use Rattle.std.proofs.Common.{ap, sym, ◌∙◌}
use Rattle.std.specs.Prelude.{option_map}
use Rattle.std.proofs.lemmas.Map.Views.{exact_unsigned_eq}
use Rattle.types_expr.specs.WorldView.{plain_method_of}
use Rattle.refs_uses.proofs.member_name.has_method.Goals as goal

pub returns-in-Some : goal.returns-in-Some
returns-in-Some c = λ e. record {
  method = plain_method_of c.in-Some.method.now;
  found = sym c.method_in.ensures ∙ ap (option_map (λ x. plain_method_of x.now)) c.in-Some.is;
  of_rank = exact_unsigned_eq c.in-Some.method.now.symbol.rank c.args.rank e;
}
