-- The answers to the goals of `may_use::imports`.
use Rattle.std.proofs.Common.{sym, subst, ◌∙◌}
use Rattle.std.proofs.lemmas.Option.{same_Some}
use Rattle.workspace_graph.specs.Packages.{PackageImports}
use Rattle.refs_uses.proofs.may_use.imports.Goals as goal

pub returns : goal.returns
returns c = λ p at q to.
    let holds = c.imports.ensures.imports p at c.args.other in (
      λ t. (let s = holds.0 (c.is_among.ensures.0 t) in subst (PackageImports c.args.workspace.now.graph p) (same_Some s.0 q (sym s.1 ∙ to)) s.2),
      λ i. c.is_among.ensures.1 (holds.1 (q, to, i)),
    )
