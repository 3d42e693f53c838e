-- The answers to the goals of `broken::no_links`.
use Rattle.std.proofs.Common.{rules, subst}
use Rattle.types_declared.specs.Reachability.{LinksTo}
use Rattle.types_declared.proofs.Breaking.{no_leads}
use Rattle.types_declared.proofs.broken.no_links.Goals as goal

pub loop-number-preserved : goal.loop-number-preserved
loop-number-preserved c = record {
  size = search rules;
  none = λ a b l.
      no_leads c.loop-number.links.items c.new.result c.new.ensures.items c.loop-number.invariant.none a b
      (subst (λ ls. LinksTo ls a b) c.in_ok-push.ensures.items l);
}

pub returns-clause-none : goal.returns-clause-none
returns-clause-none c = λ a b l.
    no_leads c.loop-number.links.items c.new-2.result c.new-2.ensures.items c.loop-number.invariant.none a b
    (subst (λ ls. LinksTo ls a b) c.in_ok-push-2.ensures.items l)
