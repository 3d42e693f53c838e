-- The Job is not out after it, and nothing else changes.
use Rattle.std.proofs.Common.{ap, subst, ◌∙◌}
use Rattle.build_unit.specs.Jobs.{RemovesJob, label_of}
use Rattle.history_machine.specs.Machine.{Content}
use Rattle.history_book.proofs.content.Content.give_back.Goals as goal

pub returns : goal.returns
returns c =
    let out = c.take_back.new.self in (
      c.number-number.ensures ∙ ap (λ (x : Content). x.current.number) c.self.view_is,
      (
        out,
        subst (λ (x : Content). RemovesJob x.out (label_of c.args.job) out) c.self.view_is c.in-Ok.ensures.1,
        ap (λ (x : Content). record x { out = out }) c.self.view_is,
      ),
    )
