-- The answers to the goals of `recovery::run_of`.
use Rattle.std.proofs.Common.{◌∙◌, ◌++◌, [], ◌∷◌, ap, sym}
use Rattle.std.proofs.lemmas.Bool.{false≢true}
use Rattle.tool_disk.proofs.RunJournals.{found_run, no_run}
use Rattle.tool_disk.proofs.recovery.run_of.Goals as goal

pub returns-then-is_end : goal.returns-then-is_end
returns-then-is_end c =
    found_run c.args.texts.items c.pop-4.new.self.items c.in_ok-from.from c.in_ok-to.to c.in_ok-mark.mark c.in_ok-behind.behind
    (c.in_ok-behind.ensures.items
    ∙ ap (λ l. l ++ c.in_ok-behind.behind ∷ []) (c.in_ok-mark.ensures.items
    ∙ ap (λ l. l ++ c.in_ok-mark.mark ∷ []) (c.in_ok-to.ensures.items ∙ ap (λ l. l ++ c.in_ok-to.to ∷ []) c.in_ok-from.ensures.items)))
    (c.is_end.ensures.0 c.if-is_end.true)

pub returns : goal.returns
returns c =
    no_run c.args.texts.items c.pop-4.new.self.items c.in_ok-from.from c.in_ok-to.to c.in_ok-mark.mark c.in_ok-behind.behind
    (c.in_ok-behind.ensures.items
    ∙ ap (λ l. l ++ c.in_ok-behind.behind ∷ []) (c.in_ok-mark.ensures.items
    ∙ ap (λ l. l ++ c.in_ok-mark.mark ∷ []) (c.in_ok-to.ensures.items ∙ ap (λ l. l ++ c.in_ok-to.to ∷ []) c.in_ok-from.ensures.items)))
    (λ ends. false≢true (sym c.if-is_end.false ∙ c.is_end.ensures.1 ends))
