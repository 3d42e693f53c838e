-- The answers to the goals of `heeding::open_given`.
use Rattle.std.proofs.Common.{Option, refl, subst}
use Rattle.std.specs.Prelude.{OnOk}
use Rattle.lsp_params.specs.Changed.{DocumentView}
use Rattle.lsp_editor.specs.Heeding.{OpensAsked}
use Rattle.lsp_editor.proofs.heeding.open_given.Goals as goal

pub returns-in-Some : goal.returns-in-Some
returns-in-Some c =
    subst (λ (o : Option DocumentView). OnOk c.open_document.result (OpensAsked o c.args.editor.now c.open_document.new.editor)) c.in-Some.ensures
    c.open_document.ensures

pub returns-in-None : goal.returns-in-None
returns-in-None c = subst (λ (o : Option DocumentView). OpensAsked o c.args.editor.now c.args.editor.now) c.in-None.ensures refl
