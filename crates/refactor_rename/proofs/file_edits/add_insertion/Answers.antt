-- The answers to the goals of `file_edits::add_insertion`.
use Rattle.std.proofs.Common.{refl, subst, sym, ◌∙◌, arith}
use Rattle.std.proofs.lemmas.Bool.{false≢true}
use Rattle.go_ast.specs.SourceFile.{source_of}
use Rattle.base_edits.specs.declared.edit.Edit.{Edit}
use Rattle.refactor_rename.specs.FileEdits.{AppendsEdit, stays, grows, InsertsName, IsLiteralAt}
use Rattle.refactor_rename.specs.Replacements.{IsNameBefore}
use Rattle.refactor_rename.proofs.Editing.{end_push}
use Rattle.refactor_rename.proofs.file_edits.add_insertion.Goals as goal

pub returns-in_ok-push-clause-order : goal.returns-in_ok-push-clause-order
returns-in_ok-push-clause-order c =
    let n = c.args.token.span.start in
    let e : Edit = record { span = record { start = n; end = n }; text = c.in_ok-text.text } in
    end_push c.args.edits.now.items c.push.new.self.items e n n c.in_ok-push.ensures.items c.requires.order (omega arith) (omega arith) (omega arith)

pub returns-in_ok-push-clause-adds : goal.returns-in_ok-push-clause-adds
returns-in_ok-push-clause-adds c =
    let n = c.args.token.span.start in
    let f = source_of c.args.file.now in
    let r = c.args.renamed.now in
    let i = c.args.number in
    let e : Edit = record { span = record { start = n; end = n }; text = c.in_ok-text.text } in
    let is : InsertsName f r i e = record {
      token = c.args.token;
      at = c.requires.at;
      is_literal = subst (λ q. IsLiteralAt r.literal q i) c.path.ensures (c.is_literal.ensures.0 c.if-is_literal.true);
      span = refl;
      text = subst (λ name. IsNameBefore f i name e.text) c.bytes.ensures c.in_ok-text.ensures;
    } in
    subst (AppendsEdit (InsertsName f r i) c.args.edits.now.items) (sym c.in_ok-push.ensures.items) (grows e is)

pub returns-else-is_literal-clause-adds : goal.returns-else-is_literal-clause-adds
returns-else-is_literal-clause-adds c =
    let r = c.args.renamed.now in
    stays (λ e h. false≢true (sym c.if-is_literal.false ∙ c.is_literal.ensures.1
    (subst (λ q. IsLiteralAt r.literal q c.args.number) (sym c.path.ensures) h.is_literal)))
