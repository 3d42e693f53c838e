-- The answers to the goals of `file_edits::add_replacement`.
use Rattle.std.proofs.Common.{◌≡◌, ap, arith, subst, sym, ◌∙◌}
use Rattle.std.specs.Prelude.{Contains}
use Rattle.std.proofs.lemmas.Bool.{false≢true}
use Rattle.std.proofs.lemmas.Option.{same_Some}
use Rattle.base_edits.specs.declared.edit.Edit.{Edit}
use Rattle.go_ast.specs.SourceFile.{source_of}
use Rattle.go_scanner.specs.declared.piece.Class.TheVariants.{Name}
use Rattle.go_scanner.specs.declared.piece.Piece.{Piece}
use Rattle.refactor_rename.specs.FileEdits.{AppendsEdit, stays, grows, RenamesToken}
use Rattle.refactor_rename.proofs.Editing.{end_push}
use Rattle.refactor_rename.proofs.file_edits.add_replacement.Goals as goal

pub returns-in_ok-push-clause-order : goal.returns-in_ok-push-clause-order
returns-in_ok-push-clause-order c =
    let e : Edit = record { span = c.args.token.span; text = c.in_ok-text.text } in
    end_push c.args.edits.now.items c.push.new.self.items e c.args.token.span.start c.args.token.span.end c.in_ok-push.ensures.items c.requires.order
    (omega arith) c.requires.span (omega arith)

pub returns-in_ok-push-clause-adds : goal.returns-in_ok-push-clause-adds
returns-in_ok-push-clause-adds c =
    let f = source_of c.args.file.now in
    let r = c.args.renamed.now in
    let i = c.args.number in
    let n = c.args.token.span.start in
    let e : Edit = record { span = c.args.token.span; text = c.in_ok-text.text } in
    let at = c.is_renamed.ensures.0 c.if-is_renamed.true in
    let is : RenamesToken f r i e = record {
      token = c.args.token;
      at = c.requires.at;
      is_name = at.0;
      among =
          subst (λ q. Contains r.places (record { path = q; offset = n })) c.path.ensures
          (subst (λ ps. Contains ps (record { path = c.path.result.now; offset = n })) c.as_slice.ensures at.1);
      is_edit = ap (λ text. record { span = c.args.token.span; text = text }) c.in_ok-text.ensures.cases;
    } in
    subst (AppendsEdit (RenamesToken f r i) c.args.edits.now.items) (sym c.in_ok-push.ensures.items) (grows e is)

pub returns-else-is_renamed-clause-adds : goal.returns-else-is_renamed-clause-adds
returns-else-is_renamed-clause-adds c =
    let f = source_of c.args.file.now in
    let r = c.args.renamed.now in
    let n = c.args.token.span.start in
    stays (λ e h.
    let same : h.token ≡ c.args.token = same_Some h.token c.args.token (sym h.at ∙ c.requires.at) in
    let there = subst (λ (t : Piece). Contains r.places (record { path = f.path; offset = t.span.start })) same h.among in
    let among =
    subst (λ ps. Contains ps (record { path = c.path.result.now; offset = n })) (sym c.as_slice.ensures)
    (subst (λ q. Contains r.places (record { path = q; offset = n })) (sym c.path.ensures) there) in
    false≢true (sym c.if-is_renamed.false ∙ c.is_renamed.ensures.1 (subst (λ (t : Piece). t.class ≡ Name) same h.is_name, among)))
