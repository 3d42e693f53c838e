-- The answers to the goals of `replacing::add_replacement`.
use Rattle.std.proofs.Common.{◌≡◌, ap, sym, subst, ◌∙◌}
use Rattle.std.proofs.lemmas.Bool.{false≢true}
use Rattle.base_edits.specs.declared.edit.Edit.{Edit}
use Rattle.go_scanner.specs.declared.piece.Piece.{Piece}
use Rattle.refactor_rename.specs.FileEdits.{AppendsEdit, stays, grows}
use Rattle.refactor_rename.specs.Here.{ReplacesAt}
use Rattle.refactor_rename.proofs.PlaceEdits.{same_token}
use Rattle.refactor_rename.proofs.replacing.add_replacement.Goals as goal

pub returns-in-None : goal.returns-in-None
returns-in-None c = stays (λ e r. c.in-None.ensures r.token r.is_token r.begins)

pub returns-in_ok-push-in-Some : goal.returns-in_ok-push-in-Some
returns-in_ok-push-in-Some c =
    let e : Edit = record { span = c.in-Some.token.span; text = c.in_ok-text-in-Some.text } in
    subst (AppendsEdit (ReplacesAt c.args.tokens.now c.args.name.now c.args.offset) c.args.edits.now.items) (sym c.in_ok-push-in-Some.ensures.items)
    (grows e (record {
      token = c.in-Some.token;
      is_token = c.in-Some.ensures.0;
      is_name = c.is_identifier.ensures.0 c.if-is_identifier.true;
      begins = c.in-Some.ensures.1;
      is_edit = ap (λ text. record { span = c.in-Some.token.span; text = text }) c.in_ok-text-in-Some.ensures.cases;
    }))

pub returns-else-is_identifier : goal.returns-else-is_identifier
returns-else-is_identifier c = stays (λ e r.
    let same : r.token ≡ c.in-Some.token = same_token c.args.tokens.now c.requires r.token c.in-Some.token r.is_token c.in-Some.ensures.0
    (r.begins ∙ sym c.in-Some.ensures.1) in
    false≢true (sym c.if-is_identifier.false ∙ c.is_identifier.ensures.1 (ap (λ (t : Piece). t.class) (sym same) ∙ r.is_name)))
