-- The answers to the goals of `judged_uses::judge_called`.
use Rattle.std.proofs.Common.{List, subst}
use Rattle.std.specs.Prelude.{None, slice_get}
use Rattle.std.proofs.lemmas.Result.{on_ok_weaker}
use Rattle.base_files.specs.declared.place.Place.{Place}
use Rattle.go_ast.specs.SourceFile.{SourceFile}
use Rattle.types_expr.specs.Found.{use_of}
use Rattle.types_expr.specs.WorldView.{member_of}
use Rattle.workspace_check.proofs.OnePackage.{layout_formed}
use Rattle.refs_binding.specs.Binding.{declaration_of}
use Rattle.refs_binding.specs.Identifiers.{NameBegins}
use Rattle.refs_binding.specs.Members.{definitions_known}
use Rattle.refs_binding.proofs.Tokens.{begins_token}
use Rattle.refs_places.specs.DeclaredPlaces.{IsChoice}
use Rattle.refs_uses.proofs.NameTokens.{name_at_token}
use Rattle.refactor_conflict.specs.Conflicts.{IsMemberConflict, UseStays}
use Rattle.refactor_members.specs.Renames.{by, packages_before, rename_revision, verdicts_in, workspace_before}
use Rattle.refactor_members.proofs.Judged.{judged_none}
use Rattle.refactor_members.proofs.UsesStay.{called_judged, called_there}
use Rattle.refactor_members.proofs.judged_uses.judge_called.Goals as goal

pub returns-in-None : goal.returns-in-None
returns-in-None c = λ edits p k was one stake.
    let m = by c.args.m.now edits in
    let x = use_of c.args.found.now in
    let ds = definitions_known c.args.of.now.types in
    let Told : List SourceFile → Type 0 = λ fs. IsChoice (λ (place : Place). NameBegins (slice_get fs c.args.file) x.place place.path place.offset) None in
    let none : Told p.files = subst Told k.files (subst (IsChoice _) c.in-None.is c.in_ok-name_beginning.ensures) in
    judged_none m (IsMemberConflict (packages_before m.of) (rename_revision m) ds p c.args.file x) (UseStays (packages_before m.of) (rename_revision m) ds p
    c.args.file x)
    c.args.first.now
    (λ knows place old used. absurd (none place (begins_token p (record { file = c.args.file; index = x.place }) place used.at)))

pub returns-in-Some : goal.returns-in-Some
returns-in-Some c =
    on_ok_weaker c.note_use.result (λ h edits p k was one stake.
    let m = by c.args.m.now edits in
    let x = use_of c.args.found.now in
    let ds = definitions_known c.args.of.now.types in
    let place = c.in-Some.place in
    let Told : List SourceFile → Type 0 = λ fs. NameBegins (slice_get fs c.args.file) x.place place.path place.offset in
    let begins : Told p.files = subst Told k.files (subst (IsChoice _) c.in-Some.is c.in_ok-name_beginning.ensures) in
    let w = workspace_before m.of in
    let known = verdicts_in m.of in
    let checked = k.is_package.is_checked in
    let at = name_at_token w known p.path p checked (record { file = c.args.file; index = x.place }) place begins in
    called_judged m p k.is_package (layout_formed w known p.path p checked) ds k.definitions c.args.file x c.args.of.now.types.path.now k.path place at
    (λ knows. called_there m p k.is_package (layout_formed w known p.path p checked) ds k.definitions c.args.file x knows one place at
    (declaration_of (member_of c.args.old)) was stake) (declaration_of (member_of c.args.old)) was c.args.first.now
    c.note_use.new.first (h edits)) c.note_use.ensures
