-- The answers to the goals of `sources::source`.
use Rattle.std.proofs.Common.{◌∙◌, ap, map, refl, subst, sym}
use Rattle.std.specs.List.{flat_map}
use Rattle.go_ast.specs.SourceFile.{source_of}
use Rattle.types_declared.proofs.PathParts.{source_at}
use Rattle.types_declared.specs.DeclaredView.{type_of as placed}
use Rattle.std.proofs.lemmas.Option.{same_Some}
use Rattle.types_expr.specs.declared.found.Entering.{Entering}
use Rattle.types_expr.specs.declared.found.MemberUse.{MemberUse}
use Rattle.build_object.specs.declared.source.NamedMethod.{NamedMethod}
use Rattle.build_object.specs.Names.{asked_if}
use Rattle.build_object.specs.TablesView.{AreTexts}
use Rattle.build_object.proofs.sources.source.Goals as goal

pub returns : goal.returns
returns c =
    let x = c.index-files-file.result in
    let own = c.args.origin.unit in
    let files = map source_of own.files.now in
    let at = source_at own.files.now c.args.file x c.requires.in_range c.index-files-file.is in
    record {
      world = refl;
      uses = c.list_at-uses.ensures;
      used = c.in_ok-used.ensures ∙ ap (map (λ (u : MemberUse). u.place)) c.list_at-uses.ensures;
      enterings = c.list_at-enterings.ensures;
      entered = c.in_ok-entered.ensures ∙ ap (map (λ (e : Entering). e.place)) c.list_at-enterings.ensures;
      asked = c.in_ok-asked.ensures
          ∙ (ap (λ q. flat_map (asked_if q files c.args.file) (map placed c.as_slice-types.result.now)) c.path.ensures
          ∙ ap (flat_map (asked_if own.path.now files c.args.file)) (ap (map placed) c.as_slice-types.ensures.value ∙ c.requires.index.types));
      asked_at = c.in_ok-asked_at.ensures ∙ ap (map (λ (a : NamedMethod). a.place)) c.deref.ensures.value;
      marks = c.in_ok-marks.ensures;
      texts = λ f is. subst (λ g. AreTexts g c.in_ok-texts.texts.items) (same_Some _ _ (sym at ∙ is)) c.in_ok-texts.ensures;
      packages = refl;
    }
