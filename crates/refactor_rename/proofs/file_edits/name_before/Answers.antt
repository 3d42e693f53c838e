-- The answers to the goals of `file_edits::name_before`.
use Rattle.std.proofs.Common.{◌≡◌, [], ◌∷◌, ◌++◌, sym, subst, ◌∙◌}
use Rattle.std.proofs.lemmas.Bool.{false≢true}
use Rattle.std.proofs.lemmas.Result.{IfOk-weaker}
use Rattle.go_ast.specs.SourceFile.{source_of}
use Rattle.refactor_rename.specs.Replacements.{IsNameBefore, apart, joined}
use Rattle.refactor_rename.proofs.file_edits.name_before.Goals as goal

pub returns-then-follows_import_word : goal.returns-then-follows_import_word
returns-then-follows_import_word c =
    let name = c.args.name.now in
    let is = IsNameBefore (source_of c.args.file.now) c.args.number name in
    IfOk-weaker c.spaced.result (λ text. text ≡ 32 ∷ [] ++ (name ++ 32 ∷ [])) is
    (λ text e. subst is (sym e) (joined (c.follows_import_word.ensures.0 c.if-follows_import_word.true))) c.spaced.ensures

pub returns-else-follows_import_word : goal.returns-else-follows_import_word
returns-else-follows_import_word c =
    let name = c.args.name.now in
    let is = IsNameBefore (source_of c.args.file.now) c.args.number name in
    IfOk-weaker c.spaced-else-follows_import_word.result (λ text. text ≡ name ++ 32 ∷ []) is
    (λ text e. subst is (sym e) (apart (λ h. false≢true (sym c.if-follows_import_word.false ∙ c.follows_import_word.ensures.1 h))))
    c.spaced-else-follows_import_word.ensures
