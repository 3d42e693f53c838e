-- The answers to the goals of `new_name::is_other`.
use Rattle.std.proofs.Common.{◌∙◌, ap}
use Rattle.go_scanner.specs.Keywords.{keyword_spelling}
use Rattle.refactor_rename.specs.NewName.{is_other_text}
use Rattle.refactor_rename.proofs.new_name.is_other.Goals as goal

pub returns : goal.returns
returns c = c.ne.ensures ∙ ap (λ x. is_other_text x c.as_bytes.result.now) c.spelling.ensures ∙
    ap (λ x. is_other_text (keyword_spelling c.args.k) x) c.as_bytes.ensures.value
