-- The answers to the goals of `qualified_abroad::add_spelled`.
use Rattle.std.proofs.Common.{map, sym, ◌∙◌}
use Rattle.std.specs.Prelude.{slice_get}
use Rattle.std.proofs.lemmas.Bool.{false≢true}
use Rattle.go_ast.specs.SourceFile.{source_of}
use Rattle.refs_binding.specs.Identifiers.{NameBegins}
use Rattle.refs_binding.proofs.Adding.{adds_none, call_adds}
use Rattle.refs_uses.specs.Abroad.{IsSpelledAt}
use Rattle.refs_uses.proofs.qualified_abroad.add_spelled.Goals as goal

pub returns-then-is_spelled : goal.returns-then-is_spelled
returns-then-is_spelled c =
    let files = map source_of c.args.files.now in
    let at = c.args.at in
    call_adds c.args.spots.now.items c.add_place.new.found.items
    (λ place. NameBegins (slice_get files at.file) at.index place.path place.offset) (IsSpelledAt files c.args.name.now at) c.add_place.result
    (λ place begins. (c.is_spelled.ensures.0 c.if-is_spelled.true, begins)) (λ place s. s.1) c.add_place.ensures

pub returns-else-is_spelled : goal.returns-else-is_spelled
returns-else-is_spelled c =
    adds_none c.args.spots.now.items (IsSpelledAt (map source_of c.args.files.now) c.args.name.now c.args.at)
    (λ place s. false≢true (sym c.if-is_spelled.false ∙ c.is_spelled.ensures.1 s.0))
