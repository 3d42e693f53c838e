-- The answers to the goals of `qualified_abroad::add_listed`.
use Rattle.std.proofs.Common.{map, sym, subst, ◌∙◌}
use Rattle.std.specs.Prelude.{OnOk}
use Rattle.std.proofs.lemmas.Bool.{false≢true}
use Rattle.go_ast.specs.SourceFile.{source_of}
use Rattle.refs_binding.specs.Steps.{AddsPlaces}
use Rattle.refs_binding.proofs.Adding.{adds_none, call_adds}
use Rattle.refs_uses.specs.Abroad.{IsSpelledAmong, IsSpelledUnder}
use Rattle.refs_uses.proofs.qualified_abroad.add_listed.Goals as goal

pub returns-then-is_of_path : goal.returns-then-is_of_path
returns-then-is_of_path c =
    let files = map source_of c.args.files.now in
    let name = c.args.name.now in
    let list = c.args.list.now in
    let a = c.args.spots.now.items in
    let b = c.add_all_spelled.new.spots.items in
    let r = c.add_all_spelled.result in
    call_adds a b (IsSpelledAmong files name list.places.items) (IsSpelledUnder files name c.args.path.now list) r
    (λ place s. (c.is_of_path.ensures.0 c.if-is_of_path.true, s)) (λ place s. s.1)
    (subst (λ ps. OnOk r (AddsPlaces a b (IsSpelledAmong files name ps))) c.deref.ensures.value c.add_all_spelled.ensures)

pub returns-else-is_of_path : goal.returns-else-is_of_path
returns-else-is_of_path c =
    adds_none c.args.spots.now.items (IsSpelledUnder (map source_of c.args.files.now) c.args.name.now c.args.path.now c.args.list.now)
    (λ place s. false≢true (sym c.if-is_of_path.false ∙ c.is_of_path.ensures.1 s.0))
