-- The answers to the goals of `places::name_beginning`.
use Rattle.std.proofs.Common.{length}
use Rattle.std.specs.Prelude.{Some, map, slice_get}
use Rattle.std.proofs.lemmas.Result.{IfOk-weaker}
use Rattle.base_lemmas.proofs.Tests.{not_below}
use Rattle.base_files.specs.declared.place.Place.{Place}
use Rattle.go_ast.specs.SourceFile.{source_of}
use Rattle.refs_binding.specs.Identifiers.{NameBegins}
use Rattle.refs_places.specs.DeclaredPlaces.{IsChoice}
use Rattle.refs_places.proofs.Starts.{no_name, name_at}
use Rattle.refs_places.proofs.places.name_beginning.Goals as goal

pub returns-in-None : goal.returns-in-None
returns-in-None c =
    no_name c.args.files.now c.args.at.file c.args.at.index (not_below c.args.at.file (length c.args.files.now) c.in-None.ensures.lookup.2)

pub returns-in-Some : goal.returns-in-Some
returns-in-Some c =
    let files = c.args.files.now in
    let f = c.in-Some.file.now in
    let k = c.args.at.file in
    let token = c.args.at.index in
    IfOk-weaker c.name_in.result (IsChoice (λ (place : Place). NameBegins (Some (source_of f)) token place.path place.offset))
    (IsChoice (λ (place : Place). NameBegins (slice_get (map source_of files) k) token place.path place.offset))
    (λ o h. name_at files k token f o c.in-Some.ensures.lookup.3.0 c.in-Some.ensures.lookup.1 h) c.name_in.ensures
