-- The answers to the goals of `declared_places::places_of`.
use Rattle.std.proofs.Common.{refl, arith}
use Rattle.std.specs.Prelude.{map}
use Rattle.go_ast.specs.SourceFile.{source_of}
use Rattle.refs_places.proofs.Declared.{no_places, next_place, all_places}
use Rattle.refs_places.proofs.declared_places.places_of.Goals as goal

pub loop-at-init : goal.loop-at-init
loop-at-init c = no_places (map source_of c.args.files.now) c.args.positions.now c.new-places.result.items c.new-places.ensures.items

pub loop-at-preserved : goal.loop-at-preserved
loop-at-preserved c =
    next_place (map source_of c.args.files.now) c.args.positions.now c.loop-at.at-index c.loop-at.places.items c.push.new.self.items _
    c.in_ok-found_place.field-0 refl c.in_ok-push.ensures.items c.in_ok-found_place.ensures c.loop-at.invariant

pub returns : goal.returns
returns c = all_places (map source_of c.args.files.now) c.args.positions.now c.loop-at.at-index c.loop-at.places.items (omega arith) (omega arith)
    c.loop-at.invariant
