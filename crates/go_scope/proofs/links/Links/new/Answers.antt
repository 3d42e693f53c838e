-- The answers to the goals of `links::Links::new`.
use Rattle.std.proofs.Common.{rules, length}
use Rattle.go_scope.specs.Numbering.{numerals}
use Rattle.go_scope.specs.Table.{layout_of}
use Rattle.go_scope.proofs.Linking.{outer_none, lasts_none, linked_none, near_none}
use Rattle.go_scope.proofs.links.Links.new.Goals as goal

pub returns : goal.returns
returns c = λ numbers.
    let l = layout_of c.args.identifiers.now in
    let n = length c.args.identifiers.now in
    record {
      outer = outer_none l (numerals numbers) c.in_ok-outer.outer (λ key. search rules);
      lasts = lasts_none l n (numerals numbers) c.in_ok-last.last.items (c.in_ok-last.ensures.items_if_clones_equal (search rules));
      linked = linked_none l n (numerals numbers) c.in_ok-around.around.items c.in_ok-around.ensures.items;
      near = near_none l (numerals numbers) c.in_ok-around.around.items;
    }
