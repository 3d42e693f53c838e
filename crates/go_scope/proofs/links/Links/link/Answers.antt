-- The answers to the goals of `links::Links::link`.
use Rattle.std.proofs.Common.{◌++◌, ◌∷◌, [], length, ap, ◌∙◌}
use Rattle.go_scope.specs.Numbering.{numerals}
use Rattle.go_scope.specs.Table.{layout_of}
use Rattle.go_scope.proofs.Linking.{linked_next, near_next}
use Rattle.go_scope.proofs.links.Links.link.Goals as goal

pub returns : goal.returns
returns c =
    let xs = c.args.identifiers.now in
    let l = layout_of xs in
    let names = numerals c.args.names.now in
    let old = c.args.self.now in
    let next = c.in_ok-next.next in
    let more = c.in_ok-push.ensures.items ∙ ap (λ v. v.items ++ (next ∷ [])) c.place.ensures.around in
    record {
      outer = c.in_ok-next.ensures.outer;
      lasts = c.in_ok-next.ensures.lasts;
      linked = linked_next l (length xs) names c.args.d old.around.items c.push.new.self.items next more c.in_ok-next.ensures.before c.requires.linked.linked;
      near = near_next l names c.args.d old.around.items c.push.new.self.items next c.requires.linked.linked.sized more c.in_ok-next.ensures.near
          c.requires.linked.near;
    }
