-- The answers to the goals of `names::add_field`.
use Rattle.std.proofs.Common.{◌∷◌, [], ◌-◌, ◌++◌, ◌∙◌, ap, length}
use Rattle.go_ast.specs.View.{list_view}
use Rattle.go_ast.specs.FileView.{field_view, same_index}
use Rattle.build_object.specs.Names.{positions_from}
use Rattle.build_object.proofs.NameParts.{no_name, positions_within, positions_step, positions_end}
use Rattle.build_object.proofs.names.add_field.Goals as goal

pub loop-name-preserved : goal.loop-name-preserved
loop-name-preserved c =
    let added = c.in_ok-push.ensures.items
    ∙ ap (λ n. c.loop-name.positions.items ++ ((n - c.args.begin) ∷ [])) (c.len.ensures ∙ c.loop-name.positions.ok.0) in
    record {
      within = positions_within c.args.begin _ c.loop-name.positions.items c.push.new.self.items c.loop-name.invariant.within added;
      rest = positions_step same_index c.args.begin c.loop-name.positions.items _ c.deref-name-items.result.now c.loop-name._name-index
          c.push.new.self.items no_name c.loop-name.invariant.within c.loop-name-test.true c.loop-name.invariant.rest added;
    }

pub returns : goal.returns
unfolding field_view
returns c =
    positions_end same_index c.args.begin c.loop-name.positions.items _ c.deref-name-items.result.now c.loop-name._name-index c.loop-name-test.false
    c.loop-name.invariant.rest
    ∙ ap (λ xs. c.args.positions.now.items ++ positions_from (length c.args.positions.now.items - c.args.begin) (list_view same_index xs))
    c.deref-name-items.ensures.value
