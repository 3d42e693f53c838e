-- The answers to the goals of `names::add_asked`.
use Rattle.std.proofs.Common.{◌≡◌, ◌∷◌, [], ◌-◌, ◌++◌, ◌∙◌, ap, arith, length}
use Rattle.go_ast.specs.View.{list_view}
use Rattle.go_ast.specs.FileView.{method_view}
use Rattle.build_object.specs.Names.{positions_from}
use Rattle.build_object.proofs.NameParts.{positions_within, positions_step, positions_end}
use Rattle.build_object.proofs.names.add_asked.Goals as goal

pub loop-method-preserved : goal.loop-method-preserved
loop-method-preserved c =
    let added = c.in_ok-push.ensures.items
    ∙ ap (λ n. c.loop-method.positions.items ++ ((n - c.len-begin.result) ∷ [])) (c.len.ensures ∙ c.loop-method.positions.ok.0) in
    record {
      within = positions_within c.len-begin.result _ c.loop-method.positions.items c.push.new.self.items c.loop-method.invariant.within added;
      rest = positions_step method_view c.len-begin.result c.loop-method.positions.items _ c.args.methods.now c.loop-method._method-index
          c.push.new.self.items c._method-item.result c.loop-method.invariant.within c.loop-method-test.true c.loop-method.invariant.rest added;
    }

pub returns : goal.returns
returns c =
    let none : length c.args.positions.now.items - c.len-begin.result ≡ 0 = omega (arith, c.len-begin.ensures, c.args.positions.now.ok.0) in
    positions_end method_view c.len-begin.result c.loop-method.positions.items _ c.args.methods.now c.loop-method._method-index c.loop-method-test.false
    c.loop-method.invariant.rest
    ∙ ap (λ k. c.args.positions.now.items ++ positions_from k (list_view method_view c.args.methods.now)) none
