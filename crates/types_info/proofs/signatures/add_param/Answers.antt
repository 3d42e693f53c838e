-- The answers to the goals of `signatures::add_param`.
use Rattle.std.proofs.Common.{arith}
use Rattle.std.specs.Prelude.{None}
use Rattle.go_ast.specs.declared.tree.Item.{Item}
use Rattle.go_ast.specs.declared.tree.Ident.{Ident}
use Rattle.go_ast.specs.declared.tree.Ident.TheVariants as ident
use Rattle.types_info.specs.SignatureView.{tree_of}
use Rattle.types_declared.proofs.Appending.{appends_as, appends_all, appends_step, appends_one}
use Rattle.types_info.proofs.SignatureParts.{ident_part, param_from}
use Rattle.types_info.proofs.signatures.add_param.Goals as goal

no_name : Item Ident
no_name = record { value = ident.Named 0; separator = None }

pub loop-name-preserved : goal.loop-name-preserved
loop-name-preserved c =
    appends_step tree_of c.args.found.now.items c.loop-name.found.items c.push.new.self.items (ident_part c.args.param.now.param_type)
    c.deref-name-items.result.now c.loop-name._name-index no_name (omega arith)
    c.loop-name.invariant (appends_one tree_of c.loop-name.found.items c.push.new.self.items _ c.in_ok-push.ensures.items)

pub returns : goal.returns
returns c =
    appends_as tree_of c.args.found.now.items c.loop-name.found.items _ _
    (appends_all tree_of c.args.found.now.items c.loop-name.found.items (ident_part c.args.param.now.param_type) c.deref-name-items.result.now
    c.loop-name._name-index (omega arith) c.loop-name.invariant)
    (param_from c.args.param.now c.deref-name-items.result.now c.deref-name-items.ensures.value)
