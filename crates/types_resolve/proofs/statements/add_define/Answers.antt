-- The answers to the goals of `statements::add_define`.
use Rattle.std.proofs.Common.{◌≡◌, [], ◌∷◌, refl, IsTrue}
use Rattle.base_files.specs.declared.fault_kind.FaultKind.TheVariants as kind
use Rattle.types_declared.proofs.Listings.{call_adds, make}
use Rattle.types_declared.proofs.ItemFaults.{call_one}
use Rattle.go_ast.specs.View.{exprs_view}
use Rattle.types_declared.specs.Laid.{laid_in}
use Rattle.types_resolve.specs.StatementMarks.{StatementMark, Defines, IsFaultOfMark}
use Rattle.types_resolve.proofs.statements.add_define.Goals as goal

pub returns : goal.returns
returns c =
    let Q = IsFaultOfMark (laid_in c.args.scope.table.now) c.args.scope.rank in
    let x : StatementMark = Defines (exprs_view c.args.left.now) c.args.at in
    call_one Q c.args.found.now.items c.push_if.new.found.items x (x ∷ []) c.push_if.result
    (call_adds c.args.found.now.items c.push_if.new.found.items (λ f. IsTrue c.is_old.result × (f ≡ make c.args.scope.rank c.args.at kind.NoNew)) (Q x)
    c.push_if.result c.push_if.ensures
    (λ f h. (h.1, c.is_old.ensures.0 h.0)) (λ f h. (c.is_old.ensures.1 h.1, h.0)))
    refl
