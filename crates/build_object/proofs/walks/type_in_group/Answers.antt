-- One definition, or those in parentheses.
use Rattle.std.proofs.Common.{◌≡◌, ap, sym, ◌∙◌, arith, length, map}
use Rattle.std.specs.Prelude.{slice_get}
use Rattle.go_ast.specs.View.{group_view}
use Rattle.go_ast.specs.FileView.{type_spec_view}
use Rattle.types_declared.specs.Files.{group_items}
use Rattle.types_declared.specs.Package.{placed_type}
use Rattle.types_declared.proofs.DeclaredParts.{types_from}
use Rattle.build_object.proofs.Walking.{item_at, item_count}
use Rattle.build_object.proofs.walks.type_in_group.Goals as goal

pub returns-then-rank-count : goal.returns-then-rank-count
returns-then-rank-count c =
    let xs = c.in-Several.items.items in
    let all : c.len-count.result ≡ length xs = c.len-count.ensures ∙ c.in-Several.items.ok.0 in
    ap (λ l. slice_get l c.args.rank) (sym (types_from c.args.file c.args.group.now c.in-Several.«open» c.in-Several.items c.in-Several.close xs
    c.in-Several.is (λ i. xs)))
    ∙ item_at c.args.file xs c.args.rank c.index-item.result.now (omega (arith, all, c.if-rank-count.true)) c.index-item.ensures

pub returns-else-rank-count : goal.returns-else-rank-count
returns-else-rank-count c =
    let xs = c.in-Several.items.items in
    let all : c.len-count.result ≡ length xs = c.len-count.ensures ∙ c.in-Several.items.ok.0 in
    let same : length (map (placed_type c.args.file) (group_items (group_view type_spec_view c.args.group.now))) ≡ length xs =
    ap length (sym (types_from c.args.file c.args.group.now c.in-Several.«open» c.in-Several.items c.in-Several.close xs c.in-Several.is (λ i. xs)))
    ∙ item_count c.args.file xs in
    omega (arith, all, same, c.if-rank-count.false)
