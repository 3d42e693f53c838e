-- The answers to the goals of `struct_fields::fields_of`.
use Rattle.std.proofs.Common.{◌<◌, length, arith, subst, sym, map, ◌∙◌}
use Rattle.std.specs.List.{enumerate_from}
use Rattle.go_ast.specs.FileView.{type_spec_view}
use Rattle.types_declared.specs.DeclaredView.{type_of}
use Rattle.types_members.specs.FieldsView.{field_of}
use Rattle.types_declared.proofs.Appending.{appends_next, appends_all, next_ranked, short_ranked, from_none}
use Rattle.types_members.proofs.FieldParts.{ranked_part, ranked_fields}
use Rattle.types_members.proofs.struct_fields.fields_of.Goals as goal

pub loop-rank-preserved : goal.loop-rank-preserved
unfolding type_spec_view
loop-rank-preserved c =
    let types = c.args.types.now in
    let rank = c.loop-rank.rank in
    let here : rank < length types = omega arith in
    let within : rank < length (enumerate_from 0 (map type_of types)) = subst (λ n. rank < n) (sym (short_ranked type_of types)) here in
    appends_next field_of _ c.loop-rank.found.items c.add_fields.new.found.items ranked_part (enumerate_from 0 (map type_of types)) rank
    (rank, type_of c.index-types-rank.result) within
    (next_ranked type_of types rank c.index-types-rank.result here c.index-types-rank.is) c.loop-rank.invariant c.in_ok-add_fields.ensures

pub returns : goal.returns
returns c =
    let types = c.args.types.now in
    from_none field_of c.new-found.result.items c.loop-rank.found.items _ c.new-found.ensures.items
    (appends_all field_of _ c.loop-rank.found.items ranked_part (enumerate_from 0 (map type_of types)) c.loop-rank.rank
    (omega (arith, short_ranked type_of types)) c.loop-rank.invariant)
    ∙ ranked_fields 0 (map type_of types)
