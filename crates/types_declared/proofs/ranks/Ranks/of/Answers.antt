-- The answers to the goals of `ranks::Ranks::of`.
use Rattle.std.proofs.Common.{map, length, ◌∙◌, ap}
use Rattle.go_scope.specs.Packages.{layout_in}
use Rattle.types_declared.specs.Package.{variable_place, type_place, function_place}
use Rattle.types_declared.specs.DeclaredView.{variable_of, type_of, function_of}
use Rattle.types_declared.proofs.Ranking.{ranks_of_items}
use Rattle.types_declared.proofs.ranks.Ranks.of.Goals as goal

pub returns-clause-variables : goal.returns-clause-variables
returns-clause-variables c =
    ranks_of_items variable_place (map variable_of c.args.declared.now.variables.items) (layout_in c.args.table.now) (length c.args.table.now.sites) _
    c.in_ok-ranks_of.field-0.items
    (c.deref-4.ensures.value ∙ c.in_ok-variables.ensures ∙ ap (λ vs. map variable_place (map variable_of vs)) c.deref.ensures.value) c.in_ok-ranks_of.ensures

pub returns-clause-types : goal.returns-clause-types
returns-clause-types c =
    ranks_of_items type_place (map type_of c.args.declared.now.types.items) (layout_in c.args.table.now) (length c.args.table.now.sites) _
    c.in_ok-ranks_of-2.field-0.items
    (c.deref-5.ensures.value ∙ c.in_ok-types.ensures ∙ ap (λ ts. map type_place (map type_of ts)) c.deref-2.ensures.value) c.in_ok-ranks_of-2.ensures

pub returns-clause-functions : goal.returns-clause-functions
returns-clause-functions c =
    ranks_of_items function_place (map function_of c.args.declared.now.functions.items) (layout_in c.args.table.now) (length c.args.table.now.sites) _
    c.in_ok-ranks_of-3.field-0.items
    (c.deref-6.ensures.value ∙ c.in_ok-functions.ensures ∙ ap (λ fs. map function_place (map function_of fs)) c.deref-3.ensures.value)
    c.in_ok-ranks_of-3.ensures
