-- The answers to the goals of `imports::add_import_decl`.
use Rattle.std.proofs.Common.{ℕ, ◌≡◌, List, [], ◌∷◌, ◌∙◌, ap, sym, refl, arith, map}
use Rattle.std.specs.List.{flat_map}
use Rattle.types_declared.proofs.ItemFaults.{each_as, each_one, each_next, each_all, call_one}
use Rattle.go_ast.specs.declared.tree.Item.{Item}
use Rattle.go_ast.specs.declared.tree.Group.{Group}
use Rattle.go_ast.specs.declared.tree.Group.TheVariants as group
use Rattle.go_ast.specs.View.{item_view, group_view}
use Rattle.go_ast.specs.FileView.{import_view, imports_view}
use Rattle.go_ast.specs.SourceFile.{source_of}
use Rattle.types_declared.specs.Files.{group_items}
use Rattle.types_declared.specs.States.{state_in}
use Rattle.types_resolve.specs.Imports.{IsFaultOfImport}
use Rattle.types_resolve.proofs.imports.add_import_decl.Goals as goal

items_from : {X Y Z : Type 0} (f : Y → Z) (v : X → Y) (xs : List (Item X)) →
    flat_map (λ x. f (v x.value) ∷ []) xs ≡ map f (map (λ x. x.value) (map (item_view v) xs))
items_from f v [] = refl
items_from f v (x ∷ xs) = ap (λ z. f (v x.value) ∷ z) (items_from f v xs)

several_from : {X Y Z : Type 0} (f : Y → Z) (v : X → Y) (g : Group X) (o : ℕ) (items : _) (c : ℕ) (xs : List (Item X)) → g ≡ group.Several o items c →
    xs ≡ items.items →
    flat_map (λ x. f (v x.value) ∷ []) xs ≡ map f (group_items (group_view v g))
unfolding group_view
several_from f v g o items c xs eg ex =
    ap (flat_map (λ x. f (v x.value) ∷ [])) ex ∙ items_from f v items.items ∙ ap (λ z. map f (group_items (group_view v z))) (sym eg)

pub loop-item-preserved : goal.loop-item-preserved
loop-item-preserved c =
    let Q = IsFaultOfImport (state_in c.args.states.now) in
    each_next Q c.args.found.now.items c.loop-item.found.items c.add_import-in-loop-item.new.found.items
    (λ x. ((c.args.rank, source_of c.args.file.now), import_view x.value) ∷ []) c.deref-item-items.result.now c.loop-item.item-index _ (omega arith)
    c.loop-item.invariant
    (each_one Q c.loop-item.found.items c.add_import-in-loop-item.new.found.items _ c.in_ok-add_import-in-Several.ensures)

pub returns-in-Single : goal.returns-in-Single
unfolding imports_view group_view
returns-in-Single c =
    call_one (IsFaultOfImport (state_in c.args.states.now)) c.args.found.now.items c.add_import.new.found.items
    ((c.args.rank, source_of c.args.file.now), import_view c.in-Single.spec) _
    c.add_import.result c.add_import.ensures (ap (λ v. map (λ i. ((c.args.rank, source_of c.args.file.now), i)) (group_items (group_view import_view v)))
    (sym c.in-Single.is))

pub returns-after-loop-item : goal.returns-after-loop-item
unfolding imports_view
returns-after-loop-item c =
    let Q = IsFaultOfImport (state_in c.args.states.now) in
    each_as Q c.args.found.now.items c.loop-item.found.items _ _
    (each_all Q c.args.found.now.items c.loop-item.found.items (λ x. ((c.args.rank, source_of c.args.file.now), import_view x.value) ∷ [])
    c.deref-item-items.result.now c.loop-item.item-index
    (omega arith) c.loop-item.invariant)
    (several_from (λ i. ((c.args.rank, source_of c.args.file.now), i)) import_view c.args.decl.now.group c.in-Several.«open» c.in-Several.items
    c.in-Several.close _ c.in-Several.is c.deref-item-items.ensures.value)
