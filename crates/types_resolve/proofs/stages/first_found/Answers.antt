-- The answers to the goals of `stages::first_found`.
use Rattle.std.proofs.Common.{◌≡◌, ◌∙◌, [], subst, sym, map}
use Rattle.types_declared.specs.Listing.{AddsFaults, HoldsExactly}
use Rattle.types_declared.proofs.Listings.{is_false}
use Rattle.types_declared.proofs.Stages.{first_listed, later_listed}
use Rattle.go_ast.specs.SourceFile.{source_of}
use Rattle.types_resolve.specs.Clauses.{IsClauseFault}
use Rattle.types_resolve.specs.Imports.{IsImportFault}
use Rattle.types_declared.specs.States.{state_in}
use Rattle.types_resolve.specs.Stages.{IsOuterFault}
use Rattle.types_resolve.proofs.stages.first_found.Goals as goal
use Rattle.types_resolve.proofs.stages.first_found.Goals.{then-has_none+in_ok-add_imports, else-has_none}

pub returns : goal.returns
returns c =
    let fs = map source_of c.args.files.now in
    let P = IsClauseFault fs in
    let Q = IsImportFault (state_in c.args.states.now) fs in
    let a = c.add_clauses.new.found.items in
    let h = subst (λ z. AddsFaults z a P) c.new-found.ensures.items c.in_ok-add_clauses.ensures in
    elim c.if-has_none.branch [
      | then-has_none+in_ok-add_imports w ↦ subst (λ v. HoldsExactly (IsOuterFault (state_in c.args.states.now) fs) v.items) (sym w.found-is)
          (later_listed P Q a w.add_imports.new.found.items h (sym c.as_slice.ensures.value ∙ c.has_none.ensures.0 w.if-has_none.true)
          w.in_ok-add_imports.ensures)
      | else-has_none w ↦ subst (λ v. HoldsExactly (IsOuterFault (state_in c.args.states.now) fs) v.items) (sym w.found-is)
          (first_listed P Q a h (λ e. is_false (c.as_slice.result.now ≡ []) c.has_none.result c.has_none.ensures w.if-has_none.false
          (c.as_slice.ensures.value ∙ e)))
    ]
