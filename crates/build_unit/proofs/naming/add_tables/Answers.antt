-- The answers to the goals of `naming::add_tables`.
use Rattle.std.proofs.Common.{◌≡◌, inl, inr, map, Some, sym, ap, subst, ◌∙◌}
use Rattle.std.specs.FinMap.{find}
use Rattle.std.proofs.lemmas.Option.{same_Some}
use Rattle.std.proofs.lemmas.Result.{on_ok_weaker}
use Rattle.base_files.specs.Workspace.{path_cmp}
use Rattle.go_ast.specs.SourceFile.{source_of}
use Rattle.types_declared.proofs.ByteKeys.{cases_bytes}
use Rattle.base_files.proofs.Putting.{found_put, others_put}
use Rattle.build_object.specs.NamesView.{AreTablesOf}
use Rattle.build_unit.proofs.naming.add_tables.Goals as goal

-- they are of the path's package, or as before
pub returns-in_ok-made-in-Some : goal.returns-in_ok-made-in-Some
returns-in_ok-made-in-Some c = on_ok_weaker c.put.result (λ put. λ q n t named there.
    let old = c.args.tables.now in
    let names = c.args.names.now in
    let entry = c.in-Some.entry in
    let shared = c.in_ok-shared-in-Some.shared in
    let made = c.in_ok-made-in-Some.made in
    let key : shared ≡ c.args.path.now = c.in_ok-shared-in-Some.ensures.cases ∙ c.in-Some.ensures.has_path in
    elim (cases_bytes q shared) [
      | inl e ↦ (
          let is : made ≡ t = same_Some made t (sym (found_put shared made old) ∙ sym (ap (find path_cmp shared) put) ∙
          subst (λ x. find path_cmp x c.put.new.self ≡ Some t) e there) in
          let own : entry.value.now ≡ n = same_Some _ n (sym c.in-Some.ensures.has_value ∙ ap (λ x. find path_cmp x names) (sym key ∙ sym e) ∙ named) in
          subst (λ x. AreTablesOf (map source_of n.files.now) x) is
          (subst (λ x. AreTablesOf (map source_of x.files.now) made) own c.in_ok-made-in-Some.ensures))
      | inr ne ↦ c.requires q n t named (sym (others_put shared made old q ne) ∙ sym (ap (find path_cmp q) put) ∙ there)
    ]) c.put.ensures.ok
