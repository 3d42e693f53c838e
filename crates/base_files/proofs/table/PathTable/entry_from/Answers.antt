-- The entry of that number has the path and its value.
use Rattle.std.proofs.Common.{◌≡◌, get_or, Some, sym, subst, ap, ◌∙◌}
use Rattle.std.specs.FinMap.{find}
use Rattle.base_files.specs.Workspace.{path_cmp}
use Rattle.base_chunks.specs.Entries.{Rises}
use Rattle.base_chunks.proofs.Standing.{rises}
use Rattle.base_files.specs.Entries.{IsEntryNumber}
use Rattle.base_files.proofs.Standing.{number_path, number_value}
use Rattle.base_files.proofs.table.PathTable.entry_from.Goals as goal

pub number_from-requires : goal.number_from-requires
number_from-requires g c = subst (Rises path_cmp) (sym c.deref.ensures.value) (rises path_cmp c.self.inside.entries.items c.self.invariant)

pub returns : goal.returns
returns g c =
    let es = c.self.inside.entries.items in
    let n = c.in_ok-number.number in
    let d = c.index-entry.result.now in
    let is : IsEntryNumber c.args.path.now es n = subst (λ xs. IsEntryNumber c.args.path.now xs n) c.deref.ensures.value c.in_ok-number.ensures in
    let seen : es ≡ c.args.self.now = c.self.view_is in
    let at : d ≡ get_or es n d = c.index-entry.ensures in
    record {
      has_path = ap (λ e. e.0) at ∙ number_path c.args.path.now es n d is;
      has_value = ap (find path_cmp c.args.path.now) (sym seen) ∙ number_value c.args.path.now es n d is ∙ ap (λ e. Some e.1) (sym at);
    }
