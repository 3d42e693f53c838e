-- There is no file, and no package.
use Rattle.std.proofs.Common.{ap, length, sym, ◌∙◌}
use Rattle.std.specs.List.{list_any}
use Rattle.std.specs.Ordering.{eq_by_cmp}
use Rattle.base_files.specs.Packages.{package_paths}
use Rattle.base_files.specs.Workspace.{path_cmp}
use Rattle.workspace_graph.proofs.UpdatedPackages.{no_paths}
use Rattle.tool_disk.specs.Puts.{is_folder_of}
use Rattle.tool_disk.proofs.FolderSizes.{no_bytes, nothing_fits}
use Rattle.tool_disk.proofs.folder.FolderFiles.new.Goals as goal

pub invariant_of-result-2 : goal.invariant_of-result-2
invariant_of-result-2 c =
    let none = ap package_paths c.new.ensures ∙ no_paths in
    record {
      fitting = nothing_fits _ c.new.result c.new.ensures;
      summed = sym (no_bytes c.new.result c.new.ensures);
      counted = ap length c.new-2.ensures.items ∙ sym (ap length none);
      in_packages = λ q. ap (λ files. is_folder_of files q) c.new-2.ensures.items ∙ sym (ap (list_any (eq_by_cmp path_cmp q)) none);
    }
