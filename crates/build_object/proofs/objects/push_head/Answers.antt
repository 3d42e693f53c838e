-- The answers to the goals of `objects::push_head`.
use Rattle.std.proofs.Common.{sym, ◌∙◌, refl}
use Rattle.types_declared.specs.PackageView.{package_of}
use Rattle.build_object.proofs.Whole.{head_put, on_ok_both}
use Rattle.build_object.proofs.objects.push_head.Goals as goal

pub returns : goal.returns
returns c = on_ok_both c.push_imports.result (λ lines sorted.
    head_put (package_of c.args.unit) c.args.unit.files.now c.in_ok-paths.paths.keys c.args.text.now.items c.push_first_line.new.text.items
    c.push_imports.new.text.items refl c.in_ok-paths.ensures sorted
    (λ o path name. c.in_ok-push_first_line.ensures o (path ∙ sym c.path.ensures) (name ∙ sym c.package_name.ensures)) lines)
    c.push_imports.ensures.lines c.push_imports.ensures.sorted
