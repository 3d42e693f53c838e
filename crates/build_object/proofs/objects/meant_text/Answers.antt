-- The answers to the goals of `objects::meant_text`.
use Rattle.std.proofs.Common.{sym, subst}
use Rattle.std.proofs.lemmas.List.{length-map}
use Rattle.go_ast.specs.SourceFile.{source_of}
use Rattle.types_declared.specs.PackageView.{package_of}
use Rattle.build_object.specs.ObjectSteps.{PrintsFiles, PrintsHead}
use Rattle.build_object.specs.Sources.{IsObjectText}
use Rattle.build_object.proofs.Whole.{whole_text}
use Rattle.build_object.proofs.objects.meant_text.Goals as goal

pub returns : goal.returns
returns c =
    let o = c.args.origin in
    let p = package_of c.args.origin.unit in
    let head = subst (λ old. PrintsHead p old c.push_head.new.text.items) c.new-text.ensures.items c.in_ok-push_head.ensures in
    let all = subst (λ n. PrintsFiles p n o.members.now o.enterings.now o.packages.now o.names.now c.in_ok-push_files.field-0 c.push_head.new.text.items
    c.push_files.new.text.items) (sym (length-map o.unit.files.now source_of)) c.in_ok-push_files.ensures in
    λ files_of uses enter have. subst (IsObjectText p files_of) (sym c.shrink_to_fit.ensures.items)
    (whole_text p o.members.now o.enterings.now o.packages.now o.names.now c.in_ok-push_files.field-0 c.push_head.new.text.items c.push_files.new.text.items
    c.requires.names
    head all files_of uses enter have)
