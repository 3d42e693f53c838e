-- The answers to the goals of `may_use::may_use_other`.
use Rattle.std.proofs.Common.{◌≡◌, ap, sym, subst, ◌∙◌}
use Rattle.std.specs.Prelude.{Some, slice_get}
use Rattle.base_files.specs.Packages.{package_paths}
use Rattle.go_scope.specs.Named.{name_value}
use Rattle.refs_binding.specs.declared.declaration.Declaration.TheVariants.{Declared}
use Rattle.refs_binding.specs.Binding.{UsesMemberAt}
use Rattle.refs_binding.specs.Steps.{BindsIn}
use Rattle.refs_binding.specs.Workspaces.{known_in, home_path}
use Rattle.refs_uses.proofs.MayUse.{some_named, used_behind, field_used, method_used}
use Rattle.refs_uses.proofs.may_use.may_use_other.Goals as goal

pub returns-then-is_some : goal.returns-then-is_some
returns-then-is_some c = λ place h.
    let path = c.in-Declared.field-0 in
    let d = c.in-Declared.field-1 in
    let name = name_value c.args.sought.now.name in
    let at : slice_get (package_paths c.args.workspace.now.graph) c.args.home ≡ Some path = c.requires.home ∙ ap home_path c.in-Declared.is in
    let used : BindsIn h.used_in (Declared path d) name h.is_use.0 = subst (λ e. BindsIn h.used_in e name h.is_use.0) c.in-Declared.is h.is_use.1.1 in
    (c.imports.ensures h.used_in.path h.is_package.has_number path at).1
    (used_behind c.args.workspace.now.graph (known_in c.args.workspace.now.findings) c.args.home c.args.number c.requires.other h.used_in h.is_package
    path d name h.is_use.0 at
    used).1

pub returns-else-is_some : goal.returns-else-is_some
returns-else-is_some c = λ place h.
    let path = c.in-Declared.field-0 in
    let d = c.in-Declared.field-1 in
    let name = name_value c.args.sought.now.name in
    let at : slice_get (package_paths c.args.workspace.now.graph) c.args.home ≡ Some path = c.requires.home ∙ ap home_path c.in-Declared.is in
    let used : BindsIn h.used_in (Declared path d) name h.is_use.0 = subst (λ e. BindsIn h.used_in e name h.is_use.0) c.in-Declared.is h.is_use.1.1 in
    let some = (used_behind c.args.workspace.now.graph (known_in c.args.workspace.now.findings) c.args.home c.args.number c.requires.other h.used_in
    h.is_package path d name
    h.is_use.0 at used).0 in
    c.is_some.ensures ∙ some_named c.args.sought.now.name some

pub returns-in-Field : goal.returns-in-Field
returns-in-Field c = λ place h.
    let w = c.args.workspace.now.graph in
    let s = c.in-Field.field-0 in
    let name = name_value c.args.sought.now.name in
    let at = c.requires.home ∙ ap home_path c.in-Field.is in
    let used = subst (λ e. BindsIn h.used_in e name h.is_use.0) c.in-Field.is h.is_use.1.1 in
    let place_of = h.used_in.layout.place h.is_use.0 in
    c.may_use_member.ensures h.used_in h.is_package place_of.file place_of.index
    (subst (λ d. UsesMemberAt h.used_in place_of.file place_of.index d) (sym c.in-Field.is)
    (field_used w (known_in c.args.workspace.now.findings) c.args.home c.args.number c.requires.other h.used_in h.is_package s name h.is_use.0 at used))

pub returns-in-Method : goal.returns-in-Method
returns-in-Method c = λ place h.
    let w = c.args.workspace.now.graph in
    let s = c.in-Method.field-0 in
    let name = name_value c.args.sought.now.name in
    let at = c.requires.home ∙ ap home_path c.in-Method.is in
    let used = subst (λ e. BindsIn h.used_in e name h.is_use.0) c.in-Method.is h.is_use.1.1 in
    let place_of = h.used_in.layout.place h.is_use.0 in
    c.may_use_member-in-Method.ensures h.used_in h.is_package place_of.file place_of.index
    (subst (λ d. UsesMemberAt h.used_in place_of.file place_of.index d) (sym c.in-Method.is)
    (method_used w (known_in c.args.workspace.now.findings) c.args.home c.args.number c.requires.other h.used_in h.is_package s name h.is_use.0 at used))
