-- The answers to the goals of `member_name::name_at_home`.
use Rattle.std.proofs.Common.{◌≡◌, ap, sym, subst, ◌∙◌}
use Rattle.std.specs.Prelude.{Some, slice_get}
use Rattle.std.proofs.lemmas.Option.{same_Some, slice_get_within}
use Rattle.base_files.specs.Packages.{package_paths}
use Rattle.refs_binding.specs.Workspaces.{known_in, home_path}
use Rattle.refs_binding.proofs.PackageNumbers.{package_there}
use Rattle.refs_uses.specs.MemberNames.{NamesField, NamesMethod, HasOneOf, IsOnlyName}
use Rattle.refs_uses.proofs.MemberNames.{found_name, field_named, method_named}
use Rattle.refs_uses.proofs.member_name.name_at_home.Goals as goal

pub own_of-requires : goal.own_of-requires
own_of-requires c =
    slice_get_within (package_paths c.args.workspace.now.graph) c.args.home c.in-Field.symbol.package (c.requires ∙ ap home_path c.in-Field.is)

pub own_of-requires-in-Method : goal.own_of-requires-in-Method
own_of-requires-in-Method c =
    slice_get_within (package_paths c.args.workspace.now.graph) c.args.home c.in-Method.symbol.package (c.requires ∙ ap home_path c.in-Method.is)

pub returns-in-Field : goal.returns-in-Field
returns-in-Field c = λ name found p is.
    let w = c.args.workspace.now.graph in
    let s = c.in-Field.symbol in
    let at : slice_get (package_paths w) c.args.home ≡ Some s.package = c.requires ∙ ap home_path c.in-Field.is in
    let there = package_there w c.args.workspace.now.findings c.has_no_faults.ensures c.args.home (slice_get_within (package_paths w) c.args.home s.package
    at) in
    subst (λ d. IsOnlyName p d name) (sym c.in-Field.is)
    (field_named w (known_in c.args.workspace.now.findings) c.has_no_faults.ensures.findings.right there.0 there.1.is_package c.own_of.result.now
    (c.own_of.ensures there.0 there.1) s (same_Some s.package there.0.path (sym at ∙ there.1.has_number)) name
    (found_name (λ n. HasOneOf c.own_of.result.now (λ d. NamesField d s.rank n)) c.field_among.result name c.field_among.ensures found) p is)

pub returns-in-Method : goal.returns-in-Method
returns-in-Method c = λ name found p is.
    let w = c.args.workspace.now.graph in
    let s = c.in-Method.symbol in
    let at : slice_get (package_paths w) c.args.home ≡ Some s.package = c.requires ∙ ap home_path c.in-Method.is in
    let there = package_there w c.args.workspace.now.findings c.has_no_faults.ensures c.args.home (slice_get_within (package_paths w) c.args.home s.package
    at) in
    subst (λ d. IsOnlyName p d name) (sym c.in-Method.is)
    (method_named w (known_in c.args.workspace.now.findings) c.has_no_faults.ensures.findings.right there.0 there.1.is_package c.own_of-in-Method.result.now
    (c.own_of-in-Method.ensures there.0 there.1) s (same_Some s.package there.0.path (sym at ∙ there.1.has_number)) name
    (found_name (λ n. HasOneOf c.own_of-in-Method.result.now (λ d. NamesMethod d s.rank n)) c.method_among.result name c.method_among.ensures found) p is)
