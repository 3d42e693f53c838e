-- The answers to the goals of `lookup::old_method`.
use Rattle.std.proofs.Common.{◌≡◌, List, ap, subst, sym, ◌∙◌}
use Rattle.std.specs.Prelude.{Contains, slice_get}
use Rattle.base_files.specs.Packages.{package_paths}
use Rattle.types_declared.specs.Package.{symbol_in}
use Rattle.types_expr.specs.declared.symbol.Symbol.{Symbol}
use Rattle.types_expr.specs.WorldView.{definition_or_none}
use Rattle.refactor_members.specs.Naming.{HasMethod, IsFirstOld}
use Rattle.refactor_members.specs.Renames.{workspace_before}
use Rattle.refactor_members.proofs.Faultless.{all_count}
use Rattle.refactor_members.proofs.OldMembers.{old_method_found, rank_of_method}
use Rattle.refactor_members.proofs.Renamed.{if_any}
use Rattle.refactor_members.proofs.lookup.old_method.Goals as goal

pub returns-in-None-clause-old : goal.returns-in-None-clause-old
returns-in-None-clause-old c = λ p is e.
    absurd (c.in-None.ensures.own (subst (Contains (package_paths (workspace_before c.args.m.now))) e is.of_workspace))

pub returns-in-Some-clause-old : goal.returns-in-Some-clause-old
returns-in-Some-clause-old c = λ p is e.
    let m = c.args.m.now in
    let s = c.args.of.now in
    let own = c.in-Some.own.now in
    let all = all_count (workspace_before m) m.workspace.now.findings c.has_no_faults.ensures p is in
    let same : symbol_in p s.rank ≡ s = ap (λ (q : List _). record { «package» = q; rank = s.rank }) e in
    subst (IsFirstOld (HasMethod p s.rank m.name.now))
    (ap (λ (t : Symbol). rank_of_method (definition_or_none t (slice_get own s.rank)) m.name.now) same ∙ sym c.method_among.ensures)
    (old_method_found p all m.name.now s.rank own (c.in-Some.ensures.own p is e))

pub returns-in-Some-clause-there : goal.returns-in-Some-clause-there
returns-in-Some-clause-there c = if_any c.method_among.result (Contains (package_paths (workspace_before c.args.m.now)) c.args.of.now.package)
    c.in-Some.ensures.there
