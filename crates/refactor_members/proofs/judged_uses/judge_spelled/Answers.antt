-- The answers to the goals of `judged_uses::judge_spelled`.
use Rattle.std.proofs.Common.{List, ℕ, ◌⊎◌, ap, subst, sym, ◌∙◌, ◌≡◌}
use Rattle.std.proofs.lemmas.Bool.{false≢true}
use Rattle.std.proofs.lemmas.Option.{same_Some}
use Rattle.std.specs.Prelude.{Some, None, option_map, slice_get, Contains}
use Rattle.std.proofs.lemmas.Result.{on_ok_weaker}
use Rattle.go_ast.specs.SourceFile.{SourceFile}
use Rattle.types_expr.specs.Found.{use_of}
use Rattle.types_expr.specs.World.{member_by}
use Rattle.types_expr.specs.WorldView.{member_of, token_spelling}
use Rattle.types_declared.specs.Package.{spelled_at}
use Rattle.workspace_check.proofs.OnePackage.{layout_formed}
use Rattle.refs_binding.specs.declared.declaration.Declaration.{Declaration}
use Rattle.refs_binding.specs.Binding.{declaration_of}
use Rattle.refs_binding.specs.Members.{definitions_known, member_at}
use Rattle.refactor_conflict.specs.Conflicts.{IsMemberConflict, UseStays}
use Rattle.refactor_conflict.proofs.MembersStay.{no_use_stays}
use Rattle.refactor_conflict.proofs.KeepingFirst.{takes_none}
use Rattle.refactor_members.specs.Renames.{by, renamed_members, packages_before, rename_revision, verdicts_in, workspace_before}
use Rattle.refactor_members.proofs.Judged.{judged_none}
use Rattle.refactor_members.proofs.UsesStay.{other_stays}
use Rattle.refactor_members.proofs.judged_uses.judge_spelled.Goals as goal

pub returns-in-None : goal.returns-in-None
returns-in-None c = λ edits p k one knows.
    let m = by c.args.m.now edits in
    let x = use_of c.args.found.now in
    let types = c.args.of.now.types in
    let ds = definitions_known types in
    let By : List ℕ → List ℕ → Type 0 = λ path name. option_map declaration_of (member_by ds path name x.before) ≡ None in
    let same : token_spelling (slice_get c.as_slice.result.now 0) ≡ c.args.spelling.now = search in
    let so : By types.path.now c.args.spelling.now = subst (By types.path.now) same (ap (option_map declaration_of) (sym c.in-None.ensures)) in
    let was : member_at ds p c.args.file x.place x.before ≡ None =
    subst (λ path. By path (spelled_at (slice_get p.files c.args.file) x.place)) k.path
    (subst (By types.path.now) (c.requires ∙ ap (λ fs. spelled_at (slice_get fs c.args.file) x.place) k.files) so) in (
      takes_none (IsMemberConflict (packages_before m.of) (rename_revision m) ds p c.args.file x) c.args.first.now,
      no_use_stays (packages_before m.of) (rename_revision m) ds p c.args.file x c.args.first.now was,
    )

pub returns-then-is_called : goal.returns-then-is_called
returns-then-is_called c =
    let x = use_of c.args.found.now in
    let types = c.args.of.now.types in
    let ds = definitions_known types in
    let d = declaration_of (member_of c.in-Some.old) in
    let By : List ℕ → List ℕ → Type 0 = λ path name. option_map declaration_of (member_by ds path name x.before) ≡ Some d in
    let same : token_spelling (slice_get c.as_slice.result.now 0) ≡ c.args.spelling.now = search in
    let so : By types.path.now c.args.spelling.now = subst (By types.path.now) same (ap (option_map declaration_of) (sym c.in-Some.ensures)) in
    on_ok_weaker c.judge_called.result (λ h edits p k one.
    let spelling : c.args.spelling.now ≡ spelled_at (slice_get p.files c.args.file) x.place =
    c.requires ∙ ap (λ (fs : List SourceFile). spelled_at (slice_get fs c.args.file) x.place) k.files in
    let was : member_at ds p c.args.file x.place x.before ≡ Some d =
    subst (λ path. By path (spelled_at (slice_get p.files c.args.file) x.place)) k.path (subst (By types.path.now) spelling so) in
    h edits p k was one
    (subst (λ n. Contains (renamed_members c.args.m.now) d ⊎ (n ≡ c.args.m.now.name.now)) spelling (c.is_called.ensures.0 c.if-is_called.true)))
    c.judge_called.ensures

pub returns-else-is_called : goal.returns-else-is_called
returns-else-is_called c = λ edits p k one.
    let m = by c.args.m.now edits in
    let x = use_of c.args.found.now in
    let types = c.args.of.now.types in
    let ds = definitions_known types in
    let d = declaration_of (member_of c.in-Some.old) in
    let By : List ℕ → List ℕ → Type 0 = λ path name. option_map declaration_of (member_by ds path name x.before) ≡ Some d in
    let same : token_spelling (slice_get c.as_slice.result.now 0) ≡ c.args.spelling.now = search in
    let so : By types.path.now c.args.spelling.now = subst (By types.path.now) same (ap (option_map declaration_of) (sym c.in-Some.ensures)) in
    let spelling : c.args.spelling.now ≡ spelled_at (slice_get p.files c.args.file) x.place =
    c.requires ∙ ap (λ (fs : List SourceFile). spelled_at (slice_get fs c.args.file) x.place) k.files in
    let was : member_at ds p c.args.file x.place x.before ≡ Some d =
    subst (λ path. By path (spelled_at (slice_get p.files c.args.file) x.place)) k.path (subst (By types.path.now) spelling so) in
    let not : Contains (renamed_members c.args.m.now) d ⊎ (spelled_at (slice_get p.files c.args.file) x.place ≡ c.args.m.now.name.now) → ⊥ =
    subst (λ n. Contains (renamed_members c.args.m.now) d ⊎ (n ≡ c.args.m.now.name.now) → ⊥) spelling
    (λ stake. false≢true (sym c.if-is_called.false ∙ c.is_called.ensures.1 stake)) in
    judged_none m (IsMemberConflict (packages_before m.of) (rename_revision m) ds p c.args.file x) (UseStays (packages_before m.of) (rename_revision m) ds p
    c.args.file x)
    c.args.first.now
    (λ knows place. other_stays m p k.is_package (layout_formed (workspace_before m.of) (verdicts_in m.of) p.path p k.is_package.is_checked) ds k.definitions
    c.args.file x knows one place
    (λ e is. subst (λ (y : Declaration). Contains (renamed_members c.args.m.now) y ⊎ (spelled_at (slice_get p.files c.args.file) x.place ≡
    c.args.m.now.name.now) → ⊥)
    (same_Some d e (sym was ∙ is)) not))
