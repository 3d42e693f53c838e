-- The answers to the goals of `imports::add_import`.
use Rattle.std.proofs.Common.{ℕ, ◌≡◌, List, ◌∙◌, ap, sym, subst, MatchOption}
use Rattle.go_scanner.specs.Cuts.{bytes_of}
use Rattle.go_scanner.specs.CutText.{token_at}
use Rattle.types_declared.proofs.Listings.{adds_none, call_adds}
use Rattle.go_ast.specs.FileView.{import_view}
use Rattle.go_ast.specs.SourceFile.{source_of}
use Rattle.types_declared.specs.Files.{HasLiteral}
use Rattle.types_declared.specs.States.{state_in}
use Rattle.types_resolve.specs.Imports.{IsFaultOfState, IsFaultOfImport}
use Rattle.types_resolve.proofs.imports.add_import.Goals as goal

pub returns-in-None : goal.returns-in-None
unfolding import_view
returns-in-None c =
    let s = source_of c.args.file.now in
    let none : (v : List ℕ) → HasLiteral s c.args.spec.now.path v → ⊥ =
    subst (λ o. MatchOption o ((v : List ℕ) → HasLiteral s c.args.spec.now.path v → ⊥) (λ v. HasLiteral s c.args.spec.now.path v.items)) c.in-None.is
    c.in_ok-literal.ensures in
    adds_none c.args.found.now.items (IsFaultOfImport (state_in c.args.states.now) ((c.args.rank, s), import_view c.args.spec.now))
    (λ f h. none h.path h.has_path)

pub returns-in-Some : goal.returns-in-Some
unfolding import_view
returns-in-Some c =
    let s = source_of c.args.file.now in
    let path = c.in-Some.path.items in
    let literal : HasLiteral s c.args.spec.now.path path =
    subst (λ o. MatchOption o ((v : List ℕ) → HasLiteral s c.args.spec.now.path v → ⊥) (λ v. HasLiteral s c.args.spec.now.path v.items)) c.in-Some.is
    c.in_ok-literal.ensures in
    let state : c.state.result ≡ state_in c.args.states.now path = c.state.ensures ∙ ap (state_in c.args.states.now) c.deref.ensures.value in
    call_adds c.args.found.now.items c.add_state.new.found.items (IsFaultOfState c.args.rank c.args.spec.now.path c.state.result)
    (IsFaultOfImport (state_in c.args.states.now) ((c.args.rank, s), import_view c.args.spec.now)) c.add_state.result c.add_state.ensures
    (λ f h. record { path = path; has_path = literal; of_state = subst (λ z. IsFaultOfState c.args.rank c.args.spec.now.path z f) state h })
    (λ f h. subst (λ z. IsFaultOfState c.args.rank c.args.spec.now.path z f)
    (ap (state_in c.args.states.now) (c.one_string_value.ensures (bytes_of s.cut.text (token_at s.cut c.args.spec.now.path)) h.path path
    h.has_path.stands_for literal.stands_for) ∙ sym state) h.of_state)
