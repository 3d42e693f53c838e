-- The answers to the goals of `members_abroad::is_use`.
use Rattle.std.proofs.Common.{ℕ, List, ap, sym, subst, ◌∙◌}
use Rattle.std.specs.Prelude.{IsTrue, ◌↔◌, option_map, slice_get}
use Rattle.std.proofs.lemmas.Bool.{false≢true}
use Rattle.go_scope.specs.Named.{name_value}
use Rattle.types_expr.specs.View.{type_of}
use Rattle.types_expr.specs.World.{member_by}
use Rattle.types_declared.specs.Package.{spelled_at}
use Rattle.refs_binding.specs.Binding.{declaration_of}
use Rattle.refs_binding.specs.Members.{definitions_known}
use Rattle.refs_uses.specs.SoughtMembers.{IsBoundToSome}
use Rattle.refs_uses.proofs.MemberNames.{not_other}
use Rattle.refs_uses.proofs.members_abroad.is_use.Goals as goal

pub returns-then-may_be : goal.returns-then-may_be
returns-then-may_be c = λ w known p is named.
    let types = c.args.of.now.types in
    let m = c.args.member.now in
    let denoted = λ (path spelling : List ℕ). IsTrue c.is_member.result ↔ IsBoundToSome c.args.sought.now.set.now
    (option_map declaration_of (member_by (definitions_known types) path spelling (type_of m.before))) in
    subst (λ path. denoted path (spelled_at (slice_get p.files c.args.file) m.place)) is.path
    (subst (denoted types.path.now) (c.spelling_at-spelling.ensures ∙ ap (λ fs. spelled_at (slice_get fs c.args.file) m.place) is.files) c.is_member.ensures)

pub returns-else-may_be : goal.returns-else-may_be
returns-else-may_be c = λ w known p is named. (
  (λ e. absurd (false≢true (sym c.if-may_be.false ∙ e))),
  (λ x. absurd (not_other (name_value c.args.sought.now.member) c.may_be.result c.spelling_at-spelling.result.now c.may_be.ensures c.if-may_be.false
      (λ name found. c.spelling_at-spelling.ensures ∙ ap (λ fs. spelled_at (slice_get fs c.args.file) c.args.member.now.place) is.files ∙
      (named x.declaration x.among name found p is.is_package).only (definitions_known c.args.of.now.types) is.definitions
      (spelled_at (slice_get p.files c.args.file) c.args.member.now.place) (type_of c.args.member.now.before) x.is_found))),
)
