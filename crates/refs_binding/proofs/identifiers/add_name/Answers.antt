-- The answers to the goals of `identifiers::add_name`.
use Rattle.std.proofs.Common.{rules, sym, ◌∙◌}
use Rattle.std.proofs.lemmas.Bool.{false≢true}
use Rattle.go_ast.specs.SourceFile.{source_of}
use Rattle.refs_binding.proofs.Files.{name_pushed, not_a_name}
use Rattle.refs_binding.proofs.identifiers.add_name.Goals as goal

pub returns-in_ok-push : goal.returns-in_ok-push
returns-in_ok-push c =
    name_pushed c.args.found.now.items c.push.new.self.items (source_of c.args.file.now) c.args.token
    (record { path = c.in_ok-path.path; offset = c.offset-offset.result })
    (c.is_name.ensures.0 c.if-is_name.true) c.in_ok-push.ensures.items (search rules) (search rules)

pub returns-else-is_name : goal.returns-else-is_name
returns-else-is_name c = not_a_name c.args.found.now.items (source_of c.args.file.now) c.args.token
    (λ q. false≢true (sym c.if-is_name.false ∙ c.is_name.ensures.1 q))
