-- The invariants of the loops of `declarations::push_decls`.
use Rattle.std.proofs.Common.{◌≡◌, ◌≤◌, ◌++◌, drop, length, map}
use Rattle.go_ast.specs.FileView.{decl_view}
use Rattle.build_object.specs.LineView.{function_of}
use Rattle.build_object.specs.Objects.{names_behind_all}
use Rattle.build_object.proofs.TextParts.{decls_text}
use Rattle.build_object.proofs.declarations.push_decls.Given as goal

abbrev pub invariant-loop-decl : goal.invariant-loop-decl
invariant-loop-decl l = record {
  within : l.next ≤ length l.names;
  text : l.text.items ++ decls_text l.source (map function_of (drop l.next l.names)) (drop l.decl-index l.decls) ≡ l.initial.text.items ++ decls_text
      l.source (map function_of (drop l.number l.names)) l.decls;
  others : names_behind_all (map function_of (drop l.next l.names)) (map decl_view (drop l.decl-index l.decls)) ≡ names_behind_all
      (map function_of (drop l.number l.names)) (map decl_view l.decls);
}
