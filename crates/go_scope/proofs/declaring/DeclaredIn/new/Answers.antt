-- The answers to the goals of `declaring::DeclaredIn::new`.
use Rattle.go_scope.specs.Bindings.{Declares}
use Rattle.go_scope.specs.Leading.{IsLead}
use Rattle.go_scope.specs.Numbering.{numerals}
use Rattle.go_scope.specs.Table.{layout_of}
use Rattle.go_scope.proofs.Kept.{marks_none}
use Rattle.go_scope.proofs.declaring.DeclaredIn.new.Goals as goal

pub returns : goal.returns
returns c = λ numbers.
    let l = layout_of c.args.identifiers.now in
    record {
      links = c.in_ok-links.ensures numbers;
      marks = marks_none (Declares l (numerals numbers)) c.in_ok-declaring.declaring.items c.in_ok-declaring.ensures.items;
      firsts = marks_none (IsLead l (numerals numbers)) c.in_ok-leading.leading.items c.in_ok-leading.ensures.items;
    }
