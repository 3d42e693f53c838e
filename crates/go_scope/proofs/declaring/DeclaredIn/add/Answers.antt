-- The answers to the goals of `declaring::DeclaredIn::add`.
use Rattle.go_scope.specs.Bindings.{Declares}
use Rattle.go_scope.specs.Leading.{IsLead}
use Rattle.go_scope.specs.Numbering.{numerals}
use Rattle.go_scope.specs.Table.{layout_of}
use Rattle.go_scope.proofs.Kept.{marks_next}
use Rattle.go_scope.proofs.declaring.DeclaredIn.add.Goals as goal

pub returns : goal.returns
returns c =
    let l = layout_of c.args.identifiers.now in
    let names = numerals c.args.names.now in
    let old = c.args.self.now in
    record {
      links = c.in_ok-link.ensures;
      marks = marks_next (Declares l names) c.args.d old.declaring.items c.push.new.self.items c.flags_of-standing.result.declares c.requires.first.marks
          c.in_ok-push.ensures.items c.flags_of-standing.ensures.declares;
      firsts = marks_next (IsLead l names) c.args.d old.leading.items c.push-2.new.self.items c.flags_of-standing.result.leads c.requires.first.firsts
          c.in_ok-push-2.ensures.items c.flags_of-standing.ensures.leads;
    }
