-- No fault at all comes where an import gets the name that it declared already.
use Rattle.std.proofs.Common.{inl, inr}
use Rattle.types_check.specs.Check.{exports_in}
use Rattle.types_check.specs.TypeFaults.{IsTypeFault}
use Rattle.types_declared.specs.declared.fault.Fault.{Fault}
use Rattle.types_declared.specs.Package.{Package, laid_of}
use Rattle.types_declared.specs.Stage.{FirstOf, HasNoFault}
use Rattle.types_members.specs.MemberFaults.{IsMemberFault}
use Rattle.types_resolve.specs.Clauses.{IsClauseFault}
use Rattle.types_resolve.specs.Imports.{IsImportFault}
use Rattle.types_resolve.specs.Stages.{IsInnerFault}
use Rattle.types_resolve.specs.Scoping.{IsScopeFault, IsUnknownFault}
use Rattle.types_resolve.specs.StatementMarks.{IsMarkFault}
use Rattle.law_gained_names.specs.GainedName.{GainedNamesBringNoFault, GainedNamesRenumber, NoClauseFaultComes}
use Rattle.law_gained_names.specs.GainedName.{GainedNamesAddNoFault, NoImportFaultComes, NoMarkFaultComes, NoScopeFaultComes, NoUnknownNameComes, gained_by}
use Rattle.law_gained_names.proofs.Judged.{gained_names_bring_no_fault}
use Rattle.law_gained_names.proofs.NamedWorkspacesLaws.{gained_names_renumber}
use Rattle.law_gained_names.proofs.Marks.{no_mark_fault_comes}
use Rattle.law_gained_names.proofs.Outer.{no_clause_fault_comes, no_import_fault_comes}
use Rattle.law_gained_names.proofs.Scopes.{no_scope_fault_comes}
use Rattle.law_gained_names.proofs.Unknown.{no_unknown_name_comes}

-- stages without faults

first_none : (P later : Fault → Type 0) → HasNoFault (FirstOf P later) → HasNoFault P
first_none P later none f x = none f (inl x)

later_none : (P later : Fault → Type 0) → HasNoFault (FirstOf P later) → HasNoFault later
later_none P later none f x = none f (inr (first_none P later none, x))

none_of_both : (P later : Fault → Type 0) → HasNoFault P → HasNoFault later → HasNoFault (FirstOf P later)
none_of_both P later one two f (inl x) = one f x
none_of_both P later one two f (inr x) = two f x.1

by_laws : GainedNamesRenumber → GainedNamesBringNoFault → NoScopeFaultComes → NoUnknownNameComes → NoMarkFaultComes → NoClauseFaultComes →
    NoImportFaultComes → GainedNamesAddNoFault
by_laws renumber bring scopes unknown marks clauses imports number p q g worlds =
    let r = renumber number p q g in
    let i = gained_by number p q g in
    let later = bring number p q g worlds in
    record {
      outer = λ state none.
          none_of_both (IsClauseFault q.files) (IsImportFault state q.files)
          (clauses i r.0 p q r.1 (first_none (IsClauseFault p.files) (IsImportFault state p.files) none))
          (imports i r.0 p q r.1 state (later_none (IsClauseFault p.files) (IsImportFault state p.files) none));
      inner = λ none.
          let Inner = IsInnerFault p.files (exports_in p) (laid_of p) in
          let Last = FirstOf (IsMemberFault p) (IsTypeFault p) in
          let own = first_none Inner Last none in
          let last = later_none Inner Last none in
          let scoped : HasNoFault (IsScopeFault (laid_of p)) = λ f x. own f (inl (inl x)) in
          none_of_both (IsInnerFault q.files (exports_in q) (laid_of q)) (FirstOf (IsMemberFault q) (IsTypeFault q))
          (inner_none p q (scopes i r.0 p q r.1 scoped) (marks i r.0 p q r.1 scoped (λ f x. own f (inl (inr x))))
          (unknown i r.0 p q r.1 (λ f x. own f (inr x))))
          (none_of_both (IsMemberFault q) (IsTypeFault q) (later.members (first_none (IsMemberFault p) (IsTypeFault p) last))
          (later.types (later_none (IsMemberFault p) (IsTypeFault p) last)));
    }
  where
    inner_none : (p q : Package) → HasNoFault (IsScopeFault (laid_of q)) → HasNoFault (IsMarkFault q.files (laid_of q)) →
        HasNoFault (IsUnknownFault q.files (exports_in q) (laid_of q)) → HasNoFault (IsInnerFault q.files (exports_in q) (laid_of q))
    inner_none p q scopes marks unknown f (inl (inl x)) = scopes f x
    inner_none p q scopes marks unknown f (inl (inr x)) = marks f x
    inner_none p q scopes marks unknown f (inr x) = unknown f x

pub gained_names_add_no_fault : GainedNamesAddNoFault
gained_names_add_no_fault =
    by_laws gained_names_renumber gained_names_bring_no_fault no_scope_fault_comes no_unknown_name_comes no_mark_fault_comes no_clause_fault_comes
    no_import_fault_comes
