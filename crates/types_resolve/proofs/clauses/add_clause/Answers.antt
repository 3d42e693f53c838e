-- The answers to the goals of `clauses::add_clause`.
use Rattle.std.proofs.Common.{◌≡◌, ◌∙◌, ap, sym}
use Rattle.base_files.specs.declared.fault_kind.FaultKind.TheVariants as kind
use Rattle.types_declared.proofs.Listings.{call_adds, make, is_false}
use Rattle.go_ast.specs.SourceFile.{source_of}
use Rattle.types_declared.specs.Files.{clause_name}
use Rattle.types_resolve.specs.Clauses.{IsFaultOfClause}
use Rattle.types_resolve.proofs.clauses.add_clause.Goals as goal

pub returns : goal.returns
returns c =
    let same = ap (λ t. make c.args.rank t kind.Package) c.clause_token.ensures in
    call_adds c.args.found.now.items c.push.new.found.items (λ f. f ≡ make c.args.rank c.clause_token.result kind.Package)
    (IsFaultOfClause c.args.name.now (c.args.rank, source_of c.args.file.now)) c.push.result c.push.ensures
    (λ f e. record {
      at = e ∙ same;
      differs = is_false (clause_name (source_of c.args.file.now) ≡ c.args.name.now) c.is_named.result c.is_named.ensures
          c.if-is_named.false;
    })
    (λ f h. h.at ∙ sym same)
