-- The answers to the goals of `clauses::add_clauses`.
use Rattle.std.proofs.Common.{◌≡◌, List, [], ◌∷◌, ◌∙◌, ap, subst, arith, map}
use Rattle.std.specs.Prelude.{Some, slice_get}
use Rattle.std.specs.List.{enumerate_from}
use Rattle.types_declared.specs.Listing.{AddsEach}
use Rattle.types_declared.proofs.ItemFaults.{each_as, each_one}
use Rattle.types_declared.proofs.FileFaults.{next_file, all_files, flat_map-single}
use Rattle.go_ast.specs.SourceFile.{FileParts, source_of}
use Rattle.types_declared.specs.Files.{clause_name, package_name}
use Rattle.types_resolve.specs.Clauses.{IsFaultOfClause}
use Rattle.types_resolve.proofs.clauses.add_clauses.Goals as goal

first_name : (fs : List FileParts) (x : FileParts) → Some x ≡ slice_get fs 0 → clause_name (source_of x) ≡ package_name (map source_of fs)
first_name [] x e = let z : ⊥ = cc in absurd z
first_name (y ∷ ys) x e = ap (λ v. clause_name (source_of v)) (let q : x ≡ y = cc in q)

pub loop-rank-preserved : goal.loop-rank-preserved
loop-rank-preserved c =
    let Q = IsFaultOfClause c.clause_name-name.result.now in
    next_file Q c.args.found.now.items c.loop-rank.found.items c.add_clause.new.found.items (λ r. r ∷ []) source_of c.args.files.now c.loop-rank.rank
    c.index-files-rank.result
    (omega arith) c.index-files-rank.is c.loop-rank.invariant
    (each_one Q c.loop-rank.found.items c.add_clause.new.found.items (c.loop-rank.rank, source_of c.index-files-rank.result) c.in_ok-add_clause.ensures)

pub returns : goal.returns
returns c =
    let Q = IsFaultOfClause c.clause_name-name.result.now in
    let all = all_files Q c.args.found.now.items c.loop-rank.found.items (λ r. r ∷ []) source_of c.args.files.now c.loop-rank.rank (omega arith)
    c.loop-rank.invariant in
    subst (λ n. AddsEach (IsFaultOfClause n) c.args.found.now.items c.loop-rank.found.items (enumerate_from 0 (map source_of c.args.files.now)))
    (c.clause_name-name.ensures ∙ first_name c.args.files.now c.in-Some.first.now c.in-Some.ensures.value)
    (each_as Q c.args.found.now.items c.loop-rank.found.items _ _ all (flat_map-single (enumerate_from 0 (map source_of c.args.files.now))))
