-- If the paths reached from a package have the same files in both workspaces, its closure has the same texts.
use Rattle.std.proofs.Common.{ℕ, List}
use Rattle.std.specs.Prelude.{Contains}
use Rattle.base_files.specs.Packages.{package_paths}
use Rattle.base_files.specs.Workspace.{Workspace}
use Rattle.workspace_graph.specs.Packages.{PackageImports, IsInClosure, itself, through}
use Rattle.workspace_graph.proofs.ByPath.{has_file}
use Rattle.workspace_check.specs.Closures.{HasSameClosure}
use Rattle.workspace_check.proofs.Closed.{in_closure_then}
use Rattle.workspace_check.proofs.PackageFiles.{package_file}
use Rattle.refs_lookup.specs.Reached.{IsReached, start, imported, HasSameReached}

-- Each path of the closure is reached, and each reached path of a package is in the closure.

one_more : (w : Workspace) (p m a : List ℕ) → PackageImports w p m → IsReached w m a → IsReached w p a
one_more w p _ a i start = imported (itself (has_file w p i.entry i.of_package)) i
one_more w p m _ i (imported c j) = imported (through i c) j

reached : (w : Workspace) (p a : List ℕ) → IsInClosure w p a → IsReached w p a
reached w p _ (itself has) = start
reached w p a (through {q = m} i rest) = one_more w p m a i (reached w m a rest)

closed : (w : Workspace) (p a : List ℕ) → IsReached w p a → Contains (package_paths w) a → IsInClosure w p a
closed w p _ start has = itself has
closed w p a (imported {r = r} c i) has = in_closure_then w p r a c (through i (itself has))

next : (w : Workspace) (p a m : List ℕ) → IsReached w p a → PackageImports w a m → IsReached w p m
next w p a m r i = imported (closed w p a r (has_file w a i.entry i.of_package)) i

module _ (w x : Workspace) (p : List ℕ) (keeps : HasSameReached w x p) where
  package_there : (a : List ℕ) → IsReached w p a → Contains (package_paths w) a → Contains (package_paths x) a
  package_there a r has = let e = package_file w a has in has_file x a e.0 ((keeps a r e.0).0 e.1)

  package_here : (a : List ℕ) → IsReached w p a → Contains (package_paths x) a → Contains (package_paths w) a
  package_here a r has = let e = package_file x a has in has_file w a e.0 ((keeps a r e.0).1 e.1)

  imports_there : (a m : List ℕ) → IsReached w p a → PackageImports w a m → PackageImports x a m
  imports_there a m r i = record { entry = i.entry; of_package = (keeps a r i.entry).0 i.of_package; file = i.file; parsed = i.parsed; imports = i.imports }

  imports_here : (a m : List ℕ) → IsReached w p a → PackageImports x a m → PackageImports w a m
  imports_here a m r i = record { entry = i.entry; of_package = (keeps a r i.entry).1 i.of_package; file = i.file; parsed = i.parsed; imports = i.imports }

  closed_there : (a b : List ℕ) → IsReached w p a → IsInClosure w a b → IsInClosure x a b
  closed_there a _ r (itself has) = itself (package_there a r has)
  closed_there a b r (through {q = m} i rest) = through (imports_there a m r i) (closed_there m b (next w p a m r i) rest)

  closed_here : (a b : List ℕ) → IsReached w p a → IsInClosure x a b → IsInClosure w a b
  closed_here a _ r (itself has) = itself (package_here a r has)
  closed_here a b r (through {q = m} i rest) =
      let here = imports_here a m r i in through here (closed_here m b (next w p a m r here) rest)

  pub same_closure : HasSameClosure w x p
  same_closure e = (
    λ h. record {
      path = h.path;
      in_closure = closed_there p h.path start h.in_closure;
      of_package = (keeps h.path (reached w p h.path h.in_closure) e).0 h.of_package;
    },
    λ h.
        let here = closed_here p h.path start h.in_closure in
        record { path = h.path; in_closure = here; of_package = (keeps h.path (reached w p h.path here) e).1 h.of_package },
  )
