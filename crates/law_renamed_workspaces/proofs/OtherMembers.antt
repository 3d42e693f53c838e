-- Fields and methods that a plain rename does not rename, and whose names no other member gets: they stay bound.
use Rattle.std.proofs.Common.{ℕ, ◌≡◌, inl, List, [], ap, sym, refl, ◌∙◌, subst}
use Rattle.std.specs.Prelude.{⊤, Contains}
use Rattle.base_files.specs.Workspace.{Workspace}
use Rattle.base_files.specs.declared.place.Place.{Place}
use Rattle.base_edits.specs.EditSet.{FileChanges}
use Rattle.base_edits.specs.Revisions.{Revision}
use Rattle.base_edits.specs.RevisionsOfEdits.{revision_of}
use Rattle.types_declared.specs.Package.{Package, symbol_in, spelled}
use Rattle.workspace_check.specs.FaultLists.{ListsFaults}
use Rattle.workspace_check.specs.Verdicts.{Verdicts, AreVerdicts}
use Rattle.refs_binding.specs.declared.declaration.Declaration.{Declaration}
use Rattle.refs_binding.specs.declared.declaration.Declaration.TheVariants.{Predeclared, Declared, Field, Method}
use Rattle.refs_binding.specs.Binding.{BindsByMember, DeclaresMember}
use Rattle.refs_binding.specs.Identifiers.{BeginsAt}
use Rattle.refs_binding.specs.Uses.{IsCheckedPackage}
use Rattle.refactor_conflict.specs.MembersAfter.{CountsAfter}
use Rattle.refactor_conflict.specs.BoundAfter.{IsBoundByMember}
use Rattle.law_renamed_workspaces.specs.Renames.{IsPlainRename}
use Rattle.law_renamed_workspaces.specs.NamesAfterwards.{IsMember, IsCalledAfter, gets_name, keeps_name, NamesMember, spelled_there}
use Rattle.law_renamed_workspaces.specs.Reaching.{home_of}
use Rattle.law_renamed_workspaces.proofs.Called.{fields, identifiers, methods, used_is_member, declared_is_member}
use Rattle.law_renamed_workspaces.proofs.KeptMembers.{NoneGets, IsKept, ShowsName, use_stays, name_stays}

module _ (w : Workspace) (known : Verdicts) (d : Declaration) (name : List ℕ) (s : FileChanges) (h : IsPlainRename w known d name s) where
  abbrev r : Revision
  r = revision_of w s

  abbrev sound : ListsFaults w []
  sound = h.rename.sound

  abbrev right : AreVerdicts w known
  right = h.rename.right

  -- a name, and packages where no renamed member gets it

  module _ (m : List ℕ) (Among : List ℕ → Type 0) (closed : (p q : List ℕ) → Among p → ShowsName w m p q → Among q)
      (apart : (e : Declaration) → IsMember e → Contains h.rename.set e → Among (home_of e) → m ≡ name → ⊥) where
    -- what is called so afterwards was called so
    was_called : (e : Declaration) → IsMember e → Among (home_of e) → (old : List ℕ) → IsCalledAfter h.rename.set name e old m → old ≡ m
    was_called e member among old (gets_name same new) = absurd (apart e member same among new)
    was_called e member among old (keeps_name away kept) = sym kept

    none_gets : NoneGets w sound known right r m Among closed
    none_gets = record {
      fields = λ y also among definition rank k.
          let c = (fields w known d name s h y also definition m rank).0 k in (
            c.field,
            record {
              has_rank = c.has_rank;
              of_struct = c.of_struct;
              named = was_called (Field (symbol_in y rank)) tt among (spelled y c.field.file c.field.name) c.called;
            },
          );
      methods = λ y also among definition rank k.
          let c = (methods w known d name s h y also definition m rank).0 k in (
            c.method,
            record {
              has_rank = c.has_rank;
              receiver = c.of_type.receiver;
              received = c.of_type.received;
              declaration = c.of_type.declaration;
              binds = c.of_type.binds;
              of_type = c.of_type.of_type;
              named = was_called (Method (symbol_in y rank)) tt among (spelled y c.method.file c.method.function.name) c.called;
            },
          );
    }

    -- a member of the name that is not renamed keeps it
    kept : (e : Declaration) → IsMember e → (Contains h.rename.set e → ⊥) → IsKept w sound known right r m Among closed e
    kept (Predeclared n) member away = absurd member
    kept (Declared path n) member away = absurd member
    kept (Field f) member away = λ y also among home definition x own.
        let here : f ≡ symbol_in y f.rank = ap (λ q. record { «package» = q; rank = f.rank }) home in
        (fields w known d name s h y also definition m f.rank).1 (record {
          field = x;
          has_rank = own.has_rank;
          of_struct = own.of_struct;
          called = keeps_name (λ in_set. away (subst (Contains h.rename.set) (ap Field (sym here)) in_set)) (sym own.named);
        })
    kept (Method f) member away = λ y also among home definition x own.
        let here : f ≡ symbol_in y f.rank = ap (λ q. record { «package» = q; rank = f.rank }) home in
        (methods w known d name s h y also definition m f.rank).1 (record {
          method = x;
          has_rank = own.has_rank;
          of_type = record {
            receiver = own.receiver;
            received = own.received;
            declaration = own.declaration;
            binds = own.binds;
            of_type = own.of_type;
          };
          called = keeps_name (λ in_set. away (subst (Contains h.rename.set) (ap Method (sym here)) in_set)) (sym own.named);
        })

  -- a use or declaring identifier of a member that is not renamed

  module _ (x : Package) (is : IsCheckedPackage w known x) (u : ℕ) (place : Place) (begins : BeginsAt x place.path place.offset u) where
    abbrev m : List ℕ
    m = spelled_there x u

    called_so : (e : Declaration) → NamesMember x u e → (Contains h.rename.set e → ⊥) → r.called place m ≡ m
    called_so e n apart = by_case (identifiers w known d name s h x is u place begins e n)
      where
        by_case : IsCalledAfter h.rename.set name e m (r.called place m) → r.called place m ≡ m
        by_case (gets_name same new) = absurd (apart same)
        by_case (keeps_name away same) = same

    module _ (Among : List ℕ → Type 0) (closed : (p q : List ℕ) → Among p → ShowsName w m p q → Among q) (among : Among x.path)
        (apart : (e : Declaration) → IsMember e → Contains h.rename.set e → Among (home_of e) → m ≡ name →
        ⊥) (old : Declaration) (away : Contains h.rename.set old → ⊥) where
      pub use_kept : (was : BindsByMember x u old) → IsBoundByMember (IsCheckedPackage w known) r place x u old was old
      use_kept was =
          use_stays w sound known right r m Among closed (none_gets m Among closed apart) x is among u place old was
          (kept m Among closed apart old (used_is_member x u old was) away) refl (called_so old (inl was) away)

      pub name_kept : DeclaresMember x u old → CountsAfter (IsCheckedPackage w known) r old
      name_kept declares =
          name_stays w sound known right r m Among closed (none_gets m Among closed apart) x is among u place old declares
          (kept m Among closed apart old (declared_is_member x u old declares) away) refl

    -- where no member gets the name
    module _ (free : (e : Declaration) → IsMember e → Contains h.rename.set e → m ≡ name → ⊥) (old : Declaration) (away : Contains h.rename.set old → ⊥) where
      pub use_kept_everywhere : (was : BindsByMember x u old) → IsBoundByMember (IsCheckedPackage w known) r place x u old was old
      use_kept_everywhere was = use_kept (λ q. ⊤) (λ p q a k. tt) tt (λ e member same a new. free e member same new) old away was

      pub name_kept_everywhere : DeclaresMember x u old → CountsAfter (IsCheckedPackage w known) r old
      name_kept_everywhere declares = name_kept (λ q. ⊤) (λ p q a k. tt) tt (λ e member same a new. free e member same new) old away declares
