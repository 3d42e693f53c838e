-- Lists of declarations while files are added one by one.
use Rattle.std.proofs.Common.{ℕ, ◌≡◌, ◌+◌, ◌<◌, List, [], length, take, get_or, subst, ◌∙◌, sym}
use Rattle.std.specs.Prelude.{map}
use Rattle.std.specs.List.{flat_map, enumerate_from}
use Rattle.types_declared.specs.declared.declared.Declared.{Declared}
use Rattle.types_declared.specs.Package.{PlacedVariable, PlacedType, PlacedFunction}
use Rattle.types_declared.specs.DeclaredView.{variable_of, type_of, function_of, AddsDeclared}
use Rattle.types_declared.proofs.Appending.{appends_none, appends_as, appends_next, appends_all, next_ranked, short_ranked}

pub adds_none : (a : Declared) → AddsDeclared a a [] [] []
adds_none a = record {
  adds_variables = appends_none variable_of a.variables.items;
  adds_types = appends_none type_of a.types.items;
  adds_functions = appends_none function_of a.functions.items;
}

pub adds_as : (a b : Declared) (vs ws : List PlacedVariable) (ts us : List PlacedType) (fs gs : List PlacedFunction) → AddsDeclared a b vs ts fs → vs ≡ ws →
    ts ≡ us → fs ≡ gs → AddsDeclared a b ws us gs
adds_as a b vs ws ts us fs gs h ev et ef = record {
  adds_variables = appends_as variable_of a.variables.items b.variables.items vs ws h.adds_variables ev;
  adds_types = appends_as type_of a.types.items b.types.items ts us h.adds_types et;
  adds_functions = appends_as function_of a.functions.items b.functions.items fs gs h.adds_functions ef;
}

pub adds_next : {Z : Type 0} (a b c : Declared) (f : Z → List PlacedVariable) (g : Z → List PlacedType) (h : Z → List PlacedFunction) (zs : List Z) (i : ℕ)
    (z : Z) → i < length zs → z ≡ get_or zs i z →
    AddsDeclared a b (flat_map f (take i zs)) (flat_map g (take i zs)) (flat_map h (take i zs)) → AddsDeclared b c (f z) (g z) (h z) →
    AddsDeclared a c (flat_map f (take (i + 1) zs)) (flat_map g (take (i + 1) zs)) (flat_map h (take (i + 1) zs))
adds_next a b c f g h zs i z lt e k l = record {
  adds_variables = appends_next variable_of a.variables.items b.variables.items c.variables.items f zs i z lt e k.adds_variables l.adds_variables;
  adds_types = appends_next type_of a.types.items b.types.items c.types.items g zs i z lt e k.adds_types l.adds_types;
  adds_functions = appends_next function_of a.functions.items b.functions.items c.functions.items h zs i z lt e k.adds_functions l.adds_functions;
}

pub adds_all : {Z : Type 0} (a b : Declared) (f : Z → List PlacedVariable) (g : Z → List PlacedType) (h : Z → List PlacedFunction) (zs : List Z) (i : ℕ) →
    i ≡ length zs →
    AddsDeclared a b (flat_map f (take i zs)) (flat_map g (take i zs)) (flat_map h (take i zs)) →
    AddsDeclared a b (flat_map f zs) (flat_map g zs) (flat_map h zs)
adds_all a b f g h zs i e k = record {
  adds_variables = appends_all variable_of a.variables.items b.variables.items f zs i e k.adds_variables;
  adds_types = appends_all type_of a.types.items b.types.items g zs i e k.adds_types;
  adds_functions = appends_all function_of a.functions.items b.functions.items h zs i e k.adds_functions;
}

-- the declarations of the file of a rank are added
pub adds_file : {V Y : Type 0} (a b c : Declared) (v : V → Y) (f : ℕ × Y → List PlacedVariable) (g : ℕ × Y → List PlacedType)
    (h : ℕ × Y → List PlacedFunction) (vs : List V) (i : ℕ) (x : V) →
    i < length vs → x ≡ get_or vs i x →
    AddsDeclared a b (flat_map f (take i (enumerate_from 0 (map v vs)))) (flat_map g (take i (enumerate_from 0 (map v vs))))
    (flat_map h (take i (enumerate_from 0 (map v vs)))) →
    AddsDeclared b c (f (i, v x)) (g (i, v x)) (h (i, v x)) →
    AddsDeclared a c (flat_map f (take (i + 1) (enumerate_from 0 (map v vs)))) (flat_map g (take (i + 1) (enumerate_from 0 (map v vs))))
    (flat_map h (take (i + 1) (enumerate_from 0 (map v vs))))
adds_file a b c v f g h vs i x lt e k l =
    adds_next a b c f g h (enumerate_from 0 (map v vs)) i (i, v x) (subst (λ n. i < n) (sym (short_ranked v vs)) lt) (next_ranked v vs i x lt e) k l

pub all_files : {V Y : Type 0} (a b : Declared) (v : V → Y) (f : ℕ × Y → List PlacedVariable) (g : ℕ × Y → List PlacedType)
    (h : ℕ × Y → List PlacedFunction) (vs : List V) (i : ℕ) → i ≡ length vs →
    AddsDeclared a b (flat_map f (take i (enumerate_from 0 (map v vs)))) (flat_map g (take i (enumerate_from 0 (map v vs))))
    (flat_map h (take i (enumerate_from 0 (map v vs)))) →
    AddsDeclared a b (flat_map f (enumerate_from 0 (map v vs))) (flat_map g (enumerate_from 0 (map v vs))) (flat_map h (enumerate_from 0 (map v vs)))
all_files a b v f g h vs i e k = adds_all a b f g h (enumerate_from 0 (map v vs)) i (e ∙ sym (short_ranked v vs)) k
