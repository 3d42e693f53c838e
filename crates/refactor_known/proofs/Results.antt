-- What a result gives.
use Rattle.std.specs.Prelude.{Result, Ok, Err, IfOk, MatchResult, Option, Some, None, IfSome}

pub if_ok : {A E : Type 0} (r : Result A E) (P Q : A → Type 0) (N : E → Type 0) → ((x : A) → P x → Q x) → MatchResult r P N → IfOk r Q
if_ok (Ok x) P Q N f h = f x h
if_ok (Err e) P Q N f h = tt

pub if_ok_some : {A E : Type 0} (r : Result (Option A) E) (P Q : A → Type 0) → ((x : A) → P x → Q x) → IfOk r (λ o. IfSome o P) → IfOk r (λ o. IfSome o Q)
if_ok_some (Ok (Some x)) P Q f h = f x h
if_ok_some (Ok None) P Q f h = tt
if_ok_some (Err e) P Q f h = tt
