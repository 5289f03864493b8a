-- The first of two lists of faults.
use Rattle.std.specs.Option.{is_none, is_some}
use Rattle.std.proofs.Common.{◌≡◌, Bool, true, false, not, Some, None, List, [], ◌∷◌, ◌++◌, Option, Result, Ok, Err, OnOk, IfOk, refl}
use Rattle.qz_types.specs.declared.faults.Fault.{Fault}
use Rattle.qz_types.specs.Faults.{first_with, earlier}

pub first_with_append : (first : Option Fault) (xs ys : List Fault) → first_with first (xs ++ ys) ≡ first_with (first_with first xs) ys
first_with_append first [] ys = refl
first_with_append first (x ∷ xs) ys = first_with_append (earlier first x) xs ys

pub on_ok : {T E P : Type 0} (r : Result T E) → P → OnOk r P
on_ok (Ok x) p = p
on_ok (Err e) p = tt

pub on_ok_more : {T E P Q : Type 0} (r : Result T E) → OnOk r P → (P → Q) → OnOk r Q
on_ok_more (Ok x) p f = f p
on_ok_more (Err e) p f = tt

-- what `is_none` answers
pub untold : {T : Type 0} (o : Option T) (b : Bool) → is_some o ≡ not b → b ≡ is_none o
untold None true e = refl
untold None false e = cc
untold (Some x) true e = cc
untold (Some x) false e = refl

pub if_ok_more : {T E : Type 0} {P Q : T → Type 0} (r : Result T E) → IfOk r P → ((x : T) → P x → Q x) → IfOk r Q
if_ok_more (Ok x) p f = f x p
if_ok_more (Err e) p f = tt
