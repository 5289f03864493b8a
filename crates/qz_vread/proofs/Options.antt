-- What is known of an option, once its case is known.
use Rattle.std.proofs.Common.{◌≡◌, Option, Some, None, MatchOption, subst}

pub at_none : {X : Type 0} (P : Type 0) (Q : X → Type 0) (o : Option X) → o ≡ None → MatchOption o P Q → P
at_none {X} P Q o e h = let M : Option X → Type 0 = λ v. MatchOption v P Q in subst M e h

pub at_some : {X : Type 0} (P : Type 0) (Q : X → Type 0) (o : Option X) (x : X) → o ≡ Some x → MatchOption o P Q → Q x
at_some {X} P Q o x e h = let M : Option X → Type 0 = λ v. MatchOption v P Q in subst M e h
