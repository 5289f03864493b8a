-- Where control fits in a statement, it fits in the part inside.
use Rattle.std.proofs.Common.{◌≡◌, ℕ, Bool, true, false, List, Option, is_some, sym, if◌then◌else◌}
use Rattle.std.specs.List.{list_any}
use Rattle.std.proofs.lemmas.Bool.{false≢true, and_parts}
use Rattle.qz_syntax.specs.declared.places.Residual.{Residual, out-Residual}
use Rattle.qz_syntax.specs.declared.places.Residual.TheOpen.{Residual-F}
use Rattle.qz_meaning.specs.Residuals.{inner, inner_or, member_in, member_of, side_in, side_of, branches_in, branches_of, holds_in, is_held}
use Rattle.qz_meaning.specs.Layouts.{Layout, bare}
use Rattle.qz_meaning.specs.Sequences.{fits_in_one, member}
use Rattle.qz_meaning.specs.Parallels.{fits_in_some, fits_each}
use Rattle.qz_meaning.specs.Choices.{fits_in_side}
use Rattle.qz_meaning.specs.Loops.{fits_in_body}
use Rattle.qz_meaning.specs.Suspends.{fits_or_holds}
use Rattle.qz_meaning.specs.Scopes.{fits_in_scope}

in_body : (l : Layout) (r : Residual) (f : Residual-F Residual) → fits_in_body l f ≡ true → l.fits (inner_or r f) ≡ true
in_body l r (Residual-F.InBody inside) h = h
in_body l r (Residual-F.At place) h = absurd (false≢true h)
in_body l r (Residual-F.Hold place) h = absurd (false≢true h)
in_body l r (Residual-F.InSeq n inside) h = absurd (false≢true h)
in_body l r (Residual-F.InPar branches) h = absurd (false≢true h)
in_body l r (Residual-F.InIf side inside) h = absurd (false≢true h)
in_body l r (Residual-F.InScope stores inside) h = absurd (false≢true h)
in_body l r (Residual-F.InCall n) h = absurd (false≢true h)

pub fits_body : (l : Layout) (r : Residual) → fits_in_body l (out-Residual r) ≡ true → l.fits (inner r) ≡ true
fits_body l r h = in_body l r (out-Residual r) h

in_scope : (locals : List ℕ) (l : Layout) (r : Residual) (f : Residual-F Residual) → fits_in_scope locals l f ≡ true → l.fits (inner_or r f) ≡ true
in_scope locals l r (Residual-F.InScope stores inside) h = (and_parts _ _ h).1
in_scope locals l r (Residual-F.At place) h = absurd (false≢true h)
in_scope locals l r (Residual-F.Hold place) h = absurd (false≢true h)
in_scope locals l r (Residual-F.InSeq n inside) h = absurd (false≢true h)
in_scope locals l r (Residual-F.InPar branches) h = absurd (false≢true h)
in_scope locals l r (Residual-F.InIf side inside) h = absurd (false≢true h)
in_scope locals l r (Residual-F.InBody inside) h = absurd (false≢true h)
in_scope locals l r (Residual-F.InCall n) h = absurd (false≢true h)

pub fits_scope : (locals : List ℕ) (l : Layout) (r : Residual) → fits_in_scope locals l (out-Residual r) ≡ true → l.fits (inner r) ≡ true
fits_scope locals l r h = in_scope locals l r (out-Residual r) h

in_side : (first second : Layout) (r : Residual) (f : Residual-F Residual) → fits_in_side first second f ≡ true
    → (side : Bool) → side_in f ≡ side → (if side then first.fits (inner_or r f) else second.fits (inner_or r f)) ≡ true
in_side first second r (Residual-F.InIf true inside) h true is = h
in_side first second r (Residual-F.InIf true inside) h false is = absurd (false≢true (sym is))
in_side first second r (Residual-F.InIf false inside) h true is = absurd (false≢true is)
in_side first second r (Residual-F.InIf false inside) h false is = h
in_side first second r (Residual-F.At place) h side is = absurd (false≢true h)
in_side first second r (Residual-F.Hold place) h side is = absurd (false≢true h)
in_side first second r (Residual-F.InSeq n inside) h side is = absurd (false≢true h)
in_side first second r (Residual-F.InPar branches) h side is = absurd (false≢true h)
in_side first second r (Residual-F.InBody inside) h side is = absurd (false≢true h)
in_side first second r (Residual-F.InScope stores inside) h side is = absurd (false≢true h)
in_side first second r (Residual-F.InCall n) h side is = absurd (false≢true h)

pub fits_side : (first second : Layout) (r : Residual) → fits_in_side first second (out-Residual r) ≡ true
    → (side : Bool) → side_of r ≡ side → (if side then first.fits (inner r) else second.fits (inner r)) ≡ true
fits_side first second r h side is = in_side first second r (out-Residual r) h side is

in_one : (parts : List Layout) (r : Residual) (f : Residual-F Residual) → fits_in_one parts f ≡ true
    → (member bare parts (member_in f)).fits (inner_or r f) ≡ true
in_one parts r (Residual-F.InSeq n inside) h = (and_parts _ _ h).1
in_one parts r (Residual-F.At place) h = absurd (false≢true h)
in_one parts r (Residual-F.Hold place) h = absurd (false≢true h)
in_one parts r (Residual-F.InPar branches) h = absurd (false≢true h)
in_one parts r (Residual-F.InIf side inside) h = absurd (false≢true h)
in_one parts r (Residual-F.InBody inside) h = absurd (false≢true h)
in_one parts r (Residual-F.InScope stores inside) h = absurd (false≢true h)
in_one parts r (Residual-F.InCall n) h = absurd (false≢true h)

pub fits_one : (parts : List Layout) (r : Residual) → fits_in_one parts (out-Residual r) ≡ true
    → (member bare parts (member_of r)).fits (inner r) ≡ true
fits_one parts r h = in_one parts r (out-Residual r) h

in_some : (parts : List Layout) (f : Residual-F Residual) → fits_in_some parts f ≡ true
    → (list_any (λ branch. is_some branch) (branches_in f) ≡ true) × (fits_each parts (branches_in f) ≡ true)
in_some parts (Residual-F.InPar branches) h = let both = and_parts _ _ h in (both.0, both.1)
in_some parts (Residual-F.At place) h = absurd (false≢true h)
in_some parts (Residual-F.Hold place) h = absurd (false≢true h)
in_some parts (Residual-F.InSeq n inside) h = absurd (false≢true h)
in_some parts (Residual-F.InIf side inside) h = absurd (false≢true h)
in_some parts (Residual-F.InBody inside) h = absurd (false≢true h)
in_some parts (Residual-F.InScope stores inside) h = absurd (false≢true h)
in_some parts (Residual-F.InCall n) h = absurd (false≢true h)

pub fits_some : (parts : List Layout) (r : Residual) → fits_in_some parts (out-Residual r) ≡ true
    → (list_any (λ branch. is_some branch) (branches_of r) ≡ true) × (fits_each parts (branches_of r) ≡ true)
fits_some parts r h = in_some parts (out-Residual r) h

-- in a suspend control is at the hold place or in the body
in_or_holds : (hold : Option ℕ) (l : Layout) (r : Residual) (f : Residual-F Residual) → fits_or_holds hold l f ≡ true → holds_in f ≡ false
    → l.fits (inner_or r f) ≡ true
in_or_holds hold l r (Residual-F.InBody inside) h is = h
in_or_holds hold l r (Residual-F.Hold place) h is = absurd (false≢true (sym is))
in_or_holds hold l r (Residual-F.At place) h is = absurd (false≢true h)
in_or_holds hold l r (Residual-F.InSeq n inside) h is = absurd (false≢true h)
in_or_holds hold l r (Residual-F.InPar branches) h is = absurd (false≢true h)
in_or_holds hold l r (Residual-F.InIf side inside) h is = absurd (false≢true h)
in_or_holds hold l r (Residual-F.InScope stores inside) h is = absurd (false≢true h)
in_or_holds hold l r (Residual-F.InCall n) h is = absurd (false≢true h)

pub fits_held : (hold : Option ℕ) (l : Layout) (r : Residual) → fits_or_holds hold l (out-Residual r) ≡ true → is_held r ≡ false → l.fits (inner r) ≡ true
fits_held hold l r h is = in_or_holds hold l r (out-Residual r) h is
