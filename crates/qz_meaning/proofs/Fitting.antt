-- Where control can rest in a statement it can rest so in the part that it is in.
use Rattle.std.proofs.Common.{◌≡◌, ℕ, true, false, List, length, Option, sym}
use Rattle.std.specs.Prelude.{if◌then◌else◌, nat_lt}
use Rattle.std.proofs.lemmas.Bool.{false≢true, and_parts, eqb-true}
use Rattle.qz_syntax.specs.declared.places.Residual.{Residual}
use Rattle.qz_syntax.specs.declared.places.Residual.TheOpen.{Residual-F}
use Rattle.qz_meaning.specs.Residuals.{inner_or, member_in, side_in, branches_in, stores_in, holds_in}
use Rattle.qz_meaning.specs.Layouts.{Layout, bare}
use Rattle.qz_meaning.specs.Sequences.{member, fits_in_one}
use Rattle.qz_meaning.specs.Parallels.{fits_each, fits_in_some}
use Rattle.qz_meaning.specs.Choices.{fits_in_side}
use Rattle.qz_meaning.specs.Loops.{fits_in_body}
use Rattle.qz_meaning.specs.Suspends.{fits_or_holds}
use Rattle.qz_meaning.specs.Scopes.{fits_in_scope}

pub body_fits : (l : Layout) (r : Residual) (node : Residual-F Residual) → fits_in_body l node ≡ true → l.fits (inner_or r node) ≡ true
body_fits l r (Residual-F.At place) h = absurd (false≢true h)
body_fits l r (Residual-F.Hold place) h = absurd (false≢true h)
body_fits l r (Residual-F.InSeq member s) h = absurd (false≢true h)
body_fits l r (Residual-F.InPar branches) h = absurd (false≢true h)
body_fits l r (Residual-F.InIf side s) h = absurd (false≢true h)
body_fits l r (Residual-F.InBody s) h = h
body_fits l r (Residual-F.InScope stores s) h = absurd (false≢true h)
body_fits l r (Residual-F.InCall number) h = absurd (false≢true h)

pub side_fits : (l l₂ : Layout) (r : Residual) (node : Residual-F Residual) → fits_in_side l l₂ node ≡ true → (if side_in node then l else l₂).fits (inner_or r node) ≡ true
side_fits l l₂ r (Residual-F.At place) h = absurd (false≢true h)
side_fits l l₂ r (Residual-F.Hold place) h = absurd (false≢true h)
side_fits l l₂ r (Residual-F.InSeq member s) h = absurd (false≢true h)
side_fits l l₂ r (Residual-F.InPar branches) h = absurd (false≢true h)
side_fits l l₂ r (Residual-F.InIf true s) h = h
side_fits l l₂ r (Residual-F.InIf false s) h = h
side_fits l l₂ r (Residual-F.InBody s) h = absurd (false≢true h)
side_fits l l₂ r (Residual-F.InScope stores s) h = absurd (false≢true h)
side_fits l l₂ r (Residual-F.InCall number) h = absurd (false≢true h)

pub scope_fits : (locals : List ℕ) (l : Layout) (r : Residual) (node : Residual-F Residual) → fits_in_scope locals l node ≡ true
    → (length (stores_in node) ≡ length locals) × (l.fits (inner_or r node) ≡ true)
scope_fits locals l r (Residual-F.At place) h = absurd (false≢true h)
scope_fits locals l r (Residual-F.Hold place) h = absurd (false≢true h)
scope_fits locals l r (Residual-F.InSeq member s) h = absurd (false≢true h)
scope_fits locals l r (Residual-F.InPar branches) h = absurd (false≢true h)
scope_fits locals l r (Residual-F.InIf side s) h = absurd (false≢true h)
scope_fits locals l r (Residual-F.InBody s) h = absurd (false≢true h)
scope_fits locals l r (Residual-F.InScope stores s) h = let two = and_parts _ _ h in (eqb-true _ _ two.0, two.1)
scope_fits locals l r (Residual-F.InCall number) h = absurd (false≢true h)

pub member_fits : (ls : List Layout) (r : Residual) (node : Residual-F Residual) → fits_in_one ls node ≡ true
    → ((member bare ls (member_in node)).fits (inner_or r node) ≡ true) × (nat_lt (member_in node) (length ls) ≡ true)
member_fits ls r (Residual-F.At place) h = absurd (false≢true h)
member_fits ls r (Residual-F.Hold place) h = absurd (false≢true h)
member_fits ls r (Residual-F.InSeq number s) h = let both = and_parts _ _ h in (both.1, both.0)
member_fits ls r (Residual-F.InPar branches) h = absurd (false≢true h)
member_fits ls r (Residual-F.InIf side s) h = absurd (false≢true h)
member_fits ls r (Residual-F.InBody s) h = absurd (false≢true h)
member_fits ls r (Residual-F.InScope stores s) h = absurd (false≢true h)
member_fits ls r (Residual-F.InCall number) h = absurd (false≢true h)

pub branches_fit : (ls : List Layout) (node : Residual-F Residual) → fits_in_some ls node ≡ true → fits_each ls (branches_in node) ≡ true
branches_fit ls (Residual-F.At place) h = absurd (false≢true h)
branches_fit ls (Residual-F.Hold place) h = absurd (false≢true h)
branches_fit ls (Residual-F.InSeq number s) h = absurd (false≢true h)
branches_fit ls (Residual-F.InPar branches) h = (and_parts _ _ h).1
branches_fit ls (Residual-F.InIf side s) h = absurd (false≢true h)
branches_fit ls (Residual-F.InBody s) h = absurd (false≢true h)
branches_fit ls (Residual-F.InScope stores s) h = absurd (false≢true h)
branches_fit ls (Residual-F.InCall number) h = absurd (false≢true h)

pub held_fits : (hold : Option ℕ) (l : Layout) (r : Residual) (node : Residual-F Residual) → fits_or_holds hold l node ≡ true → holds_in node ≡ false → l.fits (inner_or r node) ≡ true
held_fits hold l r (Residual-F.At place) h e = absurd (false≢true h)
held_fits hold l r (Residual-F.Hold place) h e = absurd (false≢true (sym e))
held_fits hold l r (Residual-F.InSeq member s) h e = absurd (false≢true h)
held_fits hold l r (Residual-F.InPar branches) h e = absurd (false≢true h)
held_fits hold l r (Residual-F.InIf side s) h e = absurd (false≢true h)
held_fits hold l r (Residual-F.InBody s) h e = h
held_fits hold l r (Residual-F.InScope stores s) h e = absurd (false≢true h)
held_fits hold l r (Residual-F.InCall number) h e = absurd (false≢true h)
