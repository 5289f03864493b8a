-- What the test of keys finds equal is equal, and is what spots are told apart by.
use Rattle.std.proofs.Common.{◌≡◌, true, ◌&&◌, nat_eq, refl, sym, ap}
use Rattle.std.proofs.lemmas.Bool.{and_parts, eqb-true}
use Rattle.qz_syntax.specs.declared.places.Mark.{Mark}
use Rattle.qz_syntax.specs.declared.places.Mark.TheVariants as mark
use Rattle.qz_syntax.specs.contracts.places.MarkPartialEq.TheImpl as marks
use Rattle.qz_meaning.specs.Instances.{is_same_mark}
use Rattle.qz_meaning.proofs.Finding.{same_mark}
use Rattle.qz_moves.specs.declared.spots.Rest.{Rest}
use Rattle.qz_moves.specs.declared.spots.Rest.TheVariants as rest
use Rattle.qz_moves.specs.contracts.spots.RestPartialEq.TheImpl.{eq-value}
use Rattle.qz_moves.specs.Appended.{spot_of}
use Rattle.qz_local.specs.Joined.{says}

mark_test : (x y : Mark) → (marks.eq-value).it x y ≡ is_same_mark x y
mark_test mark.Here mark.Here = refl
mark_test mark.Here mark.Zero = refl
mark_test mark.Here (mark.Loop n) = refl
mark_test mark.Zero mark.Here = refl
mark_test mark.Zero mark.Zero = refl
mark_test mark.Zero (mark.Loop n) = refl
mark_test (mark.Loop m) mark.Here = refl
mark_test (mark.Loop m) mark.Zero = refl
mark_test (mark.Loop m) (mark.Loop n) = refl

pub says_test : (one key : Rest) → says one (spot_of key) ≡ (eq-value).it key one
says_test (rest.At p) (rest.At q) = refl
says_test (rest.At p) (rest.Keeps k l) = refl
says_test (rest.Keeps n m) (rest.At q) = refl
says_test (rest.Keeps n m) (rest.Keeps k l) = ap (λ b. nat_eq k n && b) (sym (mark_test l m))

pub same_rest : (x y : Rest) → (eq-value).it x y ≡ true → x ≡ y
same_rest (rest.At p) (rest.At q) h = ap rest.At (eqb-true p q h)
same_rest (rest.Keeps n m) (rest.Keeps k l) h =
    let parts = and_parts (nat_eq n k) ((marks.eq-value).it m l) h in
    let numbers : n ≡ k = eqb-true n k parts.0 in
    let same : m ≡ l = same_mark m l (rw (← mark_test) parts.1) in
    λ i. rest.Keeps (numbers i) (same i)
same_rest x y h = cc
