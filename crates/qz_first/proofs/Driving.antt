-- Nets that are driven by the entries of a list, one after the other.
use Rattle.std.proofs.Common.{◌≡◌, ℕ, Bool, ◌==◌, ◌&&◌, ◌||◌, List, ◌∷◌, ◌++◌, length, take, drop, get_or, ap, ◌∙◌, subst, sym, arith}
use Rattle.std.proofs.lemmas.Grind.{common_steps}
use Rattle.std.proofs.Math.Bool.{or_assoc}
use Rattle.qz_verilog.specs.declared.nets.Ref.{Ref}
use Rattle.qz_first.specs.BitNets.{Nets, bit_at}
use Rattle.qz_first.specs.Mirror.{Bits, is_driven}
use Rattle.qz_first.specs.Driven.{AreDrivenAfter, IsDrivenMore}

-- a part of a list that is the whole, after a write
pub whole : (n : ℕ) (new old : List Ref) → n ≡ length old → length new ≡ length old → take n (new ++ drop (length new) old) ≡ new
whole n new old all same = grind (arith, common_steps)

pub driven_step : (nets : Nets) (number : ℕ) (more : Ref) (guard : Bool) (rest all : Bits) (old new : List Ref)
    → length new ≡ length old → bit_at nets more ≡ guard → IsDrivenMore nets number more old new
    → AreDrivenAfter nets ((number, guard) ∷ rest) old all → AreDrivenAfter nets rest new all
driven_step nets number more guard rest all old new same is drives before = λ k d within.
    ap (λ b. b || is_driven rest k) (drives k d within ∙ ap (λ b. bit_at nets (get_or old k d) || ((number == k) && b)) is)
    ∙ or_assoc (bit_at nets (get_or old k d)) ((number == k) && guard) (is_driven rest k)
    ∙ before k d (omega arith)

-- the same, over the row as it stood before and with the entry taken from what is left
pub one_more : (nets : Nets) (number : ℕ) (more : Ref) (guard : Bool) (left rest all : Bits) (row old new : List Ref)
    → old ≡ row → length new ≡ length old → bit_at nets more ≡ guard → IsDrivenMore nets number more old new
    → left ≡ (number, guard) ∷ rest → AreDrivenAfter nets left row all → AreDrivenAfter nets rest new all
one_more nets number more guard left rest all row old new same_row same is drives left_is before =
    let P : List Ref → Type 0 = λ r. AreDrivenAfter nets left r all in
    let Q : Bits → Type 0 = λ bits. AreDrivenAfter nets bits old all in
    driven_step nets number more guard rest all old new same is drives (subst Q left_is (subst P (sym same_row) before))
