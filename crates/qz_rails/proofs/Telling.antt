-- What is told by the rails of an operator.
use Rattle.std.proofs.Common.{ℕ, ◌+◌, ◌-◌, ◌%◌, ◌^◌, ◌<◌, ◌≤◌, ◌≡◌, Bool, true, false, not, ◌&&◌, ◌||◌, List, [], ◌∷◌, length, map, refl, sym, ap, ◌∙◌, subst, arith, ⊎_elim, nat_lt, nat_le, bit_and, bit_or, bit_xor}
use Rattle.std.proofs.lemmas.Bool.{cases_lt, lt-ltb, le-ltb, le-leb, lt-leb}
use Rattle.std.proofs.lemmas.Nat.{and_le_l, or_lt, xor_lt}
use Rattle.std.proofs.Math.Nat.{mod-eq_of_lt}
use Rattle.qz_dd.specs.declared.node.DdId.{DdId}
use Rattle.qz_dd.specs.Tables.{Reading}
use Rattle.qz_values.specs.declared.Ty.{Ty}
use Rattle.qz_values.specs.declared.Ty.TheVariants.{Bool as Truth, Bv}
use Rattle.qz_values.specs.declared.Value.{Value}
use Rattle.qz_values.specs.declared.Know.TheVariants.{Known}
use Rattle.qz_values.specs.declared.Op2.{Op2}
use Rattle.qz_values.specs.declared.Op2.TheVariants.{And, Or, Xor, Imp, Add, Sub, Eq, Ne, Lt, Le, Gt, Ge}
use Rattle.qz_values.specs.Types.{width_of}
use Rattle.qz_values.specs.Values.{value_of, wrapped, truth_of}
use Rattle.qz_values.specs.Tables.{takes2, gives2}
use Rattle.qz_values.specs.Operators.{value2}
use Rattle.qz_values.specs.Knowledge.{apply2_of, left_decides, right_decides}
use Rattle.qz_rails.specs.Bits.{number_of, bits_in, same_from}
use Rattle.qz_rails.specs.Sums.{less_from}
use Rattle.qz_rails.specs.Rails.{told}
use Rattle.qz_rails.specs.Operators.{bits2, is_early, known_by}
use Rattle.qz_rails.proofs.BitNumbers.{number_fits, number_not, number_and, number_or, number_xor, same_number, less_number, number_sum}

fitting : (t : Ty) (n : ℕ) → n < 2 ^ width_of t → value_of t n ≡ wrapped t n
fitting t n h = ap (value_of t) (sym (mod-eq_of_lt h))

truth_bit : (b : Bool) → value_of Truth (number_of (b ∷ [])) ≡ truth_of b
truth_bit true = refl
truth_bit false = refl

fits : (t : Ty) (xs : List Bool) → length xs ≡ width_of t → number_of xs < 2 ^ width_of t
fits t xs e = let P : ℕ → Type 0 = λ n. number_of xs < 2 ^ n in subst P e (number_fits xs)

not_length : (xs : List Bool) → length (map not xs) ≡ length xs
not_length [] = refl
not_length (x ∷ xs) = let r = not_length xs in omega (arith, r)

less_or_same : (m n : ℕ) → nat_lt m (n + 1) ≡ nat_le m n
less_or_same m n = ⊎_elim
    (λ (l : m < n + 1). lt-ltb m (n + 1) l ∙ sym (le-leb m n (omega (arith, l))))
    (λ (g : n + 1 ≤ m). le-ltb m (n + 1) g ∙ sym (lt-leb m n (omega (arith, g))))
    (cases_lt m (n + 1))

bits_mean : (op : Op2) (t : Ty) (xs ys : List Bool) → takes2 op t ≡ true → length xs ≡ width_of t → length ys ≡ width_of t →
    value_of (gives2 op t) (number_of (bits2 op xs ys)) ≡ value2 op (value_of t (number_of xs)) (value_of t (number_of ys))
bits_mean And t xs ys h e f =
    let a = fits t xs e in let b = and_le_l (number_of xs) (number_of ys) in
    ap (value_of t) (number_and xs ys (e ∙ sym f)) ∙ fitting t (bit_and (number_of xs) (number_of ys)) (omega (arith, a, b))
bits_mean Or t xs ys h e f =
    ap (value_of t) (number_or xs ys (e ∙ sym f)) ∙ fitting t (bit_or (number_of xs) (number_of ys)) (or_lt (width_of t) (number_of xs) (number_of ys) (fits t xs e) (fits t ys f))
bits_mean Xor t xs ys h e f =
    ap (value_of t) (number_xor xs ys (e ∙ sym f)) ∙ fitting t (bit_xor (number_of xs) (number_of ys)) (xor_lt (width_of t) (number_of xs) (number_of ys) (fits t xs e) (fits t ys f))
bits_mean Imp Truth (true ∷ []) (true ∷ []) h e f = refl
bits_mean Imp Truth (true ∷ []) (false ∷ []) h e f = refl
bits_mean Imp Truth (false ∷ []) (true ∷ []) h e f = refl
bits_mean Imp Truth (false ∷ []) (false ∷ []) h e f = refl
bits_mean Imp Truth [] ys h e f = absurd (omega arith)
bits_mean Imp Truth (x ∷ x' ∷ xs) ys h e f = absurd (omega arith)
bits_mean Imp Truth (x ∷ []) [] h e f = absurd (omega arith)
bits_mean Imp Truth (x ∷ []) (y ∷ y' ∷ ys) h e f = absurd (omega arith)
bits_mean Imp (Bv w) xs ys h e f = absurd cc
bits_mean Add t xs ys h e f =
    ap (value_of t) (number_sum false xs ys (e ∙ sym f) ∙ ap (λ n. (number_of xs + number_of ys + 0) % 2 ^ n) e ∙ ap (λ n. n % 2 ^ width_of t) (omega arith))
bits_mean Sub t xs ys h e f =
    let n = number_not ys in
    let b = fits t ys f in
    let small : number_of ys % 2 ^ width_of t ≡ number_of ys = mod-eq_of_lt b in
    let w : 2 ^ length ys ≡ 2 ^ width_of t = ap (λ n. 2 ^ n) f in
    let one : number_of xs + number_of (map not ys) + 1 ≡ number_of xs + (2 ^ width_of t - number_of ys % 2 ^ width_of t) = omega (arith, n, b, small, w) in
    ap (value_of t) (number_sum true xs (map not ys) (e ∙ sym f ∙ sym (not_length ys)) ∙ ap (λ n. (number_of xs + number_of (map not ys) + 1) % 2 ^ n) e ∙ ap (λ n. n % 2 ^ width_of t) one)
bits_mean Eq t xs ys h e f = truth_bit (same_from true xs ys) ∙ ap truth_of (same_number true xs ys (e ∙ sym f))
bits_mean Ne t xs ys h e f = truth_bit (not (same_from true xs ys)) ∙ ap (λ b. truth_of (not b)) (same_number true xs ys (e ∙ sym f))
bits_mean Lt t xs ys h e f = truth_bit (less_from false xs ys) ∙ ap truth_of (less_number false xs ys (e ∙ sym f) ∙ ap (nat_lt (number_of xs)) (omega arith))
bits_mean Le t xs ys h e f = truth_bit (less_from true xs ys) ∙ ap truth_of (less_number true xs ys (e ∙ sym f) ∙ less_or_same (number_of xs) (number_of ys))
bits_mean Gt t xs ys h e f = truth_bit (less_from false ys xs) ∙ ap truth_of (less_number false ys xs (f ∙ sym e) ∙ ap (nat_lt (number_of ys)) (omega arith))
bits_mean Ge t xs ys h e f = truth_bit (less_from true ys xs) ∙ ap truth_of (less_number true ys xs (f ∙ sym e) ∙ less_or_same (number_of ys) (number_of xs))

-- where neither operand decides alone
strict : (op : Op2) (ac ak bc bk : Bool) (u v w : Value) → left_decides op (told ac ak v) ≡ false → right_decides op (told bc bk w) ≡ false → u ≡ value2 op v w →
    told (ac || bc) (ak && bk) u ≡ apply2_of op (told ac ak v) (told bc bk w)
strict op true ak bc bk u v w l r e = refl
strict op false true true bk u v w l r e = refl
strict op false false true bk u v w l r e = refl
strict op false true false true u v w l r e = rw (l, r) (ap Known e)
strict op false true false false u v w l r e = rw (l, r) refl
strict op false false false true u v w l r e = rw (l, r) refl
strict op false false false false u v w l r e = rw (l, r) refl

left_open : (op : Op2) (t : Ty) → is_early op t ≡ false → (c k : Bool) (n : ℕ) → left_decides op (told c k (value_of t n)) ≡ false
left_open And Truth h c k n = absurd cc
left_open Or Truth h c k n = absurd cc
left_open Imp Truth h c k n = absurd cc
left_open And (Bv w) h true k n = refl
left_open And (Bv w) h false true n = refl
left_open And (Bv w) h false false n = refl
left_open Or (Bv w) h true k n = refl
left_open Or (Bv w) h false true n = refl
left_open Or (Bv w) h false false n = refl
left_open Imp (Bv w) h true k n = refl
left_open Imp (Bv w) h false true n = refl
left_open Imp (Bv w) h false false n = refl
left_open op t h c k n = refl

right_open : (op : Op2) (t : Ty) → is_early op t ≡ false → (c k : Bool) (n : ℕ) → right_decides op (told c k (value_of t n)) ≡ false
right_open And Truth h c k n = absurd cc
right_open Or Truth h c k n = absurd cc
right_open Imp Truth h c k n = absurd cc
right_open And (Bv w) h true k n = refl
right_open And (Bv w) h false true n = refl
right_open And (Bv w) h false false n = refl
right_open Or (Bv w) h true k n = refl
right_open Or (Bv w) h false true n = refl
right_open Or (Bv w) h false false n = refl
right_open Imp (Bv w) h true k n = refl
right_open Imp (Bv w) h false true n = refl
right_open Imp (Bv w) h false false n = refl
right_open op t h c k n = refl

abbrev Shortcut : Op2 → Bool → Bool → Bool → Bool → Bool → Bool → Type 0
Shortcut op ac ak x bc bk y =
    told (ac || bc) (known_by op Truth ak (x ∷ []) bk (y ∷ [])) (value_of (gives2 op Truth) (number_of (bits2 op (x ∷ []) (y ∷ [])))) ≡
    apply2_of op (told ac ak (value_of Truth (number_of (x ∷ [])))) (told bc bk (value_of Truth (number_of (y ∷ []))))

shortcut_and : (ac ak x bc bk y : Bool) → Shortcut And ac ak x bc bk y
shortcut_and true ak x bc bk y = refl
shortcut_and false true true true bk y = refl
shortcut_and false true false true bk y = refl
shortcut_and false false true true bk y = refl
shortcut_and false false false true bk y = refl
shortcut_and false true true false true true = refl
shortcut_and false true true false true false = refl
shortcut_and false true false false true true = refl
shortcut_and false true false false true false = refl
shortcut_and false true true false false y = refl
shortcut_and false true false false false y = refl
shortcut_and false false true false true true = refl
shortcut_and false false false false true true = refl
shortcut_and false false true false true false = refl
shortcut_and false false false false true false = refl
shortcut_and false false true false false y = refl
shortcut_and false false false false false y = refl

shortcut_or : (ac ak x bc bk y : Bool) → Shortcut Or ac ak x bc bk y
shortcut_or true ak x bc bk y = refl
shortcut_or false true true true bk y = refl
shortcut_or false true false true bk y = refl
shortcut_or false false true true bk y = refl
shortcut_or false false false true bk y = refl
shortcut_or false true true false true true = refl
shortcut_or false true true false true false = refl
shortcut_or false true false false true true = refl
shortcut_or false true false false true false = refl
shortcut_or false true true false false y = refl
shortcut_or false true false false false y = refl
shortcut_or false false true false true true = refl
shortcut_or false false false false true true = refl
shortcut_or false false true false true false = refl
shortcut_or false false false false true false = refl
shortcut_or false false true false false y = refl
shortcut_or false false false false false y = refl

shortcut_imp : (ac ak x bc bk y : Bool) → Shortcut Imp ac ak x bc bk y
shortcut_imp true ak x bc bk y = refl
shortcut_imp false true true true bk y = refl
shortcut_imp false true false true bk y = refl
shortcut_imp false false true true bk y = refl
shortcut_imp false false false true bk y = refl
shortcut_imp false true true false true true = refl
shortcut_imp false true true false true false = refl
shortcut_imp false true false false true true = refl
shortcut_imp false true false false true false = refl
shortcut_imp false true true false false y = refl
shortcut_imp false true false false false y = refl
shortcut_imp false false true false true true = refl
shortcut_imp false false false false true true = refl
shortcut_imp false false true false true false = refl
shortcut_imp false false false false true false = refl
shortcut_imp false false true false false y = refl
shortcut_imp false false false false false y = refl

abbrev Tells : Op2 → Ty → Bool → Bool → List Bool → Bool → Bool → List Bool → Type 0
Tells op t ac ak xs bc bk ys =
    told (ac || bc) (known_by op t ak xs bk ys) (value_of (gives2 op t) (number_of (bits2 op xs ys))) ≡
    apply2_of op (told ac ak (value_of t (number_of xs))) (told bc bk (value_of t (number_of ys)))

tells_open : (op : Op2) (t : Ty) → is_early op t ≡ false → (ac ak : Bool) (xs : List Bool) (bc bk : Bool) (ys : List Bool) →
    takes2 op t ≡ true → length xs ≡ width_of t → length ys ≡ width_of t → Tells op t ac ak xs bc bk ys
tells_open op t open_is ac ak xs bc bk ys h e f =
    let is : known_by op t ak xs bk ys ≡ ak && bk = rw open_is refl in
    ap (λ k. told (ac || bc) k (value_of (gives2 op t) (number_of (bits2 op xs ys)))) is ∙
    strict op ac ak bc bk (value_of (gives2 op t) (number_of (bits2 op xs ys))) (value_of t (number_of xs)) (value_of t (number_of ys))
    (left_open op t open_is ac ak (number_of xs)) (right_open op t open_is bc bk (number_of ys)) (bits_mean op t xs ys h e f)

singles : (P : List Bool → List Bool → Type 0) → ((x y : Bool) → P (x ∷ []) (y ∷ [])) → (xs ys : List Bool) → length xs ≡ 1 → length ys ≡ 1 → P xs ys
singles P all (x ∷ []) (y ∷ []) e f = all x y
singles P all [] ys e f = absurd (omega arith)
singles P all (x ∷ x' ∷ xs) ys e f = absurd (omega arith)
singles P all (x ∷ []) [] e f = absurd (omega arith)
singles P all (x ∷ []) (y ∷ y' ∷ ys) e f = absurd (omega arith)

pub tells2 : (op : Op2) (t : Ty) (ac ak : Bool) (xs : List Bool) (bc bk : Bool) (ys : List Bool) →
    takes2 op t ≡ true → length xs ≡ width_of t → length ys ≡ width_of t → Tells op t ac ak xs bc bk ys
tells2 And Truth ac ak xs bc bk ys h e f = singles (λ xs ys. Tells And Truth ac ak xs bc bk ys) (λ x y. shortcut_and ac ak x bc bk y) xs ys e f
tells2 Or Truth ac ak xs bc bk ys h e f = singles (λ xs ys. Tells Or Truth ac ak xs bc bk ys) (λ x y. shortcut_or ac ak x bc bk y) xs ys e f
tells2 Imp Truth ac ak xs bc bk ys h e f = singles (λ xs ys. Tells Imp Truth ac ak xs bc bk ys) (λ x y. shortcut_imp ac ak x bc bk y) xs ys e f
tells2 And (Bv w) ac ak xs bc bk ys h e f = tells_open And (Bv w) refl ac ak xs bc bk ys h e f
tells2 Or (Bv w) ac ak xs bc bk ys h e f = tells_open Or (Bv w) refl ac ak xs bc bk ys h e f
tells2 Imp (Bv w) ac ak xs bc bk ys h e f = tells_open Imp (Bv w) refl ac ak xs bc bk ys h e f
tells2 op t ac ak xs bc bk ys h e f = tells_open op t refl ac ak xs bc bk ys h e f

pub bits_length : (reading : Reading) (xs : List DdId) → length (bits_in reading xs) ≡ length xs
bits_length reading [] = refl
bits_length reading (x ∷ xs) = let r = bits_length reading xs in omega (arith, r)

-- the same, by equations
pub tells2_by : (op : Op2) (t : Ty) (a b r : Bool × Bool × List Bool) →
    r.0 ≡ a.0 || b.0 → r.1 ≡ known_by op t a.1 a.2 b.1 b.2 → r.2 ≡ bits2 op a.2 b.2 →
    takes2 op t ≡ true → length a.2 ≡ width_of t → length b.2 ≡ width_of t →
    told r.0 r.1 (value_of (gives2 op t) (number_of r.2)) ≡ apply2_of op (told a.0 a.1 (value_of t (number_of a.2))) (told b.0 b.1 (value_of t (number_of b.2)))
tells2_by op t a b r clash known bits h e f = rw (clash, known, bits) (tells2 op t a.0 a.1 a.2 b.0 b.1 b.2 h e f)
