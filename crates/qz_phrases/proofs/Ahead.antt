-- Words that are the same up to a place.
use Rattle.std.proofs.Common.{◌≡◌, ℕ, zero, suc, ◌≤◌, List, [], ◌∷◌, take, drop, sym, refl, ap, subst, ◌∙◌, add-one, arith}
use Rattle.qz_phrases.specs.declared.words.Spot.{Spot}
use Rattle.qz_phrases.specs.declared.cursor.Cursor.{Cursor}
use Rattle.qz_phrases.specs.Words.{first}
use Rattle.qz_phrases.specs.Reading.{upcoming, Agrees, Moves}

same_first : (xs ys : List Spot) (at n : ℕ) → take (suc n) xs ≡ take (suc n) ys → at ≤ n → first (drop at xs) ≡ first (drop at ys)
same_first [] [] at n e low = refl
same_first [] (y ∷ ys) at n e low = absurd (cc)
same_first (x ∷ xs) [] at n e low = absurd (cc)
same_first (x ∷ xs) (y ∷ ys) zero n e low = let same : x ≡ y = cc in ap (λ (s : Spot). first (s ∷ [])) same
same_first (x ∷ xs) (y ∷ ys) (suc at) zero e low = absurd (omega arith)
same_first (x ∷ xs) (y ∷ ys) (suc at) (suc n) e low = same_first xs ys at n (cc) (omega arith)

same_before : (xs ys : List Spot) (m n : ℕ) → take (suc n) xs ≡ take (suc n) ys → m ≤ n → take (suc m) xs ≡ take (suc m) ys
same_before [] [] m n e low = refl
same_before [] (y ∷ ys) m n e low = absurd (cc)
same_before (x ∷ xs) [] m n e low = absurd (cc)
same_before (x ∷ xs) (y ∷ ys) zero n e low = let same : x ≡ y = cc in ap (λ (w : Spot). w ∷ []) same
same_before (x ∷ xs) (y ∷ ys) (suc m) zero e low = absurd (omega arith)
same_before (x ∷ xs) (y ∷ ys) (suc m) (suc n) e low = let later = same_before xs ys m n (cc) (omega arith) in cc

same_spot : (xs ys : List Spot) (at n : ℕ) (s : Spot) (more : List Spot) → take (suc n) xs ≡ take (suc n) ys → at ≤ n → drop at ys ≡ s ∷ more → drop at xs ≡ s ∷ drop (suc at) xs
same_spot [] [] zero n s more e low is = absurd (cc)
same_spot [] [] (suc at) n s more e low is = absurd (cc)
same_spot [] (y ∷ ys) at n s more e low is = absurd (cc)
same_spot (x ∷ xs) [] at n s more e low is = absurd (cc)
same_spot (x ∷ xs) (y ∷ ys) zero n s more e low is = let same : x ≡ y = cc in let next : y ≡ s = cc in ap (λ (w : Spot). w ∷ xs) (same ∙ next)
same_spot (x ∷ xs) (y ∷ ys) (suc at) zero s more e low is = absurd (omega arith)
same_spot (x ∷ xs) (y ∷ ys) (suc at) (suc n) s more e low is = same_spot xs ys at n s more (cc) (omega arith) is

pub agrees_before : (old new : Cursor) (others : List Spot) → Moves old new → Agrees new others → Agrees old others
agrees_before old new others moves agrees = record {
  same = subst (λ n. take n others ≡ take n old.words.now) (sym (add-one old.read))
      (subst (λ ws. take (suc old.read) others ≡ take (suc old.read) ws) moves.words
      (same_before others new.words.now old.read new.read (subst (λ n. take n others ≡ take n new.words.now) (add-one new.read) agrees.same) moves.onward));
}

-- other words have the next word of a cursor too
pub agrees_here : (cursor : Cursor) (others : List Spot) → Agrees cursor others → first (drop cursor.read others) ≡ first (upcoming cursor)
agrees_here cursor others agrees = same_first others cursor.words.now cursor.read cursor.read
    (subst (λ n. take n others ≡ take n cursor.words.now) (add-one cursor.read) agrees.same) (omega arith)

pub agrees_spot : (cursor : Cursor) (others : List Spot) (s : Spot) (more : List Spot) → Agrees cursor others → upcoming cursor ≡ s ∷ more → drop cursor.read others ≡ s ∷ drop (suc cursor.read) others
agrees_spot cursor others s more agrees is = same_spot others cursor.words.now cursor.read cursor.read s more
    (subst (λ n. take n others ≡ take n cursor.words.now) (add-one cursor.read) agrees.same) (omega arith) is

pub moves_on : (a b c : Cursor) → Moves a b → Moves b c → Moves a c
moves_on a b c first second = record { words = second.words ∙ first.words; onward = omega (arith, first.onward, second.onward) }

pub still : {s : Cursor} → Moves s s
still = record { words = refl; onward = omega arith }
