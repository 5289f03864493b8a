-- Where a byte stands, bytes are split in one way.
use Rattle.std.proofs.Common.{◌≡◌, ℕ, true, false, not, ◌==◌, List, [], ◌∷◌, ◌++◌, refl, sym, ap, ◌∙◌}
use Rattle.std.proofs.lemmas.Bool.{and_parts, not-true, eq-eqb, both_ways}
use Rattle.qz_vread.specs.Parts.{lacks, NoFront}

-- a byte isn't the one that is lacked
pub lacked_first : (mark b : ℕ) (bs : List ℕ) → lacks mark (b ∷ bs) ≡ true → b ≡ mark → ⊥
lacked_first mark b bs lacked e = both_ways (b == mark) (not-true (b == mark) (and_parts (not (b == mark)) (lacks mark bs) lacked).0) (eq-eqb b mark e)

-- what has a byte doesn't lack it
pub has_it : (mark : ℕ) (a b : List ℕ) → lacks mark (a ++ mark ∷ b) ≡ true → ⊥
has_it mark [] b lacked = lacked_first mark mark b lacked refl
has_it mark (c ∷ cs) b lacked = has_it mark cs b (and_parts (not (c == mark)) (lacks mark (cs ++ mark ∷ b)) lacked).1

pub record SameSplit (a b r s : List ℕ) : Type 0 where
  pub before : a ≡ b
  pub after : r ≡ s

pub split_once : (mark : ℕ) (a b r s : List ℕ) → lacks mark a ≡ true → lacks mark b ≡ true → a ++ mark ∷ r ≡ b ++ mark ∷ s → SameSplit a b r s
split_once mark [] [] r s la lb e = record { before = refl; after = cc }
split_once mark [] (c ∷ cs) r s la lb e = absurd (let same : c ≡ mark = cc in lacked_first mark c cs lb same)
split_once mark (c ∷ cs) [] r s la lb e = absurd (let same : c ≡ mark = cc in lacked_first mark c cs la same)
split_once mark (c ∷ cs) (d ∷ ds) r s la lb e =
    let heads : c ≡ d = cc in
    let tails : cs ++ mark ∷ r ≡ ds ++ mark ∷ s = cc in
    let rest = split_once mark cs ds r s (and_parts (not (c == mark)) (lacks mark cs) la).1 (and_parts (not (d == mark)) (lacks mark ds) lb).1 tails in
    record { before = ap (λ x. x ∷ cs) heads ∙ ap (λ xs. d ∷ xs) rest.before; after = rest.after }

-- what lacks a byte doesn't begin with it
pub no_front : (mark : ℕ) (bytes : List ℕ) → lacks mark bytes ≡ true → NoFront bytes (mark ∷ [])
no_front mark bytes lacked rest e = has_it mark [] rest (ap (lacks mark) (sym e) ∙ lacked)

-- two lists that begin otherwise
pub heads_differ : (a b : ℕ) (xs ys : List ℕ) → (a == b) ≡ false → a ∷ xs ≡ b ∷ ys → ⊥
heads_differ a b xs ys apart e = let same : a ≡ b = cc in both_ways (a == b) apart (eq-eqb a b same)
