-- The parts of a text that is cut at the first byte that separates.
use Rattle.std.proofs.Common.{arith, ◌≡◌, ◌≢◌, ℕ, zero, suc, Bool, true, false, ◌==◌, List, [], ◌∷◌, ◌++◌, length, cond, refl, sym, ap, ◌∙◌}
use Rattle.std.proofs.lemmas.Bool.{eq-eqb, eqb-true}
use Rattle.std.specs.List.{flat_map}
use Rattle.qz_trace.specs.Lines.{begin_with, parts_of}
use Rattle.qz_trace.specs.Reading.{IsFree}

tested : (a b : ℕ) (t : Bool) → (a == b) ≡ t → a ≢ b → t ≡ false
tested a b true is ne = absurd (ne (eqb-true a b is))
tested a b false is ne = refl

not_eqb : (a b : ℕ) → a ≢ b → (a == b) ≡ false
not_eqb a b ne = tested a b (a == b) refl ne

free_head : (c b : ℕ) (bs : List ℕ) → IsFree c (b ∷ bs) → b ≢ c
free_head c b bs free = free 0 (omega arith)

pub free_tail : (c b : ℕ) (bs : List ℕ) → IsFree c (b ∷ bs) → IsFree c bs
free_tail c b bs free i within = free (suc i) (omega (arith, within))

-- a part that ends
pub parts_cut : (c : ℕ) (part after : List ℕ) → IsFree c part → parts_of c (part ++ (c ∷ after)) ≡ part ∷ parts_of c after
parts_cut c [] after free = ap (λ t. cond t ([] ∷ parts_of c after) (begin_with c (parts_of c after))) (eq-eqb c c refl)
parts_cut c (b ∷ bs) after free =
    ap (λ t. cond t ([] ∷ parts_of c (bs ++ (c ∷ after))) (begin_with b (parts_of c (bs ++ (c ∷ after))))) (not_eqb b c (free_head c b bs free))
    ∙ ap (begin_with b) (parts_cut c bs after (free_tail c b bs free))

-- the last part
pub parts_last : (c : ℕ) (part : List ℕ) → IsFree c part → parts_of c part ≡ part ∷ []
parts_last c [] free = refl
parts_last c (b ∷ bs) free =
    ap (λ t. cond t ([] ∷ parts_of c bs) (begin_with b (parts_of c bs))) (not_eqb b c (free_head c b bs free))
    ∙ ap (begin_with b) (parts_last c bs (free_tail c b bs free))

-- there is always a part
some_part : (c b : ℕ) (bs : List ℕ) (t : Bool) → cond t ([] ∷ parts_of c bs) (begin_with b (parts_of c bs)) ≡ [] → ⊥
some_part c b bs true e = let l = ap length e in omega (arith, l)
some_part c b bs false e = begun b (parts_of c bs) e
  where
    begun : (b : ℕ) (parts : List (List ℕ)) → begin_with b parts ≡ [] → ⊥
    begun b [] e = let l = ap length e in omega (arith, l)
    begun b (p ∷ ps) e = let l = ap length e in omega (arith, l)

pub not_empty : (c : ℕ) (bytes : List ℕ) → parts_of c bytes ≡ [] → ⊥
not_empty c [] e = let l = ap length e in omega (arith, l)
not_empty c (b ∷ bs) e = some_part c b bs (b == c) e

-- parts, and the byte that separates between two
abbrev joined : ℕ → List (List ℕ) → List ℕ
joined c [] = []
joined c (p ∷ ps) = p ++ flat_map (λ q. c ∷ q) ps

joined_begun : (c b : ℕ) (parts : List (List ℕ)) → joined c (begin_with b parts) ≡ b ∷ joined c parts
joined_begun c b [] = refl
joined_begun c b (p ∷ ps) = refl

separated : (c : ℕ) (parts : List (List ℕ)) → (parts ≡ [] → ⊥) → flat_map (λ q. c ∷ q) parts ≡ c ∷ joined c parts
separated c [] some = absurd (some refl)
separated c (p ∷ ps) some = refl

joined_more : (c b : ℕ) (bs : List ℕ) (t : Bool) → (b == c) ≡ t → joined c (parts_of c bs) ≡ bs
    → joined c (cond t ([] ∷ parts_of c bs) (begin_with b (parts_of c bs))) ≡ b ∷ bs
joined_more c b bs true is before =
    separated c (parts_of c bs) (not_empty c bs) ∙ (ap (λ l. c ∷ l) before ∙ ap (λ x. x ∷ bs) (sym (eqb-true b c is)))
joined_more c b bs false is before = joined_begun c b (parts_of c bs) ∙ ap (λ l. b ∷ l) before

joined_parts : (c : ℕ) (bytes : List ℕ) → joined c (parts_of c bytes) ≡ bytes
joined_parts c [] = refl
joined_parts c (b ∷ bs) = joined_more c b bs (b == c) refl (joined_parts c bs)

-- bytes are their parts, joined
pub parts_joined : (c : ℕ) (bytes part : List ℕ) (parts : List (List ℕ)) → parts_of c bytes ≡ part ∷ parts
    → bytes ≡ part ++ flat_map (λ q. c ∷ q) parts
parts_joined c bytes part parts e = sym (joined_parts c bytes) ∙ ap (joined c) e

-- none of a list's bytes separates where its first doesn't, nor any later one
pub free_cons : (c x : ℕ) (l : List ℕ) → x ≢ c → IsFree c l → IsFree c (x ∷ l)
free_cons c x l first later zero within = first
free_cons c x l first later (suc i) within = later i (omega (arith, within))

pub free_append : (c : ℕ) (a b : List ℕ) → IsFree c a → IsFree c b → IsFree c (a ++ b)
free_append c [] b before after = after
free_append c (x ∷ a) b before after =
    free_cons c x (a ++ b) (free_head c x a before) (free_append c a b (free_tail c x a before) after)
