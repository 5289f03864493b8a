use Rattle.std.proofs.Common.{◌≡◌, ℕ, zero, suc, ◌-◌, List, [], ◌∷◌, ◌++◌, map, take, replicate, vec_len, refl, ap, ap₂, ◌∙◌, arith}
use Rattle.qz_meaning.specs.Verdicts as meaning
use Rattle.qz_interp.specs.declared.verdicts.Verdict.{Verdict}
use Rattle.qz_interp.specs.declared.verdicts.Verdict.TheVariants.{Nobody}
use Rattle.qz_interp.specs.Seeing.{verdict_seen}
use Rattle.qz_interp.proofs.tallies.Tally.make.Goals as goal

take_none : (n : ℕ) → take n (let none : List Verdict = [] in none) ≡ []
take_none zero = refl
take_none (suc n) = refl

all_seen : (n : ℕ) → map verdict_seen (replicate n Nobody) ≡ replicate n meaning.Nobody
all_seen zero = refl
all_seen (suc n) = ap (λ (verdicts : List meaning.Verdict). meaning.Nobody ∷ verdicts) (all_seen n)

-- what no verdicts are filled up to
filled : (n : ℕ) (items old : List Verdict) (len : ℕ) → items ≡ take n old ++ replicate (n - len) Nobody → old ≡ [] → len ≡ 0
    → map verdict_seen items ≡ replicate n meaning.Nobody
filled n items old len is none short =
    let whole : n - 0 ≡ n = omega arith in
    ap (map verdict_seen) (is ∙ ap₂ (λ (xs : List Verdict) (k : ℕ). take n xs ++ replicate (n - k) Nobody) none short ∙ rw (take_none n, whole) refl)
    ∙ all_seen n

pub returns : goal.returns
returns c =
    filled c.args.count c.resize.new.self.items c.new-verdicts.result.items (vec_len c.new-verdicts.result) c.in_ok-resize.ensures.items c.new-verdicts.ensures.items
    c.new-verdicts.ensures.len
