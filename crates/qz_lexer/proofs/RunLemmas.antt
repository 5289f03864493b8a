-- Whole runs: how one is found, and that a text begins with one at most.
use Rattle.std.proofs.Common.{◌≡◌, ℕ, ◌+◌, Bool, true, false, ◌&&◌, List, [], ◌∷◌, ◌++◌, sym, refl, ap, ◌∙◌, subst, arith}
use Rattle.std.specs.List.{list_all}
use Rattle.std.proofs.lemmas.Bool.{and_parts, both_ways}
use Rattle.qz_lexer.specs.Runs.{Stops, IsRun, Skips}

-- no character passes
pub skips_none : (p : ℕ → Bool) (text : List ℕ) → Stops p text → Skips p text 0 text
skips_none p text stops = record { run = []; split = refl; whole = record { each = refl; stops = stops }; count = refl }

-- a character that passes begins a run that is one longer
pub skips_more : (p : ℕ → Bool) (c : ℕ) (text rest : List ℕ) (n : ℕ) → p c ≡ true → Skips p text n rest → Skips p (c ∷ text) (n + 1) rest
skips_more p c text rest n passes s = record {
  run = c ∷ s.run;
  split = ap (λ l. c ∷ l) s.split;
  whole = record { each = ap (λ b. b && list_all p s.run) passes ∙ s.whole.each; stops = s.whole.stops };
  count = (let e = s.count in omega arith);
}

-- where the first character doesn't pass
pub stops_cons : (p : ℕ → Bool) (text rest : List ℕ) (c : ℕ) → text ≡ c ∷ rest → p c ≡ false → Stops p text
stops_cons p text rest c is refused = subst (Stops p) (sym is) refused

-- what a loop's invariant gives where the run ends
pub skips_at_none : (p : ℕ → Bool) (all text : List ℕ) (n : ℕ) → ((m : ℕ) (after : List ℕ) → Skips p text m after → Skips p all (n + m) after) → Stops p text → Skips p all n text
skips_at_none p all text n goes_on stops = let sum : n + 0 ≡ n = omega arith in subst (λ m. Skips p all m text) sum (goes_on 0 text (skips_none p text stops))

-- a whole run without its first character
pub run_tail : (p : ℕ → Bool) (c : ℕ) (run rest : List ℕ) → IsRun p (c ∷ run) rest → IsRun p run rest
run_tail p c run rest whole = record { each = (and_parts (p c) (list_all p run) whole.each).1; stops = whole.stops }

pub run_head : (p : ℕ → Bool) (c : ℕ) (run rest : List ℕ) → IsRun p (c ∷ run) rest → p c ≡ true
run_head p c run rest whole = (and_parts (p c) (list_all p run) whole.each).0

-- a text begins with one whole run
pub run_same : (p : ℕ → Bool) (a b r s : List ℕ) → IsRun p a r → IsRun p b s → a ++ r ≡ b ++ s → (a ≡ b) × (r ≡ s)
run_same p [] [] r s whole other e = (refl, e)
run_same p [] (d ∷ b) r s whole other e =
    absurd (both_ways (p d) (subst (Stops p) e whole.stops) (run_head p d b s other))
run_same p (c ∷ a) [] r s whole other e =
    absurd (both_ways (p c) (subst (Stops p) (sym e) other.stops) (run_head p c a r whole))
run_same p (c ∷ a) (d ∷ b) r s whole other e =
    let head : c ≡ d = cc in
    let tail : a ++ r ≡ b ++ s = cc in
    let rest = run_same p a b r s (run_tail p c a r whole) (run_tail p d b s other) tail in
    let first : (c ∷ a) ≡ (d ∷ b) = cc (rest.0) in
    (first, rest.1)

-- the run of a text whose first character passes has that character
pub run_begins : (p : ℕ → Bool) (c : ℕ) (cs run rest : List ℕ) → p c ≡ true → IsRun p run rest → run ++ rest ≡ c ∷ cs → (more : List ℕ) × (run ≡ c ∷ more)
run_begins p c cs [] rest passes whole e = absurd (both_ways (p c) (subst (Stops p) e whole.stops) passes)
run_begins p c cs (d ∷ run) rest passes whole e = (run, (let head : d ≡ c = cc in ap (λ x. x ∷ run) head))
