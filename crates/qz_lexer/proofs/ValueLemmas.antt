-- The second part of a literal.
use Rattle.std.proofs.Common.{◌≡◌, ℕ, ◌≤◌, List, ◌∷◌, ◌++◌, length, sym, refl, ap, ◌∙◌, subst}
use Rattle.std.specs.Char.{is_ascii_digit}
use Rattle.qz_lexer.specs.Runs.{Takes, Lacks, Skips}
use Rattle.qz_lexer.specs.Words.{IsValue}
use Rattle.qz_lexer.proofs.RunLemmas.{run_same}

pub no_value_start : (text : List ℕ) → ((rest : List ℕ) → text ≡ 39 ∷ 100 ∷ rest → ⊥) → Lacks IsValue text
no_value_start text none front rest e is = none (is.digits ++ rest) (sym e ∙ ap (λ l. l ++ rest) is.spelled)

-- the digits after 'd are the whole run
pub no_value_count : (text inside after : List ℕ) (n : ℕ) → text ≡ 39 ∷ 100 ∷ inside → Skips is_ascii_digit inside n after → (1 ≤ n → n ≤ 20 → ⊥) → Lacks IsValue text
no_value_count text inside after n e skips none front rest same is =
    let both : 39 ∷ 100 ∷ inside ≡ 39 ∷ 100 ∷ (is.digits ++ rest) = sym e ∙ sym same ∙ ap (λ l. l ++ rest) is.spelled in
    let digits : is.digits ++ rest ≡ skips.run ++ after = (let same_inside : inside ≡ is.digits ++ rest = cc in sym same_inside ∙ skips.split) in
    let run = ap length (run_same is_ascii_digit is.digits skips.run rest after is.number.0 skips.whole digits).0 ∙ skips.count in
    none (subst (λ m. 1 ≤ m) run is.number.1) (subst (λ m. m ≤ 20) run is.number.2)

pub takes_value : (text inside after : List ℕ) (n : ℕ) → text ≡ 39 ∷ 100 ∷ inside → Skips is_ascii_digit inside n after → 1 ≤ n → n ≤ 20 → Takes IsValue text after
takes_value text inside after n e skips some few = record {
  front = 39 ∷ 100 ∷ skips.run;
  split = e ∙ ap (λ l. 39 ∷ 100 ∷ l) skips.split;
  is = record {
    digits = skips.run;
    spelled = refl;
    number = (skips.whole, subst (λ m. 1 ≤ m) (sym skips.count) some, subst (λ m. m ≤ 20) (sym skips.count) few);
  };
}
