use Rattle.std.proofs.Common.{arith, ◌≡◌, ℕ, ◌==◌, List, [], ◌∷◌, length, refl, sym, ap, ◌∙◌}
use Rattle.std.proofs.lemmas.Bool.{both_ways, eq-eqb, eqb-true}
use Rattle.qz_vread.proofs.Answering.{left_over, too_early, read_whole}
use Rattle.qz_vread.proofs.read.whole.Goals as goal

empty : (bytes : List ℕ) → length bytes ≡ 0 → bytes ≡ []
empty [] e = refl
empty (b ∷ bytes) e = absurd (omega arith)

pub returns-then-not-is_empty : goal.returns-then-not-is_empty
returns-then-not-is_empty c = λ bytes last. left_over bytes c.args.rest.now c.args.draft c.args.line last (λ e. let none : length c.args.rest.now ≡ 0 = ap length e in both_ways (length c.args.rest.now == 0) (sym c.is_empty.ensures ∙ c.if-not-is_empty.true) (eq-eqb (length c.args.rest.now) 0 none))

pub returns-in-Some : goal.returns-in-Some
returns-in-Some c = λ bytes last. read_whole bytes c.args.rest.now c.args.draft c.args.line c.in-Some.m last (empty c.args.rest.now (eqb-true (length c.args.rest.now) 0 (sym c.is_empty.ensures ∙ c.if-not-is_empty.false))) c.in-Some.ensures.0 c.in-Some.ensures.1

pub returns-in-None : goal.returns-in-None
returns-in-None c = λ bytes last. too_early bytes c.args.rest.now c.args.draft c.args.line last (empty c.args.rest.now (eqb-true (length c.args.rest.now) 0 (sym c.is_empty.ensures ∙ c.if-not-is_empty.false))) c.in-None.ensures
