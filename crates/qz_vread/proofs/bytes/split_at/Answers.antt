use Rattle.std.proofs.Common.{◌≡◌, ℕ, suc, ◌+◌, ◌-◌, ◌<◌, true, not, ◌==◌, List, ◌∷◌, ◌++◌, length, take, drop, get_or, sym, ap, ◌∙◌, drop-cons, add-one, take-append-drop, take_all, length-drop, arith}
use Rattle.std.proofs.lemmas.Bool.{and_from, not_from_false, false_from_ne_true, eqb-true}
use Rattle.std.proofs.lemmas.List.Folds.{list_all_more}
use Rattle.qz_vread.specs.Parts.{lacks, IsSplit}
use Rattle.qz_vread.proofs.bytes.split_at.Goals as goal

split_there : (mark : ℕ) (bytes : List ℕ) (at : ℕ) → at < length bytes → get_or bytes at 0 ≡ mark → lacks mark (take at bytes) ≡ true
    → IsSplit mark bytes (take at bytes) (take (length bytes - (at + 1)) (drop (at + 1) bytes))
split_there mark bytes at below same first = record {
  whole =
      sym (take-append-drop at bytes)
      ∙ ap (λ later. take at bytes ++ later) (drop-cons bytes at 0 below ∙ ap (λ b. b ∷ drop (suc at) bytes) same ∙ ap (λ k. mark ∷ drop k bytes) (sym (add-one at)))
      ∙ ap (λ later. take at bytes ++ mark ∷ later) (sym (take_all (length bytes - (at + 1)) (drop (at + 1) bytes) (omega (arith, length-drop (at + 1) bytes))));
  first = first;
}

one_more : (mark : ℕ) (bytes : List ℕ) (at : ℕ) → at < length bytes → (get_or bytes at 0 ≡ mark → ⊥) → lacks mark (take at bytes) ≡ true → lacks mark (take (at + 1) bytes) ≡ true
one_more mark bytes at below other so_far =
    list_all_more (λ byte. not (byte == mark)) bytes at 0 below
    ∙ and_from (lacks mark (take at bytes)) (not (get_or bytes at 0 == mark)) so_far
    (not_from_false (get_or bytes at 0 == mark) (false_from_ne_true (get_or bytes at 0 == mark) (λ same. other (eqb-true (get_or bytes at 0) mark same))))

pub returns-then-byte-mark : goal.returns-then-byte-mark
returns-then-byte-mark c = split_there c.args.mark c.args.bytes.now c.loop-at.at c.loop-at-test.true c.if-byte-mark.true c.loop-at.invariant

pub loop-at-preserved : goal.loop-at-preserved
loop-at-preserved c = one_more c.args.mark c.args.bytes.now c.loop-at.at c.loop-at-test.true c.if-byte-mark.false c.loop-at.invariant
