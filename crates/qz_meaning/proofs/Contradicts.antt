use Rattle.std.proofs.Common.{◌≡◌, ℕ, suc, [], ◌∷◌, false, sym, ◌∙◌}
use Rattle.qz_values.specs.declared.Know.TheVariants.{Clash}
use Rattle.qz_syntax.specs.declared.expressions.Expr.TheVariants as expr
use Rattle.qz_syntax.specs.declared.expressions.Var.TheVariants as var
use Rattle.qz_syntax.specs.declared.places.Later.TheVariants as later
use Rattle.qz_meaning.specs.Instances.{formal_instance}
use Rattle.qz_meaning.specs.Layouts.{bare}
use Rattle.qz_meaning.specs.Simple.{assignment}
use Rattle.qz_meaning.specs.Parallels.{parallel, parallel_layout}
use Rattle.qz_meaning.specs.Residing.{residing}
use Rattle.qz_meaning.specs.Configurations.{initial}
use Rattle.qz_meaning.specs.Settling.{Environment}
use Rattle.qz_meaning.specs.Rounds.{round, next_round}
use Rattle.qz_meaning.specs.Examples.{byte}
use Rattle.qz_meaning.specs.WriterExamples.{Contradicts, contradicting}
use Rattle.qz_meaning.proofs.Walking.{walking, laying}
use Rattle.qz_meaning.proofs.Situations.{WrittenOut, round_now, round_later, agree_by}
use Rattle.qz_meaning.proofs.Evaluating.{evaluating}

abbrev contradicted : WrittenOut contradicting
contradicted = record {
  does = λ step.
      parallel (residing step)
      (assignment step.now (residing step) false (var.Formal 0) (expr.Lit (byte 3))
      ∷ assignment step.now (residing step) false (var.Formal 0) (expr.Lit (byte 4))
      ∷ []);
  lays = parallel_layout (bare ∷ bare ∷ []);
  does_is = λ step. simp walking;
  lays_is = simp laying;
}

-- each round after the first has the clash
next_now : (env : Environment) → (next_round contradicting (initial contradicting) [] env).now (formal_instance 0) ≡ Clash
next_now env = round_now contradicting contradicted (initial contradicting) [] env (formal_instance 0) ∙ simp evaluating

next_later : (env : Environment) → (next_round contradicting (initial contradicting) [] env).later (formal_instance 0) ≡ later.Absent
next_later env = round_later contradicting contradicted (initial contradicting) [] env (formal_instance 0)

clashes : (n : ℕ) → (round contradicting (initial contradicting) [] (suc n)).now (formal_instance 0) ≡ Clash
clashes n = next_now (round contradicting (initial contradicting) [] n)

pub contradicts : Contradicts
contradicts = record {
  last = agree_by contradicting contradicted (initial contradicting) _ _ (
    record {
      now = clashes 0 ∙ sym (clashes 1);
      later = next_later (round contradicting (initial contradicting) [] 0) ∙ sym (next_later (round contradicting (initial contradicting) [] 1));
    },
    tt,
  );
  clashes = clashes 0;
}
