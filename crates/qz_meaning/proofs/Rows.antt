-- A row of inputs has a value for each input.
use Rattle.std.proofs.Common.{◌≡◌, ℕ, true, List, [], ◌∷◌, length, refl, arith}
use Rattle.std.proofs.lemmas.Bool.{false≢true, and_parts}
use Rattle.qz_values.specs.declared.Value.{Value}
use Rattle.qz_syntax.specs.declared.expressions.Var.TheVariants as var
use Rattle.qz_meaning.specs.Programs.{Program}
use Rattle.qz_meaning.specs.Configurations.{is_of_type, are_inputs}

pub inputs_long : (p : Program) (inputs : List ℕ) (values : List Value) → are_inputs p inputs values ≡ true → length values ≡ length inputs
inputs_long p [] [] h = refl
inputs_long p [] (v ∷ values) h = absurd (false≢true h)
inputs_long p (n ∷ inputs) [] h = absurd (false≢true h)
inputs_long p (n ∷ inputs) (v ∷ values) h = let more : length values ≡ length inputs = inputs_long p inputs values (and_parts (is_of_type (p.type_of (var.Formal n)) v) (are_inputs p inputs values) h).1 in omega (arith, more)
