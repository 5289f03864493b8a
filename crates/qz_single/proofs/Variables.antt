-- Variables that the derived test finds equal are one.
use Rattle.std.proofs.Common.{◌≡◌, refl}
use Rattle.qz_syntax.specs.declared.expressions.Var.{Var}
use Rattle.qz_syntax.specs.declared.expressions.Var.TheVariants as var
use Rattle.qz_syntax.specs.contracts.expressions.VarPartialEq.TheImpl.{eq-value}
use Rattle.qz_meaning.specs.Instances.{is_same_variable}

pub same_test : (x y : Var) → (eq-value).it x y ≡ is_same_variable x y
same_test (var.Formal m) (var.Formal n) = refl
same_test (var.Formal m) (var.Local n) = refl
same_test (var.Formal m) (var.Bound n) = refl
same_test (var.Local m) (var.Formal n) = refl
same_test (var.Local m) (var.Local n) = refl
same_test (var.Local m) (var.Bound n) = refl
same_test (var.Bound m) (var.Formal n) = refl
same_test (var.Bound m) (var.Local n) = refl
same_test (var.Bound m) (var.Bound n) = refl
