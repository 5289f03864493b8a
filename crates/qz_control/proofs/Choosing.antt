-- What is answered, from what was answered before it.
use Rattle.std.proofs.Common.{◌≡◌, Result, Ok, Err, IfOk, OnOk, sym, ap, ap₂, ◌∙◌}
use Rattle.qz_values.specs.declared.Know.{Know}
use Rattle.qz_values.specs.Knowledge.{either}
use Rattle.qz_syntax.specs.declared.expressions.Expr.{Expr}
use Rattle.qz_syntax.specs.declared.statements.Stmt.{Stmt}
use Rattle.qz_syntax.specs.declared.statements.Stmt.TheOpen.{Stmt-F}
use Rattle.qz_syntax.specs.declared.statements.Stmt.TheFolds.{fold-roll-Stmt}
use Rattle.qz_syntax.specs.declared.statements.Stmt.TheVariants.{If, rolls-If}
use Rattle.qz_meaning.specs.Scenes.{Scene}
use Rattle.qz_meaning.specs.Layouts.{PlaceBits}
use Rattle.qz_control.specs.Mirrors.{Mirror}
use Rattle.qz_control.specs.Mirror.{node_mirror, mirror_of}

pub both_ok : {A E : Type 0} (r : Result A E) (P : A → Type 0) (W : Type 0) (Q : A → Type 0) → IfOk r P → OnOk r W
    → ((x : A) → P x → W → Q x) → IfOk r Q
both_ok (Ok x) P W Q p w f = f x p w
both_ok (Err e) P W Q p w f = p

mirror-If : (scene : Scene) (condition : Expr) (first second : Stmt)
    → mirror_of scene (If condition first second) ≡ node_mirror scene (Stmt-F.If condition (mirror_of scene first) (mirror_of scene second))
mirror-If scene condition first second =
    ap (mirror_of scene) (sym (rolls-If condition first second)) ∙ fold-roll-Stmt Mirror (node_mirror scene) (Stmt-F.If condition first second)

-- whether control rests in an `if`, from whether it does in its sides
pub inside_choice : (scene : Scene) (s : Stmt) (condition : Expr) (first second one two : Stmt) (b : PlaceBits) (id x y : Know)
    → s ≡ If condition first second → one ≡ first → two ≡ second
    → id ≡ either x y → x ≡ (mirror_of scene one).inside b → y ≡ (mirror_of scene two).inside b → id ≡ (mirror_of scene s).inside b
inside_choice scene s condition first second one two b id x y is one_is two_is so x_is y_is =
    so ∙ ap₂ (λ i j. either i j) (x_is ∙ ap (λ p. (mirror_of scene p).inside b) one_is) (y_is ∙ ap (λ p. (mirror_of scene p).inside b) two_is)
    ∙ sym (ap (λ (m : Mirror). m.inside b) (ap (mirror_of scene) is ∙ mirror-If scene condition first second))

pub if_ok : {A E : Type 0} (r : Result A E) (P Q : A → Type 0) → IfOk r P → ((x : A) → P x → Q x) → IfOk r Q
if_ok (Ok x) P Q p f = f x p
if_ok (Err e) P Q p f = p

pub on_ok : {A E : Type 0} (r : Result A E) {P Q : Type 0} → (P → Q) → OnOk r P → OnOk r Q
on_ok (Ok x) f p = f p
on_ok (Err e) f p = p
