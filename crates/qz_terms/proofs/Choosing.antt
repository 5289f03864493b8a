-- The mirror of an `if`, as an equation to rewrite by.
use Rattle.std.proofs.Common.{◌≡◌, sym, ap, ap₂, ◌∙◌}
use Rattle.qz_syntax.specs.declared.expressions.Expr.{Expr}
use Rattle.qz_syntax.specs.declared.statements.Stmt.{Stmt}
use Rattle.qz_syntax.specs.declared.statements.Stmt.TheOpen.{Stmt-F}
use Rattle.qz_syntax.specs.declared.statements.Stmt.TheFolds.{fold-roll-Stmt}
use Rattle.qz_syntax.specs.declared.statements.Stmt.TheVariants.{If, rolls-If}
use Rattle.qz_meaning.specs.Scenes.{Scene}
use Rattle.qz_control.specs.Mirrors.{Mirror}
use Rattle.qz_control.specs.Mirror.{node_mirror, mirror_of}

-- of a statement that is an `if` with these sides
pub mirror_if : (scene : Scene) (s : Stmt) (condition : Expr) (first second one two : Stmt) → s ≡ If condition first second → one ≡ first → two ≡ second
    → mirror_of scene s ≡ node_mirror scene (Stmt-F.If condition (mirror_of scene one) (mirror_of scene two))
mirror_if scene s condition first second one two is one_is two_is =
    ap (mirror_of scene) (is ∙ sym (rolls-If condition first second)) ∙ fold-roll-Stmt Mirror (node_mirror scene) (Stmt-F.If condition first second)
    ∙ ap₂ (λ x y. node_mirror scene (Stmt-F.If condition (mirror_of scene x) (mirror_of scene y))) (sym one_is) (sym two_is)
