use Rattle.std.proofs.Common.{◌∷◌, sym, ap, ◌∙◌, subst}
use Rattle.std.specs.Str.{chars}
use Rattle.qz_lexer.proofs.PieceLemmas.{begins_single, begins_double, no_sign_piece, IsAlone}
use Rattle.qz_lexer.proofs.pieces.sign.Goals as goal
use Rattle.qz_lexer.proofs.pieces.sign.Goals.{in_default-via-in-Some+else-is_double_sign, in_default-via-in_default}

pub returns-in-Some : goal.returns-in-Some
returns-in-Some c =
    begins_double _ c.requires c.in_ok-first.first c.in-Some.second _
    (c.in_ok-first.ensures ∙ ap (λ l. c.in_ok-first.first ∷ l) c.in-Some.ensures) (sym c.is_double_sign.ensures ∙ c.if-is_double_sign.true)

pub returns-in_default : goal.returns-in_default
returns-in_default c =
    let alone : IsAlone c.in_ok-first.first (chars c.in_ok-first.after_first.now) =
    elim c.in_default.branch [
      | in_default-via-in-Some+else-is_double_sign w ↦ subst (IsAlone c.in_ok-first.first) (sym w.in-Some.ensures) (sym w.is_double_sign.ensures ∙ w.if-is_double_sign.false)
      | in_default-via-in_default w ↦ subst (IsAlone c.in_ok-first.first) (sym w.in_default.ensures) tt
    ] in
    begins_single _ c.requires c.in_ok-first.first _ c.in_ok-first.ensures (sym c.is_single_sign.ensures ∙ c.if-is_single_sign.true) alone

pub returns-in_default-2 : goal.returns-in_default-2
returns-in_default-2 c =
    no_sign_piece _ c.requires c.in_ok-first.first _ c.in_ok-first.ensures (sym c.is_single_sign.ensures ∙ c.if-is_single_sign.false)
