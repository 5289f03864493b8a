use Rattle.std.proofs.Common.{sym, ◌∙◌, subst}
use Rattle.qz_lexer.specs.declared.starts.Start.TheVariants.{Space}
use Rattle.qz_lexer.specs.Starts.{StartsWith}
use Rattle.qz_lexer.proofs.PieceLemmas.{begins_space, none_begins_empty}
use Rattle.qz_lexer.proofs.pieces.first_piece.Goals as goal

pub returns-in_err-first : goal.returns-in_err-first
returns-in_err-first c = rw c.from_residual.ensures (none_begins_empty _ c.in_err-first.ensures)

pub returns-in-Space : goal.returns-in-Space
returns-in-Space c =
    begins_space _ _ c.in_ok-first.first
    (subst (StartsWith Space) (sym c.in_ok-first.ensures) (sym c.of.ensures ∙ c.in-Space.is)) c.in_ok-first.ensures
