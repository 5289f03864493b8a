use Rattle.qz_lexer.proofs.PieceLemmas.{no_slash_piece, begins_comment}
use Rattle.qz_lexer.proofs.pieces.blank.Goals as goal

pub returns-in_err-after : goal.returns-in_err-after
returns-in_err-after c = rw c.from_residual.ensures (no_slash_piece _ c.requires c.in_err-after.ensures)

pub returns : goal.returns
returns c = begins_comment _ _ c.requires c.in_ok-after.ensures
