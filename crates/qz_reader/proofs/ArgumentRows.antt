-- The arguments of a call, by the commas between them.
use Rattle.std.proofs.Common.{◌≡◌, ℕ, true, false, List, drop, sym, ap, ◌∙◌}
use Rattle.qz_syntax.specs.declared.file_expressions.FileExpr.{FileExpr}
use Rattle.qz_phrases.specs.declared.words.Spot.{Spot}
use Rattle.qz_phrases.specs.declared.words.Mark.TheVariants as mark
use Rattle.qz_phrases.specs.declared.cursor.Cursor.{Cursor}
use Rattle.qz_phrases.specs.Words.{first, is_comma}
use Rattle.qz_phrases.specs.Phrases.{one}
use Rattle.qz_phrases.specs.StatementParts.{next_arg}
use Rattle.qz_phrases.specs.Reading.{upcoming, Agrees, Moves}
use Rattle.qz_phrases.proofs.Ahead.{agrees_before, agrees_here}

pub comma_comes : (now after : Cursor) → Moves now after → is_comma (first (upcoming now)) ≡ true → (others : List Spot) → Agrees after others → (levels : ℕ) (at : ℕ) (rest : List Spot) → one mark.CloseParen at (drop now.read others) rest → ⊥
comma_comes now after moves is others agrees levels at rest h = let e = ap is_comma (ap first (sym h) ∙ agrees_here now others (agrees_before now after others moves agrees)) ∙ is in cc (e)

pub no_comma_comes : (now after : Cursor) → Moves now after → is_comma (first (upcoming now)) ≡ false → (others : List Spot) → Agrees after others → (levels : ℕ) (x : FileExpr) (rest : List Spot) → next_arg levels x (drop now.read others) rest → ⊥
no_comma_comes now after moves is others agrees levels x rest h = let e = ap is_comma (ap first (sym h.2.1) ∙ agrees_here now others (agrees_before now after others moves agrees)) ∙ is in cc (e)

pub no_comma_before : (now after : Cursor) → Moves now after → is_comma (first (upcoming now)) ≡ false → (others : List Spot) → Agrees after others → (at : ℕ) (rest : List Spot) → one mark.Comma at (drop now.read others) rest → ⊥
no_comma_before now after moves is others agrees at rest h = let e = ap is_comma (ap first (sym h) ∙ agrees_here now others (agrees_before now after others moves agrees)) ∙ is in cc (e)
