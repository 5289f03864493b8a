-- Phrases in place of others that are missing.
use Rattle.std.proofs.Common.{◌∷◌, false, ℕ, ◌≤◌, [], refl, arith}
use Rattle.qz_syntax.specs.declared.file_expressions.NameAt.{NameAt}
use Rattle.qz_phrases.specs.declared.words.Mark.{Mark}
use Rattle.qz_phrases.specs.declared.words.Mark.TheVariants as mark
use Rattle.qz_phrases.specs.declared.words.Word.TheVariants as word
use Rattle.qz_phrases.specs.Phrases.{one, name, number}
use Rattle.qz_phrases.specs.Expressions.{an_expr}
use Rattle.qz_phrases.specs.StatementParts.{a_cond, a_target}
use Rattle.qz_phrases.proofs.Combining.{Fill, always, fill_token, fill_then, fill_meaning}
use Rattle.qz_phrases.proofs.Operands.{filled}

abbrev pub mark_fill : (m : Mark) {room : ℕ} → Fill (always (one m)) room
mark_fill m = fill_token (λ at. record { word = word.Mark m; at = at }) 0

abbrev pub name_fill : {room : ℕ} → Fill (always name) room
name_fill = fill_token (λ (n : NameAt). record { word = word.Name n.name; at = n.at }) (record { name = []; at = 0 })

abbrev pub number_fill : {room : ℕ} → Fill (always number) room
number_fill = fill_token (λ (n : ℕ × ℕ). record { word = word.Number n.0; at = n.1 }) (0, 0)

abbrev pub expr_fill : (room : ℕ) → 1 ≤ room → Fill (an_expr 1) room
expr_fill room some = filled 1 room (omega arith) (omega arith) some

abbrev pub cond_fill : (room : ℕ) → 1 ≤ room → Fill a_cond room
cond_fill room some = fill_meaning (λ p. record { at = p.0; expr = p.1.0 }) (fill_then (mark_fill mark.OpenParen) (fill_then (expr_fill room some) (mark_fill mark.CloseParen) (λ words h. refl)) (λ words h. refl))

abbrev pub target_fill : {room : ℕ} → Fill (always a_target) room
target_fill = record { more = record { word = word.Name []; at = 0 } ∷ []; phrase = record { next = false; name = record { name = []; at = 0 } }; stands = λ levels low words h. (record { name = []; at = 0 }, refl, refl) }
