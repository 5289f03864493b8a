-- Phrases of statements in place of others that are missing.
use Rattle.std.proofs.Common.{◌≡◌, ℕ, zero, suc, ◌≤◌, Bool, true, false, IsTrue, IsFalse, List, [], ◌∷◌, Option, None, sym, refl, subst, arith}
use Rattle.qz_syntax.specs.declared.file_expressions.NameAt.{NameAt}
use Rattle.qz_syntax.specs.declared.file_statements.FileStmt.TheVariants as stmt
use Rattle.qz_syntax.specs.declared.file_statements.FileStmt.{FileStmt}
use Rattle.qz_phrases.specs.declared.words.Spot.{Spot}
use Rattle.qz_phrases.specs.declared.words.Sort.{Sort}
use Rattle.qz_phrases.specs.declared.words.Sort.TheVariants as sort
use Rattle.qz_phrases.specs.declared.words.Mark.{Mark}
use Rattle.qz_phrases.specs.declared.words.Mark.TheVariants as mark
use Rattle.qz_phrases.specs.declared.words.Word.TheVariants as word
use Rattle.qz_phrases.specs.Phrases.{one, several}
use Rattle.qz_phrases.specs.StatementParts.{a_value, awaited, next_arg, emitted}
use Rattle.qz_phrases.proofs.Combining.{Fill, always, fill_then, fill_meaning}
use Rattle.qz_phrases.proofs.Fills.{mark_fill, expr_fill, cond_fill}
use Rattle.qz_phrases.specs.Words.{first, closes}
use Rattle.qz_phrases.specs.Declarations.{declares}
use Rattle.qz_phrases.proofs.Lists.{row_kind}
use Rattle.qz_reader.specs.declared.starts.Preemption.TheVariants as preemption
use Rattle.qz_reader.specs.declared.starts.ElseStart.TheVariants as other
use Rattle.qz_reader.specs.Starts.{else_start}
use Rattle.qz_reader.specs.Statements.{bare, closing, resting, arguments, called, after_name, preempted, a_preemption, after_weak, after_immediate, else_row, an_else, list_end, a_list, no_list, lists, decls, a_stmt}

abbrev pub semicolon : {room : ℕ} → Fill (always (one mark.Semicolon)) room
semicolon = mark_fill mark.Semicolon

abbrev pub bare_fill : (m : Mark) {room : ℕ} → Fill (always (bare m)) room
bare_fill m = fill_meaning (λ p. p.0) (fill_then (mark_fill m) semicolon (λ words h. refl))

abbrev pub value_fill : (room : ℕ) → 1 ≤ room → Fill a_value room
value_fill room some = fill_meaning (λ p. (p.0, p.1.0)) (fill_then (mark_fill mark.Equals) (fill_then (expr_fill room some) semicolon (λ words h. refl)) (λ words h. refl))

abbrev pub await_fill : (label : Option NameAt) (immediate : Bool) (room : ℕ) → 1 ≤ room → Fill (awaited label immediate) room
await_fill label immediate room some = fill_meaning (λ p. stmt.Await label immediate p.1.0) (fill_then (mark_fill mark.Await) (fill_then (cond_fill room some) semicolon (λ words h. refl)) (λ words h. refl))

abbrev pub emitted_fill : {room : ℕ} → Fill (always emitted) room
emitted_fill = record { more = record { word = word.Name []; at = 0 } ∷ []; phrase = record { next = false; name = record { name = []; at = 0 } }; stands = λ levels low words h. (record { name = []; at = 0 }, refl, refl) }

abbrev pub args_fill : {room : ℕ} → Fill arguments room
args_fill = record { more = record { word = word.Mark mark.CloseParen; at = 0 } ∷ []; phrase = []; stands = λ levels low words h. (0, refl, refl) }

abbrev pub called_fill : {room : ℕ} → Fill called room
called_fill = fill_meaning (λ p. p.1.0) (fill_then (mark_fill mark.OpenParen) (fill_then args_fill semicolon (λ words h. refl)) (λ words h. refl))

abbrev pub resting_fill : (label : Option NameAt) {room : ℕ} → Fill (resting label) room
resting_fill label = record {
  more = record { word = word.Mark mark.Pause; at = 0 } ∷ record { word = word.Mark mark.Semicolon; at = 0 } ∷ [];
  phrase = stmt.Pause label;
  stands = λ levels low words h. (0, refl, ((0, 0), refl, (record { word = word.Mark mark.Semicolon; at = 0 } ∷ words, refl, refl)));
}

abbrev pub closing_fill : (m : Mark) (room : ℕ) → 1 ≤ room → Fill (closing m) room
closing_fill m room some = fill_meaning (λ p. p.1.0) (fill_then (mark_fill m) (fill_then (cond_fill room some) semicolon (λ words h. refl)) (λ words h. refl))

abbrev pub name_rest_fill : (n : NameAt) {room : ℕ} → Fill (after_name n) room
name_rest_fill n = record {
  more = record { word = word.Mark mark.OpenParen; at = 0 } ∷ record { word = word.Mark mark.CloseParen; at = 0 } ∷ record { word = word.Mark mark.Semicolon; at = 0 } ∷ [];
  phrase = stmt.Call n [];
  stands = λ levels low words h. ([], refl, (called_fill {room = 0}).stands levels (omega arith) words h);
}

-- a statement: `nothing;`
pub stmt_stands : (levels : ℕ) → 1 ≤ levels → (words : List Spot) → IsTrue (closes (first words)) → a_stmt levels stmt.Nothing (record { word = word.Mark mark.Nothing; at = 0 } ∷ record { word = word.Mark mark.Semicolon; at = 0 } ∷ words) words
stmt_stands zero some words h = absurd (omega (arith, some))
stmt_stands (suc levels) some words h = (0, refl, ((0, 0), refl, (record { word = word.Mark mark.Semicolon; at = 0 } ∷ words, refl, refl)))

abbrev pub stmt_fill : (room : ℕ) → 1 ≤ room → Fill a_stmt room
stmt_fill room some = record { more = record { word = word.Mark mark.Nothing; at = 0 } ∷ record { word = word.Mark mark.Semicolon; at = 0 } ∷ []; phrase = stmt.Nothing; stands = λ levels low words h. stmt_stands levels (omega (arith, some, low)) words h }

pub no_else : (w : Sort) → IsTrue (closes w) → else_start w ≡ other.None
no_else (sort.Mark mark.Else) h = absurd (cc (h))
no_else w h = refl

abbrev pub else_fill : {room : ℕ} → Fill (λ levels. an_else (a_stmt levels)) room
else_fill = record { more = []; phrase = None; stands = λ levels low words h. subst (λ t. else_row (a_stmt levels) t None words words) (sym (no_else (first words) h)) (refl, refl) }

pub no_decl : (w : Sort) → IsTrue (closes w) → IsFalse (declares w)
no_decl (sort.Mark mark.Event) h = absurd (cc (h))
no_decl (sort.Mark mark.Mem) h = absurd (cc (h))
no_decl (sort.Mark mark.Bool) h = absurd (cc (h))
no_decl (sort.Mark mark.Bv) h = absurd (cc (h))
no_decl w h = search

abbrev pub decls_fill : {room : ℕ} → Fill (always decls) room
decls_fill = record { more = []; phrase = []; stands = λ levels low words h. (([], tt), refl, (refl, no_decl (first words) h)) }

abbrev pub brace : Spot
brace = record { word = word.Mark mark.CloseBrace; at = 0 }

abbrev pub list_end_fill : {room : ℕ} → Fill (always list_end) room
list_end_fill = record { more = brace ∷ []; phrase = false; stands = λ levels low words h. (0, refl, refl) }

-- the rest of the lists of a block
abbrev pub lists_rest : {room : ℕ} (s : Bool) → Fill (row_kind (λ (s : Bool) (levels : ℕ). a_list (a_stmt levels) s) (λ (l : List FileStmt × Bool). l.1) (λ (s : Bool) (levels : ℕ). no_list s) s) room
lists_rest true = record { more = brace ∷ []; phrase = (([], false) ∷ [], tt); stands = λ levels low words h. (words, (0, refl, refl), (refl, refl)) }
lists_rest false = record { more = []; phrase = ([], tt); stands = λ levels low words h. (refl, refl) }

abbrev pub lists_fill : {room : ℕ} → Fill (λ levels. lists (a_stmt levels)) room
lists_fill = record { more = brace ∷ []; phrase = [] ∷ []; stands = λ levels low words h. ((([], false) ∷ [], tt), refl, (words, (0, refl, refl), (refl, refl))) }

abbrev pub preemption_fill : (weak immediate : Bool) (room : ℕ) → 1 ≤ room → Fill (λ levels. a_preemption (a_stmt levels) weak immediate levels) room
preemption_fill weak immediate room some =
    let rest = fill_meaning (λ q. preempted preemption.Abort weak immediate q.1.0 q.1.1) (fill_then (mark_fill mark.Abort) (fill_then (stmt_fill room some) (closing_fill mark.When room some) (λ words h. refl)) (λ words h. refl)) in
    record { more = rest.more; phrase = rest.phrase; stands = rest.stands }

abbrev pub after_weak_fill : (room : ℕ) → 1 ≤ room → Fill (λ levels. after_weak (a_stmt levels) levels) room
after_weak_fill room some = let rest = preemption_fill true false room some in record { more = rest.more; phrase = rest.phrase; stands = rest.stands }

abbrev pub after_immediate_fill : (room : ℕ) → 1 ≤ room → Fill (λ levels. after_immediate (a_stmt levels) levels) room
after_immediate_fill room some = let rest = await_fill None true room some in record { more = rest.more; phrase = rest.phrase; stands = rest.stands }

abbrev pub args_end_fill : {room : ℕ} → Fill (λ levels. several (next_arg levels) (one mark.CloseParen)) room
args_end_fill = record { more = record { word = word.Mark mark.CloseParen; at = 0 } ∷ []; phrase = ([], 0); stands = λ levels low words h. refl }
