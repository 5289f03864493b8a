-- The forms of what goes on an expression.
use Rattle.std.proofs.Common.{◌≡◌, ℕ, ◌≤◌, List, [], ◌∷◌, ◌++◌, drop, None, true, IsTrue, sym, refl, ap, subst, ◌∙◌, arith}
use Rattle.qz_syntax.specs.declared.file_expressions.FileExpr.TheVariants as expr
use Rattle.qz_values.specs.declared.Op2.{Op2}
use Rattle.qz_values.specs.declared.Op2.TheVariants as op2
use Rattle.qz_phrases.specs.declared.words.Spot.{Spot}
use Rattle.qz_phrases.specs.declared.words.Word.TheVariants as word
use Rattle.qz_phrases.specs.declared.words.Sort.{Sort}
use Rattle.qz_phrases.specs.declared.words.Sort.TheVariants as sort
use Rattle.qz_phrases.specs.declared.words.Mark.{Mark}
use Rattle.qz_phrases.specs.declared.words.Mark.TheVariants as mark
use Rattle.qz_phrases.specs.declared.words.TailStart.{TailStart}
use Rattle.qz_phrases.specs.declared.words.TailStart.TheVariants as tail
use Rattle.qz_phrases.specs.declared.cursor.Cursor.{Cursor}
use Rattle.qz_phrases.specs.declared.cursor.Fault.{Fault}
use Rattle.qz_phrases.specs.declared.cursor.Fault.TheVariants.{Parse}
use Rattle.qz_phrases.specs.declared.expressions.Tail.{Tail}
use Rattle.qz_phrases.specs.declared.expressions.Tail.TheVariants as tailed
use Rattle.qz_phrases.specs.Words.{first, sort_of, closes, tail_start, binary_mark, binary_right, tail_strength, strength}
use Rattle.qz_phrases.specs.Phrases.{Kind}
use Rattle.qz_phrases.specs.Expressions.{tail_of, ended, is_expr, a_tail, after_index, indices}
use Rattle.qz_phrases.specs.Reading.{upcoming, ReadsSome, Begins, Fails}
use Rattle.qz_phrases.specs.Parts.{Sized}
use Rattle.qz_phrases.proofs.Ahead.{agrees_here}
use Rattle.qz_phrases.proofs.Combining.{Fill, always, chosen_reads, chosen_fails, no_phrase}
use Rattle.qz_phrases.proofs.Sizes.{Least, least_chosen}
use Rattle.qz_phrases.proofs.Operands.{spot_mark, true_stands}

abbrev pub tail_kind : TailStart → Kind Tail
tail_kind start = λ levels. tail_of (ended (is_expr levels)) start

abbrev tail_row : Sort → Kind Tail
tail_row w = tail_kind (tail_start w)

pub tail_reads : {s0 s1 : Cursor} {start : TailStart} {room : ℕ} {x : Tail} → start ≡ tail_start (first (upcoming s0)) → ReadsSome (tail_kind start) room s0 s1 x → ReadsSome a_tail room s0 s1 x
tail_reads {s0} {s1} {start} {room} {x} is k = chosen_reads tail_row refl (subst (λ start. ReadsSome (tail_kind start) room s0 s1 x) is k)

pub tail_fails : {s0 s1 : Cursor} {start : TailStart} {room : ℕ} {why : Fault} → start ≡ tail_start (first (upcoming s0)) → Fails (tail_kind start) room s0 s1 why → Fails a_tail room s0 s1 why
tail_fails {s0} {s1} {start} {room} {why} is k = chosen_fails tail_row refl (subst (λ start. Fails (tail_kind start) room s0 s1 why) is k)

pub tail_sized : {s0 s1 : Cursor} {start : TailStart} {room height : ℕ} {x : Tail} → start ≡ tail_start (first (upcoming s0)) → height ≤ room → ReadsSome (tail_kind start) height s0 s1 x → Least (tail_kind start) height s0 s1 → Sized a_tail room height s0 s1 x
tail_sized {s0} {s1} {start} {room} {height} {x} is low k least = record {
  it = tail_reads is k;
  low = low;
  least = (least_chosen tail_row refl k.it.moves (subst (λ start. Least (tail_kind start) height s0 s1) is least)).least;
}

pub no_tail : (s : Cursor) (start : TailStart) (room : ℕ) → start ≡ tail_start (first (upcoming s)) → start ≡ tail.None → Fails a_tail room s s Parse
no_tail s start room is none = no_phrase (λ others agrees levels y rest h. subst (λ w. tail_kind w levels y (drop s.read others) rest) (ap tail_start (agrees_here s others agrees) ∙ sym is ∙ none) h)

-- such a word begins what goes on an expression
pub tail_begun_by : (spot : Spot) (w : Sort) → sort_of spot.word ≡ w → 1 ≤ tail_strength (tail_start w) → Begins a_tail 1 (spot ∷ [])
tail_begun_by spot w is some = by_start w is some
  where
    truth : List Spot → List Spot
    truth words = record { word = word.Mark mark.True; at = 0 } ∷ words

    begun : (t : Tail) (more : List Spot) (s : Spot) → spot ≡ s → ((levels : ℕ) → 1 ≤ levels → (words : List Spot) → IsTrue (closes (first words)) → a_tail levels t (s ∷ (more ++ words)) words) → Begins a_tail 1 (spot ∷ [])
    begun t more s same stands = record { more = more; phrase = t; stands = λ levels low words h. subst (λ s. a_tail levels t (s ∷ (more ++ words)) words) (sym same) (stands levels low words h) }

    binary : (op : Op2) (m : Mark) → binary_mark op ≡ m → 1 ≤ binary_right op → binary_right op ≤ 10 → tail_start (sort.Mark m) ≡ tail.Binary op → sort_of spot.word ≡ sort.Mark m → Begins a_tail 1 (spot ∷ [])
    binary op m mark_is pos ten start is = begun (tailed.Binary op spot.at (expr.Bool true 0)) (record { word = word.Mark mark.True; at = 0 } ∷ []) (record { word = word.Mark m; at = spot.at }) (spot_mark spot m is)
        (λ levels low words h. subst (λ start. tail_kind start levels (tailed.Binary op spot.at (expr.Bool true 0)) (record { word = word.Mark m; at = spot.at } ∷ record { word = word.Mark mark.True; at = 0 } ∷ words) words) (sym start)
        ((spot.at, expr.Bool true 0), refl, (record { word = word.Mark mark.True; at = 0 } ∷ words, ap (λ m. record { word = word.Mark m; at = spot.at } ∷ record { word = word.Mark mark.True; at = 0 } ∷ words) (sym mark_is), true_stands (binary_right op) pos ten levels low words h)))

    by_start : (w : Sort) → sort_of spot.word ≡ w → 1 ≤ tail_strength (tail_start w) → Begins a_tail 1 (spot ∷ [])
    by_start (sort.Mark mark.Arrow) is some = binary op2.Imp mark.Arrow refl (omega arith) (omega arith) refl is
    by_start (sort.Mark mark.Bar) is some = binary op2.Or mark.Bar refl (omega arith) (omega arith) refl is
    by_start (sort.Mark mark.Caret) is some = binary op2.Xor mark.Caret refl (omega arith) (omega arith) refl is
    by_start (sort.Mark mark.Ampersand) is some = binary op2.And mark.Ampersand refl (omega arith) (omega arith) refl is
    by_start (sort.Mark mark.EqualEqual) is some = binary op2.Eq mark.EqualEqual refl (omega arith) (omega arith) refl is
    by_start (sort.Mark mark.NotEqual) is some = binary op2.Ne mark.NotEqual refl (omega arith) (omega arith) refl is
    by_start (sort.Mark mark.Less) is some = binary op2.Lt mark.Less refl (omega arith) (omega arith) refl is
    by_start (sort.Mark mark.LessEqual) is some = binary op2.Le mark.LessEqual refl (omega arith) (omega arith) refl is
    by_start (sort.Mark mark.Greater) is some = binary op2.Gt mark.Greater refl (omega arith) (omega arith) refl is
    by_start (sort.Mark mark.GreaterEqual) is some = binary op2.Ge mark.GreaterEqual refl (omega arith) (omega arith) refl is
    by_start (sort.Mark mark.Plus) is some = binary op2.Add mark.Plus refl (omega arith) (omega arith) refl is
    by_start (sort.Mark mark.Minus) is some = binary op2.Sub mark.Minus refl (omega arith) (omega arith) refl is
    by_start (sort.Mark mark.At) is some = begun (tailed.Concat spot.at (expr.Bool true 0)) (record { word = word.Mark mark.True; at = 0 } ∷ []) _ (spot_mark spot mark.At is)
        (λ levels low words h. ((spot.at, expr.Bool true 0), refl, (record { word = word.Mark mark.True; at = 0 } ∷ words, refl, true_stands 9 (omega arith) (omega arith) levels low words h)))
    by_start (sort.Mark mark.Question) is some = begun (tailed.Choose spot.at (expr.Bool true 0) (expr.Bool true 0)) (record { word = word.Mark mark.True; at = 0 } ∷ record { word = word.Mark mark.Colon; at = 0 } ∷ record { word = word.Mark mark.True; at = 0 } ∷ []) _ (spot_mark spot mark.Question is)
        (λ levels low words h. (
          (spot.at, (expr.Bool true 0, (0, expr.Bool true 0))),
          refl,
          (
            record { word = word.Mark mark.True; at = 0 } ∷ record { word = word.Mark mark.Colon; at = 0 } ∷ record { word = word.Mark mark.True; at = 0 } ∷ words,
            refl,
            (
              record { word = word.Mark mark.Colon; at = 0 } ∷ record { word = word.Mark mark.True; at = 0 } ∷ words,
              true_stands 1 (omega arith) (omega arith) levels low (record { word = word.Mark mark.Colon; at = 0 } ∷ record { word = word.Mark mark.True; at = 0 } ∷ words) refl,
              (record { word = word.Mark mark.True; at = 0 } ∷ words, refl, true_stands 1 (omega arith) (omega arith) levels low words h),
            ),
          ),
        ))
    by_start (sort.Mark mark.OpenBrace) is some = begun (tailed.Select spot.at 0 None) (record { word = word.Number 0; at = 0 } ∷ record { word = word.Mark mark.CloseBrace; at = 0 } ∷ []) _ (spot_mark spot mark.OpenBrace is)
        (λ levels low words h. (
          (spot.at, (0, None)),
          refl,
          (
            record { word = word.Number 0; at = 0 } ∷ record { word = word.Mark mark.CloseBrace; at = 0 } ∷ words,
            refl,
            (((0, 0), None), refl, (record { word = word.Mark mark.CloseBrace; at = 0 } ∷ words, refl, (0, refl, refl))),
          ),
        ))
    by_start w is some = absurd (omega (arith, some))

-- the end of a selection, in place of one that is missing
abbrev pub filled_end : {room : ℕ} → Fill (always after_index) room
filled_end = record { more = record { word = word.Mark mark.CloseBrace; at = 0 } ∷ []; phrase = None; stands = λ levels low words h. (0, refl, refl) }

abbrev pub filled_indices : {room : ℕ} → Fill (always indices) room
filled_indices = record {
  more = record { word = word.Number 0; at = 0 } ∷ record { word = word.Mark mark.CloseBrace; at = 0 } ∷ [];
  phrase = (0, None);
  stands = λ levels low words h. (((0, 0), None), refl, (record { word = word.Mark mark.CloseBrace; at = 0 } ∷ words, refl, (0, refl, refl)));
}

-- a word that goes on an expression is no end
pub tail_next : (now : Cursor) → 1 ≤ strength (upcoming now) → (spot : Spot) × (rest : List Spot) × (upcoming now ≡ spot ∷ rest) × Begins a_tail 1 (spot ∷ [])
tail_next now some = by_words (upcoming now) refl
  where
    by_words : (ws : List Spot) → upcoming now ≡ ws → (spot : Spot) × (rest : List Spot) × (upcoming now ≡ spot ∷ rest) × Begins a_tail 1 (spot ∷ [])
    by_words [] is = absurd (omega (arith, some, ap strength is))
    by_words (s ∷ ws) is = (s, ws, is, tail_begun_by s (sort_of s.word) refl (omega (arith, some, ap strength is)))

pub right_range : (op : Op2) → (1 ≤ binary_right op) × (binary_right op ≤ 9)
right_range op2.Imp = (omega arith, omega arith)
right_range op2.Or = (omega arith, omega arith)
right_range op2.Xor = (omega arith, omega arith)
right_range op2.And = (omega arith, omega arith)
right_range op2.Add = (omega arith, omega arith)
right_range op2.Sub = (omega arith, omega arith)
right_range op = (omega arith, omega arith)
