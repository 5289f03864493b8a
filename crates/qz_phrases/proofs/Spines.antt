-- An expression as an operand and what goes on it, one after the other.
use Rattle.std.proofs.Common.{◌≡◌, ℕ, zero, suc, ◌≤◌, inl, inr, List, [], ◌∷◌, ◌++◌, IsTrue, sym, refl, ap, subst, arith}
use Rattle.qz_syntax.specs.declared.file_expressions.FileExpr.{FileExpr}
use Rattle.qz_phrases.specs.declared.words.Spot.{Spot}
use Rattle.qz_phrases.specs.declared.words.Sort.{Sort}
use Rattle.qz_phrases.specs.declared.words.Sort.TheVariants as sort
use Rattle.qz_phrases.specs.declared.words.Mark.TheVariants as mark
use Rattle.qz_phrases.specs.declared.words.HeadStart.{HeadStart}
use Rattle.qz_phrases.specs.declared.words.HeadStart.TheVariants as head
use Rattle.qz_phrases.specs.declared.words.TailStart.{TailStart}
use Rattle.qz_phrases.specs.declared.words.TailStart.TheVariants as tail
use Rattle.qz_values.specs.declared.Op2.TheVariants as op2
use Rattle.qz_phrases.specs.declared.expressions.Tail.{Tail}
use Rattle.qz_phrases.specs.Words.{first, closes, head_start, tail_start, head_strength, tail_strength, tail_left, strength}
use Rattle.qz_phrases.specs.Expressions.{operand, applied, ended, is_expr, a_tail}

abbrev pub Spine : ℕ → ℕ → ℕ → ℕ → FileExpr → List Tail → FileExpr → List Spot → List Spot → Type 0
Spine base top least power left [] e words rest = (base ≡ top) × (e ≡ left) × (words ≡ rest) × (least ≤ power)
Spine base top least power left (t ∷ ts) e words rest = (between : List Spot) × (tail_left (tail_start (first words)) ≤ power) × a_tail base t words between
    × Spine (suc base) top least (strength words) (applied left t) ts e between rest

pub record Split (levels least : ℕ) (e : FileExpr) (words rest : List Spot) : Type 0 where
  pub base : ℕ
  pub left : FileExpr
  pub between : List Spot
  pub tails : List Tail
  pub head : operand (ended (is_expr base)) (head_start (first words)) left words between
  pub spine : Spine (suc base) levels least (head_strength (head_start (first words))) left tails e between rest

longer : (base top low least power : ℕ) (left e : FileExpr) (ts : List Tail) (t : Tail) (words between rest : List Spot) → Spine base top low power left ts e words between
    → low ≡ tail_left (tail_start (first between)) → least ≤ strength between → a_tail top t between rest → Spine base (suc top) least power left (ts ++ t ∷ []) (applied e t) words rest
longer base top low least power left e [] t words between rest h is enough here = (
  rest,
  subst (λ ws. tail_left (tail_start (first ws)) ≤ power) (sym h.2) (subst (λ n. n ≤ power) is h.3),
  subst (λ n. a_tail n t words rest) (sym h.0) (subst (λ ws. a_tail top t ws rest) (sym h.2) here),
  (ap suc h.0, ap (λ e. applied e t) h.1, refl, subst (λ ws. least ≤ strength ws) (sym h.2) enough),
)
longer base top low least power left e (u ∷ ts) t words between rest h is enough here =
    (h.0, h.1, h.2, longer (suc base) top low least (strength words) (applied left u) e ts t h.0 between rest h.3 is enough here)

pub split : (levels least : ℕ) (e : FileExpr) (words rest : List Spot) → is_expr levels least e words rest → Split levels least e words rest
split zero least e words rest h = absurd h
split (suc levels) least e words rest (inl h) = record { base = levels; left = e; between = rest; tails = []; head = h.0; spine = (refl, refl, refl, h.1) }
split (suc levels) least e words rest (inr h) =
    let s = split levels (tail_left (tail_start (first h.2))) h.0 words h.2 h.3 in
    record {
      base = s.base;
      left = s.left;
      between = s.between;
      tails = s.tails ++ h.1 ∷ [];
      head = s.head;
      spine = subst (λ e. Spine (suc s.base) (suc levels) least (head_strength (head_start (first words))) s.left (s.tails ++ h.1 ∷ []) e s.between rest) (sym h.5)
          (longer (suc s.base) levels (tail_left (tail_start (first h.2))) least (head_strength (head_start (first words))) s.left h.0 s.tails h.1 s.between h.2 rest s.spine refl h.4 h.6);
    }

left_above : (t : TailStart) → tail_strength t ≤ tail_left t
left_above (tail.Binary op2.Imp) = omega arith
left_above (tail.Binary op2.Or) = omega arith
left_above (tail.Binary op2.Xor) = omega arith
left_above (tail.Binary op2.And) = omega arith
left_above (tail.Binary op2.Add) = omega arith
left_above (tail.Binary op2.Sub) = omega arith
left_above (tail.Binary o) = omega arith
left_above tail.Concat = omega arith
left_above tail.Choose = omega arith
left_above tail.Select = omega arith
left_above tail.None = omega arith

pub descends : (base top least power : ℕ) (left e : FileExpr) (ts : List Tail) (words rest : List Spot) → Spine base top least power left ts e words rest → least ≤ power
descends base top least power left e [] words rest h = h.3
descends base top least power left e (t ∷ ts) words rest h =
    omega (arith, descends (suc base) top least (strength words) (applied left t) e ts h.0 rest h.3, left_above (tail_start (first words)), h.1)

pub rises : (base top least power : ℕ) (left e : FileExpr) (ts : List Tail) (words rest : List Spot) → Spine base top least power left ts e words rest → base ≤ top
rises base top least power left e [] words rest h = omega (arith, h.0)
rises base top least power left e (t ∷ ts) words rest h = omega (arith, rises (suc base) top least (strength words) (applied left t) e ts h.0 rest h.3)

pub head_high : (s : HeadStart) → 9 ≤ head_strength s
head_high (head.Unary op) = omega arith
head_high s = omega arith

-- words that end a phrase go on no expression
pub closes_weak : (w : Sort) → IsTrue (closes w) → tail_strength (tail_start w) ≡ 0
closes_weak (sort.Mark mark.Arrow) h = absurd (cc (h))
closes_weak (sort.Mark mark.Bar) h = absurd (cc (h))
closes_weak (sort.Mark mark.Caret) h = absurd (cc (h))
closes_weak (sort.Mark mark.Ampersand) h = absurd (cc (h))
closes_weak (sort.Mark mark.EqualEqual) h = absurd (cc (h))
closes_weak (sort.Mark mark.NotEqual) h = absurd (cc (h))
closes_weak (sort.Mark mark.Less) h = absurd (cc (h))
closes_weak (sort.Mark mark.LessEqual) h = absurd (cc (h))
closes_weak (sort.Mark mark.Greater) h = absurd (cc (h))
closes_weak (sort.Mark mark.GreaterEqual) h = absurd (cc (h))
closes_weak (sort.Mark mark.Plus) h = absurd (cc (h))
closes_weak (sort.Mark mark.Minus) h = absurd (cc (h))
closes_weak (sort.Mark mark.At) h = absurd (cc (h))
closes_weak (sort.Mark mark.Question) h = absurd (cc (h))
closes_weak (sort.Mark mark.OpenBrace) h = absurd (cc (h))
closes_weak w h = refl
