-- The least number of levels of what was read.
use Rattle.std.proofs.Common.{◌≡◌, ℕ, zero, suc, ◌+◌, ◌≤◌, List, max, drop, subst, ◌∙◌, arith}
use Rattle.qz_phrases.specs.declared.words.Spot.{Spot}
use Rattle.qz_phrases.specs.declared.words.Sort.{Sort}
use Rattle.qz_phrases.specs.declared.cursor.Cursor.{Cursor}
use Rattle.qz_phrases.specs.Words.{first}
use Rattle.qz_phrases.specs.Phrases.{Kind}
use Rattle.qz_phrases.specs.Reading.{upcoming, Agrees, Moves, ReadsIt, ReadsSome}
use Rattle.qz_phrases.proofs.Ahead.{agrees_before, agrees_here}
use Rattle.qz_phrases.proofs.Combining.{then, meaning, chosen, Nests}

-- each phrase that is there has at least so many levels
pub record Least {A : Type 0} (K : Kind A) (height : ℕ) (old new : Cursor) : Type 0 where
  pub least : (others : List Spot) → Agrees new others → (levels : ℕ) (y : A) (rest : List Spot) → K levels y (drop old.read others) rest → height ≤ levels

-- what was read with some levels is read with more
pub raised_it : {A : Type 0} {K : Kind A} {low : ℕ} {s0 s1 : Cursor} {x : A} (high : ℕ) → low ≤ high → ReadsIt K low s0 s1 x → ReadsIt K high s0 s1 x
raised_it {low = low} high up k = record {
  moves = k.moves;
  front = k.front;
  read = k.read;
  stands = λ levels enough words may. k.stands levels (omega (arith, up, enough)) words may;
  only = k.only;
}

pub raised : {A : Type 0} {K : Kind A} {low : ℕ} {s0 s1 : Cursor} {x : A} (high : ℕ) → low ≤ high → ReadsSome K low s0 s1 x → ReadsSome K high s0 s1 x
raised {low = low} high up k = record {
  it = record {
    moves = k.it.moves;
    front = k.it.front;
    read = k.it.read;
    stands = λ levels enough words may. k.it.stands levels (omega (arith, up, enough)) words may;
    only = k.it.only;
  };
  some = k.some;
}

pub least_none : {A : Type 0} {K : Kind A} {s0 s1 : Cursor} → Least K 0 s0 s1
least_none = record { least = λ others agrees levels y rest h. omega arith }

pub least_first : {A B : Type 0} {K : Kind A} (L : Kind B) {height : ℕ} {s0 s1 s2 : Cursor} → Moves s1 s2 → Least K height s0 s1 → Least (then K L) height s0 s2
least_first L {s1 = s1} {s2} moves k = record { least = λ others agrees levels p rest h. k.least others (agrees_before s1 s2 others moves agrees) levels p.0 h.0 h.1 }

pub least_second : {A B : Type 0} {K : Kind A} {L : Kind B} {room height : ℕ} {s0 s1 s2 : Cursor} {x : A} → Moves s1 s2 → ReadsIt K room s0 s1 x → Least L height s1 s2 → Least (then K L) height s0 s2
least_second {L = L} {s1 = s1} {s2} moves k l = record {
  least = λ others agrees levels p rest h.
      let r = k.only others (agrees_before s1 s2 others moves agrees) levels p.0 h.0 h.1 in
      l.least others agrees levels p.1 rest (subst (λ ws. L levels p.1 ws rest) r.1 h.2);
}

pub least_both : {A : Type 0} {K : Kind A} {low high : ℕ} {s0 s1 : Cursor} → Least K low s0 s1 → Least K high s0 s1 → Least K (max low high) s0 s1
least_both a b = record { least = λ others agrees levels y rest h. omega (arith, a.least others agrees levels y rest h, b.least others agrees levels y rest h) }

pub least_meaning : {A B : Type 0} (f : A → B) {K : Kind A} {height : ℕ} {s0 s1 : Cursor} → Least K height s0 s1 → Least (meaning f K) height s0 s1
least_meaning f k = record { least = λ others agrees levels y rest h. k.least others agrees levels h.0 rest h.2 }

pub least_chosen : {A : Type 0} (row : Sort → Kind A) {w : Sort} {height : ℕ} {s0 s1 : Cursor} → first (upcoming s0) ≡ w → Moves s0 s1 → Least (row w) height s0 s1 → Least (chosen row) height s0 s1
least_chosen row {w} {s0 = s0} {s1} here moves k = record {
  least = λ others agrees levels y rest h. k.least others agrees levels y rest
      (subst (λ w. row w levels y (drop s0.read others) rest) (agrees_here s0 others (agrees_before s0 s1 others moves agrees) ∙ here) h);
}

nested : {A : Type 0} (J L : Kind A) (n : Nests J L) (height levels : ℕ) (x : A) (words rest : List Spot) → ((inner : ℕ) → L inner x words rest → height ≤ inner) → J levels x words rest → height + 1 ≤ levels
nested J L n height zero x words rest k h = absurd (n.ground x words rest h)
nested J L n height (suc levels) x words rest k h = omega (arith, k levels (n.down levels x words rest h))

pub least_nest : {A : Type 0} {J L : Kind A} → Nests J L → {height : ℕ} {s0 s1 : Cursor} → Least L height s0 s1 → Least J (height + 1) s0 s1
least_nest {J = J} {L} n {height} {s0} k = record { least = λ others agrees levels y rest h. nested J L n height levels y (drop s0.read others) rest (λ inner h. k.least others agrees inner y rest h) h }

pub least_max : {A : Type 0} {K : Kind A} {n low high : ℕ} {s0 s1 : Cursor} → n ≡ max low high → Least K low s0 s1 → Least K high s0 s1 → Least K n s0 s1
least_max is a b = record { least = λ others agrees levels y rest h. omega (arith, is, a.least others agrees levels y rest h, b.least others agrees levels y rest h) }
