use Rattle.std.proofs.Common.{arith, ◌≡◌, ℕ, ◌<◌, ◌^◌, List, Some, None}
use Rattle.std.specs.Fmt.{decimal}
use Rattle.qz_vread.specs.Reading.{Reads}
use Rattle.qz_vread.proofs.Ranges.{no_high, no_range_end}
use Rattle.qz_vread.proofs.types.vector.Goals as goal

none_small : (bytes : List ℕ) → Reads (λ n. n < 2 ^ 64) decimal bytes None → (n : ℕ) → n < 64 → bytes ≡ decimal n → ⊥
none_small bytes read n small e = let none : None ≡ Some n = read.complete n (omega arith) e in cc

too_high : (bytes : List ℕ) (high : ℕ) → Reads (λ n. n < 2 ^ 64) decimal bytes (Some high) → 63 < high → (n : ℕ) → n < 64 → bytes ≡ decimal n → ⊥
too_high bytes high read above n small e = let some : Some high ≡ Some n = read.complete n (omega arith) e in let same : high ≡ n = cc in omega arith

pub returns-in_err-high-2 : goal.returns-in_err-high-2
returns-in_err-high-2 c =
    rw c.from_residual-in_err-high-2.ensures
    (no_high c.args.bytes.now c.in_ok-high.high.now c.in_ok-high.rest.now c.in_ok-high.ensures (none_small c.in_ok-high.high.now c.in_err-high-2.ensures))

pub returns-then-high-gt63 : goal.returns-then-high-gt63
returns-then-high-gt63 c =
    no_high c.args.bytes.now c.in_ok-high.high.now c.in_ok-high.rest.now c.in_ok-high.ensures
    (too_high c.in_ok-high.high.now c.in_ok-high-2.high c.in_ok-high-2.ensures c.if-high-gt63.true)

pub returns-in_err-strip : goal.returns-in_err-strip
returns-in_err-strip c =
    rw c.from_residual-in_err-strip.ensures (no_range_end c.args.bytes.now c.in_ok-high.high.now c.in_ok-high.rest.now c.in_ok-high.ensures c.in_err-strip.ensures)
