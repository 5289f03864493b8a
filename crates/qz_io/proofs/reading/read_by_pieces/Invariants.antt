-- What was read is at most the budget, and at least a byte in each turn.
use Rattle.std.proofs.Common.{◌≤◌, vec_len, length, ◌≡◌}
use Rattle.std.specs.Io.KnownBytes.{Consumes}
use Rattle.qz_io.proofs.reading.read_by_pieces.Given as goal

abbrev pub invariant-loop-turn : goal.invariant-loop-turn
invariant-loop-turn g l =
    record {
      within : vec_len l.content ≤ l.max;
      one_each : l._turn ≤ vec_len l.content;
      consumed : Consumes (g.R.Read.remaining l.initial.reader) (g.R.Read.remaining l.reader) l.content.items;
      room : length l.piece ≡ length l.initial.piece;
    }
