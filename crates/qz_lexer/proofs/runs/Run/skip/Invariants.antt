use Rattle.std.proofs.Common.{◌≡◌, ℕ, ◌+◌, ◌≤◌, List, length}
use denote.Text.{Utf8}
use denote.Shadow.{shadow}
use Rattle.std.specs.Str.{chars}
use Rattle.std.specs.Str.Iter.{chars_rest}
use Rattle.qz_lexer.specs.Runs.{Skips, accepts}
use Rattle.qz_lexer.proofs.runs.Run.skip.Given as goal

-- The run that begins what is left goes on with the characters counted so far.
abbrev pub invariant-loop-c : goal.invariant-loop-c
invariant-loop-c l = record {
  can_next : (goal.iterator-loop-c).can_next l.cursor;
  is_finite : (goal.iterator-loop-c).is_finite l.cursor;
  utf8 : shadow (Utf8 l.rest);
  same : chars_rest l.cursor ≡ l.rest;
  bound : l.count + length l.rest ≤ length l.text;
  goes_on : (n : ℕ) (after : List ℕ) → Skips (accepts l.self) (chars l.rest) n after → Skips (accepts l.self) (chars l.text) (l.count + n) after;
}
