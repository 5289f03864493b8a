use Rattle.std.proofs.Common.{◌≡◌, ◌+◌, drop, true, arith, rules}
use Rattle.std.proofs.lemmas.Grind.{common_steps}
use Rattle.std.proofs.lemmas.Slice.Eq.{bytes_eq-Decides}
use Rattle.std.specs.Str.{bytes_eq}
use Rattle.qz_first.specs.Reading.{texts, upcoming}
use Rattle.qz_first.proofs.ReadingLemmas.{plain_chars, no_text}
use Rattle.qz_first.proofs.reader.Cursor.accept.Goals as goal

pub returns-then-ne-clause-none : goal.returns-then-ne-clause-none
returns-then-ne-clause-none c =
    no_text c.args.text.now c.in-Some.next.now (upcoming c.args.self.now) (texts (drop (c.args.self.now.read + 1) c.args.self.now.tokens.now)) (search rules) c.requires (grind (arith, common_steps)) (c.in-Some.ensures.some)

pub returns-clause-read : goal.returns-clause-read
returns-clause-read c =
    let plain = plain_chars c.args.text.now c.requires in
    let e = c.in-Some.ensures.some in
    let same : bytes_eq c.in-Some.next.now c.args.text.now ≡ true = grind (arith, common_steps) in
    let next : c.in-Some.next.now ≡ c.args.text.now = (bytes_eq-Decides c.in-Some.next.now c.args.text.now).0 same in
    let f = rw (next, plain) at e in f
